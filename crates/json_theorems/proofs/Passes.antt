-- What passes line by line passes when collected: of a set that reading JSON wrote, compiling refuses nothing but its filter's length. Assumes nothing.
use mathlib.Core.Path.{◌≡◌, refl, ap, sym, ◌∙◌}
use mathlib.Core.Bool.{Bool, true, false, cond, not}
use mathlib.Core.List.{List, [], ◌∷◌}
use Prim.Native.Nat.{ℕ, ◌*◌}
use lib.Dec.{eqb, leb, ltb}
use borrow.Author.Tests.{eq-eqb}
use Rattle.definitions.specs.RuleSet.{Architecture, Rule, Entry, RuleSet}
use Rattle.definitions.specs.Format.{Each, encode, InRange}
use Rattle.definitions.specs.Answer.{all, has_conditions, index_taken, fits_width, rules_filled, indices_taken, widths_fit, too_many}
use Rattle.definitions.specs.JsonForm.{Filter}
use Rattle.definitions.specs.FromJson.{by_length}
use Rattle.definitions.specs.Collected.{together, in_turn, insert, collected, set_with, taken}
use Rattle.theorems.specs.Outputs.{Output, size_in, answer_in}
use Rattle.theorems.proofs.Tests.{each_of}
use Rattle.theorems.proofs.RoundTrip.{written_read}
use Rattle.theorems.proofs.Faultless.{faultless}
use Rattle.json_theorems.proofs.Tests.{both_true, false_not_true}
use Rattle.json_theorems.proofs.Means.{collected_ascending}

-- ---- what holds of entries, collected

-- a way to put rules together that adds none
abbrev pub Adds : (List Rule → List Rule → List Rule) → Type 1
Adds join = (P : Rule → Type 0) (r s : List Rule) → Each P r → Each P s → Each P (join r s)

pub adds_upstream : Adds in_turn
adds_upstream P [] s p q = q
adds_upstream P (x ∷ r) s p q = (p.0, adds_upstream P r s p.1 q)

pub adds_written : Adds together
adds_written P [] s p q = tt
adds_written P (x ∷ r) [] p q = tt
adds_written P (x ∷ r) (y ∷ s) p q = adds_upstream P (x ∷ r) (y ∷ s) p q

module _ (join : List Rule → List Rule → List Rule) (E : Entry → Type 0)
    (joins : (e f : Entry) → E e → E f → E (record { number = e.number; rules = join e.rules f.rules })) where
  insert_keeps : (e : Entry) (es : List Entry) → E e → Each E es → Each E (insert join e es)
  unfolding insert
  insert_keeps e [] h hs = (h, tt)
  insert_keeps e (f ∷ fs) h hs = go (ltb e.number f.number) (eqb e.number f.number) (insert_keeps e fs h hs.1)
    where
      go : (a b : Bool) → Each E (insert join e fs)
          → Each E (cond a (e ∷ (f ∷ fs)) (cond b (record { number = e.number; rules = join e.rules f.rules } ∷ fs) (f ∷ insert join e fs)))
      go true b ih = (h, hs)
      go false true ih = (joins e f h hs.0, hs.1)
      go false false ih = (hs.0, ih)

  pub collected_keeps : (es : List Entry) → Each E es → Each E (collected join es)
  unfolding collected
  collected_keeps [] h = tt
  collected_keeps (e ∷ es) h = insert_keeps e (collected join es) h.0 (collected_keeps es h.1)

-- ---- tests

all_of : {A : Type 0} (f : A → Bool) (xs : List A) → Each (λ x. f x ≡ true) xs → all f xs ≡ true
all_of f [] h = refl
all_of f (x ∷ xs) h = rw (h.0, all_of f xs h.1)

of_all : {A : Type 0} (f : A → Bool) (xs : List A) → all f xs ≡ true → Each (λ x. f x ≡ true) xs
of_all f = each_of f (λ x h. h)

abbrev Passes : (Rule → Bool) → List Entry → Type 0
Passes f es = all (λ (e : Entry). all f e.rules) es ≡ true

pub collected_passes : (join : List Rule → List Rule → List Rule) → Adds join → (f : Rule → Bool) (es : List Entry) → Passes f es → Passes f (collected join es)
collected_passes join adds f es p =
    all_of _ (collected join es) (collected_keeps join (λ e. all f e.rules ≡ true) joins es (of_all _ es p))
  where
    joins : (e g : Entry) → all f e.rules ≡ true → all f g.rules ≡ true → all f (join e.rules g.rules) ≡ true
    joins e g x y = all_of f (join e.rules g.rules) (adds (λ r. f r ≡ true) e.rules g.rules (of_all f e.rules x) (of_all f g.rules y))

-- of a collected set in range compiling refuses nothing but its filter's length, and a buffer's
pub compiles : (join : List Rule → List Rule → List Rule) → Adds join → (a : Architecture) (native : Bool) (f : Filter) (es : List Entry) → taken (set_with a native f es) ≡ true
    → InRange (set_with a native f (collected join es)) → (o : Output) (room : ℕ) → by_length (answer_in o (encode (set_with a native f (collected join es))) room).code ≡ true
unfolding taken
compiles join adds a native f es t ranged o room =
    let p = both_true (not (eqb f.mismatch f.on_match)) _ t in
    let q = both_true (rules_filled (set_with a native f es)) _ p.1 in
    let r = both_true (indices_taken (set_with a native f es)) (widths_fit (set_with a native f es)) q.1 in
    let rs : RuleSet = set_with a native f (collected join es) in
    let code = (faultless o (encode rs) rs (written_read rs ranged) (collected_ascending join es) (λ e. differ e p.0) (collected_passes join adds has_conditions es q.0)
    (collected_passes join adds (all index_taken) es r.0) (collected_passes join adds (all fits_width) es r.1) room).0 in
    rw code (by (leb too_many (size_in o rs)) (ltb room (8 * size_in o rs)))
  where
    differ : f.mismatch ≡ f.on_match → not (eqb f.mismatch f.on_match) ≡ true → ⊥
    differ e h = false_not_true (sym (ap not (eq-eqb _ _ e)) ∙ h)

    by : (long short : Bool) → by_length (cond long 6 (cond short 7 0)) ≡ true
    by true short = refl
    by false true = refl
    by false false = refl
