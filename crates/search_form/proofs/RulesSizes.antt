-- How long the code of searched rules is: by a bound that does not hang on where it stands; and the whole is never longer than the emitted form.
use mathlib.Core.Path.{◌≡◌, refl}
use mathlib.Core.Bool.{Bool, true, ◌&&◌}
use mathlib.Core.List.{List, [], ◌∷◌, ◌++◌}
use Prim.Native.Nat.{ℕ, suc, ◌+◌, ◌≤◌, max}
use native.Mathlib.Omega.{arith}
use lib.Dec.{leb}
use lib.ListN.{length, length-append}
use borrow.Author.Tests.{leb-true, le-leb}
use Rattle.definitions.specs.RuleSet.{Rule, Entry}
use Rattle.definitions.specs.Emitted.{return, rule_bodies, entry_code, entries_code, numbers_code, body_code, rules_code, emitted}
use Rattle.definitions.specs.SearchForm.{to_rules, grow, Form, plant, chain, block_if, open_block, plant_leaf, near_return, away}
use Rattle.search_form.specs.Rules.{Look, cases, Laid, lay_entry, lay, grown, fronted, mismatching, one_by_one, searched, pattern, alikes, others, by_words, ruled, rules_most, shorter_of, entry_form, bottom, rules_planted, rules_form}
use Rattle.search_form.specs.Statements.{RulesShorter}
use Rattle.theorems.proofs.Tests.{both_true}
use Rattle.theorems.proofs.Lengths.{rules_shorter}
use Rattle.search_form.proofs.Cases.{cond_case}
use Rattle.search_form.proofs.Sizes.{needs, lefts_least, Rooted, tree_sized}
use Rattle.search_form.proofs.Shorter.{alone_need, plain_need}
use Rattle.search_form.proofs.RulesRight.{lay_some}

module _ (m d : ℕ) where
  -- at most n more, and there is a mismatch return
  pub record Adds (n : ℕ) (f g : Form) : Type 0 where
    pub rooted : Rooted g
    pub most : length g.code ≤ length f.code + n

  abbrev pub Adding : (List Rule → ℕ) → (List Rule → Form → Form) → Type 0
  Adding size put = (rs : List Rule) (f : Form) → Rooted f → Adds (size rs) f (put rs f)

  abbrev pub linear_size : List Rule → ℕ
  linear_size rs = length (rule_bodies m rs) + 1

  pub linear_length : (rs : List Rule) (f : Form) → length (one_by_one m d rs f).code ≡ length f.code + linear_size rs
  unfolding one_by_one fronted mismatching
  linear_length rs f = omega (arith, length-append (rule_bodies m rs) (return d ∷ f.code))

  pub linear_adds : Adding linear_size (one_by_one m d)
  linear_adds rs f r =
      record { rooted = rooted; most = omega (arith, linear_length rs f) }
    where
      rooted : Rooted (one_by_one m d rs f)
      rooted = unfold one_by_one fronted mismatching in record { pos = omega arith; inside = omega (arith, length-append (rule_bodies m rs) (return d ∷ f.code)) }

  -- ---- entries, and the tree in front of them

  unfoldable pub leaf_size : (List Rule → ℕ) → List Rule → ℕ
  leaf_size size [] = 0
  leaf_size size (r ∷ rs) = size (r ∷ rs)

  -- three for each value, and its rules
  unfoldable pub cases_size : (List Rule → ℕ) → List Entry → ℕ
  cases_size size [] = 0
  cases_size size (e ∷ es) = 3 + leaf_size size e.rules + cases_size size es

  pub record LaysBy (n : ℕ) (f : Form) (l : Laid) : Type 0 where
    pub rooted : Rooted l.form
    pub most : length l.form.code + needs l.spans ≤ length f.code + n

  lay_entry_adds : (size : List Rule → ℕ) (put : List Rule → Form → Form) → Adding size put → (n k : ℕ) (rs : List Rule) (f : Form) (l : Laid)
      → LaysBy k f l → LaysBy (3 + leaf_size size rs + k) f (lay_entry put n rs l)
  unfolding lay_entry leaf_size needs
  lay_entry_adds size put a n k [] f l h = record { rooted = h.rooted; most = omega (arith, h.most, plain_need n l.spans) }
  lay_entry_adds size put a n k (r ∷ rs) f l h =
      let x = a (r ∷ rs) l.form h.rooted in
      record { rooted = x.rooted; most = omega (arith, h.most, x.most, alone_need n (to_rules (put (r ∷ rs) l.form).at)) }

  pub lay_adds : (size : List Rule → ℕ) (put : List Rule → Form → Form) → Adding size put → (es : List Entry) (f : Form) → Rooted f
      → LaysBy (cases_size size es) f (lay put es f)
  unfolding lay cases_size
  lay_adds size put a [] f r = unfold needs in record { rooted = r; most = omega arith }
  lay_adds size put a (e ∷ es) f r = lay_entry_adds size put a e.number (cases_size size es) e.rules f (lay put es f) (lay_adds size put a es f r)

  pub grown_adds : (n : ℕ) (f : Form) (l : Laid) → 1 ≤ length l.spans → LaysBy n f l → Adds n f (grown m d l)
  unfolding grown
  grown_adds n f l o h =
      let x = tree_sized m d l.spans l.form h.rooted in
      record { rooted = x.rooted; most = omega (arith, x.most, h.most, lefts_least l.spans) }

  -- with no entries it is one at most
  cases_adds : (size : List Rule → ℕ) (put : List Rule → Form → Form) → Adding size put → (es : List Entry) (f : Form) → Rooted f
      → Adds (max 1 (cases_size size es)) f (grown m d (lay put es f))
  cases_adds size put a [] f r =
      unfold lay grown cases_size in
      let x = tree_sized m d [] f r in
      let z : needs [] ≡ 0 = unfold needs in refl in
      record { rooted = x.rooted; most = omega (arith, x.most) }
  cases_adds size put a (e ∷ es) f r =
      let x = grown_adds (cases_size size (e ∷ es)) f (lay put (e ∷ es) f) (lay_some put e es f) (lay_adds size put a (e ∷ es) f r) in
      record { rooted = x.rooted; most = omega (arith, x.most) }

  -- ---- rules

  unfoldable pub searched_size : List Look → List Rule → ℕ
  searched_size [] rs = linear_size rs
  searched_size (k ∷ ks) rs = suc (max 1 (cases_size (searched_size ks) (cases k.width rs)))

  pub searched_adds : (ks : List Look) → Adding (searched_size ks) (searched ks m d)
  unfolding searched searched_size fronted
  searched_adds [] rs f r = linear_adds rs f r
  searched_adds (k ∷ ks) rs f r =
      let x = cases_adds (searched_size ks) (searched ks m d) (searched_adds ks) (cases k.width rs) f r in
      let xi = x.rooted.inside in
      record { rooted = record { pos = x.rooted.pos; inside = omega arith }; most = omega (arith, x.most) }

  unfoldable pub words_size : List Look → List Rule → List Rule → List Rule → ℕ
  words_size ks [] rest rs = linear_size rs
  words_size ks (a ∷ chosen) rest rs = length (rule_bodies m rest) + searched_size ks (a ∷ chosen)

  words_adds : (ks : List Look) (chosen rest rs : List Rule) (f : Form) → Rooted f → Adds (words_size ks chosen rest rs) f (by_words m d ks chosen rest rs f)
  unfolding by_words words_size fronted
  words_adds ks [] rest rs f r = linear_adds rs f r
  words_adds ks (a ∷ chosen) rest rs f r =
      let x = searched_adds ks (a ∷ chosen) f r in
      let y = length-append (rule_bodies m rest) (searched ks m d (a ∷ chosen) f).code in
      record { rooted = record { pos = x.rooted.pos; inside = omega (arith, x.rooted.inside) }; most = omega (arith, x.most) }

  unfoldable pub ruled_size : List Rule → ℕ
  ruled_size rs = words_size (pattern rs) (alikes (pattern rs) rs) (others (pattern rs) rs) rs

  pub ruled_adds : Adding ruled_size (ruled m d)
  unfolding ruled ruled_size
  ruled_adds rs f r = words_adds (pattern rs) (alikes (pattern rs) rs) (others (pattern rs) rs) rs f r

  -- rules of which it is sure that searching is not longer, wherever they stand
  unfoldable pub surely : List Rule → Bool
  surely rs = leb (length rs) rules_most && leb (ruled_size rs) (linear_size rs)

  pub surely_searched : (rs : List Rule) (f : Form) → Rooted f → surely rs ≡ true → entry_form m d rs f ≡ ruled m d rs f
  unfolding surely entry_form shorter_of
  surely_searched rs f r q =
      let b = both_true (leb (length rs) rules_most) (leb (ruled_size rs) (linear_size rs)) q in
      let z = le-leb (length (ruled m d rs f).code) (length (one_by_one m d rs f).code) (omega (arith, leb-true (ruled_size rs) (linear_size rs) b.1, (ruled_adds rs f r).most, linear_length rs f)) in
      rw (b.0, z)

  -- never longer than one by one
  pub entry_adds : Adding linear_size (entry_form m d)
  unfolding entry_form shorter_of
  entry_adds rs f r =
      cond_case (Adds (linear_size rs) f) (leb (length rs) rules_most) _ _
      (λ p. cond_case (Adds (linear_size rs) f) (leb (length (ruled m d rs f).code) (length (one_by_one m d rs f).code)) _ _
      (λ q. record { rooted = (ruled_adds rs f r).rooted; most = omega (arith, leb-true (length (ruled m d rs f).code) (length (one_by_one m d rs f).code) q, linear_length rs f) })
      (λ q. linear_adds rs f r))
      (λ p. linear_adds rs f r)

  -- ---- the whole

  entry_most_lem : (e : Entry) → 3 + leaf_size linear_size e.rules ≤ length (entry_code m d e)
  unfolding entry_code leaf_size
  entry_most_lem e = go e.rules
    where
      go : (rs : List Rule) → 3 + leaf_size linear_size rs ≤ suc (length (body_code m rs ++ (return d ∷ [])))
      go [] = unfold body_code in omega arith
      go (r ∷ rs) = unfold body_code in omega (arith, length-append (rules_code m (r ∷ rs)) (return d ∷ []), rules_shorter m (r ∷ rs))

  entries_most : (es : List Entry) → cases_size linear_size es ≤ length (entries_code m d es)
  unfolding cases_size
  entries_most [] = omega arith
  entries_most (e ∷ es) = omega (arith, entry_most_lem e, entries_most es, length-append (entry_code m d e) (entries_code m d es))

  pub bottom_rooted : Rooted (bottom d)
  unfolding bottom
  bottom_rooted = record { pos = omega arith; inside = omega arith }

  bottom_length : length (bottom d).code ≡ 1
  unfolding bottom
  bottom_length = refl

  -- with nothing listed there is one return
  pub rules_none : (rules_planted m d []).code ≡ return d ∷ []
  unfolding rules_planted grown lay grow block_if chain bottom plant plant_leaf open_block near_return away
  rules_none = refl

  planted_shorter : (es : List Entry) → length (rules_planted m d es).code ≤ length (numbers_code m d es)
  unfolding numbers_code
  planted_shorter [] = rw rules_none (omega arith)
  planted_shorter (e ∷ es) =
      unfold rules_planted in
      let x = grown_adds (cases_size linear_size (e ∷ es)) (bottom d) (lay (entry_form m d) (e ∷ es) (bottom d)) (lay_some (entry_form m d) e es (bottom d))
      (lay_adds linear_size (entry_form m d) entry_adds (e ∷ es) (bottom d) bottom_rooted) in
      rw (length-append (entries_code m d (e ∷ es)) (return d ∷ [])) (omega (arith, x.most, bottom_length, entries_most (e ∷ es)))

pub rules_form_shorter : RulesShorter
unfolding rules_form emitted
rules_form_shorter rs = simp length-append (omega (arith, planted_shorter rs.on_match rs.mismatch rs.entries))
