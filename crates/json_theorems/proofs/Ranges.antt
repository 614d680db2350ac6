-- What a text means can be written: the numbers of a condition that the form takes are in range, actions are actions, a table's numbers have 32 bits,
-- and a text of at most 1 MiB means no set of more. Assumes nothing.
use mathlib.Core.Path.{◌≡◌, refl, ap, subst, sym}
use mathlib.Core.Bool.{Bool, true, false, cond, not, ◌&&◌, ◌||◌}
use mathlib.Core.List.{List, [], ◌∷◌, ◌++◌}
use mathlib.Core.Option.{Option, none, some}
use Prim.Native.Nat.{ℕ, ◌+◌, ◌-◌, ◌/◌, ◌%◌, ◌^◌, ◌≤◌, ◌<◌}
use native.Mathlib.Omega.{arith}
use lib.Dec.{leb, ltb}
use lib.ListN.{length, length-append}
use borrow.Author.Tests.{leb-true, ltb-true}
use Rattle.definitions.specs.declared.Condition.{Condition}
use Rattle.definitions.specs.RuleSet.{Architecture, Rule, Entry, RuleSet, one_of, plain_actions, numbered_actions, is_action}
use Rattle.definitions.specs.Format.{then, Each, joined, encode, MaskInRange, ConditionInRange, EntryInRange, InRange}
use Rattle.definitions.specs.Json.{ascii, is_digit, Json, null, boolean, number, string, array, object, Values, no_values, value, Members, no_members, member, Text}
use Rattle.definitions.specs.Json as json
use Rattle.definitions.specs.JsonForm.{same, decimal, natural, string_of, each_of, list_of, fields_of, given, needed, optional, only_of, Word, word_of, either, action_words, numbered_words, action_of, operator_words, operator_of, Compared, Line, Filter, condition_keys, condition_of, line_keys, line_of, filter_keys, filter_of, named, filters_from, filters_of}
use Rattle.definitions.specs.CallNames.{Slot, slot_taken, slots_taken, number_for}
use Rattle.definitions.specs.Collected.{rules_of_args, numbered, collected, set_with, taken, set_of, NamedSet, encode_named, sets_of}
use Rattle.definitions.specs.FromJson.{Compiles}
use Rattle.theorems.specs.Outputs.{list, search}
use Rattle.json_theorems.proofs.Tests.{none_not_some, then_some, check_some, both_true}
use Rattle.json_theorems.proofs.Faith.{some_same}
use Rattle.json_theorems.proofs.Passes.{Adds, collected_keeps, compiles}
use Rattle.json_theorems.proofs.Sizes.{Shrinks, length_named, meant_size}

-- ---- numbers, words, actions and operators

natural_least : (most : ℕ) (v : Json) (n : ℕ) → natural most v ≡ some n → n ≤ most
unfolding natural
natural_least most null n e = absurd (none_not_some e)
natural_least most (boolean b) n e = absurd (none_not_some e)
natural_least most (string s) n e = absurd (none_not_some e)
natural_least most (array vs) n e = absurd (none_not_some e)
natural_least most (object ms) n e = absurd (none_not_some e)
natural_least most (number t) n e =
    let c = check_some (json.all is_digit t && leb (decimal 0 t) most) (some (decimal 0 t)) n e in
    let b = both_true (json.all is_digit t) (leb (decimal 0 t) most) c.0 in
    let z : decimal 0 t ≡ n = some_same c.1 in
    omega (arith, leb-true (decimal 0 t) most b.1)

-- what holds of every word's meaning holds of what a string means
word_each : {A : Type 0} (P : A → Type 0) (words : List (Word A)) → Each (λ w. P w.meant) words → (s : List ℕ) (a : A) → word_of words s ≡ some a → P a
word_each P [] h s a e = absurd (none_not_some e)
word_each {A} P (w ∷ words) h s a e = go (same (ascii w.word) s) e (word_each P words h.1 s a)
  where
    go : (t : Bool) → cond t (some w.meant) (word_of words s) ≡ some a → (word_of words s ≡ some a → P a) → P a
    go true x ih = let z : w.meant ≡ a = some_same x in rw z at h.0
    go false x ih = ih x

-- a value is made in one of two ways
either_some : {A C : Type 0} (o p : Option A) (a : A) → either o p ≡ some a → (o ≡ some a → C) → (p ≡ some a → C) → C
either_some none p a e f g = g e
either_some (some b) p a e f g = f e

or_true : (a b : Bool) → b ≡ true → (a || b) ≡ true
or_true true b e = refl
or_true false b e = e

-- an upper half with any lower half
abbrev Numbered : ℕ → Type 0
Numbered w = (n : ℕ) → one_of numbered_actions ((w + n % 2 ^ 16) / 2 ^ 16) ≡ true

errno_numbered : Numbered 0x00050000
unfolding one_of
errno_numbered n = let z : (0x00050000 + n % 65536) / 65536 ≡ 5 = omega arith in rw z

trace_numbered : Numbered 0x7ff00000
unfolding one_of
trace_numbered n = let z : (0x7ff00000 + n % 65536) / 65536 ≡ 0x7ff0 = omega arith in rw z

action_range : (v : Json) (a : ℕ) → action_of v ≡ some a → is_action a ≡ true
unfolding action_of is_action one_of
action_range v a e =
    either_some (then (string_of v) (word_of action_words)) _ a e (λ p.
    let s = then_some (string_of v) (word_of action_words) a p in
    word_each (λ x. is_action x ≡ true) action_words (refl, (refl, (refl, (refl, (refl, (refl, tt)))))) s.0 a s.2) (λ p.
    let o = then_some (only_of v) _ a p in
    let w = then_some (word_of numbered_words o.0.key) _ a o.2 in
    let n = then_some (natural (2 ^ 32 - 1) o.0.value) _ a w.2 in
    let z : w.0 + n.0 % 2 ^ 16 ≡ a = some_same n.2 in
    rw z at (or_true (one_of plain_actions (w.0 + n.0 % 2 ^ 16)) _ (word_each Numbered numbered_words (errno_numbered, (trace_numbered, tt)) o.0.key w.0 w.1 n.0)))

abbrev InRangeBy : Compared → Type 0
InRangeBy o = MaskInRange o.operator o.mask

operator_range : (v : Json) (o : Compared) → operator_of v ≡ some o → InRangeBy o
unfolding operator_of
operator_range v o e =
    either_some (then (string_of v) _) _ o e (λ p.
    let s = then_some (string_of v) _ o p in
    let w = then_some (word_of operator_words s.0) _ o s.2 in
    subst InRangeBy (some_same w.2) (word_each (λ x. MaskInRange x 0) operator_words (refl, (refl, (refl, (refl, (refl, (refl, tt)))))) s.0 w.0 w.1)) (λ p.
    let k = then_some (only_of v) _ o p in
    let c = check_some (same (ascii "masked_eq") k.0.key) _ o k.2 in
    let n = then_some (natural (2 ^ 64 - 1) k.0.value) _ o c.1 in
    subst InRangeBy (some_same n.2) (below n.0 (natural_least (2 ^ 64 - 1) k.0.value n.0 n.1)))
  where
    below : (n : ℕ) → n ≤ 2 ^ 64 - 1 → n < 2 ^ 64
    below n h = omega arith

-- ---- conditions, lines and filters

needed_some : {A : Type 0} (f : Json → Option A) (o : Option Json) (a : A) → needed f o ≡ some a → (v : Json) × (f v ≡ some a)
needed_some f none a e = absurd (none_not_some e)
needed_some f (some v) a e = (v, e)

condition_range : (v : Json) (c : Condition) → condition_of v ≡ some c → ConditionInRange c
unfolding condition_of
condition_range v c e =
    let g = then_some (fields_of condition_keys v) _ c e in
    let e0 = then_some (needed (natural 255) (given 0 g.0)) _ c g.2 in
    let e1 = then_some (needed _ (given 1 g.0)) _ c e0.2 in
    let e2 = then_some (needed operator_of (given 2 g.0)) _ c e1.2 in
    let e3 = then_some (needed (natural (2 ^ 64 - 1)) (given 3 g.0)) _ c e2.2 in
    let e4 = then_some (optional string_of (given 4 g.0)) _ c e3.2 in
    let i = needed_some (natural 255) (given 0 g.0) e0.0 e0.1 in
    let o = needed_some operator_of (given 2 g.0) e2.0 e2.1 in
    let x = needed_some (natural (2 ^ 64 - 1)) (given 3 g.0) e3.0 e3.1 in
    subst ConditionInRange (some_same e4.2) (record {
      index = omega (arith, natural_least 255 i.0 e0.0 i.1);
      value = omega (arith, natural_least (2 ^ 64 - 1) x.0 e3.0 x.1);
      mask = operator_range o.0 e2.0 o.1;
    })

each_range : {A : Type 0} (P : A → Type 0) (f : Json → Option A) → ((v : Json) (a : A) → f v ≡ some a → P a) → (vs : Values) (xs : List A) → each_of f vs ≡ some xs → Each P xs
unfolding each_of
each_range P f h no_values xs e = subst (Each P) (some_same e) tt
each_range P f h (value v vs) xs e =
    let a = then_some (f v) _ xs e in
    let b = then_some (each_of f vs) _ xs a.2 in
    subst (Each P) (some_same b.2) (h v a.0 a.1, each_range P f h vs b.0 b.1)

list_range : {A : Type 0} (P : A → Type 0) (f : Json → Option A) → ((v : Json) (a : A) → f v ≡ some a → P a) → (v : Json) (xs : List A) → list_of f v ≡ some xs → Each P xs
unfolding list_of
list_range P f h null xs e = absurd (none_not_some e)
list_range P f h (boolean b) xs e = absurd (none_not_some e)
list_range P f h (number t) xs e = absurd (none_not_some e)
list_range P f h (string s) xs e = absurd (none_not_some e)
list_range P f h (array vs) xs e = each_range P f h vs xs e
list_range P f h (object ms) xs e = absurd (none_not_some e)

abbrev RulesInRange : Option Rule → Type 0
RulesInRange args = Each (Each ConditionInRange) (rules_of_args args)

abbrev LineInRange : Line → Type 0
LineInRange l = RulesInRange l.args

args_range : (o : Option Json) (args : Option Rule) → optional (list_of condition_of) o ≡ some args → RulesInRange args
unfolding list_of
args_range none args e = subst RulesInRange (some_same e) tt
args_range (some null) args e = subst RulesInRange (some_same e) tt
args_range (some (boolean b)) args e = absurd (none_not_some e)
args_range (some (number t)) args e = absurd (none_not_some e)
args_range (some (string s)) args e = absurd (none_not_some e)
args_range (some (object ms)) args e = absurd (none_not_some e)
args_range (some (array vs)) args e =
    let r = then_some (each_of condition_of vs) (λ q. some (some q)) args e in
    subst RulesInRange (some_same r.2) (each_range ConditionInRange condition_of condition_range vs r.0 r.1, tt)

line_range : (v : Json) (l : Line) → line_of v ≡ some l → LineInRange l
unfolding line_of
line_range v l e =
    let g = then_some (fields_of line_keys v) _ l e in
    let e0 = then_some (needed string_of (given 0 g.0)) _ l g.2 in
    let e1 = then_some (optional (list_of condition_of) (given 1 g.0)) _ l e0.2 in
    let e2 = then_some (optional string_of (given 2 g.0)) _ l e1.2 in
    subst LineInRange (some_same e2.2) (args_range (given 1 g.0) e1.0 e1.1)

record FilterInRange (f : Filter) : Type 0 where
  mismatch : is_action f.mismatch ≡ true
  on_match : is_action f.on_match ≡ true
  lines : Each LineInRange f.lines

filter_range : (name : List ℕ) (v : Json) (f : Filter) → filter_of name v ≡ some f → FilterInRange f
unfolding filter_of
filter_range name v f e =
    let g = then_some (fields_of filter_keys v) _ f e in
    let e0 = then_some (needed action_of (given 0 g.0)) _ f g.2 in
    let e1 = then_some (needed action_of (given 1 g.0)) _ f e0.2 in
    let e2 = then_some (needed (list_of line_of) (given 2 g.0)) _ f e1.2 in
    let d = needed_some action_of (given 0 g.0) e0.0 e0.1 in
    let m = needed_some action_of (given 1 g.0) e1.0 e1.1 in
    let l = needed_some (list_of line_of) (given 2 g.0) e2.0 e2.1 in
    subst FilterInRange (some_same e2.2) (record {
      mismatch = action_range d.0 e0.0 d.1;
      on_match = action_range m.0 e1.0 m.1;
      lines = list_range LineInRange line_of line_range l.0 e2.0 l.1;
    })

each_append : {A : Type 0} (P : A → Type 0) (xs ys : List A) → Each P xs → Each P ys → Each P (xs ++ ys)
each_append P [] ys h k = k
each_append P (x ∷ xs) ys h k = (h.0, each_append P xs ys h.1 k)

filters_from_lem : (ms : Members) (fs r : List Filter) → filters_from fs ms ≡ some r → Each FilterInRange fs → Each FilterInRange r
unfolding filters_from
filters_from_lem no_members fs r e h = subst (Each FilterInRange) (some_same e) h
filters_from_lem (member k v ms) fs r e h =
    let a = check_some (not (named k fs)) (then (filter_of k v) (λ f. filters_from (fs ++ (f ∷ [])) ms)) r e in
    let b = then_some (filter_of k v) (λ f. filters_from (fs ++ (f ∷ [])) ms) r a.1 in
    filters_from_lem ms (fs ++ (b.0 ∷ [])) r b.2 (each_append FilterInRange fs (b.0 ∷ []) h (filter_range k v b.0 b.1, tt))

filters_range : (v : Json) (fs : List Filter) → filters_of v ≡ some fs → Each FilterInRange fs
unfolding filters_of
filters_range null fs e = absurd (none_not_some e)
filters_range (boolean b) fs e = absurd (none_not_some e)
filters_range (number t) fs e = absurd (none_not_some e)
filters_range (string s) fs e = absurd (none_not_some e)
filters_range (array vs) fs e = absurd (none_not_some e)
filters_range (object ms) fs e = filters_from_lem ms [] fs e tt

-- ---- their entries, with numbers of the table

pub number_range : (table : List Slot) → slots_taken table ≡ true → (k : List ℕ) (n : ℕ) → number_for table k ≡ some n → n < 2 ^ 32
unfolding number_for slots_taken
number_range [] t k n e = absurd (none_not_some e)
number_range (s ∷ ss) t k n e =
    let p = both_true (slot_taken s) (slots_taken ss) t in
    let p1 = both_true (leb 1 (length s.name)) _ p.0 in
    let p2 = both_true (leb (length s.name) 28) _ p1.1 in
    let p3 = both_true (json.all (λ b. leb 1 b && leb b 255) s.name) (ltb s.number (2 ^ 32)) p2.1 in
    go (same s.name k) e (ltb-true s.number (2 ^ 32) p3.1) (number_range ss p.1 k n)
  where
    go : (b : Bool) → cond b (some s.number) (number_for ss k) ≡ some n → s.number < 2 ^ 32 → (number_for ss k ≡ some n → n < 2 ^ 32) → n < 2 ^ 32
    go true x h ih = let z : s.number ≡ n = some_same x in omega arith
    go false x h ih = ih x

numbered_range : (table : List Slot) → slots_taken table ≡ true → (ls : List Line) (es : List Entry) → numbered table ls ≡ some es → Each LineInRange ls → Each EntryInRange es
unfolding numbered
numbered_range table t [] es e h = subst (Each EntryInRange) (some_same e) tt
numbered_range table t (l ∷ ls) es e h =
    let n = then_some (number_for table l.call) _ es e in
    let r = then_some (numbered table ls) _ es n.2 in
    subst (Each EntryInRange) (some_same r.2)
    (record { number = number_range table t l.call n.0 n.1; rules = h.0 }, numbered_range table t ls r.0 r.1 h.1)

collected_range : (join : List Rule → List Rule → List Rule) → Adds join → (es : List Entry) → Each EntryInRange es → Each EntryInRange (collected join es)
collected_range join adds =
    collected_keeps join EntryInRange (λ e f x y. record { number = x.number; rules = adds (Each ConditionInRange) e.rules f.rules x.rules y.rules })

-- ---- their sets

module _ (join : List Rule → List Rule → List Rule) (adds : Adds join) (table : List Slot) (tabled : slots_taken table ≡ true) (a : Architecture) (native : Bool) where
  set_compiles : (f : Filter) (rs : RuleSet) → set_of join table a native f ≡ some rs → FilterInRange f → length (encode rs) ≤ 2 ^ 20 → Compiles rs
  unfolding set_of
  set_compiles f rs e h size =
      let n = then_some (numbered table f.lines) _ rs e in
      let c = check_some (taken (set_with a native f n.0)) _ rs n.2 in
      let is : set_with a native f (collected join n.0) ≡ rs = some_same c.1 in
      let ranged : InRange (set_with a native f (collected join n.0)) = record {
        mismatch = h.mismatch;
        on_match = h.on_match;
        entries = collected_range join adds n.0 (numbered_range table tabled f.lines n.0 n.1 h.lines);
        size = subst (λ (x : RuleSet). length (encode x) ≤ 2 ^ 20) (sym is) size;
      } in
      subst Compiles is (record {
        ranged = ranged;
        listed = compiles join adds a native f n.0 c.0 ranged list;
        searched = compiles join adds a native f n.0 c.0 ranged search;
      })

  sets_compile : (fs : List Filter) (sets : List NamedSet) → sets_of join table a native fs ≡ some sets → Each FilterInRange fs → length (joined encode_named sets) ≤ 2 ^ 20
      → Each (λ s. Compiles s.set) sets
  unfolding sets_of
  sets_compile [] sets e h size = subst (Each (λ s. Compiles s.set)) (some_same e) tt
  sets_compile (f ∷ fs) sets e h size =
      let s = then_some (set_of join table a native f) _ sets e in
      let r = then_some (sets_of join table a native fs) _ sets s.2 in
      let one : NamedSet = record { name = f.name; set = s.0 } in
      let is : one ∷ r.0 ≡ sets = some_same r.2 in
      let z = ap (λ (x : List NamedSet). length (joined encode_named x)) is in
      let l = length-append (encode_named one) (joined encode_named r.0) in
      subst (Each (λ s. Compiles s.set)) is
      (set_compiles f s.0 s.1 h.0 (omega (arith, length_named one)), sets_compile fs r.0 r.1 h.1 (omega arith))

  -- each set of a text of at most 1 MiB compiles, unless its filter is too long or the buffer too short
  pub meant_compile : Shrinks join → {t : List ℕ} {v : Json} → Text t v → length t ≤ 2 ^ 20 → (fs : List Filter) (sets : List NamedSet)
      → filters_of v ≡ some fs → sets_of join table a native fs ≡ some sets → Each (λ s. Compiles s.set) sets
  meant_compile shrinks {t} {v} w h fs sets e m =
      sets_compile fs sets m (filters_range v fs e) (omega (arith, meant_size join shrinks table a native w fs sets e m))
