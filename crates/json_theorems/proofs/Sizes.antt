-- How many bytes a JSON value takes at least, and that what the form makes of it is no longer when it is written as a rule set: what reading a text
-- writes fits into as many bytes as it has read. Assumes nothing.
use mathlib.Core.Path.{◌≡◌, refl, ap, sym, ◌∙◌}
use mathlib.Core.Bool.{Bool, true, false, cond, not, ◌&&◌}
use mathlib.Core.List.{List, [], ◌∷◌, ◌++◌}
use mathlib.Core.Option.{Option, none, some}
use Prim.Native.Nat.{ℕ, zero, suc, ◌+◌, ◌*◌, ◌≤◌}
use native.Mathlib.Omega.{arith}
use lib.Dec.{eqb, leb, ltb}
use lib.ListN.{length, length-append}
use borrow.Author.Tests.{leb-true, eqb-true, ne_eqb}
use Rattle.definitions.specs.declared.Condition.{Condition}
use Rattle.definitions.specs.RuleSet.{Architecture, Rule, Entry, RuleSet}
use Rattle.definitions.specs.Format.{then, check, joined, encode_condition, encode_rule, encode_entry, encode}
use Rattle.definitions.specs.Json.{ascii, utf8, pair_of, Character, unescaped, escaped, unit, pair, Characters, closed, another, Json, null, boolean, number, string, array, object, Values, no_values, value, Members, no_members, member, Written, a_null, a_true, a_false, a_string, an_empty_array, an_array, an_empty_object, an_object, WrittenValues, last_value, next_value, WrittenMembers, last_member, next_member, Text, text}
use Rattle.definitions.specs.JsonForm.{same, each_of, list_of, Key, Given, field_of, has, gathered, fields_of, given, needed, optional, natural, string_of, action_of, Line, Filter, condition_keys, condition_of, line_keys, line_of, filter_keys, filter_of, named, filters_from, filters_of}
use Rattle.definitions.specs.CallNames.{Slot, number_for}
use Rattle.definitions.specs.Collected.{rules_of_args, numbered, in_turn, together, insert, collected, set_with, taken, set_of, NamedSet, encode_named, sets_of}
use Rattle.definitions.specs.JsonReader.{Got, got, string_at, blanks, key_at}
use Rattle.definitions.specs.FormReader.{Judges, judges_of, list_there, condition_there, line_there, filter_there, read_filters}
use Rattle.theorems.proofs.Words.{length_bytes}
use Rattle.theorems.proofs.Forms.{length_condition, length_rule, length_entry}
use Rattle.json_theorems.proofs.Tests.{none_not_some, then_some, check_some, both_true}
use Rattle.json_theorems.proofs.Strings.{string_sound}
use Rattle.json_theorems.proofs.Parts.{blanks_sound, key_sound}
use Rattle.json_theorems.proofs.Loops.{Faithful}
use Rattle.json_theorems.proofs.Values.{same_true, written_long}
use Rattle.json_theorems.proofs.Faith.{some_same}
use Rattle.json_theorems.proofs.Form.{list_faithful}
use Rattle.json_theorems.proofs.Objects.{only, ok_condition, ok_line, ok_filter, condition_by, condition_faithful, condition_only, line_by, line_faithful, line_only, filter_by, filter_faithful, filter_only}
use Rattle.json_theorems.proofs.Whole.{front_sound}

-- ---- strings: escapes are longer than what they stand for

utf8_short : (c : ℕ) → length (utf8 c) ≤ 4
unfolding utf8
utf8_short c = go (leb c 0x7f) (leb c 0x7ff) (leb c 0xffff) _ _ _ _ _ _ _ _ _ _
  where
    go : (t u w : Bool) (a b d e f g h i j k : ℕ)
        → length (cond t (a ∷ []) (cond u (b ∷ d ∷ []) (cond w (e ∷ f ∷ g ∷ []) (h ∷ i ∷ j ∷ k ∷ [])))) ≤ 4
    go true u w a b d e f g h i j k = omega arith
    go false true w a b d e f g h i j k = omega arith
    go false false true a b d e f g h i j k = omega arith
    go false false false a b d e f g h i j k = omega arith

character_size : {c a : List ℕ} → Character c a → length a ≤ length c
character_size (unescaped c e) = omega arith
character_size (escaped e b h) = omega arith
character_size (unit p q r s u h x y) = omega (arith, utf8_short u)
character_size (pair p q r s h p' q' r' s' l e e' x y) = omega (arith, utf8_short (pair_of h l))

characters_size : {bs s : List ℕ} → Characters bs s → length s + 1 ≤ length bs
characters_size closed = omega arith
characters_size (another c cs) = simp length-append (omega (arith, character_size c, characters_size cs))

pub string_size : (l s rest : List ℕ) → string_at l ≡ got s rest → length rest + length s + 1 ≤ length l
string_size l s rest e =
    let w = string_sound l s rest e in
    let h = ap length w.here ∙ length-append w.bytes rest in
    omega (arith, characters_size w.spelled)

-- ---- the least size of a value, commas and blanks not counted

abbrev mutual
  pub least_of : Json → ℕ
  least_of null = 4
  least_of (boolean b) = 4
  least_of (number t) = 1
  least_of (string s) = 2 + length s
  least_of (array vs) = 2 + least_values vs
  least_of (object ms) = 2 + least_members ms

  pub least_values : Values → ℕ
  least_values no_values = 0
  least_values (value v vs) = least_of v + least_values vs

  pub least_members : Members → ℕ
  least_members no_members = 0
  least_members (member k v ms) = 3 + length k + least_of v + least_members ms

abbrev Long : {A : Type 0} → (List ℕ → A → Type 0) → A → ℕ → Type 0
Long W a n = (bs : List ℕ) → W bs a → n ≤ length bs

array_long : (vs : Values) → Long WrittenValues vs (least_values vs + 1) → Long Written (array vs) (2 + least_values vs)
array_long no_values h _ (an_empty_array w) = simp length-append (omega arith)
array_long vs h _ (an_array {bs = bs} w) = omega (arith, h bs w)

object_long : (ms : Members) → Long WrittenMembers ms (least_members ms + 1) → Long Written (object ms) (2 + least_members ms)
object_long no_members h _ (an_empty_object w) = simp length-append (omega arith)
object_long ms h _ (an_object {bs = bs} w) = omega (arith, h bs w)

string_long : (s : List ℕ) → Long Written (string s) (2 + length s)
string_long s _ (a_string c) = omega (arith, characters_size c)

null_long : Long Written null 4
unfolding ascii
null_long _ a_null = omega arith

boolean_long : (b : Bool) → Long Written (boolean b) 4
unfolding ascii
boolean_long true _ a_true = omega arith
boolean_long false _ a_false = omega arith

values_end : {bs : List ℕ} {vs : Values} → WrittenValues bs vs → 1 ≤ length bs
values_end (last_value x w y) = simp length-append (omega arith)
values_end (next_value x w y ws) = simp length-append (omega arith)

next_value_lem : (v : Json) (vs : Values) → Long Written v (least_of v) → Long WrittenValues vs (least_values vs + 1)
    → Long WrittenValues (value v vs) (least_of v + least_values vs + 1)
next_value_lem v no_values h hs _ (last_value {b = b} x w y) = simp length-append (omega (arith, h b w))
next_value_lem v vs h hs _ (next_value {b = b} {bs = bs} x w y ws) = simp length-append (omega (arith, h b w, hs bs ws))

members_end : {bs : List ℕ} {ms : Members} → WrittenMembers bs ms → 1 ≤ length bs
members_end (last_member w c x y wr z) = simp length-append (omega arith)
members_end (next_member w c x y wr z more) = simp length-append (omega arith)

next_member_lem : (k : List ℕ) (v : Json) (ms : Members) → Long Written v (least_of v) → Long WrittenMembers ms (least_members ms + 1)
    → Long WrittenMembers (member k v ms) (3 + length k + least_of v + least_members ms + 1)
next_member_lem k v no_members h hs _ (last_member {b = b} w c x y wr z) = simp length-append (omega (arith, characters_size c, h b wr))
next_member_lem k v ms h hs _ (next_member {b = b} {bs = bs} w c x y wr z more) = simp length-append (omega (arith, characters_size c, h b wr, hs bs more))

mutual
  value_long : (v : Json) → Long Written v (least_of v)
  value_long null = null_long
  value_long (boolean b) = boolean_long b
  value_long (number t) = λ bs w. written_long w
  value_long (string s) = string_long s
  value_long (array vs) = array_long vs (values_long vs)
  value_long (object ms) = object_long ms (members_long ms)

  values_long : (vs : Values) → Long WrittenValues vs (least_values vs + 1)
  values_long no_values = λ bs w. values_end w
  values_long (value v vs) = next_value_lem v vs (value_long v) (values_long vs)

  members_long : (ms : Members) → Long WrittenMembers ms (least_members ms + 1)
  members_long no_members = λ bs w. members_end w
  members_long (member k v ms) = next_member_lem k v ms (value_long v) (members_long ms)

pub written_size : {b : List ℕ} {v : Json} → Written b v → least_of v ≤ length b
written_size {b} {v} w = value_long v b w

pub text_size : {t : List ℕ} {v : Json} → Text t v → least_of v ≤ length t
text_size (text bw w bx) = simp length-append (omega (arith, written_size w))

-- ---- the members of an object, by their fields: no field is counted twice

-- a key's least length, by its field
abbrev keys_long : (ℕ → ℕ) → List Key → Bool
keys_long long [] = true
keys_long long (k ∷ ks) = leb (long k.field) (length (ascii k.word)) && keys_long long ks

abbrev summed : {A : Type 0} → (A → ℕ) → List A → ℕ
summed size [] = 0
summed size (a ∷ as') = size a + summed size as'

abbrev field_size : (ℕ → ℕ) → ℕ → Option Json → ℕ
field_size long f none = 0
field_size long f (some v) = 3 + long f + least_of v

abbrev below : (ℕ → ℕ) → ℕ → ℕ
below h zero = 0
below h (suc n) = h n + below h n

module _ (long : ℕ → ℕ) where
  abbrev given_size : Given → ℕ
  given_size g = 3 + long g.field + least_of g.value

  key_long : (keys : List Key) → keys_long long keys ≡ true → (k : List ℕ) (f : ℕ) → field_of keys k ≡ some f → long f ≤ length k
  key_long [] t k f e = absurd (none_not_some e)
  key_long (x ∷ keys) t k f e =
      let p = both_true (leb (long x.field) (length (ascii x.word))) (keys_long long keys) t in
      go (same (ascii x.word) k) refl e (leb-true _ _ p.0) (λ h. key_long keys p.1 k f h)
    where
      go : (s : Bool) → same (ascii x.word) k ≡ s → cond s (some x.field) (field_of keys k) ≡ some f → long x.field ≤ length (ascii x.word)
          → (field_of keys k ≡ some f → long f ≤ length k) → long f ≤ length k
      go true is h less ih =
          let n = ap length (same_true (ascii x.word) k is) in
          let z : long x.field ≡ long f = ap long (some_same h) in
          omega arith
      go false is h less ih = ih h

  gathered_size : (keys : List Key) → keys_long long keys ≡ true → (ms : Members) (gs g : List Given) → gathered keys gs ms ≡ some g
      → summed given_size g ≤ summed given_size gs + least_members ms
  unfolding gathered
  gathered_size keys t no_members gs g e = let z : summed given_size gs ≡ summed given_size g = ap (summed given_size) (some_same e) in omega arith
  gathered_size keys t (member k v ms) gs g e =
      let a = then_some (field_of keys k) _ g e in
      let b = check_some (not (has a.0 gs)) _ g a.2 in
      omega (arith, key_long keys t k a.0 a.1, gathered_size keys t ms (record { field = a.0; value = v } ∷ gs) g b.1)

  -- one more that is given: it counts where its field is asked for
  module _ (k : ℕ) (v : Json) (g : List Given) where
    abbrev without : ℕ → ℕ
    without f = field_size long f (given f g)

    abbrev with' : ℕ → ℕ
    with' f = field_size long f (cond (eqb k f) (some v) (given f g))

    not_yet : (n : ℕ) → n ≤ k → below with' n ≡ below without n
    not_yet zero h = refl
    not_yet (suc n) h = rw (ne_eqb k n (λ s. omega arith), not_yet n (omega arith))

    one_more : (n : ℕ) → below with' n ≤ 3 + long k + least_of v + below without n
    one_more zero = omega arith
    one_more (suc n) = go (eqb k n) refl (one_more n)
      where
        go : (t : Bool) → eqb k n ≡ t → below with' n ≤ 3 + long k + least_of v + below without n
            → field_size long n (cond t (some v) (given n g)) + below with' n ≤ 3 + long k + least_of v + (without n + below without n)
        go true is ih =
            let s = eqb-true k n is in
            let z : long k ≡ long n = ap long s in
            omega (arith, not_yet n (omega arith))
        go false is ih = omega arith

  fields_size : (n : ℕ) (g : List Given) → below (λ f. field_size long f (given f g)) n ≤ summed given_size g
  fields_size n [] = nothing n
    where
      nothing : (n : ℕ) → below (λ f. 0) n ≤ 0
      nothing zero = omega arith
      nothing (suc n) = omega (arith, nothing n)
  fields_size n (x ∷ g) = omega (arith, one_more x.field x.value g n, fields_size n g)

  object_size : (keys : List Key) → keys_long long keys ≡ true → (v : Json) (g : List Given) → fields_of keys v ≡ some g → (n : ℕ)
      → 2 + below (λ f. field_size long f (given f g)) n ≤ least_of v
  unfolding fields_of
  object_size keys t null g e n = absurd (none_not_some e)
  object_size keys t (boolean b) g e n = absurd (none_not_some e)
  object_size keys t (number s) g e n = absurd (none_not_some e)
  object_size keys t (string s) g e n = absurd (none_not_some e)
  object_size keys t (array vs) g e n = absurd (none_not_some e)
  object_size keys t (object ms) g e n = omega (arith, gathered_size keys t ms [] g e, fields_size n g)

  -- a field that must be there, with a size that its value has at least
  needed_size : {A : Type 0} (r : Json → Option A) (size : A → ℕ) → ((v : Json) (a : A) → r v ≡ some a → size a ≤ least_of v)
      → (f : ℕ) (o : Option Json) (a : A) → needed r o ≡ some a → 3 + long f + size a ≤ field_size long f o
  needed_size r size least f none a e = absurd (none_not_some e)
  needed_size r size least f (some v) a e = omega (arith, least v a e)

least_one : (v : Json) → 1 ≤ least_of v
least_one null = omega arith
least_one (boolean b) = omega arith
least_one (number t) = omega arith
least_one (string s) = omega arith
least_one (array vs) = omega arith
least_one (object ms) = omega arith

-- ---- what the form makes of values

each_size : {A : Type 0} (f : Json → Option A) (size : A → ℕ) → ((v : Json) (a : A) → f v ≡ some a → size a ≤ least_of v)
    → (vs : Values) (as' : List A) → each_of f vs ≡ some as' → summed size as' ≤ least_values vs
unfolding each_of
each_size {A} f size least no_values as' e = let z : 0 ≡ summed size as' = ap (summed size) (some_same e) in omega arith
each_size {A} f size least (value v vs) as' e =
    let a = then_some (f v) _ as' e in
    let b = then_some (each_of f vs) _ as' a.2 in
    let z : size a.0 + summed size b.0 ≡ summed size as' = ap (summed size) (some_same b.2) in
    omega (arith, least v a.0 a.1, each_size f size least vs b.0 b.1)

list_size : {A : Type 0} (f : Json → Option A) (size : A → ℕ) → ((v : Json) (a : A) → f v ≡ some a → size a ≤ least_of v)
    → (v : Json) (as' : List A) → list_of f v ≡ some as' → 2 + summed size as' ≤ least_of v
unfolding list_of
list_size f size least null as' e = absurd (none_not_some e)
list_size f size least (boolean b) as' e = absurd (none_not_some e)
list_size f size least (number t) as' e = absurd (none_not_some e)
list_size f size least (string s) as' e = absurd (none_not_some e)
list_size f size least (array vs) as' e = omega (arith, each_size f size least vs as' e)
list_size f size least (object ms) as' e = absurd (none_not_some e)

joined_size : {A : Type 0} (write : A → List ℕ) (as' : List A) → length (joined write as') ≡ summed (λ a. length (write a)) as'
joined_size write [] = refl
joined_size write (a ∷ as') = rw (length-append (write a) (joined write as'), joined_size write as')

-- by field: index, type, op, val
abbrev condition_long : ℕ → ℕ
condition_long f = cond (eqb f 0) 5 (cond (eqb f 1) 4 (cond (eqb f 2) 2 (cond (eqb f 3) 3 0)))

condition_keys_lem : keys_long condition_long condition_keys ≡ true
unfolding ascii
condition_keys_lem = refl

four : (h : ℕ → ℕ) → below h 4 ≡ h 3 + (h 2 + (h 1 + (h 0 + 0)))
four h = refl

three : (h : ℕ → ℕ) → below h 3 ≡ h 2 + (h 1 + (h 0 + 0))
three h = refl

pub condition_least : (v : Json) (c : Condition) → condition_of v ≡ some c → 32 ≤ least_of v
unfolding condition_of
condition_least v c e =
    let g = then_some (fields_of condition_keys v) _ c e in
    let e0 = then_some (needed (natural 255) (given 0 g.0)) _ c g.2 in
    let e1 = then_some (needed _ (given 1 g.0)) _ c e0.2 in
    let e2 = then_some (needed _ (given 2 g.0)) _ c e1.2 in
    let e3 = then_some (needed _ (given 3 g.0)) _ c e2.2 in
    let size = object_size condition_long condition_keys condition_keys_lem v g.0 g.1 4 in
    let h : ℕ → ℕ = λ f. field_size condition_long f (given f g.0) in
    omega (arith, four h, least_field 0 _ (given 0 g.0) e0.0 e0.1, least_field 1 _ (given 1 g.0) e1.0 e1.1, least_field 2 _ (given 2 g.0) e2.0 e2.1, least_field 3 _ (given 3 g.0) e3.0 e3.1)
  where
    least_field : {A : Type 0} (f : ℕ) (r : Json → Option A) (o : Option Json) (a : A) → needed r o ≡ some a → 4 + condition_long f ≤ field_size condition_long f o
    least_field f r o a x = omega (arith, needed_size condition_long r (λ y. 1) (λ w b z. least_one w) f o a x)

-- the bytes of a line's entry, whatever its number
abbrev line_size : Line → ℕ
line_size l = 8 + length (joined encode_rule (rules_of_args l.args))

-- by field: syscall, args
abbrev line_long : ℕ → ℕ
line_long f = cond (eqb f 0) 7 (cond (eqb f 1) 4 0)

line_keys_lem : keys_long line_long line_keys ≡ true
unfolding ascii
line_keys_lem = refl

twenty_four : (r : Rule) → length (joined encode_condition r) ≡ 24 * length r
twenty_four [] = refl
twenty_four (c ∷ r) = omega (arith, length-append (encode_condition c) (joined encode_condition r), length_condition c, twenty_four r)

rule_least : (f : Json → Option Condition) → ((v : Json) (c : Condition) → f v ≡ some c → condition_of v ≡ some c)
    → (v : Json) (r : Rule) → list_of f v ≡ some r → 2 + 24 * length r ≤ least_of v
rule_least f is v r e =
    omega (arith, list_size f (λ c. length (encode_condition c)) (λ w c h. omega (arith, condition_least w c (is w c h), length_condition c)) v r e, joined_size encode_condition r, twenty_four r)

args_least : (o : Option Json) (args : Option Rule) → optional (list_of condition_of) o ≡ some args → length (joined encode_rule (rules_of_args args)) ≤ field_size line_long 1 o
unfolding list_of
args_least none args e = missing args (some_same e)
  where
    missing : (a : Option Rule) → none ≡ a → length (joined encode_rule (rules_of_args a)) ≤ 0
    missing none e = omega arith
    missing (some r) e = absurd (none_not_some e)
args_least (some null) args e = missing args (some_same e)
  where
    missing : (a : Option Rule) → none ≡ a → length (joined encode_rule (rules_of_args a)) ≤ 11
    missing none e = omega arith
    missing (some r) e = absurd (none_not_some e)
args_least (some (boolean b)) args e = absurd (none_not_some e)
args_least (some (number t)) args e = absurd (none_not_some e)
args_least (some (string s)) args e = absurd (none_not_some e)
args_least (some (object ms)) args e = absurd (none_not_some e)
args_least (some (array vs)) args e =
    let r = then_some (each_of condition_of vs) (λ q. some (some q)) args e in
    let z : length (encode_rule r.0 ++ []) ≡ length (joined encode_rule (rules_of_args args)) = ap (λ a. length (joined encode_rule (rules_of_args a))) (some_same r.2) in
    omega (arith, rule_least condition_of (λ w c h. h) (array vs) r.0 r.1, length-append (encode_rule r.0) [], length_rule r.0, twenty_four r.0)

pub line_least : (v : Json) (l : Line) → line_of v ≡ some l → line_size l ≤ least_of v
unfolding line_of
line_least v l e =
    let g = then_some (fields_of line_keys v) _ l e in
    let e0 = then_some (needed string_of (given 0 g.0)) _ l g.2 in
    let e1 = then_some (optional (list_of condition_of) (given 1 g.0)) _ l e0.2 in
    let e2 = then_some (optional string_of (given 2 g.0)) _ l e1.2 in
    let z : line_size (record { call = e0.0; args = e1.0 }) ≡ line_size l = ap line_size (some_same e2.2) in
    let h : ℕ → ℕ = λ f. field_size line_long f (given f g.0) in
    omega (arith, object_size line_long line_keys line_keys_lem v g.0 g.1 3, three h, needed_size line_long string_of (λ y. 1) (λ w b x. least_one w) 0 (given 0 g.0) e0.0 e0.1, args_least (given 1 g.0) e1.0 e1.1)

-- the bytes of a filter's set with its two lengths, its lines not collected and its name left aside
abbrev filter_size : Filter → ℕ
filter_size f = 24 + summed line_size f.lines

-- by field: the actions' shorter keys, filter
abbrev filter_long : ℕ → ℕ
filter_long f = cond (eqb f 0) 14 (cond (eqb f 1) 12 (cond (eqb f 2) 6 0))

filter_keys_lem : keys_long filter_long filter_keys ≡ true
unfolding ascii
filter_keys_lem = refl

pub filter_least : (name : List ℕ) (v : Json) (f : Filter) → filter_of name v ≡ some f → (name ≡ f.name) × (filter_size f ≤ least_of v)
unfolding filter_of
filter_least name v f e =
    let g = then_some (fields_of filter_keys v) _ f e in
    let e0 = then_some (needed action_of (given 0 g.0)) _ f g.2 in
    let e1 = then_some (needed action_of (given 1 g.0)) _ f e0.2 in
    let e2 = then_some (needed (list_of line_of) (given 2 g.0)) _ f e1.2 in
    let is : record { name = name; mismatch = e0.0; on_match = e1.0; lines = e2.0 } ≡ f = some_same e2.2 in
    let z : filter_size (record { name = name; mismatch = e0.0; on_match = e1.0; lines = e2.0 }) ≡ filter_size f = ap filter_size is in
    let h : ℕ → ℕ = λ f. field_size filter_long f (given f g.0) in (
      ap (λ (x : Filter). x.name) is,
      omega (
        arith,
        object_size filter_long filter_keys filter_keys_lem v g.0 g.1 3,
        three h,
        needed_size filter_long action_of (λ y. 1) (λ w b x. least_one w) 0 (given 0 g.0) e0.0 e0.1,
        needed_size filter_long action_of (λ y. 1) (λ w b x. least_one w) 1 (given 1 g.0) e1.0 e1.1,
        needed_size filter_long (list_of line_of) (summed line_size) (λ w ls x. omega (arith, list_size line_of line_size line_least w ls x)) 2 (given 2 g.0) e2.0 e2.1,
      ),
    )

-- and with its name
abbrev named_size : Filter → ℕ
named_size f = length f.name + filter_size f

summed_append : {A : Type 0} (size : A → ℕ) (xs ys : List A) → summed size (xs ++ ys) ≡ summed size xs + summed size ys
summed_append size [] ys = omega arith
summed_append size (x ∷ xs) ys = omega (arith, summed_append size xs ys)

filters_from_lem : (ms : Members) (fs r : List Filter) → filters_from fs ms ≡ some r → summed named_size r ≤ summed named_size fs + least_members ms
unfolding filters_from
filters_from_lem no_members fs r e = let z : summed named_size fs ≡ summed named_size r = ap (summed named_size) (some_same e) in omega arith
filters_from_lem (member k v ms) fs r e =
    let a = check_some (not (named k fs)) (then (filter_of k v) (λ f. filters_from (fs ++ (f ∷ [])) ms)) r e in
    let b = then_some (filter_of k v) (λ f. filters_from (fs ++ (f ∷ [])) ms) r a.1 in
    let n = filter_least k v b.0 b.1 in
    let z : length k ≡ length b.0.name = ap length n.0 in
    omega (arith, n.1, summed_append named_size fs (b.0 ∷ []), filters_from_lem ms (fs ++ (b.0 ∷ [])) r b.2)

pub filters_least : (v : Json) (fs : List Filter) → filters_of v ≡ some fs → summed named_size fs ≤ least_of v
unfolding filters_of
filters_least null fs e = absurd (none_not_some e)
filters_least (boolean b) fs e = absurd (none_not_some e)
filters_least (number t) fs e = absurd (none_not_some e)
filters_least (string s) fs e = absurd (none_not_some e)
filters_least (array vs) fs e = absurd (none_not_some e)
filters_least (object ms) fs e = omega (arith, filters_from_lem ms [] fs e)

-- ---- lines with their numbers, and collected: never longer

numbered_size : (table : List Slot) (ls : List Line) (es : List Entry) → numbered table ls ≡ some es → length (joined encode_entry es) ≡ summed line_size ls
unfolding numbered
numbered_size table [] es e = ap (λ x. length (joined encode_entry x)) (sym (some_same e))
numbered_size table (l ∷ ls) es e =
    let n = then_some (number_for table l.call) _ es e in
    let r = then_some (numbered table ls) _ es n.2 in
    let one : Entry = record { number = n.0; rules = rules_of_args l.args } in
    let z : length (encode_entry one ++ joined encode_entry r.0) ≡ length (joined encode_entry es) = ap (λ x. length (joined encode_entry x)) (some_same r.2) in
    omega (arith, length-append (encode_entry one) (joined encode_entry r.0), length_entry one, numbered_size table ls r.0 r.1)

-- a way to put rules together that makes them no longer
abbrev pub Shrinks : (List Rule → List Rule → List Rule) → Type 0
Shrinks join = (r s : List Rule) → length (joined encode_rule (join r s)) ≤ length (joined encode_rule r) + length (joined encode_rule s)

pub shrinks_upstream : Shrinks in_turn
shrinks_upstream [] s = omega arith
shrinks_upstream (x ∷ r) s =
    omega (arith, length-append (encode_rule x) (joined encode_rule (r ++ s)), length-append (encode_rule x) (joined encode_rule r), shrinks_upstream r s)

pub shrinks_written : Shrinks together
shrinks_written [] s = omega arith
shrinks_written (x ∷ r) [] = omega arith
shrinks_written (x ∷ r) (y ∷ s) = shrinks_upstream (x ∷ r) (y ∷ s)

insert_size : (join : List Rule → List Rule → List Rule) → Shrinks join → (e : Entry) (es : List Entry)
    → length (joined encode_entry (insert join e es)) ≤ length (encode_entry e) + length (joined encode_entry es)
unfolding insert
insert_size join shrinks e [] = omega (arith, length-append (encode_entry e) [])
insert_size join shrinks e (f ∷ fs) = go (ltb e.number f.number) (eqb e.number f.number) (insert_size join shrinks e fs)
  where
    both : Entry
    both = record { number = e.number; rules = join e.rules f.rules }

    go : (a b : Bool) → length (joined encode_entry (insert join e fs)) ≤ length (encode_entry e) + length (joined encode_entry fs)
        → length (joined encode_entry (cond a (e ∷ (f ∷ fs)) (cond b (record { number = e.number; rules = join e.rules f.rules } ∷ fs) (f ∷ insert join e fs))))
        ≤ length (encode_entry e) + length (encode_entry f ++ joined encode_entry fs)
    go true b ih = omega (arith, length-append (encode_entry e) (encode_entry f ++ joined encode_entry fs))
    go false true ih =
        omega (arith, length-append (encode_entry both) (joined encode_entry fs), length-append (encode_entry f) (joined encode_entry fs), length_entry both, length_entry e, length_entry f, shrinks e.rules f.rules)
    go false false ih = omega (arith, length-append (encode_entry f) (joined encode_entry (insert join e fs)), length-append (encode_entry f) (joined encode_entry fs))

pub collected_size : (join : List Rule → List Rule → List Rule) → Shrinks join → (es : List Entry) → length (joined encode_entry (collected join es)) ≤ length (joined encode_entry es)
unfolding collected
collected_size join shrinks [] = omega arith
collected_size join shrinks (e ∷ es) =
    omega (arith, insert_size join shrinks e (collected join es), length-append (encode_entry e) (joined encode_entry es), collected_size join shrinks es)

pub length_set : (rs : RuleSet) → length (encode rs) ≡ 16 + length (joined encode_entry rs.entries)
unfolding encode
length_set rs = simp (length-append, length_bytes) (omega arith)

pub length_named : (s : NamedSet) → length (encode_named s) ≡ 8 + length s.name + length (encode s.set)
unfolding encode_named
length_named s = simp (length-append, length_bytes) (omega arith)

module _ (join : List Rule → List Rule → List Rule) (shrinks : Shrinks join) (table : List Slot) (a : Architecture) (native : Bool) where
  set_size : (f : Filter) (rs : RuleSet) → set_of join table a native f ≡ some rs → 8 + length (encode rs) ≤ filter_size f
  unfolding set_of
  set_size f rs e =
      let n = then_some (numbered table f.lines) _ rs e in
      let c = check_some (taken (set_with a native f n.0)) _ rs n.2 in
      let z : length (encode (set_with a native f (collected join n.0))) ≡ length (encode rs) = ap (λ x. length (encode x)) (some_same c.1) in
      omega (arith, length_set (set_with a native f (collected join n.0)), collected_size join shrinks n.0, numbered_size table f.lines n.0 n.1)

  sets_of_lem : (fs : List Filter) (sets : List NamedSet) → sets_of join table a native fs ≡ some sets → length (joined encode_named sets) ≤ summed named_size fs
  unfolding sets_of
  sets_of_lem [] sets e = let z : 0 ≡ length (joined encode_named sets) = ap (λ x. length (joined encode_named x)) (some_same e) in omega arith
  sets_of_lem (f ∷ fs) sets e =
      let s = then_some (set_of join table a native f) _ sets e in
      let r = then_some (sets_of join table a native fs) _ sets s.2 in
      let one : NamedSet = record { name = f.name; set = s.0 } in
      let z : length (encode_named one ++ joined encode_named r.0) ≡ length (joined encode_named sets) = ap (λ x. length (joined encode_named x)) (some_same r.2) in
      omega (arith, length-append (encode_named one) (joined encode_named r.0), length_named one, set_size f s.0 s.1, sets_of_lem fs r.0 r.1)

  -- the sets of a text's filters are no longer than the text
  pub meant_size : {t : List ℕ} {v : Json} → Text t v → (fs : List Filter) (sets : List NamedSet) → filters_of v ≡ some fs → sets_of join table a native fs ≡ some sets
      → length (joined encode_named sets) ≤ length t
  meant_size {t} {v} w fs sets e m = omega (arith, sets_of_lem fs sets m, filters_least v fs e, text_size w)

  pub sets_size : (t : List ℕ) (fs : List Filter) (rest : List ℕ) (sets : List NamedSet) → read_filters (judges_of table) t ≡ got fs rest → sets_of join table a native fs ≡ some sets
      → length (joined encode_named sets) ≤ length t
  sets_size t fs rest sets e m =
      let f = front_sound (judges_of table) t fs rest e in
      meant_size f.written fs sets f.form m

-- ---- the same of readers: what they give takes no more than they have read

pub reader_size : {A : Type 0} (r : List ℕ → Got A) (f : Json → Option A) → Faithful 0 r f → (size : A → ℕ) → ((v : Json) (a : A) → f v ≡ some a → size a ≤ least_of v)
    → (l : List ℕ) (a : A) (rest : List ℕ) → r l ≡ got a rest → length rest + size a ≤ length l
reader_size r f faith size least l a rest e =
    let v = faith.sound l a rest e in
    let h = ap length v.here ∙ length-append v.bytes rest in
    omega (arith, written_size v.written, least v.is a v.meant)

-- a reader that gives a value has read a byte
pub reader_one : {A : Type 0} (r : List ℕ → Got A) (f : Json → Option A) → Faithful 0 r f → (l : List ℕ) (a : A) (rest : List ℕ) → r l ≡ got a rest → length rest + 1 ≤ length l
reader_one r f faith = reader_size r f faith (λ a. 1) (λ v a e. least_one v)

pub blanks_size : (l : List ℕ) → length (blanks l) ≤ length l
blanks_size l =
    let s = blanks_sound l in
    let h = ap length s.here ∙ length-append s.skipped (blanks l) in
    omega arith

pub key_size : (judge : List ℕ → ℕ) (l k rest : List ℕ) → key_at judge l ≡ got k rest → length rest + length k + 3 ≤ length l
key_size judge l k rest e =
    let w = key_sound judge l k rest e in
    let h = simp length-append at (ap length w.here) in
    omega (arith, characters_size w.spelled)

only_is : {A : Type 0} (ok : A → Bool) (o p : Option A) (a : A) → p ≡ only ok o → p ≡ some a → o ≡ some a
only_is ok o p a e f =
    let s = then_some o (λ x. check (ok x) (some x)) a (sym e ∙ f) in
    let c = check_some (ok s.0) (some s.0) a s.2 in
    s.1 ∙ c.1

condition_by_lem : (j : Judges) (v : Json) (c : Condition) → condition_by j v ≡ some c → condition_of v ≡ some c
condition_by_lem j v c e = only_is (ok_condition j) (condition_of v) (condition_by j v) c (condition_only j v) e

pub condition_size : (j : Judges) (l : List ℕ) (c : Condition) (rest : List ℕ) → condition_there j l ≡ got c rest → length rest + 32 ≤ length l
condition_size j = reader_size (condition_there j) (condition_by j) (condition_faithful 0 j) (λ c. 32) (λ v c e. condition_least v c (condition_by_lem j v c e))

pub args_size : (j : Judges) (l : List ℕ) (r : Rule) (rest : List ℕ) → list_there (condition_there j) l ≡ got r rest → length rest + (2 + 24 * length r) ≤ length l
args_size j =
    reader_size (list_there (condition_there j)) (list_of (condition_by j)) (list_faithful 0 (condition_there j) (condition_by j) (condition_faithful 0 j)) (λ r. 2 + 24 * length r)
    (rule_least (condition_by j) (condition_by_lem j))

line_by_lem : (j : Judges) (v : Json) (l : Line) → line_by j v ≡ some l → line_size l ≤ least_of v
line_by_lem j v l e = line_least v l (only_is (ok_line j) (line_of v) (line_by j v) l (line_only j v) e)

pub line_size_lem : (j : Judges) (l : List ℕ) (line : Line) (rest : List ℕ) → line_there j l ≡ got line rest
    → (n : ℕ) → length rest + length (encode_entry (record { number = n; rules = rules_of_args line.args })) ≤ length l
line_size_lem j l line rest e n =
    omega (arith, reader_size (line_there j) (line_by j) (line_faithful 0 j) line_size (line_by_lem j) l line rest e, length_entry (record { number = n; rules = rules_of_args line.args }))

pub lines_size : (j : Judges) (table : List Slot) (l : List ℕ) (ls : List Line) (rest : List ℕ) → list_there (line_there j) l ≡ got ls rest
    → (es : List Entry) → numbered table ls ≡ some es → length rest + length (joined encode_entry es) ≤ length l
lines_size j table l ls rest e es n =
    omega (arith, reader_size (list_there (line_there j)) (list_of (line_by j)) (list_faithful 0 (line_there j) (line_by j) (line_faithful 0 j)) (λ x. 2 + summed line_size x) (list_size (line_by j) line_size (line_by_lem j)) l ls rest e, numbered_size table ls es n)

pub filter_size_lem : (j : Judges) (table : List Slot) (name l : List ℕ) (f : Filter) (rest : List ℕ) → filter_there j name l ≡ got f rest
    → (es : List Entry) → numbered table f.lines ≡ some es → length rest + 24 + length (joined encode_entry es) ≤ length l
filter_size_lem j table name l f rest e es n =
    omega (arith, reader_size (filter_there j name) (filter_by j name) (filter_faithful 0 j name) filter_size (λ v x h. (filter_least name v x (only_is (ok_filter j) (filter_of name v) (filter_by j name v) x (filter_only j name v) h)).1) l f rest e, numbered_size table f.lines es n)
