-- Conditions, lines, filters and all filters of a text: the reader of each is faithful to what the schema says, less what the judges refuse.
-- Assumes nothing.
use mathlib.Core.Path.{◌≡◌, refl, ap, ◌∙◌}
use mathlib.Core.Bool.{Bool, true, false, cond, not, ◌&&◌}
use mathlib.Core.List.{List, [], ◌∷◌, ◌++◌}
use mathlib.Core.Option.{Option, none, some}
use Prim.Native.Nat.{ℕ, zero, suc, ◌+◌, ◌-◌, ◌%◌, ◌^◌, ◌<◌}
use native.Mathlib.Omega.{arith}
use Rattle.definitions.specs.declared.Operator.TheVariants.{MaskedEq}
use Rattle.definitions.specs.declared.Width.{Width}
use Rattle.definitions.specs.declared.Condition.{Condition}
use Rattle.definitions.specs.RuleSet.{Rule}
use Rattle.definitions.specs.Format.{then, check}
use Rattle.definitions.specs.Json.{ascii, Json, null, boolean, number, string, array, object, Values, no_values, value, Members, no_members, member}
use Rattle.definitions.specs.JsonForm.{same, natural, string_of, each_of, list_of, Given, fields_of, given, needed, optional, Only, only_of, word_of, action_words, numbered_words, width_words, operator_words, action_of, operator_of, Compared, Line, Filter, condition_keys, condition_of, line_keys, line_of, filter_keys, filter_of, named, filters_from, filters_of}
use Rattle.definitions.specs.FormReader.{string_there, behind_key, members_in}
use Rattle.definitions.specs.FormReader.{equal_actions, empty_args, wrong_index, too_wide, given_twice, unknown_call, put_in, natural_there, list_there, action_there, operator_there, as_index, as_width, as_operator, as_value, as_comment, condition_from, condition_reads, condition_there, as_call, as_args, as_remark, line_from, line_reads, line_there, as_action, as_lines, filter_from, filter_reads, filter_there, filters_there, Judges, ConditionPart, LinePart, FilterPart, the_index, the_width, the_operator, the_value, the_comment, the_call, the_args, the_remark, the_action, the_lines}
use Rattle.json_theorems.proofs.Tests.{none_not_some, then_some, check_some}
use Rattle.json_theorems.proofs.Loops.{Faithful, Lets, fold_members}
use Rattle.json_theorems.proofs.Faith.{some_same, string_faithful, object_faithful}
use Rattle.json_theorems.proofs.Typed.{slots}
use Rattle.json_theorems.proofs.Form.{faithful_as, then_same, asked_faithful, put_faithful, none_faithful, natural_faithful, word_faithful, list_faithful, or_null, null_faithful, is_string, either_faithful, one_faithful, keyed_object, needed_slot, optional_slot}

-- ---- actions and operators

string_words : {A : Type 0} (g : List ℕ → Option A) (v : Json) (a : A) → then (string_of v) g ≡ some a → is_string v ≡ true
unfolding string_of
string_words g null a e = absurd (none_not_some e)
string_words g (boolean b) a e = absurd (none_not_some e)
string_words g (number t) a e = absurd (none_not_some e)
string_words g (string s) a e = refl
string_words g (array vs) a e = absurd (none_not_some e)
string_words g (object ms) a e = absurd (none_not_some e)

only_objects : {A : Type 0} (g : Only → Option A) (v : Json) (a : A) → then (only_of v) g ≡ some a → is_string v ≡ false
only_objects g null a e = refl
only_objects g (boolean b) a e = refl
only_objects g (number t) a e = refl
only_objects g (string s) a e = absurd (none_not_some e)
only_objects g (array vs) a e = refl
only_objects g (object ms) a e = refl

pub action_faithful : (m : ℕ) → Faithful m action_there action_of
unfolding action_there action_of
action_faithful m =
    either_faithful m _ _ (λ v. then (string_of v) (word_of action_words))
    (λ v. then (only_of v) (λ o. then (word_of numbered_words o.key) (λ w. then (natural (2 ^ 32 - 1) o.value) (λ n. some (w + n % 2 ^ 16)))))
    (word_faithful m (word_of action_words))
    (one_faithful m (word_of numbered_words) (λ w. put_in (λ n. w + n % 2 ^ 16) (natural_there (2 ^ 32 - 1))) (λ w v. then (natural (2 ^ 32 - 1) v) (λ n. some (w + n % 2 ^ 16)))
    (λ w. put_faithful m (natural_there (2 ^ 32 - 1)) (natural (2 ^ 32 - 1)) (λ n. w + n % 2 ^ 16) (natural_faithful m (2 ^ 32 - 1))))
    (string_words (word_of action_words)) (only_objects _)

abbrev masked_of : ℕ → Compared
masked_of x = record { operator = MaskedEq; mask = x }

abbrev plain_of : List ℕ → Option Compared
plain_of s = then (word_of operator_words s) (λ o. some (record { operator = o; mask = 0 }))

masked_as : (v : Json) → then (only_of v) (λ o. then (check (same (ascii "masked_eq") o.key) (some 0)) (λ (w : ℕ). then (natural (2 ^ 64 - 1) o.value) (λ n. some (masked_of n))))
    ≡ then (only_of v) (λ o. check (same (ascii "masked_eq") o.key) (then (natural (2 ^ 64 - 1) o.value) (λ n. some (masked_of n))))
masked_as v = then_same (only_of v) _ _ (λ o. go (same (ascii "masked_eq") o.key) (then (natural (2 ^ 64 - 1) o.value) (λ n. some (masked_of n))))
  where
    go : (t : Bool) (x : Option Compared) → then (check t (some 0)) (λ (w : ℕ). x) ≡ check t x
    go true x = refl
    go false x = refl

pub operator_faithful : (m : ℕ) → Faithful m operator_there operator_of
unfolding operator_there operator_of
operator_faithful m =
    either_faithful m _ _ (λ v. then (string_of v) plain_of)
    (λ v. then (only_of v) (λ o. check (same (ascii "masked_eq") o.key) (then (natural (2 ^ 64 - 1) o.value) (λ n. some (masked_of n)))))
    (word_faithful m plain_of)
    (faithful_as m _ _ _ masked_as
    (one_faithful {A = ℕ} m (λ k. check (same (ascii "masked_eq") k) (some 0)) (λ w. put_in masked_of (natural_there (2 ^ 64 - 1))) (λ w v. then (natural (2 ^ 64 - 1) v) (λ n. some (masked_of n)))
    (λ w. put_faithful m (natural_there (2 ^ 64 - 1)) (natural (2 ^ 64 - 1)) masked_of (natural_faithful m (2 ^ 64 - 1)))))
    (string_words plain_of) (only_objects _)

-- ---- what the judges take

abbrev pub every : {A : Type 0} → (A → Bool) → List A → Bool
every ok [] = true
every ok (a ∷ as') = ok a && every ok as'

abbrev pub ok_condition : Judges → Condition → Bool
ok_condition j c = j.index c.index && j.fits c

abbrev pub ok_args : Judges → Option Rule → Bool
ok_args j none = true
ok_args j (some r) = every (ok_condition j) r && j.filled r

abbrev pub ok_line : Judges → Line → Bool
ok_line j l = j.known l.call && ok_args j l.args

abbrev pub ok_filter : Judges → Filter → Bool
ok_filter j f = every (ok_line j) f.lines && j.differ f.mismatch f.on_match

-- a function less what is refused
abbrev pub only : {A : Type 0} → (A → Bool) → Option A → Option A
only ok o = then o (λ a. check (ok a) (some a))

each_only : {A : Type 0} (f g : Json → Option A) (ok : A → Bool) → ((v : Json) → g v ≡ only ok (f v)) → (vs : Values) → each_of g vs ≡ only (every ok) (each_of f vs)
unfolding each_of
each_only f g ok e no_values = refl
each_only {A} f g ok e (value v vs) =
    ap (λ (o : Option A). then o (λ a. then (each_of g vs) (λ xs. some (a ∷ xs)))) (e v)
    ∙ ap (λ (o : Option (List A)). then (only ok (f v)) (λ a. then o (λ xs. some (a ∷ xs)))) (each_only f g ok e vs) ∙ go (f v) (each_of f vs)
  where
    go : (o : Option A) (p : Option (List A)) → then (only ok o) (λ a. then (only (every ok) p) (λ xs. some (a ∷ xs))) ≡ only (every ok) (then o (λ a. then p (λ xs. some (a ∷ xs))))
    go none p = refl
    go (some a) none = by (ok a)
      where
        by : (t : Bool) → ◌≡◌ {A = Option (List A)} (then (check t (some a)) (λ x. none)) none
        by true = refl
        by false = refl
    go (some a) (some xs) = by (ok a) (every ok xs)
      where
        by : (t u : Bool) → then (check t (some a)) (λ x. then (check u (some xs)) (λ ys. some (x ∷ ys))) ≡ check (t && u) (some (a ∷ xs))
        by true true = refl
        by true false = refl
        by false u = refl

list_only : {A : Type 0} (f g : Json → Option A) (ok : A → Bool) → ((v : Json) → g v ≡ only ok (f v)) → (v : Json) → list_of g v ≡ only (every ok) (list_of f v)
unfolding list_of
list_only f g ok e null = refl
list_only f g ok e (boolean b) = refl
list_only f g ok e (number t) = refl
list_only f g ok e (string s) = refl
list_only f g ok e (object ms) = refl
list_only f g ok e (array vs) = each_only f g ok e vs

only_only : {A : Type 0} (p q : A → Bool) (o : Option A) → only q (only p o) ≡ only (λ a. p a && q a) o
only_only p q none = refl
only_only p q (some a) = by (p a)
  where
    by : (t : Bool) → only q (check t (some a)) ≡ check (t && q a) (some a)
    by true = refl
    by false = refl

needed_only : {A : Type 0} (f g : Json → Option A) (ok : A → Bool) → ((v : Json) → g v ≡ only ok (f v)) → (o : Option Json) → needed g o ≡ only ok (needed f o)
needed_only f g ok e none = refl
needed_only f g ok e (some v) = e v

abbrev ok_or : {A : Type 0} → (A → Bool) → Option A → Bool
ok_or ok none = true
ok_or ok (some a) = ok a

or_only : {A : Type 0} (ok : A → Bool) (o : Option A) → then (only ok o) (λ a. some (some a)) ≡ only (ok_or ok) (then o (λ a. some (some a)))
or_only ok none = refl
or_only {A} ok (some a) = by (ok a)
  where
    by : (t : Bool) → then (check t (some a)) (λ x. some (some x)) ≡ check t (some (some a))
    by true = refl
    by false = refl

optional_only : {A : Type 0} (f g : Json → Option A) (ok : A → Bool) → ((v : Json) → g v ≡ only ok (f v)) → (o : Option Json) → optional g o ≡ only (ok_or ok) (optional f o)
optional_only f g ok e none = refl
optional_only f g ok e (some null) = refl
optional_only f g ok e (some (boolean b)) = rw (e (boolean b)) (or_only ok (f (boolean b)))
optional_only f g ok e (some (number t)) = rw (e (number t)) (or_only ok (f (number t)))
optional_only f g ok e (some (string s)) = rw (e (string s)) (or_only ok (f (string s)))
optional_only f g ok e (some (array vs)) = rw (e (array vs)) (or_only ok (f (array vs)))
optional_only f g ok e (some (object ms)) = rw (e (object ms)) (or_only ok (f (object ms)))

-- ---- conditions

abbrev index_by : Judges → Json → Option ℕ
index_by j v = only j.index (natural 255 v)

abbrev width_of : Json → Option Width
width_of v = then (string_of v) (word_of width_words)

abbrev condition_kind : Judges → ℕ → Json → Option ConditionPart
condition_kind j zero v = then (index_by j v) (λ i. some (the_index i))
condition_kind j (suc zero) v = then (width_of v) (λ w. some (the_width w))
condition_kind j (suc (suc zero)) v = then (operator_of v) (λ o. some (the_operator o))
condition_kind j (suc (suc (suc zero))) v = then (natural (2 ^ 64 - 1) v) (λ x. some (the_value x))
condition_kind j (suc (suc (suc (suc zero)))) v = then (or_null string_of v) (λ c. some (the_comment c))
condition_kind j (suc (suc (suc (suc (suc n))))) v = none

no_string : string_of null ≡ none
unfolding string_of
no_string = refl

condition_kinds : (m : ℕ) (j : Judges) (f : ℕ) → Faithful m (condition_reads j f) (condition_kind j f)
condition_kinds m j zero = put_faithful m _ _ (λ i. the_index i) (asked_faithful m (natural_there 255) (natural 255) (natural_faithful m 255) j.index wrong_index)
condition_kinds m j (suc zero) = put_faithful m _ _ (λ w. the_width w) (word_faithful m (word_of width_words))
condition_kinds m j (suc (suc zero)) = put_faithful m _ _ (λ o. the_operator o) (operator_faithful m)
condition_kinds m j (suc (suc (suc zero))) = put_faithful m _ _ (λ x. the_value x) (natural_faithful m (2 ^ 64 - 1))
condition_kinds m j (suc (suc (suc (suc zero)))) = put_faithful m _ _ (λ c. the_comment c) (null_faithful m string_there string_of (string_faithful m) no_string)
condition_kinds m j (suc (suc (suc (suc (suc n))))) = none_faithful m

condition_strict : (s : ℕ → Option (Option ConditionPart)) (b : Condition) → condition_from s ≡ some b → (f : ℕ) → f < 5 → (a : Option ConditionPart) × (s f ≡ some a)
condition_strict s b e f less =
    let e0 = then_some (then (s 0) as_index) _ b e in
    let e1 = then_some (then (s 1) as_width) _ b e0.2 in
    let e2 = then_some (then (s 2) as_operator) _ b e1.2 in
    let e3 = then_some (then (s 3) as_value) _ b e2.2 in
    let e4 = then_some (then (s 4) as_comment) _ b e3.2 in
    let d0 = then_some (s 0) as_index e0.0 e0.1 in
    let d1 = then_some (s 1) as_width e1.0 e1.1 in
    let d2 = then_some (s 2) as_operator e2.0 e2.1 in
    let d3 = then_some (s 3) as_value e3.0 e3.1 in
    let d4 = then_some (s 4) as_comment e4.0 e4.1 in
    go f less (d0.0, d0.1) (d1.0, d1.1) (d2.0, d2.1) (d3.0, d3.1) (d4.0, d4.1)
  where
    Is : ℕ → Type 0
    Is f = (a : Option ConditionPart) × (s f ≡ some a)

    go : (f : ℕ) → f < 5 → (a : Option ConditionPart) × (s 0 ≡ some a) → (a : Option ConditionPart) × (s 1 ≡ some a) → (a : Option ConditionPart) × (s 2 ≡ some a)
        → (a : Option ConditionPart) × (s 3 ≡ some a) → (a : Option ConditionPart) × (s 4 ≡ some a) → (a : Option ConditionPart) × (s f ≡ some a)
    go zero h a b c d x = a
    go (suc zero) h a b c d x = b
    go (suc (suc zero)) h a b c d x = c
    go (suc (suc (suc zero))) h a b c d x = d
    go (suc (suc (suc (suc zero)))) h a b c d x = x
    go (suc (suc (suc (suc (suc n))))) h a b c d x = absurd (omega arith)

unfoldable pub condition_by : Judges → Json → Option Condition
condition_by j v = only j.fits (then (fields_of condition_keys v) (λ g. condition_from (slots condition_keys (condition_kind j) g)))

pub condition_faithful : (m : ℕ) (j : Judges) → Faithful m (condition_there j) (condition_by j)
unfolding condition_there condition_by
condition_faithful m j =
    asked_faithful m _ _ (keyed_object m 5 condition_keys refl (condition_reads j) (condition_kind j) (condition_kinds m j) condition_from condition_strict) j.fits too_wide

unfoldable condition_with : Option ℕ → Option Width → Option Compared → Option ℕ → Option (Option (List ℕ)) → Option Condition
condition_with a b c d e =
    then a (λ i. then b (λ w. then c (λ o. then d (λ x. then e (λ r.
    some (record { index = i; width = w; operator = o.operator; value = x; mask = o.mask }))))))

condition_late : (t : ℕ → Bool) (fits : Condition → Bool) (a : Option ℕ) (b : Option Width) (c : Option Compared) (d : Option ℕ) (e : Option (Option (List ℕ)))
    → only fits (condition_with (only t a) b c d e) ≡ only (λ (x : Condition). t x.index && fits x) (condition_with a b c d e)
unfolding condition_with
condition_late t fits none b c d e = refl
condition_late t fits (some i) b c d e = go (t i) refl b c d e
  where
    go : (u : Bool) → t i ≡ u → (b : Option Width) (c : Option Compared) (d : Option ℕ) (e : Option (Option (List ℕ)))
        → only fits (condition_with (check u (some i)) b c d e) ≡ only (λ (x : Condition). t x.index && fits x) (condition_with (some i) b c d e)
    go true is none c d e = refl
    go true is (some w) none d e = refl
    go true is (some w) (some o) none e = refl
    go true is (some w) (some o) (some x) none = refl
    go true is (some w) (some o) (some x) (some r) = rw is
    go false is none c d e = refl
    go false is (some w) none d e = refl
    go false is (some w) (some o) none e = refl
    go false is (some w) (some o) (some x) none = refl
    go false is (some w) (some o) (some x) (some r) = rw is

condition_with_lem : (a a' : Option ℕ) (b b' : Option Width) (c c' : Option Compared) (d d' : Option ℕ) (e e' : Option (Option (List ℕ)))
    → a ≡ a' → b ≡ b' → c ≡ c' → d ≡ d' → e ≡ e' → condition_with a b c d e ≡ condition_with a' b' c' d' e'
condition_with_lem a a' b b' c c' d d' e e' ea eb ec ed ee = cc

-- a condition by the judges is the schema's, less what they refuse
pub condition_only : (j : Judges) (v : Json) → condition_by j v ≡ only (ok_condition j) (condition_of v)
unfolding condition_by condition_of condition_with
condition_only j v = go (fields_of condition_keys v)
  where
    one : (g : List Given) → condition_from (slots condition_keys (condition_kind j) g)
        ≡ condition_with (only j.index (needed (natural 255) (given 0 g))) (needed width_of (given 1 g)) (needed operator_of (given 2 g)) (needed (natural (2 ^ 64 - 1)) (given 3 g)) (optional string_of (given 4 g))
    one g =
        condition_with_lem _ _ _ _ _ _ _ _ _ _
        (needed_slot (index_by j) (λ i. the_index i) as_index refl (λ x. refl) (given 0 g) ∙ needed_only (natural 255) (index_by j) j.index (λ u. refl) (given 0 g))
        (needed_slot width_of (λ w. the_width w) as_width refl (λ x. refl) (given 1 g))
        (needed_slot operator_of (λ o. the_operator o) as_operator refl (λ x. refl) (given 2 g))
        (needed_slot (natural (2 ^ 64 - 1)) (λ x. the_value x) as_value refl (λ x. refl) (given 3 g))
        (optional_slot string_of (λ c. the_comment c) as_comment refl (λ x. refl) (given 4 g))

    go : (o : Option (List Given)) → only j.fits (then o (λ g. condition_from (slots condition_keys (condition_kind j) g)))
        ≡ only (ok_condition j) (then o (λ g. condition_with (needed (natural 255) (given 0 g)) (needed width_of (given 1 g)) (needed operator_of (given 2 g)) (needed (natural (2 ^ 64 - 1)) (given 3 g)) (optional string_of (given 4 g))))
    go none = refl
    go (some g) = ap (λ (o : Option Condition). only j.fits o) (one g) ∙ condition_late j.index j.fits (needed (natural 255) (given 0 g)) (needed width_of (given 1 g)) (needed operator_of (given 2 g)) (needed (natural (2 ^ 64 - 1)) (given 3 g)) (optional string_of (given 4 g))

-- ---- lines

abbrev call_by : Judges → Json → Option (List ℕ)
call_by j v = only j.known (string_of v)

abbrev args_by : Judges → Json → Option Rule
args_by j v = only j.filled (list_of (condition_by j) v)

abbrev line_kind : Judges → ℕ → Json → Option LinePart
line_kind j zero v = then (call_by j v) (λ s. some (the_call s))
line_kind j (suc zero) v = then (or_null (args_by j) v) (λ r. some (the_args r))
line_kind j (suc (suc zero)) v = then (or_null string_of v) (λ c. some (the_remark c))
line_kind j (suc (suc (suc n))) v = none

no_args : (j : Judges) → args_by j null ≡ none
unfolding list_of
no_args j = refl

line_kinds : (m : ℕ) (j : Judges) (f : ℕ) → Faithful m (line_reads j f) (line_kind j f)
line_kinds m j zero = put_faithful m _ _ (λ s. the_call s) (asked_faithful m string_there string_of (string_faithful m) j.known unknown_call)
line_kinds m j (suc zero) =
    put_faithful m _ _ (λ r. the_args r)
    (null_faithful m _ (args_by j) (asked_faithful m (list_there (condition_there j)) (list_of (condition_by j)) (list_faithful m (condition_there j) (condition_by j) (condition_faithful m j)) j.filled empty_args) (no_args j))
line_kinds m j (suc (suc zero)) = put_faithful m _ _ (λ c. the_remark c) (null_faithful m string_there string_of (string_faithful m) no_string)
line_kinds m j (suc (suc (suc n))) = none_faithful m

line_strict : (s : ℕ → Option (Option LinePart)) (b : Line) → line_from s ≡ some b → (f : ℕ) → f < 3 → (a : Option LinePart) × (s f ≡ some a)
line_strict s b e f less =
    let e0 = then_some (then (s 0) as_call) _ b e in
    let e1 = then_some (then (s 1) as_args) _ b e0.2 in
    let e2 = then_some (then (s 2) as_remark) _ b e1.2 in
    let d0 = then_some (s 0) as_call e0.0 e0.1 in
    let d1 = then_some (s 1) as_args e1.0 e1.1 in
    let d2 = then_some (s 2) as_remark e2.0 e2.1 in
    go f less (d0.0, d0.1) (d1.0, d1.1) (d2.0, d2.1)
  where
    go : (f : ℕ) → f < 3 → (a : Option LinePart) × (s 0 ≡ some a) → (a : Option LinePart) × (s 1 ≡ some a) → (a : Option LinePart) × (s 2 ≡ some a)
        → (a : Option LinePart) × (s f ≡ some a)
    go zero h a b c = a
    go (suc zero) h a b c = b
    go (suc (suc zero)) h a b c = c
    go (suc (suc (suc n))) h a b c = absurd (omega arith)

unfoldable pub line_by : Judges → Json → Option Line
line_by j v = then (fields_of line_keys v) (λ g. line_from (slots line_keys (line_kind j) g))

pub line_faithful : (m : ℕ) (j : Judges) → Faithful m (line_there j) (line_by j)
unfolding line_there line_by
line_faithful m j = keyed_object m 3 line_keys refl (line_reads j) (line_kind j) (line_kinds m j) line_from line_strict

abbrev line_is : List ℕ → Option Rule → Line
line_is name args = record { call = name; args = args }

unfoldable line_with : Option (List ℕ) → Option (Option Rule) → Option (Option (List ℕ)) → Option Line
line_with a b c = then a (λ name. then b (λ args. then c (λ r. some (record { call = name; args = args }))))

line_late : (p : List ℕ → Bool) (q : Option Rule → Bool) (a : Option (List ℕ)) (b : Option (Option Rule)) (c : Option (Option (List ℕ)))
    → line_with (only p a) (only q b) c ≡ only (λ (x : Line). p x.call && q x.args) (line_with a b c)
unfolding line_with
line_late p q none b c = refl
line_late p q (some s) none c = go (p s)
  where
    go : (t : Bool) → ◌≡◌ {A = Option Line} (then (check t (some s)) (λ x. none)) none
    go true = refl
    go false = refl
line_late p q (some s) (some r) none = go (p s) (q r)
  where
    go : (t u : Bool) → ◌≡◌ {A = Option Line} (then (check t (some s)) (λ name. then (check u (some r)) (λ args. none))) none
    go true true = refl
    go true false = refl
    go false u = refl
line_late p q (some s) (some r) (some x) = go (p s) (q r)
  where
    go : (t u : Bool) → then (check t (some s)) (λ name. then (check u (some r)) (λ args. some (line_is name args))) ≡ check (t && u) (some (line_is s r))
    go true true = refl
    go true false = refl
    go false u = refl

line_with_lem : (a a' : Option (List ℕ)) (b b' : Option (Option Rule)) (c c' : Option (Option (List ℕ))) → a ≡ a' → b ≡ b' → c ≡ c' → line_with a b c ≡ line_with a' b' c'
line_with_lem a a' b b' c c' ea eb ec = cc

args_ok : (j : Judges) (o : Option Rule) → ok_or (λ r. every (ok_condition j) r && j.filled r) o ≡ ok_args j o
args_ok j none = refl
args_ok j (some r) = refl

args_only : (j : Judges) (v : Json) → args_by j v ≡ only (λ r. every (ok_condition j) r && j.filled r) (list_of condition_of v)
args_only j v =
    ap (λ (o : Option Rule). only j.filled o) (list_only condition_of (condition_by j) (ok_condition j) (condition_only j) v) ∙ only_only (every (ok_condition j)) j.filled (list_of condition_of v)

only_same : {A : Type 0} (p q : A → Bool) (o : Option A) → ((a : A) → p a ≡ q a) → only p o ≡ only q o
only_same p q none e = refl
only_same p q (some a) e = rw (e a)

pub line_only : (j : Judges) (v : Json) → line_by j v ≡ only (ok_line j) (line_of v)
unfolding line_by line_of line_with
line_only j v = go (fields_of line_keys v)
  where
    one : (g : List Given) → line_from (slots line_keys (line_kind j) g)
        ≡ line_with (only j.known (needed string_of (given 0 g))) (only (ok_args j) (optional (list_of condition_of) (given 1 g))) (optional string_of (given 2 g))
    one g =
        line_with_lem _ _ _ _ _ _
        (needed_slot (call_by j) (λ s. the_call s) as_call refl (λ x. refl) (given 0 g) ∙ needed_only string_of (call_by j) j.known (λ u. refl) (given 0 g))
        (optional_slot (args_by j) (λ r. the_args r) as_args refl (λ x. refl) (given 1 g)
        ∙ optional_only (list_of condition_of) (args_by j) (λ r. every (ok_condition j) r && j.filled r) (args_only j) (given 1 g)
        ∙ only_same (ok_or (λ r. every (ok_condition j) r && j.filled r)) (ok_args j) (optional (list_of condition_of) (given 1 g)) (args_ok j))
        (optional_slot string_of (λ c. the_remark c) as_remark refl (λ x. refl) (given 2 g))

    go : (o : Option (List Given)) → then o (λ g. line_from (slots line_keys (line_kind j) g))
        ≡ only (ok_line j) (then o (λ g. line_with (needed string_of (given 0 g)) (optional (list_of condition_of) (given 1 g)) (optional string_of (given 2 g))))
    go none = refl
    go (some g) = one g ∙ line_late j.known (ok_args j) (needed string_of (given 0 g)) (optional (list_of condition_of) (given 1 g)) (optional string_of (given 2 g))

-- ---- filters

abbrev filter_kind : Judges → ℕ → Json → Option FilterPart
filter_kind j zero v = then (action_of v) (λ a. some (the_action a))
filter_kind j (suc zero) v = then (action_of v) (λ a. some (the_action a))
filter_kind j (suc (suc zero)) v = then (list_of (line_by j) v) (λ ls. some (the_lines ls))
filter_kind j (suc (suc (suc n))) v = none

filter_kinds : (m : ℕ) (j : Judges) (f : ℕ) → Faithful m (filter_reads j f) (filter_kind j f)
filter_kinds m j zero = put_faithful m _ _ (λ a. the_action a) (action_faithful m)
filter_kinds m j (suc zero) = put_faithful m _ _ (λ a. the_action a) (action_faithful m)
filter_kinds m j (suc (suc zero)) = put_faithful m _ _ (λ ls. the_lines ls) (list_faithful m (line_there j) (line_by j) (line_faithful m j))
filter_kinds m j (suc (suc (suc n))) = none_faithful m

filter_strict : (name : List ℕ) (s : ℕ → Option (Option FilterPart)) (b : Filter) → filter_from name s ≡ some b → (f : ℕ) → f < 3 → (a : Option FilterPart) × (s f ≡ some a)
filter_strict name s b e f less =
    let e0 = then_some (then (s 0) as_action) _ b e in
    let e1 = then_some (then (s 1) as_action) _ b e0.2 in
    let e2 = then_some (then (s 2) as_lines) _ b e1.2 in
    let d0 = then_some (s 0) as_action e0.0 e0.1 in
    let d1 = then_some (s 1) as_action e1.0 e1.1 in
    let d2 = then_some (s 2) as_lines e2.0 e2.1 in
    go f less (d0.0, d0.1) (d1.0, d1.1) (d2.0, d2.1)
  where
    go : (f : ℕ) → f < 3 → (a : Option FilterPart) × (s 0 ≡ some a) → (a : Option FilterPart) × (s 1 ≡ some a) → (a : Option FilterPart) × (s 2 ≡ some a)
        → (a : Option FilterPart) × (s f ≡ some a)
    go zero h a b c = a
    go (suc zero) h a b c = b
    go (suc (suc zero)) h a b c = c
    go (suc (suc (suc n))) h a b c = absurd (omega arith)

abbrev differs : Judges → Filter → Bool
differs j f = j.differ f.mismatch f.on_match

unfoldable pub filter_by : Judges → List ℕ → Json → Option Filter
filter_by j name v = only (differs j) (then (fields_of filter_keys v) (λ g. filter_from name (slots filter_keys (filter_kind j) g)))

pub filter_faithful : (m : ℕ) (j : Judges) (name : List ℕ) → Faithful m (filter_there j name) (filter_by j name)
unfolding filter_there filter_by
filter_faithful m j name =
    asked_faithful m _ _ (keyed_object m 3 filter_keys refl (filter_reads j) (filter_kind j) (filter_kinds m j) (filter_from name) (filter_strict name)) (differs j) equal_actions

abbrev filter_is : List ℕ → ℕ → ℕ → List Line → Filter
filter_is name d m lines = record { name = name; mismatch = d; on_match = m; lines = lines }

unfoldable filter_with : List ℕ → Option ℕ → Option ℕ → Option (List Line) → Option Filter
filter_with name a b c = then a (λ d. then b (λ m. then c (λ lines. some (record { name = name; mismatch = d; on_match = m; lines = lines }))))

filter_late : (name : List ℕ) (p : List Line → Bool) (q : ℕ → ℕ → Bool) (a b : Option ℕ) (c : Option (List Line))
    → only (λ (f : Filter). q f.mismatch f.on_match) (filter_with name a b (only p c)) ≡ only (λ (f : Filter). p f.lines && q f.mismatch f.on_match) (filter_with name a b c)
unfolding filter_with
filter_late name p q none b c = refl
filter_late name p q (some d) none c = refl
filter_late name p q (some d) (some m) none = refl
filter_late name p q (some d) (some m) (some ls) = go (p ls)
  where
    go : (t : Bool) → only (λ (f : Filter). q f.mismatch f.on_match) (then (check t (some ls)) (λ lines. some (filter_is name d m lines)))
        ≡ check (t && q d m) (some (filter_is name d m ls))
    go true = refl
    go false = refl

filter_with_lem : (name : List ℕ) (a a' b b' : Option ℕ) (c c' : Option (List Line)) → a ≡ a' → b ≡ b' → c ≡ c' → filter_with name a b c ≡ filter_with name a' b' c'
filter_with_lem name a a' b b' c c' ea eb ec = cc

pub filter_only : (j : Judges) (name : List ℕ) (v : Json) → filter_by j name v ≡ only (ok_filter j) (filter_of name v)
unfolding filter_by filter_of filter_with
filter_only j name v = go (fields_of filter_keys v)
  where
    one : (g : List Given) → filter_from name (slots filter_keys (filter_kind j) g)
        ≡ filter_with name (needed action_of (given 0 g)) (needed action_of (given 1 g)) (only (every (ok_line j)) (needed (list_of line_of) (given 2 g)))
    one g =
        filter_with_lem name _ _ _ _ _ _
        (needed_slot action_of (λ a. the_action a) as_action refl (λ x. refl) (given 0 g))
        (needed_slot action_of (λ a. the_action a) as_action refl (λ x. refl) (given 1 g))
        (needed_slot (list_of (line_by j)) (λ ls. the_lines ls) as_lines refl (λ x. refl) (given 2 g)
        ∙ needed_only (list_of line_of) (list_of (line_by j)) (every (ok_line j)) (list_only line_of (line_by j) (ok_line j) (line_only j)) (given 2 g))

    go : (o : Option (List Given)) → only (differs j) (then o (λ g. filter_from name (slots filter_keys (filter_kind j) g)))
        ≡ only (ok_filter j) (then o (λ g. filter_with name (needed action_of (given 0 g)) (needed action_of (given 1 g)) (needed (list_of line_of) (given 2 g))))
    go none = refl
    go (some g) =
        ap (λ (o : Option Filter). only (differs j) o) (one g)
        ∙ filter_late name (every (ok_line j)) j.differ (needed action_of (given 0 g)) (needed action_of (given 1 g)) (needed (list_of line_of) (given 2 g))

-- ---- all filters of a text

abbrev add_filter : Judges → List Filter → List ℕ → Json → Option (List Filter)
add_filter j fs k v = check (not (named k fs)) (then (filter_by j k v) (λ f. some (fs ++ (f ∷ []))))

filter_step : (m : ℕ) (j : Judges) (fs : List Filter) (k : List ℕ)
    → Faithful m (behind_key (check (not (named k fs)) (some (put_in (λ f. fs ++ (f ∷ [])) (filter_there j k))))) (add_filter j fs k)
filter_step m j fs k = go (named k fs)
  where
    go : (d : Bool) → Faithful m (behind_key (check (not d) (some (put_in (λ f. fs ++ (f ∷ [])) (filter_there j k))))) (λ v. check (not d) (then (filter_by j k v) (λ f. some (fs ++ (f ∷ [])))))
    go true = none_faithful m
    go false = put_faithful m (filter_there j k) (filter_by j k) (λ f. fs ++ (f ∷ [])) (filter_faithful m j k)

filter_lets : (j : Judges) → Lets (λ fs k. cond (named k fs) given_twice 0) (add_filter j)
filter_lets j fs k v s e = go (named k fs) _ e
  where
    go : (d : Bool) (o : Option (List Filter)) → check (not d) o ≡ some s → cond d given_twice 0 ≡ 0
    go true o h = absurd (none_not_some h)
    go false o h = refl

unfoldable pub filters_by : Judges → Json → Option (List Filter)
filters_by j = members_in (fold_members (add_filter j) [])

pub filters_faithful : (m : ℕ) (j : Judges) → Faithful m (filters_there j) (filters_by j)
unfolding filters_there filters_by
filters_faithful m j = object_faithful m _ _ (add_filter j) (filter_step m j) (filter_lets j) []

every_append : {A : Type 0} (ok : A → Bool) (xs ys : List A) → every ok (xs ++ ys) ≡ (every ok xs && every ok ys)
every_append ok [] ys = refl
every_append ok (x ∷ xs) ys = rw (every_append ok xs ys) (go (ok x))
  where
    go : (t : Bool) → (t && (every ok xs && every ok ys)) ≡ ((t && every ok xs) && every ok ys)
    go true = refl
    go false = refl

and_false : (a : Bool) → (a && false) ≡ false
and_false true = refl
and_false false = refl

-- a filter that is refused stays among those that the schema gives
stays : (ok : Filter → Bool) (ms : Members) (fs r : List Filter) → filters_from fs ms ≡ some r → every ok fs ≡ false → every ok r ≡ false
unfolding filters_from
stays ok no_members fs r e h = let z : fs ≡ r = some_same e in rw z at h
stays ok (member k v ms) fs r e h =
    let a = check_some (not (named k fs)) (then (filter_of k v) (λ f. filters_from (fs ++ (f ∷ [])) ms)) r e in
    let b = then_some (filter_of k v) (λ f. filters_from (fs ++ (f ∷ [])) ms) r a.1 in
    stays ok ms (fs ++ (b.0 ∷ [])) r b.2 (rw (every_append ok fs (b.0 ∷ []), h))

filters_fold : (j : Judges) (ms : Members) (fs : List Filter) → every (ok_filter j) fs ≡ true → fold_members (add_filter j) fs ms ≡ only (every (ok_filter j)) (filters_from fs ms)
unfolding filters_from
filters_fold j no_members fs h = rw h
filters_fold j (member k v ms) fs h = go (named k fs) (filter_by j k v) (filter_of k v) (filter_only j k v) (λ f t. filters_fold j ms (fs ++ (f ∷ [])) t)
  where
    lost : (f : Filter) → ok_filter j f ≡ false → (o : Option (List Filter)) → filters_from (fs ++ (f ∷ [])) ms ≡ o → none ≡ only (every (ok_filter j)) o
    lost f e none is = refl
    lost f e (some r) is = rw (stays (ok_filter j) ms (fs ++ (f ∷ [])) r is (rw (every_append (ok_filter j) fs (f ∷ []), e) (and_false (every (ok_filter j) fs))))

    by : (f : Filter) (t : Bool) → ok_filter j f ≡ t
        → ((g : Filter) → every (ok_filter j) (fs ++ (g ∷ [])) ≡ true → fold_members (add_filter j) (fs ++ (g ∷ [])) ms ≡ only (every (ok_filter j)) (filters_from (fs ++ (g ∷ [])) ms))
        → then (then (check t (some f)) (λ g. some (fs ++ (g ∷ [])))) (λ q. fold_members (add_filter j) q ms) ≡ only (every (ok_filter j)) (filters_from (fs ++ (f ∷ [])) ms)
    by f true e ih = ih f (rw (every_append (ok_filter j) fs (f ∷ []), h, e))
    by f false e ih = lost f e (filters_from (fs ++ (f ∷ [])) ms) refl

    go : (d : Bool) (o p : Option Filter) → o ≡ only (ok_filter j) p
        → ((g : Filter) → every (ok_filter j) (fs ++ (g ∷ [])) ≡ true → fold_members (add_filter j) (fs ++ (g ∷ [])) ms ≡ only (every (ok_filter j)) (filters_from (fs ++ (g ∷ [])) ms))
        → then (check (not d) (then o (λ g. some (fs ++ (g ∷ []))))) (λ q. fold_members (add_filter j) q ms) ≡ only (every (ok_filter j)) (check (not d) (then p (λ g. filters_from (fs ++ (g ∷ [])) ms)))
    go true o p e ih = refl
    go false o none e ih = rw e
    go false o (some f) e ih = rw e (by f (ok_filter j f) refl ih)

-- the filters by the judges are the schema's, less what they refuse
pub filters_only : (j : Judges) (v : Json) → filters_by j v ≡ only (every (ok_filter j)) (filters_of v)
unfolding filters_by filters_of
filters_only j null = refl
filters_only j (boolean b) = refl
filters_only j (number t) = refl
filters_only j (string s) = refl
filters_only j (array vs) = refl
filters_only j (object ms) = filters_fold j ms [] refl
