-- The reader that the code follows, put together: it goes through a text from left to right, knows what is to come, and stops at the first fault
-- with its number and the text from where the fault is (so that the place is the text's length less that rest's). It needs no belief: `Front` in
-- proofs says that it reads exactly the texts that the form has.
use Rattle.std.specs.Prelude.{ℕ, zero, suc, ◌+◌, ◌-◌, ◌%◌, ◌^◌, Bool, true, false, cond, not, ◌&&◌, ◌||◌, List, [], ◌∷◌, ◌++◌, eqb, leb, length, take, drop}
use Rattle.std.proofs.Math.Option.{Option, none, some}
use Rattle.definitions.specs.declared.Operator.TheVariants.{MaskedEq}
use Rattle.definitions.specs.declared.Width.{Width}
use Rattle.definitions.specs.declared.Condition.{Condition}
use Rattle.definitions.specs.RuleSet.{Rule}
use Rattle.definitions.specs.Format.{then, check}
use Rattle.definitions.specs.Json.{ascii, quote, all, is_digit, Json, null, boolean, number, string, array, object, Values, Members}
use Rattle.definitions.specs.JsonForm.{same, decimal, Key, field_of, word_of, action_words, numbered_words, width_words, operator_words, Compared, Line, Filter, condition_keys, line_keys, filter_keys, named}
use Rattle.definitions.specs.JsonReader.{Got, got, stop, not_json, follow, first, string_at, placed, bad_character, bad_number, number_count, object_at, array_at, blanks, literal_at}
use Rattle.definitions.specs.Answer.{has_conditions, fits_width}
use Rattle.definitions.specs.CallNames.{Slot, number_for}

-- ---- its parts

-- no text of the form goes on so
abbrev pub not_of_form : ℕ
not_of_form = 11

-- where a value of another kind is asked for: 11 if a value begins here, else 10
unfoldable pub wrong : List ℕ → ℕ
wrong l =
    let b : ℕ = first l in
    cond (eqb b quote || (eqb b 0x7b || (eqb b 0x5b || (eqb b 0x2d || (is_digit b || (eqb b 0x6e || (eqb b 0x74 || eqb b 0x66))))))) not_of_form not_json

-- a string
unfoldable pub string_there : List ℕ → Got (List ℕ)
string_there l = cond (eqb (first l) quote) (placed bad_character (string_at (drop 1 l))) (stop (wrong l) l)

-- a number's text
abbrev pub on_number : Option ℕ → List ℕ → Got (List ℕ)
on_number none l = stop not_json (bad_number l)
on_number (some n) l = got (take n l) (drop n l)

unfoldable pub number_there : List ℕ → Got (List ℕ)
number_there l = cond (eqb (first l) 0x2d || is_digit (first l)) (on_number (number_count l) l) (stop (wrong l) l)

-- what was read, made into something else; where that cannot be, the fault is where the value begins
abbrev pub or_stop : {B : Type 0} → Option B → List ℕ → List ℕ → Got B
or_stop none l rest = stop not_of_form l
or_stop (some b) l rest = got b rest

unfoldable pub converted : {A B : Type 0} → (A → Option B) → (List ℕ → Got A) → List ℕ → Got B
converted g r l = follow (r l) (λ a rest. or_stop (g a) l rest)

-- an object, its members folded as they come; an array, its values
unfoldable pub object_there : {P : Type 0} → (P → List ℕ → ℕ) → (P → List ℕ → List ℕ → Got P) → P → List ℕ → Got P
object_there judge step p l = cond (eqb (first l) 0x7b) (object_at judge step p (drop 1 l)) (stop (wrong l) l)

unfoldable pub array_there : {P : Type 0} → (P → List ℕ → Got P) → P → List ℕ → Got P
array_there step p l = cond (eqb (first l) 0x5b) (array_at step p (drop 1 l)) (stop (wrong l) l)

-- one reader behind a key that is known and was not given before; else a fault
abbrev pub behind_key : {P : Type 0} → Option (List ℕ → Got P) → List ℕ → Got P
behind_key none l = stop not_of_form l
behind_key (some r) l = r l

-- ---- the same, of values

abbrev pub number_text : Json → Option (List ℕ)
number_text null = none
number_text (boolean b) = none
number_text (number t) = some t
number_text (string s) = none
number_text (array vs) = none
number_text (object ms) = none

abbrev pub members_in : {A : Type 0} → (Members → Option A) → Json → Option A
members_in f null = none
members_in f (boolean b) = none
members_in f (number t) = none
members_in f (string s) = none
members_in f (array vs) = none
members_in f (object ms) = f ms

abbrev pub values_in : {A : Type 0} → (Values → Option A) → Json → Option A
values_in f null = none
values_in f (boolean b) = none
values_in f (number t) = none
values_in f (string s) = none
values_in f (array vs) = f vs
values_in f (object ms) = none

-- ---- the numbers of faults, beside 10 (notJson) and 11 (notOfForm)

abbrev pub equal_actions : ℕ
equal_actions = 3

abbrev pub empty_args : ℕ
empty_args = 4

abbrev pub wrong_index : ℕ
wrong_index = 5

abbrev pub too_wide : ℕ
too_wide = 8

abbrev pub given_twice : ℕ
given_twice = 12

abbrev pub unknown_call : ℕ
unknown_call = 13

-- What is refused beside the form: with `plain` nothing is.
pub record Judges : Type 0 where
  pub index : ℕ → Bool
  pub filled : Rule → Bool
  pub fits : Condition → Bool
  pub differ : ℕ → ℕ → Bool
  pub known : List ℕ → Bool

abbrev pub plain : Judges
plain = record { index = λ i. true; filled = λ r. true; fits = λ c. true; differ = λ d m. true; known = λ s. true }

-- ---- what was read is judged: taken, or refused where it begins, or at the brace that ends it

pub data Verdict (B : Type 0) : Type 0 where
  fine : B → Verdict B
  begun : ℕ → Verdict B
  closing : ℕ → Verdict B

abbrev pub answered : {B : Type 0} → Verdict B → List ℕ → List ℕ → Got B
answered (fine b) l rest = got b rest
answered (begun k) l rest = stop k l
answered (closing k) l rest = stop k (0x7d ∷ rest)

unfoldable pub judged : {A B : Type 0} → (A → Verdict B) → (List ℕ → Got A) → List ℕ → Got B
judged g r l = follow (r l) (λ a rest. answered (g a) l rest)

-- taken if a test says so
abbrev pub asked : {A : Type 0} → Bool → ℕ → A → Verdict A
asked t k a = cond t (fine a) (begun k)

-- taken if something is made of it; `ending`: else refused at the brace
abbrev pub made : {B : Type 0} → Option B → Verdict B
made none = begun not_of_form
made (some b) = fine b

abbrev pub ending : {B : Type 0} → Option B → Verdict B
ending none = closing not_of_form
ending (some b) = fine b

abbrev pub put_in : {A B : Type 0} → (A → B) → (List ℕ → Got A) → List ℕ → Got B
put_in add r l = follow (r l) (λ a rest. got (add a) rest)

-- ---- numbers, words, lists, null

unfoldable pub natural_there : ℕ → List ℕ → Got ℕ
natural_there most = judged (λ t. made (check (all is_digit t && leb (decimal 0 t) most) (some (decimal 0 t)))) number_there

unfoldable pub word_there : {A : Type 0} → (List ℕ → Option A) → List ℕ → Got A
word_there g = judged (λ s. made (g s)) string_there

unfoldable pub list_there : {A : Type 0} → (List ℕ → Got A) → List ℕ → Got (List A)
list_there r = array_there (λ xs. put_in (λ a. xs ++ (a ∷ [])) r) []

unfoldable pub null_or : {A : Type 0} → (List ℕ → Got A) → List ℕ → Got (Option A)
null_or r l = cond (eqb (first l) 0x6e) (put_in (λ v. none) (literal_at (ascii "null") null) l) (put_in (λ a. some a) r l)

-- a word, or an object
unfoldable pub either_there : {A : Type 0} → (List ℕ → Got A) → (List ℕ → Got A) → List ℕ → Got A
either_there a b l = cond (eqb (first l) quote) (a l) (b l)

-- ---- an object with one key: `known` says what the key asks for

pub record Held (B : Type 0) : Type 0 where
  pub key : List ℕ
  pub meant : B

abbrev pub held : {B : Type 0} → List ℕ → B → Held B
held k b = record { key = k; meant = b }

abbrev pub or_refused : {A : Type 0} → Option A → ℕ
or_refused none = not_of_form
or_refused (some a) = 0

abbrev pub one_judge : {A B : Type 0} → (List ℕ → Option A) → Option (Held B) → List ℕ → ℕ
one_judge known none k = or_refused (known k)
one_judge known (some h) k = cond (same h.key k) given_twice not_of_form

abbrev pub one_step : {A B : Type 0} → (List ℕ → Option A) → (A → List ℕ → Got B) → Option (Held B) → List ℕ → List ℕ → Got (Option (Held B))
one_step known reads none k = behind_key (then (known k) (λ w. some (put_in (λ b. some (held k b)) (reads w))))
one_step known reads (some h) k = behind_key none

abbrev pub one_end : {B : Type 0} → Option (Held B) → Option B
one_end none = none
one_end (some h) = some h.meant

unfoldable pub one_there : {A B : Type 0} → (List ℕ → Option A) → (A → List ℕ → Got B) → List ℕ → Got B
one_there known reads = judged (λ h. ending (one_end h)) (object_there (one_judge known) (one_step known reads) none)

-- ---- an object with several keys: the fields that were read, by their numbers

pub record Typed (A : Type 0) : Type 0 where
  pub field : ℕ
  pub value : A

abbrev pub typed : {A : Type 0} → ℕ → A → Typed A
typed f a = record { field = f; value = a }

abbrev pub has_typed : {A : Type 0} → ℕ → List (Typed A) → Bool
has_typed f [] = false
has_typed f (t ∷ ts) = eqb t.field f || has_typed f ts

abbrev pub value_of : {A : Type 0} → ℕ → List (Typed A) → Option A
value_of f [] = none
value_of f (t ∷ ts) = cond (eqb t.field f) (some t.value) (value_of f ts)

-- a key that is not known is refused, and a field that was given before
abbrev pub field_judge : {A : Type 0} → List (Typed A) → Option ℕ → ℕ
field_judge ts none = not_of_form
field_judge ts (some f) = cond (has_typed f ts) given_twice 0

abbrev pub field_reader : {A : Type 0} → (ℕ → List ℕ → Got A) → List (Typed A) → Option ℕ → Option (List ℕ → Got (List (Typed A)))
field_reader reads ts none = none
field_reader reads ts (some f) = check (not (has_typed f ts)) (some (put_in (λ a. typed f a ∷ ts) (reads f)))

-- `whole` makes the whole of its fields, of which each may be missing; else a key is missing
unfoldable pub keyed_there : {A B : Type 0} → List Key → (ℕ → List ℕ → Got A) → ((ℕ → Option (Option A)) → Option B) → List ℕ → Got B
keyed_there keys reads whole =
    judged (λ ts. ending (whole (λ f. some (value_of f ts))))
    (object_there (λ ts k. field_judge ts (field_of keys k)) (λ ts k. behind_key (field_reader reads ts (field_of keys k))) [])

-- ---- actions and operators

unfoldable pub action_there : List ℕ → Got ℕ
action_there = either_there (word_there (word_of action_words)) (one_there (word_of numbered_words) (λ w. put_in (λ n. w + n % 2 ^ 16) (natural_there (2 ^ 32 - 1))))

unfoldable pub operator_there : List ℕ → Got Compared
operator_there =
    either_there (word_there (λ s. then (word_of operator_words s) (λ o. some (record { operator = o; mask = 0 }))))
    (one_there {A = ℕ} (λ k. check (same (ascii "masked_eq") k) (some 0)) (λ w. put_in (λ m. record { operator = MaskedEq; mask = m }) (natural_there (2 ^ 64 - 1))))

-- ---- conditions

pub data ConditionPart : Type 0 where
  the_index : ℕ → ConditionPart
  the_width : Width → ConditionPart
  the_operator : Compared → ConditionPart
  the_value : ℕ → ConditionPart
  the_comment : Option (List ℕ) → ConditionPart

abbrev pub as_index : Option ConditionPart → Option ℕ
as_index none = none
as_index (some (the_index i)) = some i
as_index (some (the_width w)) = none
as_index (some (the_operator o)) = none
as_index (some (the_value x)) = none
as_index (some (the_comment c)) = none

abbrev pub as_width : Option ConditionPart → Option Width
as_width none = none
as_width (some (the_index i)) = none
as_width (some (the_width w)) = some w
as_width (some (the_operator o)) = none
as_width (some (the_value x)) = none
as_width (some (the_comment c)) = none

abbrev pub as_operator : Option ConditionPart → Option Compared
as_operator none = none
as_operator (some (the_index i)) = none
as_operator (some (the_width w)) = none
as_operator (some (the_operator o)) = some o
as_operator (some (the_value x)) = none
as_operator (some (the_comment c)) = none

abbrev pub as_value : Option ConditionPart → Option ℕ
as_value none = none
as_value (some (the_index i)) = none
as_value (some (the_width w)) = none
as_value (some (the_operator o)) = none
as_value (some (the_value x)) = some x
as_value (some (the_comment c)) = none

abbrev pub as_comment : Option ConditionPart → Option (Option (List ℕ))
as_comment none = some none
as_comment (some (the_index i)) = none
as_comment (some (the_width w)) = none
as_comment (some (the_operator o)) = none
as_comment (some (the_value x)) = none
as_comment (some (the_comment c)) = some c

abbrev pub condition_from : (ℕ → Option (Option ConditionPart)) → Option Condition
condition_from s =
    then (then (s 0) as_index) (λ i.
    then (then (s 1) as_width) (λ w.
    then (then (s 2) as_operator) (λ o.
    then (then (s 3) as_value) (λ x.
    then (then (s 4) as_comment) (λ c.
    some (record { index = i; width = w; operator = o.operator; value = x; mask = o.mask }))))))

abbrev pub condition_reads : Judges → ℕ → List ℕ → Got ConditionPart
condition_reads j zero = put_in (λ i. the_index i) (judged (λ i. asked (j.index i) wrong_index i) (natural_there 255))
condition_reads j (suc zero) = put_in (λ w. the_width w) (word_there (word_of width_words))
condition_reads j (suc (suc zero)) = put_in (λ o. the_operator o) operator_there
condition_reads j (suc (suc (suc zero))) = put_in (λ x. the_value x) (natural_there (2 ^ 64 - 1))
condition_reads j (suc (suc (suc (suc zero)))) = put_in (λ c. the_comment c) (null_or string_there)
condition_reads j (suc (suc (suc (suc (suc n))))) = behind_key none

unfoldable pub condition_there : Judges → List ℕ → Got Condition
condition_there j = judged (λ c. asked (j.fits c) too_wide c) (keyed_there condition_keys (condition_reads j) condition_from)

-- ---- lines

pub data LinePart : Type 0 where
  the_call : List ℕ → LinePart
  the_args : Option Rule → LinePart
  the_remark : Option (List ℕ) → LinePart

abbrev pub as_call : Option LinePart → Option (List ℕ)
as_call none = none
as_call (some (the_call s)) = some s
as_call (some (the_args r)) = none
as_call (some (the_remark c)) = none

abbrev pub as_args : Option LinePart → Option (Option Rule)
as_args none = some none
as_args (some (the_call s)) = none
as_args (some (the_args r)) = some r
as_args (some (the_remark c)) = none

abbrev pub as_remark : Option LinePart → Option (Option (List ℕ))
as_remark none = some none
as_remark (some (the_call s)) = none
as_remark (some (the_args r)) = none
as_remark (some (the_remark c)) = some c

abbrev pub line_from : (ℕ → Option (Option LinePart)) → Option Line
line_from s =
    then (then (s 0) as_call) (λ name. then (then (s 1) as_args) (λ args. then (then (s 2) as_remark) (λ c. some (record { call = name; args = args }))))

abbrev pub line_reads : Judges → ℕ → List ℕ → Got LinePart
line_reads j zero = put_in (λ s. the_call s) (judged (λ s. asked (j.known s) unknown_call s) string_there)
line_reads j (suc zero) = put_in (λ r. the_args r) (null_or (judged (λ r. asked (j.filled r) empty_args r) (list_there (condition_there j))))
line_reads j (suc (suc zero)) = put_in (λ c. the_remark c) (null_or string_there)
line_reads j (suc (suc (suc n))) = behind_key none

unfoldable pub line_there : Judges → List ℕ → Got Line
line_there j = keyed_there line_keys (line_reads j) line_from

-- ---- filters

pub data FilterPart : Type 0 where
  the_action : ℕ → FilterPart
  the_lines : List Line → FilterPart

abbrev pub as_action : Option FilterPart → Option ℕ
as_action none = none
as_action (some (the_action a)) = some a
as_action (some (the_lines ls)) = none

abbrev pub as_lines : Option FilterPart → Option (List Line)
as_lines none = none
as_lines (some (the_action a)) = none
as_lines (some (the_lines ls)) = some ls

abbrev pub filter_from : List ℕ → (ℕ → Option (Option FilterPart)) → Option Filter
filter_from name s =
    then (then (s 0) as_action) (λ d. then (then (s 1) as_action) (λ m. then (then (s 2) as_lines) (λ lines.
    some (record { name = name; mismatch = d; on_match = m; lines = lines }))))

abbrev pub filter_reads : Judges → ℕ → List ℕ → Got FilterPart
filter_reads j zero = put_in (λ a. the_action a) action_there
filter_reads j (suc zero) = put_in (λ a. the_action a) action_there
filter_reads j (suc (suc zero)) = put_in (λ ls. the_lines ls) (list_there (line_there j))
filter_reads j (suc (suc (suc n))) = behind_key none

unfoldable pub filter_there : Judges → List ℕ → List ℕ → Got Filter
filter_there j name = judged (λ f. asked (j.differ f.mismatch f.on_match) equal_actions f) (keyed_there filter_keys (filter_reads j) (filter_from name))

-- ---- the whole text

unfoldable pub filters_there : Judges → List ℕ → Got (List Filter)
filters_there j =
    object_there (λ fs k. cond (named k fs) given_twice 0)
    (λ fs k. behind_key (check (not (named k fs)) (some (put_in (λ f. fs ++ (f ∷ [])) (filter_there j k))))) []

abbrev pub all_read : {A : Type 0} → A → List ℕ → Got A
all_read a [] = got a []
all_read a (b ∷ bs) = stop not_json (b ∷ bs)

unfoldable pub whole : {A : Type 0} → (List ℕ → Got A) → List ℕ → Got A
whole r t = follow (r (blanks t)) (λ a rest. all_read a (blanks rest))

unfoldable pub read_filters : Judges → List ℕ → Got (List Filter)
read_filters j = whole (filters_there j)

-- ---- what reading JSON refuses beside the form: an index above 5, args without conditions, a number wider than its condition, equal actions,
-- a call that the table does not have

abbrev pub is_some : {A : Type 0} → Option A → Bool
is_some none = false
is_some (some a) = true

abbrev pub judges_of : List Slot → Judges
judges_of table = record {
  index = λ i. leb i 5;
  filled = has_conditions;
  fits = fits_width;
  differ = λ d m. not (eqb d m);
  known = λ s. is_some (number_for table s);
}

-- what one reading answers: 0 with the filters, or the first fault's number and place
pub record Told : Type 0 where
  pub code : ℕ
  pub at : ℕ

abbrev pub told_of : {A : Type 0} → List ℕ → Got A → Told
told_of t (got a rest) = record { code = 0; at = 0 }
told_of t (stop k l) = record { code = k; at = length t - length l }

unfoldable pub told : List Slot → List ℕ → Told
told table t = told_of t (read_filters (judges_of table) t)
