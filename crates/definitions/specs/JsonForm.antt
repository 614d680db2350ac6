-- What JSON values are filters: the keys and words of seccompiler 0.5.0's JSON front end (and `user_notif`, which came after it). Every key that
-- is not named here is refused, and so is one that an object has twice. Two keys with one field number are two spellings of one key, so that both
-- in one object are that key twice.
use Rattle.std.specs.Prelude.{ℕ, ◌+◌, ◌-◌, ◌*◌, ◌%◌, ◌^◌, Bool, true, false, cond, not, ◌&&◌, ◌||◌, List, [], ◌∷◌, ◌++◌, eqb, leb}
use Prim.Native.String.{String}
use Rattle.std.proofs.Math.Option.{Option, none, some}
use Rattle.definitions.specs.declared.Operator.{Operator}
use Rattle.definitions.specs.declared.Operator.TheVariants.{Eq, Ge, Gt, Le, Lt, MaskedEq, Ne}
use Rattle.definitions.specs.declared.Width.{Width}
use Rattle.definitions.specs.declared.Width.TheVariants.{Dword, Qword}
use Rattle.definitions.specs.declared.Condition.{Condition}
use Rattle.definitions.specs.RuleSet.{Rule}
use Rattle.definitions.specs.Format.{then, check}
use Rattle.definitions.specs.Json.{ascii, all, is_digit, Json, null, boolean, number, string, array, object, Values, no_values, value, Members, no_members, member}

-- ---- what is asked of values

unfoldable pub same : List ℕ → List ℕ → Bool
same [] [] = true
same [] (b ∷ bs) = false
same (a ∷ xs) [] = false
same (a ∷ xs) (b ∷ bs) = eqb a b && same xs bs

-- the number that digits write
unfoldable pub decimal : ℕ → List ℕ → ℕ
decimal n [] = n
decimal n (d ∷ ds) = decimal (10 * n + (d - 0x30)) ds

-- A number is taken that is written by digits alone, with no sign, fraction or exponent, and is at most `most`.
unfoldable pub natural : ℕ → Json → Option ℕ
natural most null = none
natural most (boolean b) = none
natural most (number t) = check (all is_digit t && leb (decimal 0 t) most) (some (decimal 0 t))
natural most (string s) = none
natural most (array vs) = none
natural most (object ms) = none

unfoldable pub string_of : Json → Option (List ℕ)
string_of null = none
string_of (boolean b) = none
string_of (number t) = none
string_of (string s) = some s
string_of (array vs) = none
string_of (object ms) = none

-- the values of an array, each of which must be taken
unfoldable pub each_of : {A : Type 0} → (Json → Option A) → Values → Option (List A)
each_of f no_values = some []
each_of f (value v vs) = then (f v) (λ a. then (each_of f vs) (λ xs. some (a ∷ xs)))

unfoldable pub list_of : {A : Type 0} → (Json → Option A) → Json → Option (List A)
list_of f null = none
list_of f (boolean b) = none
list_of f (number t) = none
list_of f (string s) = none
list_of f (array vs) = each_of f vs
list_of f (object ms) = none

-- ---- objects by their keys

-- a key, and which field it gives
pub record Key : Type 0 where
  pub word : String
  pub field : ℕ

pub record Given : Type 0 where
  pub field : ℕ
  pub value : Json

abbrev pub field_of : List Key → List ℕ → Option ℕ
field_of [] k = none
field_of (x ∷ xs) k = cond (same (ascii x.word) k) (some x.field) (field_of xs k)

abbrev pub has : ℕ → List Given → Bool
has f [] = false
has f (g ∷ gs) = eqb g.field f || has f gs

-- the fields that members give: each key known, and no field twice
unfoldable pub gathered : List Key → List Given → Members → Option (List Given)
gathered keys gs no_members = some gs
gathered keys gs (member k v ms) =
    then (field_of keys k) (λ f. check (not (has f gs)) (gathered keys (record { field = f; value = v } ∷ gs) ms))

unfoldable pub fields_of : List Key → Json → Option (List Given)
fields_of keys null = none
fields_of keys (boolean b) = none
fields_of keys (number t) = none
fields_of keys (string s) = none
fields_of keys (array vs) = none
fields_of keys (object ms) = gathered keys [] ms

abbrev pub given : ℕ → List Given → Option Json
given f [] = none
given f (g ∷ gs) = cond (eqb g.field f) (some g.value) (given f gs)

-- a field that must be there, and one that may be missing: null stands for a missing one (serde's Option)
abbrev pub needed : {A : Type 0} → (Json → Option A) → Option Json → Option A
needed f none = none
needed f (some v) = f v

abbrev pub optional : {A : Type 0} → (Json → Option A) → Option Json → Option (Option A)
optional f none = some none
optional f (some null) = some none
optional f (some (boolean b)) = then (f (boolean b)) (λ a. some (some a))
optional f (some (number t)) = then (f (number t)) (λ a. some (some a))
optional f (some (string s)) = then (f (string s)) (λ a. some (some a))
optional f (some (array vs)) = then (f (array vs)) (λ a. some (some a))
optional f (some (object ms)) = then (f (object ms)) (λ a. some (some a))

-- the one member of an object
pub record Only : Type 0 where
  pub key : List ℕ
  pub value : Json

abbrev pub only_of : Json → Option Only
only_of null = none
only_of (boolean b) = none
only_of (number t) = none
only_of (string s) = none
only_of (array vs) = none
only_of (object no_members) = none
only_of (object (member k v no_members)) = some (record { key = k; value = v })
only_of (object (member k v (member l w ms))) = none

-- ---- words

pub record Word (A : Type 0) : Type 0 where
  pub word : String
  pub meant : A

abbrev pub word_of : {A : Type 0} → List (Word A) → List ℕ → Option A
word_of [] s = none
word_of (x ∷ xs) s = cond (same (ascii x.word) s) (some x.meant) (word_of xs s)

abbrev pub either : {A : Type 0} → Option A → Option A → Option A
either none b = b
either (some a) b = some a

abbrev pub action_words : List (Word ℕ)
action_words =
    record { word = "allow"; meant = 0x7fff0000 } ∷ record { word = "kill_thread"; meant = 0x00000000 }
    ∷ record { word = "kill_process"; meant = 0x80000000 } ∷ record { word = "log"; meant = 0x7ffc0000 }
    ∷ record { word = "trap"; meant = 0x00030000 } ∷ record { word = "user_notif"; meant = 0x7fc00000 } ∷ []

abbrev pub numbered_words : List (Word ℕ)
numbered_words = record { word = "errno"; meant = 0x00050000 } ∷ record { word = "trace"; meant = 0x7ff00000 } ∷ []

-- an action: a word, or an object of errno or trace with a number of 32 bits, of which the low 16 are returned
unfoldable pub action_of : Json → Option ℕ
action_of v =
    either (then (string_of v) (word_of action_words))
    (then (only_of v) (λ o. then (word_of numbered_words o.key) (λ w. then (natural (2 ^ 32 - 1) o.value) (λ n. some (w + n % 2 ^ 16)))))

abbrev pub width_words : List (Word Width)
width_words = record { word = "dword"; meant = Dword } ∷ record { word = "qword"; meant = Qword } ∷ []

abbrev pub operator_words : List (Word Operator)
operator_words =
    record { word = "eq"; meant = Eq } ∷ record { word = "ge"; meant = Ge } ∷ record { word = "gt"; meant = Gt }
    ∷ record { word = "le"; meant = Le } ∷ record { word = "lt"; meant = Lt } ∷ record { word = "ne"; meant = Ne } ∷ []

pub record Compared : Type 0 where
  pub operator : Operator
  pub mask : ℕ

-- an operator: a word, or an object of masked_eq with its mask
unfoldable pub operator_of : Json → Option Compared
operator_of v =
    either (then (string_of v) (λ s. then (word_of operator_words s) (λ o. some (record { operator = o; mask = 0 }))))
    (then (only_of v) (λ o. check (same (ascii "masked_eq") o.key) (then (natural (2 ^ 64 - 1) o.value) (λ m. some (record { operator = MaskedEq; mask = m })))))

-- ---- conditions, lines, filters

-- a line of a filter: a call by its name, with the conditions on its arguments, if it has some
pub record Line : Type 0 where
  pub call : List ℕ
  pub args : Option Rule

pub record Filter : Type 0 where
  pub name : List ℕ
  pub mismatch : ℕ
  pub on_match : ℕ
  pub lines : List Line

abbrev pub condition_keys : List Key
condition_keys =
    record { word = "index"; field = 0 } ∷ record { word = "type"; field = 1 } ∷ record { word = "op"; field = 2 }
    ∷ record { word = "val"; field = 3 } ∷ record { word = "comment"; field = 4 } ∷ []

unfoldable pub condition_of : Json → Option Condition
condition_of v =
    then (fields_of condition_keys v) (λ g.
    then (needed (natural 255) (given 0 g)) (λ i.
    then (needed (λ w. then (string_of w) (word_of width_words)) (given 1 g)) (λ w.
    then (needed operator_of (given 2 g)) (λ o.
    then (needed (natural (2 ^ 64 - 1)) (given 3 g)) (λ x.
    then (optional string_of (given 4 g)) (λ c.
    some (record { index = i; width = w; operator = o.operator; value = x; mask = o.mask })))))))

abbrev pub line_keys : List Key
line_keys = record { word = "syscall"; field = 0 } ∷ record { word = "args"; field = 1 } ∷ record { word = "comment"; field = 2 } ∷ []

unfoldable pub line_of : Json → Option Line
line_of v =
    then (fields_of line_keys v) (λ g.
    then (needed string_of (given 0 g)) (λ name.
    then (optional (list_of condition_of) (given 1 g)) (λ args.
    then (optional string_of (given 2 g)) (λ c.
    some (record { call = name; args = args })))))

-- mismatch_action was default_action until August 2021, and match_action filter_action
abbrev pub filter_keys : List Key
filter_keys =
    record { word = "mismatch_action"; field = 0 } ∷ record { word = "default_action"; field = 0 }
    ∷ record { word = "match_action"; field = 1 } ∷ record { word = "filter_action"; field = 1 } ∷ record { word = "filter"; field = 2 } ∷ []

unfoldable pub filter_of : List ℕ → Json → Option Filter
filter_of name v =
    then (fields_of filter_keys v) (λ g.
    then (needed action_of (given 0 g)) (λ d.
    then (needed action_of (given 1 g)) (λ m.
    then (needed (list_of line_of) (given 2 g)) (λ lines.
    some (record { name = name; mismatch = d; on_match = m; lines = lines })))))

abbrev pub named : List ℕ → List Filter → Bool
named k [] = false
named k (f ∷ fs) = same f.name k || named k fs

unfoldable pub filters_from : List Filter → Members → Option (List Filter)
filters_from fs no_members = some fs
filters_from fs (member k v ms) = check (not (named k fs)) (then (filter_of k v) (λ f. filters_from (fs ++ (f ∷ [])) ms))

-- the filters that a value is
unfoldable pub filters_of : Json → Option (List Filter)
filters_of null = none
filters_of (boolean b) = none
filters_of (number t) = none
filters_of (string s) = none
filters_of (array vs) = none
filters_of (object ms) = filters_from [] ms
