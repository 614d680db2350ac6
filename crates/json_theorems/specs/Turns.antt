-- The form's reader as the code takes it, one step at a time: the bracket that begins, a key up to its colon, the colon, and what stands behind
-- a value. Needs no belief: `Turns` in proofs says that the reader is made of them.
use Rattle.std.specs.Prelude.{ℕ, Bool, true, false, cond, List, ◌∷◌, eqb, drop}
use Rattle.definitions.specs.Json.{quote}
use Rattle.definitions.specs.JsonForm.{Key, field_of}
use Rattle.definitions.specs.JsonReader.{Got, got, stop, not_json, follow, first, blanks, ended, string_at, placed, bad_character}
use Rattle.definitions.specs.FormReader.{wrong, or_stop, given_twice, Typed, typed, has_typed}

-- the bracket that begins an object or an array, where a value stands
unfoldable pub open_there : ℕ → List ℕ → Got ℕ
open_there bracket l = cond (eqb (first l) bracket) (got 0 (drop 1 l)) (stop (wrong l) l)

-- a key, its string read
unfoldable pub key_string : List ℕ → Got (List ℕ)
key_string l = cond (eqb (first l) quote) (placed bad_character (string_at (drop 1 l))) (stop not_json l)

-- the field that a key gives, its string read
unfoldable pub field_there : List Key → List ℕ → Got ℕ
field_there keys l =
    cond (eqb (first l) quote) (follow (placed bad_character (string_at (drop 1 l))) (λ k rest. or_stop (field_of keys k) l rest)) (stop not_json l)

-- the colon, with the blanks around it
unfoldable pub colon_there : List ℕ → Got ℕ
colon_there l = follow (ended 0x3a 0 (blanks l)) (λ z rest. got z (blanks rest))

-- what stands behind a value: a comma, and there is more; or the bracket that ends
unfoldable pub more_there : ℕ → List ℕ → Got Bool
more_there bracket l = cond (eqb (first (blanks l)) 0x2c) (got true (drop 1 (blanks l))) (ended bracket false (blanks l))

-- ---- one turn: a field of an object, and whether there is more; an element of a list likewise

pub record Turned (P : Type 0) : Type 0 where
  pub gathered : P
  pub more : Bool

abbrev pub turned : {P : Type 0} → P → Bool → Turned P
turned p more = record { gathered = p; more = more }

-- what is behind a value
unfoldable pub turned_there : {P : Type 0} → ℕ → P → List ℕ → Got (Turned P)
turned_there bracket p rest = follow (more_there bracket rest) (λ more next. got (turned p more) next)

unfoldable pub field_turn : {A : Type 0} → List Key → (ℕ → List ℕ → Got A) → List (Typed A) → List ℕ → Got (Turned (List (Typed A)))
field_turn keys reads ts l =
    follow (field_there keys (blanks l)) (λ f past. cond (has_typed f ts) (stop given_twice (blanks l))
    (follow (colon_there past) (λ z behind. follow (reads f behind) (λ a rest. turned_there 0x7d (typed f a ∷ ts) rest))))
