-- What the code's scanners say, by places of the text: they agree with the reader. Needs no belief.
use Rattle.std.specs.Prelude.{ℕ, ◌+◌, ◌≤◌, ◌<◌, ◌≡◌, Bool, ◌||◌, eqb, List, length, drop, get_or, Some, None, Result, IsOkAnd, IsErrAnd}
use Rattle.std.specs.Prelude as code
use Rattle.std.proofs.Math.Option.{Option, none, some}
use Rattle.definitions.specs.Json.{hex4}
use Rattle.definitions.specs.JsonReader.{Got, got, stop, Piece}

-- what the code answers for what the definitions may have none of
abbrev pub option_of : {A : Type 0} → Option A → code.Option A
option_of none = None
option_of (some a) = Some a

-- the code unit in four places
unfoldable pub unit_at : List ℕ → ℕ → Option ℕ
unit_at text at = hex4 (get_or text at 0) (get_or text (at + 1) 0) (get_or text (at + 2) 0) (get_or text (at + 3) 0)

-- how many bytes a character takes
abbrev pub used_of : Option Piece → code.Option ℕ
used_of none = None
used_of (some p) = Some p.used

-- a place that stands for what a reader left
pub record At (text rest : List ℕ) (at : ℕ) : Type 0 where
  pub inside : at ≤ length text
  pub behind : drop at text ≡ rest

-- a place behind what was read, or of what is wrong
abbrev pub Stands : {A : Type 0} → List ℕ → Got A → Result ℕ ℕ → Type 0
Stands text (got a rest) r = IsOkAnd r (At text rest)
Stands text (stop k rest) r = IsErrAnd r (At text rest)

unfoldable pub is_short : ℕ → Bool
is_short e =
    ((eqb e 0x22 || eqb e 0x5c) || (eqb e 0x2f || eqb e 0x62)) || ((eqb e 0x66 || eqb e 0x6e) || (eqb e 0x72 || eqb e 0x74))

-- ---- what a function of the code tells that reads a part from a place on

-- It was read: what it stands for is as `Is` says, and the place is behind it.
pub record Past {A : Type 0} (text : List ℕ) (from : ℕ) (Is : A → Type 0) (a : A) (rest : List ℕ) (code at : ℕ) : Type 0 where
  pub fine : code ≡ 0
  pub on : from < at
  pub place : At text rest at
  pub value : Is a

-- It was not: the number of the first fault, and its place.
pub record Stopped (text : List ℕ) (fault : ℕ) (rest : List ℕ) (code at : ℕ) : Type 0 where
  pub told : code ≡ fault
  pub some : 0 < fault
  pub place : At text rest at

abbrev pub Either : {A : Type 0} → List ℕ → ℕ → (A → Type 0) → Got A → ℕ → ℕ → Type 0
Either text from Is (got a rest) code at = Past text from Is a rest code at
Either text from Is (stop k rest) code at = Stopped text k rest code at

pub record Tells {A : Type 0} (text : List ℕ) (from : ℕ) (Is : A → Type 0) (g : Got A) (code at : ℕ) : Type 0 where
  pub tells : Either text from Is g code at
