-- What decoding a string leaves: it agrees with the reader. Needs no belief.
use Rattle.std.specs.Prelude.{ℕ, ◌≡◌, List, [], length, Result, IsOkAnd, IsErrAnd}
use Rattle.std.proofs.Math.Option.{Option, none, some}
use Rattle.std.proofs.lemmas.List.Edits.{sets}
use Rattle.definitions.specs.JsonReader.{Got, got, stop, Piece}
use Rattle.json_scan.specs.Scan.{At}
use Rattle.json_strings.specs.declared.Decoded.{Decoded}

-- the UTF-8 of a character
abbrev pub meant_of : Option Piece → List ℕ
meant_of none = []
meant_of (some p) = p.meant

-- A string was read: all its bytes are counted, and they are stored from `start` on, as far as there is room (a store outside does nothing).
pub record Read (text out₀ : List ℕ) (start : ℕ) (s rest out : List ℕ) (r : Decoded) : Type 0 where
  pub place : At text rest r.at
  pub counted : r.count ≡ length s
  pub stored : out ≡ sets out₀ start s

-- Where none stands the place is that of the first byte that is wrong.
abbrev pub Stored : List ℕ → List ℕ → ℕ → Got (List ℕ) → List ℕ → Result Decoded ℕ → Type 0
Stored text out₀ start (got s rest) out r = IsOkAnd r (Read text out₀ start s rest out)
Stored text out₀ start (stop k rest) out r = IsErrAnd r (At text rest)
