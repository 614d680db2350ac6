-- Bytes put into a buffer: what every function that writes says of its buffer.
use Rattle.std.specs.Prelude.{ℕ, ◌+◌, ◌-◌, ◌*◌, ◌≡◌, List, ◌++◌, length, take, drop}
use Rattle.definitions.specs.declared.Instruction.{Instruction}
use Rattle.definitions.specs.Machine.{filter_bytes}

-- l with bs at a place, and the rest as it was
unfoldable pub place : List ℕ → ℕ → List ℕ → List ℕ
place l at bs = take at l ++ bs ++ drop (at + length bs) l

-- the same, with bs put so that they end at a place
unfoldable pub place_before : List ℕ → ℕ → List ℕ → List ℕ
place_before l end bs = place l (end - length bs) bs

-- instructions put so that they end at a place: the buffer then, and the place where they begin
pub record PutBefore (l : List ℕ) (end : ℕ) (is : List Instruction) (out : List ℕ) (at : ℕ) : Type 0 where
  pub same : out ≡ place_before l end (filter_bytes is)
  pub spot : at + 8 * length is ≡ end

-- writing instructions one part behind the other: what is left, written here, is the whole, written there
pub record Writing (out₀ : List ℕ) (at : ℕ) (all : List Instruction) (out : List ℕ) (pos : ℕ) (left : List Instruction) : Type 0 where
  pub same : place out pos (filter_bytes left) ≡ place out₀ at (filter_bytes all)
  pub spot : pos + 8 * length left ≡ at + 8 * length all
  pub long : length out ≡ length out₀
