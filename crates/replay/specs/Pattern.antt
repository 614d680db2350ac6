-- What a buffer holds before a set is compiled into it, and what it means that a vector passed.
use Rattle.std.specs.Prelude.{ℕ, ◌-◌, ◌%◌, ◌≤◌, ◌<◌, ◌≡◌, List, length, take, get_or}
use Rattle.definitions.specs.declared.Answer.{Answer}
use Rattle.definitions.specs.Answer.{answer_of}

-- never 0, where the second byte of every instruction is: no instruction can be written unseen
abbrev pub pattern_at : ℕ → ℕ
pattern_at at = 255 - at % 251

-- the bytes from a place on are as they were
abbrev pub Untouched : ℕ → List ℕ → Type 0
Untouched from out = (at : ℕ) → from ≤ at → at < length out → get_or out at 0 ≡ pattern_at at

-- a set was compiled into a buffer that now holds `out`, and all is as the vector says
pub record Passed (set filter : List ℕ) (wanted : Answer) (out : List ℕ) : Type 0 where
  pub answered : answer_of set (length out) ≡ wanted
  pub written : take (length filter) out ≡ filter
  pub untouched : Untouched (length filter) out
