-- `u16_at` meets its contract: the sum over the two bytes is the number that they write.
use mathlib.Core.Path.{◌≡◌}
use mathlib.Core.List.{List}
use Prim.Native.Nat.{ℕ, ◌+◌, ◌*◌, ◌≤◌}
use native.Mathlib.Omega.{arith}
use lib.ListN.{length, get_or}
use Rattle.definitions.specs.Word.{number_at}
use Rattle.bpf.proofs.Buffer.{number_zero, number_suc}
use Rattle.checks.proofs.u16_at.Goals as goal

-- a 2-byte number by its bytes
number_2 : (s : List ℕ) (at : ℕ) → at + 2 ≤ length s → number_at 2 s at ≡ get_or s at 0 + 256 * get_or s (at + 1) 0
number_2 s at h = omega (arith, number_suc 1 s at (omega arith), number_suc 0 s (at + 1) (omega arith), number_zero s (at + 1 + 1))

pub returns : goal.returns
returns c = omega (arith, number_2 c.args.s.now c.args.at c.requires, c.from.ensures, c.from-2.ensures)
