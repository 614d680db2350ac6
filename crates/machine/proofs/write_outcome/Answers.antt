-- `write_outcome` meets its contract: two numbers, one behind the other.
use native.Mathlib.Omega.{arith}
use Rattle.bpf.proofs.Buffer.{put_two}
use Rattle.machine.proofs.write_outcome.Goals as goal

pub returns : goal.returns
returns c = rw (c.write_u32-2.ensures, c.write_u32.ensures, c.from.ensures, c.from-2.ensures) (put_two _ _ _ _ (omega arith))
