-- `write_u64` meets its contract: eight bytes are twice four.
use native.Mathlib.Omega.{arith}
use Rattle.bpf.proofs.Buffer.{put_8}
use Rattle.bpf.proofs.write_u64.Goals as goal

pub returns : goal.returns
returns c = rw (c.write_u32-2.ensures, c.write_u32.ensures) (put_8 _ _ _ (omega arith))
