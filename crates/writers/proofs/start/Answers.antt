-- `start` meets its contract: the head is put at the front.
use native.Mathlib.Omega.{arith}
use Rattle.writers.proofs.Writers.{begun_set}
use Rattle.writers.proofs.start.Goals as goal

pub returns : goal.returns
returns c = begun_set (cc) (omega arith) c.write_head.ensures
