-- `walk` meets its contract: the head's reader leaves the cursor before all parts.
use Rattle.std.proofs.Common.{arith}
use Rattle.example.proofs.Calls.{head_ahead}
use Rattle.example.proofs.walk.Goals as goal

pub loop-init : goal.loop-init
loop-init g c = λ rs form. (rw c.callfilter_read_head-head.ensures (head_ahead _ rs form), omega arith)
