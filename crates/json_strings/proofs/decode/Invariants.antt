use Prim.Native.Nat.{◌-◌}
use lib.ListN.{length}
use Rattle.json_strings.proofs.Storing as laws
use Rattle.json_strings.proofs.decode.Given as goal

abbrev pub invariant-loop-at : goal.invariant-loop-at
invariant-loop-at l = laws.Going l.text l.from l.initial.out l.start l.out l.at l.count

abbrev pub decreases-loop-at : goal.decreases-loop-at
decreases-loop-at l = length l.text - l.at
