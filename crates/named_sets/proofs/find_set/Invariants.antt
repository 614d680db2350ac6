-- `find_set` meets its contract: from each place on the walk comes to what the whole walk comes to.
use Prim.Native.Nat.{◌-◌}
use lib.ListN.{length}
use Rattle.named_sets.proofs.Naming as naming
use Rattle.named_sets.proofs.find_set.Given as goal

abbrev pub invariant-loop-at : goal.invariant-loop-at
invariant-loop-at l = naming.Walking l.sets l.name l.at

abbrev pub decreases-loop-at : goal.decreases-loop-at
decreases-loop-at l = length l.sets - l.at
