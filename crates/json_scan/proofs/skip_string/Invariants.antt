use Prim.Native.Nat.{◌-◌}
use lib.ListN.{length}
use Rattle.json_scan.proofs.Scanning as laws
use Rattle.json_scan.proofs.skip_string.Given as goal

abbrev pub invariant-loop-at : goal.invariant-loop-at
invariant-loop-at l = laws.Passing l.text l.from l.at

abbrev pub decreases-loop-at : goal.decreases-loop-at
decreases-loop-at l = length l.text - l.at
