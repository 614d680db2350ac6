use Rattle.std.proofs.Common.{◌-◌}
use Rattle.call_names.proofs.Search as laws
use Rattle.call_names.proofs.number_of.Given as goal

abbrev pub invariant-loop-low : goal.invariant-loop-low
invariant-loop-low l = laws.Searching l.table l.key l.count l.low l.high

abbrev pub decreases-loop-low : goal.decreases-loop-low
decreases-loop-low l = l.high - l.low
