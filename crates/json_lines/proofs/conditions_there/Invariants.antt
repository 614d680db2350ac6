-- `conditions_there` meets its contract: a turn of the loop reads a condition and writes it.
use mathlib.Core.List.{List}
use Prim.Native.Nat.{◌-◌}
use lib.ListN.{length}
use Rattle.definitions.specs.CallNames.{Slot}
use Rattle.json_lines.proofs.Conditions.{Filling}
use Rattle.json_lines.proofs.conditions_there.Given as goal

abbrev pub invariant-loop-more : goal.invariant-loop-more
invariant-loop-more l = (slots : List Slot) → Filling slots l.text l.from l.initial.raw l.spot l.raw l.at l.more l.count

abbrev pub decreases-loop-more : goal.decreases-loop-more
decreases-loop-more l = length l.text - l.at
