-- `fields_there` meets its contract: a turn of the loop reads a key, its value, and what stands behind it.
use Prim.Native.Nat.{◌-◌}
use lib.ListN.{length}
use Rattle.json_lines.proofs.Calls.{slots_of}
use Rattle.json_lines.proofs.Fields.{Reading}
use Rattle.json_lines.proofs.fields_there.Given as goal

abbrev pub invariant-loop-more : goal.invariant-loop-more
invariant-loop-more l = Reading (slots_of l.table) l.text l.from l.initial.raw l.spot l.raw l.at l.line l.more

abbrev pub decreases-loop-more : goal.decreases-loop-more
decreases-loop-more l = length l.text - l.at
