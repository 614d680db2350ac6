-- `lines_there` meets its contract: a turn of the loop reads a line and writes its entry behind the ones before.
use Prim.Native.Nat.{◌-◌}
use lib.ListN.{length}
use Rattle.json_lines.proofs.Calls.{slots_of}
use Rattle.json_lines.proofs.Entries.{Listing}
use Rattle.json_lines.proofs.lines_there.Given as goal

abbrev pub invariant-loop-more : goal.invariant-loop-more
invariant-loop-more l = Listing (slots_of l.table) l.text l.from l.initial.raw l.raw l.at l.more l.count l.end

abbrev pub decreases-loop-more : goal.decreases-loop-more
decreases-loop-more l = length l.text - l.at
