-- `field_turns` meets its contract: turn by turn, those that are left are all of them.
use Prim.Native.Nat.{◌-◌}
use lib.ListN.{length}
use Rattle.json_filters.specs.Filters.{table_slots, Untouched}
use Rattle.json_filters.proofs.Turning.{Turning}
use Rattle.json_filters.proofs.field_turns.Given as goal

abbrev pub invariant-loop-more : goal.invariant-loop-more
invariant-loop-more l = Turning (table_slots l.table) l.text l.at l.scratch l.p l.next l.more × Untouched (length l.text) l.initial.scratch l.scratch

abbrev pub decreases-loop-more : goal.decreases-loop-more
decreases-loop-more l = length l.text - l.next
