-- `filters_from` meets its contract: from each turn on the reader comes to what it comes to from the start.
use Prim.Native.Nat.{◌-◌}
use lib.ListN.{length}
use Rattle.json_texts.proofs.Reading as laws
use Rattle.json_texts.proofs.filters_from.Given as goal

abbrev pub invariant-loop-turn : goal.invariant-loop-turn
invariant-loop-turn l = laws.Reading l.text l.table l.initial.scratch l.scratch l.architecture l.from l.at l.end l.count

abbrev pub decreases-loop-turn : goal.decreases-loop-turn
decreases-loop-turn l = length l.text - l.at
