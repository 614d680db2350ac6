-- `condition_there` meets its contract. The loop's invariant: however the reader goes on from here, it goes on so from the start.
use lib.ListN.{drop}
use mathlib.Core.List.{List}
use Rattle.definitions.specs.CallNames.{Slot}
use Rattle.json_condition.specs.Gathering.{Onward, condition_object}
use Rattle.json_condition.proofs.Gathering as gathering
use Rattle.json_condition.proofs.condition_there.Given as goal

abbrev pub invariant-loop-turn : goal.invariant-loop-turn
invariant-loop-turn l = (slots : List Slot) → Onward slots l.text l.at (condition_object slots (drop l.at l.text)) l.turn

abbrev pub decreases-loop-turn : goal.decreases-loop-turn
decreases-loop-turn l = gathering.to_come l.text l.turn
