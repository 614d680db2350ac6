-- `condition_there` meets its contract. The loop's invariant: however the reader goes on from here, it goes on so from the start.
use mathlib.Core.Path.{◌∙◌}
use mathlib.Core.List.{[]}
use native.Mathlib.Omega.{arith}
use Rattle.json_condition.proofs.Reading as reading
use Rattle.json_condition.proofs.Fields as fields
use Rattle.json_condition.proofs.Gathering as gathering
use Rattle.json_condition.proofs.condition_there.Goals as goal

pub returns-in_err-turn : goal.returns-in_err-turn
returns-in_err-turn c = λ slots. reading.handed _ _ c.from_residual.ensures.1 (reading.stopped _ (c.in_err-turn.ensures slots) (fields.object_stops slots _ _ _))

pub condition_turn-requires : goal.condition_turn-requires
condition_turn-requires c = (gathering.goes_on (c.loop-turn.invariant []) c.loop-turn-test.true).inside

pub returns-in_err-turn-2 : goal.returns-in_err-turn-2
returns-in_err-turn-2 c = λ slots.
    let f = gathering.goes_on (c.loop-turn.invariant slots) c.loop-turn-test.true in
    reading.handed _ _ c.from_residual-in_err-turn-2.ensures.1 (reading.stopped _ (c.in_err-turn-2.ensures slots f.parts f.turns f.kept f.enough) (λ e. fields.object_stops slots _ _ _ (f.same ∙ e)))

pub loop-turn-smaller : goal.loop-turn-smaller
loop-turn-smaller c =
    let f = gathering.goes_on (c.loop-turn.invariant []) c.loop-turn-test.true in
    gathering.comes_less c.loop-turn.turn (c.in_ok-turn-2.ensures [] f.parts f.turns f.kept f.enough) c.loop-turn-test.true

pub condition_ends-requires : goal.condition_ends-requires
condition_ends-requires c = let e = gathering.is_over (c.loop-turn.invariant []) c.loop-turn-test.false in omega (arith, e.on)
