-- `scan_conditions` meets its contract.
use mathlib.Core.Path.{◌∙◌}
use native.Mathlib.Omega.{arith}
use Rattle.judge.specs.Walk.{tell_condition}
use Rattle.set_view.proofs.ConditionBytes.{there_not, condition_room, condition_value}
use Rattle.judge.proofs.Walk.{broken_off, came_through, turn_made, turn_broken, turns_over}
use Rattle.judge.proofs.scan_conditions.Goals as goal

pub returns-then-not-condition_there : goal.returns-then-not-condition_there
returns-then-not-condition_there c = broken_off _ (c.loop-i.invariant.told ∙ turn_broken _ _ _ _ _ _ (omega arith) (there_not _ cc))

pub loop-i-preserved : goal.loop-i-preserved
unfolding tell_condition
loop-i-preserved c =
    let room = condition_room c.args.s.now c.loop-i.at cc in
    record {
      inside = room;
      few = omega arith;
      told = c.loop-i.invariant.told ∙ turn_made _ _ _ _ _ _ _ (omega arith) (condition_value _ _ cc) ∙ rw (← c.condition_here-q.ensures, ← c.step_length-step.ensures.0, ← c.step_length-step.ensures.1, ← c.condition_fault-fault.ensures);
    }

pub returns : goal.returns
returns c = came_through _ (c.loop-i.invariant.told ∙ turns_over _ _ _ _ _ _ (omega arith)) c.loop-i.invariant.inside c.loop-i.invariant.few
