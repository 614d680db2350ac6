-- `follow` meets its contract. The loop's invariant: what is left, followed from here with the count so far, is the whole.
use mathlib.Core.Path.{sym, ◌∙◌}
use native.Mathlib.Omega.{arith}
use Rattle.definitions.specs.Machine.{call_of}
use Rattle.machine.proofs.Steps.{follow_start, follow_next, follow_returns, follow_stuck, follow_end}
use Rattle.machine.proofs.follow.Goals as goal

pub loop-place-init : goal.loop-place-init
loop-place-init c = (omega arith, follow_start c.args.filter.now (call_of c.args.call.now))

pub loop-place-preserved : goal.loop-place-preserved
loop-place-preserved c = (omega (arith, c.target-place.ensures), c.loop-place.invariant.1 ∙ follow_next _ _ _ _ _ _ c.loop-place-test.true _ c.instruction_at.ensures _ _ c.execute.ensures.0 _ _ c.in-Next.is c.target-place.ensures)

pub returns-in-Returns : goal.returns-in-Returns
returns-in-Returns c = sym (c.loop-place.invariant.1 ∙ follow_returns _ _ _ _ _ _ c.loop-place-test.true _ c.instruction_at.ensures _ _ c.execute.ensures.0 _ c.in-Returns.is)

pub returns-in-Stuck : goal.returns-in-Stuck
returns-in-Stuck c = c.refused.ensures ∙ sym (c.loop-place.invariant.1 ∙ follow_stuck _ _ _ _ _ _ c.loop-place-test.true _ c.instruction_at.ensures _ _ c.execute.ensures.0 c.in-Stuck.is)

pub returns : goal.returns
returns c = c.refused-2.ensures ∙ sym (c.loop-place.invariant.1 ∙ follow_end _ _ _ _ _ _ c.loop-place-test.false)
