-- `each_taken` meets its contract. The loop's invariant: what is left, checked from here, is the whole.
use mathlib.Core.Path.{sym, ◌∙◌}
use Rattle.checks.proofs.Walk.{left_start, each_turn, each_end}
use Rattle.checks.proofs.each_taken.Goals as goal

pub loop-place-init : goal.loop-place-init
loop-place-init c = rw (left_start c.args.filter.now)

pub returns-then-not-taken : goal.returns-then-not-taken
returns-then-not-taken c = sym (c.loop-place.invariant ∙ each_turn _ _ _ c.loop-place-test.true ∙ (rw (← c.instruction_at.ensures, ← c.taken.ensures, c.if-not-taken.true)))

pub loop-place-preserved : goal.loop-place-preserved
loop-place-preserved c = c.loop-place.invariant ∙ each_turn _ _ _ c.loop-place-test.true ∙ (rw (← c.instruction_at.ensures, ← c.taken.ensures, c.if-not-taken.false))

pub returns : goal.returns
returns c = sym (c.loop-place.invariant ∙ each_end _ _ _ c.loop-place-test.false)
