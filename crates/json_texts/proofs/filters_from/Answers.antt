-- `filters_from` meets its contract: from each turn on the reader comes to what it comes to from the start.
use mathlib.Core.Path.{refl, ◌∙◌}
use native.Mathlib.Omega.{arith}
use borrow.Author.Tests.{not-true, not-false}
use Rattle.json_scan.proofs.Telling.{told_inside, refused}
use Rattle.json_lines.proofs.Steps.{handed}
use Rattle.json_texts.proofs.Filters.{lent_still}
use Rattle.json_texts.proofs.Reading as laws
use Rattle.json_texts.proofs.filters_from.Goals as goal

pub loop-turn-init : goal.loop-turn-init
loop-turn-init c = laws.begin c.args.text.now c.args.table.now c.args.scratch.now c.args.from c.requires.0 c.requires.1 c.requires.3

pub filter_turn-requires : goal.filter_turn-requires
filter_turn-requires c = (c.loop-turn.invariant.inside, lent_still c.requires.2 c.loop-turn.invariant.long, c.requires.3, c.loop-turn.invariant.behind)

pub returns-in_err-turn : goal.returns-in_err-turn
returns-in_err-turn c = (handed _ _ c.from_residual.ensures.1 (laws.turn_stops c.loop-turn.invariant (c.in_err-turn.ensures.0 c.loop-turn.invariant.fs c.loop-turn.count c.loop-turn.invariant.written) (refused _)), c.in_err-turn.ensures.1 ∙ c.loop-turn.invariant.long)

pub overflow_add-count : goal.overflow_add-count
overflow_add-count c = omega (arith, c.loop-turn.invariant.few, c.loop-turn.invariant.behind, c.loop-turn.invariant.inside, c.requires.2.short)

pub returns-then-not-turn : goal.returns-then-not-turn
returns-then-not-turn c = (laws.turn_last c.loop-turn.invariant (c.in_ok-turn.ensures.0 c.loop-turn.invariant.fs c.loop-turn.count c.loop-turn.invariant.written) refl (not-true _ c.if-not-turn.true), c.in_ok-turn.ensures.1 ∙ c.loop-turn.invariant.long)

pub loop-turn-smaller : goal.loop-turn-smaller
loop-turn-smaller c = let o = laws.turn_on c.loop-turn.invariant (c.in_ok-turn.ensures.0 c.loop-turn.invariant.fs c.loop-turn.count c.loop-turn.invariant.written) refl in let i = told_inside (c.in_ok-turn.ensures.0 c.loop-turn.invariant.fs c.loop-turn.count c.loop-turn.invariant.written) in omega arith

pub loop-turn-preserved : goal.loop-turn-preserved
loop-turn-preserved c = laws.turn_more c.loop-turn.invariant (c.in_ok-turn.ensures.0 c.loop-turn.invariant.fs c.loop-turn.count c.loop-turn.invariant.written) refl (not-false _ c.if-not-turn.false) c.in_ok-turn.ensures.1
