-- `scratch_taken` meets its contract. The loop's invariant: what is left, passed from here with the masks so far, is the whole.
use mathlib.Core.Path.{sym, ◌∙◌, ap}
use native.Mathlib.Omega.{arith}
use Rattle.definitions.specs.Kernel.{effect_of}
use Rattle.checks.proofs.Walk.{left_start}
use Rattle.checks.proofs.Scratch.{scratch_start, there_here, inside_here, taken_rest, scratch_stop, scratch_turn, scratch_end}
use Rattle.checks.proofs.scratch_taken.Goals as goal

pub loop-place-init : goal.loop-place-init
loop-place-init c = record { taken = rw (← left_start c.args.filter.now) c.requires.1; passed = scratch_start c.args.filter.now c.requires.0 c.requires.1 }

pub readable-requires : goal.readable-requires
readable-requires c = there_here _ _ _ _ c.loop-place-test.true c.loop-place.invariant.taken (c.effect_of-e.ensures ∙ ap effect_of c.instruction_at.ensures)

pub returns-then-not-readable : goal.returns-then-not-readable
returns-then-not-readable c = sym (c.loop-place.invariant.passed ∙ scratch_stop _ _ _ _ c.loop-place-test.true c.loop-place.invariant.taken (c.effect_of-e.ensures ∙ ap effect_of c.instruction_at.ensures) _ c.loop-place.ahead (sym c.if-not-readable.ensures))

pub behind-written-requires : goal.behind-written-requires
behind-written-requires c = there_here _ _ _ _ c.loop-place-test.true c.loop-place.invariant.taken (c.effect_of-e.ensures ∙ ap effect_of c.instruction_at.ensures)

pub narrow-requires : goal.narrow-requires
narrow-requires c = (omega arith, inside_here _ _ _ _ c.loop-place-test.true c.loop-place.invariant.taken (c.effect_of-e.ensures ∙ ap effect_of c.instruction_at.ensures) (omega arith))

pub loop-place-preserved : goal.loop-place-preserved
loop-place-preserved c =
    let e = c.effect_of-e.ensures ∙ ap effect_of c.instruction_at.ensures in
    record {
      taken = taken_rest _ _ _ _ c.loop-place-test.true c.loop-place.invariant.taken e;
      passed = c.loop-place.invariant.passed ∙ scratch_turn _ _ _ _ c.loop-place-test.true c.loop-place.invariant.taken e _ c.loop-place.ahead (sym c.if-not-readable.ensures) _ c.narrow.new.ahead c.behind-written.ensures c.narrow.ensures;
    }

pub returns : goal.returns
returns c = sym (c.loop-place.invariant.passed ∙ scratch_end _ _ _ _ _ c.loop-place-test.false)
