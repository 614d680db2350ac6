-- `scan_plain` meets its contract.
use mathlib.Core.Path.{◌≡◌, sym, ◌∙◌}
use native.Mathlib.Omega.{arith}
use borrow.Author.Tests.{ne_eqb}
use Rattle.judge.proofs.Walk.{plain_room, plain_turn, plain_passed, run_step}
use Rattle.judge.proofs.scan_plain.Goals as goal

pub loop-least-preserved : goal.loop-least-preserved
loop-least-preserved c =
    let kept = c.loop-least.invariant in
    let plain = sym c.plain_there.ensures ∙ c.loop-least-test.true in
    let room = plain_room _ _ _ _ plain in
    record {
      inside = room.1;
      few = omega arith;
      left = omega arith;
      place = omega (arith, room);
      first = λ e. absurd (omega (arith, room));
      five = omega (arith, room);
      told = kept.told ∙ plain_turn _ _ _ _ _ _ _ c.args.from.fault plain (omega arith) ∙ rw (run_step _ _ _ _ _ _ room.0 kept.left c.requires.1 kept.five, c.number_at-least.ensures.0);
    }

pub returns : goal.returns
returns c =
    let kept = c.loop-least.invariant in
    let fewer = plain_passed _ _ _ _ _ _ _ c.requires.2 (sym c.plain_there.ensures ∙ c.loop-least-test.false) kept.first kept.place kept.left in
    record {
      same = kept.told ∙ rw (ne_eqb _ _ (let z : c.loop-least.left ≡ c.args.from.left → ⊥ = λ e. omega arith in z), ← c.fitting_run.ensures);
      inside = (kept.inside, kept.few);
      fewer = fewer;
    }
