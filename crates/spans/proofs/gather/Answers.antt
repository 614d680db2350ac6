-- `gather` meets its contract. The loop's invariant: the numbers so far, with those that follow them, are the run; and nothing but
-- numbers without rules was passed.
use mathlib.Core.Path.{refl, sym, ◌∙◌}
use native.Mathlib.Omega.{arith}
use Rattle.spans.specs.Spans.{destination}
use Rattle.spans.proofs.Reading.{gather_begin, gather_end, follows_is}
use Rattle.spans.proofs.gather.Goals as goal

pub loop-last-init : goal.loop-last-init
loop-last-init c = (gather_begin c.args.first _, refl, c.requires.place, omega arith)

pub u32_at-last-requires : goal.u32_at-last-requires
u32_at-last-requires c =
    let f = follows_is c.args.s.now c.loop-last.left c.loop-last.at c.loop-last.last (sym c.follows.ensures ∙ c.loop-last-test.true) in
    omega (arith, f.inside, c.loop-last.invariant.1, c.requires.inside)

pub overflow_add-at : goal.overflow_add-at
overflow_add-at c =
    let f = follows_is c.args.s.now c.loop-last.left c.loop-last.at c.loop-last.last (sym c.follows.ensures ∙ c.loop-last-test.true) in
    omega (arith, f.inside, c.loop-last.invariant.1, c.requires.inside, c.requires.size)

pub overflow_sub-left : goal.overflow_sub-left
overflow_sub-left c =
    let f = follows_is c.args.s.now c.loop-last.left c.loop-last.at c.loop-last.last (sym c.follows.ensures ∙ c.loop-last-test.true) in
    omega (arith, f.some)

pub loop-last-smaller : goal.loop-last-smaller
loop-last-smaller c =
    let f = follows_is c.args.s.now c.loop-last.left c.loop-last.at c.loop-last.last (sym c.follows.ensures ∙ c.loop-last-test.true) in
    omega (arith, f.some)

pub loop-last-preserved : goal.loop-last-preserved
loop-last-preserved c =
    let f = follows_is c.args.s.now c.loop-last.left c.loop-last.at c.loop-last.last (sym c.follows.ensures ∙ c.loop-last-test.true) in (
      rw (c.u32_at-last.ensures, f.number) (sym (f.spans c.args.first) ∙ c.loop-last.invariant.0),
      sym f.ends ∙ c.loop-last.invariant.1,
      sym f.bodies ∙ c.loop-last.invariant.2,
      omega (arith, c.loop-last.invariant.3),
    )

pub returns : goal.returns
unfolding destination
returns c =
    let a = c.args in
    record {
      spans = sym c.loop-last.invariant.0 ∙ gather_end a.s.now c.loop-last.left c.loop-last.at a.first c.loop-last.last (sym c.follows.ensures ∙ c.loop-last-test.false);
      stands = record { inside = rw c.loop-last.invariant.1 c.requires.inside; size = c.requires.size; place = c.loop-last.invariant.2 };
      fewer = c.loop-last.invariant.3;
      behind = omega arith;
      place = refl;
    }
