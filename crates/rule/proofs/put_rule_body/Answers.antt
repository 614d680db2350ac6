-- `put_rule_body` meets its contract.
use mathlib.Core.Path.{sym, ◌∙◌}
use native.Mathlib.Omega.{arith}
use Rattle.bpf.proofs.Buffer.{put_where, before_turn, before_end}
use Rattle.set_view.specs.Parts.{conditions_here}
use Rattle.rule.proofs.Rules.{code_more, code_none, distance_more, distance_none, body_is_long, body_put}
use Rattle.rule.proofs.put_rule_body.Goals as goal

pub loop-preserved : goal.loop-preserved
loop-preserved c =
    let s = c.args.s.now in
    let here = c.loop.here in
    let d = c.loop.d in
    let k = c.loop.counter in
    let more = code_more s c.args.n k here d c.loop-test.true in
    let o = rw c.condition_here.ensures at c.put_step-step.ensures.0 in
    let e = rw c.condition_here.ensures at c.put_step-step.ensures.1 in (
      rw e (before_turn _ _ _ _ _ _ _ _ _ _ c.loop.invariant.0 more o.spot (put_where o) c.put_step-step.auto.out),
      rw e (sym (distance_more s c.args.n k here d c.loop-test.true) ∙ c.loop.invariant.1),
      omega arith,
    )

pub returns : goal.returns
returns c =
    let s = c.args.s.now in
    let here = c.loop.here in
    let d = c.loop.d in
    let k = c.loop.counter in
    let e = c.loop-test.false in
    let q = conditions_here s c.args.n c.args.from in
    let n = body_is_long c.args.m q in (
      before_end _ _ _ _ _ _ c.loop.invariant.0 (code_none s c.args.n k here d e) ∙ rw (c.put.ensures, c.give.ensures) (body_put _ _ _ c.args.m q (omega arith) c.requires.from_bound.0 c.requires.from_bound.1),
      sym (distance_none s c.args.n k here d e) ∙ c.loop.invariant.1,
    )
