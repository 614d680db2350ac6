-- `put_rules` meets its contract.
use mathlib.Core.Path.{ap, sym, ◌∙◌}
use Rattle.bpf.proofs.Buffer.{write_turn, write_room, write_end}
use Rattle.set_view.specs.Parts.{rule_here, rule_past}
use Rattle.set_view.proofs.Walk.{parts_next, parts_end, rules_next, rules_end}
use Rattle.rule.specs.Form.{rule_with, rules_with}
use Rattle.rule.proofs.put_rules.Goals as goal

pub put_rule-end-requires-clause-from_in_bounds : goal.put_rule-end-requires-clause-from_in_bounds
put_rule-end-requires-clause-from_in_bounds c =
    let s = c.args.s.now in
    let more = ap (rules_with c.args.jumps c.args.m) (parts_next (rule_here s) (rule_past s) c.args.n c.loop.counter c.loop.past c.loop-test.true) in
    rw c.u32_at-conditions.ensures
    (write_room _ _ _ _ _ _ (rule_with c.args.jumps c.args.m (rule_here s c.loop.past)) _ c.requires.from_in_bounds c.loop.invariant.0 more)

pub loop-preserved : goal.loop-preserved
loop-preserved c =
    let s = c.args.s.now in
    let n = c.args.n in
    let i = c.loop.counter in
    let past = c.loop.past in
    let k = c.u32_at-conditions.ensures in
    let e = rw k at c.rule_past-past.ensures in
    let more = ap (rules_with c.args.jumps c.args.m) (parts_next (rule_here s) (rule_past s) n i past c.loop-test.true) in (
      rw e (write_turn _ _ _ _ _ _ (rule_with c.args.jumps c.args.m (rule_here s past)) _ _ _ c.requires.from_in_bounds c.loop.invariant.0 more
          (rw k at c.put_rule-end.ensures.0) (rw k at c.put_rule-end.ensures.1) c.put_rule-end.auto.out),
      rw e (sym (rules_next s n i past c.loop-test.true) ∙ c.loop.invariant.1),
    )

pub returns : goal.returns
returns c =
    let s = c.args.s.now in
    let n = c.args.n in
    let i = c.loop.counter in
    let past = c.loop.past in
    let e = c.loop-test.false in
    let w = write_end _ _ _ _ _ _ c.loop.invariant.0 (ap (rules_with c.args.jumps c.args.m) (parts_end (rule_here s) (rule_past s) n i past e)) in
    (w.0, w.1, sym (rules_end s n i past e) ∙ c.loop.invariant.1)
