-- `rules_length` meets its contract.
use mathlib.Core.Path.{◌≡◌, ap, sym, ◌∙◌}
use Prim.Native.Nat.{◌+◌, ◌-◌}
use native.Mathlib.Omega.{arith}
use lib.ListN.{length, length-append}
use Rattle.definitions.specs.Emitted.{rule_body, rule_bodies}
use Rattle.set_view.specs.Parts.{rule_here, rule_past, rules_here}
use Rattle.set_view.proofs.Walk.{parts_next, parts_end, rules_next, rules_end}
use Rattle.rule.proofs.rules_length.Goals as goal

pub loop-preserved : goal.loop-preserved
loop-preserved c =
    let s = c.args.s.now in
    let n = c.args.n in
    let i = c.loop.counter in
    let past = c.loop.past in
    let k = c.u32_at-conditions.ensures in
    let e = rw k at c.rule_past-past.ensures in (
      (λ m.
          let l = rw k at (c.rule_length-count.ensures.0 m) in
          let more : length (rule_bodies m (rules_here s (n - i) past)) ≡ length (rule_body m (rule_here s past)) + length (rule_bodies m (rules_here s (n - (i + 1)) (rule_past s past))) =
          rw (parts_next (rule_here s) (rule_past s) n i past c.loop-test.true, length-append) in
          rw e (omega (arith, c.loop.invariant.0 m))),
      rw e (sym (rules_next s n i past c.loop-test.true) ∙ c.loop.invariant.1),
      omega arith,
    )

pub returns : goal.returns
returns c =
    let s = c.args.s.now in
    let n = c.args.n in
    let i = c.loop.counter in
    let past = c.loop.past in
    let e = c.loop-test.false in (
      (λ m. omega (arith, ap (λ rs. length (rule_bodies m rs)) (parts_end (rule_here s) (rule_past s) n i past e), c.loop.invariant.0 m)),
      sym (rules_end s n i past e) ∙ c.loop.invariant.1,
      omega arith,
    )
