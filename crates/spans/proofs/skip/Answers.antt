-- `skip` meets its contract. The loop's invariant: what is left to be passed leads from here to where the whole leads.
use Prim.Native.Nat.{◌+◌, ◌-◌}
use mathlib.Core.Path.{◌≡◌, ◌∙◌}
use native.Mathlib.Omega.{arith}
use Rattle.spans.specs.Spans.{span_of}
use Rattle.spans.proofs.Reading.{span_left, drop_more, length_less}
use Rattle.spans.proofs.skip.Goals as goal

pub next_run-requires : goal.next_run-requires
next_run-requires c =
    let left = c.args.n - c.loop.counter in
    let some : left ≡ 0 → ⊥ = λ e. omega arith in
    (c.loop.invariant.0, span_left c.args.s.now c.loop.here left some c.loop.invariant.1)

pub loop-preserved : goal.loop-preserved
loop-preserved c =
    let left = c.args.n - c.loop.counter in
    let some : left ≡ 0 → ⊥ = λ e. omega arith in
    let less : left - 1 ≡ c.args.n - (c.loop.counter + 1) = omega arith in
    let x = span_of c.next_run.result in
    let e = c.next_run.ensures.spans in (
      c.next_run.ensures.stands,
      rw (← less) (length_less left x _ _ some e c.loop.invariant.1),
      rw (← less) (drop_more left x _ _ some e ∙ c.loop.invariant.2),
      omega (arith, c.next_run.ensures.behind, c.loop.invariant.3),
    )
