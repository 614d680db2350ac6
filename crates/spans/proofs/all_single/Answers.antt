-- `all_single` meets its contract. The loop's invariant: the runs are all single if those from here on are.
use Prim.Native.Nat.{◌+◌, ◌-◌}
use mathlib.Core.Path.{◌≡◌, sym}
use native.Mathlib.Omega.{arith}
use borrow.Author.Tests.{eq-eqb, ne_eqb}
use Rattle.spans.specs.Spans.{spans_from, span_of}
use Rattle.spans.proofs.Reading.{span_left, take_more, take_zero, length_less, singles_more, singles_none}
use Rattle.spans.proofs.all_single.Goals as goal

pub next_run-run-requires : goal.next_run-run-requires
next_run-run-requires c =
    let left = c.args.n - c.loop.counter in
    let some : left ≡ 0 → ⊥ = λ e. omega arith in
    (c.loop.invariant.0, span_left c.args.s.now c.loop.here left some c.loop.invariant.1)

pub returns-then-run : goal.returns-then-run
returns-then-run c =
    let left = c.args.n - c.loop.counter in
    let some : left ≡ 0 → ⊥ = λ e. omega arith in
    let x = span_of c.next_run-run.result in
    let t = take_more left x _ _ some c.next_run-run.ensures.spans in
    rw (← c.loop.invariant.2, t, singles_more x, ne_eqb x.first x.last c.if-run.true)

pub loop-preserved : goal.loop-preserved
loop-preserved c =
    let left = c.args.n - c.loop.counter in
    let some : left ≡ 0 → ⊥ = λ e. omega arith in
    let less : left - 1 ≡ c.args.n - (c.loop.counter + 1) = omega arith in
    let x = span_of c.next_run-run.result in
    let e = c.next_run-run.ensures.spans in
    let t = take_more left x _ _ some e in (
      c.next_run-run.ensures.stands,
      rw (← less) (length_less left x _ _ some e c.loop.invariant.1),
      rw (← less, ← c.loop.invariant.2, t, singles_more x, eq-eqb x.first x.last c.if-run.false),
    )

pub returns : goal.returns
returns c =
    let left = c.args.n - c.loop.counter in
    let none : left ≡ 0 = omega arith in
    rw (← c.loop.invariant.2, take_zero left (spans_from c.args.s.now c.loop.here) none) (sym singles_none)
