-- `bodies_length` meets its contract. The loop's invariant: what is counted, and what is left, is all; and no entry has more
-- instructions here than bytes.
use mathlib.Core.Path.{◌≡◌, ap}
use mathlib.Core.List.{List}
use Prim.Native.Nat.{◌+◌, ◌-◌}
use native.Mathlib.Omega.{arith}
use lib.ListN.{length}
use Rattle.definitions.specs.declared.Instruction.{Instruction}
use Rattle.definitions.specs.Word.{number_at}
use Rattle.set_view.specs.Parts.{entry_past}
use Rattle.set_view.proofs.Walk.{behind_more, entries_further, entry_inside, entry_past_lem}
use Rattle.search_bodies.proofs.Bodies.{bodies_last, entry_room, bodies_long}
use Rattle.search_bodies.proofs.bodies_length.Goals as goal

pub overflow_add-past : goal.overflow_add-past
overflow_add-past c =
    let left = c.args.n - c.loop.counter in
    let some : left ≡ 0 → ⊥ = λ e. omega arith in
    let s = c.args.s.now in
    omega (arith, entry_room s left c.loop.past _ some c.loop.invariant.1 c.requires.0, c.requires.1)

pub u32_at-rules-requires : goal.u32_at-rules-requires
u32_at-rules-requires c =
    let left = c.args.n - c.loop.counter in
    let some : left ≡ 0 → ⊥ = λ e. omega arith in
    let s = c.args.s.now in
    omega (arith, entry_room s left c.loop.past _ some c.loop.invariant.1 c.requires.0)

pub overflow_add-past-in-loop : goal.overflow_add-past-in-loop
overflow_add-past-in-loop c =
    let left = c.args.n - c.loop.counter in
    let some : left ≡ 0 → ⊥ = λ e. omega arith in
    let s = c.args.s.now in
    omega (arith, entry_room s left c.loop.past _ some c.loop.invariant.1 c.requires.0, c.requires.1)

pub body_length-body-requires : goal.body_length-body-requires
body_length-body-requires c =
    let left = c.args.n - c.loop.counter in
    let some : left ≡ 0 → ⊥ = λ e. omega arith in
    let s = c.args.s.now in
    let i = entry_inside s left c.loop.past _ some c.loop.invariant.1 c.requires.0 in
    (rw (c.u32_at-rules.ensures, ← entry_past_lem s c.loop.past) i, c.requires.1)

pub loop-preserved : goal.loop-preserved
loop-preserved c =
    let left = c.args.n - c.loop.counter in
    let some : left ≡ 0 → ⊥ = λ e. omega arith in
    let e : left - 1 ≡ c.args.n - (c.loop.counter + 1) = omega arith in
    let s = c.args.s.now in
    let m = number_at 4 s 8 in
    let d = number_at 4 s 4 in
    let k = rw c.u32_at-rules.ensures at (c.body_length-body.ensures.0 m d) in
    let p = rw (c.u32_at-rules.ensures, ← entry_past_lem s c.loop.past) at c.body_length-body.ensures.1 in
    let b = bodies_long s left c.loop.past m d some in (
      rw (← e, p) (omega (arith, k, b, c.loop.invariant.0)),
      rw (← e, p, ← behind_more (entry_past s) left c.loop.past some) c.loop.invariant.1,
      omega (arith, c.body_length-body.ensures.2, c.loop.invariant.2),
    )

pub returns : goal.returns
returns c =
    let left = c.args.n - c.loop.counter in
    let none : left ≡ 0 = omega arith in
    let s = c.args.s.now in
    let b = ap (λ (l : List Instruction). length l) (bodies_last s left c.loop.past (number_at 4 s 8) (number_at 4 s 4) none) in
    (omega (arith, b, c.loop.invariant.0), omega (arith, c.loop.invariant.1, c.loop.invariant.2, entries_further s left c.loop.past, c.requires))
