-- `put_bodies` meets its contract. The loop's invariant: what is left, written here, is the whole, written there; and both are read
-- from bytes that end at one place.
use mathlib.Core.Path.{◌≡◌, sym, ◌∙◌}
use Prim.Native.Nat.{◌+◌, ◌-◌}
use native.Mathlib.Omega.{arith}
use Rattle.definitions.specs.Word.{number_at}
use Rattle.bpf.proofs.Buffer.{write_turn, write_room}
use Rattle.definitions.specs.Emitted.{entry_body}
use Rattle.set_view.specs.Parts.{entry_past, rules_here}
use Rattle.set_view.proofs.Walk.{behind_more, entry_inside, entry_past_lem}
use Rattle.search_bodies.proofs.Bodies.{entry_room, bodies_more, bodies_last, write_last}
use Rattle.search_bodies.proofs.put_bodies.Goals as goal

pub overflow_add-past : goal.overflow_add-past
overflow_add-past c =
    let left = c.args.n - c.loop.counter in
    let some : left ≡ 0 → ⊥ = λ e. omega arith in
    let s = c.args.s.now in
    let past = c.loop.past in
    omega (arith, entry_room s left past _ some c.loop.invariant.1 c.requires.reach.0, c.requires.reach.1)

pub u32_at-rules-requires : goal.u32_at-rules-requires
u32_at-rules-requires c =
    let left = c.args.n - c.loop.counter in
    let some : left ≡ 0 → ⊥ = λ e. omega arith in
    let s = c.args.s.now in
    let past = c.loop.past in
    omega (arith, entry_room s left past _ some c.loop.invariant.1 c.requires.reach.0)

pub overflow_add-past-in-loop : goal.overflow_add-past-in-loop
overflow_add-past-in-loop c =
    let left = c.args.n - c.loop.counter in
    let some : left ≡ 0 → ⊥ = λ e. omega arith in
    let s = c.args.s.now in
    let past = c.loop.past in
    omega (arith, entry_room s left past _ some c.loop.invariant.1 c.requires.reach.0, c.requires.reach.1)

pub put_entry_body-entry-requires : goal.put_entry_body-entry-requires
put_entry_body-entry-requires c =
    let left = c.args.n - c.loop.counter in
    let some : left ≡ 0 → ⊥ = λ e. omega arith in
    let s = c.args.s.now in
    let past = c.loop.past in
    let i = entry_inside s left past _ some c.loop.invariant.1 c.requires.reach.0 in
    let more = bodies_more s left past c.args.actions.on_match c.args.actions.mismatch some in
    let room = write_room _ _ _ _ _ _ (entry_body c.args.actions.on_match c.args.actions.mismatch (rules_here s (number_at 4 s (past + 4)) (past + 8))) _ c.requires.from_in_bounds c.loop.invariant.0 more in
    record { reach = (rw (c.u32_at-rules.ensures, ← entry_past_lem s past) i, c.requires.reach.1); from_in_bounds = rw c.u32_at-rules.ensures room }

pub loop-preserved : goal.loop-preserved
loop-preserved c =
    let left = c.args.n - c.loop.counter in
    let some : left ≡ 0 → ⊥ = λ e. omega arith in
    let s = c.args.s.now in
    let past = c.loop.past in
    let less : left - 1 ≡ c.args.n - (c.loop.counter + 1) = omega arith in
    let k = c.u32_at-rules.ensures in
    let e = rw (k, ← entry_past_lem s past) at c.put_entry_body-entry.ensures.2 in
    let more = bodies_more s left past c.args.actions.on_match c.args.actions.mismatch some in (
      rw (← less, e) (write_turn _ _ _ _ _ _ (entry_body c.args.actions.on_match c.args.actions.mismatch (rules_here s (number_at 4 s (past + 4)) (past + 8))) _ _ _ c.requires.from_in_bounds c.loop.invariant.0 more
          (rw k at c.put_entry_body-entry.ensures.0) (rw k at c.put_entry_body-entry.ensures.1) c.put_entry_body-entry.auto.out),
      rw (← less, e) (sym (behind_more (entry_past s) left past some) ∙ c.loop.invariant.1),
    )

pub put-requires : goal.put-requires
put-requires c =
    let left = c.args.n - c.loop.counter in
    let none : left ≡ 0 = omega arith in
    let last = bodies_last c.args.s.now left c.loop.past c.args.actions.on_match c.args.actions.mismatch none in
    let spot = rw last at c.loop.invariant.0.spot in
    omega (arith, spot, c.loop.invariant.0.long, c.requires.from_in_bounds)

pub returns : goal.returns
returns c =
    let left = c.args.n - c.loop.counter in
    let none : left ≡ 0 = omega arith in
    let last = bodies_last c.args.s.now left c.loop.past c.args.actions.on_match c.args.actions.mismatch none in
    rw (c.put.ensures, c.give.ensures) (write_last _ _ _ _ _ _ _ c.loop.invariant.0 last)
