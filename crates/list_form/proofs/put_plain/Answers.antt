-- `put_plain` meets its contract. The loop's invariant: what is left, written here, is the whole, written there; and both are read
-- from bytes that end at one place.
use mathlib.Core.Path.{◌≡◌, sym, ◌∙◌}
use Prim.Native.Nat.{◌+◌, ◌-◌}
use native.Mathlib.Omega.{arith}
use Rattle.definitions.specs.Emitted.{entry_code}
use Rattle.bpf.proofs.Buffer.{write_turn, write_room}
use Rattle.set_view.specs.Parts.{entry_here, entry_past}
use Rattle.set_view.proofs.Walk.{behind_more, entries_further, entry_inside, plain_is, plain_passed, plain_past}
use Rattle.list_form.proofs.Filters.{entries_more, plain_length}
use Rattle.list_form.proofs.put_plain.Goals as goal

pub put_listed-requires : goal.put_listed-requires
put_listed-requires c =
    let a = c.args in
    let s = a.s.now in
    let left = a.n - c.loop-actions.run in
    let past = c.loop-actions.past in
    let p = plain_is s left past (sym c.plain_here.ensures ∙ c.loop-actions-test.true) in
    let i = entry_inside s left past _ p.0 c.loop-actions.invariant.1 c.requires.from_in_bounds.0 in
    let n = plain_length s past a.actions.on_match a.actions.mismatch p.1 in
    let e = plain_past s past p.1 in
    let room = write_room _ _ _ _ _ _ (entry_code a.actions.on_match a.actions.mismatch (entry_here s past)) _ c.requires.from_in_bounds_2 c.loop-actions.invariant.0 (entries_more s left past a.actions.on_match a.actions.mismatch p.0) in
    (omega arith, omega arith, p.1, omega arith)

pub overflow_add-past : goal.overflow_add-past
overflow_add-past c =
    let a = c.args in
    let s = a.s.now in
    let left = a.n - c.loop-actions.run in
    let past = c.loop-actions.past in
    let p = plain_is s left past (sym c.plain_here.ensures ∙ c.loop-actions-test.true) in
    let i = entry_inside s left past _ p.0 c.loop-actions.invariant.1 c.requires.from_in_bounds.0 in
    omega (arith, plain_past s past p.1)

pub overflow_add-run : goal.overflow_add-run
overflow_add-run c =
    let a = c.args in
    let s = a.s.now in
    let left = a.n - c.loop-actions.run in
    let past = c.loop-actions.past in
    let p = plain_is s left past (sym c.plain_here.ensures ∙ c.loop-actions-test.true) in
    omega (arith, p.0, c.loop-actions.invariant.4)

pub loop-actions-smaller : goal.loop-actions-smaller
loop-actions-smaller c =
    let a = c.args in
    let s = a.s.now in
    let left = a.n - c.loop-actions.run in
    let past = c.loop-actions.past in
    let p = plain_is s left past (sym c.plain_here.ensures ∙ c.loop-actions-test.true) in
    omega (arith, p.0, c.loop-actions.invariant.4)

pub loop-actions-preserved : goal.loop-actions-preserved
loop-actions-preserved c =
    let a = c.args in
    let s = a.s.now in
    let left = a.n - c.loop-actions.run in
    let past = c.loop-actions.past in
    let p = plain_is s left past (sym c.plain_here.ensures ∙ c.loop-actions-test.true) in
    let e : left - 1 ≡ a.n - (c.loop-actions.run + 1) = omega arith in
    let q = plain_past s past p.1 in
    let n = plain_length s past a.actions.on_match a.actions.mismatch p.1 in
    let more = entries_more s left past a.actions.on_match a.actions.mismatch p.0 in (
      rw (← e, ← q) (write_turn _ _ _ _ _ _ (entry_code a.actions.on_match a.actions.mismatch (entry_here s past)) _ _ _ c.requires.from_in_bounds_2 c.loop-actions.invariant.0 more
          c.put_listed.ensures (omega arith) c.put_listed.auto.out),
      rw (← e, ← q) (sym (behind_more (entry_past s) left past p.0) ∙ c.loop-actions.invariant.1),
      omega (arith, c.loop-actions.invariant),
      omega (arith, c.loop-actions.invariant),
      omega (arith, p.0, c.loop-actions.invariant.4),
    )

pub returns : goal.returns
returns c =
    let a = c.args in
    let s = a.s.now in
    let inv = c.loop-actions.invariant in
    let further = entries_further s (a.n - c.loop-actions.run) c.loop-actions.past in (
      rw (← inv.2, ← inv.3) inv.0,
      rw (← inv.2) inv.1,
      plain_passed s a.n a.from c.loop-actions.run c.loop-actions.past c.requires.from_in_bounds.2 (sym c.plain_here.ensures ∙ c.loop-actions-test.false) inv.2,
      inv.4,
      omega (arith, inv.1, inv.2, c.requires.from_in_bounds),
    )
