-- `put_entry` meets its contract: the test of the number, the rules, and the return behind them are the entry.
use Prim.Native.Nat.{◌+◌}
use native.Mathlib.Omega.{arith}
use Rattle.definitions.specs.Word.{number_at}
use Rattle.definitions.specs.Emitted.{body_code}
use Rattle.set_view.specs.Parts.{rules_here}
use Rattle.set_view.proofs.Walk.{entry_further, entry_past_lem}
use Rattle.list_form.proofs.Filters.{put_around, entry_is, entry_length}
use Rattle.list_form.proofs.put_entry.Goals as goal

pub u32_at-number-requires : goal.u32_at-number-requires
u32_at-number-requires c =
    let f = entry_further c.args.s.now c.args.from in
    omega arith

pub overflow_add-from : goal.overflow_add-from
overflow_add-from c =
    let f = entry_further c.args.s.now c.args.from in
    omega arith

pub u32_at-rules-requires : goal.u32_at-rules-requires
u32_at-rules-requires c =
    let f = entry_further c.args.s.now c.args.from in
    omega arith

pub put-requires : goal.put-requires
put-requires c =
    let a = c.args in
    let s = a.s.now in
    let n = entry_length s a.from a.actions.on_match a.actions.mismatch in
    omega arith

pub overflow_add-from-2 : goal.overflow_add-from-2
overflow_add-from-2 c =
    let f = entry_further c.args.s.now c.args.from in
    omega (arith, c.requires)

pub put_body-body-requires : goal.put_body-body-requires
put_body-body-requires c =
    let a = c.args in
    let s = a.s.now in
    let n = entry_length s a.from a.actions.on_match a.actions.mismatch in
    let p = entry_past_lem s a.from in
    rw c.u32_at-rules.ensures (omega (arith, c.requires, c.put.auto.out))

pub put-requires-2 : goal.put-requires-2
put-requires-2 c =
    let a = c.args in
    let s = a.s.now in
    let n = entry_length s a.from a.actions.on_match a.actions.mismatch in
    let e = rw c.u32_at-rules.ensures at c.put_body-body.ensures.1 in
    omega (arith, c.requires, c.put.auto.out, c.put_body-body.auto.out)

pub overflow_add-result : goal.overflow_add-result
overflow_add-result c =
    let a = c.args in
    let s = a.s.now in
    let n = entry_length s a.from a.actions.on_match a.actions.mismatch in
    let e = rw c.u32_at-rules.ensures at c.put_body-body.ensures.1 in
    omega (arith, c.requires, c.well_formed)

pub returns : goal.returns
returns c =
    let a = c.args in
    let s = a.s.now in
    let n = entry_length s a.from a.actions.on_match a.actions.mismatch in
    let e = rw c.u32_at-rules.ensures at c.put_body-body.ensures.1 in (
      rw (
        entry_is s a.from a.actions.on_match a.actions.mismatch,
        c.put-2.ensures,
        c.give.ensures,
        c.put_body-body.ensures.0,
        c.put.ensures,
        c.if_equal.ensures,
        c.u32_at-number.ensures,
        c.u32_at-rules.ensures,
      )
          (put_around _ _ _ _ (body_code a.actions.on_match (rules_here s (number_at 4 s (a.from + 4)) (a.from + 8))) _ (omega arith) (omega (arith, c.requires))),
      omega arith,
      rw (entry_past_lem s a.from, ← c.u32_at-rules.ensures) c.put_body-body.ensures.2,
    )
