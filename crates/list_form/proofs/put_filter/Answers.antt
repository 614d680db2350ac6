-- `put_filter` meets its contract: the head, the entries behind it, and the return for a number that none of them lists.
use native.Mathlib.Omega.{arith}
use Rattle.list_form.proofs.Filters.{head_here, code_here, filter_is_lem, filter_length_lem, put_headed}
use Rattle.list_form.proofs.put_filter.Goals as goal

pub put_head-at-requires : goal.put_head-at-requires
put_head-at-requires c =
    let n = filter_length_lem c.args.s.now in
    rw (c.u32_at.ensures, c.u32_at-n.ensures) (omega (arith, c.requires.s_in_bounds))

pub put_entries-end-requires : goal.put_entries-end-requires
put_entries-end-requires c =
    let n = filter_length_lem c.args.s.now in
    let at = rw (c.u32_at.ensures, c.u32_at-n.ensures) at c.put_head-at.ensures.1 in
    rw (c.u32_at-n.ensures, c.actions_here-actions.ensures)
    (record { reach = (c.requires.readable.entries, c.requires.readable.size); from_in_bounds = omega (arith, c.requires.s_in_bounds, c.put_head-at.auto.out) })

pub put-requires : goal.put-requires
put-requires c =
    let n = filter_length_lem c.args.s.now in
    let at = rw (c.u32_at.ensures, c.u32_at-n.ensures) at c.put_head-at.ensures.1 in
    let end = rw (c.u32_at-n.ensures, c.actions_here-actions.ensures) at c.put_entries-end.ensures.1 in
    omega (arith, c.requires.s_in_bounds, c.put_head-at.auto.out, c.put_entries-end.auto.out)

pub returns : goal.returns
returns c =
    let s = c.args.s.now in
    let n = filter_length_lem s in
    let at = rw (c.u32_at.ensures, c.u32_at-n.ensures) at c.put_head-at.ensures.1 in
    let end = rw (c.u32_at-n.ensures, c.actions_here-actions.ensures) at c.put_entries-end.ensures.1 in
    rw (
      filter_is_lem s,
      c.put.ensures,
      c.give.ensures,
      c.put_entries-end.ensures.0,
      c.put_head-at.ensures.0,
      c.u32_at.ensures,
      c.u32_at-n.ensures,
      c.actions_here-actions.ensures,
    )
    (put_headed _ _ _ (head_here s) (code_here s) _ at end (omega (arith, c.requires.s_in_bounds)))
