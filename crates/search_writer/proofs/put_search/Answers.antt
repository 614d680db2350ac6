-- `put_search` meets its contract: the head and what stands behind it are the filter.
use native.Mathlib.Omega.{arith}
use Rattle.search_writer.proofs.Planted.{search_is, search_long, head_put}
use Rattle.search_writer.proofs.put_search.Goals as goal

pub put_searched-requires : goal.put_searched-requires
put_searched-requires c =
    let k = search_long c.args.s.now in
    rw c.u32_at-n.ensures (omega (arith, c.requires))

pub put_head-requires : goal.put_head-requires
put_head-requires c =
    let k = search_long c.args.s.now in
    rw (c.u32_at.ensures, c.u32_at-n.ensures) (omega (arith, c.requires.count_value, c.put_searched.auto.out))

pub returns : goal.returns
returns c =
    let a = c.args in
    let given = c.requires in
    let s = a.s.now in
    let k = search_long s in
    rw (search_is s, c.put_head.ensures.0, c.u32_at.ensures, c.put_searched.ensures, c.u32_at-n.ensures)
    (head_put _ a.count _ _ (omega (arith, given.count_value)) given.count_value.1)
