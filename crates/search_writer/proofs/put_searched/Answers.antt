-- `put_searched` meets its contract: the code of the rules is put where it is to end, and the tree in front of it.
use native.Mathlib.Omega.{arith}
use Rattle.search_bodies.specs.Here.{bodies_here}
use Rattle.search_writer.proofs.Planted.{planted_longer, bodies_put}
use Rattle.search_writer.proofs.put_searched.Goals as goal

pub overflow_sub-end : goal.overflow_sub-end
overflow_sub-end c =
    let a = c.args in
    let b = planted_longer a.s.now a.n in
    omega (arith, c.requires.n_len_bound, c.bodies_length-total.ensures)

pub put_bodies-requires : goal.put_bodies-requires
put_bodies-requires c =
    let a = c.args in
    let given = c.requires in
    let b = planted_longer a.s.now a.n in
    record { reach = (given.in_bounds.2, given.in_bounds.1); from_in_bounds = rw (c.actions_here-actions.ensures) (omega (arith, given.n_len_bound, c.bodies_length-total.ensures)) }

pub returns : goal.returns
returns c =
    let a = c.args in
    let given = c.requires in
    let s = a.s.now in
    let b = planted_longer s a.n in
    let o = rw (c.actions_here-actions.ensures) at c.put_bodies.ensures in
    let w = bodies_put a.out.now _ _ _ (bodies_here s a.n 16) (omega (arith, given.n_len_bound, c.bodies_length-total.ensures)) given.n_len_bound.1 o in
    (c.put_planted.ensures.1 a.out.now w).1.there (omega (arith, given.n_len_bound))
