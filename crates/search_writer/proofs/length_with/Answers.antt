-- `length_with` meets its contract: what is written into no room at all is counted, behind the head.
use mathlib.Core.List.{[]}
use native.Mathlib.Omega.{arith}
use Rattle.definitions.specs.Word.{number_at}
use Rattle.search_bodies.specs.Here.{bodies_here}
use Rattle.search_bodies.proofs.Bodies.{bodies_there}
use Rattle.search_writer.proofs.Planted.{first_inside, first_long, no_room}
use Rattle.search_writer.proofs.length_with.Goals as goal

pub put_planted-behind-requires : goal.put_planted-behind-requires
put_planted-behind-requires c =
    let given = c.requires in
    record { end_in_bounds = (omega arith, given.readable.0.head, given.readable.0.size, omega (arith, given.readable.0.entries, first_inside c.args.s.now c.args.n _ 16 given.readable.1)); total_value = given.total_value }

pub returns : goal.returns
returns c =
    let s = c.args.s.now in
    let n = c.args.n in
    let p = (c.put_planted-behind.ensures.1 [] (no_room [] _ (bodies_here s n 16) (bodies_there s n 16 (number_at 4 s 8) (number_at 4 s 4)))).0 in
    let k = rw (← c.u32_at.ensures) at (first_long s n) in
    omega (arith, c.head_length.ensures.0)
