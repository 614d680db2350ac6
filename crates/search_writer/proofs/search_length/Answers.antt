-- `search_length` meets its contract: the code of the rules is counted, then the rest.
use native.Mathlib.Omega.{arith}
use Rattle.search_writer.proofs.Planted.{first_inside}
use Rattle.search_writer.proofs.search_length.Goals as goal

pub bodies_length-total-requires : goal.bodies_length-total-requires
bodies_length-total-requires c =
    let given = c.requires in
    (omega (arith, given.0.entries, first_inside c.args.s.now c.args.n _ 16 given.1), given.0.size)
