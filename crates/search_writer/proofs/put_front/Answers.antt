-- `put_front` meets its contract: where there is no room for one more, nothing is said of the bytes.
use native.Mathlib.Omega.{arith}
use Rattle.search_writer.proofs.Planting.{written_front, written_full, reach_put}
use Rattle.search_writer.proofs.put_front.Goals as goal
use Rattle.search_writer.proofs.put_front.Goals.{then-before-end, else-before-end}

pub returns : goal.returns
returns c = (
  reach_put _ c.args.count _ _ c.args.i
      (λ z p e w.
      elim c.if-before-end.branch [
        | then-before-end v ↦ rw v.out-is (written_front z _ _ c.args.end _ p c.args.i (rw e (omega arith)) w v.put.ensures)
        | else-before-end v ↦ rw v.out-is (written_full z _ c.args.end p c.args.i (rw e (omega arith)) w)
      ]),
  omega arith,
)
