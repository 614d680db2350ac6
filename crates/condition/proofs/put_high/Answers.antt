-- `put_high` meets its contract: three instructions, or the second of them overwritten by the first.
use native.Mathlib.Omega.{arith}
use Rattle.condition.specs.Shape.{high_code}
use Rattle.bpf.proofs.Buffer.{put_over, put_in_front, put_at}
use Rattle.condition.proofs.put_high.Goals as goal
use Rattle.condition.proofs.put_high.Goals.{then-ordered, else-ordered}

pub returns : goal.returns
unfolding high_code
returns c =
    elim c.if-ordered.branch [
      | then-ordered w ↦
          let room = rw w.if-ordered.true at c.requires.2 in
          rw (w.if-ordered.true, w.front-is) (put_at (omega arith) (rw (c.put-3.ensures, c.put-2.ensures, c.if_equal.ensures, c.put.ensures, c.if_greater.ensures, w.front-is) (put_in_front _ _ _ _ _ _ (omega arith) (omega (arith, c.requires.3)))))
      | else-ordered w ↦
          let room = rw w.if-ordered.false at c.requires.2 in
          rw (w.if-ordered.false, w.front-is) (put_at (omega arith) (rw (c.put-3.ensures, c.put-2.ensures, c.if_equal.ensures, c.put.ensures, c.if_greater.ensures, w.front-is) (put_over _ _ _ _ _ (omega (arith, c.requires.3)))))
    ]
