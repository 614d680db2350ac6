-- `put_always` meets its contract: what it has put is the three instructions.
use native.Mathlib.Omega.{arith}
use Rattle.bpf.proofs.Buffer.{put_3}
use Rattle.list_form.proofs.Filters.{body_always}
use Rattle.list_form.proofs.put_always.Goals as goal

pub returns : goal.returns
returns c =
    rw (body_always, c.put-3.ensures, c.put-2.ensures, c.put.ensures, c.jump_by.ensures, c.jump_by-2.ensures, c.give.ensures)
    (put_3 _ _ _ _ _ (omega arith))
