-- `put_masked` meets its contract: the low half, and in front of it of a qword the high half.
use Rattle.bpf.proofs.Buffer.{put_both}
use Rattle.condition.proofs.Shapes.{masked_qword}
use Rattle.condition.proofs.put_masked.Goals as goal

pub returns-in-Qword : goal.returns-in-Qword
returns-in-Qword c =
    rw (masked_qword c.args.q c.args.f c.requires.3 c.in-Qword.is, ← c.low.ensures, ← c.low-2.ensures, ← c.load_word.ensures, ← c.high.ensures, ← c.high-in-Qword.ensures, ← c.load_word-in-Qword.ensures)
    (put_both c.requires.2 c.put_masked_half-next.ensures c.put_masked_half.ensures)
