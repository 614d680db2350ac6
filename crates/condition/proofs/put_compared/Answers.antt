-- `put_compared` meets its contract: the low words compared, and in front of them of a qword the high words.
use mathlib.Core.Path.{◌≡◌}
use mathlib.Core.Bool.{Bool, true, false, cond, not}
use Prim.Native.Nat.{ℕ, ◌≤◌}
use native.Mathlib.Omega.{arith}
use lib.ListN.{length-append}
use Rattle.bpf.proofs.Buffer.{put_both}
use Rattle.condition.proofs.Shapes.{compared_qword}
use Rattle.condition.proofs.put_compared.Goals as goal
use Rattle.condition.proofs.put_compared.Goals.{then-is_turned, else-is_turned}

either_fits : (turned : Bool) (f n : ℕ) → f ≤ n → (cond turned f 0 ≤ n) × (cond (not turned) f 0 ≤ n)
either_fits true f n h = (h, omega arith)
either_fits false f n h = (omega arith, h)

pub put_high-requires : goal.put_high-requires
put_high-requires c =
    let jt : cond c.is_turned.result c.args.f 0 ≡ c.if-is_turned.jt.0 = elim c.if-is_turned.branch [ then-is_turned w ↦ rw (w.jt-is, w.if-is_turned.true) | else-is_turned w ↦ rw (w.jt-is, w.if-is_turned.false) ] in
    let jf : cond (not c.is_turned.result) c.args.f 0 ≡ c.if-is_turned.jt.1 = elim c.if-is_turned.branch [ then-is_turned w ↦ rw (w.jt-is, w.if-is_turned.true) | else-is_turned w ↦ rw (w.jt-is, w.if-is_turned.false) ] in
    let fits = rw (jt, jf) at (either_fits c.is_turned.result c.args.f 252 c.requires.0) in
    let room = rw (compared_qword c.args.q c.args.f c.requires.3 c.in-Qword.is, length-append, ← c.is_turned.ensures, jt, jf, ← c.is_ordered.ensures, ← c.high.ensures, ← c.load_word-in-Qword.ensures) at c.requires.1 in
    (fits.0, fits.1, omega (arith, c.put_all-next.ensures.spot), omega (arith, c.put_all-next.ensures.spot, c.put_all-next.auto.out, c.requires.2))

pub returns-in-Qword : goal.returns-in-Qword
returns-in-Qword c =
    let jt : cond c.is_turned.result c.args.f 0 ≡ c.if-is_turned.jt.0 = elim c.if-is_turned.branch [ then-is_turned w ↦ rw (w.jt-is, w.if-is_turned.true) | else-is_turned w ↦ rw (w.jt-is, w.if-is_turned.false) ] in
    let jf : cond (not c.is_turned.result) c.args.f 0 ≡ c.if-is_turned.jt.1 = elim c.if-is_turned.branch [ then-is_turned w ↦ rw (w.jt-is, w.if-is_turned.true) | else-is_turned w ↦ rw (w.jt-is, w.if-is_turned.false) ] in
    rw (compared_qword c.args.q c.args.f c.requires.3 c.in-Qword.is, ← c.is_turned.ensures, jt, jf, ← c.is_ordered.ensures, ← c.jump_code.ensures, ← c.low.ensures, ← c.load_word.ensures, ← c.high.ensures, ← c.load_word-in-Qword.ensures)
    (put_both c.requires.2 c.put_all-next.ensures c.put_high.ensures)
