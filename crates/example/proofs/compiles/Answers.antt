-- `compiles` is safe: the compiler's contract says that the filter fits the buffer.
use Rattle.std.proofs.Common.{arith, length-take}
use Rattle.example.proofs.Calls.{compiled_room}
use Rattle.example.proofs.compiles.Goals as goal

pub slice_bounds-same-end : goal.slice_bounds-same-end
slice_bounds-same-end g c =
    omega (arith, compiled_room _ _ _ _ c.callfilter_compile-answer.ensures c.if-answer-ne0.false, c.callfilter_compile-answer.auto.out)

pub slice_bounds-same-end-2 : goal.slice_bounds-same-end-2
slice_bounds-same-end-2 g c =
    simp
    length-take
    (omega (arith, compiled_room _ _ _ _ c.callfilter_compile-answer.ensures c.if-answer-ne0.false, c.callfilter_compile-answer.auto.out))
