-- The operation that is in a code's own bits.
use Rattle.std.specs.Prelude.{ℕ, cond, eqb}
use Rattle.definitions.specs.Machine.{Alu, add, sub, mul, div, or, and, lsh, rsh, xor}
use Rattle.definitions.specs.Machine.{Test, eq, gt, ge, set}

unfoldable pub alu_numbered : ℕ → Alu
alu_numbered n =
    cond (eqb n 0) add
    (cond (eqb n 1) sub
    (cond (eqb n 2) mul
    (cond (eqb n 3) div (cond (eqb n 4) or (cond (eqb n 5) and (cond (eqb n 6) lsh (cond (eqb n 7) rsh xor)))))))

unfoldable pub test_numbered : ℕ → Test
test_numbered n = cond (eqb n 1) eq (cond (eqb n 2) gt (cond (eqb n 3) ge set))
