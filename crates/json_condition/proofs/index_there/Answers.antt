-- `index_there` meets its contract: a number above 5 is refused where it begins.
use mathlib.Core.Path.{refl, ap}
use Prim.Native.Nat.{ℕ}
use native.Mathlib.Omega.{arith}
use Rattle.json_condition.specs.declared.Part.TheVariants.{Index}
use Rattle.json_condition.proofs.Reading as reading
use Rattle.json_condition.proofs.index_there.Goals as goal

pub returns-in_err-number : goal.returns-in_err-number
returns-in_err-number c = reading.handed _ _ c.from_residual.ensures.1 (reading.stopped _ c.in_err-number.ensures (reading.index_stops _ _ _))

pub returns-then-number-gt5 : goal.returns-then-number-gt5
returns-then-number-gt5 c =
    let n = reading.read c.in_ok-number.ensures refl in
    reading.tell_fault (record { same = reading.index_high _ _ _ n.same (omega (arith, n.value)); fault = omega arith; inside = c.requires })

pub returns : goal.returns
returns c =
    let n = reading.read c.in_ok-number.ensures refl in
    reading.tell_read n.part refl (reading.index_fine _ _ _ n.same (omega (arith, n.value))) n.on n.inside (ap (λ (i : ℕ). Index i) n.value)
