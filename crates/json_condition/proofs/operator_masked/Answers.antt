-- `operator_masked` meets its contract: the object goes key, number, end, and the first of them that stops is told.
use mathlib.Core.Path.{refl, ap}
use native.Mathlib.Omega.{arith}
use mathlib.Core.Bool.{true}
use Prim.Native.Nat.{ℕ, ◌-◌, ◌^◌}
use Rattle.definitions.specs.FormReader.{put_in, natural_there}
use Rattle.definitions.specs.declared.Operator.TheVariants.{MaskedEq}
use Rattle.json_condition.proofs.Reading as reading
use Rattle.json_condition.proofs.Words as words
use Rattle.json_condition.proofs.OneKey as one
use Rattle.json_condition.specs.Conditions.{comparison_of}
use Rattle.json_condition.specs.Words.{key_known, key_meant}
use Rattle.json_condition.proofs.operator_masked.Goals as goal

pub returns-in_err-key : goal.returns-in_err-key
returns-in_err-key c = reading.handed _ _ c.from_residual.ensures.1 (reading.stopped _ c.in_err-key.ensures (one.one_stops (key_known true) (λ w. put_in (λ m. record { operator = MaskedEq; mask = m }) (natural_there (2 ^ 64 - 1))) key_meant (λ k n e. (words.key_named true k n e).key) _))

pub returns-in_err-mask : goal.returns-in_err-mask
returns-in_err-mask c =
    let k = reading.read c.in_ok-key.ensures refl in
    reading.handed _ _ c.from_residual-in_err-mask.ensures.1 (reading.stopped _ c.in_err-mask.ensures (λ e. one.one_value_stops (key_known true) (λ w. put_in (λ m. record { operator = MaskedEq; mask = m }) (natural_there (2 ^ 64 - 1))) key_meant (λ k n e. (words.key_named true k n e).key) _ k.same (rw e)))

pub returns-in_err-end : goal.returns-in_err-end
returns-in_err-end c =
    let k = reading.read c.in_ok-key.ensures refl in
    let v = reading.read c.in_ok-mask.ensures refl in
    reading.handed _ _ c.from_residual-in_err-end.ensures.1 (reading.stopped _ c.in_err-end.ensures (one.one_end_stops (key_known true) (λ w. put_in (λ m. record { operator = MaskedEq; mask = m }) (natural_there (2 ^ 64 - 1))) key_meant (λ k n e. (words.key_named true k n e).key) _ k.same (reading.put_got (λ (m : ℕ). record { operator = MaskedEq; mask = m }) v.same) (one.room c.args.text.now _ _ _ k.on v.on) k.value.0))

pub returns : goal.returns
returns c =
    let k = reading.read c.in_ok-key.ensures refl in
    let v = reading.read c.in_ok-mask.ensures refl in
    let z = reading.read c.in_ok-end.ensures refl in
    reading.tell_read (record { operator = MaskedEq; mask = v.part }) refl (one.one_fine (key_known true) (λ w. put_in (λ m. record { operator = MaskedEq; mask = m }) (natural_there (2 ^ 64 - 1))) key_meant (λ k n e. (words.key_named true k n e).key) _ k.same (reading.put_got (λ (m : ℕ). record { operator = MaskedEq; mask = m }) v.same) (one.room c.args.text.now _ _ _ k.on v.on) k.value.0 z.same) (omega (arith, k.on, v.on, z.on)) z.inside (ap (λ (m : ℕ). comparison_of (record { operator = MaskedEq; mask = m })) v.value)
