-- `action_numbered` meets its contract: the object goes key, number, end, and the first of them that stops is told.
use mathlib.Core.Path.{refl}
use native.Mathlib.Omega.{arith}
use mathlib.Core.Bool.{false}
use Prim.Native.Nat.{◌+◌, ◌-◌, ◌%◌, ◌^◌}
use Rattle.definitions.specs.FormReader.{put_in, natural_there}
use Rattle.json_condition.proofs.Reading as reading
use Rattle.json_condition.proofs.Words as words
use Rattle.json_condition.proofs.OneKey as one
use Rattle.json_condition.specs.Words.{key_known, key_meant}
use Rattle.json_condition.proofs.action_numbered.Goals as goal

pub returns-in_err-key : goal.returns-in_err-key
returns-in_err-key c = reading.handed _ _ c.from_residual.ensures.1 (reading.stopped _ c.in_err-key.ensures (one.one_stops (key_known false) (λ w. put_in (λ n. w + n % 2 ^ 16) (natural_there (2 ^ 32 - 1))) key_meant (λ k n e. (words.key_named false k n e).key) _))

pub returns-in_err-number : goal.returns-in_err-number
returns-in_err-number c =
    let k = reading.read c.in_ok-key.ensures refl in
    reading.handed _ _ c.from_residual-in_err-number.ensures.1 (reading.stopped _ c.in_err-number.ensures (λ e. one.one_value_stops (key_known false) (λ w. put_in (λ n. w + n % 2 ^ 16) (natural_there (2 ^ 32 - 1))) key_meant (λ k n e. (words.key_named false k n e).key) _ k.same (rw e)))

pub returns-in_err-end : goal.returns-in_err-end
returns-in_err-end c =
    let k = reading.read c.in_ok-key.ensures refl in
    let v = reading.read c.in_ok-number.ensures refl in
    reading.handed _ _ c.from_residual-in_err-end.ensures.1 (reading.stopped _ c.in_err-end.ensures (one.one_end_stops (key_known false) (λ w. put_in (λ n. w + n % 2 ^ 16) (natural_there (2 ^ 32 - 1))) key_meant (λ k n e. (words.key_named false k n e).key) _ k.same (reading.put_got (λ n. k.part + n % 2 ^ 16) v.same) (one.room c.args.text.now _ _ _ k.on v.on) k.value.0))

pub returns : goal.returns
returns c =
    let k = reading.read c.in_ok-key.ensures refl in
    let v = reading.read c.in_ok-number.ensures refl in
    let z = reading.read c.in_ok-end.ensures refl in
    reading.tell_read (k.part + v.part % 2 ^ 16) refl (one.one_fine (key_known false) (λ w. put_in (λ n. w + n % 2 ^ 16) (natural_there (2 ^ 32 - 1))) key_meant (λ k n e. (words.key_named false k n e).key) _ k.same (reading.put_got (λ n. k.part + n % 2 ^ 16) v.same) (one.room c.args.text.now _ _ _ k.on v.on) k.value.0 z.same) (omega (arith, k.on, v.on, z.on)) z.inside (reading.sum k.value.0 v.value)
