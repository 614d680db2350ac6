-- Conditions made of numbers: where the format has one, it is in range, and its bytes are those of the numbers.
use mathlib.Core.Path.{◌≡◌, refl, ◌∙◌}
use mathlib.Core.Option.{Option, none, some}
use Prim.Native.Nat.{ℕ, ◌^◌, ◌<◌}
use lib.ListN.{length}
use Rattle.definitions.specs.declared.Condition.{Condition}
use Rattle.definitions.specs.Word.{bytes_of}
use Rattle.definitions.specs.Format.{encode_condition, ConditionInRange, is_there}
use Rattle.definitions.specs.Format.{width_of, operator_of, mask_taken, then}
use Rattle.definitions.specs.Parts.{with_condition, condition_of, condition_part}
use Rattle.theorems.proofs.Tests.{then_some, check_some, some_same}
use Rattle.theorems.proofs.Names.{width_forth, operator_forth, mask_forth}
use Rattle.readers.specs.Tests.{condition_good}
use Rattle.readers.proofs.Names.{numbers_there}
use Rattle.writers.specs.Bytes.{condition_bytes}

pub condition_named : (index width operator value mask : ℕ) (q : Condition) → index < 2 ^ 8 → value < 2 ^ 64 → mask < 2 ^ 64
    → condition_of index width operator value mask ≡ some q
    → ConditionInRange q × (encode_condition q ≡ condition_bytes index width operator value mask)
unfolding condition_of encode_condition condition_bytes
condition_named index width operator value mask q i v m h =
    let w = then_some (width_of width) _ h in
    let o = then_some (operator_of operator) _ w.2 in
    let c = check_some (mask_taken o.0 mask) _ o.2 in
    let x = width_forth width w.0 w.1 in
    let y = operator_forth operator o.0 o.1 in
    rw (← some_same c.1) (record { index = i; value = v; mask = mask_forth o.0 mask m c.0 }, rw (x, y))

pub length_numbers : (index width operator value mask : ℕ) → length (condition_bytes index width operator value mask) ≡ 24
unfolding condition_bytes bytes_of
length_numbers index width operator value mask = refl

there_part : (x : Option Condition) → is_there (then x (λ q. some (with_condition q))) ≡ is_there x
there_part none = refl
there_part (some q) = refl

pub part_there : (index width operator value mask : ℕ) → is_there (condition_part index width operator value mask) ≡ condition_good width operator mask
part_there index width operator value mask =
    there_part (condition_of index width operator value mask) ∙ numbers_there index width operator value mask
