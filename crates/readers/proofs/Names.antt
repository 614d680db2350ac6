-- Conditions made of numbers: where the format has one, it has these numbers; and the tests of the code say whether it has one.
use mathlib.Core.Path.{◌≡◌, refl}
use mathlib.Core.Bool.{◌&&◌, ◌||◌}
use mathlib.Core.Option.{Option, none, some}
use Prim.Native.Nat.{ℕ}
use lib.Dec.{eqb, leb}
use Rattle.definitions.specs.declared.Width.{Width}
use Rattle.definitions.specs.declared.Condition.{Condition}
use Rattle.definitions.specs.Format.{width_number, operator_number, is_there}
use Rattle.definitions.specs.Format.{width_of, operator_of, mask_taken, then, check}
use Rattle.definitions.specs.Parts.{condition_of}
use Rattle.theorems.proofs.Tests.{then_some, check_some, some_same}
use Rattle.theorems.proofs.Names.{width_forth, operator_forth, operator_there_lem}
use Rattle.readers.specs.Tests.{condition_good}

-- a condition made of numbers has them
pub record Numbers (index width operator value mask : ℕ) (q : Condition) : Type 0 where
  pub index_is : q.index ≡ index
  pub width_is : width_number q.width ≡ width
  pub operator_is : operator_number q.operator ≡ operator
  pub value_is : q.value ≡ value
  pub mask_is : q.mask ≡ mask

pub condition_numbers : (index width operator value mask : ℕ) (q : Condition) → condition_of index width operator value mask ≡ some q
    → Numbers index width operator value mask q
unfolding condition_of
condition_numbers index width operator value mask q h =
    let w = then_some (width_of width) _ h in
    let o = then_some (operator_of operator) _ w.2 in
    let c = check_some (mask_taken o.0 mask) _ o.2 in
    rw (← some_same c.1)
    (record {
      index_is = refl;
      width_is = width_forth width w.0 w.1;
      operator_is = operator_forth operator o.0 o.1;
      value_is = refl;
      mask_is = refl;
    })

pub numbers_there : (index width operator value mask : ℕ) → is_there (condition_of index width operator value mask) ≡ condition_good width operator mask
unfolding condition_of condition_good
numbers_there index width operator value mask = go (width_of width)
  where
    go : (x : Option Width)
        → is_there {A = Condition} (then x (λ w. then (operator_of operator) (λ o. check (mask_taken o mask) (some (record { index = index; width = w; operator = o; value = value; mask = mask })))))
        ≡ (is_there x && (leb operator 6 && (eqb operator 5 || eqb mask 0)))
    go none = refl
    go (some w) = operator_there_lem operator mask (λ o. record { index = index; width = w; operator = o; value = value; mask = mask })
