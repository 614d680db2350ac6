use mathlib.Core.Path.{ap, sym, ◌∙◌}
use native.Mathlib.Omega.{arith}
use mathlib.Core.Bool.{◌||◌}
use Prim.Native.Nat.{ℕ}
use lib.Dec.{eqb}
use Rattle.json_numbers.proofs.Counting as laws
use Rattle.json_numbers.proofs.skip_exponent.Goals as goal

pub exponent_sign-sign-requires : goal.exponent_sign-sign-requires
exponent_sign-sign-requires c = omega (arith, laws.exponent_inside c.args.text.now c.args.at _ c.byte.ensures (sym c.is_exponent.ensures ∙ c.if-is_exponent.true))

pub returns-then-is_exponent : goal.returns-then-is_exponent
returns-then-is_exponent c = (laws.exponent_digits c.args.text.now c.args.at _ _ (ap (λ (b : ℕ). eqb b 0x65 || eqb b 0x45) (sym c.byte.ensures) ∙ sym c.is_exponent.ensures ∙ c.if-is_exponent.true) c.exponent_sign-sign.ensures.0 c.skip_digits.ensures.0, c.skip_digits.ensures.1)

pub returns-else-is_exponent : goal.returns-else-is_exponent
returns-else-is_exponent c = (laws.exponent_none c.args.text.now c.args.at _ (ap (λ (b : ℕ). eqb b 0x65 || eqb b 0x45) (sym c.byte.ensures) ∙ sym c.is_exponent.ensures ∙ c.if-is_exponent.false), c.requires)
