use mathlib.Core.Path.{sym, ◌∙◌}
use native.Mathlib.Omega.{arith}
use Rattle.json_numbers.proofs.Counting as laws
use Rattle.json_numbers.proofs.skip_fraction.Goals as goal

pub skip_digits-requires : goal.skip_digits-requires
skip_digits-requires c = omega (arith, laws.inside c.args.text.now c.args.at 0x2e (sym c.byte.ensures ∙ c.if-byte-eq46.true) (omega arith))

pub returns-then-byte-eq46 : goal.returns-then-byte-eq46
returns-then-byte-eq46 c = (laws.fraction_digits c.args.text.now c.args.at _ (sym c.byte.ensures ∙ c.if-byte-eq46.true) c.skip_digits.ensures.0, c.skip_digits.ensures.1)

pub returns-else-byte-eq46 : goal.returns-else-byte-eq46
returns-else-byte-eq46 c = (laws.fraction_none c.args.text.now c.args.at (λ e. c.if-byte-eq46.false (c.byte.ensures ∙ e)), c.requires)
