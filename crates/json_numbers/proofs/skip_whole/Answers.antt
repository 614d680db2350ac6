use mathlib.Core.Path.{sym, ◌∙◌}
use native.Mathlib.Omega.{arith}
use Rattle.json_numbers.proofs.Counting as laws
use Rattle.json_numbers.proofs.skip_whole.Goals as goal

pub returns-then-byte-eq48 : goal.returns-then-byte-eq48
returns-then-byte-eq48 c = let e = sym c.byte.ensures ∙ c.if-byte-eq48.true in (laws.whole_nought c.args.text.now c.args.at e, omega (arith, laws.inside c.args.text.now c.args.at 0x30 e (omega arith)))

pub returns-else-byte-eq48 : goal.returns-else-byte-eq48
returns-else-byte-eq48 c = (laws.whole_digits c.args.text.now c.args.at _ (λ e. c.if-byte-eq48.false (c.byte.ensures ∙ e)) c.skip_digits.ensures.0, c.skip_digits.ensures.1)
