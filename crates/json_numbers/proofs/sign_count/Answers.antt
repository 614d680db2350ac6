use mathlib.Core.Path.{sym, ◌∙◌}
use native.Mathlib.Omega.{arith}
use Rattle.json_numbers.proofs.Counting as laws
use Rattle.json_numbers.proofs.sign_count.Goals as goal

pub returns-then-byte-eq45 : goal.returns-then-byte-eq45
returns-then-byte-eq45 c = let e = sym c.byte.ensures ∙ c.if-byte-eq45.true in (laws.sign_there c.args.text.now c.args.at e, omega (arith, laws.inside c.args.text.now c.args.at 0x2d e (omega arith)))

pub returns-else-byte-eq45 : goal.returns-else-byte-eq45
returns-else-byte-eq45 c = (laws.sign_none c.args.text.now c.args.at (λ e. c.if-byte-eq45.false (c.byte.ensures ∙ e)), omega (arith, c.requires))
