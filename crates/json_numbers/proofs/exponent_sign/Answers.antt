use mathlib.Core.Path.{sym}
use native.Mathlib.Omega.{arith}
use mathlib.Core.Path.{◌≡◌}
use mathlib.Core.Bool.{true, false, ◌||◌}
use lib.Dec.{eqb}
use Rattle.std.proofs.lemmas.Bool.Decides.{nat_tests}
use Rattle.json_numbers.proofs.Counting as laws
use Rattle.json_numbers.proofs.exponent_sign.Goals as goal

pub returns-in-43 : goal.returns-in-43
returns-in-43 c =
    let b : eqb c.byte.result 0x2b || eqb c.byte.result 0x2d ≡ true = grind (arith, nat_tests) in
    (laws.sign_is c.args.text.now c.args.at _ c.byte.ensures b, omega (arith, laws.inside c.args.text.now c.args.at _ (sym c.byte.ensures) (omega arith)))

pub returns-in_default : goal.returns-in_default
returns-in_default c =
    let b : eqb c.byte.result 0x2b || eqb c.byte.result 0x2d ≡ false = grind (arith, nat_tests) in
    (laws.sign_is_not c.args.text.now c.args.at _ c.byte.ensures b, omega (arith, c.requires))
