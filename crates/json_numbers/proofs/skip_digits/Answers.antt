use mathlib.Core.Path.{ap, sym, ◌∙◌}
use Prim.Native.Nat.{◌-◌}
use native.Mathlib.Omega.{arith}
use lib.ListN.{length, drop, length-drop}
use lib.Seq.{take_all}
use Rattle.json_numbers.proofs.Counting as laws
use Rattle.json_numbers.proofs.skip_digits.Goals as goal

pub returns-in-0 : goal.returns-in-0
returns-in-0 c =
    let rest = take_all (length c.args.text.now - c.args.at) (drop c.args.at c.args.text.now) (omega (arith, length-drop c.args.at c.args.text.now)) in
    (laws.digits_missing c.args.text.now c.args.at (sym c.in-0.is ∙ rw rest at c.digits.ensures.0), c.requires)

pub returns-in_default : goal.returns-in_default
returns-in_default c =
    let rest = take_all (length c.args.text.now - c.args.at) (drop c.args.at c.args.text.now) (omega (arith, length-drop c.args.at c.args.text.now)) in
    (laws.digits_there c.args.text.now c.args.at _ (rw rest at c.digits.ensures.0) (λ e. absurd (omega arith)), omega (arith, c.digits.ensures.1, ap length rest, length-drop c.args.at c.args.text.now))
