-- `build` meets its contract: each part goes behind the last one, and together they are the worked set.
use mathlib.Core.Path.{refl}
use native.Mathlib.Omega.{arith}
use Rattle.definitions.specs.Format.{width_of, operator_of, mask_taken}
use Rattle.definitions.specs.Parts.{condition_of}
use Rattle.example.proofs.build.Goals as goal

pub shape_of-out : goal.shape_of-out
shape_of-out c = omega (arith, c.begin-begun.auto.out, c.add_call-call_0.auto.out, c.add_call-call_1.auto.out, c.add_rule-rule_1.auto.out, c.add_call-call_257.auto.out, c.add_rule-rule_257.auto.out, c.add_rule.auto.out)

pub returns : goal.returns
unfolding condition_of width_of operator_of mask_taken
returns c =
    c.add_rule.ensures _ refl _ (c.add_rule-rule_257.ensures _ refl _ (c.add_call-call_257.ensures _ (c.add_rule-rule_1.ensures _ refl _ (c.add_call-call_1.ensures _ (c.add_call-call_0.ensures _ c.begin-begun.ensures)))))
