-- `condition_length` meets its contract: the count is the same at every distance.
use mathlib.Core.Path.{◌≡◌, refl}
use mathlib.Core.Bool.{cond}
use native.Mathlib.Omega.{arith}
use Rattle.std.proofs.lemmas.Grind.{common_steps}
use Rattle.definitions.specs.declared.Width.TheVariants.{Qword}
use Rattle.condition.specs.Shape.{masked, ordered}
use Rattle.condition.proofs.Shapes.{condition_long_lem, length_shaped, ordered_unmasked}
use Rattle.condition.proofs.condition_length.Goals as goal

pub returns-in-Qword : goal.returns-in-Qword
returns-in-Qword c =
    let q = c.args.q in
    let m : c.from-masked.result ≡ cond (masked q.operator) 1 0 = grind (arith, common_steps) in
    let o : c.from-ordered.result ≡ cond (ordered q.operator) 1 0 = grind (arith, common_steps) in
    ((λ f. omega (arith, condition_long_lem q f refl c.in-Qword.is, length_shaped q.operator Qword)), omega arith, omega (arith, ordered_unmasked q.operator))
