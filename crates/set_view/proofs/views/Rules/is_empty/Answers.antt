-- No rules are left exactly where their number is 0.
use mathlib.Core.Path.{ap, ◌∙◌}
use borrow.Author.Tests.{eq-eqb, eqb-true}
use Rattle.set_view.specs.Parts.{rule_here, rule_past}
use Rattle.set_view.specs.Views.{Rest}
use Rattle.set_view.proofs.Left.{nothing_left, none_is}
use Rattle.set_view.proofs.views.Rules.is_empty.Goals as goal

pub returns : goal.returns
returns c =
    let v = ap (λ (r : Rest). r.rules) c.self.view_is in (
      λ t. nothing_left (rule_here c.self.inside.set.now) (rule_past c.self.inside.set.now) _ _ v (eqb-true _ _ t),
      λ e. eq-eqb _ _ (none_is (rule_here c.self.inside.set.now) (rule_past c.self.inside.set.now) _ c.self.inside.from (v ∙ e)),
    )
