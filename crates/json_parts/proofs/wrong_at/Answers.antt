use mathlib.Core.Bool.{Bool, cond}
use mathlib.Core.Path.{ap, sym, ◌∙◌}
use Rattle.json_parts.proofs.Faults as laws
use Rattle.json_parts.proofs.wrong_at.Goals as goal

pub returns-then-begins_value : goal.returns-then-begins_value
returns-then-begins_value c = sym (ap (λ (t : Bool). cond t 11 10) c.if-begins_value.true) ∙ laws.wrong_is c.args.text.now c.args.at _ _ c.byte.ensures c.begins_value.ensures

pub returns-else-begins_value : goal.returns-else-begins_value
returns-else-begins_value c = sym (ap (λ (t : Bool). cond t 11 10) c.if-begins_value.false) ∙ laws.wrong_is c.args.text.now c.args.at _ _ c.byte.ensures c.begins_value.ensures
