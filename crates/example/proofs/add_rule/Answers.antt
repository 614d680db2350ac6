-- `add_rule` meets its contract: after a refusal there is nothing to show, and else it is one part added behind the other.
use Rattle.example.proofs.Calls.{refused, rule_added}
use Rattle.example.proofs.add_rule.Goals as goal

pub returns-then-writer-ne0 : goal.returns-then-writer-ne0
returns-then-writer-ne0 c = λ q named rs wrote. refused c.if-writer-ne0.true

pub returns-then-rule-ne0 : goal.returns-then-rule-ne0
returns-then-rule-ne0 c = λ q named rs wrote. refused c.if-rule-ne0.true

pub returns : goal.returns
returns c =
    λ q named rs wrote.
    rule_added c.args.index c.args.width c.args.operator c.args.value c.args.mask c.callfilter_begin_rule-rule.ensures c.if-rule-ne0.false c.callfilter_add_condition.ensures q named rs (wrote c.if-writer-ne0.false)
