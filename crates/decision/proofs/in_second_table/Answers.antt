-- `in_second_table` meets its contract: the definition's two tests, made in the code.
use borrow.Author.Tests.{eq-eqb, ne_eqb}
use Rattle.definitions.specs.RuleSet.{in_second_table}
use Rattle.decision.proofs.in_second_table.Goals as goal

pub returns-then-n-ne0 : goal.returns-then-n-ne0
unfolding in_second_table
returns-then-n-ne0 c = rw (ne_eqb _ _ c.if-n-ne0.true)

pub returns-else-n-ne0 : goal.returns-else-n-ne0
unfolding in_second_table
returns-else-n-ne0 c = rw (eq-eqb _ _ c.if-n-ne0.false)
