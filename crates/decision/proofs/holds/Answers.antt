-- `holds` meets its contract: the argument, the value and the mask, cut, and then the test.
use Rattle.definitions.specs.RuleSet.{holds}
use Rattle.decision.proofs.holds.Goals as goal

pub returns : goal.returns
unfolding holds
returns c = rw (c.test.ensures, c.cut-x.ensures, c.argument.ensures, c.cut-v.ensures, c.cut-m.ensures)
