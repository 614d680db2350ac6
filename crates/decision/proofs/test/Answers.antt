-- `test` meets its contract, operator by operator.
use Rattle.definitions.specs.RuleSet.{test}
use Rattle.decision.proofs.test.Goals as goal

pub returns-in-Eq : goal.returns-in-Eq
unfolding test
returns-in-Eq c = rw c.in-Eq.is

pub returns-in-Ge : goal.returns-in-Ge
unfolding test
returns-in-Ge c = rw c.in-Ge.is

pub returns-in-Gt : goal.returns-in-Gt
unfolding test
returns-in-Gt c = rw c.in-Gt.is

pub returns-in-Le : goal.returns-in-Le
unfolding test
returns-in-Le c = rw c.in-Le.is

pub returns-in-Lt : goal.returns-in-Lt
unfolding test
returns-in-Lt c = rw c.in-Lt.is

pub returns-in-MaskedEq : goal.returns-in-MaskedEq
unfolding test
returns-in-MaskedEq c = rw c.in-MaskedEq.is

pub returns-in-Ne : goal.returns-in-Ne
unfolding test
returns-in-Ne c = rw c.in-Ne.is
