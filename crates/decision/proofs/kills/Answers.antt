-- `kills` meets its contract: the two tests, one after the other.
use Rattle.decision.proofs.kills.Goals as goal

pub returns-then-guards : goal.returns-then-guards
returns-then-guards c = rw (← c.guards.ensures, c.if-guards.true) c.in_second_table.ensures

pub returns-else-guards : goal.returns-else-guards
returns-else-guards c = rw (← c.guards.ensures, c.if-guards.false)
