-- `argument` meets its contract: one of six, or none.
use Rattle.decision.proofs.Meanings.{argument_at, argument_none}
use Rattle.decision.proofs.argument.Goals as goal

pub returns-then-index-gt5 : goal.returns-then-index-gt5
returns-then-index-gt5 c = rw (argument_none c.args.index c.args.call.now c.if-index-gt5.true)

pub returns : goal.returns
returns c = rw (argument_at c.args.index c.args.call.now c.if-index-gt5.false) c.u64_at.ensures
