-- `ends_by` meets its contract.
use mathlib.Core.Path.{sym}
use borrow.Author.Tests.{eq-eqb}
use Rattle.search_writer.proofs.Planting.{ends_none, ends_some}
use Rattle.search_writer.proofs.ends_by.Goals as goal

pub returns-then-below-ne0 : goal.returns-then-below-ne0
returns-then-below-ne0 c = sym (ends_some c.args.below c.args.n c.if-below-ne0.true)

pub returns-else-below-ne0 : goal.returns-else-below-ne0
returns-else-below-ne0 c = rw (ends_none c.args.below c.args.n c.if-below-ne0.false, eq-eqb c.args.below 0 c.if-below-ne0.false)
