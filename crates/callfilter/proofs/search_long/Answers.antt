-- `search_long` meets its contract: where the search is short enough, nothing is said of the entry.
use borrow.Author.Tests.{ltb-false, le-ltb}
use native.Mathlib.Omega.{arith}
use Rattle.definitions.specs.Answer.{too_many, search_size}
use Rattle.set_view.specs.Parts.{set_here}
use Rattle.callfilter.proofs.search_long.Goals as goal

pub returns-then-size-lt-TOO_MANY : goal.returns-then-size-lt-TOO_MANY
returns-then-size-lt-TOO_MANY c = λ e. absurd (omega (arith, ltb-false c.args.size too_many e, c.if-size-lt-TOO_MANY.true))

pub long_entry-requires : goal.long_entry-requires
long_entry-requires c = (c.requires.0, le-ltb (search_size (set_here c.args.set.now)) too_many (omega (arith, c.requires.1, c.if-size-lt-TOO_MANY.false)))

pub returns-else-size-lt-TOO_MANY : goal.returns-else-size-lt-TOO_MANY
returns-else-size-lt-TOO_MANY c = λ e. c.long_entry.ensures
