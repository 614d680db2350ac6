-- `past_entry` meets its contract: it tests what the definition tests.
use borrow.Author.Tests.{eq-eqb, ne_eqb}
use Rattle.collect.specs.Raw.{past_entry}
use Rattle.collect.proofs.past_entry.Goals as goal

pub returns-then-u32_at-eq0 : goal.returns-then-u32_at-eq0
unfolding past_entry
returns-then-u32_at-eq0 c = rw (← c.u32_at.ensures, eq-eqb _ _ c.if-u32_at-eq0.true)

pub returns-else-u32_at-eq0 : goal.returns-else-u32_at-eq0
unfolding past_entry
returns-else-u32_at-eq0 c = rw (← c.u32_at.ensures, ne_eqb _ _ c.if-u32_at-eq0.false, ← c.u32_at-else-u32_at-eq0.ensures)
