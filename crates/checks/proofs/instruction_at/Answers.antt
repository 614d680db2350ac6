-- `instruction_at` meets its contract: the numbers and the bytes in place.
use Rattle.definitions.specs.Machine.{instruction_at}
use Rattle.checks.proofs.instruction_at.Goals as goal

pub returns : goal.returns
unfolding instruction_at
returns c = rw (← c.u16_at.ensures, ← c.u32_at.ensures)
