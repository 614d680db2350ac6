-- `with_word` meets its contract: one bit more.
use Rattle.checks.proofs.Scratch.{words_shift}
use Rattle.checks.proofs.with_word.Goals as goal

pub returns : goal.returns
returns c = words_shift _ _ c.requires
