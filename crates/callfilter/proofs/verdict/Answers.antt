-- `verdict` meets its contract: the answer is made of what is said of the set.
use mathlib.Core.Path.{sym, ◌∙◌}
use Rattle.callfilter.proofs.Answering.{answer_from}
use Rattle.callfilter.proofs.verdict.Goals as goal

pub returns : goal.returns
returns c = c.answer_for.ensures ∙ sym (answer_from _ _ c.judge-found.result c.judge-found.ensures.0)
