-- `answer_for` meets its contract: the two faults of a filter, noted behind that of its set.
use Rattle.callfilter.proofs.Answering.{answer_with}
use Rattle.callfilter.proofs.answer_for.Goals as goal

pub returns : goal.returns
returns c = answer_with _ _ _ _ _ _ _ c.note-least.result _ c.fault.ensures c.fault-2.ensures c.note-short.ensures c.note-least.ensures c.count_with.ensures
