-- `width_there` meets its contract: a word that means nothing here is refused where it begins.
use mathlib.Core.Path.{refl}
use native.Mathlib.Omega.{arith}
use Rattle.json_condition.proofs.Reading as reading
use Rattle.json_condition.proofs.Words as words
use Rattle.json_condition.proofs.width_there.Goals as goal

pub returns-in_err-word : goal.returns-in_err-word
returns-in_err-word c = reading.handed _ _ c.from_residual.ensures.1 (reading.stopped _ c.in_err-word.ensures (reading.word_stops _ _ _ _))

pub returns-in-None : goal.returns-in-None
returns-in-None c =
    let w = reading.read c.in_ok-word.ensures refl in
    reading.tell_fault (record { same = reading.word_unknown _ _ _ _ w.same (words.there_is_none _ (c.in-None.ensures w.part w.value)); fault = omega arith; inside = c.requires })

pub returns-in-Some : goal.returns-in-Some
returns-in-Some c =
    let w = reading.read c.in_ok-word.ensures refl in
    reading.tell_read _ refl (reading.word_known _ _ _ _ _ w.same (words.there_is _ _ (c.in-Some.ensures w.part w.value))) w.on w.inside refl
