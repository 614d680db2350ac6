-- `action_there` meets its contract: a quotation mark begins a word, and all else is read as an object.
use mathlib.Core.Path.{sym, ◌∙◌}
use Rattle.json_condition.proofs.Reading as reading
use Rattle.json_condition.proofs.action_there.Goals as goal

pub returns-then-stands : goal.returns-then-stands
returns-then-stands c = reading.tell_same (reading.action_word _ (sym c.stands.ensures ∙ c.if-stands.true)) c.action_word.ensures

pub returns-else-stands : goal.returns-else-stands
returns-else-stands c = reading.tell_same (reading.action_object _ (sym c.stands.ensures ∙ c.if-stands.false)) c.action_numbered.ensures
