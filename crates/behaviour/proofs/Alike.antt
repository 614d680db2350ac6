-- ALIKE: two filters of one rule set do the same, because each does what the rule set means.
use mathlib.Core.Path.{sym, ◌∙◌}
use Rattle.behaviour.specs.Statements.{Alike}
use Rattle.behaviour.proofs.Outputs.{does}

pub alike : Alike
alike rs f g p q c = does rs f p c ∙ sym (does rs g q c)
