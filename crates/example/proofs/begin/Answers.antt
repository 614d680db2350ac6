-- `begin` meets its contract: it is the writers' own.
use mathlib.Core.Path.{refl}
use Rattle.definitions.specs.RuleSet.{x86_64}
use Rattle.definitions.specs.Format.{native_of, unflagged, architecture_of}
use Rattle.example.proofs.begin.Goals as goal

pub returns : goal.returns
unfolding architecture_of unflagged native_of
returns c = λ z. c.callfilter_start.ensures.taken z x86_64 refl
