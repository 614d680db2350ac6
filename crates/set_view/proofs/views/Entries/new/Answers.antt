-- The entries of a set stand behind its head.
use mathlib.Core.Path.{refl}
use Rattle.set_view.specs.Parts.{set_here}
use Rattle.set_view.proofs.views.Entries.new.Goals as goal

pub returns : goal.returns
unfolding set_here
returns c = rw c.u32_at.ensures refl
