-- `ends_in_return` meets its contract: the last instruction's effect.
use mathlib.Core.Path.{◌≡◌, refl, sym}
use mathlib.Core.Bool.{false}
use Rattle.definitions.specs.Kernel.{is_return}
use Rattle.checks.specs.Effect.{meant}
use Rattle.checks.specs.declared.Effect.{Effect}
use Rattle.checks.specs.declared.Effect.TheVariants.{Plain, Reads, Writes, Jumps, Branches, Leaves}
use Rattle.checks.proofs.Walk.{ends_by_lem}
use Rattle.checks.proofs.ends_in_return.Goals as goal

walks_on : (e : Effect) → (e ≡ Leaves → ⊥) → is_return (meant e) ≡ false
unfolding is_return
walks_on Plain h = refl
walks_on (Reads k) h = refl
walks_on (Writes k) h = refl
walks_on (Jumps k) h = refl
walks_on (Branches t f) h = refl
walks_on Leaves h = absurd (h refl)

pub returns-in-Leaves : goal.returns-in-Leaves
unfolding is_return
returns-in-Leaves c = rw (ends_by_lem _ _ c.requires c.instruction_at-last.ensures, ← c.in-Leaves.ensures)

pub returns-in_default : goal.returns-in_default
returns-in_default c = rw (ends_by_lem _ _ c.requires c.instruction_at-last.ensures, ← c.effect_of.ensures) (sym (walks_on _ c.in_default.not-Leaves))
