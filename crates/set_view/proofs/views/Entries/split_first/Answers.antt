-- The first entry stands where the entries that are left do, and the others behind its rules.
use mathlib.Core.Path.{refl}
use native.Mathlib.Omega.{arith}
use Rattle.set_view.specs.Parts.{entry_here, entry_past}
use Rattle.set_view.proofs.Left.{nothing_left, entry_fits, entries_on, entries_left}
use Rattle.set_view.proofs.views.Entries.split_first.Goals as goal

pub returns-then-self-eq0 : goal.returns-then-self-eq0
returns-then-self-eq0 c = nothing_left (entry_here c.self.inside.set.now) (entry_past c.self.inside.set.now) _ _ c.self.view_is c.if-self-eq0.true

pub u32_at-number-requires : goal.u32_at-number-requires
u32_at-number-requires c = omega (arith, entry_fits _ _ _ _ c.if-self-eq0.false c.self.invariant refl)

pub overflow_add-rules : goal.overflow_add-rules
overflow_add-rules c = omega (arith, entry_fits _ _ _ _ c.if-self-eq0.false c.self.invariant refl, c.self.invariant.1)

pub overflow_add-self-inside : goal.overflow_add-self-inside
overflow_add-self-inside c = omega (arith, entry_fits _ _ _ _ c.if-self-eq0.false c.self.invariant refl, c.self.invariant.1)

pub u32_at-requires : goal.u32_at-requires
u32_at-requires c = omega (arith, entry_fits _ _ _ _ c.if-self-eq0.false c.self.invariant refl)

pub invariant_of-rules : goal.invariant_of-rules
invariant_of-rules c = rw (entries_on _ _ _ _ c.if-self-eq0.false c.self.invariant c.u32_at.ensures) c.self.invariant

pub returns : goal.returns
returns c = entries_left _ _ _ _ c.if-self-eq0.false c.self.invariant c.u32_at.ensures c.u32_at-number.ensures c.self.view_is
