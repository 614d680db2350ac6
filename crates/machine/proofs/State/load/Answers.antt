-- `load` meets its contract: a word of the call, or stuck.
use native.Mathlib.Omega.{arith}
use mathlib.Core.Path.{refl, sym, ◌∙◌}
use Rattle.definitions.specs.Machine.{into_a}
use Rattle.machine.proofs.Steps.{fetch_at, fetch_none, word_inside}
use Rattle.machine.proofs.State.load.Goals as goal

pub u32_at-requires : goal.u32_at-requires
u32_at-requires c = omega (arith, word_inside c.args.k (sym c.in_call.ensures ∙ c.if-in_call.true))

pub returns-then-in_call : goal.returns-then-in_call
unfolding into_a
returns-then-in_call c = (rw (fetch_at c.args.call.now c.fits-call c.told-call c.args.k (sym c.in_call.ensures ∙ c.if-in_call.true), into_a, ← c.u32_at.ensures) c.set_a.ensures.0, c.set_a.ensures.1)

pub returns-else-in_call : goal.returns-else-in_call
unfolding into_a
returns-else-in_call c = (rw (fetch_none _ c.args.k (sym c.in_call.ensures ∙ c.if-in_call.false), into_a), refl)
