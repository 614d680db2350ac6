-- The next condition is the first that is left, and the others are left behind it.
use mathlib.Core.Path.{ap}
use native.Mathlib.Omega.{arith}
use lib.ListN.{length}
use Rattle.set_view.specs.Parts.{condition_here, condition_past}
use Rattle.set_view.proofs.Left.{nothing_left, some_left}
use Rattle.set_view.proofs.views.ConditionsIterator.next.Goals as goal

pub returns-then-self-eq0-clause-steps : goal.returns-then-self-eq0-clause-steps
returns-then-self-eq0-clause-steps c = let e = nothing_left (condition_here c.self.inside.set.now) condition_past _ _ c.self.view_is c.if-self-eq0.true in (e, e)

pub returns-clause-steps : goal.returns-clause-steps
returns-clause-steps c = rw c.condition_here-condition.ensures (some_left (condition_here c.self.inside.set.now) condition_past _ _ c.self.view_is c.if-self-eq0.false)

pub returns-clause-goes : goal.returns-clause-goes
returns-clause-goes c =
    let e = ap length (some_left (condition_here c.self.inside.set.now) condition_past _ _ c.self.view_is c.if-self-eq0.false) in
    record { on = λ h. (tt, tt, omega (arith, e)); keeps = tt; rests = λ h. tt }
