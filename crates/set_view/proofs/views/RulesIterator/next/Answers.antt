-- The next rule's conditions stand where the rules that are left do; the other rules and the entries are left behind them.
use mathlib.Core.Path.{refl, ap}
use native.Mathlib.Omega.{arith}
use lib.ListN.{length}
use Rattle.set_view.specs.Parts.{rule_here, rule_past}
use Rattle.set_view.specs.Views.{Rest}
use Rattle.set_view.proofs.Left.{nothing_left, rule_fits, rules_on, rules_left}
use Rattle.set_view.proofs.views.RulesIterator.next.Goals as goal

pub returns-then-self-eq0-clause-steps : goal.returns-then-self-eq0-clause-steps
returns-then-self-eq0-clause-steps c =
    let e = nothing_left (rule_here c.self.inside.set.now) (rule_past c.self.inside.set.now) _ _ (ap (λ (r : Rest). r.rules) c.self.view_is) c.if-self-eq0.true in
    ((e, e), refl)

pub u32_at-n-requires : goal.u32_at-n-requires
u32_at-n-requires c = omega (arith, rule_fits _ _ _ _ _ _ c.if-self-eq0.false c.self.invariant refl refl)

pub overflow_add-self-inside : goal.overflow_add-self-inside
overflow_add-self-inside c = omega (arith, rule_fits _ _ _ _ _ _ c.if-self-eq0.false c.self.invariant c.u32_at-n.ensures refl, c.self.invariant.1)

pub new-conditions-requires : goal.new-conditions-requires
new-conditions-requires c = (rule_fits _ _ _ _ _ _ c.if-self-eq0.false c.self.invariant c.u32_at-n.ensures refl, c.self.invariant.1)

pub rule_past-self-inside-requires : goal.rule_past-self-inside-requires
rule_past-self-inside-requires c = omega (arith, rule_fits _ _ _ _ _ _ c.if-self-eq0.false c.self.invariant c.u32_at-n.ensures refl, c.self.invariant.1)

pub invariant_of-self : goal.invariant_of-self
invariant_of-self c = rw (rules_on _ _ _ _ _ _ c.if-self-eq0.false c.self.invariant c.u32_at-n.ensures c.rule_past-self-inside.ensures) c.self.invariant

pub returns-clause-steps : goal.returns-clause-steps
returns-clause-steps c = (
  rw c.new-conditions.ensures (rules_left _ _ _ _ _ _ c.if-self-eq0.false c.self.invariant c.u32_at-n.ensures c.rule_past-self-inside.ensures (ap (λ (r : Rest). r.rules) c.self.view_is)),
  rw (rules_on _ _ _ _ _ _ c.if-self-eq0.false c.self.invariant c.u32_at-n.ensures c.rule_past-self-inside.ensures) (ap (λ (r : Rest). r.entries) c.self.view_is),
)

pub returns-clause-goes : goal.returns-clause-goes
returns-clause-goes c =
    let e = ap length (rules_left _ _ _ _ _ _ c.if-self-eq0.false c.self.invariant c.u32_at-n.ensures c.rule_past-self-inside.ensures (ap (λ (r : Rest). r.rules) c.self.view_is)) in
    record { on = λ h. (tt, tt, omega (arith, e)); keeps = tt; rests = λ h. tt }
