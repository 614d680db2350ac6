-- The entries stand behind the rules that are left.
use native.Mathlib.Omega.{arith}
use Rattle.set_view.specs.Parts.{rules_past}
use Rattle.set_view.proofs.Walk.{entries_further}
use Rattle.set_view.proofs.views.Rules.entries_behind.Goals as goal

pub rules_past-requires : goal.rules_past-requires
rules_past-requires c =
    let past = rules_past c.self.inside.set.now c.self.inside.left c.self.inside.from in
    (omega (arith, c.self.invariant.0, entries_further c.self.inside.set.now c.self.inside.behind past), c.self.invariant.1)
