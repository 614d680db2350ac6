-- The loop's invariant: the count and what is left make up the bodies, and both end at one place.
use mathlib.Core.Path.{◌≡◌}
use Prim.Native.Nat.{ℕ, ◌+◌, ◌-◌, ◌*◌, ◌≤◌}
use lib.ListN.{length}
use Rattle.definitions.specs.Emitted.{rule_bodies}
use Rattle.set_view.specs.Parts.{rules_here, rules_past}
use Rattle.rule.proofs.rules_length.Given as goal

abbrev pub invariant-loop : goal.invariant-loop
invariant-loop l =
    ((m : ℕ) → l.count + length (rule_bodies m (rules_here l.s (l.n - l.counter) l.past)) ≡ length (rule_bodies m (rules_here l.s l.n l.from)))
    × (rules_past l.s (l.n - l.counter) l.past ≡ rules_past l.s l.n l.from) × (l.count + 3 * l.counter + l.from ≤ l.past)
