-- The loop's invariant: the count and what is left make up the rule's body.
use mathlib.Core.Path.{◌≡◌}
use Prim.Native.Nat.{◌+◌, ◌-◌, ◌*◌, ◌≤◌}
use lib.ListN.{length}
use Rattle.definitions.specs.Emitted.{conditions_code}
use Rattle.set_view.specs.Parts.{conditions_here}
use Rattle.rule.proofs.rule_length.Given as goal

abbrev pub invariant-loop : goal.invariant-loop
invariant-loop l =
    (l.count + length (conditions_code (conditions_here l.s (l.n - l.counter) l.here) l.d) ≡ 1 + length (conditions_code (conditions_here l.s l.n l.from) 1))
    × (l.here ≡ l.from + 24 * l.counter) × (l.count ≤ 1 + 9 * l.counter)
