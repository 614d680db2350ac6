-- The loop's invariant: what is left, written in front of what is there, is the whole; and the distance in front of what is left is that
-- in front of the whole.
use mathlib.Core.Path.{◌≡◌}
use Prim.Native.Nat.{◌+◌, ◌-◌, ◌*◌}
use Rattle.definitions.specs.Emitted.{conditions_code, distance}
use Rattle.bpf.proofs.Buffer.{WritingBefore}
use Rattle.set_view.specs.Parts.{conditions_here}
use Rattle.rule.proofs.put_rule_body.Given as goal

abbrev pub invariant-loop : goal.invariant-loop
invariant-loop l =
    WritingBefore l.initial.out l.initial.at (conditions_code (conditions_here l.s l.n l.from) 1) l.out l.at (conditions_code (conditions_here l.s (l.n - l.counter) l.here) l.d)
    × (distance (conditions_here l.s (l.n - l.counter) l.here) l.d ≡ distance (conditions_here l.s l.n l.from) 1)
    × (l.here ≡ l.from + 24 * l.counter)
