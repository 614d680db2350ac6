-- The loop's invariant: what is left, written here, is the whole, written there; and both are read from bytes that end at one place.
use mathlib.Core.Path.{◌≡◌}
use Prim.Native.Nat.{◌-◌}
use Rattle.bpf.specs.Place.{Writing}
use Rattle.set_view.specs.Parts.{rules_here, rules_past}
use Rattle.rule.specs.Form.{rules_with}
use Rattle.rule.proofs.put_rules.Given as goal

abbrev pub invariant-loop : goal.invariant-loop
invariant-loop l =
    Writing l.initial.out l.at (rules_with l.jumps l.m (rules_here l.s l.n l.from)) l.out l.end (rules_with l.jumps l.m (rules_here l.s (l.n - l.counter) l.past))
    × (rules_past l.s (l.n - l.counter) l.past ≡ rules_past l.s l.n l.from)
