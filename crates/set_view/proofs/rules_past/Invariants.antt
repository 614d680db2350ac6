-- The loop's invariant: the rules that are left end where all do.
use Rattle.std.proofs.Common.{◌≡◌, ◌-◌}
use Rattle.set_view.specs.Parts.{rules_past}
use Rattle.set_view.proofs.rules_past.Given as goal

abbrev pub invariant-loop : goal.invariant-loop
invariant-loop l = rules_past l.s (l.n - l.counter) l.at ≡ rules_past l.s l.n l.from
