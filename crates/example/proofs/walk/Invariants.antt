-- `walk` meets its contract: the cursor stands before parts of the set or behind the last, and a byte further on for each turn.
use Rattle.std.proofs.Common.{◌≤◌}
use Rattle.definitions.specs.RuleSet.{RuleSet}
use Rattle.definitions.specs.Compiled.{FormOf}
use Rattle.example.specs.Worked.{Ahead}
use Rattle.example.proofs.walk.Given as goal

abbrev pub invariant-loop : goal.invariant-loop
invariant-loop g l = (rs : RuleSet) → FormOf rs l.set → Ahead l.set l.cursor × (l.counter ≤ l.cursor.at)
