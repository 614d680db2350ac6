-- `main` is safe: no count is above the number of turns.
use Rattle.std.proofs.Common.{◌≤◌}
use Rattle.replay.proofs.main.Given as goal

abbrev pub invariant-loop : goal.invariant-loop
invariant-loop l = (l.passed ≤ l.counter) × (l.failed ≤ l.counter) × (l.all_passed ≤ l.counter) × (l.all_failed ≤ l.counter)
