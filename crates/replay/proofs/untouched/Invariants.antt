-- `untouched` meets its contract: each byte that the loop passed is the pattern's.
use Rattle.std.proofs.Common.{ℕ, ◌≡◌, ◌≤◌, ◌<◌, get_or}
use Rattle.replay.specs.Pattern.{pattern_at}
use Rattle.replay.proofs.untouched.Given as goal

abbrev pub invariant-loop-i : goal.invariant-loop-i
invariant-loop-i l = (at : ℕ) → at < l.i → l.from ≤ at → get_or l.out at 0 ≡ pattern_at at
