-- `fill` meets its contract: the loop has filled each place that it passed.
use Rattle.std.proofs.Common.{ℕ, ◌≡◌, ◌<◌, get_or}
use Rattle.replay.specs.Pattern.{pattern_at}
use Rattle.replay.proofs.fill.Given as goal

abbrev pub invariant-loop-i : goal.invariant-loop-i
invariant-loop-i l = (at : ℕ) → at < l.i → get_or l.out at 0 ≡ pattern_at at
