-- What is left, told from here on top of what was found so far, is the whole.
use mathlib.Core.Path.{◌≡◌}
use Prim.Native.Nat.{◌≤◌}
use lib.ListN.{length}
use Rattle.judge.specs.Walk.{sum, entries_told, told_from}
use Rattle.judge.proofs.scan_entries.Given as goal

abbrev pub invariant-loop-turn : goal.invariant-loop-turn
invariant-loop-turn l =
    record {
      inside : l.turn.past ≤ length l.s;
      few : l.turn.count ≤ l.turn.past;
      left : l.turn.left ≤ l.n;
      told : entries_told l.s l.n l.n 16 (sum l.before 0 0 l.fn.found) ≡ told_from l.s l.n l.turn;
    }

abbrev pub decreases-loop-turn : goal.decreases-loop-turn
decreases-loop-turn l = l.turn.left
