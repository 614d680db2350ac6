-- What is left, told from here on top of what was found so far, is the whole.
use mathlib.Core.Path.{◌≡◌}
use mathlib.Core.Bool.{cond}
use Prim.Native.Nat.{◌≤◌, ◌+◌, ◌-◌, ◌*◌}
use lib.Dec.{eqb}
use lib.ListN.{length}
use Rattle.judge.specs.Walk.{sum, entries_told, told_from, run_fits}
use Rattle.judge.proofs.scan_plain.Given as goal

abbrev pub invariant-loop-least : goal.invariant-loop-least
invariant-loop-least l =
    record {
      inside : l.at ≤ length l.s;
      few : l.count ≤ l.at;
      left : l.left ≤ l.from.left;
      place : l.at + 8 * l.left ≡ l.from.past + 8 * l.from.left;
      first : l.left ≡ l.from.left → l.least ≡ l.from.least;
      five : l.count ≡ l.from.count + 5 * (l.from.left - l.left);
      told : told_from l.s l.all l.from
          ≡ entries_told l.s l.all l.left l.at (sum l.count l.least (cond (eqb l.left l.from.left) l.from.fits (run_fits l.all l.from.left l.left l.from.count l.from.fits)) l.from.fault);
    }

abbrev pub decreases-loop-least : goal.decreases-loop-least
decreases-loop-least l = l.left
