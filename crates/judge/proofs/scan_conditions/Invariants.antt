-- What is left, told from here on top of what was found so far, is the whole.
use mathlib.Core.Path.{◌≡◌}
use Prim.Native.Nat.{◌≤◌, ◌-◌}
use lib.ListN.{length}
use Rattle.definitions.specs.Format.{times, condition_at}
use Rattle.judge.specs.Walk.{sum, tells, told, tell_condition, conditions_start}
use Rattle.judge.proofs.scan_conditions.Given as goal

abbrev pub invariant-loop-i : goal.invariant-loop-i
invariant-loop-i l =
    record {
      inside : l.at ≤ length l.s;
      few : l.count ≤ l.at;
      told : told (tells (tell_condition l.entry l.rule) 0) (times (condition_at l.s) l.n l.fn.from.past) (conditions_start l.fn.from.count l.fn.from.fault)
          ≡ told (tells (tell_condition l.entry l.rule) l.i) (times (condition_at l.s) (l.n - l.i) l.at) (sum l.count l.distance 0 l.fault);
    }
