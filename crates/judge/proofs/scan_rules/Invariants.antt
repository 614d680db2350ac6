-- What is left, told from here on top of what was found so far, is the whole.
use mathlib.Core.Path.{◌≡◌}
use Prim.Native.Nat.{◌≤◌, ◌-◌}
use lib.ListN.{length}
use Rattle.definitions.specs.Format.{times, rule_at}
use Rattle.judge.specs.Walk.{total, tells, told, tell_rule}
use Rattle.judge.proofs.scan_rules.Given as goal

abbrev pub invariant-loop-i : goal.invariant-loop-i
invariant-loop-i l =
    record {
      inside : l.scan.past ≤ length l.s;
      few : l.scan.count ≤ l.scan.past;
      told : told (tells (tell_rule l.entry) 0) (times (rule_at l.s) l.n l.fn.from.past) (total l.fn.from.count l.fn.from.fault)
          ≡ told (tells (tell_rule l.entry) l.i) (times (rule_at l.s) (l.n - l.i) l.scan.past) (total l.scan.count l.scan.fault);
    }
