-- `scan_rules` meets its contract.
use mathlib.Core.Path.{◌∙◌}
use native.Mathlib.Omega.{arith}
use Rattle.judge.proofs.Walk.{broken_off, came_through, turn_made, turn_broken, turns_over, rule_stop, rule_there}
use Rattle.judge.proofs.scan_rules.Goals as goal

pub returns-in_err-scan : goal.returns-in_err-scan
returns-in_err-scan c =
    rw c.from_residual.ensures (broken_off _ (c.loop-i.invariant.told ∙ turn_broken _ _ _ _ _ _ (omega arith) (rule_stop _ _ _ _ c.in_err-scan.ensures.same)))

pub loop-i-preserved : goal.loop-i-preserved
loop-i-preserved c =
    let there = rule_there _ _ _ _ _ c.in_ok-scan.ensures.same in
    record {
      inside = c.in_ok-scan.ensures.inside.0;
      few = c.in_ok-scan.ensures.inside.1;
      told = c.loop-i.invariant.told ∙ turn_made _ _ _ _ _ _ there.0 (omega arith) there.1 ∙ rw (there.3, ← there.2);
    }

pub returns : goal.returns
returns c = came_through _ (c.loop-i.invariant.told ∙ turns_over _ _ _ _ _ _ (omega arith)) c.loop-i.invariant.inside c.loop-i.invariant.few
