-- `scan_rule` meets its contract: what its conditions are told on top of is what the rule adds itself.
use mathlib.Core.Path.{sym, ◌∙◌}
use Rattle.judge.proofs.Walk.{broken_off, rule_short, rule_from}
use Rattle.judge.proofs.scan_rule.Goals as goal

pub returns-then-s-from : goal.returns-then-s-from
returns-then-s-from c = broken_off _ (rw (rule_short _ _ c.if-s-from.true))

pub returns : goal.returns
returns c =
    record {
      same = c.scan_conditions.ensures.same ∙ rw (c.count_fault.ensures, c.u32_at-n.ensures) (sym (rule_from _ _ _ _ _ c.if-s-from.false));
      inside = c.scan_conditions.ensures.inside;
    }
