use mathlib.Core.Path.{sym, ◌∙◌}
use native.Mathlib.Omega.{arith}
use Rattle.json_scan.proofs.Scanning as laws
use Rattle.json_scan.proofs.skip_blanks.Goals as goal

pub loop-at-preserved : goal.loop-at-preserved
loop-at-preserved c = (omega arith, c.loop-at.invariant.1 ∙ laws.blank_turn c.args.text.now c.loop-at.at (omega arith) (sym c.is_blank.ensures ∙ c.if-is_blank.true))

pub returns-else-is_blank : goal.returns-else-is_blank
returns-else-is_blank c = record { inside = c.loop-at.invariant.0; behind = sym (c.loop-at.invariant.1 ∙ laws.blank_none c.args.text.now c.loop-at.at (omega arith) (sym c.is_blank.ensures ∙ c.if-is_blank.false)) }

pub returns-after-loop-at : goal.returns-after-loop-at
returns-after-loop-at c = record { inside = c.loop-at.invariant.0; behind = sym (c.loop-at.invariant.1 ∙ laws.blank_end c.args.text.now c.loop-at.at (omega arith)) }
