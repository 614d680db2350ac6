use mathlib.Core.Path.{sym, ◌∙◌}
use Rattle.json_parts.proofs.Agreeing as agreeing
use Rattle.json_parts.proofs.null_count.Goals as goal

pub returns-then-byte-ne110 : goal.returns-then-byte-ne110
returns-then-byte-ne110 c = agreeing.none_agrees c.args.text.now c.args.at (λ e. c.if-byte-ne110.true (c.byte.ensures ∙ e))

pub returns-then-byte-ne117 : goal.returns-then-byte-ne117
returns-then-byte-ne117 c = agreeing.one_agrees c.args.text.now c.args.at (sym c.byte.ensures ∙ c.if-byte-ne110.false) (λ e. c.if-byte-ne117.true (c.byte-else-byte-ne110.ensures ∙ e))

pub returns-then-byte-ne108 : goal.returns-then-byte-ne108
returns-then-byte-ne108 c = agreeing.two_agree c.args.text.now c.args.at (sym c.byte.ensures ∙ c.if-byte-ne110.false) (sym c.byte-else-byte-ne110.ensures ∙ c.if-byte-ne117.false) (λ e. c.if-byte-ne108.true (c.byte-else-byte-ne117.ensures ∙ e))

pub returns-then-byte-ne108-2 : goal.returns-then-byte-ne108-2
returns-then-byte-ne108-2 c = agreeing.three_agree c.args.text.now c.args.at (sym c.byte.ensures ∙ c.if-byte-ne110.false) (sym c.byte-else-byte-ne110.ensures ∙ c.if-byte-ne117.false) (sym c.byte-else-byte-ne117.ensures ∙ c.if-byte-ne108.false) (λ e. c.if-byte-ne108-2.true (c.byte-else-byte-ne108.ensures ∙ e))

pub returns-else-byte-ne108-2 : goal.returns-else-byte-ne108-2
returns-else-byte-ne108-2 c = agreeing.all_agree c.args.text.now c.args.at (sym c.byte.ensures ∙ c.if-byte-ne110.false) (sym c.byte-else-byte-ne110.ensures ∙ c.if-byte-ne117.false) (sym c.byte-else-byte-ne117.ensures ∙ c.if-byte-ne108.false) (sym c.byte-else-byte-ne108.ensures ∙ c.if-byte-ne108-2.false)
