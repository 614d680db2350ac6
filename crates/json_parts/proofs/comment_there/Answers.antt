use mathlib.Core.Path.{refl, sym, ◌∙◌}
use native.Mathlib.Omega.{arith}
use Rattle.json_parts.proofs.Places as laws
use Rattle.json_parts.proofs.Agreeing as agreeing
use Rattle.json_parts.proofs.comment_there.Goals as goal

pub returns-then-byte-ne110 : goal.returns-then-byte-ne110
returns-then-byte-ne110 c = agreeing.a_string_lem c.args.text.now c.args.at (λ e. c.if-byte-ne110.true (c.byte.ensures ∙ e)) (λ s u. u) c.string_there.ensures

pub overflow_add-at : goal.overflow_add-at
overflow_add-at c = omega (arith, agreeing.null_on c.args.text.now c.args.at (sym c.byte.ensures ∙ c.if-byte-ne110.false) c.null_count-n.result c.null_count-n.ensures c.requires)

pub returns-then-n-ne4 : goal.returns-then-n-ne4
returns-then-n-ne4 c = rw c.not_json.ensures (laws.tells_stop (agreeing.null_refused c.args.text.now c.args.at (sym c.byte.ensures ∙ c.if-byte-ne110.false) c.null_count-n.result c.null_count-n.ensures c.if-n-ne4.true) refl (omega arith) (laws.further c.args.text.now c.args.at c.null_count-n.result (agreeing.null_on c.args.text.now c.args.at (sym c.byte.ensures ∙ c.if-byte-ne110.false) c.null_count-n.result c.null_count-n.ensures c.requires)))

pub returns : goal.returns
returns c = laws.tells_got (agreeing.null_read c.args.text.now c.args.at (sym c.byte.ensures ∙ c.if-byte-ne110.false) c.null_count-n.result c.null_count-n.ensures c.if-n-ne4.false) refl (omega (arith, c.if-n-ne4.false)) (laws.further c.args.text.now c.args.at c.null_count-n.result (agreeing.null_on c.args.text.now c.args.at (sym c.byte.ensures ∙ c.if-byte-ne110.false) c.null_count-n.result c.null_count-n.ensures c.requires)) tt
