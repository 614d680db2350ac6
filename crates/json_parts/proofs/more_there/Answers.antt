use mathlib.Core.Path.{refl, sym, ◌∙◌}
use native.Mathlib.Omega.{arith}
use Rattle.json_parts.proofs.Places as laws
use Rattle.json_numbers.proofs.Counting.{inside}
use Rattle.json_parts.proofs.more_there.Goals as goal

pub returns-then-b-eq44 : goal.returns-then-b-eq44
returns-then-b-eq44 c = laws.tells_got (laws.comma_here c.args.text.now c.args.at c.skip_blanks-next.result c.skip_blanks-next.ensures c.args.bracket (sym c.byte-b.ensures ∙ c.if-b-eq44.true)) refl (omega (arith, laws.blanks_on c.args.text.now c.args.at c.skip_blanks-next.result c.requires.0 c.skip_blanks-next.ensures)) (laws.further c.args.text.now c.skip_blanks-next.result 1 (omega (arith, inside c.args.text.now c.skip_blanks-next.result 0x2c (sym c.byte-b.ensures ∙ c.if-b-eq44.true) (omega arith)))) refl

pub returns-then-b-bracket : goal.returns-then-b-bracket
returns-then-b-bracket c = rw c.not_json.ensures (laws.tells_stop (laws.end_missing c.args.text.now c.args.at c.skip_blanks-next.result c.skip_blanks-next.ensures c.args.bracket (λ e. c.if-b-eq44.false (c.byte-b.ensures ∙ e)) (λ e. c.if-b-bracket.true (c.byte-b.ensures ∙ e))) refl (omega arith) (laws.here c.args.text.now c.skip_blanks-next.result c.skip_blanks-next.ensures.inside))

pub returns : goal.returns
returns c = laws.tells_got (laws.end_here c.args.text.now c.args.at c.skip_blanks-next.result c.skip_blanks-next.ensures c.args.bracket (λ e. c.if-b-eq44.false (c.byte-b.ensures ∙ e)) (sym c.byte-b.ensures ∙ c.if-b-bracket.false)) refl (omega (arith, laws.blanks_on c.args.text.now c.args.at c.skip_blanks-next.result c.requires.0 c.skip_blanks-next.ensures)) (laws.further c.args.text.now c.skip_blanks-next.result 1 (omega (arith, inside c.args.text.now c.skip_blanks-next.result c.args.bracket (sym c.byte-b.ensures ∙ c.if-b-bracket.false) (omega (arith, c.requires.1))))) refl
