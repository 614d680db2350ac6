use mathlib.Core.Path.{refl, sym, ◌∙◌}
use native.Mathlib.Omega.{arith}
use Rattle.json_parts.proofs.Places as laws
use Rattle.json_numbers.proofs.Counting.{inside}
use Rattle.json_parts.proofs.open_there.Goals as goal

pub returns-then-byte-bracket : goal.returns-then-byte-bracket
returns-then-byte-bracket c = laws.tells_refused _ (laws.open_missing c.args.text.now c.args.at c.args.bracket (λ e. c.if-byte-bracket.true (c.byte.ensures ∙ e))) c.wrong_at.ensures (laws.here c.args.text.now c.args.at c.requires.0)

pub returns : goal.returns
returns c = laws.tells_got (laws.open_here c.args.text.now c.args.at c.args.bracket (sym c.byte.ensures ∙ c.if-byte-bracket.false)) refl (omega arith) (laws.further c.args.text.now c.args.at 1 (omega (arith, inside c.args.text.now c.args.at c.args.bracket (sym c.byte.ensures ∙ c.if-byte-bracket.false) (omega (arith, c.requires.1))))) tt
