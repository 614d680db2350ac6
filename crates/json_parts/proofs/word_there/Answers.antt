use mathlib.Core.Path.{refl, sym, ◌∙◌}
use native.Mathlib.Omega.{arith}
use Rattle.json_parts.proofs.Places as laws
use Rattle.json_numbers.proofs.Counting.{inside}
use Rattle.json_scan.proofs.Telling.{refused}
use Rattle.json_parts.proofs.word_there.Goals as goal

pub returns-then-byte-ne34 : goal.returns-then-byte-ne34
returns-then-byte-ne34 c = laws.no_string c.args.text.now c.args.at (λ e. c.if-byte-ne34.true (c.byte.ensures ∙ e)) c.requires c.wrong_at.ensures (omega (arith, refused c.wrong_at.result)) refl

pub word_behind-requires : goal.word_behind-requires
word_behind-requires c = (omega (arith, inside c.args.text.now c.args.at 0x22 (sym c.byte.ensures ∙ c.if-byte-ne34.false) (omega arith)))

pub returns : goal.returns
returns c = laws.string_there_lem c.args.text.now c.args.at (sym c.byte.ensures ∙ c.if-byte-ne34.false) c.word_behind.ensures
