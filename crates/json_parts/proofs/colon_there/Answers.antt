use mathlib.Core.Path.{refl, sym, ◌∙◌}
use native.Mathlib.Omega.{arith}
use Rattle.json_parts.proofs.Places as laws
use Rattle.json_numbers.proofs.Counting.{inside}
use Prim.Native.Nat.{◌+◌}
use Rattle.json_parts.proofs.colon_there.Goals as goal

pub returns-then-byte-ne58 : goal.returns-then-byte-ne58
returns-then-byte-ne58 c = rw c.not_json.ensures (laws.tells_stop (laws.colon_missing c.args.text.now c.args.at c.skip_blanks-colon.result c.skip_blanks-colon.ensures (λ e. c.if-byte-ne58.true (c.byte.ensures ∙ e))) refl (omega arith) (laws.here c.args.text.now c.skip_blanks-colon.result c.skip_blanks-colon.ensures.inside))

pub skip_blanks-requires : goal.skip_blanks-requires
skip_blanks-requires c = omega (arith, inside c.args.text.now c.skip_blanks-colon.result 0x3a (sym c.byte.ensures ∙ c.if-byte-ne58.false) (omega arith))

pub returns : goal.returns
returns c = laws.tells_got (laws.colon_here c.args.text.now c.args.at c.skip_blanks-colon.result c.skip_blanks-colon.ensures (sym c.byte.ensures ∙ c.if-byte-ne58.false)) refl (omega (arith, laws.blanks_on c.args.text.now c.args.at c.skip_blanks-colon.result c.requires c.skip_blanks-colon.ensures, laws.blanks_on c.args.text.now (c.skip_blanks-colon.result + 1) c.skip_blanks.result (omega (arith, inside c.args.text.now c.skip_blanks-colon.result 0x3a (sym c.byte.ensures ∙ c.if-byte-ne58.false) (omega arith))) c.skip_blanks.ensures)) c.skip_blanks.ensures tt
