use mathlib.Core.Path.{refl, sym, ◌∙◌}
use native.Mathlib.Omega.{arith}
use Rattle.std.specs.Prelude.{Err}
use Rattle.json_parts.proofs.Places as laws
use Rattle.json_numbers.proofs.Counting.{inside}
use Prim.Native.Nat.{◌+◌}
use lib.ListN.{drop}
use Rattle.definitions.specs.JsonReader.{string_at}
use Rattle.json_scan.proofs.Telling.{refused}
use Rattle.json_parts.proofs.Strings as strings
use Rattle.json_parts.proofs.string_there.Goals as goal

pub returns-then-byte-ne34 : goal.returns-then-byte-ne34
returns-then-byte-ne34 c = laws.no_string c.args.text.now c.args.at (λ e. c.if-byte-ne34.true (c.byte.ensures ∙ e)) c.requires c.wrong_at.ensures (omega (arith, refused c.wrong_at.result)) refl

pub skip_string-requires : goal.skip_string-requires
skip_string-requires c = (omega (arith, inside c.args.text.now c.args.at 0x22 (sym c.byte.ensures ∙ c.if-byte-ne34.false) (omega arith)))

pub bad_character-requires : goal.bad_character-requires
bad_character-requires c = strings.stands_inside c.args.text.now (string_at (drop (c.args.at + 1) c.args.text.now)) (Err _) c.in-Err.ensures

pub returns-in-Ok : goal.returns-in-Ok
returns-in-Ok c = laws.string_there_lem c.args.text.now c.args.at (sym c.byte.ensures ∙ c.if-byte-ne34.false) (strings.skipped c.args.text.now (c.args.at + 1) (omega (arith, inside c.args.text.now c.args.at 0x22 (sym c.byte.ensures ∙ c.if-byte-ne34.false) (omega arith))) _ c.in-Ok.ensures)

pub returns-in-Err : goal.returns-in-Err
returns-in-Err c = rw c.not_json.ensures (laws.string_there_lem c.args.text.now c.args.at (sym c.byte.ensures ∙ c.if-byte-ne34.false) (strings.not_skipped c.args.text.now (c.args.at + 1) (omega (arith, inside c.args.text.now c.args.at 0x22 (sym c.byte.ensures ∙ c.if-byte-ne34.false) (omega arith))) _ _ c.in-Err.ensures c.bad_character.ensures))
