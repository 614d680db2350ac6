-- `name_there` meets its contract: a name is decoded into scratch, or its fault is that of a string at the same place.
use mathlib.Core.Path.{refl, sym, ◌∙◌}
use native.Mathlib.Omega.{arith}
use Rattle.json_numbers.proofs.Counting.{inside}
use Rattle.json_parts.proofs.Places.{no_key}
use Rattle.json_lines.proofs.Calls.{fault_told, call_undecoded}
use Rattle.json_texts.proofs.Names as laws
use Rattle.json_texts.proofs.name_there.Goals as goal

pub returns-then-byte-ne34 : goal.returns-then-byte-ne34
returns-then-byte-ne34 c = (no_key c.args.text.now c.args.at (λ e. c.if-byte-ne34.true (c.byte.ensures ∙ e)) c.requires.0 refl refl, refl)

pub decode-requires : goal.decode-requires
decode-requires c = (omega (arith, inside c.args.text.now c.args.at 0x22 (sym c.byte.ensures ∙ c.if-byte-ne34.false) (omega arith)), omega (arith, c.requires.0, c.requires.1, c.requires.3))

pub unwrap_err-requires : goal.unwrap_err-requires
unwrap_err-requires c = fault_told (call_undecoded c.args.text.now c.args.at (laws.begins_string c.args.text.now c.args.at (sym c.byte.ensures ∙ c.if-byte-ne34.false)) _ _ _ _ c.in_default.ensures) _ c.string_there.ensures

pub returns-in_default : goal.returns-in_default
returns-in_default c = (
  laws.refused_name c.args.text.now c.args.at (sym c.byte.ensures ∙ c.if-byte-ne34.false)
      (call_undecoded c.args.text.now c.args.at (laws.begins_string c.args.text.now c.args.at (sym c.byte.ensures ∙ c.if-byte-ne34.false)) _ _ _ _ c.in_default.ensures) _ c.unwrap_err.ensures c.string_there.ensures,
  c.decode.auto.out,
)

pub returns : goal.returns
returns c = (laws.stored_name c.args.text.now c.args.at (sym c.byte.ensures ∙ c.if-byte-ne34.false) _ c.requires.0 c.requires.3 c.requires.2 c.in-Ok.ensures, c.decode.auto.out)
