-- `call_there` meets its contract: a string is decoded into the 32 bytes that the table is searched for.
use mathlib.Core.Path.{refl, sym, ◌∙◌}
use native.Mathlib.Omega.{arith}
use Rattle.json_lines.proofs.Calls.{slots_of, fault_told, no_name, call_unquoted, string_inside, call_undecoded, call_unknown, call_known}
use Rattle.json_lines.proofs.call_there.Goals as goal

pub unwrap_err-requires : goal.unwrap_err-requires
unwrap_err-requires c = fault_told (call_unquoted c.args.text.now c.args.at (sym c.if-not-stands.true ∙ c.stands.ensures)) _ c.string_there.ensures

pub returns-then-not-stands : goal.returns-then-not-stands
returns-then-not-stands c = no_name (call_unquoted c.args.text.now c.args.at (sym c.if-not-stands.true ∙ c.stands.ensures)) (slots_of c.args.table.now) _ c.unwrap_err.ensures c.string_there.ensures

pub decode-requires : goal.decode-requires
decode-requires c = (let h = string_inside c.args.text.now c.args.at (sym c.if-not-stands.false ∙ c.stands.ensures) in omega arith, omega arith)

pub unwrap_err-requires-in_default : goal.unwrap_err-requires-in_default
unwrap_err-requires-in_default c = fault_told (call_undecoded c.args.text.now c.args.at (sym c.if-not-stands.false ∙ c.stands.ensures) _ _ _ _ c.in_default.ensures) _ c.string_there-in_default.ensures

pub returns-in_default : goal.returns-in_default
returns-in_default c = no_name (call_undecoded c.args.text.now c.args.at (sym c.if-not-stands.false ∙ c.stands.ensures) _ _ _ _ c.in_default.ensures) (slots_of c.args.table.now) _ c.unwrap_err-in_default.ensures c.string_there-in_default.ensures

pub returns-in-Some : goal.returns-in-Some
returns-in-Some c = call_known c.args.text.now c.args.at (sym c.if-not-stands.false ∙ c.stands.ensures) _ c.args.table.now _ c.in-Ok.ensures c.in-Some.ensures refl

pub returns-in-None : goal.returns-in-None
returns-in-None c = call_unknown c.args.text.now c.args.at (sym c.if-not-stands.false ∙ c.stands.ensures) _ c.args.table.now _ c.in-Ok.ensures c.in-None.ensures refl
