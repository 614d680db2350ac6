-- `fresh_there` meets its contract: a key, not given before, and its colon.
use mathlib.Core.Path.{refl, sym, ◌∙◌}
use native.Mathlib.Omega.{arith}
use Rattle.json_scan.proofs.Telling.{came, refused}
use Rattle.json_lines.specs.Lines.{seen_in}
use Rattle.json_lines.proofs.Steps.{handed, no_value, blanks_on}
use Rattle.json_lines.proofs.Keys.{fresh_no, fresh_twice, fresh_colon, fresh_key}
use Rattle.json_lines.proofs.fresh_there.Goals as goal

pub field_there-requires : goal.field_there-requires
field_there-requires c = c.skip_blanks-start.ensures.inside

pub returns-in_err-key : goal.returns-in_err-key
returns-in_err-key c = (handed _ _ c.from_residual.ensures.1 (fresh_no (seen_in c.args.line) c.skip_blanks-start.ensures c.in_err-key.ensures (refused _)), no_value _ _ _ c.from_residual.ensures.1)

pub returns-then-is_seen : goal.returns-then-is_seen
returns-then-is_seen c = (fresh_twice (seen_in c.args.line) c.requires c.skip_blanks-start.ensures c.in_ok-key.ensures refl (sym c.if-is_seen.true ∙ c.is_seen.ensures), tt)

pub colon_there-requires : goal.colon_there-requires
colon_there-requires c = (came c.in_ok-key.ensures refl).place.inside

pub returns-in_err-colon : goal.returns-in_err-colon
returns-in_err-colon c = (handed _ _ c.from_residual-in_err-colon.ensures.1 (fresh_colon (seen_in c.args.line) c.requires c.skip_blanks-start.ensures c.in_ok-key.ensures refl (sym c.if-is_seen.false ∙ c.is_seen.ensures) c.in_err-colon.ensures (refused _)), no_value _ _ _ c.from_residual-in_err-colon.ensures.1)

pub returns : goal.returns
returns c = (
  fresh_key (seen_in c.args.line) c.requires c.skip_blanks-start.ensures c.in_ok-key.ensures refl (sym c.if-is_seen.false ∙ c.is_seen.ensures) c.in_ok-colon.ensures,
  omega (arith, blanks_on _ _ _ c.requires c.skip_blanks-start.ensures, (came c.in_ok-key.ensures refl).on, (came c.in_ok-colon.ensures refl).on),
)
