-- `new_name` meets its contract: a name is read, and refused where a filter has it.
use mathlib.Core.Path.{refl, sym, ◌∙◌}
use native.Mathlib.Omega.{arith}
use Rattle.json_scan.proofs.Fields.{skipped}
use Rattle.json_scan.proofs.Telling.{told_inside, refused}
use Rattle.json_lines.proofs.Steps.{handed, no_value}
use Rattle.json_texts.proofs.Names as laws
use Rattle.json_texts.proofs.new_name.Goals as goal

pub name_there-requires : goal.name_there-requires
name_there-requires c = (c.skip_blanks-from.ensures.inside, c.requires.1, c.requires.2, let s = skipped c.requires.0 c.skip_blanks-from.ensures in omega (arith, s.on, c.requires.3))

pub returns-in_err-name : goal.returns-in_err-name
returns-in_err-name c = (
  (λ slots architecture many fs w. handed _ _ c.from_residual.ensures.1 (laws.name_stops (skipped c.requires.0 c.skip_blanks-from.ensures) c.in_err-name.ensures.0 (refused _) fs)),
  no_value _ _ _ c.from_residual.ensures.1,
  told_inside (handed _ _ c.from_residual.ensures.1 c.in_err-name.ensures.0),
  c.in_err-name.ensures.1,
)

pub is_repeated-requires : goal.is_repeated-requires
is_repeated-requires c = laws.name_room (skipped c.requires.0 c.skip_blanks-from.ensures) c.in_ok-name.ensures.0 refl c.requires.3 c.requires.2

pub returns-then-is_repeated : goal.returns-then-is_repeated
returns-then-is_repeated c = (
  (λ slots architecture many fs w. laws.name_twice (skipped c.requires.0 c.skip_blanks-from.ensures) c.in_ok-name.ensures.0 refl c.requires.3 c.requires.2 w c.requires.1 (sym c.is_repeated.ensures ∙ c.if-is_repeated.true)),
  tt,
  c.skip_blanks-from.ensures.inside,
  c.in_ok-name.ensures.1,
)

pub returns : goal.returns
returns c = (
  (λ slots architecture many fs w. laws.name_new (skipped c.requires.0 c.skip_blanks-from.ensures) c.in_ok-name.ensures.0 refl c.requires.3 c.requires.2 w c.requires.1 (sym c.is_repeated.ensures ∙ c.if-is_repeated.false)),
  laws.name_size (skipped c.requires.0 c.skip_blanks-from.ensures) c.in_ok-name.ensures.0 refl c.requires.3 c.requires.2,
  told_inside c.in_ok-name.ensures.0,
  c.in_ok-name.ensures.1,
)
