-- `begin_there` meets its contract.
use mathlib.Core.Path.{refl, sym, ◌∙◌}
use Rattle.json_theorems.proofs.Tests.{false_not_true}
use Rattle.json_scan.proofs.Telling.{came, refused}
use Rattle.json_lines.proofs.Steps.{handed, no_value, begin_no, begin_empty, begin_closed, begin_filled}
use Rattle.json_lines.proofs.begin_there.Goals as goal

pub returns-in_err-bracket : goal.returns-in_err-bracket
returns-in_err-bracket c = (handed _ _ c.from_residual.ensures.1 (begin_no _ _ c.in_err-bracket.ensures (refused _)), no_value _ _ _ c.from_residual.ensures.1)

pub skip_blanks-next-requires : goal.skip_blanks-next-requires
skip_blanks-next-requires c = (came c.in_ok-bracket.ensures refl).place.inside

pub returns-then-stands : goal.returns-then-stands
returns-then-stands c = (begin_empty _ _ c.in_ok-bracket.ensures refl c.skip_blanks-next.ensures (sym c.if-stands.true ∙ c.stands.ensures) c.requires.2, λ e. begin_closed c.skip_blanks-next.ensures (sym c.if-stands.true ∙ c.stands.ensures) c.requires.2)

pub returns : goal.returns
returns c = (begin_filled _ _ c.in_ok-bracket.ensures refl c.skip_blanks-next.ensures (sym c.if-stands.false ∙ c.stands.ensures), λ e. absurd (false_not_true (sym e)))
