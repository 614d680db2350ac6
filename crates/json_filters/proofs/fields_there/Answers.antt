-- `fields_there` meets its contract: the brace, and what stands behind it.
use mathlib.Core.Path.{refl, sym, ◌∙◌}
use Rattle.json_scan.proofs.Telling.{told_inside, refused}
use Rattle.json_lines.proofs.Steps.{handed}
use Rattle.json_filters.proofs.Gathering.{untouched}
use Rattle.json_filters.proofs.Turning.{object_stops, object_empty, object_turns}
use Rattle.json_filters.proofs.fields_there.Goals as goal

pub returns-in_err-open : goal.returns-in_err-open
returns-in_err-open c = (handed _ _ c.from_residual.ensures.1 (object_stops _ c.in_err-open.ensures (refused _)), untouched _ _)

pub skip_blanks-first-requires : goal.skip_blanks-first-requires
skip_blanks-first-requires c = told_inside c.in_ok-open.ensures

pub returns-then-byte-eq125 : goal.returns-then-byte-eq125
returns-then-byte-eq125 c = (object_empty _ _ c.in_ok-open.ensures refl c.skip_blanks-first.ensures (sym c.byte.ensures ∙ c.if-byte-eq125.true), untouched _ _)

pub field_turns-requires : goal.field_turns-requires
field_turns-requires c = (told_inside c.in_ok-open.ensures, c.requires.1)

pub returns : goal.returns
returns c = (
  object_turns _ c.in_ok-open.ensures refl c.skip_blanks-first.ensures (λ e. c.if-byte-eq125.false (c.byte.ensures ∙ e)) c.field_turns.ensures.0,
  c.field_turns.ensures.1,
)
