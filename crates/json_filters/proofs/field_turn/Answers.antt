-- `field_turn` meets its contract: a turn of the reader, step by step.
use mathlib.Core.Path.{refl, sym, ◌∙◌}
use native.Mathlib.Omega.{arith}
use Rattle.definitions.specs.JsonForm.{filter_keys}
use Rattle.json_parts.specs.Kinds.{keys_of}
use Rattle.json_scan.proofs.Telling.{told_inside, refused}
use Rattle.json_scan.proofs.Fields.{skipped, key_stops, key_twice, key_came, colon_stops, colon_came, value_stops, turn_told}
use Rattle.json_lines.proofs.Steps.{handed}
use Rattle.json_filters.proofs.Gathering.{given_is, not_held, field_small, untouched}
use Rattle.json_filters.proofs.Turning.{closed_behind, more_stops}
use Rattle.json_filters.proofs.field_turn.Goals as goal

pub returns-in_err-key : goal.returns-in_err-key
unfolding keys_of
returns-in_err-key c = (
  (λ ts g. handed _ _ c.from_residual.ensures.1 (key_stops filter_keys _ ts (skipped c.requires.0 c.skip_blanks-from.ensures) c.in_err-key.ensures (refused _))),
  untouched _ _,
)

pub returns-then-is_given : goal.returns-then-is_given
unfolding keys_of
returns-then-is_given c = (
  (λ ts g.
      key_twice filter_keys _ ts (skipped c.requires.0 c.skip_blanks-from.ensures) c.in_ok-key.ensures refl
      (given_is g _ (field_small c.in_ok-key.ensures refl) ∙ sym c.is_given.ensures ∙ c.if-is_given.true)),
  untouched _ _,
)

pub colon_there-requires : goal.colon_there-requires
unfolding keys_of
colon_there-requires c = told_inside c.in_ok-key.ensures

pub returns-in_err-colon : goal.returns-in_err-colon
unfolding keys_of
returns-in_err-colon c = (
  (λ ts g.
      handed _ _ c.from_residual-in_err-colon.ensures.1
      (colon_stops _ (key_came ts (skipped c.requires.0 c.skip_blanks-from.ensures) c.in_ok-key.ensures refl (given_is g _ (field_small c.in_ok-key.ensures refl) ∙ sym c.is_given.ensures ∙ c.if-is_given.false)) c.in_err-colon.ensures (refused _))),
  untouched _ _,
)

pub value_there-requires : goal.value_there-requires
unfolding keys_of
value_there-requires c = (told_inside c.in_ok-colon.ensures, c.requires.1, field_small c.in_ok-key.ensures refl)

pub returns-in_err-parts : goal.returns-in_err-parts
unfolding keys_of
returns-in_err-parts c = (
  (λ ts g.
      let new = given_is g _ (field_small c.in_ok-key.ensures refl) ∙ sym c.is_given.ensures ∙ c.if-is_given.false in
      handed _ _ c.from_residual-in_err-parts.ensures.1
      (value_stops _ (colon_came (key_came ts (skipped c.requires.0 c.skip_blanks-from.ensures) c.in_ok-key.ensures refl new) c.in_ok-colon.ensures refl) (c.in_err-parts.ensures.0.on ts g (not_held _ ts new)) (refused _))),
  c.in_err-parts.ensures.1,
)

pub more_there-requires : goal.more_there-requires
more_there-requires c = (c.in_ok-parts.ensures.0.inside, omega arith)

pub returns-in_err-more : goal.returns-in_err-more
unfolding keys_of
returns-in_err-more c = (
  (λ ts g.
      let new = given_is g _ (field_small c.in_ok-key.ensures refl) ∙ sym c.is_given.ensures ∙ c.if-is_given.false in
      handed _ _ c.from_residual-in_err-more.ensures.1
      (more_stops _ (colon_came (key_came ts (skipped c.requires.0 c.skip_blanks-from.ensures) c.in_ok-key.ensures refl new) c.in_ok-colon.ensures refl) (c.in_ok-parts.ensures.0.on ts g (not_held _ ts new)) c.in_err-more.ensures (refused _))),
  c.in_ok-parts.ensures.1,
)

pub returns : goal.returns
unfolding keys_of
returns c = (
  (λ ts g.
      let new = given_is g _ (field_small c.in_ok-key.ensures refl) ∙ sym c.is_given.ensures ∙ c.if-is_given.false in
      turn_told _ (colon_came (key_came ts (skipped c.requires.0 c.skip_blanks-from.ensures) c.in_ok-key.ensures refl new) c.in_ok-colon.ensures refl)
      (c.in_ok-parts.ensures.0.on ts g (not_held _ ts new)) refl c.in_ok-more.ensures _ (λ a h. record { gathered = h; closed = closed_behind c.in_ok-more.ensures })),
  c.in_ok-parts.ensures.1,
)
