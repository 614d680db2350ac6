-- `filter_there` meets its contract: what is missing, what is equal, and what is written.
use mathlib.Core.Path.{refl, ◌∙◌}
use native.Mathlib.Omega.{arith}
use Rattle.json_scan.proofs.Telling.{came, told_inside, refused}
use Rattle.json_lines.proofs.Steps.{handed}
use Rattle.json_filters.proofs.Filtering.{whole_filter, no_mismatch, no_match, no_lines, filter_stops, filter_missing, filter_equal, raw_lines, filter_written}
use Rattle.json_filters.proofs.filter_there.Goals as goal
use Rattle.json_filters.proofs.filter_there.Goals.{in_default-via-in-Some+in-Some+in_default, in_default-via-in-Some+in_default, in_default-via-in_default}

pub returns-in_err-fields : goal.returns-in_err-fields
returns-in_err-fields c = (
  (λ name. handed _ _ c.from_residual.ensures.1 (filter_stops _ name c.in_err-fields.ensures.0 (refused _))),
  c.in_err-fields.ensures.1.whole,
  told_inside (handed _ _ c.from_residual.ensures.1 c.in_err-fields.ensures.0),
)

pub overflow_sub-result : goal.overflow_sub-result
overflow_sub-result c = omega (arith, (came c.in_ok-fields.ensures.0 refl).on)

pub returns-in_default : goal.returns-in_default
returns-in_default c =
    let k = came c.in_ok-fields.ensures.0 refl in (
      (λ name. filter_missing _ name k (elim c.in_default.branch [
        | in_default-via-in-Some+in-Some+in_default w ↦ no_lines k.value.gathered w.in_default.is-2 name
        | in_default-via-in-Some+in_default w ↦ no_match k.value.gathered w.in_default.is-1 name
        | in_default-via-in_default w ↦ no_mismatch k.value.gathered w.in_default.is-0 name
      ])),
      c.in_ok-fields.ensures.1.whole,
      omega (arith, k.place.inside),
    )

pub returns-then-mismatch-on_match : goal.returns-then-mismatch-on_match
returns-then-mismatch-on_match c =
    let k = came c.in_ok-fields.ensures.0 refl in
    let w = whole_filter k.value.gathered c.in-Some-Some-Some.is-0 c.in-Some-Some-Some.is-1 c.in-Some-Some-Some.is-2 in
    ((λ name. filter_equal _ name k w c.requires.0 c.if-mismatch-on_match.true), c.in_ok-fields.ensures.1.whole, c.requires.0)

pub write_set-end-requires : goal.write_set-end-requires
write_set-end-requires c =
    let k = came c.in_ok-fields.ensures.0 refl in
    let w = whole_filter k.value.gathered c.in-Some-Some-Some.is-0 c.in-Some-Some-Some.is-1 c.in-Some-Some-Some.is-2 in
    (raw_lines _ (λ i. omega (arith, c.type_inv.table i)) c.requires.1 c.in_ok-fields.ensures.1 c.requires.3 k w c.if-mismatch-on_match.false).raw

pub returns : goal.returns
returns c =
    let k = came c.in_ok-fields.ensures.0 refl in
    let w = whole_filter k.value.gathered c.in-Some-Some-Some.is-0 c.in-Some-Some-Some.is-1 c.in-Some-Some-Some.is-2 in
    let raw = raw_lines _ (λ i. omega (arith, c.type_inv.table i)) c.requires.1 c.in_ok-fields.ensures.1 c.requires.3 k w c.if-mismatch-on_match.false in (
      (λ name. filter_written name c.args.table.now c.requires.2.known c.requires.2.named c.requires.3 c.in_ok-fields.ensures.1 k w c.if-mismatch-on_match.false raw.raw raw.same (c.write_set-end.ensures raw.raw)),
      (c.write_set-end.ensures raw.raw).whole ∙ c.in_ok-fields.ensures.1.whole,
      k.place.inside,
    )
