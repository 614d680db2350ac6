-- `field_turns` meets its contract: turn by turn, those that are left are all of them.
use mathlib.Core.Path.{refl}
use native.Mathlib.Omega.{arith}
use Rattle.json_scan.proofs.Telling.{came, refused}
use Rattle.json_lines.proofs.Steps.{handed}
use Rattle.json_filters.proofs.Gathering.{untouched}
use Rattle.json_filters.proofs.Turning.{turning_begins, turning_stops, turning_goes, turning_ends, still_lent, touched_no_more}
use Rattle.json_filters.proofs.field_turns.Goals as goal

pub loop-more-init : goal.loop-more-init
loop-more-init c = (turning_begins _ _ _ _ c.requires.0, untouched _ _)

pub field_turn-requires : goal.field_turn-requires
field_turn-requires c = (c.loop-more.invariant.0.inside, still_lent c.requires.1 c.loop-more.invariant.1)

pub returns-in_err-turn : goal.returns-in_err-turn
returns-in_err-turn c = (
  handed _ _ c.from_residual.ensures.1 (turning_stops c.loop-more.invariant.0 c.loop-more-test.true (c.in_err-turn.ensures.0 _ c.loop-more.invariant.0.gathered) (refused _)),
  touched_no_more c.loop-more.invariant.1 c.in_err-turn.ensures.1,
)

pub loop-more-smaller : goal.loop-more-smaller
loop-more-smaller c = let k = came (c.in_ok-turn.ensures.0 _ c.loop-more.invariant.0.gathered) refl in omega (arith, k.on, k.place.inside)

pub loop-more-preserved : goal.loop-more-preserved
loop-more-preserved c = (
  turning_goes _ c.loop-more.invariant.0 c.loop-more-test.true (c.in_ok-turn.ensures.0 _ c.loop-more.invariant.0.gathered),
  touched_no_more c.loop-more.invariant.1 c.in_ok-turn.ensures.1,
)

pub returns : goal.returns
returns c = (turning_ends c.loop-more.invariant.0 c.loop-more-test.false, c.loop-more.invariant.1)
