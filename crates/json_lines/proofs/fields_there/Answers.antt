-- `fields_there` meets its contract: a turn of the loop reads a key, its value, and what stands behind it.
use mathlib.Core.Path.{refl, ◌∙◌}
use native.Mathlib.Omega.{arith}
use lib.ListN.{drop}
use Rattle.json_scan.proofs.Telling.{came, refused}
use Rattle.json_lines.proofs.Steps.{handed, begin_stopped}
use Rattle.json_lines.proofs.Calls.{slots_of}
use Rattle.json_lines.proofs.Fields.{reading_end, fields_begin, reading_start, key_stopped, key_known_lem, key_new, value_stopped, value_behind, reading_again}
use Rattle.json_lines.proofs.fields_there.Goals as goal

pub returns-in_err-begun : goal.returns-in_err-begun
returns-in_err-begun c = (handed _ _ c.from_residual.ensures.1 (begin_stopped (fields_begin (slots_of c.args.table.now) (drop c.args.from c.args.text.now)) c.in_err-begun.ensures.0 (refused _)), refl)

pub loop-more-init : goal.loop-more-init
loop-more-init c = reading_start (slots_of c.args.table.now) c.args.raw.now c.args.spot c.in_ok-begun.ensures.0 c.in_ok-begun.ensures.1 refl

pub fresh_there-requires : goal.fresh_there-requires
fresh_there-requires c = c.loop-more.invariant.turning.inside

pub returns-in_err-key : goal.returns-in_err-key
returns-in_err-key c = (handed _ _ c.from_residual-in_err-key.ensures.1 (key_stopped c.loop-more.invariant c.loop-more-test.true c.in_err-key.ensures.0 (refused _)), c.loop-more.invariant.long)

pub value_there-requires : goal.value_there-requires
value_there-requires c = ((came c.in_ok-key.ensures.0 refl).place.inside, c.requires.1, omega (arith, c.requires.2, c.loop-more.invariant.long), omega (arith, c.requires.3, c.loop-more.invariant.turning.on, c.in_ok-key.ensures.1), key_known_lem c.loop-more.invariant c.loop-more-test.true c.in_ok-key.ensures.0 refl)

pub returns-in_err-value : goal.returns-in_err-value
returns-in_err-value c = (handed _ _ c.from_residual-in_err-value.ensures.1 (value_stopped c.loop-more.invariant c.loop-more-test.true c.in_ok-key.ensures.0 refl (c.in_err-value.ensures.0 c.args.raw.now c.loop-more.invariant.done (key_new c.loop-more.invariant c.loop-more-test.true c.in_ok-key.ensures.0 refl) c.loop-more.invariant.holds) (refused _)), c.in_err-value.ensures.1 ∙ c.loop-more.invariant.long)

pub more_there-requires : goal.more_there-requires
more_there-requires c = ((came (c.in_ok-value.ensures.0 c.args.raw.now c.loop-more.invariant.done (key_new c.loop-more.invariant c.loop-more-test.true c.in_ok-key.ensures.0 refl) c.loop-more.invariant.holds) refl).place.inside, omega arith)

pub returns-in_err-next : goal.returns-in_err-next
returns-in_err-next c = (handed _ _ c.from_residual-in_err-next.ensures.1 (value_behind c.loop-more.invariant c.loop-more-test.true c.in_ok-key.ensures.0 refl (c.in_ok-value.ensures.0 c.args.raw.now c.loop-more.invariant.done (key_new c.loop-more.invariant c.loop-more-test.true c.in_ok-key.ensures.0 refl) c.loop-more.invariant.holds) refl c.in_err-next.ensures (refused _)), c.in_ok-value.ensures.1 ∙ c.loop-more.invariant.long)

pub loop-more-smaller : goal.loop-more-smaller
loop-more-smaller c = let d = came c.in_ok-next.ensures refl in omega (arith, (came c.in_ok-key.ensures.0 refl).on, (came (c.in_ok-value.ensures.0 c.args.raw.now c.loop-more.invariant.done (key_new c.loop-more.invariant c.loop-more-test.true c.in_ok-key.ensures.0 refl) c.loop-more.invariant.holds) refl).on, d.on, d.place.inside)

pub loop-more-preserved : goal.loop-more-preserved
loop-more-preserved c = reading_again c.loop-more.invariant c.loop-more-test.true c.in_ok-key.ensures.0 refl (c.in_ok-value.ensures.0 c.args.raw.now c.loop-more.invariant.done (key_new c.loop-more.invariant c.loop-more-test.true c.in_ok-key.ensures.0 refl) c.loop-more.invariant.holds) refl c.in_ok-next.ensures c.in_ok-value.ensures.1 refl

pub returns : goal.returns
returns c = (reading_end c.loop-more.invariant c.loop-more-test.false, c.loop-more.invariant.long)
