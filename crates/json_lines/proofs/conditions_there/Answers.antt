-- `conditions_there` meets its contract: a turn of the loop reads a condition and writes it.
use mathlib.Core.Path.{refl, ◌∙◌}
use mathlib.Core.List.{[]}
use native.Mathlib.Omega.{arith}
use lib.ListN.{drop}
use Rattle.definitions.specs.FormReader.{condition_there, judges_of}
use Rattle.json_scan.proofs.Telling.{came, refused}
use Rattle.json_lines.proofs.Steps.{handed, begin_stopped, still, gathered, list_begin}
use Rattle.json_lines.proofs.Conditions.{filling_start, condition_stopped, condition_room, condition_behind, filling_again}
use Rattle.json_lines.proofs.conditions_there.Goals as goal

pub returns-in_err-begun : goal.returns-in_err-begun
returns-in_err-begun c = (λ slots. handed _ _ c.from_residual.ensures.1 (begin_stopped (list_begin (condition_there (judges_of slots)) (drop c.args.from c.args.text.now)) c.in_err-begun.ensures.0 (refused _)), refl)

pub loop-more-init : goal.loop-more-init
loop-more-init c = λ slots. filling_start _ _ c.in_ok-begun.ensures.0 refl c.requires.2

pub skip_blanks-requires : goal.skip_blanks-requires
skip_blanks-requires c = (c.loop-more.invariant []).turning.inside

pub condition_there-requires : goal.condition_there-requires
condition_there-requires c = c.skip_blanks.ensures.inside

pub returns-in_err-q : goal.returns-in_err-q
returns-in_err-q c = (λ slots. handed _ _ c.from_residual-in_err-q.ensures.1 (condition_stopped (c.loop-more.invariant slots) c.loop-more-test.true c.skip_blanks.ensures (c.in_err-q.ensures slots) (refused _)), (c.loop-more.invariant []).long)

pub overflow_mul-count : goal.overflow_mul-count
overflow_mul-count c = let h = condition_room (c.loop-more.invariant []) c.loop-more-test.true c.skip_blanks.ensures (c.in_ok-q.ensures []) refl in record { fits = omega arith }

pub overflow_add-spot : goal.overflow_add-spot
overflow_add-spot c = let h = condition_room (c.loop-more.invariant []) c.loop-more-test.true c.skip_blanks.ensures (c.in_ok-q.ensures []) refl in record { fits = omega arith }

pub write_condition-requires : goal.write_condition-requires
write_condition-requires c = let h = condition_room (c.loop-more.invariant []) c.loop-more-test.true c.skip_blanks.ensures (c.in_ok-q.ensures []) refl in omega (arith, c.requires.1, (c.loop-more.invariant []).long)

pub overflow_add-count : goal.overflow_add-count
overflow_add-count c = let h = condition_room (c.loop-more.invariant []) c.loop-more-test.true c.skip_blanks.ensures (c.in_ok-q.ensures []) refl in record { fits = omega arith }

pub more_there-requires : goal.more_there-requires
more_there-requires c = ((condition_room (c.loop-more.invariant []) c.loop-more-test.true c.skip_blanks.ensures (c.in_ok-q.ensures []) refl).2, omega arith)

pub returns-in_err-next : goal.returns-in_err-next
returns-in_err-next c = (λ slots. handed _ _ c.from_residual-in_err-next.ensures.1 (condition_behind (c.loop-more.invariant slots) c.loop-more-test.true c.skip_blanks.ensures (c.in_ok-q.ensures slots) refl c.in_err-next.ensures (refused _)), c.write_condition.auto.out ∙ (c.loop-more.invariant []).long)

pub loop-more-smaller : goal.loop-more-smaller
loop-more-smaller c = let d = came c.in_ok-next.ensures refl in let h = condition_room (c.loop-more.invariant []) c.loop-more-test.true c.skip_blanks.ensures (c.in_ok-q.ensures []) refl in omega (arith, d.on, d.place.inside)

pub loop-more-preserved : goal.loop-more-preserved
loop-more-preserved c = λ slots. filling_again (c.loop-more.invariant slots) c.loop-more-test.true c.skip_blanks.ensures (c.in_ok-q.ensures slots) refl c.in_ok-next.ensures c.width_number.ensures c.operator_number.ensures (omega (arith, c.requires.1, (c.loop-more.invariant []).long)) c.write_condition.ensures refl

pub returns : goal.returns
returns c = (λ slots. gathered (still c.loop-more-test.false (c.loop-more.invariant slots).turning) (c.loop-more.invariant slots).put, (c.loop-more.invariant []).long)
