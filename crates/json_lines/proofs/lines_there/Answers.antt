-- `lines_there` meets its contract: a turn of the loop reads a line and writes its entry behind the ones before.
use mathlib.Core.Path.{refl, ◌∙◌}
use native.Mathlib.Omega.{arith}
use lib.ListN.{drop}
use Rattle.definitions.specs.FormReader.{line_there, judges_of}
use Rattle.json_scan.proofs.Telling.{came, refused}
use Rattle.json_lines.proofs.Steps.{handed, begin_stopped, blanks_on, still, gathered, list_begin}
use Rattle.json_lines.proofs.Calls.{slots_of}
use Rattle.json_lines.proofs.Entries.{listing_start, entry_stopped, entry_behind, entry_on, listing_again}
use Rattle.json_lines.proofs.lines_there.Goals as goal

pub returns-in_err-begun : goal.returns-in_err-begun
returns-in_err-begun c = (handed _ _ c.from_residual.ensures.1 (begin_stopped (list_begin (line_there (judges_of (slots_of c.args.table.now))) (drop c.args.from c.args.text.now)) c.in_err-begun.ensures.0 (refused _)), refl)

pub loop-more-init : goal.loop-more-init
loop-more-init c = listing_start (slots_of c.args.table.now) c.args.raw.now c.in_ok-begun.ensures.0 refl

pub skip_blanks-requires : goal.skip_blanks-requires
skip_blanks-requires c = c.loop-more.invariant.turning.inside

pub line_there-requires : goal.line_there-requires
line_there-requires c = (c.skip_blanks.ensures.inside, c.requires.1, omega (arith, c.requires.2, c.loop-more.invariant.long), omega (arith, c.loop-more.invariant.room, blanks_on _ _ _ c.loop-more.invariant.turning.inside c.skip_blanks.ensures))

pub returns-in_err-line : goal.returns-in_err-line
returns-in_err-line c = (handed _ _ c.from_residual-in_err-line.ensures.1 (entry_stopped c.loop-more.invariant c.loop-more-test.true c.skip_blanks.ensures c.in_err-line.ensures.0 (refused _)), c.in_err-line.ensures.1 ∙ c.loop-more.invariant.long)

pub more_there-requires : goal.more_there-requires
more_there-requires c = ((came c.in_ok-line.ensures.0 refl).place.inside, omega arith)

pub returns-in_err-next : goal.returns-in_err-next
returns-in_err-next c = (handed _ _ c.from_residual-in_err-next.ensures.1 (entry_behind c.loop-more.invariant c.loop-more-test.true c.skip_blanks.ensures c.in_ok-line.ensures.0 refl c.in_err-next.ensures (refused _)), c.in_ok-line.ensures.1 ∙ c.loop-more.invariant.long)

pub overflow_add-count : goal.overflow_add-count
overflow_add-count c = record { fits = omega (arith, c.loop-more.invariant.few, c.loop-more.invariant.turning.inside) }

pub loop-more-smaller : goal.loop-more-smaller
loop-more-smaller c = let h = entry_on c.loop-more.invariant c.loop-more-test.true c.skip_blanks.ensures c.in_ok-line.ensures.0 refl c.in_ok-next.ensures refl in omega arith

pub loop-more-preserved : goal.loop-more-preserved
loop-more-preserved c = listing_again c.loop-more.invariant c.loop-more-test.true c.skip_blanks.ensures c.in_ok-line.ensures.0 refl c.in_ok-next.ensures c.in_ok-line.ensures.1 refl

pub returns : goal.returns
returns c = (gathered (still c.loop-more-test.false c.loop-more.invariant.turning) (record { entries = c.loop-more.invariant.entries; made = c.loop-more.invariant.made; written = c.loop-more.invariant.written; end = c.loop-more.invariant.size; count = c.loop-more.invariant.counted }), c.loop-more.invariant.long)
