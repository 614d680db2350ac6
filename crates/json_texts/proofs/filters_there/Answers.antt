-- `filters_there` meets its contract: the brace, and then its end or the turns.
use mathlib.Core.Path.{refl, sym, ◌∙◌}
use native.Mathlib.Omega.{arith}
use Rattle.json_scan.proofs.Telling.{came, told_inside, refused}
use Rattle.json_lines.proofs.Steps.{handed}
use Rattle.json_texts.proofs.Whole as laws
use Rattle.json_texts.proofs.filters_there.Goals as goal

pub returns-in_err-open : goal.returns-in_err-open
returns-in_err-open c = (handed _ _ c.from_residual.ensures.1 (laws.open_stops _ c.in_err-open.ensures (refused _)), refl)

pub skip_blanks-next-requires : goal.skip_blanks-next-requires
skip_blanks-next-requires c = told_inside c.in_ok-open.ensures

pub returns-then-byte-eq125 : goal.returns-then-byte-eq125
returns-then-byte-eq125 c = (laws.empty_object _ c.in_ok-open.ensures refl c.skip_blanks-next.result c.skip_blanks-next.ensures c.args.scratch.now (sym c.byte.ensures ∙ c.if-byte-eq125.true) c.requires.2, refl)

pub filters_from-requires : goal.filters_from-requires
filters_from-requires c = (told_inside c.in_ok-open.ensures, let o = came c.in_ok-open.ensures refl in omega (arith, o.on), c.requires.1, c.requires.2)

pub returns : goal.returns
returns c = (laws.filled_object _ c.in_ok-open.ensures refl c.skip_blanks-next.result c.skip_blanks-next.ensures (λ e. c.if-byte-eq125.false (c.byte.ensures ∙ e)) c.filters_from.ensures.0, c.filters_from.ensures.1)
