-- `read_filters` meets its contract: the object, and nothing but blanks around it.
use mathlib.Core.Path.{refl}
use native.Mathlib.Omega.{arith}
use Rattle.json_scan.proofs.Telling.{told_inside, refused}
use Rattle.json_lines.proofs.Steps.{handed}
use Rattle.json_texts.proofs.Whole as laws
use Rattle.json_texts.proofs.read_filters.Goals as goal

pub filters_there-requires : goal.filters_there-requires
filters_there-requires c = (c.skip_blanks-start.ensures.inside, c.requires.0, c.requires.1)

pub returns-in_err-read : goal.returns-in_err-read
returns-in_err-read c = (handed _ _ c.from_residual.ensures.1 (laws.text_stops _ c.skip_blanks-start.ensures c.in_err-read.ensures.0 (refused _)), c.in_err-read.ensures.1)

pub skip_blanks-past-requires : goal.skip_blanks-past-requires
skip_blanks-past-requires c = told_inside c.in_ok-read.ensures.0

pub returns-then-past-text : goal.returns-then-past-text
returns-then-past-text c = (laws.text_goes_on _ c.skip_blanks-start.ensures c.in_ok-read.ensures.0 refl c.skip_blanks-past.result c.skip_blanks-past.ensures (omega arith), c.in_ok-read.ensures.1)

pub returns : goal.returns
returns c = (laws.text_ends _ c.skip_blanks-start.ensures c.in_ok-read.ensures.0 refl c.skip_blanks-past.result c.skip_blanks-past.ensures (omega arith) (λ fs m n. record { written = m.written; few = m.few; less = omega (arith, m.less) }), c.in_ok-read.ensures.1)
