-- `is_few` meets its contract: one run, or as many single numbers as a chain may have.
use borrow.Author.Tests.{le-leb, lt-leb}
use lib.Seq.{length-take-le}
use Rattle.definitions.specs.SearchForm.{few}
use Rattle.spans.specs.Spans.{spans_from}
use Rattle.spans.proofs.is_few.Goals as goal

pub returns-then-n-le1 : goal.returns-then-n-le1
unfolding few
returns-then-n-le1 c =
    let a = c.args in
    rw (length-take-le a.n (spans_from a.s.now a.c) c.requires.1, le-leb _ _ c.if-n-le1.true)

pub returns-then-n-le-CHAIN_SPANS : goal.returns-then-n-le-CHAIN_SPANS
unfolding few
returns-then-n-le-CHAIN_SPANS c =
    let a = c.args in
    rw (length-take-le a.n (spans_from a.s.now a.c) c.requires.1, lt-leb _ _ c.if-n-le1.false, le-leb _ _ c.if-n-le-CHAIN_SPANS.true) c.all_single.ensures

pub returns-else-n-le-CHAIN_SPANS : goal.returns-else-n-le-CHAIN_SPANS
unfolding few
returns-else-n-le-CHAIN_SPANS c =
    let a = c.args in
    rw (length-take-le a.n (spans_from a.s.now a.c) c.requires.1, lt-leb _ _ c.if-n-le1.false, lt-leb _ _ c.if-n-le-CHAIN_SPANS.false)
