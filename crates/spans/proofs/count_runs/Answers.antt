-- `count_runs` meets its contract. The loop's invariant: the runs counted and those from here on are all.
use mathlib.Core.Path.{ap}
use mathlib.Core.List.{List}
use native.Mathlib.Omega.{arith}
use lib.ListN.{length}
use Rattle.definitions.specs.SearchForm.{Span}
use Rattle.spans.proofs.Reading.{spans_none}
use Rattle.spans.proofs.count_runs.Goals as goal

pub returns : goal.returns
returns c =
    let n = ap (λ (l : List Span). length l) (spans_none c.args.s.now c.loop-here.here.left c.loop-here.here.at c.loop-here-test.false) in
    (omega (arith, n, c.loop-here.invariant.1), omega (arith, c.loop-here.invariant.2))
