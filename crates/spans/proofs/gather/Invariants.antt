-- `gather` meets its contract. The loop's invariant: the numbers so far, with those that follow them, are the run; and nothing but
-- numbers without rules was passed.
use mathlib.Core.Path.{◌≡◌}
use Prim.Native.Nat.{◌≤◌}
use lib.ListN.{length}
use Rattle.definitions.specs.SearchForm.{plain_spans}
use Rattle.search_bodies.specs.Here.{bodies_here}
use Rattle.set_view.specs.Parts.{entries_past}
use Rattle.spans.specs.Spans.{spans_here, spans_from}
use Rattle.spans.proofs.Reading.{gathered}
use Rattle.spans.proofs.gather.Given as goal

abbrev pub invariant-loop-last : goal.invariant-loop-last
invariant-loop-last l =
    (gathered l.first l.last (spans_here l.s l.left l.at) ≡ plain_spans l.first (spans_from l.s l.c))
    × (entries_past l.s l.left l.at ≡ entries_past l.s l.c.left l.c.at)
    × (length (bodies_here l.s l.left l.at) ≡ l.c.place) × (l.left ≤ l.c.left)

abbrev pub decreases-loop-last : goal.decreases-loop-last
decreases-loop-last l = l.left
