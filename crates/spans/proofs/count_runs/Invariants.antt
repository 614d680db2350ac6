-- `count_runs` meets its contract. The loop's invariant: the runs counted and those from here on are all.
use mathlib.Core.Path.{◌≡◌}
use Prim.Native.Nat.{◌+◌, ◌≤◌}
use lib.ListN.{length}
use Rattle.spans.specs.Spans.{spans_from, Stands}
use Rattle.spans.proofs.count_runs.Given as goal

abbrev pub invariant-loop-here : goal.invariant-loop-here
invariant-loop-here l =
    Stands l.s l.here × (l.count + length (spans_from l.s l.here) ≡ length (spans_from l.s l.initial.here)) × (l.count + l.here.left ≤ l.initial.here.left)

abbrev pub decreases-loop-here : goal.decreases-loop-here
decreases-loop-here l = l.here.left
