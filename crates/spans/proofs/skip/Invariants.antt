-- `skip` meets its contract. The loop's invariant: what is left to be passed leads from here to where the whole leads.
use mathlib.Core.Path.{◌≡◌}
use Prim.Native.Nat.{◌-◌, ◌≤◌}
use lib.ListN.{length, drop}
use Rattle.spans.specs.Spans.{spans_from, Stands}
use Rattle.spans.proofs.skip.Given as goal

abbrev pub invariant-loop : goal.invariant-loop
invariant-loop l =
    Stands l.s l.here × ((l.n - l.counter) ≤ length (spans_from l.s l.here)) × (drop (l.n - l.counter) (spans_from l.s l.here) ≡ drop l.n (spans_from l.s l.initial.here)) × (l.here.place ≤ l.initial.here.place)
