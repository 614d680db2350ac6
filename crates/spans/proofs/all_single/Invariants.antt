-- `all_single` meets its contract. The loop's invariant: the runs are all single if those from here on are.
use mathlib.Core.Path.{◌≡◌}
use Prim.Native.Nat.{◌-◌, ◌≤◌}
use lib.ListN.{length, take}
use Rattle.definitions.specs.SearchForm.{singles}
use Rattle.spans.specs.Spans.{spans_from, Stands}
use Rattle.spans.proofs.all_single.Given as goal

abbrev pub invariant-loop : goal.invariant-loop
invariant-loop l =
    Stands l.s l.here × ((l.n - l.counter) ≤ length (spans_from l.s l.here)) × (singles (take (l.n - l.counter) (spans_from l.s l.here)) ≡ singles (take l.n (spans_from l.s l.initial.here)))
