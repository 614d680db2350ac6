-- `bodies_length` meets its contract. The loop's invariant: what is counted, and what is left, is all; and no entry has more
-- instructions here than bytes.
use mathlib.Core.Path.{◌≡◌}
use Prim.Native.Nat.{◌+◌, ◌-◌, ◌≤◌}
use lib.ListN.{length}
use Rattle.set_view.specs.Parts.{entries_past}
use Rattle.search_bodies.specs.Here.{bodies_here}
use Rattle.search_bodies.proofs.bodies_length.Given as goal

abbrev pub invariant-loop : goal.invariant-loop
invariant-loop l =
    (l.count + length (bodies_here l.s (l.n - l.counter) l.past) ≡ length (bodies_here l.s l.n l.from) + 1)
    × (entries_past l.s (l.n - l.counter) l.past ≡ entries_past l.s l.n l.from) × (l.count ≤ l.past + 1)
