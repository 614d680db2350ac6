-- `put_bodies` meets its contract. The loop's invariant: what is left, written here, is the whole, written there; and both are read
-- from bytes that end at one place.
use mathlib.Core.Path.{◌≡◌}
use Prim.Native.Nat.{◌-◌}
use Rattle.bpf.specs.Place.{Writing}
use Rattle.definitions.specs.SearchForm.{bodies}
use Rattle.set_view.specs.Parts.{entries_here, entries_past}
use Rattle.search_bodies.proofs.put_bodies.Given as goal

abbrev pub invariant-loop : goal.invariant-loop
invariant-loop l =
    Writing l.initial.out l.at (bodies l.actions.on_match l.actions.mismatch (entries_here l.s l.n l.from)) l.out l.end (bodies l.actions.on_match l.actions.mismatch (entries_here l.s (l.n - l.counter) l.past))
    × (entries_past l.s (l.n - l.counter) l.past ≡ entries_past l.s l.n l.from)
