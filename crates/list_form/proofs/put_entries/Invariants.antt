-- `put_entries` meets its contract. The loop's invariant: what is left, written here, is the whole, written there; and both are read
-- from bytes that end at one place.
use mathlib.Core.Path.{◌≡◌}
use Rattle.definitions.specs.Emitted.{entries_code}
use Rattle.bpf.specs.Place.{Writing}
use Rattle.set_view.specs.Parts.{entries_here, entries_past}
use Rattle.list_form.proofs.put_entries.Given as goal

abbrev pub invariant-loop-left : goal.invariant-loop-left
invariant-loop-left l =
    Writing l.initial.out l.at (entries_code l.actions.on_match l.actions.mismatch (entries_here l.s l.n l.from)) l.out l.end (entries_code l.actions.on_match l.actions.mismatch (entries_here l.s l.left l.past))
    × (entries_past l.s l.left l.past ≡ entries_past l.s l.n l.from)

abbrev pub decreases-loop-left : goal.decreases-loop-left
decreases-loop-left l = l.left
