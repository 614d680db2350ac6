-- `put_plain` meets its contract. The loop's invariant: what is left, written here, is the whole, written there; and both are read
-- from bytes that end at one place.
use mathlib.Core.Path.{◌≡◌}
use Prim.Native.Nat.{◌+◌, ◌-◌, ◌*◌, ◌≤◌}
use Rattle.definitions.specs.Emitted.{entries_code}
use Rattle.bpf.specs.Place.{Writing}
use Rattle.set_view.specs.Parts.{entries_here, entries_past}
use Rattle.list_form.proofs.put_plain.Given as goal

abbrev pub invariant-loop-actions : goal.invariant-loop-actions
invariant-loop-actions l =
    Writing l.initial.out l.at (entries_code l.actions.on_match l.actions.mismatch (entries_here l.s l.n l.from)) l.out l.end (entries_code l.actions.on_match l.actions.mismatch (entries_here l.s (l.n - l.run) l.past))
    × (entries_past l.s (l.n - l.run) l.past ≡ entries_past l.s l.n l.from) × (l.past ≡ l.from + 8 * l.run) × (l.end ≡ l.at + 40 * l.run) × (l.run ≤ l.n)

abbrev pub decreases-loop-actions : goal.decreases-loop-actions
decreases-loop-actions l = l.n - l.run
