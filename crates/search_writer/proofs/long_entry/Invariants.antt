-- `long_entry` meets its contract. The loop's invariant: what is left of the halving, from here on, is the whole.
use mathlib.Core.Path.{◌≡◌}
use mathlib.Core.Bool.{Bool}
use mathlib.Core.List.{List}
use lib.ListN.{take}
use Prim.Native.Nat.{ℕ, ◌+◌, ◌-◌, ◌^◌, ◌≤◌}
use Rattle.definitions.specs.Answer.{short_with, halved, turns_long, search_size}
use Rattle.set_view.specs.Parts.{set_here}
use Rattle.search_writer.proofs.long_entry.Given as goal

abbrev pub short_by : List ℕ → ℕ → Bool
short_by s n = short_with search_size (set_here s) (take n (set_here s).entries)

abbrev pub invariant-loop : goal.invariant-loop
invariant-loop l =
    (l.width ≡ 2 ^ (17 - l.counter)) × (l.short + l.width ≤ 131072) × (halved (short_by l.s) (17 - l.counter) l.short ≡ turns_long search_size (set_here l.s))
