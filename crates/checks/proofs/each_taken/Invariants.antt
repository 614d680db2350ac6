-- `each_taken` meets its contract. The loop's invariant: what is left, checked from here, is the whole.
use mathlib.Core.Path.{◌≡◌}
use Prim.Native.Nat.{◌-◌, ◌*◌}
use Rattle.definitions.specs.Machine.{instructions_at, filter_of}
use Rattle.definitions.specs.Kernel.{each_taken}
use Rattle.checks.proofs.each_taken.Given as goal

abbrev pub invariant-loop-place : goal.invariant-loop-place
invariant-loop-place l = each_taken 0 l.n (filter_of l.filter) ≡ each_taken l.place l.n (instructions_at l.filter (l.n - l.place) (l.place * 8))
