-- `follow` meets its contract. The loop's invariant: what is left, followed from here with the count so far, is the whole.
use mathlib.Core.Path.{◌≡◌}
use Prim.Native.Nat.{◌-◌, ◌*◌, ◌≤◌}
use Rattle.definitions.specs.Machine.{instructions_at, filter_of, call_of, runs, steps}
use Rattle.definitions.specs.Outcome.{ended}
use Rattle.machine.specs.Run.{state_of}
use Rattle.machine.proofs.Steps.{followed}
use Rattle.machine.proofs.follow.Given as goal

abbrev pub invariant-loop-place : goal.invariant-loop-place
invariant-loop-place l = (l.count ≤ l.place) × (ended (runs (filter_of l.filter) (call_of l.call)) (steps (filter_of l.filter) (call_of l.call)) ≡ followed l.count 0 (instructions_at l.filter (l.n - l.place) (l.place * 8)) (state_of l.state) (call_of l.call))

abbrev pub decreases-loop-place : goal.decreases-loop-place
decreases-loop-place l = l.n - l.place
