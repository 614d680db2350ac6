-- `run_all` meets its contract. The loop's invariant: the outcomes so far stand in the buffer, and what is behind them is as it was.
use mathlib.Core.Path.{◌≡◌}
use Prim.Native.Nat.{ℕ, ◌*◌, ◌<◌}
use lib.ListN.{drop}
use Rattle.definitions.specs.Outcome.{outcome_of, call_in, outcome_in}
use Rattle.machine.proofs.run_all.Given as goal

abbrev pub invariant-loop-i : goal.invariant-loop-i
invariant-loop-i l = record {
  told : (j : ℕ) → j < l.i → outcome_in l.out j ≡ outcome_of l.fn.filter (call_in l.fn.calls j);
  kept : drop (8 * l.i) l.out ≡ drop (8 * l.i) l.initial.out;
}
