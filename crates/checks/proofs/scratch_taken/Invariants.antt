-- `scratch_taken` meets its contract. The loop's invariant: what is left, passed from here with the masks so far, is the whole.
use mathlib.Core.Path.{◌≡◌}
use Prim.Native.Nat.{◌-◌, ◌*◌}
use mathlib.Core.Bool.{true}
use Rattle.definitions.specs.Machine.{instructions_at, filter_of}
use Rattle.definitions.specs.Kernel.{each_taken, no_word, every_word, scratch_taken}
use Rattle.checks.specs.Scratch.{words_of, ahead_of}
use Rattle.checks.proofs.scratch_taken.Given as goal

abbrev pub invariant-loop-place : goal.invariant-loop-place
invariant-loop-place l = record {
  taken : each_taken l.place l.n (instructions_at l.filter (l.n - l.place) (l.place * 8)) ≡ true;
  passed : scratch_taken no_word (λ d. every_word) (filter_of l.filter) ≡ scratch_taken (words_of l.written) (ahead_of l.ahead l.place) (instructions_at l.filter (l.n - l.place) (l.place * 8));
}
