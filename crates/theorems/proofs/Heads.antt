-- The head that both forms of output begin with: code behind it is run for the calls of the set's own architecture that no guard kills, with
-- the call's number loaded; where nothing is listed and nothing is guarded, nothing is loaded.
use mathlib.Core.Path.{◌≡◌, refl, ◌∙◌}
use mathlib.Core.Bool.{Bool, true, false, cond, not, ◌&&◌}
use mathlib.Core.List.{List, ◌++◌}
use Prim.Native.Nat.{ℕ, zero, suc, ◌≤◌}
use native.Mathlib.Omega.{arith}
use lib.Dec.{eqb}
use lib.Bits.{bit_and}
use lib.ListN.{length}
use Rattle.definitions.specs.declared.Instruction.{Instruction}
use Rattle.definitions.specs.Machine.{Call, State, Result, returns, run, runs, start, set_a}
use Rattle.definitions.specs.RuleSet.{Architecture, architecture_word, RuleSet, second_table, cancelled, in_second_table, guarded, kill_process, listed, meaning}
use Rattle.definitions.specs.Emitted.{guard, number_code, head_code, headed}
use Rattle.theorems.specs.Length.{head_length}
use Rattle.theorems.proofs.Steps.{run_load, run_return, run_equal, run_any_bit, skip1, skip2, fetch_number, fetch_architecture}

module _ (p : List Instruction) (c : Call) (z : Result) where
  -- the state with the call's number loaded, and with its architecture
  abbrev pub numbered : State
  numbered = set_a c.number start

  abbrev pub named : State
  named = set_a c.architecture start

  guard_right : run 0 p numbered c ≡ z → run 0 (guard ++ p) numbered c ≡ cond (in_second_table c.number) (returns kill_process) z
  unfolding in_second_table
  guard_right h =
      rw (run_any_bit, skip2, run_equal, skip1, run_return, h) (go (not (eqb (bit_and c.number second_table) 0)) (eqb c.number cancelled))
    where
      go : (bit last : Bool) → cond bit (cond last z (returns kill_process)) z ≡ cond (bit && not last) (returns kill_process) z
      go true true = refl
      go true false = refl
      go false last = refl

  number_right : (guards : Bool) (n : ℕ) → run 0 p numbered c ≡ z → (n ≡ 0 → run 0 p named c ≡ z)
      → run 0 (number_code guards n ++ p) named c ≡ cond (guards && in_second_table c.number) (returns kill_process) z
  unfolding number_code
  number_right true n h k = run_load _ named c 0 (fetch_number c) ∙ guard_right h
  number_right false zero h k = k refl
  number_right false (suc n) h k = run_load _ named c 0 (fetch_number c) ∙ h

  head_right : (a : Architecture) (guards : Bool) (n : ℕ) → run 0 p numbered c ≡ z → (n ≡ 0 → run 0 p named c ≡ z)
      → runs (head_code a guards n ++ p) c
      ≡ cond (eqb c.architecture (architecture_word a)) (cond (guards && in_second_table c.number) (returns kill_process) z) (returns kill_process)
  unfolding head_code
  head_right a guards n h k = run_load _ start c 4 (fetch_architecture c) ∙ rw (run_equal, skip1, run_return, number_right guards n h k)

pub cond_returns : (b : Bool) (m d : ℕ) → cond b (returns m) (returns d) ≡ returns (cond b m d)
cond_returns true m d = refl
cond_returns false m d = refl

-- code that returns what the entries say, behind the head, returns what the set means
pub headed_right : (rs : RuleSet) (p : List Instruction) (c : Call)
    → run 0 p (set_a c.number start) c ≡ returns (listed c rs.on_match rs.mismatch rs.entries)
    → (length rs.entries ≡ 0 → run 0 p (set_a c.architecture start) c ≡ returns (listed c rs.on_match rs.mismatch rs.entries))
    → runs (headed rs p) c ≡ returns (meaning rs c)
unfolding meaning
headed_right rs p c h k = head_right p c _ rs.architecture (guarded rs) (length rs.entries) h k ∙ simp cond_returns

-- ---- how long it is

pub length_head : (a : Architecture) (guards : Bool) (n : ℕ) → length (head_code a guards n) ≡ head_length guards n
unfolding head_code number_code head_length
length_head a true n = refl
length_head a false zero = refl
length_head a false (suc n) = refl

pub head_few : (guards : Bool) (n : ℕ) → head_length guards n ≤ 7
unfolding head_length
head_few true n = omega arith
head_few false zero = omega arith
head_few false (suc n) = omega arith
