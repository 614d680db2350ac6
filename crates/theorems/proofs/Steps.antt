-- One instruction at a time: what `run` does at each instruction that is emitted. Everything about meaning rests on these equations.
use mathlib.Core.Path.{◌≡◌, refl}
use mathlib.Core.Bool.{Bool, true, false, cond, not}
use mathlib.Core.List.{List, ◌∷◌}
use mathlib.Core.Option.{some}
use Prim.Native.Nat.{ℕ, zero, suc, ◌+◌, ◌≤◌}
use native.Mathlib.Omega.{arith}
use native.Mathlib.Numerals.{add-one, add-two, add-three}
use lib.Dec.{eqb, leb, ltb}
use lib.Bits.{bit_and}
use Rattle.definitions.specs.declared.Instruction.{Instruction}
use Rattle.definitions.specs.Word.{low, high}
use Rattle.definitions.specs.Machine.{Call, State, returns, set_a, words, fetch, codes, kind_in, kind_of, into_a, compute, test_holds, step_as, step, run}
use Rattle.definitions.specs.RuleSet.{argument}
use Rattle.definitions.specs.Emitted.{load, mask_by, jump_by, if_equal, if_greater, if_at_least, if_any_bit, return, low_at, high_at}

-- the two words of an argument
pub fetch_low : (i : ℕ) → i ≤ 5 → (c : Call) → fetch c (low_at i) ≡ some (low (argument i c))
unfolding fetch words
fetch_low zero h c = refl
fetch_low (suc zero) h c = refl
fetch_low (suc (suc zero)) h c = refl
fetch_low (suc (suc (suc zero))) h c = refl
fetch_low (suc (suc (suc (suc zero)))) h c = refl
fetch_low (suc (suc (suc (suc (suc zero))))) h c = refl
fetch_low (suc (suc (suc (suc (suc (suc i)))))) h c = absurd (omega arith)

pub fetch_high : (i : ℕ) → i ≤ 5 → (c : Call) → fetch c (high_at i) ≡ some (high (argument i c))
unfolding fetch words
fetch_high zero h c = refl
fetch_high (suc zero) h c = refl
fetch_high (suc (suc zero)) h c = refl
fetch_high (suc (suc (suc zero))) h c = refl
fetch_high (suc (suc (suc (suc zero)))) h c = refl
fetch_high (suc (suc (suc (suc (suc zero))))) h c = refl
fetch_high (suc (suc (suc (suc (suc (suc i)))))) h c = absurd (omega arith)

pub fetch_number : (c : Call) → fetch c 0 ≡ some c.number
unfolding fetch words
fetch_number c = refl

pub fetch_architecture : (c : Call) → fetch c 4 ≡ some c.architecture
unfolding fetch words
fetch_architecture c = refl

module _ (p : List Instruction) (s : State) (c : Call) where
  pub run_load : (k : ℕ) {w : ℕ} → fetch c k ≡ some w → run 0 (load k ∷ p) s c ≡ run 0 p (set_a w s) c
  unfolding run step step_as kind_of kind_in codes into_a compute
  run_load k e = rw (e, run, into_a)

  pub run_low : (i : ℕ) → i ≤ 5 → run 0 (load (low_at i) ∷ p) s c ≡ run 0 p (set_a (low (argument i c)) s) c
  run_low i h = run_load (low_at i) (fetch_low i h c)

  pub run_high : (i : ℕ) → i ≤ 5 → run 0 (load (high_at i) ∷ p) s c ≡ run 0 p (set_a (high (argument i c)) s) c
  run_high i h = run_load (high_at i) (fetch_high i h c)

  pub run_mask : (k : ℕ) → run 0 (mask_by k ∷ p) s c ≡ run 0 p (set_a (bit_and s.A k) s) c
  unfolding run step step_as kind_of kind_in codes into_a compute
  run_mask k = refl

  pub run_jump : (k : ℕ) → run 0 (jump_by k ∷ p) s c ≡ run k p s c
  unfolding run step step_as kind_of kind_in codes test_holds
  run_jump k = refl

  pub run_return : (k : ℕ) → run 0 (return k ∷ p) s c ≡ returns k
  unfolding run step step_as kind_of kind_in codes test_holds
  run_return k = refl

  pub run_suc : (i : Instruction) (n : ℕ) → run (suc n) (i ∷ p) s c ≡ run n p s c
  unfolding run
  run_suc i n = refl

  -- a jump over one, two or three instructions, and further
  pub skip1 : (i : Instruction) → run 1 (i ∷ p) s c ≡ run 0 p s c
  unfolding run
  skip1 i = refl

  pub skip2 : (i j : Instruction) → run 2 (i ∷ j ∷ p) s c ≡ run 0 p s c
  unfolding run
  skip2 i j = refl

  pub skip3 : (i j k : Instruction) → run 3 (i ∷ j ∷ k ∷ p) s c ≡ run 0 p s c
  unfolding run
  skip3 i j k = refl

  pub skip_one : (i : Instruction) (n : ℕ) → run (n + 1) (i ∷ p) s c ≡ run n p s c
  unfolding run
  skip_one i n = rw add-one

  pub skip_two : (i j : Instruction) (n : ℕ) → run (n + 2) (i ∷ j ∷ p) s c ≡ run n p s c
  unfolding run
  skip_two i j n = rw add-two

  pub skip_three : (i j k : Instruction) (n : ℕ) → run (n + 3) (i ∷ j ∷ k ∷ p) s c ≡ run n p s c
  unfolding run
  skip_three i j k n = rw add-three

  pub branch : (b : Bool) (t f : ℕ) → run (cond b t f) p s c ≡ cond b (run t p s c) (run f p s c)
  branch true t f = refl
  branch false t f = refl

  pub run_equal : (k t f : ℕ) → run 0 (if_equal k t f ∷ p) s c ≡ cond (eqb s.A k) (run t p s c) (run f p s c)
  unfolding run step step_as kind_of kind_in codes test_holds
  run_equal k t f = branch (eqb s.A k) t f

  pub run_greater : (k t f : ℕ) → run 0 (if_greater k t f ∷ p) s c ≡ cond (ltb k s.A) (run t p s c) (run f p s c)
  unfolding run step step_as kind_of kind_in codes test_holds
  run_greater k t f = branch (ltb k s.A) t f

  pub run_any_bit : (k t f : ℕ) → run 0 (if_any_bit k t f ∷ p) s c ≡ cond (not (eqb (bit_and s.A k) 0)) (run t p s c) (run f p s c)
  unfolding run step step_as kind_of kind_in codes test_holds
  run_any_bit k t f = branch (not (eqb (bit_and s.A k) 0)) t f

  pub run_at_least : (k t f : ℕ) → run 0 (if_at_least k t f ∷ p) s c ≡ cond (leb k s.A) (run t p s c) (run f p s c)
  unfolding run step step_as kind_of kind_in codes test_holds
  run_at_least k t f = branch (leb k s.A) t f
