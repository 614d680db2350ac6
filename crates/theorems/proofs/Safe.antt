-- SAFE: a filter that the kernel takes is never stuck; every run of it returns an action.
use mathlib.Core.Path.{◌≡◌, refl}
use mathlib.Core.Bool.{Bool, true, false, cond}
use mathlib.Core.List.{List, [], ◌∷◌}
use mathlib.Core.Option.{Option, none, some}
use Prim.Native.Nat.{ℕ, zero, suc, ◌+◌, ◌<◌}
use native.Mathlib.Omega.{arith}
use lib.Dec.{leb, ltb}
use lib.ListN.{length}
use borrow.Author.Tests.{ltb-true, leb-true}
use Rattle.definitions.specs.declared.Instruction.{Instruction}
use Rattle.definitions.specs.Machine.{Call, State, returns, Step, stop, next}
use Rattle.definitions.specs.Machine.{Kind, ld_abs, ld_len, ld_imm, ld_mem, ldx_len, ldx_imm, ldx_mem, st, stx, tax, txa, neg, ja, ret_k, ret_a, unknown, alu, jump}
use Rattle.definitions.specs.Machine.{fetch, kind_of, into_a, compute, test_holds, operand, step_as, step, run, start}
use Rattle.definitions.specs.Kernel.{taken_as, each_taken, effect_as, effect_of, is_return, ends_in_return, scratch_taken, no_word, every_word, accepts}
use Rattle.theorems.specs.Statements.{Safe}
use Rattle.theorems.proofs.Tests.{both_true}

-- a step, at place `at` of n instructions, that ends with an action or goes to a place that there is
data Sound (at n : ℕ) (k : Kind) (i : Instruction) : Step → Type 0 where
  ends : (a : ℕ) → Sound at n k i (stop (returns a))
  goes : (d : ℕ) (t : State) → at + 1 + d < n → Sound at n k i (next d t)
  falls : (t : State) → is_return (effect_as k i) ≡ false → Sound at n k i (next 0 t)

module _ (i : Instruction) (at n : ℕ) (s : State) (c : Call) where
  step_sound : (k : Kind) → taken_as k i at n ≡ true → Sound at n k i (step_as k i s c)
  unfolding step_as taken_as effect_as is_return into_a fetch
  step_sound ld_abs h = rw (h, into_a) (falls _ refl)
  step_sound ld_len h = falls _ refl
  step_sound ld_imm h = falls _ refl
  step_sound ld_mem h = falls _ refl
  step_sound ldx_len h = falls _ refl
  step_sound ldx_imm h = falls _ refl
  step_sound ldx_mem h = falls _ refl
  step_sound st h = falls _ refl
  step_sound stx h = falls _ refl
  step_sound tax h = falls _ refl
  step_sound txa h = falls _ refl
  step_sound neg h = falls _ refl
  step_sound ja h = goes i.k s (ltb-true _ _ h)
  step_sound ret_k h = ends i.k
  step_sound ret_a h = ends s.A
  step_sound unknown h = absurd (let z : ◌≡◌ {A = ℕ} 0 1 = cc in omega arith)
  step_sound (alu o x) h = go (compute o s.A (operand x i s))
    where
      go : (w : Option ℕ) → Sound at n (alu o x) i (into_a (returns 0) w s)
      go none = ends 0
      go (some w) = falls _ refl
  step_sound (jump t x) h = go (test_holds t s.A (operand x i s)) (both_true _ _ h)
    where
      go : (b : Bool) → (ltb (at + 1 + i.jt) n ≡ true) × (ltb (at + 1 + i.jf) n ≡ true)
          → Sound at n (jump t x) i (next (cond b i.jt i.jf) s)
      go true w = goes i.jt s (ltb-true _ _ w.0)
      go false w = goes i.jf s (ltb-true _ _ w.1)

-- from d instructions into p a run returns
abbrev Returns : ℕ → List Instruction → State → Call → Type 0
Returns d p s c = (a : ℕ) × (run d p s c ≡ returns a)

behind : (i : Instruction) (p : List Instruction) → ends_in_return (i ∷ p) ≡ true → 0 < length p → ends_in_return p ≡ true
unfolding ends_in_return
behind i [] e l = absurd (omega arith)
behind i (j ∷ p) e l = e

-- an instruction that falls through is not the last
not_last : (i : Instruction) (p : List Instruction) → ends_in_return (i ∷ p) ≡ true → is_return (effect_of i) ≡ false → 0 < length p
unfolding ends_in_return
not_last i [] e f = absurd (let z : ◌≡◌ {A = ℕ} 0 1 = cc in omega arith)
not_last i (j ∷ p) e f = omega arith

onward : (i : Instruction) (at n : ℕ) (p : List Instruction) (c : Call) {x : Step} → n ≡ at + length (i ∷ p) → ends_in_return (i ∷ p) ≡ true
    → Sound at n (kind_of i.code) i x → ((d : ℕ) (u : State) → d < length p → Returns d p u c)
    → (a : ℕ) × (elim x [ stop r ↦ r | next d t ↦ run d p t c ] ≡ returns a)
unfolding effect_of
onward i at n p c e r (ends a) again = (a, refl)
onward i at n p c e r (goes d t l) again = again d t (omega arith)
onward i at n p c e r (falls t f) again = again 0 t (not_last i p r f)

run_returns : (at n : ℕ) (p : List Instruction) → n ≡ at + length p → each_taken at n p ≡ true → ends_in_return p ≡ true
    → (d : ℕ) (s : State) (c : Call) → d < length p → Returns d p s c
unfolding each_taken run step
run_returns at n [] e t r d s c h = absurd (omega arith)
run_returns at n (i ∷ p) e t r zero s c h =
    let w = both_true (taken_as (kind_of i.code) i at n) (each_taken (at + 1) n p) t in
    onward i at n p c e r (step_sound i at n s c (kind_of i.code) w.0)
    (λ d u q. run_returns (at + 1) n p (omega arith) w.1 (behind i p r (omega arith)) d u c q)
run_returns at n (i ∷ p) e t r (suc d) s c h =
    let w = both_true (taken_as (kind_of i.code) i at n) (each_taken (at + 1) n p) t in
    run_returns (at + 1) n p (omega arith) w.1 (behind i p r (omega arith)) d s c (omega arith)

pub safe : Safe
unfolding accepts
safe p h c =
    let scratch = both_true _ (scratch_taken no_word (λ d. every_word) p) h in
    let last = both_true _ (ends_in_return p) scratch.0 in
    let each = both_true _ (each_taken 0 (length p) p) last.0 in
    let some_there = both_true (leb 1 (length p)) _ each.0 in
    run_returns 0 (length p) p (omega arith) each.1 last.1 0 start c (leb-true _ _ some_there.0)
