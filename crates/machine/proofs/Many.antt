-- Laws of many calls' outcomes in a buffer: the one that is put is read back, those in front of it stay, and so does all behind it.
use mathlib.Core.Path.{◌≡◌, refl, ap, sym, ◌∙◌}
use mathlib.Core.Bool.{Bool, true, false, cond}
use mathlib.Core.List.{List, [], ◌++◌, append_assoc}
use Prim.Native.Nat.{ℕ, zero, suc, ◌+◌, ◌*◌, ◌%◌, ◌^◌, ◌≤◌, ◌<◌}
use native.Mathlib.Omega.{arith}
use Rattle.std.specs.Simd.{first_chunks}
use lib.Dec.{eqb, leb}
use lib.ListN.{length, get_or, take, drop, length-drop, length-append, take-append-drop}
use lib.Seq.{length-take-le, take-append-le, drop-append-le, drop-drop}
use borrow.Author.Tests.{eq-eqb, eqb-true, eqb-false, leb-true}
use Rattle.definitions.specs.declared.Outcome.{Outcome}
use Rattle.definitions.specs.Word.{bytes_of, number_at}
use Rattle.definitions.specs.Machine.{filter_of, call_of, runs, steps}
use Rattle.definitions.specs.Kernel.{accepts_bytes}
use Rattle.definitions.specs.Outcome.{ended, outcome_of, call_in, outcome_in, outcomes_size, ran_code}
use Rattle.theorems.proofs.Words.{length_bytes, number_here, number_past, number_front}
use Rattle.theorems.proofs.Answered.{answered}
use Rattle.bpf.specs.Place.{place}
use Rattle.bpf.proofs.Buffer.{drop_place}
use Rattle.machine.specs.Outcomes.{outcome_bytes, Put}

-- ---- numbers in a buffer

number_inside : (w : ℕ) (p q : List ℕ) (j : ℕ) → j + w ≤ length p → number_at w (p ++ q) j ≡ number_at w p j
unfolding number_at
number_inside w p q j h =
    rw (drop-append-le j p q (omega arith), take-append-le w (drop j p) q (rw length-drop (omega arith)))

number_before : (w : ℕ) (l : List ℕ) (at : ℕ) (bs : List ℕ) (j : ℕ) → j + w ≤ at → at ≤ length l → number_at w (place l at bs) j ≡ number_at w l j
unfolding place
number_before w l at bs j h k =
    let n : length (take at l) ≡ at = length-take-le at l k in
    rw append_assoc (number_inside w (take at l) (bs ++ drop (at + length bs) l) j (omega arith))
    ∙ sym (ap (λ (x : List ℕ). number_at w x j) (sym (take-append-drop at l)) ∙ number_inside w (take at l) (drop at l) j (omega arith))

module _ (l : List ℕ) (at a b : ℕ) (room : at + 8 ≤ length l) where
  first_there : a < 2 ^ 32 → number_at 4 (place l at (bytes_of 4 a ++ bytes_of 4 b)) at ≡ a
  unfolding place
  first_there small =
      simp append_assoc (number_here 4 (take at l) _ at (length-take-le at l (omega arith)) ∙ number_front 4 a _ small)

  second_there : b < 2 ^ 32 → number_at 4 (place l at (bytes_of 4 a ++ bytes_of 4 b)) (at + 4) ≡ b
  unfolding place
  second_there small =
      simp append_assoc (number_past 4 (take at l) _ at 4 (length-take-le at l (omega arith))
      ∙ number_here 4 (bytes_of 4 a) _ 4 (length_bytes 4 a)
      ∙ number_front 4 b _ small)

-- ---- an outcome

pub length_outcome : (o : Outcome) → length (outcome_bytes o) ≡ 8
length_outcome o = simp (length-append, length_bytes)

-- the array with that number is the call with that number
pub chunk_in : (k i : ℕ) (calls : List ℕ) → i < k → get_or (first_chunks 64 k calls) i [] ≡ call_in calls i
chunk_in zero i calls h = absurd (omega arith)
chunk_in (suc k) zero calls h = refl
chunk_in (suc k) (suc i) calls h =
    let n : 64 * suc i ≡ 64 + 64 * i = omega arith in
    chunk_in k i (drop 64 calls) (omega arith) ∙ rw (n, ← drop-drop (64 * i) 64 calls)

-- what a run came to, put at its place
pub put_one : (filter call : List ℕ) (i : ℕ) (before after : List ℕ) (o : Outcome)
    → accepts_bytes filter ≡ true → length call ≡ 64
    → o ≡ ended (runs (filter_of filter) (call_of call)) (steps (filter_of filter) (call_of call))
    → o.action < 2 ^ 32 → o.steps < 2 ^ 32
    → 8 * i + 8 ≤ length before → after ≡ place before (8 * i) (outcome_bytes o) → Put filter call i before after
unfolding outcome_of
put_one filter call i before after o t size ran a s room w =
    let all : outcome_of filter call ≡ o = rw (eq-eqb (length call) 64 size, t) (sym ran) in
    let there = answered filter call t size in
    let zero : o.code ≡ 0 = ap (λ (x : Outcome). x.code) (sym all ∙ there.1) in
    record {
      same = rw all w;
      told =
          rw (all, w, first_there before (8 * i) o.action o.steps room a, second_there before (8 * i) o.action o.steps room s)
          (ap (λ (k : ℕ). record { code = k; action = o.action; steps = o.steps }) (sym zero));
    }

module _ (filter calls : List ℕ) (i : ℕ) (before after : List ℕ) (room : 8 * i + 8 ≤ length before) (p : Put filter (call_in calls i) i before after) where
  -- what is behind them all is as it was at first
  pub put_behind : (first : List ℕ) → drop (8 * i) before ≡ drop (8 * i) first → drop (8 * (i + 1)) after ≡ drop (8 * (i + 1)) first
  put_behind first e =
      let n : 8 * (i + 1) ≡ 8 * i + 8 = omega arith in
      let kept : drop (8 * (i + 1)) after ≡ drop (8 * (i + 1)) before =
      rw p.same (drop_place before (8 * i) (8 * (i + 1)) _ (rw length_outcome (omega arith)) (omega arith)) in
      kept ∙ rw (n, ← drop-drop 8 (8 * i) before, ← drop-drop 8 (8 * i) first, e)

  before_stays : (j : ℕ) → j < i → outcome_in after j ≡ outcome_in before j
  before_stays j h =
      rw (p.same, number_before 4 before (8 * i) _ (8 * j) (omega arith) (omega arith), number_before 4 before (8 * i) _ (8 * j + 4) (omega arith) (omega arith))

  -- with it there is one more
  pub put_more : ((j : ℕ) → j < i → outcome_in before j ≡ outcome_of filter (call_in calls j))
      → (j : ℕ) → j < i + 1 → outcome_in after j ≡ outcome_of filter (call_in calls j)
  put_more earlier j h = go (eqb j i) refl
    where
      go : (t : Bool) → eqb j i ≡ t → outcome_in after j ≡ outcome_of filter (call_in calls j)
      go true e = rw (eqb-true j i e) p.told
      go false e =
          let less : j < i = omega (arith, eqb-false j i e) in
          before_stays j less ∙ earlier j less

-- ---- the code

tests_zero : (a b c : Bool) → ◌≡◌ {A = ℕ} (cond a (cond b (cond c 0 7) 1) 9) 0 → (b ≡ true) × (c ≡ true)
tests_zero true true true e = (refl, refl)
tests_zero true true false e = absurd (omega (arith, e))
tests_zero true false c e = absurd (omega (arith, e))
tests_zero false b c e = absurd (omega (arith, e))

pub ran_zero : (filter calls : List ℕ) (room : ℕ) → ran_code filter calls room ≡ 0 → (accepts_bytes filter ≡ true) × (outcomes_size calls ≤ room)
unfolding ran_code
ran_zero filter calls room e =
    let t = tests_zero (eqb (length calls % 64) 0) (accepts_bytes filter) (leb (outcomes_size calls) room) e in
    (t.0, leb-true (outcomes_size calls) room t.1)
