-- Laws of a run: the words of a call in its 64 bytes, and a run that is followed from place to place.
use mathlib.Core.Path.{◌≡◌, refl, ap, sym, ◌∙◌}
use mathlib.Core.Bool.{true, false, ◌&&◌}
use mathlib.Core.List.{List, [], ◌∷◌}
use mathlib.Core.Option.{none, some}
use Prim.Native.Nat.{ℕ, zero, suc, ◌+◌, ◌-◌, ◌*◌, ◌/◌, ◌%◌, ◌≤◌, ◌<◌}
use native.Mathlib.Nat.{zero-add}
use native.Mathlib.Omega.{arith}
use lib.Dec.{eqb, ltb}
use lib.ListN.{length, get_or}
use borrow.Author.Tests.{eqb-true, ltb-true}
use Rattle.definitions.specs.declared.Instruction.{Instruction}
use Rattle.definitions.specs.Word.{low, high, number_at, AreBytes}
use Rattle.definitions.specs.Machine.{Call, call_of, words, fetch, instruction_at, instructions_at, filter_of, Result, returns, stuck, stop, next, step, run, visits, start, runs, steps}
use Rattle.definitions.specs.Machine as machine
use Rattle.theorems.proofs.Tests.{both_true}
use Rattle.theorems.proofs.Words.{number_at_small}
use Rattle.bpf.proofs.Buffer.{number_8}
use Rattle.machine.specs.declared.State.{State}
use Rattle.machine.specs.declared.Step.{Step}
use Rattle.machine.specs.declared.Step.TheVariants.{Next, Returns, Stuck}
use Rattle.definitions.specs.declared.Outcome.{Outcome}
use Rattle.definitions.specs.Outcome.{refused, ended}
use Rattle.machine.specs.Run.{state_of, Stepped}
use Rattle.checks.proofs.Walk.{left_start, left_turn, left_end}

-- ---- the words of a call

module _ (d : List ℕ) (bytes : AreBytes d) (size : length d ≡ 64) where
  low_half : (at : ℕ) → at + 8 ≤ 64 → low (number_at 8 d at) ≡ number_at 4 d at
  low_half at h = omega (arith, number_8 d at (omega arith), number_at_small 4 d at bytes)

  high_half : (at : ℕ) → at + 8 ≤ 64 → high (number_at 8 d at) ≡ number_at 4 d (at + 4)
  high_half at h = omega (arith, number_8 d at (omega arith), number_at_small 4 d at bytes)

  word_at : (j : ℕ) → j < 16 → get_or (words (call_of d)) j 0 ≡ number_at 4 d (j * 4)
  unfolding words
  word_at zero h = refl
  word_at (suc zero) h = refl
  word_at (suc (suc zero)) h = low_half 8 (omega arith)
  word_at (suc (suc (suc zero))) h = high_half 8 (omega arith)
  word_at (suc (suc (suc (suc zero)))) h = low_half 16 (omega arith)
  word_at (suc (suc (suc (suc (suc zero))))) h = high_half 16 (omega arith)
  word_at (suc (suc (suc (suc (suc (suc zero)))))) h = low_half 24 (omega arith)
  word_at (suc (suc (suc (suc (suc (suc (suc zero))))))) h = high_half 24 (omega arith)
  word_at (suc (suc (suc (suc (suc (suc (suc (suc zero)))))))) h = low_half 32 (omega arith)
  word_at (suc (suc (suc (suc (suc (suc (suc (suc (suc zero))))))))) h = high_half 32 (omega arith)
  word_at (suc (suc (suc (suc (suc (suc (suc (suc (suc (suc zero)))))))))) h = low_half 40 (omega arith)
  word_at (suc (suc (suc (suc (suc (suc (suc (suc (suc (suc (suc zero))))))))))) h = high_half 40 (omega arith)
  word_at (suc (suc (suc (suc (suc (suc (suc (suc (suc (suc (suc (suc zero)))))))))))) h = low_half 48 (omega arith)
  word_at (suc (suc (suc (suc (suc (suc (suc (suc (suc (suc (suc (suc (suc zero))))))))))))) h = high_half 48 (omega arith)
  word_at (suc (suc (suc (suc (suc (suc (suc (suc (suc (suc (suc (suc (suc (suc zero)))))))))))))) h = low_half 56 (omega arith)
  word_at (suc (suc (suc (suc (suc (suc (suc (suc (suc (suc (suc (suc (suc (suc (suc zero))))))))))))))) h = high_half 56 (omega arith)
  word_at (suc (suc (suc (suc (suc (suc (suc (suc (suc (suc (suc (suc (suc (suc (suc (suc j)))))))))))))))) h = absurd (omega arith)

  pub fetch_at : (k : ℕ) → (eqb (k % 4) 0 && ltb k 64) ≡ true → fetch (call_of d) k ≡ some (number_at 4 d k)
  unfolding fetch
  fetch_at k t =
      let w = both_true (eqb (k % 4) 0) (ltb k 64) t in
      let aligned = eqb-true (k % 4) 0 w.0 in
      let below = ltb-true k 64 w.1 in
      let e : k / 4 * 4 ≡ k = omega arith in
      rw (t, word_at (k / 4) (omega arith), e)

pub fetch_none : (c : Call) (k : ℕ) → (eqb (k % 4) 0 && ltb k 64) ≡ false → fetch c k ≡ none
unfolding fetch
fetch_none c k t = rw t

pub word_inside : (k : ℕ) → (eqb (k % 4) 0 && ltb k 64) ≡ true → k + 4 ≤ 64
word_inside k t =
    let w = both_true (eqb (k % 4) 0) (ltb k 64) t in
    omega (arith, eqb-true (k % 4) 0 w.0, ltb-true k 64 w.1)

-- ---- a run, followed: k instructions were executed before, and d are still to skip

visits_same : (a b d : ℕ) (p : List Instruction) (s : machine.State) (c : Call) → length (visits a d p s c) ≡ length (visits b d p s c)
unfolding visits
visits_same a b d [] s c = refl
visits_same a b zero (i ∷ p) s c = ap suc (go (λ n t. visits_same (a + 1) (b + 1) n p t c) (step i s c))
  where
    go : ((n : ℕ) (t : machine.State) → length (visits (a + 1) n p t c) ≡ length (visits (b + 1) n p t c)) → (x : machine.Step)
        → length {A = ℕ} (elim x [ stop r ↦ [] | next n t ↦ visits (a + 1) n p t c ]) ≡ length {A = ℕ} (elim x [ stop r ↦ [] | next n t ↦ visits (b + 1) n p t c ])
    go again (stop r) = refl
    go again (next n t) = again n t
visits_same a b (suc d) (i ∷ p) s c = visits_same (a + 1) (b + 1) d p s c

unfoldable pub followed : ℕ → ℕ → List Instruction → machine.State → Call → Outcome
followed k d p s c = ended (run d p s c) (k + length (visits 0 d p s c))

skipped : (f : List ℕ) (d m a k : ℕ) (s : machine.State) (c : Call)
    → followed k d (instructions_at f m a) s c ≡ followed k 0 (instructions_at f (m - d) (a + d * 8)) s c
unfolding followed instructions_at run visits
skipped f zero m a k s c =
    let e : m - 0 ≡ m = omega arith in
    let g : a + 0 * 8 ≡ a = omega arith in
    rw (e, g)
skipped f (suc d) zero a k s c = let e : 0 - suc d ≡ 0 = omega arith in rw e
skipped f (suc d) (suc m) a k s c =
    let e : suc m - suc d ≡ m - d = omega arith in
    let g : a + suc d * 8 ≡ a + 8 + d * 8 = omega arith in
    rw (e, g, visits_same (0 + 1) 0 d (instructions_at f m (a + 8)) s c) (skipped f d m (a + 8) k s c)

module _ (i : Instruction) (p : List Instruction) (k : ℕ) (s : machine.State) (c : Call) where
  next_followed : (d : ℕ) (t : machine.State) → step i s c ≡ next d t → followed k 0 (i ∷ p) s c ≡ followed (k + 1) d p t c
  unfolding followed run visits
  next_followed d t e =
      let n : k + suc (length (visits 0 d p t c)) ≡ k + 1 + length (visits 0 d p t c) = omega arith in
      rw (e, run, visits_same (0 + 1) 0 d p t c, n)

  stop_followed : (r : Result) → step i s c ≡ stop r → followed k 0 (i ∷ p) s c ≡ ended r (k + 1)
  unfolding followed run visits
  stop_followed r e = rw (e, run)

-- ---- the loop, at place p of n

module _ (f : List ℕ) (n p k : ℕ) (s : machine.State) (c : Call) (h : p < n) (i : Instruction) (e : i ≡ instruction_at f (p * 8)) (r : Step) (t : State) (g : Stepped (step i s c) r t) where
  pub follow_next : (d q : ℕ) → r ≡ Next d → q ≡ p + 1 + d
      → followed k 0 (instructions_at f (n - p) (p * 8)) s c ≡ followed (k + 1) 0 (instructions_at f (n - q) (q * 8)) (state_of t) c
  follow_next d q w o =
      let a : n - (p + 1) - d ≡ n - q = omega arith in
      let b : (p + 1) * 8 + d * 8 ≡ q * 8 = omega arith in
      let x : step i s c ≡ next d (state_of t) = sym g ∙ rw w in
      rw (left_turn f n p h)
      (next_followed (instruction_at f (p * 8)) (instructions_at f (n - (p + 1)) ((p + 1) * 8)) k s c d (state_of t) (rw (← e) x)
      ∙ skipped f d (n - (p + 1)) ((p + 1) * 8) (k + 1) (state_of t) c
      ∙ (rw (a, b)))

  pub follow_returns : (a : ℕ) → r ≡ Returns a
      → followed k 0 (instructions_at f (n - p) (p * 8)) s c ≡ record { code = 0; action = a; steps = k + 1 }
  follow_returns a w =
      let x : step i s c ≡ stop (returns a) = sym g ∙ rw w in
      rw (left_turn f n p h)
      (stop_followed (instruction_at f (p * 8)) (instructions_at f (n - (p + 1)) ((p + 1) * 8)) k s c (returns a) (rw (← e) x))

  pub follow_stuck : r ≡ Stuck → followed k 0 (instructions_at f (n - p) (p * 8)) s c ≡ refused
  follow_stuck w =
      let x : step i s c ≡ stop stuck = sym g ∙ rw w in
      rw (left_turn f n p h)
      (stop_followed (instruction_at f (p * 8)) (instructions_at f (n - (p + 1)) ((p + 1) * 8)) k s c stuck (rw (← e) x))

pub follow_start : (f : List ℕ) (c : Call)
    → ended (runs (filter_of f) c) (steps (filter_of f) c) ≡ followed 0 0 (instructions_at f (length f / 8 - 0) (0 * 8)) start c
unfolding followed
follow_start f c = rw (← left_start f, zero-add (steps (filter_of f) c))

pub follow_end : (f : List ℕ) (n p k : ℕ) (s : machine.State) (c : Call) → n ≤ p → followed k 0 (instructions_at f (n - p) (p * 8)) s c ≡ refused
unfolding followed run
follow_end f n p k s c h = rw (left_end f n p h)
