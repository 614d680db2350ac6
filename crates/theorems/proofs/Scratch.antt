-- SCRATCH: a filter that the kernel takes reads no scratch word before it has written it. Two runs that differ only in words which the
-- kernel's pass does not count as written stay so, and end alike.
use mathlib.Core.Path.{◌≡◌, refl, ap, ap₂, sym, ◌∙◌}
use mathlib.Core.Bool.{Bool, true, false, cond, ◌&&◌, ◌||◌}
use mathlib.Core.List.{List, [], ◌∷◌}
use mathlib.Core.Option.{Option, none, some}
use mathlib.Core.Logic.{◌⊎◌, inl, inr}
use Prim.Native.Nat.{ℕ, zero, suc, ◌-◌, ◌^◌, ◌≤◌}
use native.Mathlib.Omega.{arith}
use lib.Dec.{eqb, leb, ltb}
use lib.ListN.{length, get_or, set as store, length-set, get_or-eq_default}
use lib.Seq.{get_or-set_same, get_or-set_other, set_out}
use borrow.Author.Tests.{eqb-true, eqb-false, eq-eqb, ltb-true, ltb-false}
use Rattle.definitions.specs.declared.Instruction.{Instruction}
use Rattle.definitions.specs.Word.{low}
use Rattle.definitions.specs.Machine.{Call, State, Result, returns, stuck, Step, stop, next, set_a, set_x, set_m}
use Rattle.definitions.specs.Machine.{Kind, ld_abs, ld_len, ld_imm, ld_mem, ldx_len, ldx_imm, ldx_mem, st, stx, tax, txa, neg, ja, ret_k, ret_a, unknown, alu, jump}
use Rattle.definitions.specs.Machine.{Source, by_k, by_x, fetch, kind_of, into_a, compute, test_holds, operand, step_as, step, run, start}
use Rattle.definitions.specs.Kernel.{each_taken, Effect, plain, reads, writes, jumps, branches, leaves, effect_as, effect_of, ends_in_return}
use Rattle.definitions.specs.Kernel.{Words, every_word, no_word, both, with_word, narrowed, scratch_next, scratch_taken, accepts}
use Rattle.theorems.specs.Statements.{Scratch}
use Rattle.theorems.proofs.Tests.{both_true}

-- two states that differ at most in scratch words outside a set
record Alike (w : Words) (s t : State) : Type 0 where
  accumulator : s.A ≡ t.A
  index : s.X ≡ t.X
  size : length s.M ≡ length t.M
  scratch : (k : ℕ) → w k ≡ true → get_or s.M k 0 ≡ get_or t.M k 0

-- ---- one step

-- the words written behind an instruction
after : Effect → Words → Words
after plain w = w
after (reads k) w = w
after (writes k) w = with_word k w
after (jumps d) w = w
after (branches d e) w = w
after leaves w = w

-- how far an instruction may go
Goes : Effect → ℕ → Type 0
Goes plain d = d ≡ 0
Goes (reads k) d = d ≡ 0
Goes (writes k) d = d ≡ 0
Goes (jumps e) d = d ≡ e
Goes (branches e f) d = (d ≡ e) ⊎ (d ≡ f)
Goes leaves d = ⊥

-- what it reads is written
Reads : Effect → Words → Type 0
Reads plain w = Unit
Reads (reads k) w = w k ≡ true
Reads (writes k) w = Unit
Reads (jumps d) w = Unit
Reads (branches d e) w = Unit
Reads leaves w = Unit

data StepsAlike (x : Effect) (w : Words) : Step → Step → Type 0 where
  stopped : (r : Result) → StepsAlike x w (stop r) (stop r)
  gone : (d : ℕ) (s t : State) → Goes x d → Alike (after x w) s t → StepsAlike x w (next d s) (next d t)

module _ (l m : List ℕ) (k a b j : ℕ) (e : length l ≡ length m) (p : a ≡ b) where
  store_here : j ≡ k → get_or (store l k a) j 0 ≡ get_or (store m k b) j 0
  store_here q = rw q (go (ltb k (length l)) refl)
    where
      go : (t : Bool) → ltb k (length l) ≡ t → get_or (store l k a) k 0 ≡ get_or (store m k b) k 0
      go true h =
          let in_l = ltb-true k (length l) h in
          rw (get_or-set_same l k a 0 in_l, get_or-set_same m k b 0 (omega arith), p)
      go false h =
          let out_l = ltb-false k (length l) h in
          rw (set_out l k a out_l, set_out m k b (omega arith), get_or-eq_default l 0 out_l, get_or-eq_default m 0 (let q : length m ≤ k = omega arith in q))

  store_alike : (eqb j k ≡ false → get_or l j 0 ≡ get_or m j 0) → get_or (store l k a) j 0 ≡ get_or (store m k b) j 0
  store_alike h = go (eqb j k) refl
    where
      go : (t : Bool) → eqb j k ≡ t → get_or (store l k a) j 0 ≡ get_or (store m k b) j 0
      go true q = store_here (eqb-true j k q)
      go false q = rw (get_or-set_other l k j a 0 (eqb-false j k q), get_or-set_other m k j b 0 (eqb-false j k q)) (h q)

or_false_left : (a b : Bool) → a ≡ false → (a || b) ≡ true → b ≡ true
or_false_left true b p h = cc
or_false_left false b p h = h

-- a scratch word stored, from registers that are alike
stored : (w : Words) (s t : State) (k a b : ℕ) → Alike w s t → a ≡ b → Alike (with_word k w) (set_m k a s) (set_m k b t)
stored w s t k a b h p = record {
  accumulator = h.accumulator;
  index = h.index;
  size = length-set s.M k a ∙ h.size ∙ sym (length-set t.M k b);
  scratch = λ j q. store_alike s.M t.M k a b j h.size p (λ o. h.scratch j (or_false_left (eqb j k) (w j) o q));
}

module _ (w : Words) (s t : State) (h : Alike w s t) where
  into_a_lem : {a b : ℕ} → a ≡ b → Alike w (set_a a s) (set_a b t)
  into_a_lem p = record { accumulator = p; index = h.index; size = h.size; scratch = h.scratch }

  into_x : {a b : ℕ} → a ≡ b → Alike w (set_x a s) (set_x b t)
  into_x p = record { accumulator = h.accumulator; index = p; size = h.size; scratch = h.scratch }

  operand_alike : (x : Source) (i : Instruction) → operand x i s ≡ operand x i t
  operand_alike by_k i = refl
  operand_alike by_x i = h.index

  step_alike : (k : Kind) (i : Instruction) (c : Call) → Reads (effect_as k i) w → StepsAlike (effect_as k i) w (step_as k i s c) (step_as k i t c)
  unfolding effect_as step_as Reads Goes after into_a
  step_alike ld_abs i c r = go (fetch c i.k)
    where
      go : (x : Option ℕ) → StepsAlike plain w (into_a stuck x s) (into_a stuck x t)
      go none = stopped stuck
      go (some a) = gone 0 (set_a a s) (set_a a t) refl (into_a_lem refl)
  step_alike ld_len i c r = gone 0 _ _ refl (into_a_lem refl)
  step_alike ld_imm i c r = gone 0 _ _ refl (into_a_lem refl)
  step_alike ld_mem i c r = gone 0 _ _ refl (into_a_lem (h.scratch i.k r))
  step_alike ldx_len i c r = gone 0 _ _ refl (into_x refl)
  step_alike ldx_imm i c r = gone 0 _ _ refl (into_x refl)
  step_alike ldx_mem i c r = gone 0 _ _ refl (into_x (h.scratch i.k r))
  step_alike st i c r = gone 0 _ _ refl (stored w s t i.k s.A t.A h h.accumulator)
  step_alike stx i c r = gone 0 _ _ refl (stored w s t i.k s.X t.X h h.index)
  step_alike tax i c r = gone 0 _ _ refl (into_x h.accumulator)
  step_alike txa i c r = gone 0 _ _ refl (into_a_lem h.index)
  step_alike neg i c r = gone 0 _ _ refl (into_a_lem (ap (λ (a : ℕ). low (2 ^ 32 - a)) h.accumulator))
  step_alike ja i c r = gone i.k s t refl h
  step_alike ret_k i c r = stopped (returns i.k)
  step_alike ret_a i c r = rw h.accumulator (stopped (returns t.A))
  step_alike unknown i c r = stopped stuck
  step_alike (alu o x) i c r = rw (ap₂ (compute o) h.accumulator (operand_alike x i)) (go (compute o t.A (operand x i t)))
    where
      go : (v : Option ℕ) → StepsAlike plain w (into_a (returns 0) v s) (into_a (returns 0) v t)
      go none = stopped (returns 0)
      go (some a) = gone 0 (set_a a s) (set_a a t) refl (into_a_lem refl)
  step_alike (jump u x) i c r = rw (ap₂ (test_holds u) h.accumulator (operand_alike x i)) (go (test_holds u t.A (operand x i t)))
    where
      go : (b : Bool) → StepsAlike (branches i.jt i.jf) w (next (cond b i.jt i.jf) s) (next (cond b i.jt i.jf) t)
      go true = gone i.jt s t (inl refl) h
      go false = gone i.jf s t (inr refl) h

-- ---- a run

-- the words that count as written d instructions into a filter
entered : Words → (ℕ → Words) → ℕ → Words
entered written ahead zero k = written k && ahead 0 k
entered written ahead (suc d) k = ahead (suc d) k

entered_ahead : (written : Words) (ahead : ℕ → Words) (d k : ℕ) → entered written ahead d k ≡ true → ahead d k ≡ true
unfolding entered
entered_ahead written ahead zero k h = (both_true (written k) (ahead 0 k) h).1
entered_ahead written ahead (suc d) k h = h

entered_here : (written : Words) (ahead : ℕ → Words) (d k : ℕ) → d ≡ 0 → entered written ahead d k ≡ true → written k ≡ true
unfolding entered
entered_here written ahead zero k z h = (both_true (written k) (ahead 0 k) h).0
entered_here written ahead (suc d) k z h = absurd (omega arith)

narrowed_less : (w : Words) (e : ℕ) (ahead : ℕ → Words) (d k : ℕ) → narrowed w e ahead d k ≡ true → ahead d k ≡ true
narrowed_less w e ahead d k h = go (eqb d e) h
  where
    go : (t : Bool) → (cond t (both (ahead d) w) (ahead d)) k ≡ true → ahead d k ≡ true
    go true q = (both_true (ahead d k) (w k) q).0
    go false q = q

narrowed_here : (w : Words) (e : ℕ) (ahead : ℕ → Words) (d k : ℕ) → d ≡ e → narrowed w e ahead d k ≡ true → w k ≡ true
narrowed_here w e ahead d k g h = (both_true (ahead d k) (w k) (let q = eq-eqb d e g in rw q at h)).1

-- the same states, with fewer words to agree on
fewer : {v w : Words} {s t : State} → ((k : ℕ) → w k ≡ true → v k ≡ true) → Alike v s t → Alike w s t
fewer f h = record { accumulator = h.accumulator; index = h.index; size = h.size; scratch = λ k q. h.scratch k (f k q) }

-- two runs from d instructions into p are the same, if their states are alike in the words that are entered there
abbrev Same : List Instruction → Call → Words → (ℕ → Words) → Type 0
Same p c written ahead = (d : ℕ) (s t : State) → Alike (entered written ahead d) s t → run d p s c ≡ run d p t c

module _ (here : Words) (beyond : ℕ → Words) (p : List Instruction) (c : Call)
    (again : (written : Words) (ahead : ℕ → Words) → scratch_taken written ahead p ≡ true → Same p c written ahead) where
  -- what the pass asks of the rest of the filter, by an instruction's effect
  Rest : Effect → Type 0
  Rest x = scratch_next x here beyond (λ w f. scratch_taken w f p) ≡ true

  -- an instruction that is jumped over
  passed : (x : Effect) → Rest x → (d : ℕ) (s t : State) → Alike (beyond d) s t → run d p s c ≡ run d p t c
  unfolding Rest scratch_next
  passed plain r d s t h = again here beyond r d s t (fewer (entered_ahead here beyond d) h)
  passed (reads k) r d s t h = again here beyond (both_true (here k) (scratch_taken here beyond p) r).1 d s t (fewer (entered_ahead here beyond d) h)
  passed (writes k) r d s t h = again (with_word k here) beyond r d s t (fewer (entered_ahead (with_word k here) beyond d) h)
  passed (jumps e) r d s t h =
      again every_word (narrowed here e beyond) r d s t
      (fewer (λ k q. narrowed_less here e beyond d k (entered_ahead every_word (narrowed here e beyond) d k q)) h)
  passed (branches e f) r d s t h =
      again every_word (narrowed here e (narrowed here f beyond)) r d s t
      (fewer (λ k q. narrowed_less here f beyond d k (narrowed_less here e (narrowed here f beyond) d k
      (entered_ahead every_word (narrowed here e (narrowed here f beyond)) d k q))) h)
  passed leaves r d s t h = again here beyond r d s t (fewer (entered_ahead here beyond d) h)

  -- an instruction that is executed: on to where it goes
  went : (x : Effect) → Rest x → (d : ℕ) (s t : State) → Goes x d → Alike (after x here) s t → run d p s c ≡ run d p t c
  unfolding Rest scratch_next Goes after
  went plain r d s t g h = again here beyond r d s t (fewer (λ k q. entered_here here beyond d k g q) h)
  went (reads j) r d s t g h =
      again here beyond (both_true (here j) (scratch_taken here beyond p) r).1 d s t (fewer (λ k q. entered_here here beyond d k g q) h)
  went (writes j) r d s t g h = again (with_word j here) beyond r d s t (fewer (λ k q. entered_here (with_word j here) beyond d k g q) h)
  went (jumps e) r d s t g h =
      again every_word (narrowed here e beyond) r d s t
      (fewer (λ k q. narrowed_here here e beyond d k g (entered_ahead every_word (narrowed here e beyond) d k q)) h)
  went (branches e f) r d s t g h =
      again every_word (narrowed here e (narrowed here f beyond)) r d s t
      (fewer (λ k q. either_way g (entered_ahead every_word (narrowed here e (narrowed here f beyond)) d k q)) h)
    where
      either_way : {k : ℕ} → (d ≡ e) ⊎ (d ≡ f) → narrowed here e (narrowed here f beyond) d k ≡ true → here k ≡ true
      either_way {k} (inl g) q = narrowed_here here e (narrowed here f beyond) d k g q
      either_way {k} (inr g) q = narrowed_here here f beyond d k g (narrowed_less here e (narrowed here f beyond) d k q)
  went leaves r d s t g h = absurd g

  -- both runs' steps, and what follows them
  onward : (x : Effect) → Rest x → {u v : Step} → StepsAlike x here u v
      → ◌≡◌ {A = Result} (elim u [ stop r ↦ r | next d s ↦ run d p s c ]) (elim v [ stop r ↦ r | next d s ↦ run d p s c ])
  onward x r (stopped q) = refl
  onward x r (gone d s t g h) = went x r d s t g h

  reads_written : (x : Effect) → Rest x → Reads x here
  unfolding Rest scratch_next Reads
  reads_written plain r = tt
  reads_written (reads k) r = (both_true (here k) (scratch_taken here beyond p) r).0
  reads_written (writes k) r = tt
  reads_written (jumps d) r = tt
  reads_written (branches d e) r = tt
  reads_written leaves r = tt

same_run : (p : List Instruction) (c : Call) (written : Words) (ahead : ℕ → Words) → scratch_taken written ahead p ≡ true → Same p c written ahead
unfolding scratch_taken run step effect_of entered Rest
same_run [] c written ahead k d s t h = refl
same_run (i ∷ p) c written ahead k zero s t h =
    let here : Words = both written (ahead 0) in
    let beyond : ℕ → Words = λ d. ahead (suc d) in
    let x = effect_as (kind_of i.code) i in
    onward here beyond p c (same_run p c) x k (step_alike here s t h (kind_of i.code) i c (reads_written here beyond p c (same_run p c) x k))
same_run (i ∷ p) c written ahead k (suc d) s t h =
    passed (both written (ahead 0)) (λ d. ahead (suc d)) p c (same_run p c) (effect_as (kind_of i.code) i) k d s t h

pub scratch : Scratch
unfolding accepts entered
scratch p h c words size =
    same_run p c no_word (λ d. every_word) (both_true (leb 1 (length p) && leb (length p) 4096 && each_taken 0 (length p) p && ends_in_return p) (scratch_taken no_word (λ d. every_word) p) h).1 0 _ start
    (record { accumulator = refl; index = refl; size = size; scratch = λ k q. cc })
