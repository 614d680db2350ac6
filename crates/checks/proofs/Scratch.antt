-- Laws of the pass over the scratch words: one instruction of it, that it looks at sixteen words and no more, and that masks do
-- what the definitions' sets do.
use mathlib.Core.Path.{◌≡◌, refl, ap, sym, ◌∙◌}
use mathlib.Core.Bool.{Bool, true, false, cond, ◌&&◌, ◌||◌}
use mathlib.Core.List.{List, [], ◌∷◌}
use Prim.Native.Nat.{ℕ, zero, suc, ◌+◌, ◌-◌, ◌*◌, ◌/◌, ◌%◌, ◌^◌, ◌≤◌, ◌<◌}
use native.Mathlib.Nat.{add-zero, zero-add, one-mul}
use native.Mathlib.Omega.{arith}
use lib.Dec.{eqb, ltb}
use lib.Bits.{bit_and, bit_or, and_shr, and_mod, or_shr, or_mod}
use lib.Pow.{shl_exact}
use lib.ListN.{length, get_or, set, replicate, get_or-replicate}
use lib.Seq.{get_or-set_same, get_or-set_other}
use borrow.Author.Tests.{ltb-true, lt-ltb, eqb-true, eqb-false}
use Rattle.definitions.specs.declared.Instruction.{Instruction}
use Rattle.definitions.specs.Machine.{Kind, ld_abs, ld_len, ld_imm, ld_mem, ldx_len, ldx_imm, ldx_mem, st, stx, tax, txa, neg, ja, ret_k, ret_a, unknown, alu, jump}
use Rattle.definitions.specs.Machine.{kind_of, instruction_at, instructions_at, filter_of}
use Rattle.definitions.specs.Kernel.{taken_as, each_taken, Effect, plain, reads, writes, jumps, branches, leaves, effect_as, effect_of, Words, every_word, no_word, both, with_word, narrowed, scratch_next, scratch_taken}
use Rattle.theorems.proofs.Tests.{both_true, true_both}
use Rattle.checks.proofs.Walk.{length_filter, left_start, left_turn, left_end, each_turn}
use Rattle.checks.specs.Scratch.{words_of, ahead_of, Same, word_there, jump_there, readable_in, behind_of, beyond_of}

-- ---- what the check of an instruction says of its effect

further : (a b m n : ℕ) → n ≤ m → (ltb a n && ltb b n) ≡ true → (ltb a m && ltb b m) ≡ true
further a b m n h t =
    let w = both_true (ltb a n) (ltb b n) t in
    true_both (lt-ltb a m (omega (arith, ltb-true a n w.0))) (lt-ltb b m (omega (arith, ltb-true b n w.1)))

module _ (i : Instruction) (at n : ℕ) where
  pub there : (k : Kind) → taken_as k i at n ≡ true → word_there (effect_as k i) ≡ true
  unfolding taken_as effect_as
  there ld_abs h = refl
  there ld_len h = refl
  there ld_imm h = refl
  there ld_mem h = h
  there ldx_len h = refl
  there ldx_imm h = refl
  there ldx_mem h = h
  there st h = h
  there stx h = h
  there tax h = refl
  there txa h = refl
  there neg h = refl
  there ja h = refl
  there ret_k h = refl
  there ret_a h = refl
  there unknown h = refl
  there (alu o x) h = refl
  there (jump t x) h = refl

  pub inside : (m : ℕ) → n ≤ m → (k : Kind) → taken_as k i at n ≡ true → jump_there at m (effect_as k i) ≡ true
  unfolding taken_as effect_as
  inside m l ld_abs h = refl
  inside m l ld_len h = refl
  inside m l ld_imm h = refl
  inside m l ld_mem h = refl
  inside m l ldx_len h = refl
  inside m l ldx_imm h = refl
  inside m l ldx_mem h = refl
  inside m l st h = refl
  inside m l stx h = refl
  inside m l tax h = refl
  inside m l txa h = refl
  inside m l neg h = refl
  inside m l ja h = lt-ltb (at + 1 + i.k) m (omega (arith, ltb-true (at + 1 + i.k) n h))
  inside m l ret_k h = refl
  inside m l ret_a h = refl
  inside m l unknown h = refl
  inside m l (alu o x) h = refl
  inside m l (jump t x) h = further (at + 1 + i.jt) (at + 1 + i.jf) m n l h

-- ---- one instruction of the pass

pub scratch_step : (w : Words) (a : ℕ → Words) (i : Instruction) (p : List Instruction)
    → scratch_taken w a (i ∷ p)
    ≡ (readable_in (effect_of i) (both w (a 0)) && scratch_taken (behind_of (effect_of i) (both w (a 0))) (beyond_of (effect_of i) (both w (a 0)) (λ d. a (suc d))) p)
unfolding scratch_taken scratch_next
scratch_step w a i p = go (effect_of i)
  where
    go : (x : Effect)
        → scratch_next x (both w (a 0)) (λ d. a (suc d)) (λ v f. scratch_taken v f p)
        ≡ (readable_in x (both w (a 0)) && scratch_taken (behind_of x (both w (a 0))) (beyond_of x (both w (a 0)) (λ d. a (suc d))) p)
    go plain = refl
    go (reads k) = refl
    go (writes k) = refl
    go (jumps d) = refl
    go (branches d e) = refl
    go leaves = refl

-- ---- the pass looks at the sixteen words that there are, and at the places that there are

module _ (v w : Words) (h : Same v w) where
  readable_same : (x : Effect) → word_there x ≡ true → readable_in x v ≡ readable_in x w
  readable_same plain t = refl
  readable_same (reads k) t = h k (ltb-true k 16 t)
  readable_same (writes k) t = refl
  readable_same (jumps d) t = refl
  readable_same (branches d e) t = refl
  readable_same leaves t = refl

  behind_same : (x : Effect) → Same (behind_of x v) (behind_of x w)
  behind_same plain k l = h k l
  behind_same (reads j) k l = h k l
  behind_same (writes j) k l = rw (h k l)
  behind_same (jumps d) k l = refl
  behind_same (branches d e) k l = refl
  behind_same leaves k l = h k l

  narrowed_same : (t d : ℕ) (a b : ℕ → Words) → Same (a d) (b d) → Same (narrowed v t a d) (narrowed w t b d)
  narrowed_same t d a b g k l = go (eqb d t)
    where
      go : (x : Bool) → cond x (both (a d) v) (a d) k ≡ cond x (both (b d) w) (b d) k
      go true = rw (g k l, h k l)
      go false = g k l

  beyond_same : (x : Effect) (d : ℕ) (a b : ℕ → Words) → Same (a d) (b d) → Same (beyond_of x v a d) (beyond_of x w b d)
  beyond_same plain d a b g k l = g k l
  beyond_same (reads j) d a b g k l = g k l
  beyond_same (writes j) d a b g k l = g k l
  beyond_same (jumps t) d a b g k l = narrowed_same t d a b g k l
  beyond_same (branches t f) d a b g k l = narrowed_same t d (narrowed v f a) (narrowed w f b) (narrowed_same f d a b g) k l
  beyond_same leaves d a b g k l = g k l

both_same : (u v w x : Words) → Same u v → Same w x → Same (both u w) (both v x)
both_same u v w x h g k l = rw (h k l, g k l)

pub scratch_same : (p : List Instruction) (at n : ℕ) → each_taken at n p ≡ true
    → (v w : Words) (a b : ℕ → Words) → Same v w → ((d : ℕ) → d < length p → Same (a d) (b d))
    → scratch_taken v a p ≡ scratch_taken w b p
unfolding scratch_taken each_taken effect_of
scratch_same [] at n t v w a b h g = refl
scratch_same (i ∷ p) at n t v w a b h g =
    let x = effect_of i in
    let taken = both_true (taken_as (kind_of i.code) i at n) (each_taken (at + 1) n p) t in
    let here = both_same v w (a 0) (b 0) h (g 0 (omega arith)) in
    let more =
    scratch_same p (at + 1) n taken.1 (behind_of x (both v (a 0))) (behind_of x (both w (b 0)))
    (beyond_of x (both v (a 0)) (λ d. a (suc d))) (beyond_of x (both w (b 0)) (λ d. b (suc d)))
    (behind_same (both v (a 0)) (both w (b 0)) here x)
    (λ d l. beyond_same (both v (a 0)) (both w (b 0)) here x d (λ d. a (suc d)) (λ d. b (suc d)) (g (suc d) (omega arith))) in
    let same = readable_same (both v (a 0)) (both w (b 0)) here x (there i at n (kind_of i.code) taken.0) in
    scratch_step v a i p ∙ (rw (same, more)) ∙ sym (scratch_step w b i p)

-- ---- what antt computes for each of a few numbers

-- what g says of n numbers from i on
abbrev entries : {A : Type 0} → (ℕ → A) → ℕ → ℕ → List A
entries g i zero = []
entries g i (suc n) = g i ∷ entries g (suc i) n

module _ {A : Type 0} (z : A) where
  entry_from : (g : ℕ → A) (n i k : ℕ) → k < n → get_or (entries g i n) k z ≡ g (i + k)
  entry_from g zero i k h = absurd (omega arith)
  entry_from g (suc n) i zero h = rw (add-zero i)
  entry_from g (suc n) i (suc k) h = let e : i + suc k ≡ suc i + k = omega arith in rw e (entry_from g n (suc i) k (omega arith))

  entry : (g : ℕ → A) (n k : ℕ) → k < n → get_or (entries g 0 n) k z ≡ g k
  entry g n k h = rw (zero-add k) at (entry_from g n 0 k h)

  -- two functions whose entries antt computes to the same
  agree : (f g : ℕ → A) (n : ℕ) → entries f 0 n ≡ entries g 0 n → (k : ℕ) → k < n → f k ≡ g k
  agree f g n e k h = sym (entry f n k h) ∙ ap (λ (l : List A). get_or l k z) e ∙ entry g n k h

-- ---- bits

bit_and_odd : (x y : ℕ) → eqb (bit_and x y % 2) 1 ≡ (eqb (x % 2) 1 && eqb (y % 2) 1)
bit_and_odd x y = let e : bit_and x y % 2 ≡ bit_and (x % 2) (y % 2) = and_mod x y 1 in rw e (go (x % 2) (y % 2) (omega arith) (omega arith))
  where
    go : (p q : ℕ) → p < 2 → q < 2 → eqb (bit_and p q) 1 ≡ (eqb p 1 && eqb q 1)
    go zero zero h g = refl
    go zero (suc zero) h g = refl
    go (suc zero) zero h g = refl
    go (suc zero) (suc zero) h g = refl
    go (suc (suc p)) q h g = absurd (omega arith)
    go zero (suc (suc q)) h g = absurd (omega arith)
    go (suc zero) (suc (suc q)) h g = absurd (omega arith)

bit_or_odd : (x y : ℕ) → eqb (bit_or x y % 2) 1 ≡ (eqb (y % 2) 1 || eqb (x % 2) 1)
bit_or_odd x y = let e : bit_or x y % 2 ≡ bit_or (x % 2) (y % 2) = or_mod x y 1 in rw e (go (x % 2) (y % 2) (omega arith) (omega arith))
  where
    go : (p q : ℕ) → p < 2 → q < 2 → eqb (bit_or p q) 1 ≡ (eqb q 1 || eqb p 1)
    go zero zero h g = refl
    go zero (suc zero) h g = refl
    go (suc zero) zero h g = refl
    go (suc zero) (suc zero) h g = refl
    go (suc (suc p)) q h g = absurd (omega arith)
    go zero (suc (suc q)) h g = absurd (omega arith)
    go (suc zero) (suc (suc q)) h g = absurd (omega arith)

pub words_and : (a b k : ℕ) → words_of (bit_and a b) k ≡ (words_of a k && words_of b k)
words_and a b k = rw (and_shr a b k) (bit_and_odd (a / 2 ^ k) (b / 2 ^ k))

-- a power of two has the one bit, which antt computes for each pair
one_bit : (j k : ℕ) → j < 16 → k < 16 → words_of (2 ^ j) k ≡ eqb k j
one_bit j k h g =
    agree false (words_of (2 ^ j)) (λ k. eqb k j) 16
    (agree [] (λ j. entries (words_of (2 ^ j)) 0 16) (λ j. entries (λ k. eqb k j) 0 16) 16 refl j h)
    k
    g

words_with : (m j : ℕ) → j < 16 → Same (words_of (bit_or m (2 ^ j))) (with_word j (words_of m))
words_with m j h k l = rw (or_shr m (2 ^ j) k) (bit_or_odd (m / 2 ^ k) (2 ^ j / 2 ^ k) ∙ rw (one_bit j k h l))

-- the same where the bit is made by a shift
pub words_shift : (m j : ℕ) → j < 16 → Same (words_of (bit_or m (1 * 2 ^ j % 65536))) (with_word j (words_of m))
words_shift m j h = let e : 1 * 2 ^ j % 65536 ≡ 2 ^ j = shl_exact {a = 1} 1 j 16 (omega arith) (omega arith) ∙ one-mul (2 ^ j) in rw e (words_with m j h)

-- every bit is set, or none
pub words_every : Same (words_of 65535) every_word
words_every k l = agree false (words_of 65535) every_word 16 refl k l

words_none : Same (words_of 0) no_word
words_none k l = agree false (words_of 0) no_word 16 refl k l

-- ---- a jump narrows what is left for one place

narrow_one : (ms : List ℕ) (p t h : ℕ) → p + t < length ms → (d k : ℕ)
    → ahead_of (set ms (p + t) (bit_and (get_or ms (p + t) 0) h)) p d k ≡ narrowed (words_of h) t (ahead_of ms p) d k
narrow_one ms p t h l d k = go (eqb d t) refl
  where
    go : (x : Bool) → eqb d t ≡ x
        → ahead_of (set ms (p + t) (bit_and (get_or ms (p + t) 0) h)) p d k ≡ cond x (both (ahead_of ms p d) (words_of h)) (ahead_of ms p d) k
    go true e =
        rw (eqb-true d t e, get_or-set_same ms (p + t) (bit_and (get_or ms (p + t) 0) h) 0 l) (words_and (get_or ms (p + t) 0) h k)
    go false e =
        rw (get_or-set_other ms (p + t) (p + d) (bit_and (get_or ms (p + t) 0) h) 0 (λ q. let z = eqb-false d t e in z (omega arith)))

pub narrow_jump : (ms out : List ℕ) (at t q h : ℕ) → length ms ≡ 4096 → ltb (at + 1 + t) 4096 ≡ true → q ≡ at + 1 + t
    → out ≡ set ms q (bit_and (get_or ms q 0) h)
    → (d : ℕ) → Same (ahead_of out (at + 1) d) (narrowed (words_of h) t (ahead_of ms (at + 1)) d)
narrow_jump ms out at t q h n l e o d k small =
    rw (o, e) (narrow_one ms (at + 1) t h (omega (arith, ltb-true (at + 1 + t) 4096 l)) d k)

pub narrow_branch : (ms mid out : List ℕ) (at t f q r h : ℕ) → length ms ≡ 4096 → length mid ≡ 4096 → (ltb (at + 1 + t) 4096 && ltb (at + 1 + f) 4096) ≡ true
    → q ≡ at + 1 + f → mid ≡ set ms q (bit_and (get_or ms q 0) h)
    → r ≡ at + 1 + t → out ≡ set mid r (bit_and (get_or mid r 0) h)
    → (d : ℕ) → Same (ahead_of out (at + 1) d) (narrowed (words_of h) t (narrowed (words_of h) f (ahead_of ms (at + 1))) d)
narrow_branch ms mid out at t f q r h n m l e o u v d k small =
    let w = both_true (ltb (at + 1 + t) 4096) (ltb (at + 1 + f) 4096) l in
    narrow_jump mid out at t r h m w.0 u v d k small
    ∙ narrowed_same (words_of h) (words_of h) (λ k l. refl) t d (ahead_of mid (at + 1)) (narrowed (words_of h) f (ahead_of ms (at + 1))) (narrow_jump ms mid at f q h n w.1 e o d) k small

-- ---- the loop

pub scratch_start : (s : List ℕ) → length s ≤ 32768 → each_taken 0 (length s / 8) (filter_of s) ≡ true
    → scratch_taken no_word (λ d. every_word) (filter_of s)
    ≡ scratch_taken (words_of 0) (ahead_of (replicate 4096 65535) 0) (instructions_at s (length s / 8 - 0) (0 * 8))
scratch_start s h t =
    rw (← left_start s)
    (sym
    (scratch_same (filter_of s) 0 (length s / 8) t (words_of 0) no_word (ahead_of (replicate 4096 65535) 0) (λ d. every_word) words_none
    (λ d l k small. let e = length_filter s in rw (get_or-replicate {A = ℕ} 4096 (0 + d) 65535 0 (omega arith)) (words_every k small))))

-- a turn at place p of n, where the instruction's effect is x
module _ (s : List ℕ) (n p : ℕ) (x : Effect) (h : p < n) (t : each_taken p n (instructions_at s (n - p) (p * 8)) ≡ true) (e : x ≡ effect_of (instruction_at s (p * 8))) where
  both_taken : (taken_as (kind_of (instruction_at s (p * 8)).code) (instruction_at s (p * 8)) p n ≡ true)
      × (each_taken (p + 1) n (instructions_at s (n - (p + 1)) ((p + 1) * 8)) ≡ true)
  both_taken =
      both_true (taken_as (kind_of (instruction_at s (p * 8)).code) (instruction_at s (p * 8)) p n) (each_taken (p + 1) n (instructions_at s (n - (p + 1)) ((p + 1) * 8)))
      (rw (each_turn s n p h) at t)

  pub taken_rest : each_taken (p + 1) n (instructions_at s (n - (p + 1)) ((p + 1) * 8)) ≡ true
  taken_rest = both_taken.1

  pub there_here : word_there x ≡ true
  unfolding effect_of
  there_here = rw e (there (instruction_at s (p * 8)) p n (kind_of (instruction_at s (p * 8)).code) both_taken.0)

  pub inside_here : n ≤ 4096 → jump_there p 4096 x ≡ true
  unfolding effect_of
  inside_here l = rw e (inside (instruction_at s (p * 8)) p n 4096 l (kind_of (instruction_at s (p * 8)).code) both_taken.0)

  module _ (w : ℕ) (ms : List ℕ) where
    here_same : Same (both (words_of w) (ahead_of ms p 0)) (words_of (bit_and w (get_or ms p 0)))
    here_same k l = rw (add-zero p) (sym (words_and w (get_or ms p 0) k))

    step_here : scratch_taken (words_of w) (ahead_of ms p) (instructions_at s (n - p) (p * 8))
        ≡ (readable_in x (words_of (bit_and w (get_or ms p 0)))
        && scratch_taken (behind_of x (both (words_of w) (ahead_of ms p 0))) (beyond_of x (both (words_of w) (ahead_of ms p 0)) (λ d. ahead_of ms p (suc d)))
        (instructions_at s (n - (p + 1)) ((p + 1) * 8)))
    step_here =
        rw (left_turn s n p h, ← readable_same (both (words_of w) (ahead_of ms p 0)) (words_of (bit_and w (get_or ms p 0))) here_same x there_here, e)
        (scratch_step (words_of w) (ahead_of ms p) (instruction_at s (p * 8)) (instructions_at s (n - (p + 1)) ((p + 1) * 8)))

    pub scratch_stop : readable_in x (words_of (bit_and w (get_or ms p 0))) ≡ false
        → scratch_taken (words_of w) (ahead_of ms p) (instructions_at s (n - p) (p * 8)) ≡ false
    scratch_stop q = step_here ∙ (rw q)

    pub scratch_turn : readable_in x (words_of (bit_and w (get_or ms p 0))) ≡ true
        → (w' : ℕ) (ms' : List ℕ)
        → Same (words_of w') (behind_of x (words_of (bit_and w (get_or ms p 0))))
        → ((d : ℕ) → Same (ahead_of ms' (p + 1) d) (beyond_of x (words_of (bit_and w (get_or ms p 0))) (ahead_of ms (p + 1)) d))
        → scratch_taken (words_of w) (ahead_of ms p) (instructions_at s (n - p) (p * 8))
        ≡ scratch_taken (words_of w') (ahead_of ms' (p + 1)) (instructions_at s (n - (p + 1)) ((p + 1) * 8))
    scratch_turn q w' ms' b a =
        let B : Words = both (words_of w) (ahead_of ms p 0) in
        let H : Words = words_of (bit_and w (get_or ms p 0)) in
        step_here
        ∙ (rw q)
        ∙ scratch_same (instructions_at s (n - (p + 1)) ((p + 1) * 8)) (p + 1) n both_taken.1 (behind_of x B) (words_of w') (beyond_of x B (λ d. ahead_of ms p (suc d))) (ahead_of ms' (p + 1))
        (λ k l. behind_same B H here_same x k l ∙ sym (b k l))
        (λ d r k l.
        beyond_same B H here_same x d (λ d. ahead_of ms p (suc d)) (ahead_of ms (p + 1))
        (λ k l. let z : p + suc d ≡ p + 1 + d = omega arith in rw z)
        k
        l
        ∙ sym (a d k l))

pub scratch_end : (s : List ℕ) (n p : ℕ) (w : Words) (a : ℕ → Words) → n ≤ p → scratch_taken w a (instructions_at s (n - p) (p * 8)) ≡ true
unfolding scratch_taken
scratch_end s n p w a h = rw (left_end s n p h)
