-- Laws of a walk over a filter's bytes, eight at a time, and of the checks that are made on it.
use mathlib.Core.Path.{◌≡◌, refl, ap, ◌∙◌}
use mathlib.Core.Bool.{Bool, true, false, ◌&&◌}
use mathlib.Core.List.{List, [], ◌∷◌}
use Prim.Native.Nat.{ℕ, zero, suc, ◌+◌, ◌-◌, ◌*◌, ◌/◌, ◌%◌, ◌≤◌, ◌<◌}
use native.Mathlib.Omega.{arith}
use lib.Dec.{eqb, leb}
use lib.ListN.{length}
use Rattle.definitions.specs.declared.Instruction.{Instruction}
use Rattle.definitions.specs.Machine.{kind_of, instruction_at, instructions_at, filter_of}
use Rattle.definitions.specs.Kernel.{taken_as, each_taken, effect_of, is_return, ends_in_return, no_word, every_word, scratch_taken, accepts, accepts_bytes}
use borrow.Author.Tests.{eqb-true, leb-true}
use Rattle.std.proofs.lemmas.Bool.Decides.{nat_tests}
use Rattle.theorems.proofs.Tests.{both_true}

pub length_instructions : (s : List ℕ) (n at : ℕ) → length (instructions_at s n at) ≡ n
unfolding instructions_at
length_instructions s zero at = refl
length_instructions s (suc n) at = ap suc (length_instructions s n (at + 8))

-- at the start all is left
pub left_start : (s : List ℕ) → filter_of s ≡ instructions_at s (length s / 8 - 0) (0 * 8)
unfolding filter_of
left_start s = let e : length s / 8 - 0 ≡ length s / 8 = omega arith in rw e

-- what is left at a place is the instruction there, and what is left at the next
pub left_turn : (s : List ℕ) (n p : ℕ) → p < n
    → instructions_at s (n - p) (p * 8) ≡ instruction_at s (p * 8) ∷ instructions_at s (n - (p + 1)) ((p + 1) * 8)
unfolding instructions_at
left_turn s n p h =
    let e : n - p ≡ suc (n - (p + 1)) = omega arith in
    let f : (p + 1) * 8 ≡ p * 8 + 8 = omega arith in
    rw (e, f)

pub left_end : (s : List ℕ) (n p : ℕ) → n ≤ p → instructions_at s (n - p) (p * 8) ≡ []
unfolding instructions_at
left_end s n p h = let e : n - p ≡ 0 = omega arith in rw e

-- ---- each instruction by itself

pub each_turn : (s : List ℕ) (n p : ℕ) → p < n
    → each_taken p n (instructions_at s (n - p) (p * 8))
    ≡ (taken_as (kind_of (instruction_at s (p * 8)).code) (instruction_at s (p * 8)) p n && each_taken (p + 1) n (instructions_at s (n - (p + 1)) ((p + 1) * 8)))
unfolding each_taken
each_turn s n p h = rw (left_turn s n p h)

pub each_end : (s : List ℕ) (n p : ℕ) → n ≤ p → each_taken p n (instructions_at s (n - p) (p * 8)) ≡ true
unfolding each_taken
each_end s n p h = rw (left_end s n p h)

-- ---- the last instruction

ends_at : (s : List ℕ) (n at : ℕ) → ends_in_return (instructions_at s (suc n) at) ≡ is_return (effect_of (instruction_at s (at + n * 8)))
unfolding instructions_at ends_in_return
ends_at s zero at = let e : at + 0 * 8 ≡ at = omega arith in rw e
ends_at s (suc n) at = let e : at + suc n * 8 ≡ at + 8 + n * 8 = omega arith in rw e (ends_at s n (at + 8))

pub ends_by_lem : (s : List ℕ) (i : Instruction) → 8 ≤ length s → i ≡ instruction_at s ((length s / 8 - 1) * 8)
    → ends_in_return (filter_of s) ≡ is_return (effect_of i)
unfolding filter_of
ends_by_lem s i h e =
    let n : length s / 8 ≡ suc (length s / 8 - 1) = omega arith in
    let z : 0 + (length s / 8 - 1) * 8 ≡ (length s / 8 - 1) * 8 = omega arith in
    rw n (ends_at s (length s / 8 - 1) 0 ∙ rw (z, e))

-- ---- the whole, with the number of instructions by the number of bytes

pub length_filter : (s : List ℕ) → length (filter_of s) ≡ length s / 8
unfolding filter_of
length_filter s = length_instructions s (length s / 8) 0

pub accepts_by : (s : List ℕ)
    → accepts_bytes s
    ≡ (eqb (length s % 8) 0
    && (leb 1 (length s / 8) && leb (length s / 8) 4096 && each_taken 0 (length s / 8) (filter_of s) && ends_in_return (filter_of s) && scratch_taken no_word (λ d. every_word) (filter_of s)))
unfolding accepts_bytes accepts
accepts_by s = rw (length_filter s)

-- the same in the order of the code, with the number of bytes
pub accepts_sized : (s : List ℕ)
    → accepts_bytes s
    ≡ (eqb (length s % 8) 0
    && (leb 8 (length s) && leb (length s) 32768)
    && each_taken 0 (length s / 8) (filter_of s)
    && ends_in_return (filter_of s)
    && scratch_taken no_word (λ d. every_word) (filter_of s))
accepts_sized s = accepts_by s ∙ go (eqb (length s % 8) 0) refl
  where
    go : (x : Bool) → eqb (length s % 8) 0 ≡ x
        → (x && (leb 1 (length s / 8) && leb (length s / 8) 4096 && each_taken 0 (length s / 8) (filter_of s) && ends_in_return (filter_of s) && scratch_taken no_word (λ d. every_word) (filter_of s)))
        ≡ (x && (leb 8 (length s) && leb (length s) 32768) && each_taken 0 (length s / 8) (filter_of s) && ends_in_return (filter_of s) && scratch_taken no_word (λ d. every_word) (filter_of s))
    go false e = refl
    go true e =
        let whole = eqb-true (length s % 8) 0 e in
        let least : leb 1 (length s / 8) ≡ leb 8 (length s) = grind (arith, nat_tests) in
        let most : leb (length s / 8) 4096 ≡ leb (length s) 32768 = grind (arith, nat_tests) in
        rw (least, most)

pub accepts_short : (s : List ℕ) → accepts_bytes s ≡ true → length s ≤ 32768
accepts_short s t =
    let whole = both_true (eqb (length s % 8) 0) _ (rw (accepts_by s) at t) in
    let scratch = both_true _ (scratch_taken no_word (λ d. every_word) (filter_of s)) whole.1 in
    let last = both_true _ (ends_in_return (filter_of s)) scratch.0 in
    let each = both_true _ (each_taken 0 (length s / 8) (filter_of s)) last.0 in
    let short = both_true (leb 1 (length s / 8)) (leb (length s / 8) 4096) each.0 in
    omega (arith, eqb-true (length s % 8) 0 whole.0, leb-true (length s / 8) 4096 short.1)
