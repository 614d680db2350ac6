-- The checks that the kernel makes of a filter's instructions before it takes it, all of them. Written from seccomp(2), linux/filter.h
-- and the kernel's own account of its checks (bpf_check_classic, and seccomp's list of allowed codes). What else it asks when a filter is
-- installed is not here, because it is not of the filter: that the process may install one, and that all of its filters together are not
-- too long.
use Rattle.std.specs.Prelude.{ℕ, suc, ◌+◌, ◌%◌, Bool, true, false, cond, not, ◌&&◌, ◌||◌, List, [], ◌∷◌, eqb, leb, ltb, length}
use Rattle.definitions.specs.declared.Instruction.{Instruction}
use Rattle.definitions.specs.Machine.{Alu, add, sub, mul, div, or, and, lsh, rsh, xor}
use Rattle.definitions.specs.Machine.{Source, by_k, by_x}
use Rattle.definitions.specs.Machine.{Kind, ld_abs, ld_len, ld_imm, ld_mem, ldx_len, ldx_imm, ldx_mem, st, stx, tax, txa, neg, ja, ret_k, ret_a, unknown, alu, jump}
use Rattle.definitions.specs.Machine.{kind_of, filter_of}

-- ---- each instruction by itself

-- no division by a constant 0, no constant shift of 32 or more
unfoldable pub constant_taken : Alu → ℕ → Bool
constant_taken add k = true
constant_taken sub k = true
constant_taken mul k = true
constant_taken div k = not (eqb k 0)
constant_taken or k = true
constant_taken and k = true
constant_taken lsh k = ltb k 32
constant_taken rsh k = ltb k 32
constant_taken xor k = true

unfoldable pub operand_taken : Alu → Source → ℕ → Bool
operand_taken o by_k k = constant_taken o k
operand_taken o by_x k = true

-- instruction i at place `at` of a filter of n instructions
unfoldable pub taken_as : Kind → Instruction → ℕ → ℕ → Bool
taken_as ld_abs i at n = eqb (i.k % 4) 0 && ltb i.k 64
taken_as ld_len i at n = true
taken_as ld_imm i at n = true
taken_as ld_mem i at n = ltb i.k 16
taken_as ldx_len i at n = true
taken_as ldx_imm i at n = true
taken_as ldx_mem i at n = ltb i.k 16
taken_as st i at n = ltb i.k 16
taken_as stx i at n = ltb i.k 16
taken_as tax i at n = true
taken_as txa i at n = true
taken_as neg i at n = true
taken_as ja i at n = ltb (at + 1 + i.k) n
taken_as ret_k i at n = true
taken_as ret_a i at n = true
taken_as unknown i at n = false
taken_as (alu o x) i at n = operand_taken o x i.k
taken_as (jump t x) i at n = ltb (at + 1 + i.jt) n && ltb (at + 1 + i.jf) n

-- the instructions from place `at` on
unfoldable pub each_taken : ℕ → ℕ → List Instruction → Bool
each_taken at n [] = true
each_taken at n (i ∷ p) = taken_as (kind_of i.code) i at n && each_taken (at + 1) n p

-- ---- what an instruction does to the scratch words, and where it may go

pub data Effect : Type 0 where
  plain : Effect
  reads : ℕ → Effect
  writes : ℕ → Effect
  jumps : ℕ → Effect
  branches : ℕ → ℕ → Effect
  leaves : Effect

unfoldable pub effect_as : Kind → Instruction → Effect
effect_as ld_abs i = plain
effect_as ld_len i = plain
effect_as ld_imm i = plain
effect_as ld_mem i = reads i.k
effect_as ldx_len i = plain
effect_as ldx_imm i = plain
effect_as ldx_mem i = reads i.k
effect_as st i = writes i.k
effect_as stx i = writes i.k
effect_as tax i = plain
effect_as txa i = plain
effect_as neg i = plain
effect_as ja i = jumps i.k
effect_as ret_k i = leaves
effect_as ret_a i = leaves
effect_as unknown i = plain
effect_as (alu o x) i = plain
effect_as (jump t x) i = branches i.jt i.jf

unfoldable pub effect_of : Instruction → Effect
effect_of i = effect_as (kind_of i.code) i

-- ---- the last instruction is a return

unfoldable pub is_return : Effect → Bool
is_return plain = false
is_return (reads k) = false
is_return (writes k) = false
is_return (jumps d) = false
is_return (branches d e) = false
is_return leaves = true

unfoldable pub ends_in_return : List Instruction → Bool
ends_in_return [] = false
ends_in_return (i ∷ []) = is_return (effect_of i)
ends_in_return (i ∷ (j ∷ p)) = ends_in_return (j ∷ p)

-- ---- no scratch word is read that may not have been written

-- a set of scratch words
abbrev pub Words : Type 0
Words = ℕ → Bool

abbrev pub every_word : Words
every_word k = true

abbrev pub no_word : Words
no_word k = false

abbrev pub both : Words → Words → Words
both v w k = v k && w k

abbrev pub with_word : ℕ → Words → Words
with_word j w k = eqb k j || w k

-- of what the jumps to each place ahead found written: at distance d, only what is in w too
abbrev pub narrowed : Words → ℕ → (ℕ → Words) → ℕ → Words
narrowed w d ahead e = cond (eqb e d) (both (ahead e) w) (ahead e)

-- The kernel's forward pass, one instruction on: `here` holds the words that are written before it, `beyond` what the jumps seen so far
-- leave for each place behind it, and `rest` is the pass over what is behind it. The pass walks on behind a return as if the run went
-- on there, and behind a jump, where only jumps lead, with every word.
unfoldable pub scratch_next : Effect → Words → (ℕ → Words) → (Words → (ℕ → Words) → Bool) → Bool
scratch_next plain here beyond rest = rest here beyond
scratch_next (reads k) here beyond rest = here k && rest here beyond
scratch_next (writes k) here beyond rest = rest (with_word k here) beyond
scratch_next (jumps d) here beyond rest = rest every_word (narrowed here d beyond)
scratch_next (branches d e) here beyond rest = rest every_word (narrowed here d (narrowed here e beyond))
scratch_next leaves here beyond rest = rest here beyond

unfoldable pub scratch_taken : Words → (ℕ → Words) → List Instruction → Bool
scratch_taken written ahead [] = true
scratch_taken written ahead (i ∷ p) =
    let here : Words = both written (ahead 0) in
    let beyond : ℕ → Words = λ d. ahead (suc d) in
    scratch_next (effect_of i) here beyond (λ v f. scratch_taken v f p)

-- ---- the whole

unfoldable pub accepts : List Instruction → Bool
accepts p =
    leb 1 (length p) && leb (length p) 4096 && each_taken 0 (length p) p && ends_in_return p && scratch_taken no_word (λ d. every_word) p

-- a filter is handed over as bytes, eight an instruction
unfoldable pub accepts_bytes : List ℕ → Bool
accepts_bytes bs = eqb (length bs % 8) 0 && accepts (filter_of bs)
