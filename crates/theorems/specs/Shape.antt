-- What the proof of `taken` keeps of emitted code: each instruction is of a kind that touches no scratch word, goes to a place that
-- there is, and fits into its eight bytes. Nothing here has to be believed; no promise names it.
use Rattle.std.specs.Prelude.{ℕ, ◌%◌, ◌^◌, ◌<◌, ◌≡◌, true, List, [], ◌∷◌, length}
use Rattle.definitions.specs.declared.Instruction.{Instruction}
use Rattle.definitions.specs.Machine.{Kind, ld_abs, ld_len, ld_imm, ld_mem, ldx_len, ldx_imm, ldx_mem, st, stx, tax, txa, neg, ja, ret_k, ret_a, unknown, alu, jump, kind_of}
use Rattle.definitions.specs.Kernel.{operand_taken}

-- instruction i, with n instructions behind it
unfoldable pub LandsAs : Kind → Instruction → ℕ → Type 0
LandsAs ld_abs i n = (i.k % 4 ≡ 0) × (i.k < 64)
LandsAs ld_len i n = ⊥
LandsAs ld_imm i n = ⊥
LandsAs ld_mem i n = ⊥
LandsAs ldx_len i n = ⊥
LandsAs ldx_imm i n = ⊥
LandsAs ldx_mem i n = ⊥
LandsAs st i n = ⊥
LandsAs stx i n = ⊥
LandsAs tax i n = ⊥
LandsAs txa i n = ⊥
LandsAs neg i n = ⊥
LandsAs ja i n = i.k < n
LandsAs ret_k i n = Unit {0}
LandsAs ret_a i n = ⊥
LandsAs unknown i n = ⊥
LandsAs (alu o x) i n = operand_taken o x i.k ≡ true
LandsAs (jump t x) i n = (i.jt < n) × (i.jf < n)

-- the numbers have room in eight bytes
abbrev pub Fits : Instruction → Type 0
Fits i = (i.code < 2 ^ 16) × (i.jt < 2 ^ 8) × (i.jf < 2 ^ 8) × (i.k < 2 ^ 32)

unfoldable pub Shaped : List Instruction → Type 0
Shaped [] = Unit {0}
Shaped (i ∷ p) = LandsAs (kind_of i.code) i (length p) × Fits i × Shaped p
