-- Examples of Kernel, by computation: filters that pass, and for each check one that fails that check alone.
use mathlib.Core.Path.{◌≡◌, refl}
use mathlib.Core.Bool.{true, false, not}
use mathlib.Core.List.{List, [], ◌∷◌, ◌++◌}
use lib.ListN.{replicate}
use Rattle.definitions.specs.declared.Instruction.{Instruction}
use Rattle.definitions.specs.Word.{number_of, number_at}
use Rattle.definitions.specs.Machine.{instruction_at, instructions_at, filter_of, codes, kind_in, kind_of}
use Rattle.definitions.specs.Kernel.{constant_taken, operand_taken, taken_as, each_taken, effect_as, effect_of, is_return, ends_in_return, scratch_next, scratch_taken, accepts, accepts_bytes}
use Rattle.definitions.specs.Answer.{all}
use Rattle.definitions.specs.Emitted.{load, jump_by, if_equal, return}
use Rattle.definitions.proofs.Examples.Machine.{op}

-- one instruction, and a return behind it
abbrev before : Instruction → List Instruction
before i = i ∷ return 0 ∷ []

good : all accepts (
    (return 0 ∷ [])
    ∷ (op 0x16 0 ∷ [])
    ∷ before (load 60)
    ∷ before (op 0x34 1) ∷ before (op 0x64 31) ∷ before (op 0x74 31)
    ∷ before (op 0x3c 0) ∷ before (op 0x6c 99)
    ∷ before (op 0x02 15) ∷ before (op 0x03 15)
    ∷ before (jump_by 0) ∷ before (if_equal 1 0 0)
    ∷ (op 0x02 3 ∷ op 0x60 3 ∷ op 0x61 3 ∷ return 0 ∷ [])
    -- both ways to the load have written the word
    ∷ (if_equal 1 0 2 ∷ op 0x02 3 ∷ jump_by 1 ∷ op 0x03 3 ∷ op 0x60 3 ∷ return 0 ∷ [])
    -- behind a jump, where no way leads, every word counts as written
    ∷ (jump_by 1 ∷ op 0x60 3 ∷ return 0 ∷ [])
    ∷ []) ≡ true
unfolding accepts each_taken taken_as operand_taken constant_taken ends_in_return is_return scratch_taken scratch_next effect_of effect_as kind_of kind_in codes
good = refl

broken : all (λ (p : List Instruction). not (accepts p)) (
    []
    -- the last is no return
    ∷ (return 0 ∷ load 0 ∷ [])
    -- a load that is not aligned, or not in the call
    ∷ before (load 2) ∷ before (load 64)
    -- a jump to the end, and beyond a byte's reach
    ∷ before (jump_by 1) ∷ before (if_equal 1 1 0) ∷ before (if_equal 1 0 1) ∷ before (jump_by 0xffffffff)
    -- a code that seccomp does not take: load half a word, remainder, negate by the index register
    ∷ before (op 0x28 0) ∷ before (op 0x94 3) ∷ before (op 0x8c 0) ∷ before (op 0x120 0)
    -- division by a constant 0, a constant shift of 32
    ∷ before (op 0x34 0) ∷ before (op 0x64 32) ∷ before (op 0x74 32)
    -- a scratch word that there is not
    ∷ (op 0x02 16 ∷ return 0 ∷ []) ∷ (op 0x03 16 ∷ return 0 ∷ []) ∷ (op 0x02 3 ∷ op 0x60 16 ∷ return 0 ∷ []) ∷ (op 0x02 3 ∷ op 0x61 16 ∷ return 0 ∷ [])
    -- a scratch word that was not written, or on one way only
    ∷ before (op 0x60 3) ∷ before (op 0x61 3) ∷ (op 0x02 3 ∷ op 0x60 4 ∷ return 0 ∷ [])
    ∷ (if_equal 1 0 1 ∷ op 0x02 3 ∷ op 0x60 3 ∷ return 0 ∷ [])
    ∷ (if_equal 1 1 0 ∷ op 0x02 3 ∷ op 0x60 3 ∷ return 0 ∷ [])
    ∷ (if_equal 1 0 1 ∷ jump_by 1 ∷ op 0x02 3 ∷ op 0x60 3 ∷ return 0 ∷ [])
    -- the pass walks on behind a return, so this read is refused although no way leads to it
    ∷ (return 0 ∷ op 0x60 0 ∷ return 0 ∷ [])
    ∷ []) ≡ true
unfolding accepts each_taken taken_as operand_taken constant_taken ends_in_return is_return scratch_taken scratch_next effect_of effect_as kind_of kind_in codes
broken = refl

-- 4,096 instructions are taken, one more is not
longest : (accepts (replicate 4095 (load 0) ++ (return 0 ∷ [])) ≡ true) × (accepts (replicate 4096 (load 0) ++ (return 0 ∷ [])) ≡ false)
unfolding accepts each_taken taken_as operand_taken constant_taken ends_in_return is_return scratch_taken scratch_next effect_of effect_as kind_of kind_in codes
longest = (refl, refl)

-- bytes that are not a multiple of eight are no filter
whole : (accepts_bytes (6 ∷ 0 ∷ 0 ∷ 0 ∷ 0 ∷ 0 ∷ 0 ∷ 0 ∷ []) ≡ true) × (accepts_bytes (6 ∷ 0 ∷ 0 ∷ 0 ∷ 0 ∷ 0 ∷ 0 ∷ 0 ∷ 0 ∷ []) ≡ false)
unfolding accepts_bytes filter_of instructions_at instruction_at number_at number_of accepts each_taken taken_as ends_in_return is_return scratch_taken scratch_next effect_of effect_as kind_of kind_in codes
whole = (refl, refl)
