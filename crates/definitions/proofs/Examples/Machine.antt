-- Examples of Machine, by computation: small filters that show what a code does where its description leaves room for doubt.
use mathlib.Core.Path.{◌≡◌, refl}
use mathlib.Core.Bool.{Bool, true, false, ◌&&◌}
use mathlib.Core.List.{List, [], ◌∷◌}
use Prim.Native.Nat.{ℕ, ◌+◌, ◌-◌, ◌^◌}
use lib.Dec.{eqb}
use lib.ListN.{length}
use Rattle.definitions.specs.declared.Instruction.{Instruction}
use Rattle.definitions.specs.Word.{bytes_of, number_of, number_at}
use Rattle.definitions.specs.Machine.{instruction_bytes, filter_bytes, instruction_at, instructions_at, filter_of}
use Rattle.definitions.specs.Machine.{Call, Result, returns, stuck, words, fetch, codes, kind_in, kind_of, into_a, compute, test_holds, step_as, step, run, visits, runs, steps}
use Rattle.definitions.specs.Answer.{all}
use Rattle.definitions.specs.Emitted.{instruction}
use Rattle.definitions.proofs.Examples.RuleSet.{call}

codes_taken : length codes ≡ 41
unfolding codes
codes_taken = refl

-- an instruction that makes no jump: code and k
abbrev pub op : ℕ → ℕ → Instruction
op c k = instruction c 0 0 k

-- run on call 7 with arguments 1, 2 ^ 32 + 2, 3: what a filter returns, and how many instructions that takes
record Row : Type 0 where
  filter : List Instruction
  action : ℕ
  count : ℕ

abbrev row : List Instruction → ℕ → ℕ → Row
row p a n = record { filter = p; action = a; count = n }

abbrev table : List Row
table =
    -- loads: the call's words, its length, a constant
    row (op 0x20 0 ∷ op 0x16 0 ∷ []) 7 2
    ∷ row (op 0x20 28 ∷ op 0x16 0 ∷ []) 1 2
    ∷ row (op 0x80 0 ∷ op 0x16 0 ∷ []) 64 2
    ∷ row (op 0x81 0 ∷ op 0x87 0 ∷ op 0x16 0 ∷ []) 64 3
    -- scratch words: from the accumulator and from the index register
    ∷ row (op 0x00 9 ∷ op 0x02 3 ∷ op 0x00 0 ∷ op 0x60 3 ∷ op 0x16 0 ∷ []) 9 5
    ∷ row (op 0x01 8 ∷ op 0x03 15 ∷ op 0x61 15 ∷ op 0x87 0 ∷ op 0x16 0 ∷ []) 8 5
    -- arithmetic goes modulo 2 ^ 32
    ∷ row (op 0x00 1 ∷ op 0x84 0 ∷ op 0x16 0 ∷ []) (2 ^ 32 - 1) 3
    ∷ row (op 0x00 0 ∷ op 0x84 0 ∷ op 0x16 0 ∷ []) 0 3
    ∷ row (op 0x00 3 ∷ op 0x14 4 ∷ op 0x16 0 ∷ []) (2 ^ 32 - 1) 3
    ∷ row (op 0x00 (2 ^ 32 - 1) ∷ op 0x04 2 ∷ op 0x16 0 ∷ []) 1 3
    ∷ row (op 0x00 (2 ^ 31) ∷ op 0x24 3 ∷ op 0x16 0 ∷ []) (2 ^ 31) 3
    ∷ row (op 0x00 12 ∷ op 0x44 3 ∷ op 0xa4 6 ∷ op 0x54 11 ∷ op 0x16 0 ∷ []) 9 5
    -- a division by an index register of 0 ends the run with action 0
    ∷ row (op 0x00 7 ∷ op 0x01 0 ∷ op 0x3c 0 ∷ op 0x06 5 ∷ []) 0 3
    ∷ row (op 0x00 7 ∷ op 0x01 2 ∷ op 0x3c 0 ∷ op 0x16 0 ∷ []) 3 4
    -- shifts by the index register go modulo 32
    ∷ row (op 0x00 1 ∷ op 0x01 33 ∷ op 0x6c 0 ∷ op 0x16 0 ∷ []) 2 4
    ∷ row (op 0x00 8 ∷ op 0x01 34 ∷ op 0x7c 0 ∷ op 0x16 0 ∷ []) 2 4
    -- jumps: always; if equal, greater, at least, if some bit is set; by the index register
    ∷ row (op 0x05 1 ∷ op 0x06 1 ∷ op 0x06 2 ∷ []) 2 2
    ∷ row (op 0x20 0 ∷ instruction 0x15 1 0 7 ∷ op 0x06 1 ∷ op 0x06 2 ∷ []) 2 3
    ∷ row (op 0x20 0 ∷ instruction 0x25 1 0 7 ∷ op 0x06 1 ∷ op 0x06 2 ∷ []) 1 3
    ∷ row (op 0x20 0 ∷ instruction 0x35 1 0 7 ∷ op 0x06 1 ∷ op 0x06 2 ∷ []) 2 3
    ∷ row (op 0x20 0 ∷ instruction 0x45 1 0 8 ∷ op 0x06 1 ∷ op 0x06 2 ∷ []) 1 3
    ∷ row (op 0x20 0 ∷ op 0x01 6 ∷ instruction 0x2d 1 0 9 ∷ op 0x06 1 ∷ op 0x06 2 ∷ []) 2 4
    ∷ row (op 0x20 0 ∷ op 0x07 0 ∷ instruction 0x1d 1 0 9 ∷ op 0x06 1 ∷ op 0x06 2 ∷ []) 2 4
    ∷ []

abbrev pub gives : Result → ℕ → Bool
gives (returns a) b = eqb a b
gives stuck b = false

abbrev asked : Call
asked = call 7 1 (2 ^ 32 + 2) 3

table_holds : all (λ (r : Row). gives (runs r.filter asked) r.action && eqb (steps r.filter asked) r.count) table ≡ true
unfolding run visits step step_as kind_of kind_in codes fetch words into_a compute test_holds
table_holds = refl

-- what the kernel would refuse is stuck: a load from elsewhere, a code that there is none, a run off the end
stuck_holds : (runs (op 0x20 64 ∷ op 0x06 1 ∷ []) asked ≡ stuck) × (runs (op 0x94 1 ∷ op 0x06 1 ∷ []) asked ≡ stuck) × (runs (op 0x05 1 ∷ op 0x06 1 ∷ []) asked ≡ stuck)
unfolding run step step_as kind_of kind_in codes fetch into_a
stuck_holds = (refl, refl, refl)

-- ---- eight bytes an instruction, lowest first

eight_bytes : filter_bytes (instruction 0x15 1 2 0xc000003e ∷ []) ≡ 0x15 ∷ 0 ∷ 1 ∷ 2 ∷ 0x3e ∷ 0 ∷ 0 ∷ 0xc0 ∷ []
unfolding filter_bytes instruction_bytes bytes_of
eight_bytes = refl

read_bytes : filter_of (0x34 ∷ 0x12 ∷ 1 ∷ 2 ∷ 0x3e ∷ 0 ∷ 0 ∷ 0xc0 ∷ 6 ∷ []) ≡ instruction 0x1234 1 2 0xc000003e ∷ []
unfolding filter_of instructions_at instruction_at number_at number_of
read_bytes = refl
