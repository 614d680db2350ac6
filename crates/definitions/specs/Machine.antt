-- The classic BPF machine as the kernel runs it for seccomp. Written from linux/filter.h (codes, struct sock_filter), the
-- kernel's networking/filter text (what each code does) and seccomp(2) (struct seccomp_data).
--
-- Every jump goes forward, so a filter is run along its list: `run n filter state call` skips n instructions and runs on from
-- there. A run that does what the kernel's checks forbid is `stuck`.
use Rattle.std.specs.Prelude.{ℕ, zero, suc, ◌+◌, ◌-◌, ◌*◌, ◌/◌, ◌%◌, ◌^◌, ◌≤◌, ◌<◌, Bool, cond, not, ◌&&◌, List, [], ◌∷◌, ◌++◌, eqb, leb, ltb, length, get_or, set as store, replicate}
use Rattle.std.proofs.Math.Option.{Option, none, some}
use Rattle.std.specs.Int.Bits.{bit_and, bit_or, bit_xor}
use Rattle.definitions.specs.declared.Instruction.{Instruction}
use Rattle.definitions.specs.Word.{low, high, bytes_of, number_at}

-- ---- an instruction as eight bytes, a filter as bytes

unfoldable pub instruction_bytes : Instruction → List ℕ
instruction_bytes i = bytes_of 2 i.code ++ (i.jt ∷ i.jf ∷ bytes_of 4 i.k)

unfoldable pub filter_bytes : List Instruction → List ℕ
filter_bytes [] = []
filter_bytes (i ∷ p) = instruction_bytes i ++ filter_bytes p

unfoldable pub instruction_at : List ℕ → ℕ → Instruction
instruction_at bs at = record { code = number_at 2 bs at; jt = get_or bs (at + 2) 0; jf = get_or bs (at + 3) 0; k = number_at 4 bs (at + 4) }

unfoldable pub instructions_at : List ℕ → ℕ → ℕ → List Instruction
instructions_at bs zero at = []
instructions_at bs (suc n) at = instruction_at bs at ∷ instructions_at bs n (at + 8)

-- the filter that bytes stand for: an instruction for each eight
unfoldable pub filter_of : List ℕ → List Instruction
filter_of bs = instructions_at bs (length bs / 8) 0

-- ---- the call: what the kernel hands a filter

pub record Call : Type 0 where
  pub number : ℕ
  pub architecture : ℕ
  pub pointer : ℕ
  pub argument0 : ℕ
  pub argument1 : ℕ
  pub argument2 : ℕ
  pub argument3 : ℕ
  pub argument4 : ℕ
  pub argument5 : ℕ

-- struct seccomp_data of seccomp(2): the number, the architecture, the instruction pointer, six arguments, lowest byte first
abbrev pub call_of : List ℕ → Call
call_of d =
    record {
      number = number_at 4 d 0;
      architecture = number_at 4 d 4;
      pointer = number_at 8 d 8;
      argument0 = number_at 8 d 16;
      argument1 = number_at 8 d 24;
      argument2 = number_at 8 d 32;
      argument3 = number_at 8 d 40;
      argument4 = number_at 8 d 48;
      argument5 = number_at 8 d 56;
    }

-- the sixteen words of the call's 64 bytes
unfoldable pub words : Call → List ℕ
words c =
    c.number ∷ c.architecture
    ∷ low c.pointer ∷ high c.pointer
    ∷ low c.argument0 ∷ high c.argument0 ∷ low c.argument1 ∷ high c.argument1
    ∷ low c.argument2 ∷ high c.argument2 ∷ low c.argument3 ∷ high c.argument3
    ∷ low c.argument4 ∷ high c.argument4 ∷ low c.argument5 ∷ high c.argument5 ∷ []

-- the word at offset k, where a load from there is allowed
unfoldable pub fetch : Call → ℕ → Option ℕ
fetch c k = cond (eqb (k % 4) 0 && ltb k 64) (some (get_or (words c) (k / 4) 0)) none

-- ---- the 41 codes that seccomp takes, and what kind of instruction each is

pub data Alu : Type 0 where
  add sub mul div or and lsh rsh xor : Alu

pub data Test : Type 0 where
  eq gt ge set : Test

-- the second operand: the instruction's k, or the index register
pub data Source : Type 0 where
  by_k by_x : Source

pub data Kind : Type 0 where
  ld_abs ld_len ld_imm ld_mem ldx_len ldx_imm ldx_mem st stx tax txa neg ja ret_k ret_a unknown : Kind
  alu : Alu → Source → Kind
  jump : Test → Source → Kind

pub record Code : Type 0 where
  pub number : ℕ
  pub kind : Kind

abbrev pub row : ℕ → Kind → Code
row n k = record { number = n; kind = k }

unfoldable pub codes : List Code
codes =
    row 0x20 ld_abs ∷ row 0x80 ld_len ∷ row 0x00 ld_imm ∷ row 0x60 ld_mem
    ∷ row 0x81 ldx_len ∷ row 0x01 ldx_imm ∷ row 0x61 ldx_mem
    ∷ row 0x02 st ∷ row 0x03 stx ∷ row 0x07 tax ∷ row 0x87 txa ∷ row 0x84 neg
    ∷ row 0x05 ja ∷ row 0x06 ret_k ∷ row 0x16 ret_a
    ∷ row 0x04 (alu add by_k) ∷ row 0x0c (alu add by_x) ∷ row 0x14 (alu sub by_k) ∷ row 0x1c (alu sub by_x)
    ∷ row 0x24 (alu mul by_k) ∷ row 0x2c (alu mul by_x) ∷ row 0x34 (alu div by_k) ∷ row 0x3c (alu div by_x)
    ∷ row 0x44 (alu or by_k) ∷ row 0x4c (alu or by_x) ∷ row 0x54 (alu and by_k) ∷ row 0x5c (alu and by_x)
    ∷ row 0x64 (alu lsh by_k) ∷ row 0x6c (alu lsh by_x) ∷ row 0x74 (alu rsh by_k) ∷ row 0x7c (alu rsh by_x)
    ∷ row 0xa4 (alu xor by_k) ∷ row 0xac (alu xor by_x)
    ∷ row 0x15 (jump eq by_k) ∷ row 0x1d (jump eq by_x) ∷ row 0x25 (jump gt by_k) ∷ row 0x2d (jump gt by_x)
    ∷ row 0x35 (jump ge by_k) ∷ row 0x3d (jump ge by_x) ∷ row 0x45 (jump set by_k) ∷ row 0x4d (jump set by_x) ∷ []

unfoldable pub kind_in : List Code → ℕ → Kind
kind_in [] n = unknown
kind_in (r ∷ rs) n = cond (eqb n r.number) r.kind (kind_in rs n)

unfoldable pub kind_of : ℕ → Kind
kind_of n = kind_in codes n

-- ---- the state: accumulator, index register, sixteen scratch words

pub record State : Type 0 where
  pub A : ℕ
  pub X : ℕ
  pub M : List ℕ

abbrev pub set_a : ℕ → State → State
set_a a s = record { A = a; X = s.X; M = s.M }

abbrev pub set_x : ℕ → State → State
set_x x s = record { A = s.A; X = x; M = s.M }

abbrev pub set_m : ℕ → ℕ → State → State
set_m k w s = record { A = s.A; X = s.X; M = store s.M k w }

abbrev pub start : State
start = record { A = 0; X = 0; M = replicate 16 0 }

abbrev pub operand : Source → Instruction → State → ℕ
operand by_k i s = i.k
operand by_x i s = s.X

-- ---- one step: the run stops with a result, or skips some instructions and goes on

pub data Result : Type 0 where
  returns : ℕ → Result
  stuck : Result

pub data Step : Type 0 where
  stop : Result → Step
  next : ℕ → State → Step

-- 32-bit arithmetic. A division by 0 has no result; the kernel ends the run with action 0. A shift takes its distance modulo 32.
unfoldable pub compute : Alu → ℕ → ℕ → Option ℕ
compute add a b = some (low (a + b))
compute sub a b = some (low (a + 2 ^ 32 - b))
compute mul a b = some (low (a * b))
compute div a b = cond (eqb b 0) none (some (a / b))
compute or a b = some (bit_or a b)
compute and a b = some (bit_and a b)
compute lsh a b = some (low (a * 2 ^ (b % 32)))
compute rsh a b = some (a / 2 ^ (b % 32))
compute xor a b = some (bit_xor a b)

unfoldable pub test_holds : Test → ℕ → ℕ → Bool
test_holds eq a b = eqb a b
test_holds gt a b = ltb b a
test_holds ge a b = leb b a
test_holds set a b = not (eqb (bit_and a b) 0)

-- a value for the accumulator, or how the run ends where there is none
unfoldable pub into_a : Result → Option ℕ → State → Step
into_a r none s = stop r
into_a r (some w) s = next 0 (set_a w s)

unfoldable pub step_as : Kind → Instruction → State → Call → Step
step_as ld_abs i s c = into_a stuck (fetch c i.k) s
step_as ld_len i s c = next 0 (set_a 64 s)
step_as ld_imm i s c = next 0 (set_a i.k s)
step_as ld_mem i s c = next 0 (set_a (get_or s.M i.k 0) s)
step_as ldx_len i s c = next 0 (set_x 64 s)
step_as ldx_imm i s c = next 0 (set_x i.k s)
step_as ldx_mem i s c = next 0 (set_x (get_or s.M i.k 0) s)
step_as st i s c = next 0 (set_m i.k s.A s)
step_as stx i s c = next 0 (set_m i.k s.X s)
step_as tax i s c = next 0 (set_x s.A s)
step_as txa i s c = next 0 (set_a s.X s)
step_as neg i s c = next 0 (set_a (low (2 ^ 32 - s.A)) s)
step_as ja i s c = next i.k s
step_as ret_k i s c = stop (returns i.k)
step_as ret_a i s c = stop (returns s.A)
step_as unknown i s c = stop stuck
step_as (alu o x) i s c = into_a (returns 0) (compute o s.A (operand x i s)) s
step_as (jump t x) i s c = next (cond (test_holds t s.A (operand x i s)) i.jt i.jf) s

unfoldable pub step : Instruction → State → Call → Step
step i s c = step_as (kind_of i.code) i s c

-- ---- a run: its result, and the places of the instructions that it executes

unfoldable pub run : ℕ → List Instruction → State → Call → Result
run n [] s c = stuck
run zero (i ∷ p) s c = elim (step i s c) [ stop r ↦ r | next n t ↦ run n p t c ]
run (suc n) (i ∷ p) s c = run n p s c

-- the same walk, where the list's first instruction stands at place `at` of the filter
unfoldable pub visits : ℕ → ℕ → List Instruction → State → Call → List ℕ
visits at n [] s c = []
visits at zero (i ∷ p) s c = at ∷ elim (step i s c) [ stop r ↦ [] | next n t ↦ visits (at + 1) n p t c ]
visits at (suc n) (i ∷ p) s c = visits (at + 1) n p s c

abbrev pub runs : List Instruction → Call → Result
runs p c = run 0 p start c

-- how many instructions a run executes
abbrev pub steps : List Instruction → Call → ℕ
steps p c = length (visits 0 0 p start c)

-- places that only go up, from `at` on, and stay below n: so none comes twice
abbrev pub Climbs : ℕ → ℕ → List ℕ → Type 0
Climbs at n [] = Unit {0}
Climbs at n (k ∷ ks) = (at ≤ k) × (k < n) × Climbs (k + 1) n ks
