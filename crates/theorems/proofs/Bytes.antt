-- BYTES: the bytes of a filter stand for that filter, so right, taken and once hold of the bytes.
use mathlib.Core.Path.{◌≡◌, refl, ap, ap₂}
use mathlib.Core.List.{List, [], ◌∷◌, ◌++◌, append_assoc}
use Prim.Native.Nat.{ℕ, zero, suc, ◌+◌, ◌*◌, ◌/◌, ◌%◌}
use native.Mathlib.Omega.{arith}
use lib.ListN.{length, length-append}
use borrow.Author.Tests.{eq-eqb}
use Rattle.definitions.specs.declared.Instruction.{Instruction}
use Rattle.definitions.specs.Word.{bytes_of, number_at}
use Rattle.definitions.specs.Machine.{instruction_bytes, filter_bytes, instruction_at, instructions_at, filter_of}
use Rattle.definitions.specs.Kernel.{accepts_bytes}
use Rattle.definitions.specs.Format.{Each}
use Rattle.definitions.specs.Emitted.{emitted}
use Rattle.theorems.specs.Statements.{Bytes, RightBytes, TakenBytes, OnceBytes}
use Rattle.theorems.specs.Shape.{Fits, Shaped}
use Rattle.theorems.proofs.Tests.{true_both}
use Rattle.theorems.proofs.Words.{number_bytes, number_here, number_past, byte_past}
use Rattle.theorems.proofs.Right.{right}
use Rattle.theorems.proofs.Once.{once}
use Rattle.theorems.proofs.Taken.{taken, emitted_sound}

length_instruction : (i : Instruction) → length (instruction_bytes i) ≡ 8
unfolding instruction_bytes bytes_of
length_instruction i = refl

pub length_filter : (p : List Instruction) → length (filter_bytes p) ≡ 8 * length p
unfolding filter_bytes
length_filter [] = refl
length_filter (i ∷ p) = rw (length-append, length_instruction, length_filter p) (omega arith)

instruction_back : (i : Instruction) (p q : List ℕ) (at : ℕ) → length p ≡ at → Fits i → instruction_at (p ++ (instruction_bytes i ++ q)) at ≡ i
unfolding instruction_at instruction_bytes bytes_of number_at
instruction_back i p q at e f =
    let t = instruction_bytes i ++ q in
    rw (
      number_here 2 p t at e,
      byte_past p t at 2 e,
      byte_past p t at 3 e,
      number_past 4 p t at 4 e,
      number_bytes 2 i.code f.0,
      number_bytes 4 i.k f.3,
    )

instructions_back : (p : List Instruction) (front : List ℕ) (at : ℕ) → length front ≡ at → Each Fits p
    → instructions_at (front ++ filter_bytes p) (length p) at ≡ p
unfolding instructions_at filter_bytes
instructions_back [] front at e f = refl
instructions_back (i ∷ p) front at e f =
    let more = instructions_back p (front ++ instruction_bytes i) (at + 8) (rw (length-append, e, length_instruction)) f.1 in
    ap₂ (λ (x : Instruction) (xs : List Instruction). x ∷ xs) (instruction_back i front (filter_bytes p) at e f.0) (rw append_assoc at more)

pub filter_back : (p : List Instruction) → Each Fits p → filter_of (filter_bytes p) ≡ p
unfolding filter_of
filter_back p f =
    let n : 8 * length p / 8 ≡ length p = omega arith in
    rw (length_filter p, n) (instructions_back p [] 0 refl f)

pub shaped_fits : (p : List Instruction) → Shaped p → Each Fits p
unfolding Shaped
shaped_fits [] h = tt
shaped_fits (i ∷ p) h = (h.1, shaped_fits p h.2)

pub emitted_back : Bytes
emitted_back rs r t = filter_back (emitted rs) (shaped_fits (emitted rs) (emitted_sound rs r t).shaped)

pub bytes_right : RightBytes
bytes_right rs r t c = rw (emitted_back rs r t) (right rs t c)

pub bytes_taken : TakenBytes
unfolding accepts_bytes
bytes_taken rs r t n =
    let l = length_filter (emitted rs) in
    true_both (eq-eqb (length (filter_bytes (emitted rs)) % 8) 0 (omega arith)) (rw (emitted_back rs r t) (taken rs r t n))

-- bytes that stand for a filter are run like every filter: at most one step an instruction, and there is one for each eight bytes
length_instructions : (bs : List ℕ) (n at : ℕ) → length (instructions_at bs n at) ≡ n
unfolding instructions_at
length_instructions bs zero at = refl
length_instructions bs (suc n) at = ap suc (length_instructions bs n (at + 8))

pub bytes_once : OnceBytes
unfolding filter_of
bytes_once bs c = rw (length_instructions bs (length bs / 8) 0) at (once (filter_of bs) c)
