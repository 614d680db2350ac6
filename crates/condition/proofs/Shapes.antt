-- Laws of a condition's instructions: what is emitted for an operator is what its shape says, and how long that is.
use mathlib.Core.Path.{◌≡◌, refl, ap}
use mathlib.Core.Bool.{Bool, true, false, cond, not}
use mathlib.Core.List.{List, [], ◌∷◌, ◌++◌}
use Prim.Native.Nat.{ℕ, ◌+◌, ◌*◌, ◌≤◌}
use native.Mathlib.Omega.{arith}
use lib.ListN.{length}
use Rattle.definitions.specs.declared.Operator.{Operator}
use Rattle.definitions.specs.declared.Operator.TheVariants.{Eq, Ge, Gt, Le, Lt, MaskedEq, Ne}
use Rattle.definitions.specs.declared.Width.{Width}
use Rattle.definitions.specs.declared.Width.TheVariants.{Dword, Qword}
use Rattle.definitions.specs.declared.Condition.{Condition}
use Rattle.definitions.specs.declared.Instruction.{Instruction}
use Rattle.definitions.specs.Word.{low, high}
use lib.Bits.{bit_and}
use Rattle.definitions.specs.Emitted.{load, mask_by, if_equal, low_at, high_at, low_tests, high_tests, low_part, high_part, condition_code}
use Rattle.theorems.specs.Length.{for_width, condition_length}
use Rattle.theorems.proofs.Lengths.{length_condition_code, condition_bounds}
use Rattle.condition.specs.Shape.{masked, ordered, turned, jump_code, high_code}

-- ---- a dword has the low part alone, a qword both

module _ (q : Condition) (f : ℕ) where
  pub dword_is : q.width ≡ Dword → condition_code q f ≡ low_part q f
  unfolding condition_code
  dword_is e = rw e

  pub qword_is : q.width ≡ Qword → condition_code q f ≡ high_part q f ++ low_part q f
  unfolding condition_code
  qword_is e = rw e

-- ---- the masked operator, and all others by their shape

pub masked_is : (o : Operator) → masked o ≡ true → o ≡ MaskedEq
unfolding masked
masked_is Eq e = cc
masked_is Ge e = cc
masked_is Gt e = cc
masked_is Le e = cc
masked_is Lt e = cc
masked_is MaskedEq e = refl
masked_is Ne e = cc

abbrev pub jump : Operator → ℕ → ℕ → Instruction
jump o v f = record { code = jump_code o; jt = cond (turned o) f 0; jf = cond (not (turned o)) f 0; k = v }

pub low_shaped : (o : Operator) (v m f : ℕ) → masked o ≡ false → low_tests o v m f ≡ jump o (low v) f ∷ []
unfolding masked turned jump_code low_tests
low_shaped Eq v m f e = refl
low_shaped Ge v m f e = refl
low_shaped Gt v m f e = refl
low_shaped Le v m f e = refl
low_shaped Lt v m f e = refl
low_shaped MaskedEq v m f e = cc
low_shaped Ne v m f e = refl

pub high_shaped : (l : Instruction) (o : Operator) (v m f : ℕ) → masked o ≡ false
    → l ∷ high_tests o v m f ≡ high_code l (high v) (ordered o) (cond (turned o) f 0) (cond (not (turned o)) f 0)
unfolding masked turned ordered high_tests high_code
high_shaped l Eq v m f e = refl
high_shaped l Ge v m f e = refl
high_shaped l Gt v m f e = refl
high_shaped l Le v m f e = refl
high_shaped l Lt v m f e = refl
high_shaped l MaskedEq v m f e = cc
high_shaped l Ne v m f e = refl

-- ---- a condition as its code writes it: the low part, and in front of it of a qword the high part

module _ (q : Condition) (f : ℕ) where
  abbrev half : ℕ → (ℕ → ℕ) → ℕ → List Instruction
  half at part far = load at ∷ mask_by (part q.mask) ∷ if_equal (part (bit_and q.value q.mask)) 0 far ∷ []

  module _ (is : masked q.operator ≡ true) where
    pub masked_dword : q.width ≡ Dword → condition_code q f ≡ half (low_at q.index) low f
    unfolding condition_code low_part low_tests
    masked_dword e = rw (e, masked_is q.operator is)

    pub masked_qword : q.width ≡ Qword → condition_code q f ≡ half (high_at q.index) high (f + 3) ++ half (low_at q.index) low f
    unfolding condition_code low_part low_tests high_part high_tests
    masked_qword e = rw (e, masked_is q.operator is)

    pub masked_fits : 3 ≤ length (condition_code q f)
    unfolding condition_length
    masked_fits = rw (length_condition_code q f, masked_is q.operator is) (go q.width)
      where
        go : (w : Width) → 3 ≤ condition_length MaskedEq w
        go Dword = omega arith
        go Qword = omega arith

  module _ (plain : masked q.operator ≡ false) where
    abbrev low_code : List Instruction
    low_code = load (low_at q.index) ∷ jump q.operator (low q.value) f ∷ []

    pub compared_dword : q.width ≡ Dword → condition_code q f ≡ low_code
    unfolding condition_code low_part
    compared_dword e = rw (e, low_shaped q.operator q.value q.mask f plain)

    pub compared_qword : q.width ≡ Qword
        → condition_code q f ≡ high_code (load (high_at q.index)) (high q.value) (ordered q.operator) (cond (turned q.operator) f 0) (cond (not (turned q.operator)) f 0) ++ low_code
    unfolding condition_code low_part high_part
    compared_qword e =
        rw (e, low_shaped q.operator q.value q.mask f plain)
        (ap (λ (x : List Instruction). x ++ (load (low_at q.index) ∷ jump q.operator (low q.value) f ∷ [])) (high_shaped (load (high_at q.index)) q.operator q.value q.mask f plain))

    pub compared_fits : 2 ≤ length (condition_code q f)
    compared_fits = rw (length_condition_code q f) (go q.width (condition_bounds q.operator q.width).0)
      where
        go : (w : Width) {n : ℕ} → for_width w 2 4 ≤ n → 2 ≤ n
        go Dword h = h
        go Qword h = omega arith

pub high_two : (l : Instruction) (v : ℕ) (o : Bool) (t f : ℕ) → 2 ≤ length (high_code l v o t f)
unfolding high_code
high_two l v true t f = omega arith
high_two l v false t f = omega arith

-- ---- how many instructions there are is the same at every distance

pub length_shaped : (o : Operator) (w : Width)
    → condition_length o w ≡ for_width w (2 + cond (masked o) 1 0) (4 + cond (ordered o) 1 0 + 2 * cond (masked o) 1 0)
unfolding masked ordered condition_length
length_shaped Eq w = refl
length_shaped Ge w = refl
length_shaped Gt w = refl
length_shaped Le w = refl
length_shaped Lt w = refl
length_shaped MaskedEq w = refl
length_shaped Ne w = refl

-- the order of high words decides of no masked condition
pub ordered_unmasked : (o : Operator) → cond (ordered o) 1 0 + cond (masked o) 1 0 ≤ 1
unfolding masked ordered
ordered_unmasked Eq = omega arith
ordered_unmasked Ge = omega arith
ordered_unmasked Gt = omega arith
ordered_unmasked Le = omega arith
ordered_unmasked Lt = omega arith
ordered_unmasked MaskedEq = omega arith
ordered_unmasked Ne = omega arith

pub condition_long_lem : (q : Condition) (f : ℕ) {o : Operator} {w : Width} → q.operator ≡ o → q.width ≡ w → length (condition_code q f) ≡ condition_length o w
condition_long_lem q f d e = rw (length_condition_code q f, d, e)

pub condition_short : (q : Condition) (f : ℕ) → length (condition_code q f) ≤ 6
condition_short q f = rw (length_condition_code q f) (condition_bounds q.operator q.width).1
