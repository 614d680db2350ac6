-- Names and the numbers that stand for them: from a name to its number and back, from a number to its name and back, and which numbers
-- stand for a name at all.
use mathlib.Core.Path.{◌≡◌, refl, sym, ◌∙◌}
use mathlib.Core.Bool.{Bool, true, false, cond, ◌&&◌, ◌||◌}
use mathlib.Core.Option.{Option, none, some}
use Prim.Native.Nat.{ℕ, zero, suc, ◌+◌, ◌^◌, ◌<◌}
use native.Mathlib.Omega.{arith}
use lib.Dec.{eqb, leb}
use borrow.Author.Tests.{eqb-true, eq-eqb, ne_eqb, leb-true, le-leb, lt-leb}
use Rattle.definitions.specs.declared.Operator.{Operator}
use Rattle.definitions.specs.declared.Operator.TheVariants.{Eq, Ge, Gt, Le, Lt, MaskedEq, Ne}
use Rattle.definitions.specs.declared.Width.{Width}
use Rattle.definitions.specs.declared.Width.TheVariants.{Dword, Qword}
use Rattle.definitions.specs.RuleSet.{Architecture, x86_64, aarch64, riscv64}
use Rattle.definitions.specs.Format.{architecture_number, native_flag, head_number, width_number, operator_number, MaskInRange, native_of, unflagged, architecture_of, width_of, operator_of, mask_taken}
use Rattle.definitions.specs.Format.{is_there, then, check}
use Rattle.theorems.proofs.Tests.{some_same}

-- ---- from a name to its number and back

pub width_back : (w : Width) → width_of (width_number w) ≡ some w
unfolding width_of width_number
width_back Dword = refl
width_back Qword = refl

pub operator_back : (o : Operator) → operator_of (operator_number o) ≡ some o
unfolding operator_of operator_number
operator_back Eq = refl
operator_back Ge = refl
operator_back Gt = refl
operator_back Le = refl
operator_back Lt = refl
operator_back MaskedEq = refl
operator_back Ne = refl

-- the head's first number: architecture and flag
pub unflagged_back : (a : Architecture) (native : Bool) → unflagged (head_number a native) ≡ architecture_number a
unfolding unflagged native_of head_number architecture_number
unflagged_back x86_64 true = refl
unflagged_back x86_64 false = refl
unflagged_back aarch64 true = refl
unflagged_back aarch64 false = refl
unflagged_back riscv64 true = refl
unflagged_back riscv64 false = refl

pub architecture_back : (a : Architecture) (native : Bool) → architecture_of (head_number a native) ≡ some a
unfolding architecture_of architecture_number
architecture_back x86_64 native = rw (unflagged_back x86_64 native)
architecture_back aarch64 native = rw (unflagged_back aarch64 native)
architecture_back riscv64 native = rw (unflagged_back riscv64 native)

architecture_small : (a : Architecture) → architecture_number a < native_flag
unfolding architecture_number
architecture_small x86_64 = omega arith
architecture_small aarch64 = omega arith
architecture_small riscv64 = omega arith

pub native_back : (a : Architecture) (native : Bool) → native_of (head_number a native) ≡ native
unfolding native_of head_number
native_back a true = le-leb native_flag (architecture_number a + native_flag) (omega arith)
native_back a false = lt-leb native_flag (architecture_number a + 0) (omega (arith, architecture_small a))

pub head_byte : (a : Architecture) (native : Bool) → head_number a native < 256 ^ 4
unfolding head_number
head_byte a true = omega (arith, architecture_small a)
head_byte a false = omega (arith, architecture_small a)

-- a mask in range is taken, and has room
pub mask_back : (o : Operator) (m : ℕ) → MaskInRange o m → (mask_taken o m ≡ true) × (m < 256 ^ 8)
unfolding mask_taken
mask_back Eq m h = (eq-eqb m 0 h, omega arith)
mask_back Ge m h = (eq-eqb m 0 h, omega arith)
mask_back Gt m h = (eq-eqb m 0 h, omega arith)
mask_back Le m h = (eq-eqb m 0 h, omega arith)
mask_back Lt m h = (eq-eqb m 0 h, omega arith)
mask_back MaskedEq m h = (refl, h)
mask_back Ne m h = (eq-eqb m 0 h, omega arith)

-- ---- from a number to its name and back

none_some : {A P : Type 0} {y : A} → none ≡ some y → P
none_some h = absurd (let z : ◌≡◌ {A = ℕ} 0 1 = cc in omega arith)

-- a row of a table of names: x, whose number is k
pick : {A : Type 0} (number : A → ℕ) (n k : ℕ) (x : A) {y : A} {rest : Option A} → number x ≡ k → (rest ≡ some y → number y ≡ n)
    → cond (eqb n k) (some x) rest ≡ some y → number y ≡ n
pick number n k x {y} {rest} e more h = go (eqb n k) refl h
  where
    go : (t : Bool) → eqb n k ≡ t → cond t (some x) rest ≡ some y → number y ≡ n
    go true p q = rw (← some_same q) (e ∙ sym (eqb-true n k p))
    go false p q = more q

pub width_forth : (n : ℕ) (w : Width) → width_of n ≡ some w → width_number w ≡ n
unfolding width_of width_number
width_forth n w = pick width_number n 4 Dword refl (pick width_number n 8 Qword refl none_some)

pub operator_forth : (n : ℕ) (o : Operator) → operator_of n ≡ some o → operator_number o ≡ n
unfolding operator_of operator_number
operator_forth n o =
    pick operator_number n 0 Eq refl (pick operator_number n 1 Ge refl (pick operator_number n 2 Gt refl (pick operator_number n 3 Le refl
    (pick operator_number n 4 Lt refl (pick operator_number n 5 MaskedEq refl (pick operator_number n 6 Ne refl none_some))))))

architecture_forth : (n : ℕ) (a : Architecture) → architecture_of n ≡ some a → architecture_number a ≡ unflagged n
unfolding architecture_of architecture_number
architecture_forth n a =
    pick architecture_number (unflagged n) 1 x86_64 refl
    (pick architecture_number (unflagged n) 2 aarch64 refl (pick architecture_number (unflagged n) 3 riscv64 refl none_some))

pub head_forth : (n : ℕ) (a : Architecture) → architecture_of n ≡ some a → head_number a (native_of n) ≡ n
unfolding head_number unflagged native_of
head_forth n a h = rw (architecture_forth n a h) (go (native_of n) refl)
  where
    go : (native : Bool) → native_of n ≡ native → unflagged n + cond native native_flag 0 ≡ n
    go true e = rw e (omega (arith, leb-true native_flag n e))
    go false e = rw e (omega arith)

pub mask_forth : (o : Operator) (m : ℕ) → m < 2 ^ 64 → mask_taken o m ≡ true → MaskInRange o m
unfolding mask_taken
mask_forth Eq m s h = eqb-true m 0 h
mask_forth Ge m s h = eqb-true m 0 h
mask_forth Gt m s h = eqb-true m 0 h
mask_forth Le m s h = eqb-true m 0 h
mask_forth Lt m s h = eqb-true m 0 h
mask_forth MaskedEq m s h = s
mask_forth Ne m s h = eqb-true m 0 h

-- ---- which numbers stand for a name: the tests of the code

pub architecture_there : (n : ℕ) → is_there (architecture_of n) ≡ (eqb (unflagged n) 1 || (eqb (unflagged n) 2 || eqb (unflagged n) 3))
unfolding architecture_of
architecture_there n = go (eqb (unflagged n) 1) (eqb (unflagged n) 2) (eqb (unflagged n) 3)
  where
    go : (a b c : Bool) → is_there (cond a (some x86_64) (cond b (some aarch64) (cond c (some riscv64) none))) ≡ (a || (b || c))
    go true b c = refl
    go false true c = refl
    go false false true = refl
    go false false false = refl

pub width_there : (n : ℕ) → is_there (width_of n) ≡ (eqb n 4 || eqb n 8)
unfolding width_of
width_there n = go (eqb n 4) (eqb n 8)
  where
    go : (a b : Bool) → is_there (cond a (some Dword) (cond b (some Qword) none)) ≡ (a || b)
    go true b = refl
    go false true = refl
    go false false = refl

there_some : {A : Type 0} (t : Bool) (a : A) → is_there (check t (some a)) ≡ t
there_some true a = refl
there_some false a = refl

pub operator_there_lem : {A : Type 0} (n m : ℕ) (x : Operator → A)
    → is_there (then (operator_of n) (λ o. check (mask_taken o m) (some (x o)))) ≡ (leb n 6 && (eqb n 5 || eqb m 0))
unfolding operator_of mask_taken
operator_there_lem zero m x = there_some (eqb m 0) (x Eq)
operator_there_lem (suc zero) m x = there_some (eqb m 0) (x Ge)
operator_there_lem (suc (suc zero)) m x = there_some (eqb m 0) (x Gt)
operator_there_lem (suc (suc (suc zero))) m x = there_some (eqb m 0) (x Le)
operator_there_lem (suc (suc (suc (suc zero)))) m x = there_some (eqb m 0) (x Lt)
operator_there_lem (suc (suc (suc (suc (suc zero))))) m x = refl
operator_there_lem (suc (suc (suc (suc (suc (suc zero)))))) m x = there_some (eqb m 0) (x Ne)
operator_there_lem (suc (suc (suc (suc (suc (suc (suc k))))))) m x = above (suc (suc (suc (suc (suc (suc (suc k))))))) (omega arith)
  where
    above : (n : ℕ) → 6 < n → is_there (then (operator_of n) (λ o. check (mask_taken o m) (some (x o)))) ≡ (leb n 6 && (eqb n 5 || eqb m 0))
    above n h =
        rw (
          lt-leb n 6 h,
          ne_eqb n 0 (omega arith),
          ne_eqb n 1 (omega arith),
          ne_eqb n 2 (omega arith),
          ne_eqb n 3 (omega arith),
          ne_eqb n 4 (omega arith),
          ne_eqb n 5 (omega arith),
          ne_eqb n 6 (omega arith),
        )
