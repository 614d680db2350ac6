-- Whether a condition stands at a place of a rule set's bytes: the code's tests are the format's.
use mathlib.Core.Path.{◌≡◌, refl, ap}
use mathlib.Core.Bool.{Bool, true, false, ◌&&◌, ◌||◌}
use mathlib.Core.List.{List}
use mathlib.Core.Option.{Option, none, some}
use Prim.Native.Nat.{ℕ, ◌+◌, ◌/◌, ◌≤◌}
use native.Mathlib.Omega.{arith}
use lib.Dec.{eqb, leb}
use lib.ListN.{length, get_or}
use borrow.Author.Tests.{leb-true}
use Rattle.definitions.specs.declared.Condition.{Condition}
use Rattle.definitions.specs.Word.{number_at, AreBytes}
use Rattle.definitions.specs.Format.{is_there, Read, then, check, width_of, operator_of, mask_taken, condition_at}
use Rattle.theorems.proofs.Names.{operator_there_lem}
use Rattle.theorems.proofs.Tests.{check_some, both_true}
use Rattle.bpf.proofs.Buffer.{number_suc}
use Rattle.set_view.specs.Parts.{condition_here, condition_taken}
use Rattle.set_view.proofs.Agree.{condition_agrees}

there_check : {A : Type 0} (t : Bool) (x : Option A) → is_there (check t x) ≡ (t && is_there x)
there_check true x = refl
there_check false x = refl

there_then : {A B : Type 0} (x : Option A) (f : A → Option B) (t : Bool) → ((a : A) → is_there (f a) ≡ t) → is_there (then x f) ≡ (is_there x && t)
there_then none f t h = refl
there_then (some a) f t h = h a

-- the five bytes behind index, width and operator are what is above the lowest three of eight
zeros_above : (s : List ℕ) (at : ℕ) → AreBytes s → at + 8 ≤ length s → number_at 8 s at / 16777216 ≡ number_at 5 s (at + 3)
zeros_above s at bytes room =
    let e2 : at + 1 + 1 ≡ at + 2 = omega arith in
    let e3 : at + 2 + 1 ≡ at + 3 = omega arith in
    let n7 = rw e2 at (number_suc 6 s (at + 1) (omega arith)) in
    let n6 = rw e3 at (number_suc 5 s (at + 2) (omega arith)) in
    omega (arith, number_suc 7 s at (omega arith), n7, n6, bytes at, bytes (at + 1), bytes (at + 2))

pub condition_there_lem : (s : List ℕ) (at : ℕ) → AreBytes s → is_there (condition_at s at) ≡ condition_taken s at
unfolding condition_at condition_taken
condition_there_lem s at bytes = go (leb (at + 24) (length s)) refl
  where
    rest : Option (Read Condition)
    rest =
        then (width_of (get_or s (at + 1) 0)) (λ w. then (operator_of (get_or s (at + 2) 0)) (λ o.
        check (mask_taken o (number_at 8 s (at + 16)))
        (some (record {
          value = record { index = get_or s at 0; width = w; operator = o; value = number_at 8 s (at + 8); mask = number_at 8 s (at + 16) };
          past = at + 24;
        }))))

    go : (t : Bool) → leb (at + 24) (length s) ≡ t
        → is_there (check (t && eqb (number_at 5 s (at + 3)) 0) rest)
        ≡ (t && (eqb (number_at 8 s at / 16777216) 0
        && (is_there (width_of (get_or s (at + 1) 0)) && (leb (get_or s (at + 2) 0) 6 && (eqb (get_or s (at + 2) 0) 5 || eqb (number_at 8 s (at + 16)) 0)))))
    go false e = refl
    go true e =
        let room = leb-true (at + 24) (length s) e in
        rw (zeros_above s at bytes (omega arith), there_check)
        (ap (λ (b : Bool). eqb (number_at 5 s (at + 3)) 0 && b)
        (there_then (width_of (get_or s (at + 1) 0)) _ _ (λ w. operator_there_lem (get_or s (at + 2) 0) (number_at 8 s (at + 16)) _)))

there_value : {A : Type 0} (x : Option A) → is_there x ≡ true → (a : A) × (x ≡ some a)
there_value none h = absurd (let z : ◌≡◌ {A = ℕ} 0 1 = cc in omega arith)
there_value (some a) h = (a, refl)

pub there_not : {A : Type 0} (x : Option A) → is_there x ≡ false → x ≡ none
there_not none h = refl
there_not (some a) h = cc

-- where a condition is there, it is the one that is read, and ends 24 bytes on
pub condition_value : (s : List ℕ) (at : ℕ) → is_there (condition_at s at) ≡ true → condition_at s at ≡ some (record { value = condition_here s at; past = at + 24 })
condition_value s at h =
    let w = there_value (condition_at s at) h in
    let a = condition_agrees s at w.0 w.1 in
    rw (w.1, ← a.0, ← a.1)

pub condition_room : (s : List ℕ) (at : ℕ) → is_there (condition_at s at) ≡ true → at + 24 ≤ length s
unfolding condition_at
condition_room s at h =
    let w = there_value (condition_at s at) h in
    leb-true _ _ (both_true (leb (at + 24) (length s)) (eqb (number_at 5 s (at + 3)) 0) (check_some (leb (at + 24) (length s) && eqb (number_at 5 s (at + 3)) 0) _ w.1).0).0
