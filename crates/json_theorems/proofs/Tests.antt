-- Laws of tests and of what was read.
use mathlib.Core.Path.{◌≡◌, refl, ap}
use mathlib.Core.Bool.{Bool, true, false, cond, ◌&&◌, ◌||◌}
use mathlib.Core.List.{List, ◌∷◌}
use mathlib.Core.Option.{Option, none, some}
use Prim.Native.Nat.{ℕ, suc, ◌≤◌, ◌<◌}
use native.Mathlib.Omega.{arith}
use lib.Dec.{leb}
use lib.ListN.{length, take, drop, get_or}
use lib.Seq.{drop-cons}
use borrow.Author.Tests.{leb-true}
use Rattle.definitions.specs.Format.{then, check}
use Rattle.definitions.specs.Json.{within}

pub false_not_true : false ≡ true → ⊥
false_not_true e = let z : ◌≡◌ {A = ℕ} 0 1 = ap (λ (b : Bool). cond b 1 0) e in omega arith

pub none_not_some : {A : Type 0} {a : A} → none ≡ some a → ⊥
none_not_some {A} {a} e = let z : ◌≡◌ {A = ℕ} 0 1 = ap (λ (o : Option A). is_it o) e in omega arith
  where
    is_it : Option A → ℕ
    is_it none = 0
    is_it (some x) = 1

pub both_true : (a b : Bool) → (a && b) ≡ true → (a ≡ true) × (b ≡ true)
both_true true b e = (refl, e)
both_true false b e = absurd (false_not_true e)

pub one_true : {C : Type 0} (a b : Bool) → (a || b) ≡ true → (a ≡ true → C) → (b ≡ true → C) → C
one_true true b e f g = f refl
one_true false b e f g = g e

pub check_some : {A : Type 0} (t : Bool) (x : Option A) (a : A) → check t x ≡ some a → (t ≡ true) × (x ≡ some a)
check_some true x a e = (refl, e)
check_some false x a e = absurd (none_not_some e)

pub then_some : {A B : Type 0} (x : Option A) (f : A → Option B) (b : B) → then x f ≡ some b → (a : A) × (x ≡ some a) × (f a ≡ some b)
then_some none f b e = absurd (none_not_some e)
then_some (some a) f b e = (a, refl, e)

pub within_le : (lo hi b : ℕ) → within lo hi b ≡ true → (lo ≤ b) × (b ≤ hi)
within_le lo hi b e =
    let p = both_true (leb lo b) (leb b hi) e in
    (leb-true lo b p.0, leb-true b hi p.1)

-- the next of several bytes
pub take_cons : (l : List ℕ) (i n : ℕ) → i < length l → take (suc n) (drop i l) ≡ get_or l i 0 ∷ take n (drop (suc i) l)
take_cons l i n h = rw (drop-cons l i 0)
