-- Tests that came out true, taken apart and put together again.
use mathlib.Core.Path.{◌≡◌, refl}
use mathlib.Core.Bool.{Bool, true, false, ◌&&◌, ◌||◌}
use mathlib.Core.List.{List, [], ◌∷◌}
use mathlib.Core.Option.{Option, none, some}
use Prim.Native.Nat.{ℕ, ◌<◌}
use native.Mathlib.Omega.{arith}
use lib.Dec.{eqb, ltb}
use borrow.Author.Tests.{eqb-true, ltb-true}
use Rattle.definitions.specs.RuleSet.{one_of}
use Rattle.definitions.specs.Format.{Each, then, check}
use Rattle.definitions.specs.Answer.{all}

pub both_true : (a b : Bool) → (a && b) ≡ true → (a ≡ true) × (b ≡ true)
both_true true b h = (refl, h)
both_true false b h = (h, cc)

pub true_both : {a b : Bool} → a ≡ true → b ≡ true → (a && b) ≡ true
true_both p q = rw (p, q)

pub either_true : {P : Type 0} (a b : Bool) → (a ≡ true → P) → (b ≡ true → P) → (a || b) ≡ true → P
either_true true b f g h = f refl
either_true false b f g h = g h

pub one_below : (n : ℕ) (xs : List ℕ) (w : ℕ) → all (λ x. ltb x n) xs ≡ true → one_of xs w ≡ true → w < n
unfolding one_of
one_below n [] w small h = absurd (let z : ◌≡◌ {A = ℕ} 0 1 = cc in omega arith)
one_below n (x ∷ xs) w small h =
    let s = both_true (ltb x n) (all (λ y. ltb y n) xs) small in
    either_true (eqb w x) (one_of xs w) (λ e. let q = eqb-true w x e in omega (arith, ltb-true x n s.0)) (one_below n xs w s.1) h

pub each_of : {A : Type 0} {P : A → Type 0} (f : A → Bool) → ((x : A) → f x ≡ true → P x) → (xs : List A) → all f xs ≡ true → Each P xs
each_of f one [] h = tt
each_of f one (x ∷ xs) h =
    let w = both_true (f x) (all f xs) h in
    (one x w.0, each_of f one xs w.1)

pub each_both : {A : Type 0} {P Q R : A → Type 0} → ((x : A) → P x → Q x → R x) → (xs : List A) → Each P xs → Each Q xs → Each R xs
each_both f [] p q = tt
each_both f (x ∷ xs) p q = (f x p.0 q.0, each_both f xs p.1 q.1)

-- a chain of tests and parts that came out with something
pub then_some : {A B : Type 0} (x : Option A) (f : A → Option B) {b : B} → then x f ≡ some b → (a : A) × (x ≡ some a) × (f a ≡ some b)
then_some none f h = absurd (let z : ◌≡◌ {A = ℕ} 0 1 = cc in omega arith)
then_some (some a) f h = (a, refl, h)

pub check_some : {A : Type 0} (t : Bool) (x : Option A) {a : A} → check t x ≡ some a → (t ≡ true) × (x ≡ some a)
check_some true x h = (refl, h)
check_some false x h = absurd (let z : ◌≡◌ {A = ℕ} 0 1 = cc in omega arith)

pub some_same : {A : Type 0} {a b : A} → some a ≡ some b → a ≡ b
some_same h = cc
