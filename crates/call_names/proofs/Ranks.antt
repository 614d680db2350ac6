-- The order of names: by their own bytes, and as they are filled up with zeros. Assumes nothing.
use mathlib.Core.Path.{◌≡◌, refl, ap, sym, ◌∙◌}
use mathlib.Core.Bool.{Bool, true, false, cond, ◌&&◌, ◌||◌}
use mathlib.Core.List.{List, [], ◌∷◌, ◌++◌}
use Prim.Native.Nat.{ℕ, zero, suc, ◌+◌, ◌<◌}
use native.Mathlib.Omega.{arith}
use lib.Dec.{eqb, leb, ltb}
use lib.ListN.{length, replicate}
use borrow.Author.Tests.{leb-true, eqb-true, eqb-false, ltb-true, ltb-false, lt-ltb, le-ltb, eq-eqb, ne_eqb}
use Rattle.std.specs.declared.cmp.Ordering.{Ordering}
use Rattle.std.specs.declared.cmp.Ordering.TheVariants.{Less, Equal, Greater}
use Rattle.std.specs.Ordering.{ordering_then, is_lt}
use Rattle.definitions.specs.Json.{all}
use Rattle.definitions.specs.JsonForm.{same}
use Rattle.definitions.specs.CallNames.{before}
use Rattle.json_theorems.proofs.Tests.{false_not_true, both_true}
use Rattle.call_names.specs.Slots.{compared}

-- ---- one before the other, by their first bytes

pub data Before : List ℕ → List ℕ → Type 0 where
  shorter : (b : ℕ) (bs : List ℕ) → Before [] (b ∷ bs)
  lower : (a b : ℕ) (ws bs : List ℕ) → a < b → Before (a ∷ ws) (b ∷ bs)
  equal : (a : ℕ) (ws bs : List ℕ) → Before ws bs → Before (a ∷ ws) (a ∷ bs)

pub is_before : {x y : List ℕ} → Before x y → before x y ≡ true
unfolding before
is_before (shorter b bs) = refl
is_before (lower a b ws bs h) = rw (lt-ltb a b h)
is_before (equal a ws bs h) = rw (le-ltb a a (omega arith), eq-eqb a a refl, is_before h)

pub before_is : (x y : List ℕ) → before x y ≡ true → Before x y
unfolding before
before_is [] [] e = absurd (false_not_true e)
before_is (a ∷ ws) [] e = absurd (false_not_true e)
before_is [] (b ∷ bs) e = shorter b bs
before_is (a ∷ ws) (b ∷ bs) e = go (ltb a b) refl (eqb a b) refl e (before_is ws bs)
  where
    go : (s : Bool) → ltb a b ≡ s → (t : Bool) → eqb a b ≡ t → (s || (t && before ws bs)) ≡ true → (before ws bs ≡ true → Before ws bs) → Before (a ∷ ws) (b ∷ bs)
    go true es t et h ih = lower a b ws bs (ltb-true a b es)
    go false es true et h ih = rw (eqb-true a b et) (equal b ws bs (ih h))
    go false es false et h ih = absurd (false_not_true h)

pub before_trans : {x y z : List ℕ} → Before x y → Before y z → Before x z
before_trans (shorter b bs) (lower b' c bs' cs g) = shorter c cs
before_trans (shorter b bs) (equal b' bs' cs g) = shorter b' cs
before_trans (lower a b ws bs h) (lower b' c bs' cs g) = lower a c ws cs (omega arith)
before_trans (lower a b ws bs h) (equal b' bs' cs g) = lower a b ws cs h
before_trans (equal a ws bs h) (lower b' c bs' cs g) = lower a c ws cs g
before_trans (equal a ws bs h) (equal b' bs' cs g) = equal a ws cs (before_trans h g)

pub not_same : {x y : List ℕ} → Before x y → same x y ≡ false
unfolding same
not_same (shorter b bs) = refl
not_same (lower a b ws bs h) = rw (ne_eqb a b (λ e. omega arith))
not_same (equal a ws bs h) = rw (eq-eqb a a refl, not_same h)

pub not_same_behind : {x y : List ℕ} → Before x y → same y x ≡ false
unfolding same
not_same_behind (shorter b bs) = refl
not_same_behind (lower a b ws bs h) = rw (ne_eqb b a (λ e. omega arith))
not_same_behind (equal a ws bs h) = rw (eq-eqb a a refl, not_same_behind h)

-- ---- names filled up with zeros

abbrev pub is_byte : ℕ → Bool
is_byte b = leb 1 b

pub data Ranked (x y : List ℕ) : Ordering → Type 0 where
  less : Before x y → Ranked x y Less
  equals : x ≡ y → Ranked x y Equal
  greater : Before y x → Ranked x y Greater

pub ranked_less : {x y : List ℕ} {r : Ordering} → Ranked x y r → r ≡ Less → Before x y
ranked_less (less h) e = h
ranked_less (equals h) e = absurd (cc)
ranked_less (greater h) e = absurd (cc)

pub ranked_same : {x y : List ℕ} {r : Ordering} → Ranked x y r → r ≡ Equal → x ≡ y
ranked_same (less h) e = absurd (cc)
ranked_same (equals h) e = h
ranked_same (greater h) e = absurd (cc)

pub ranked_greater : {x y : List ℕ} {r : Ordering} → Ranked x y r → r ≡ Greater → Before y x
ranked_greater (less h) e = absurd (cc)
ranked_greater (equals h) e = absurd (cc)
ranked_greater (greater h) e = h

under : {a : ℕ} {x y : List ℕ} {r : Ordering} → Ranked x y r → Ranked (a ∷ x) (a ∷ y) r
under {a} {x} {y} (less h) = less (equal a x y h)
under {a} (equals h) = equals (ap (λ (l : List ℕ). a ∷ l) h)
under {a} {x} {y} (greater h) = greater (equal a y x h)

zeros_same : (n : ℕ) (u v : List ℕ) → compared n (replicate n 0 ++ u) (replicate n 0 ++ v) ≡ Equal
zeros_same zero u v = refl
zeros_same (suc n) u v = zeros_same n u v

pub rank : (n p q : ℕ) (x y u v : List ℕ) → all is_byte x ≡ true → all is_byte y ≡ true → length x + p ≡ n → length y + q ≡ n
    → Ranked x y (compared n (x ++ (replicate p 0 ++ u)) (y ++ (replicate q 0 ++ v)))
unfolding all
rank n p q [] [] u v hx hy ex ey =
    let e : p ≡ n = omega arith in
    let f : q ≡ n = omega arith in
    rw (e, f, zeros_same n u v) (equals refl)
rank zero p q [] (b ∷ y) u v hx hy ex ey = absurd (omega arith)
rank (suc n) zero q [] (b ∷ y) u v hx hy ex ey = absurd (omega arith)
rank (suc n) (suc p) q [] (b ∷ y) u v hx hy ex ey =
    let h = leb-true 1 b (both_true (is_byte b) (all is_byte y) hy).0 in
    rw (lt-ltb 0 b (omega arith)) (less (shorter b y))
rank zero p q (a ∷ x) [] u v hx hy ex ey = absurd (omega arith)
rank (suc n) p zero (a ∷ x) [] u v hx hy ex ey = absurd (omega arith)
rank (suc n) p (suc q) (a ∷ x) [] u v hx hy ex ey =
    let h = leb-true 1 a (both_true (is_byte a) (all is_byte x) hx).0 in
    rw (le-ltb a 0 (omega arith), ne_eqb a 0 (λ e. omega arith)) (greater (shorter a x))
rank zero p q (a ∷ x) (b ∷ y) u v hx hy ex ey = absurd (omega arith)
rank (suc n) p q (a ∷ x) (b ∷ y) u v hx hy ex ey =
    go (ltb a b) refl (eqb a b) refl
    (rank n p q x y u v (both_true (is_byte a) (all is_byte x) hx).1 (both_true (is_byte b) (all is_byte y) hy).1 (omega arith) (omega arith))
  where
    go : (s : Bool) → ltb a b ≡ s → (t : Bool) → eqb a b ≡ t → {r : Ordering} → Ranked x y r
        → Ranked (a ∷ x) (b ∷ y) (ordering_then (cond s Less (cond t Equal Greater)) r)
    go true es t et r = less (lower a b x y (ltb-true a b es))
    go false es true et r = rw (eqb-true a b et) (under r)
    go false es false et r = greater (lower b a y x (let h = ltb-false a b es in let g = eqb-false a b et in omega arith))

pub before_not : {x y : List ℕ} → Before y x → before x y ≡ false
unfolding before
before_not (shorter b bs) = refl
before_not (lower a b ws bs h) = rw (le-ltb b a (omega arith), ne_eqb b a (λ e. omega arith))
before_not (equal a ws bs h) = rw (le-ltb a a (omega arith), eq-eqb a a refl, before_not h)

before_self : (x : List ℕ) → before x x ≡ false
unfolding before
before_self [] = refl
before_self (a ∷ x) = rw (le-ltb a a (omega arith), eq-eqb a a refl, before_self x)

pub before_ranked : {x y : List ℕ} {o : Ordering} → Ranked x y o → is_lt o ≡ before x y
before_ranked (less h) = sym (is_before h)
before_ranked {x} {y} (equals h) = sym (rw h (before_self y))
before_ranked (greater h) = sym (before_not h)

pub never : {x y : List ℕ} → Before x y → x ≡ y → ⊥
never {x} {y} b e = false_not_true (sym (before_self x) ∙ ap (λ (z : List ℕ). before x z) e ∙ is_before b)
