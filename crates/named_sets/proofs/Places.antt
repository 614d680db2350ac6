-- What stands at a place of named sets, test by test, as the code tests it. Assumes nothing.
use mathlib.Core.Path.{◌≡◌, refl}
use mathlib.Core.Bool.{Bool, true, false, cond}
use mathlib.Core.List.{List}
use Prim.Native.Nat.{ℕ, ◌+◌, ◌^◌, ◌≤◌, ◌<◌}
use native.Mathlib.Omega.{arith}
use lib.Dec.{eqb, leb, ltb}
use lib.ListN.{length}
use borrow.Author.Tests.{leb-true, lt-ltb, le-ltb, le-leb, lt-leb, eq-eqb, ne_eqb}
use Rattle.definitions.specs.declared.NamedPlace.{NamedPlace}
use Rattle.definitions.specs.Word.{number_at}
use Rattle.definitions.specs.NamedSets.{no_set, set_there, stands_at, next_set, Inside}
use Rattle.theorems.proofs.Tests.{both_true}

module _ (bytes : List ℕ) (at : ℕ) where
  pub next_long : 2 ^ 32 ≤ length bytes → no_set 1 ≡ next_set bytes at
  unfolding next_set
  next_long h = rw (le-ltb (length bytes) (2 ^ 32) h)

  pub next_end : length bytes < 2 ^ 32 → at ≡ length bytes → no_set 2 ≡ next_set bytes at
  unfolding next_set
  next_end h e = rw (lt-ltb (length bytes) (2 ^ 32) h, eq-eqb at (length bytes) e)

  pub next_short : length bytes < 2 ^ 32 → (at ≡ length bytes → ⊥) → length bytes < at + 8 → no_set 1 ≡ next_set bytes at
  unfolding next_set stands_at
  next_short h e s = rw (lt-ltb (length bytes) (2 ^ 32) h, ne_eqb at (length bytes) e, lt-leb (at + 8) (length bytes) s)

  module _ (n m : ℕ) (name : n ≡ number_at 4 bytes at) (set : m ≡ number_at 4 bytes (at + 4)) (h : length bytes < 2 ^ 32) (e : at ≡ length bytes → ⊥)
      (s : at + 8 ≤ length bytes) where
    pub next_cut : length bytes < at + 8 + n + m → no_set 1 ≡ next_set bytes at
    unfolding next_set stands_at
    next_cut cut =
        rw (lt-ltb (length bytes) (2 ^ 32) h, ne_eqb at (length bytes) e, le-leb (at + 8) (length bytes) s, ← name, ← set, lt-leb (at + 8 + n + m) (length bytes) cut)

    pub next_there : at + 8 + n + m ≤ length bytes → set_there at n m ≡ next_set bytes at
    unfolding next_set stands_at
    next_there fits =
        rw (lt-ltb (length bytes) (2 ^ 32) h, ne_eqb at (length bytes) e, le-leb (at + 8) (length bytes) s, ← name, ← set, le-leb (at + 8 + n + m) (length bytes) fits)

-- what holds of a place that is chosen, where the one with the code 0 has it
chosen : (P : NamedPlace → Type 0) (t : Bool) (p q : NamedPlace) → (t ≡ true → p.code ≡ 0 → P p) → (t ≡ false → q.code ≡ 0 → P q)
    → (cond t p q).code ≡ 0 → P (cond t p q)
chosen P true p q f g z = f refl z
chosen P false p q f g z = g refl z

-- so what holds of every set that stands is what holds of every set that is given
given_by : (bytes : List ℕ) (at : ℕ) (P : NamedPlace → Type 0) → (stands_at bytes at ≡ true → P (set_there at (number_at 4 bytes at) (number_at 4 bytes (at + 4))))
    → (next_set bytes at).code ≡ 0 → P (next_set bytes at)
unfolding next_set
given_by bytes at P there =
    chosen P (ltb (length bytes) (2 ^ 32)) _ _
    (λ short. chosen P (eqb at (length bytes)) _ _ (λ last z. absurd (omega arith))
    (λ more. chosen P (stands_at bytes at) _ _ (λ stands z. there stands) (λ cut z. absurd (omega arith))))
    (λ long z. absurd (omega arith))

stands_end : (bytes : List ℕ) (at : ℕ) → stands_at bytes at ≡ true → at + 8 + number_at 4 bytes at + number_at 4 bytes (at + 4) ≤ length bytes
unfolding stands_at
stands_end bytes at e = leb-true (at + 8 + number_at 4 bytes at + number_at 4 bytes (at + 4)) (length bytes) (both_true (leb (at + 8) (length bytes)) _ e).1

-- a set that is given lies in the bytes
pub next_inside : (bytes : List ℕ) (at : ℕ) → (next_set bytes at).code ≡ 0 → Inside bytes (next_set bytes at)
next_inside bytes at =
    given_by bytes at (λ p. Inside bytes p)
    (λ e. let end = stands_end bytes at e in record { name = omega arith; set = end; next = end })

-- and the next place is further on
pub next_further : (bytes : List ℕ) (at : ℕ) → (next_set bytes at).code ≡ 0 → at + 8 ≤ (next_set bytes at).next
next_further bytes at = given_by bytes at (λ p. at + 8 ≤ p.next) (λ e. omega arith)
