-- Comparing two numbers through their halves of 32 bits.
use mathlib.Core.Path.{◌≡◌, refl, ap₂, ◌∙◌}
use mathlib.Core.Logic.{◌≢◌}
use mathlib.Core.Bool.{Bool, true, false, not, ◌&&◌, ◌||◌}
use Prim.Native.Nat.{ℕ}
use native.Mathlib.Omega.{arith}
use lib.Dec.{eqb, leb, ltb}
use lib.Bits.{bit_and, and_shr, and_mod}
use borrow.Author.Tests.{eqb-true, eqb-false, ltb-true, ltb-false, leb-true, leb-false, eq-eqb, ne_eqb, lt-ltb, le-ltb, le-leb, lt-leb}
use Rattle.definitions.specs.Word.{low, high}

eqb_ne : (a b : ℕ) → eqb a b ≡ false → a ≢ b
eqb_ne a b e = eqb-false a b e

pub ne→eqb : (a b : ℕ) → a ≢ b → eqb a b ≡ false
ne→eqb a b e = ne_eqb a b e

ruleset tests = (arith, eqb-true, eqb_ne, ltb-true, ltb-false, leb-true, leb-false, eq-eqb, ne→eqb, lt-ltb, le-ltb, le-leb, lt-leb)

module _ (x v : ℕ) where
  pub eqb_halves : eqb x v ≡ (eqb (high x) (high v) && eqb (low x) (low v))
  eqb_halves = go (eqb (high x) (high v)) (eqb (low x) (low v)) refl refl
    where
      go : (a b : Bool) → eqb (high x) (high v) ≡ a → eqb (low x) (low v) ≡ b → eqb x v ≡ (a && b)
      go true true p q = omega tests
      go true false p q = omega tests
      go false b p q = omega tests

  pub leb_halves : leb v x ≡ (ltb (high v) (high x) || (eqb (high x) (high v) && leb (low v) (low x)))
  leb_halves = go (ltb (high v) (high x)) (eqb (high x) (high v)) (leb (low v) (low x)) refl refl refl
    where
      go : (a b d : Bool) → ltb (high v) (high x) ≡ a → eqb (high x) (high v) ≡ b → leb (low v) (low x) ≡ d → leb v x ≡ (a || (b && d))
      go true b d p q r = omega tests
      go false true true p q r = omega tests
      go false true false p q r = omega tests
      go false false d p q r = omega tests

  pub ltb_halves : ltb v x ≡ (ltb (high v) (high x) || (eqb (high x) (high v) && ltb (low v) (low x)))
  ltb_halves = go (ltb (high v) (high x)) (eqb (high x) (high v)) (ltb (low v) (low x)) refl refl refl
    where
      go : (a b d : Bool) → ltb (high v) (high x) ≡ a → eqb (high x) (high v) ≡ b → ltb (low v) (low x) ≡ d → ltb v x ≡ (a || (b && d))
      go true b d p q r = omega tests
      go false true true p q r = omega tests
      go false true false p q r = omega tests
      go false false d p q r = omega tests

  -- the order the other way round
  pub leb_not : leb x v ≡ not (ltb v x)
  leb_not = go (ltb v x) refl
    where
      go : (a : Bool) → ltb v x ≡ a → leb x v ≡ not a
      go true p = omega tests
      go false p = omega tests

  pub ltb_not : ltb x v ≡ not (leb v x)
  ltb_not = go (leb v x) refl
    where
      go : (a : Bool) → leb v x ≡ a → ltb x v ≡ not a
      go true p = omega tests
      go false p = omega tests

-- the masked comparison, half by half
pub masked_halves : (x v m : ℕ) → eqb (bit_and x m) (bit_and v m)
    ≡ (eqb (bit_and (high x) (high m)) (high (bit_and v m)) && eqb (bit_and (low x) (low m)) (low (bit_and v m)))
masked_halves x v m =
    eqb_halves (bit_and x m) (bit_and v m)
    ∙ ap₂ (λ (a b : ℕ). eqb a (high (bit_and v m)) && eqb b (low (bit_and v m))) (and_shr x m 32) (and_mod x m 32)
