-- Laws of the search for an entry with which a filter gets too long: one turn of the halving, and its end.
use mathlib.Core.Path.{◌≡◌, refl}
use mathlib.Core.Bool.{Bool, cond}
use Prim.Native.Nat.{ℕ, zero, suc, ◌+◌, ◌-◌, ◌/◌, ◌^◌}
use native.Mathlib.Omega.{arith}
use Rattle.definitions.specs.Answer.{halved}

less : (n : ℕ) → suc n - 1 ≡ n
less n = omega arith

pub half_width : (k w : ℕ) → (k ≡ 0 → ⊥) → w ≡ 2 ^ k → w / 2 ≡ 2 ^ (k - 1)
half_width zero w h e = absurd (h refl)
half_width (suc k) w h e = rw (less k) (omega arith)

module _ (f : ℕ → Bool) where
  pub halved_turn : (k w n : ℕ) → (k ≡ 0 → ⊥) → w ≡ 2 ^ k → halved f k n ≡ halved f (k - 1) (cond (f (n + w / 2)) (n + w / 2) n)
  unfolding halved
  halved_turn zero w n h e = absurd (h refl)
  halved_turn (suc k) w n h e = rw (half_width (suc k) w h e, less k)

  pub halved_end : (k n : ℕ) → k ≡ 0 → halved f k n ≡ n
  unfolding halved
  halved_end k n e = rw e
