-- Laws of a counted walk over a set's bytes, once for parts of any kind: one part more, none left, where the walk ends, and that the
-- next part ends inside where all that are left do; and what they say of rules and entries.
use mathlib.Core.Path.{◌≡◌, refl, ap, ◌∙◌}
use mathlib.Core.Bool.{true, false, not}
use mathlib.Core.List.{List, [], ◌∷◌}
use Prim.Native.Nat.{ℕ, zero, suc, ◌+◌, ◌-◌, ◌*◌, ◌≤◌, ◌<◌}
use native.Mathlib.Omega.{arith}
use lib.Dec.{eqb}
use lib.ListN.{length, take}
use borrow.Author.Tests.{eq-eqb, eqb-true}
use Rattle.definitions.specs.Word.{number_at}
use Rattle.theorems.proofs.Tests.{both_true}
use Rattle.set_view.specs.Parts.{parts, behind, rule_past, rules_past, entry_past, entries_past, plain_here}

less : (n : ℕ) → suc n - 1 ≡ n
less n = omega arith

module _ {A : Type 0} (here : ℕ → A) (past : ℕ → ℕ) where
  pub parts_more : (n at : ℕ) → (n ≡ 0 → ⊥) → parts here past n at ≡ here at ∷ parts here past (n - 1) (past at)
  unfolding parts
  parts_more zero at h = absurd (h refl)
  parts_more (suc n) at h = rw (less n)

  pub parts_none : (n at : ℕ) → n ≡ 0 → parts here past n at ≡ []
  unfolding parts
  parts_none n at e = rw e

  -- of n parts k are passed: one more, and none left
  pub parts_next : (n k at : ℕ) → k < n → parts here past (n - k) at ≡ here at ∷ parts here past (n - (k + 1)) (past at)
  parts_next n k at h =
      let e : n - k - 1 ≡ n - (k + 1) = omega arith in
      parts_more (n - k) at (omega arith) ∙ rw e

  pub parts_end : (n k at : ℕ) → n ≤ k → parts here past (n - k) at ≡ []
  parts_end n k at h = parts_none (n - k) at (omega arith)

  pub parts_many : (n at : ℕ) → length (parts here past n at) ≡ n
  unfolding parts
  parts_many zero at = refl
  parts_many (suc n) at = ap suc (parts_many n (past at))

  -- the first n of them
  pub parts_take : (n all at : ℕ) → n ≤ all → take n (parts here past all at) ≡ parts here past n at
  unfolding parts
  parts_take zero all at h = refl
  parts_take (suc n) zero at h = absurd (omega arith)
  parts_take (suc n) (suc all) at h = ap (λ (l : List A). here at ∷ l) (parts_take n all (past at) (omega arith))

module _ (past : ℕ → ℕ) where
  pub behind_more : (n at : ℕ) → (n ≡ 0 → ⊥) → behind past n at ≡ behind past (n - 1) (past at)
  unfolding behind
  behind_more zero at h = absurd (h refl)
  behind_more (suc n) at h = rw (less n)

  pub behind_none : (n at : ℕ) → n ≡ 0 → behind past n at ≡ at
  unfolding behind
  behind_none n at e = rw e

  pub behind_next : (n k at : ℕ) → k < n → behind past (n - k) at ≡ behind past (n - (k + 1)) (past at)
  behind_next n k at h =
      let e : n - k - 1 ≡ n - (k + 1) = omega arith in
      behind_more (n - k) at (omega arith) ∙ rw e

  pub behind_end : (n k at : ℕ) → n ≤ k → behind past (n - k) at ≡ at
  behind_end n k at h = behind_none (n - k) at (omega arith)

  module _ (further : (at : ℕ) → at ≤ past at) where
    pub behind_further : (n at : ℕ) → at ≤ behind past n at
    unfolding behind
    behind_further zero at = omega arith
    behind_further (suc n) at = omega (arith, further at, behind_further n (past at))

    -- where all that are left end in so many bytes, the next one does
    pub inside : (n at end size : ℕ) → (n ≡ 0 → ⊥) → behind past n at ≡ end → end ≤ size → past at ≤ size
    inside n at end size h e i = omega (arith, behind_more n at h, behind_further (n - 1) (past at))

-- ---- rules

module _ (s : List ℕ) where
  rule_further : (at : ℕ) → at ≤ rule_past s at
  rule_further at = omega arith

  pub rules_further : (n at : ℕ) → at ≤ rules_past s n at
  rules_further = behind_further (rule_past s) rule_further

  pub rule_inside : (n at end : ℕ) → (n ≡ 0 → ⊥) → rules_past s n at ≡ end → end ≤ length s → rule_past s at ≤ length s
  rule_inside n at end = inside (rule_past s) rule_further n at end (length s)

  -- of n rules k are passed: the next one is inside, and the others end where they did
  pub rules_next : (n k at : ℕ) → k < n → rules_past s (n - k) at ≡ rules_past s (n - (k + 1)) (rule_past s at)
  rules_next = behind_next (rule_past s)

  pub rules_end : (n k at : ℕ) → n ≤ k → rules_past s (n - k) at ≡ at
  rules_end = behind_end (rule_past s)

  pub rules_room : (n k at : ℕ) → k < n → rules_past s (n - k) at ≤ length s → rule_past s at ≤ length s
  rules_room n k at h r = rule_inside (n - k) at _ (omega arith) refl r

  -- ---- entries

  pub entry_past_lem : (at : ℕ) → entry_past s at ≡ rules_past s (number_at 4 s (at + 4)) (at + 8)
  unfolding entry_past
  entry_past_lem at = refl

  pub entry_further : (at : ℕ) → at + 8 ≤ entry_past s at
  entry_further at = rw (entry_past_lem at) (rules_further (number_at 4 s (at + 4)) (at + 8))

  entry_onward : (at : ℕ) → at ≤ entry_past s at
  entry_onward at = omega (arith, entry_further at)

  pub entries_further : (n at : ℕ) → at ≤ entries_past s n at
  entries_further = behind_further (entry_past s) entry_onward

  pub entry_inside : (n at end : ℕ) → (n ≡ 0 → ⊥) → entries_past s n at ≡ end → end ≤ length s → entry_past s at ≤ length s
  entry_inside n at end = inside (entry_past s) entry_onward n at end (length s)

  pub entry_room : (n at : ℕ) → (n ≡ 0 → ⊥) → entries_past s n at ≤ length s → at + 8 ≤ length s
  entry_room n at h r = let i = entry_inside n at _ h refl r in omega (arith, entry_further at)

  -- the rules of an entry: they end in the bytes where the entry does
  pub rules_inside : (at : ℕ) → entry_past s at ≤ length s
      → (at + 8 ≤ length s) × (rules_past s (number_at 4 s (at + 4)) (at + 8) ≤ length s)
  rules_inside at h = (omega (arith, entry_further at), rw (← entry_past_lem at) h)

  -- ---- entries without rules

  pub plain_is : (n at : ℕ) → plain_here s n at ≡ true → (n ≡ 0 → ⊥) × (number_at 4 s (at + 4) ≡ 0)
  unfolding plain_here
  plain_is n at h =
      let p = both_true (not (eqb n 0)) (eqb (number_at 4 s (at + 4)) 0) h in
      (λ e. let z : ◌≡◌ {A = ℕ} 0 1 = cc (eq-eqb n 0 e, p.0) in omega arith, eqb-true _ _ p.1)

  pub plain_past : (at : ℕ) → number_at 4 s (at + 4) ≡ 0 → entry_past s at ≡ at + 8
  plain_past at e = rw (entry_past_lem at) (behind_none (rule_past s) (number_at 4 s (at + 4)) (at + 8) e)

  -- where the walk over such entries ends elsewhere than it began, it has passed one
  pub plain_passed : (n from run at : ℕ) → plain_here s n from ≡ true → plain_here s (n - run) at ≡ false → at ≡ from + 8 * run → 0 < run
  plain_passed n from zero at h stop e =
      let a : at ≡ from = omega arith in
      let l : n - 0 ≡ n = omega arith in
      absurd (let z : ◌≡◌ {A = ℕ} 0 1 = cc in omega arith)
  plain_passed n from (suc run) at h stop e = omega arith
