-- A name compared, and the walk to the first set of a name, step by step. Assumes nothing.
use mathlib.Core.Path.{◌≡◌, refl, ap, sym, ◌∙◌}
use mathlib.Core.Bool.{Bool, true, false, cond, not, ◌&&◌}
use mathlib.Core.List.{List, [], ◌∷◌}
use Prim.Native.Nat.{ℕ, zero, suc, ◌+◌, ◌≤◌}
use native.Mathlib.Omega.{arith}
use lib.Dec.{eqb}
use lib.Pointwise.{pointwise}
use lib.ListN.{length, take, drop, length-drop}
use lib.Seq.{length-take-le}
use borrow.Author.Tests.{eqb-false, eq-eqb, ne_eqb}
use Rattle.definitions.specs.declared.NamedPlace.{NamedPlace}
use Rattle.definitions.specs.JsonForm.{same}
use Rattle.definitions.specs.NamedSets.{part, is_other, next_set, find_from, find_set, Inside, Found}
use Rattle.json_theorems.proofs.Values.{same_true}
use Rattle.named_sets.proofs.Places.{next_inside, next_further}

-- ---- names of different lengths differ

pub same_length : (a b : List ℕ) → (length a ≡ length b → ⊥) → same a b ≡ false
unfolding same
same_length [] [] h = absurd (h refl)
same_length [] (b ∷ bs) h = refl
same_length (a ∷ xs) [] h = refl
same_length (a ∷ xs) (b ∷ bs) h = go (eqb a b) (same_length xs bs (λ e. h (ap suc e)))
  where
    go : (t : Bool) → same xs bs ≡ false → (t && same xs bs) ≡ false
    go true e = e
    go false e = refl

pub count_differs : (bytes name : List ℕ) (at count : ℕ) → at + count ≤ length bytes → (count ≡ length name → ⊥) → same (take count (drop at bytes)) name ≡ false
count_differs bytes name at count h e =
    same_length (take count (drop at bytes)) name
    (λ l. e (sym (length-take-le count (drop at bytes) (rw length-drop (omega arith))) ∙ l))

-- ---- bytes that `==` finds alike are the same

pub same_compared : (a b : List ℕ) → pointwise eqb a b ≡ same a b
unfolding same
same_compared [] [] = refl
same_compared [] (b ∷ bs) = refl
same_compared (a ∷ xs) [] = refl
same_compared (a ∷ xs) (b ∷ bs) = ap (λ (t : Bool). eqb a b && t) (same_compared xs bs)

-- ---- the walk: from a place on it comes to what the whole walk comes to, in enough steps

pub record Walking (bytes name : List ℕ) (at : ℕ) : Type 0 where
  pub steps : ℕ
  pub enough : length bytes ≤ steps + at
  pub inside : at ≤ length bytes
  pub whole : find_set bytes name ≡ find_from (suc steps) bytes name at

module _ (bytes name : List ℕ) where
  pub walk_start : Walking bytes name 0
  unfolding find_set
  walk_start = record { steps = length bytes; enough = omega arith; inside = omega arith; whole = refl }

  pub find_step : (steps at : ℕ) → find_from (suc steps) bytes name at
      ≡ cond (is_other bytes name (next_set bytes at)) (find_from steps bytes name (next_set bytes at).next) (next_set bytes at)
  unfolding find_from
  find_step steps at = refl

  stops : (at : ℕ) → is_other bytes name (next_set bytes at) ≡ false → Walking bytes name at → next_set bytes at ≡ find_set bytes name
  stops at e w = sym (w.whole ∙ find_step w.steps at ∙ rw e)

  goes_on : (at : ℕ) → is_other bytes name (next_set bytes at) ≡ true → (next_set bytes at).code ≡ 0 → Walking bytes name at → Walking bytes name (next_set bytes at).next
  goes_on at e z w = go w.steps w.enough (w.whole ∙ find_step w.steps at ∙ rw e)
    where
      end : (next_set bytes at).next ≤ length bytes
      end = (next_inside bytes at z).next

      go : (n : ℕ) → length bytes ≤ n + at → find_set bytes name ≡ find_from n bytes name (next_set bytes at).next → Walking bytes name (next_set bytes at).next
      go zero h same = absurd (omega (arith, next_further bytes at z, end))
      go (suc n) h same = record { steps = n; enough = omega (arith, next_further bytes at z); inside = end; whole = same }

  module _ (at : ℕ) (p : NamedPlace) (there : p ≡ next_set bytes at) (w : Walking bytes name at) where
    pub walk_none : (p.code ≡ 0 → ⊥) → p ≡ find_set bytes name
    unfolding is_other
    walk_none n = there ∙ stops at (rw (ne_eqb (next_set bytes at).code 0 (λ z. n (ap (λ (q : NamedPlace). q.code) there ∙ z)))) w

    pub walk_found : same (part bytes p.name p.name_len) name ≡ true → p ≡ find_set bytes name
    unfolding is_other
    walk_found e = there ∙ stops at (found (rw there at e)) w
      where
        found : same (part bytes (next_set bytes at).name (next_set bytes at).name_len) name ≡ true → is_other bytes name (next_set bytes at) ≡ false
        found h = rw h (never (eqb (next_set bytes at).code 0))
          where
            never : (t : Bool) → (t && not true) ≡ false
            never true = refl
            never false = refl

    pub walk_inside : p.code ≡ 0 → Inside bytes p
    walk_inside z = rw there (next_inside bytes at (rw there at z))

    pub walk_further : p.code ≡ 0 → at + 8 ≤ p.next
    walk_further z = rw there (next_further bytes at (rw there at z))

    pub walk_on : p.code ≡ 0 → same (part bytes p.name p.name_len) name ≡ false → Walking bytes name p.next
    unfolding is_other
    walk_on z e = rw there (goes_on at (other (rw there at z) (rw there at e)) (rw there at z) w)
      where
        other : (next_set bytes at).code ≡ 0 → same (part bytes (next_set bytes at).name (next_set bytes at).name_len) name ≡ false
            → is_other bytes name (next_set bytes at) ≡ true
        other z e = rw (eq-eqb (next_set bytes at).code 0 z, e)

-- ---- what is found, in any bytes

found_from : (bytes name : List ℕ) (steps at : ℕ) → (find_from steps bytes name at).code ≡ 0 → Found bytes name (find_from steps bytes name at)
unfolding find_from is_other
found_from bytes name zero at z = absurd (omega arith)
found_from bytes name (suc steps) at z =
    go (eqb (next_set bytes at).code 0) (same (part bytes (next_set bytes at).name (next_set bytes at).name_len) name) refl refl z
    (found_from bytes name steps (next_set bytes at).next)
  where
    go : (t u : Bool) → eqb (next_set bytes at).code 0 ≡ t → same (part bytes (next_set bytes at).name (next_set bytes at).name_len) name ≡ u
        → (cond (t && not u) (find_from steps bytes name (next_set bytes at).next) (next_set bytes at)).code ≡ 0
        → ((find_from steps bytes name (next_set bytes at).next).code ≡ 0 → Found bytes name (find_from steps bytes name (next_set bytes at).next))
        → Found bytes name (cond (t && not u) (find_from steps bytes name (next_set bytes at).next) (next_set bytes at))
    go false u e f z further = absurd (eqb-false (next_set bytes at).code 0 e z)
    go true true e f z further = record { inside = next_inside bytes at z; named = same_true _ name f }
    go true false e f z further = further z

pub found : (bytes name : List ℕ) → (find_set bytes name).code ≡ 0 → Found bytes name (find_set bytes name)
unfolding find_set
found bytes name = found_from bytes name (suc (length bytes)) 0
