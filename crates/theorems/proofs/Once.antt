-- ONCE: a run executes at most as many instructions as the filter has, and none of them twice. It holds of every filter.
use mathlib.Core.Path.{◌≡◌}
use mathlib.Core.List.{List, [], ◌∷◌}
use Prim.Native.Nat.{ℕ, zero, suc, ◌+◌, ◌≤◌}
use native.Mathlib.Omega.{arith}
use lib.ListN.{length}
use Rattle.definitions.specs.declared.Instruction.{Instruction}
use Rattle.definitions.specs.Machine.{Call, State, Step, stop, next, step, visits, start, Climbs}
use Rattle.theorems.specs.Statements.{Once}

climbs_lower : (at n : ℕ) (ks : List ℕ) → Climbs (at + 1) n ks → Climbs at n ks
climbs_lower at n [] h = tt
climbs_lower at n (k ∷ ks) h = (omega arith, h.1, h.2)

climbs_few : (at n : ℕ) (ks : List ℕ) → at ≤ n → Climbs at n ks → at + length ks ≤ n
climbs_few at n [] le h = omega arith
climbs_few at n (k ∷ ks) le h = omega (arith, climbs_few (k + 1) n ks (omega arith) h.2)

visits_climb : (at n : ℕ) (p : List Instruction) (s : State) (c : Call) (end : ℕ) → end ≡ at + length p → Climbs at end (visits at n p s c)
unfolding visits
visits_climb at n [] s c end e = tt
visits_climb at zero (i ∷ p) s c end e =
    (omega arith, omega arith, go (λ n t. visits_climb (at + 1) n p t c end (omega arith)) (step i s c))
  where
    go : ((n : ℕ) (t : State) → Climbs (at + 1) end (visits (at + 1) n p t c)) → (x : Step)
        → Climbs (at + 1) end (elim x [ stop r ↦ [] | next n t ↦ visits (at + 1) n p t c ])
    go again (stop r) = tt
    go again (next n t) = again n t
visits_climb at (suc n) (i ∷ p) s c end e = climbs_lower at end (visits (at + 1) n p s c) (visits_climb (at + 1) n p s c end (omega arith))

pub once : Once
once p c =
    let h = visits_climb 0 0 p start c (length p) (omega arith) in
    (h, omega (arith, climbs_few 0 (length p) (visits 0 0 p start c) (omega arith) h))
