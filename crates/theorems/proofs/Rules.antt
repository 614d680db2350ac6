-- A rule, with its helper jumps: its body matches where all its conditions hold and goes on behind itself where one does not, and so does
-- the rule; a call with another number walks along the second jumps past it.
use mathlib.Core.Path.{◌≡◌, refl, ◌∙◌}
use mathlib.Core.Bool.{Bool, true, false, cond, ◌&&◌, and-true}
use mathlib.Core.List.{List, [], ◌∷◌, ◌++◌, append_assoc}
use Prim.Native.Nat.{ℕ, zero, suc, ◌+◌, ◌≤◌}
use native.Mathlib.Nat.{add-zero, add-suc}
use native.Mathlib.Omega.{arith}
use lib.Dec.{ltb}
use lib.ListN.{length}
use Rattle.definitions.specs.declared.Instruction.{Instruction}
use Rattle.definitions.specs.declared.Condition.{Condition}
use Rattle.definitions.specs.Machine.{Call, State, Result, returns, run}
use Rattle.definitions.specs.RuleSet.{Rule, holds, all_hold, any_holds}
use Rattle.definitions.specs.Format.{Each}
use Rattle.definitions.specs.Emitted.{jump_by, return, reach, condition_code, helpers, near, step_code, step_distance, conditions_code, distance, rule_body, rule_code, sequence, rules_code}
use Rattle.theorems.proofs.Steps.{run_jump, run_return, run_suc, skip1, skip2, skip_one}
use Rattle.theorems.proofs.Conditions.{Goes, condition_right, cond_and, cond_or}

-- what the code looks at: an argument that there is
abbrev pub IndexTaken : Condition → Type 0
IndexTaken q = q.index ≤ 5

-- ---- a jump by the distance in front of code comes to its end, and a jump by one more comes one further: k is 0 or 1

module _ (s : State) (c : Call) where
  -- a jump over the whole of some code
  jump_over : (a p : List Instruction) (n : ℕ) → run (n + length a) (a ++ p) s c ≡ run n p s c
  unfolding run
  jump_over [] p n = rw add-zero
  jump_over (i ∷ a) p n = rw add-suc (jump_over a p n)

  helpers_over : (d k : ℕ) (p : List Instruction) → k ≤ 1 → run (near d + k) (helpers d ++ p) s c ≡ run (d + k) p s c
  unfolding helpers near
  helpers_over d k p = go (ltb reach d) k
    where
      go : (t : Bool) (k : ℕ) → k ≤ 1 → run (cond t 1 d + k) (cond t (jump_by 2 ∷ jump_by (d + 1) ∷ jump_by (d + 1) ∷ []) [] ++ p) s c ≡ run (d + k) p s c
      go true zero h = simp (add-zero, skip1, run_jump, skip_one)
      go true (suc zero) h = simp (skip2, run_jump)
      go true (suc (suc k)) h = absurd (omega arith)
      go false k h = refl

  step_over : (q : Condition) (d k : ℕ) (p : List Instruction) → k ≤ 1 → run (step_distance q d + k) (step_code q d ++ p) s c ≡ run (d + k) p s c
  unfolding step_distance step_code
  step_over q d k p h =
      let w : near d + length (condition_code q (near d)) + k ≡ near d + k + length (condition_code q (near d)) = omega arith in
      rw (append_assoc, w, jump_over) (helpers_over d k p h)

  conditions_over : (qs : Rule) (d k : ℕ) (p : List Instruction) → k ≤ 1 → run (distance qs d + k) (conditions_code qs d ++ p) s c ≡ run (d + k) p s c
  unfolding distance conditions_code
  conditions_over [] d k p h = refl
  conditions_over (q ∷ qs) d k p h = rw append_assoc (conditions_over qs (step_distance q d) k (step_code q d ++ p) h ∙ step_over q d k p h)

-- ---- what a rule answers: y where its conditions hold, n where not; b: those behind hold

module _ (c : Call) (y n : Result) where
  helpers_right : (d : ℕ) (p : List Instruction) (r : Result) → Goes 0 p c r → Goes 0 (helpers d ++ p) c r
  unfolding helpers
  helpers_right d p r h = go (ltb reach d)
    where
      go : (t : Bool) → Goes 0 (cond t (jump_by 2 ∷ jump_by (d + 1) ∷ jump_by (d + 1) ∷ []) [] ++ p) c r
      go true s = simp (run_jump, skip2) (h s)
      go false s = h s

  step_right : (b : Bool) (q : Condition) (d : ℕ) (p : List Instruction) → IndexTaken q → Goes 0 p c (cond b y n) → Goes d p c n
      → Goes 0 (step_code q d ++ p) c (cond (holds c q && b) y n)
  unfolding step_code
  step_right b q d p g h f s =
      rw (append_assoc, cond_and)
      (condition_right q (near d) (helpers d ++ p) c g (helpers_right d p _ h) (λ t. simp add-zero at (helpers_over t c d 0 p (omega arith)) ∙ f t) s)

  regroup : (a b d : Bool) → (b && (a && d)) ≡ ((a && b) && d)
  regroup true true d = refl
  regroup true false d = refl
  regroup false true d = refl
  regroup false false d = refl

  conditions_right : (b : Bool) (qs : Rule) (d : ℕ) (p : List Instruction) → Each IndexTaken qs → Goes 0 p c (cond b y n) → Goes d p c n
      → Goes 0 (conditions_code qs d ++ p) c (cond (all_hold c qs && b) y n)
  unfolding conditions_code all_hold
  conditions_right b [] d p g h f = h
  conditions_right b (q ∷ qs) d p g h f =
      rw (append_assoc, ← regroup (holds c q) (all_hold c qs) b)
      (conditions_right (holds c q && b) qs (step_distance q d) (step_code q d ++ p) g.1 (step_right b q d p g.0 h f)
      (λ s. simp add-zero at (step_over s c q d 0 p (omega arith)) ∙ f s))

-- code that stands for a rule in front of any other code
abbrev pub RuleRight : ℕ → Call → (Rule → List Instruction) → Type 0
RuleRight m c f = (n : Result) (qs : Rule) (rest : List Instruction) → Each IndexTaken qs → Goes 0 rest c n → Goes 0 (f qs ++ rest) c (cond (all_hold c qs) (returns m) n)

module _ (m : ℕ) (c : Call) where
  pub body_right : RuleRight m c (rule_body m)
  unfolding rule_body
  body_right n qs rest g h s =
      rw append_assoc
      (rw and-true at (conditions_right c (returns m) n true qs 1 (return m ∷ rest) g (λ t. run_return rest t c m) (λ t. skip1 rest t c (return m) ∙ h t) s))

  pub rule_right : RuleRight m c (rule_code m)
  unfolding rule_code
  rule_right n qs rest g h s = simp (run_jump, skip1) (body_right n qs rest g h s)

  pub rule_past_lem : (qs : Rule) (rest : List Instruction) (s : State) → run 1 (rule_code m qs ++ rest) s c ≡ run 1 rest s c
  unfolding rule_code rule_body
  rule_past_lem qs rest s = simp (append_assoc, skip1, run_jump) (conditions_over s c qs 1 1 (return m ∷ rest) (omega arith) ∙ run_suc rest s c (return m) 1)

  -- rules, one behind the other
  pub rules_right : (f : Rule → List Instruction) → RuleRight m c f → (n : Result) (rs : List Rule) (rest : List Instruction)
      → Each (Each IndexTaken) rs → Goes 0 rest c n → Goes 0 (sequence f rs ++ rest) c (cond (any_holds c rs) (returns m) n)
  unfolding any_holds
  rules_right f one n [] rest g h s = h s
  rules_right f one n (r ∷ rs) rest g h s =
      rw (append_assoc, cond_or) (one (cond (any_holds c rs) (returns m) n) r (sequence f rs ++ rest) g.0 (rules_right f one n rs rest g.1 h) s)

  pub rules_past_lem : (rs : List Rule) (rest : List Instruction) (s : State) → run 1 (rules_code m rs ++ rest) s c ≡ run 1 rest s c
  rules_past_lem [] rest s = refl
  rules_past_lem (r ∷ rs) rest s = rw append_assoc (rule_past_lem r (rules_code m rs ++ rest) s ∙ rules_past_lem rs rest s)
