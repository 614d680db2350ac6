-- Laws of a rule's instructions and of the places that it is read from: one turn of each loop, and its end.
use mathlib.Core.Path.{◌≡◌, refl}
use mathlib.Core.Bool.{Bool, true, false, cond}
use mathlib.Core.List.{List, [], ◌∷◌, ◌++◌}
use Prim.Native.Nat.{ℕ, ◌+◌, ◌-◌, ◌*◌, ◌≤◌, ◌<◌}
use native.Mathlib.Omega.{arith}
use borrow.Author.Tests.{ltb-false}
use lib.Dec.{ltb}
use lib.ListN.{length, length-append}
use Rattle.definitions.specs.declared.Instruction.{Instruction}
use Rattle.definitions.specs.declared.Condition.{Condition}
use Rattle.definitions.specs.Machine.{instruction_bytes, filter_bytes}
use Rattle.definitions.specs.RuleSet.{Rule}
use Rattle.definitions.specs.Emitted.{jump_by, return, condition_code, reach, helpers, near, step_code, step_distance, conditions_code, distance, rule_code, rule_body}
use Rattle.bpf.specs.Place.{place, place_before}
use Rattle.bpf.proofs.Buffer.{length_place, place_nil, length_filter_bytes, put_first, put_2, puts_before, before_is, WritingBefore}
use Rattle.set_view.specs.Parts.{condition_here, condition_past, conditions_here}
use Rattle.set_view.proofs.Walk.{parts_next, parts_end}

-- ---- helper jumps, and the distance behind them

pub helpers_none : (d : ℕ) → ltb reach d ≡ false → helpers d ≡ []
unfolding helpers
helpers_none d e = rw e

pub helpers_three : (d : ℕ) → ltb reach d ≡ true → helpers d ≡ jump_by 2 ∷ jump_by (d + 1) ∷ jump_by (d + 1) ∷ []
unfolding helpers
helpers_three d e = rw e

pub put_none : (l : List ℕ) (at : ℕ) → place l at (filter_bytes []) ≡ l
unfolding filter_bytes
put_none l at = place_nil l at

small : (b : Bool) (d : ℕ) → ltb reach d ≡ b → cond b 1 d ≤ reach
small true d e = omega arith
small false d e = ltb-false reach d e

pub near_small : (d : ℕ) → near d ≤ reach
unfolding near
near_small d = small (ltb reach d) d refl

pub near_far : (d : ℕ) → ltb reach d ≡ true → near d ≡ 1
unfolding near
near_far d e = rw e

pub near_same : (d : ℕ) → ltb reach d ≡ false → near d ≡ d
unfolding near
near_same d e = rw e

-- ---- a condition with its helpers

pub step_is : (q : Condition) (d : ℕ) → step_code q d ≡ condition_code q (near d) ++ helpers d
unfolding step_code
step_is q d = refl

pub step_distance_lem : (q : Condition) (d : ℕ) → step_distance q d ≡ near d + length (condition_code q (near d))
unfolding step_distance
step_distance_lem q d = refl

pub step_length : (q : Condition) (d : ℕ) → length (step_code q d) ≡ length (condition_code q (near d)) + length (helpers d)
step_length q d = rw (step_is q d, length-append)

-- ---- the conditions of a rule, from the bytes: of n conditions k are passed

pub code_more : (s : List ℕ) (n k at d : ℕ) → k < n
    → conditions_code (conditions_here s (n - k) at) d
    ≡ conditions_code (conditions_here s (n - (k + 1)) (at + 24)) (step_distance (condition_here s at) d) ++ step_code (condition_here s at) d
unfolding conditions_code
code_more s n k at d h = rw (parts_next (condition_here s) condition_past n k at h)

pub code_none : (s : List ℕ) (n k at d : ℕ) → n ≤ k → conditions_code (conditions_here s (n - k) at) d ≡ []
unfolding conditions_code
code_none s n k at d h = rw (parts_end (condition_here s) condition_past n k at h)

pub code_length : (s : List ℕ) (n k at d : ℕ) → k < n
    → length (conditions_code (conditions_here s (n - k) at) d)
    ≡ length (conditions_code (conditions_here s (n - (k + 1)) (at + 24)) (step_distance (condition_here s at) d)) + length (step_code (condition_here s at) d)
code_length s n k at d h = rw (code_more s n k at d h, length-append)

pub step_room : (s : List ℕ) (n k at d : ℕ) {out₀ : List ℕ} {end : ℕ} {all : List Instruction} {out : List ℕ} {pos : ℕ} → k < n
    → WritingBefore out₀ end all out pos (conditions_code (conditions_here s (n - k) at) d) → 8 * length (step_code (condition_here s at) d) ≤ pos
step_room s n k at d h w = omega (arith, w.room, code_length s n k at d h)

pub distance_more : (s : List ℕ) (n k at d : ℕ) → k < n
    → distance (conditions_here s (n - k) at) d ≡ distance (conditions_here s (n - (k + 1)) (at + 24)) (step_distance (condition_here s at) d)
unfolding distance
distance_more s n k at d h = rw (parts_next (condition_here s) condition_past n k at h)

pub distance_none : (s : List ℕ) (n k at d : ℕ) → n ≤ k → distance (conditions_here s (n - k) at) d ≡ d
unfolding distance
distance_none s n k at d h = rw (parts_end (condition_here s) condition_past n k at h)

-- ---- a rule

pub body_is_long : (m : ℕ) (qs : Rule) → length (rule_body m qs) ≡ 1 + length (conditions_code qs 1)
unfolding rule_body
body_is_long m qs = rw length-append (omega arith)

-- the return, and the conditions in front of it
pub body_put : (l : List ℕ) (at end m : ℕ) (qs : Rule) → at + 8 ≡ end → 8 * length (rule_body m qs) ≤ end → end ≤ length l
    → place_before (place l at (instruction_bytes (return m))) at (filter_bytes (conditions_code qs 1)) ≡ place_before l end (filter_bytes (rule_body m qs))
unfolding rule_body
body_put l at end m qs e fits room =
    let n = body_is_long m qs in
    let start = end - 8 * length (rule_body m qs) in
    rw (
      put_first l at (return m),
      before_is (place l at (filter_bytes (return m ∷ []))) at start (conditions_code qs 1) (omega arith),
      before_is l end start (rule_body m qs) (omega arith),
    )
    (puts_before l start at (conditions_code qs 1) (return m ∷ []) (omega arith) (omega arith))

pub rule_is_long : (m : ℕ) (qs : Rule) → length (rule_code m qs) ≡ 2 + length (rule_body m qs)
unfolding rule_code
rule_is_long m qs = omega arith

-- the body, then the two jumps in front of it
pub rule_put : (l : List ℕ) (at end m : ℕ) (qs : Rule) → at + 8 * length (rule_code m qs) ≤ length l → end ≡ at + 8 * length (rule_code m qs)
    → place (place (place_before l end (filter_bytes (rule_body m qs))) at (instruction_bytes (jump_by 1))) (at + 8) (instruction_bytes (jump_by (distance qs 1 + 1)))
    ≡ place l at (filter_bytes (rule_code m qs))
unfolding rule_code
rule_put l at end m qs room e =
    let b = rule_body m qs in
    let n = rule_is_long m qs in
    let w : length (place l (at + 16) (filter_bytes b)) ≡ length l = length_place l (at + 16) (filter_bytes b) (rw length_filter_bytes (omega arith)) in
    rw (before_is l end (at + 16) b (omega arith), put_2 (place l (at + 16) (filter_bytes b)) at (jump_by 1) (jump_by (distance qs 1 + 1)) (omega arith))
    (puts_before l at (at + 16) (jump_by 1 ∷ jump_by (distance qs 1 + 1) ∷ []) b (omega arith) (omega arith))
