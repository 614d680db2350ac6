-- LENGTH: the emitted filter has as many instructions as the sum over entries, rules and conditions says.
use mathlib.Core.Path.{◌≡◌, refl}
use mathlib.Core.Bool.{Bool, true, false, cond}
use mathlib.Core.List.{List, [], ◌∷◌}
use Prim.Native.Nat.{ℕ, ◌+◌, ◌*◌, ◌≤◌}
use native.Mathlib.Omega.{arith}
use lib.Dec.{ltb}
use lib.ListN.{length, length-append}
use Rattle.definitions.specs.declared.Operator.{Operator}
use Rattle.definitions.specs.declared.Operator.TheVariants.{Eq, Ge, Gt, Le, Lt, MaskedEq, Ne}
use Rattle.definitions.specs.declared.Width.{Width}
use Rattle.definitions.specs.declared.Width.TheVariants.{Dword, Qword}
use Rattle.definitions.specs.declared.Condition.{Condition}
use Rattle.definitions.specs.RuleSet.{Rule, Entry, guarded}
use Rattle.definitions.specs.Emitted.{jump_by, reach, high_tests, low_tests, high_part, low_part, condition_code, helpers, near, step_code, step_distance, conditions_code, rule_code, rule_body, rules_code, rule_bodies, body_code, entry_code, entries_code, numbers_code, emitted}
use Rattle.theorems.specs.Statements.{Lengths}
use Rattle.theorems.specs.Length.{for_width, condition_length, conditions_length, sum, rule_length, body_length, entry_length, filter_length}
use Rattle.theorems.proofs.Sequence.{length_sequence}
use Rattle.theorems.proofs.Conditions.{compared}
use Rattle.theorems.proofs.Heads.{length_head}

as_parts : (o : Operator) (w : Width) (i v m f : ℕ) → length (condition_code (compared o w i v m) f) ≡ condition_length o w
unfolding condition_code high_part low_part high_tests low_tests condition_length
as_parts Eq Dword i v m f = refl
as_parts Eq Qword i v m f = refl
as_parts Ge Dword i v m f = refl
as_parts Ge Qword i v m f = refl
as_parts Gt Dword i v m f = refl
as_parts Gt Qword i v m f = refl
as_parts Le Dword i v m f = refl
as_parts Le Qword i v m f = refl
as_parts Lt Dword i v m f = refl
as_parts Lt Qword i v m f = refl
as_parts MaskedEq Dword i v m f = refl
as_parts MaskedEq Qword i v m f = refl
as_parts Ne Dword i v m f = refl
as_parts Ne Qword i v m f = refl

pub length_condition_code : (q : Condition) (f : ℕ) → length (condition_code q f) ≡ condition_length q.operator q.width
length_condition_code q f = as_parts q.operator q.width q.index q.value q.mask f

-- it has two for each word that it looks at, at least, and six at most
pub condition_bounds : (o : Operator) (w : Width) → (for_width w 2 4 ≤ condition_length o w) × (condition_length o w ≤ 6)
unfolding condition_length
condition_bounds Eq Dword = (omega arith, omega arith)
condition_bounds Eq Qword = (omega arith, omega arith)
condition_bounds Ge Dword = (omega arith, omega arith)
condition_bounds Ge Qword = (omega arith, omega arith)
condition_bounds Gt Dword = (omega arith, omega arith)
condition_bounds Gt Qword = (omega arith, omega arith)
condition_bounds Le Dword = (omega arith, omega arith)
condition_bounds Le Qword = (omega arith, omega arith)
condition_bounds Lt Dword = (omega arith, omega arith)
condition_bounds Lt Qword = (omega arith, omega arith)
condition_bounds MaskedEq Dword = (omega arith, omega arith)
condition_bounds MaskedEq Qword = (omega arith, omega arith)
condition_bounds Ne Dword = (omega arith, omega arith)
condition_bounds Ne Qword = (omega arith, omega arith)

length_helpers : (d : ℕ) → length (helpers d) ≡ cond (ltb reach d) 3 0
unfolding helpers
length_helpers d = go (ltb reach d)
  where
    go : (t : Bool) → length (cond t (jump_by 2 ∷ jump_by (d + 1) ∷ jump_by (d + 1) ∷ []) []) ≡ cond t 3 0
    go true = refl
    go false = refl

pub length_conditions : (qs : Rule) (d : ℕ) → length (conditions_code qs d) ≡ conditions_length qs d
unfolding conditions_code conditions_length step_code step_distance
length_conditions [] d = refl
length_conditions (q ∷ qs) d =
    rw (length-append, length-append, length_condition_code q (near d), length_helpers d, length_conditions qs (near d + condition_length q.operator q.width))
    (omega arith)

-- a condition more in front of others
pub length_step : (q : Condition) (qs : Rule) (d : ℕ) → conditions_length (q ∷ qs) d ≡ conditions_length qs (step_distance q d) + length (step_code q d)
unfolding conditions_code
length_step q qs d = rw (← length_conditions (q ∷ qs) d, ← length_conditions qs (step_distance q d)) (length-append (conditions_code qs (step_distance q d)) (step_code q d))

pub length_rule_body : (m : ℕ) (qs : Rule) → length (rule_body m qs) ≡ 1 + conditions_length qs 1
unfolding rule_body
length_rule_body m qs = rw length-append (omega (arith, length_conditions qs 1))

pub length_rule_code : (m : ℕ) (qs : Rule) → length (rule_code m qs) ≡ rule_length qs
unfolding rule_code
length_rule_code m qs = omega (arith, length_rule_body m qs)

pub length_rules : (m : ℕ) (rs : List Rule) → length (rules_code m rs) ≡ sum rule_length rs
length_rules m rs = length_sequence (rule_code m) rule_length (length_rule_code m) rs

-- bodies are shorter by the two jumps of each rule
pub rules_shorter : (m : ℕ) (rs : List Rule) → length (rule_bodies m rs) + 2 * length rs ≡ length (rules_code m rs)
unfolding rule_code
rules_shorter m [] = refl
rules_shorter m (r ∷ rs) = simp length-append (omega (arith, rules_shorter m rs))

pub length_body : (m : ℕ) (rs : List Rule) → length (body_code m rs) ≡ body_length rs
unfolding body_code body_length
length_body m [] = refl
length_body m (r ∷ rs) = length_rules m (r ∷ rs)

pub length_entry_code : (m d : ℕ) (e : Entry) → length (entry_code m d e) ≡ entry_length e
unfolding entry_code
length_entry_code m d e = simp length-append (omega (arith, length_body m e.rules))

pub length_entries : (m d : ℕ) (es : List Entry) → length (entries_code m d es) ≡ sum entry_length es
length_entries m d es = length_sequence (entry_code m d) entry_length (length_entry_code m d) es

pub length_emitted : Lengths
unfolding emitted numbers_code filter_length
length_emitted rs =
    simp length-append
    (omega (arith, length_head rs.architecture (guarded rs) (length rs.entries), length_entries rs.on_match rs.mismatch rs.entries))
