-- How long a filter is, counted without writing it: a sum over entries, rules and conditions. Theorem `length_emitted` says that this
-- is the emitted filter's length; no promise needs it to be believed.
use Rattle.std.specs.Prelude.{ℕ, zero, suc, ◌+◌, Bool, true, false, cond, List, [], ◌∷◌, ltb, length}
use Rattle.definitions.specs.declared.Operator.{Operator}
use Rattle.definitions.specs.declared.Operator.TheVariants.{Eq, Ge, Gt, Le, Lt, MaskedEq, Ne}
use Rattle.definitions.specs.declared.Width.{Width}
use Rattle.definitions.specs.declared.Width.TheVariants.{Dword, Qword}
use Rattle.definitions.specs.RuleSet.{Rule, Entry, RuleSet, guarded}
use Rattle.definitions.specs.Emitted.{reach, near}

-- a dword's instructions, and a qword's
abbrev pub for_width : Width → ℕ → ℕ → ℕ
for_width Dword d q = d
for_width Qword d q = q

unfoldable pub condition_length : Operator → Width → ℕ
condition_length Eq w = for_width w 2 4
condition_length Ge w = for_width w 2 5
condition_length Gt w = for_width w 2 5
condition_length Le w = for_width w 2 5
condition_length Lt w = for_width w 2 5
condition_length MaskedEq w = for_width w 3 6
condition_length Ne w = for_width w 2 4

-- the conditions of a rule, from distance d on, with three helper jumps wherever the distance has passed the reach
unfoldable pub conditions_length : Rule → ℕ → ℕ
conditions_length [] d = 0
conditions_length (q ∷ qs) d =
    conditions_length qs (near d + condition_length q.operator q.width) + condition_length q.operator q.width + cond (ltb reach d) 3 0

abbrev pub sum : {A : Type 0} → (A → ℕ) → List A → ℕ
sum f [] = 0
sum f (x ∷ xs) = f x + sum f xs

abbrev pub rule_length : Rule → ℕ
rule_length qs = 3 + conditions_length qs 1

unfoldable pub body_length : List Rule → ℕ
body_length [] = 3
body_length (r ∷ rs) = sum rule_length (r ∷ rs)

abbrev pub entry_length : Entry → ℕ
entry_length e = 2 + body_length e.rules

-- the head, in front of n entries: with a guard, else with the load of the number where something is listed
unfoldable pub head_length : Bool → ℕ → ℕ
head_length true n = 7
head_length false zero = 3
head_length false (suc n) = 4

unfoldable pub filter_length : RuleSet → ℕ
filter_length rs = head_length (guarded rs) (length rs.entries) + sum entry_length rs.entries + 1
