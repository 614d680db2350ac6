-- Rule sets made part by part, as a host makes them: a set is started, numbers are listed, rules are begun and conditions are added.
-- Each part goes behind the last one.
use Rattle.std.specs.Prelude.{ℕ, Bool, List, [], ◌∷◌, ◌++◌}
use Rattle.std.proofs.Math.Option.{Option, some}
use Rattle.definitions.specs.declared.Condition.{Condition}
use Rattle.definitions.specs.RuleSet.{Architecture, Rule, Entry, RuleSet, with_entries}
use Rattle.definitions.specs.Format.{width_of, operator_of, mask_taken, then, check}

-- the last of a list changed
abbrev pub on_last : {A : Type 0} → (A → A) → List A → List A
on_last f [] = []
on_last f (x ∷ []) = f x ∷ []
on_last f (x ∷ (y ∷ ys)) = x ∷ on_last f (y ∷ ys)

-- the rules of the number that was listed last
abbrev pub last_rules : List Entry → List Rule
last_rules [] = []
last_rules (e ∷ []) = e.rules
last_rules (e ∷ (f ∷ es)) = last_rules (f ∷ es)

abbrev pub on_entries : (List Entry → List Entry) → RuleSet → RuleSet
on_entries f rs = with_entries rs (f rs.entries)

abbrev pub on_rules : (List Rule → List Rule) → Entry → Entry
on_rules f e = record { number = e.number; rules = f e.rules }

-- a set with nothing listed
abbrev pub started : Architecture → Bool → ℕ → ℕ → RuleSet
started a native d m = record { architecture = a; native_only = native; mismatch = d; on_match = m; entries = [] }

-- a number listed, with no rules yet
abbrev pub with_entry : ℕ → RuleSet → RuleSet
with_entry n = on_entries (λ entries. entries ++ (record { number = n; rules = [] } ∷ []))

-- a rule, with no conditions yet, for the number that was listed last
abbrev pub with_rule : RuleSet → RuleSet
with_rule = on_entries (on_last (on_rules (λ rules. rules ++ ([] ∷ []))))

-- a condition for the rule that was begun last
abbrev pub with_condition : Condition → RuleSet → RuleSet
with_condition q = on_entries (on_last (on_rules (on_last (λ rule. rule ++ (q ∷ [])))))

-- the condition that numbers stand for, where the format has one
unfoldable pub condition_of : ℕ → ℕ → ℕ → ℕ → ℕ → Option Condition
condition_of index width operator value mask =
    then (width_of width) (λ w. then (operator_of operator) (λ o.
    check (mask_taken o mask) (some (record { index = index; width = w; operator = o; value = value; mask = mask }))))

abbrev pub condition_part : ℕ → ℕ → ℕ → ℕ → ℕ → Option (RuleSet → RuleSet)
condition_part index width operator value mask = then (condition_of index width operator value mask) (λ q. some (with_condition q))
