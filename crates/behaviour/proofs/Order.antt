-- ORDER: the order of a number's rules, and of a rule's conditions, changes no action.
use mathlib.Core.Path.{◌≡◌, refl, sym, ap, ◌∙◌}
use mathlib.Core.Bool.{Bool, true, false, cond, ◌&&◌, ◌||◌}
use mathlib.Core.List.{List, [], ◌∷◌, ◌++◌}
use Prim.Native.Nat.{ℕ}
use Rattle.definitions.specs.declared.Condition.{Condition}
use Rattle.definitions.specs.Machine.{Call, returns}
use Rattle.definitions.specs.RuleSet.{Rule, Entry, holds, all_hold, any_holds, matches, listed}
use Rattle.behaviour.specs.Changes.{OneAnother, another, RulesBy, Swapped, swap, Reordered, same, rules, conditions, after}
use Rattle.behaviour.specs.Statements.{Order, OrderBytes}
use Rattle.behaviour.proofs.Changes.{matches_there, rules_changed, meaning_changed}
use Rattle.behaviour.proofs.Outputs.{does}

and_swap : (a b t : Bool) → (a && (b && t)) ≡ (b && (a && t))
and_swap true true t = refl
and_swap true false t = refl
and_swap false true t = refl
and_swap false false t = refl

or_swap : (a b t : Bool) → (a || (b || t)) ≡ (b || (a || t))
or_swap true true t = refl
or_swap true false t = refl
or_swap false true t = refl
or_swap false false t = refl

module _ (c : Call) where
  all_swapped : (front back : Rule) (p q : Condition) → all_hold c (front ++ (p ∷ (q ∷ back))) ≡ all_hold c (front ++ (q ∷ (p ∷ back)))
  unfolding all_hold
  all_swapped [] back p q = and_swap (holds c p) (holds c q) (all_hold c back)
  all_swapped (f ∷ front) back p q = ap (λ t. holds c f && t) (all_swapped front back p q)

  rule_swapped : (r s : Rule) → Swapped r s → all_hold c r ≡ all_hold c s
  rule_swapped r s (swap front back p q e f) = rw (e, f) (all_swapped front back p q)

  any_swapped : (front back : List Rule) (r s : Rule) → any_holds c (front ++ (r ∷ (s ∷ back))) ≡ any_holds c (front ++ (s ∷ (r ∷ back)))
  unfolding any_holds
  any_swapped [] back r s = or_swap (all_hold c r) (all_hold c s) (any_holds c back)
  any_swapped (f ∷ front) back r s = ap (λ t. all_hold c f || t) (any_swapped front back r s)

  any_another : (front back : List Rule) (r s : Rule) → all_hold c r ≡ all_hold c s → any_holds c (front ++ (r ∷ back)) ≡ any_holds c (front ++ (s ∷ back))
  unfolding any_holds
  any_another [] back r s h = ap (λ t. t || any_holds c back) h
  any_another (f ∷ front) back r s h = ap (λ t. all_hold c f || t) (any_another front back r s h)

  rules_swapped : (rs ts : List Rule) → Swapped rs ts → matches c rs ≡ matches c ts
  rules_swapped rs ts (swap front back r s p q) =
      rw (p, q) (matches_there c front (s ∷ back) r ∙ any_swapped front back r s ∙ sym (matches_there c front (r ∷ back) s))

  conditions_swapped : (rs ts : List Rule) → OneAnother Swapped rs ts → matches c rs ≡ matches c ts
  conditions_swapped rs ts (another front back r s k p q) =
      rw (p, q) (matches_there c front back r ∙ any_another front back r s (rule_swapped r s k) ∙ sym (matches_there c front back s))

  module _ (m d : ℕ) where
    listed_by : (R : List Rule → List Rule → Type 0) → ((rs ts : List Rule) → R rs ts → matches c rs ≡ matches c ts)
        → (old new : List Entry) → OneAnother (RulesBy R) old new → listed c m d old ≡ listed c m d new
    listed_by R one = rules_changed c (λ a b. a ≡ b) (λ a. refl) m d R (λ rs ts k. ap (λ (t : Bool). cond t m d) (one rs ts k))

    listed_same : (old new : List Entry) → Reordered old new → listed c m d old ≡ listed c m d new
    listed_same _ _ (same es) = refl
    listed_same _ _ (rules old new k) = listed_by Swapped rules_swapped old new k
    listed_same _ _ (conditions old new k) = listed_by (OneAnother Swapped) conditions_swapped old new k
    listed_same _ _ (after old mid new j k) = listed_same old mid j ∙ listed_same mid new k

pub order : Order
order old new g c =
    meaning_changed c (λ a b. a ≡ b) (λ a. refl) Reordered old new g (listed_same c old.on_match old.mismatch old.entries new.entries g.entries)

pub order_bytes : OrderBytes
order_bytes old new f g p q change c = does old f p c ∙ ap returns (order old new change c) ∙ sym (does new g q c)
