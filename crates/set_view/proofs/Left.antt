-- What is left of a walk over rules and entries: the next part ends inside the bytes where all that are left do, and the others are left behind it.
use mathlib.Core.Path.{◌≡◌, refl, ap, sym, ◌∙◌}
use mathlib.Core.List.{List, [], ◌∷◌}
use Prim.Native.Nat.{ℕ, zero, suc, ◌+◌, ◌-◌, ◌*◌, ◌≤◌}
use native.Mathlib.Omega.{arith}
use lib.ListN.{length}
use Rattle.std.specs.Iterator.{YieldsFirst}
use Rattle.std.proofs.lemmas.Iterator.{YieldsList}
use Rattle.std.proofs.lemmas.Iterator.Consumers.{YieldsList-from_shown}
use Rattle.definitions.specs.Word.{number_at}
use Rattle.definitions.specs.RuleSet.{Rule, Entry}
use Rattle.set_view.specs.Parts.{Reach, parts, conditions_here, rule_here, rule_past, rules_here, rules_past, entry_here, entry_past, entries_here, entries_past}
use Rattle.set_view.specs.Views.{Rest}
use Rattle.set_view.proofs.Walk.{parts_more, parts_none, behind_more, rule_inside, entries_further, entry_inside, entry_past_lem, rules_inside}

pub nothing_left : {A : Type 0} (here : ℕ → A) (past : ℕ → ℕ) (n at : ℕ) {all : List A} → parts here past n at ≡ all → n ≡ 0 → all ≡ []
nothing_left here past n at v e = sym v ∙ parts_none here past n at e

pub some_left : {A : Type 0} (here : ℕ → A) (past : ℕ → ℕ) (n at : ℕ) {all : List A} → parts here past n at ≡ all → (n ≡ 0 → ⊥) → all ≡ here at ∷ parts here past (n - 1) (past at)
some_left here past n at v h = sym v ∙ parts_more here past n at h

-- walking over rules gives them all
pub rules_yielded : (r : Rest) → YieldsList {A = Rule} (λ s x t. YieldsFirst {S = Rest} (λ y. y.rules) s x t × (t.entries ≡ s.entries)) (λ x. x) r r.rules
rules_yielded = YieldsList-from_shown _ (λ x. x) (λ (s : Rest). s.rules) (λ s t h. ap length h.0.0) (λ s x t h. h.0)

-- no parts are left exactly where their number is 0
pub none_is : {A : Type 0} (here : ℕ → A) (past : ℕ → ℕ) (n at : ℕ) → parts here past n at ≡ [] → n ≡ 0
unfolding parts
none_is here past zero at e = refl
none_is here past (suc n) at e = cc

-- n rules are left at a place, and entries behind them; the first has m conditions, and the others stand at `next`
module _ (s : List ℕ) (n from behind m next : ℕ) (h : n ≡ 0 → ⊥) (i : Reach s (entries_past s behind (rules_past s n from)))
    (many : m ≡ number_at 4 s from) (on : next ≡ from + 4 + 24 * m) where
  pub rule_fits : from + 4 + 24 * m ≤ length s
  rule_fits = rw many (rule_inside s n from (rules_past s n from) h refl (omega (arith, i.0, entries_further s behind (rules_past s n from))))

  pub rules_on : rules_past s (n - 1) next ≡ rules_past s n from
  rules_on = rw (on, many) (sym (behind_more (rule_past s) n from h))

  pub rules_left : {all : List Rule} → rules_here s n from ≡ all → all ≡ conditions_here s m (from + 4) ∷ rules_here s (n - 1) next
  rules_left v = rw (on, many) (some_left (rule_here s) (rule_past s) n from v h)

-- n entries are left at a place; the first has m rules
module _ (s : List ℕ) (n from m : ℕ) (h : n ≡ 0 → ⊥) (i : Reach s (entries_past s n from)) (many : m ≡ number_at 4 s (from + 4)) where
  fits : entry_past s from ≤ length s
  fits = entry_inside s n from (entries_past s n from) h refl i.0

  pub entry_fits : from + 8 ≤ length s
  entry_fits = (rules_inside s from fits).0

  pub entries_on : entries_past s (n - 1) (rules_past s m (from + 8)) ≡ entries_past s n from
  entries_on = rw (many, ← entry_past_lem s from) (sym (behind_more (entry_past s) n from h))

  pub entries_left : {all : List Entry} {number : ℕ} → number ≡ number_at 4 s from → entries_here s n from ≡ all
      → all ≡ record { number = number; rules = rules_here s m (from + 8) } ∷ entries_here s (n - 1) (rules_past s m (from + 8))
  unfolding entry_here
  entries_left e v = rw (e, many, ← entry_past_lem s from) (some_left (entry_here s) (entry_past s) n from v h)
