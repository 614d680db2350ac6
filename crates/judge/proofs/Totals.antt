-- What the sums over a whole set are: the length of its filter, its faults, and the entries with which it is short enough.
use mathlib.Core.Path.{◌≡◌, refl, sym, ◌∙◌}
use mathlib.Core.Bool.{Bool, true, false, cond, ◌&&◌}
use mathlib.Core.List.{List, [], ◌∷◌, ◌++◌}
use Prim.Native.Nat.{ℕ, zero, suc, ◌+◌, ◌≤◌}
use native.Mathlib.Nat.{add-zero, add_assoc}
use native.Mathlib.Omega.{arith}
use lib.Dec.{eqb, leb, ltb, eqb-suc-zero}
use lib.ListN.{length}
use borrow.Author.Tests.{le-ltb, ltb-false}
use Rattle.definitions.specs.RuleSet.{Rule, Entry, RuleSet, with_entries, no_rules, has_second_table, guarded}
use Rattle.definitions.specs.Answer.{fault, nowhere, unless, faults_of, condition_faults, count_faults, rule_faults, entries_faults, too_many, first_with, short_with, emitted_size, least_of}
use Rattle.theorems.specs.Length.{conditions_length, rule_length, body_length, entry_length, head_length, filter_length}
use Rattle.theorems.specs.Length as lengths
use Rattle.theorems.proofs.Lengths.{length_step, length_emitted}
use Rattle.theorems.proofs.Faults.{least_append}
use Rattle.judge.specs.Walk.{Sum, total, tells, tell_condition, conditions_start, tell_rule, tell_entry}

-- ---- conditions

module _ (e r : ℕ) where
  conditions_count : (c : ℕ) (qs : Rule) (x : Sum) → (tells (tell_condition e r) c qs x).count ≡ x.count + conditions_length qs x.carried
  unfolding tells tell_condition conditions_length
  conditions_count c [] x = sym (add-zero x.count)
  conditions_count c (q ∷ qs) x =
      conditions_count (suc c) qs (tell_condition e r c q x) ∙ (let n = length_step q qs x.carried in omega arith)

  conditions_fault : (c : ℕ) (qs : Rule) (x : Sum) → (tells (tell_condition e r) c qs x).fault ≡ least_of x.fault (faults_of (condition_faults e r) c qs)
  unfolding tells tell_condition faults_of least_of
  conditions_fault c [] x = refl
  conditions_fault c (q ∷ qs) x =
      conditions_fault (suc c) qs (tell_condition e r c q x) ∙ sym (least_append x.fault (condition_faults e r c q) (faults_of (condition_faults e r) (suc c) qs))

-- ---- rules

module _ (e : ℕ) where
  rules_count : (i : ℕ) (rs : List Rule) (x : Sum) → (tells (tell_rule e) i rs x).count ≡ x.count + lengths.sum rule_length rs
  unfolding tells tell_rule
  rules_count i [] x = sym (add-zero x.count)
  rules_count i (qs ∷ rs) x =
      rules_count (suc i) rs (tell_rule e i qs x)
      ∙ (let n = conditions_count e i 0 qs (conditions_start (x.count + 3) (least_of x.fault (count_faults e i (length qs)))) in omega arith)

  rules_fault : (i : ℕ) (rs : List Rule) (x : Sum) → (tells (tell_rule e) i rs x).fault ≡ least_of x.fault (faults_of (rule_faults e) i rs)
  unfolding tells tell_rule faults_of rule_faults least_of
  rules_fault i [] x = refl
  rules_fault i (qs ∷ rs) x =
      let counted = least_of x.fault (count_faults e i (length qs)) in
      rules_fault (suc i) rs (tell_rule e i qs x)
      ∙ rw (conditions_fault e i 0 qs (conditions_start (x.count + 3) counted), least_append x.fault (rule_faults e i qs) (faults_of (rule_faults e) (suc i) rs), least_append x.fault (count_faults e i (length qs)) (faults_of (condition_faults e i) 0 qs))

-- ---- entries

body_by : (rs : List Rule) → cond (no_rules rs) 5 2 + lengths.sum rule_length rs ≡ 2 + body_length rs
unfolding body_length
body_by [] = refl
body_by (r ∷ rs) = refl

abbrev start_of : ℕ → Entry → Sum → Sum
start_of i e x = total (x.count + cond (no_rules e.rules) 5 2) (least_of x.fault (unless (leb x.carried e.number) (fault 2 i nowhere nowhere)))

entry_count : (i : ℕ) (e : Entry) (x : Sum) → (tell_entry i e x).count ≡ x.count + entry_length e
unfolding tell_entry
entry_count i e x = rules_count i 0 e.rules (start_of i e x) ∙ (let b = body_by e.rules in omega arith)

pub entries_count : (i : ℕ) (es : List Entry) (x : Sum) → (tells tell_entry i es x).count ≡ x.count + lengths.sum entry_length es
unfolding tells
entries_count i [] x = sym (add-zero x.count)
entries_count i (e ∷ es) x = entries_count (suc i) es (tell_entry i e x) ∙ (let n = entry_count i e x in omega arith)

pub entries_fault : (i : ℕ) (es : List Entry) (x : Sum) → (tells tell_entry i es x).fault ≡ least_of x.fault (entries_faults x.carried i es)
unfolding tells tell_entry entries_faults least_of
entries_fault i [] x = refl
entries_fault i (e ∷ es) x =
    entries_fault (suc i) es (tell_entry i e x)
    ∙ rw (rules_fault i 0 e.rules (start_of i e x), least_append x.fault (unless (leb x.carried e.number) (fault 2 i nowhere nowhere)) (faults_of (rule_faults i) 0 e.rules ++ entries_faults (e.number + 1) (suc i) es), least_append (least_of x.fault (unless (leb x.carried e.number) (fault 2 i nowhere nowhere))) (faults_of (rule_faults i) 0 e.rules) (entries_faults (e.number + 1) (suc i) es))

-- ---- how many entries are short enough

-- so many instructions stand around them and in front
unfoldable pub fitting : ℕ → List Entry → ℕ
fitting n [] = 0
fitting n (e ∷ es) = cond (ltb (n + entry_length e) too_many) (suc (fitting (n + entry_length e) es)) 0

fitting_none : (n : ℕ) (es : List Entry) → too_many ≤ n → fitting n es ≡ 0
unfolding fitting
fitting_none n [] h = refl
fitting_none n (e ∷ es) h = rw (le-ltb (n + entry_length e) too_many (omega arith))

pub entries_fit : (i : ℕ) (es : List Entry) (x : Sum) → (tells tell_entry i es x).fits ≡ cond (eqb (fitting x.count es) 0) x.fits (i + fitting x.count es)
unfolding tells tell_entry fitting
entries_fit i [] x = refl
entries_fit i (e ∷ es) x =
    entries_fit (suc i) es (tell_entry i e x) ∙ rw (entry_count i e x) (go (ltb (x.count + entry_length e) too_many) refl)
  where
    go : (t : Bool) → ltb (x.count + entry_length e) too_many ≡ t
        → cond (eqb (fitting (x.count + entry_length e) es) 0) (cond t (suc i) x.fits) (suc i + fitting (x.count + entry_length e) es)
        ≡ cond (eqb (cond t (suc (fitting (x.count + entry_length e) es)) 0) 0) x.fits (i + cond t (suc (fitting (x.count + entry_length e) es)) 0)
    go true h = by (fitting (x.count + entry_length e) es)
      where
        by : (k : ℕ) → cond (eqb k 0) (suc i) (suc i + k) ≡ cond (eqb (suc k) 0) x.fits (i + suc k)
        by zero = omega arith
        by (suc k) = rw (eqb-suc-zero k, eqb-suc-zero (suc k)) (omega arith)
    go false h = rw (fitting_none (x.count + entry_length e) es (ltb-false _ _ h))

sum_more : (es : List Entry) (e : Entry) → lengths.sum entry_length (es ++ (e ∷ [])) ≡ lengths.sum entry_length es + entry_length e
sum_more [] e = omega arith
sum_more (x ∷ es) e = omega (arith, sum_more es e)

-- what stands around the entries, however many there are
abbrev pub around : RuleSet → ℕ
around rs = head_length (guarded rs) 1 + 1

head_more : (guards : Bool) (es : List Entry) (e : Entry) → head_length guards (length (es ++ (e ∷ []))) ≡ head_length guards 1
unfolding head_length
head_more true es e = refl
head_more false [] e = refl
head_more false (x ∷ es) e = refl

length_more : (rs : RuleSet) (es : List Entry) (e : Entry)
    → filter_length (with_entries rs (es ++ (e ∷ []))) ≡ around rs + lengths.sum entry_length es + entry_length e
unfolding filter_length guarded
length_more rs es e = rw (head_more (rs.native_only && has_second_table rs.architecture) es e, sum_more es e) (omega arith)

pub fits_by : (rs : RuleSet) (seen es : List Entry) → first_with (short_with emitted_size rs) seen es ≡ fitting (around rs + lengths.sum entry_length seen) es
unfolding first_with fitting
fits_by rs seen [] = refl
fits_by rs seen (e ∷ es) =
    rw (length_emitted _, length_more rs seen e, fits_by rs (seen ++ (e ∷ [])) es, sum_more seen e, ← add_assoc (around rs) (lengths.sum entry_length seen) (entry_length e))
