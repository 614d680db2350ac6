-- QUICK, of rules that are alike, each with equalities on the same arguments: with at most 2 ^ j rules, a search takes for each word that is
-- looked at a load and what a tree of 2 ^ j spans takes, and a return.
use mathlib.Core.Path.{◌≡◌, refl, ap, ap₂, ◌∙◌, sym, subst}
use mathlib.Core.Bool.{true, ◌&&◌}
use mathlib.Core.List.{List, [], ◌∷◌, ◌++◌}
use Prim.Native.Nat.{ℕ, zero, suc, ◌+◌, ◌*◌, ◌-◌, ◌/◌, ◌^◌, ◌≤◌, max}
use native.Mathlib.Omega.{arith}
use native.Mathlib.Nat.{pow-suc, suc-mul}
use lib.Dec.{eqb, leb}
use lib.ListN.{length, length-append}
use borrow.Author.Tests.{eqb-true, le-leb, eq-eqb, le-ltb}
use Rattle.definitions.specs.declared.Width.{Width}
use Rattle.definitions.specs.declared.Width.TheVariants.{Dword, Qword}
use Rattle.definitions.specs.declared.Condition.{Condition}
use Rattle.definitions.specs.Machine.{Call, visits, steps, codes, kind_in, kind_of, step_as, step}
use Rattle.definitions.specs.RuleSet.{Rule, Entry, RuleSet, rules_of, span_count}
use Rattle.definitions.specs.Compiled.{guard_steps}
use Rattle.definitions.specs.Format.{Each}
use Rattle.definitions.specs.Answer.{ascending, indices_taken}
use Rattle.definitions.specs.Emitted.{return, rule_bodies, rule_body, condition_code, conditions_code, step_code, step_distance, near, helpers}
use Rattle.theorems.specs.Length.{for_width}
use Rattle.theorems.proofs.Lengths.{length_condition_code, condition_bounds}
use Rattle.theorems.proofs.Tests.{both_true, true_both}
use Rattle.search_form.specs.Counts.{search_most}
use Rattle.search_form.specs.Rules.{is_equality, same_width, Look, half, looks_at, as_dword, left_of, alike, condition_looks, looks, only, joining, add_case, by_first, cases, patterned, pattern, alikes, others, rules_most, rules_form}
use Rattle.search_form.proofs.Cases.{cond_case}
use Rattle.search_form.proofs.Found.{tree_most}
use Rattle.search_form.proofs.RuleCases.{no, Fits, Rest, Rests, fits_none, fits_first, cases_few, cases_some, cases_rest, found_rest, seen}
use Rattle.search_form.proofs.RulesRight.{halvings, doublings, linear_most, found_most, searched_most, words_most, ruled_most}
use Rattle.search_form.proofs.RulesSizes.{linear_size, leaf_size, cases_size, searched_size, words_size, ruled_size, surely}
use Rattle.search_form.proofs.RulesForm.{entry_most, number_most, rules_form_quick}

-- ---- no more halvings than that

halvings_least : (fuel n j : ℕ) → n ≤ 2 ^ j → halvings fuel n ≤ j
unfolding halvings
halvings_least zero n j h = omega arith
halvings_least (suc fuel) n zero h = rw (le-leb n 1 (omega arith)) (omega arith)
halvings_least (suc fuel) n (suc j) h =
    cond_case (λ (k : ℕ). k ≤ suc j) (leb n 1) _ _ (λ y. omega arith)
    (λ y. omega (arith, halvings_least fuel ((n + 1) / 2) j (let z : n ≤ 2 ^ j * 2 = rw pow-suc at h in omega arith)))

pub doublings_least : (n j : ℕ) → n ≤ 2 ^ j → doublings n ≤ j
unfolding doublings
doublings_least n j h = halvings_least n n j h

tree_more : (i j : ℕ) → i ≤ j → tree_most i ≤ tree_most j
unfolding tree_most
tree_more i j h = omega arith

-- ---- what a search by words takes

module _ (c : Call) (m d : ℕ) where
  found_most_lem : (most : List Rule → ℕ) (ks : List Look) (n b : ℕ) (rs : List Rule) → Rest ks n rs → 1 ≤ b → (1 ≤ length rs → most rs ≤ b) → found_most c m d most rs ≤ b
  unfolding found_most
  found_most_lem most ks n b [] g o h = o
  found_most_lem most ks n b (r ∷ rs) g o h = h (omega arith)

  pub words_most_lem : (j : ℕ) (ks : List Look) (rs : List Rule) → Each (Fits ks) rs → 1 ≤ length rs → length rs ≤ 2 ^ j
      → searched_most c m d ks rs ≤ length ks * suc (tree_most j) + 1
  unfolding searched_most
  words_most_lem j [] [] g o l = absurd (omega arith)
  words_most_lem j [] (r ∷ rs) g o l = absurd (fits_none r g.0)
  words_most_lem j (k ∷ ks) rs g o l =
      let es : List Entry = cases k.width rs in
      let r = found_rest ks (seen c k) (length rs) (cases k.width rs) (cases_rest k ks rs g) in
      let y : found_most c m d (searched_most c m d ks) (rules_of (seen c k) (cases k.width rs)) ≤ length ks * suc (tree_most j) + 1 =
      found_most_lem (searched_most c m d ks) ks (length rs) (length ks * suc (tree_most j) + 1) (rules_of (seen c k) (cases k.width rs)) r (omega arith)
      (λ o₂. words_most_lem j ks (rules_of (seen c k) (cases k.width rs)) r.fits o₂ (omega (arith, r.few))) in
      let t = tree_more (doublings (length (cases k.width rs))) j (doublings_least (length (cases k.width rs)) j (omega (arith, cases_few k.width rs))) in
      omega (arith, suc-mul (length ks) (suc (tree_most j)))

-- ---- rules that are alike are all searched

same_width_lem : (w u : Width) → same_width w u ≡ true → u ≡ w
unfolding same_width
same_width_lem Dword Dword h = refl
same_width_lem Dword Qword h = no h
same_width_lem Qword Dword h = no h
same_width_lem Qword Qword h = refl

looks_same : (k : Look) (q : Condition) → looks_at k q ≡ true
    → (is_equality q.operator ≡ true) × (◌≡◌ {A = Look} (record { index = q.index; width = q.width }) k)
unfolding looks_at
looks_same k q h =
    let x = both_true (eqb q.index k.index) (same_width k.width q.width && is_equality q.operator) h in
    let y = both_true (same_width k.width q.width) (is_equality q.operator) x.1 in
    let i : q.index ≡ k.index = eqb-true q.index k.index x.0 in
    let w : q.width ≡ k.width = same_width_lem k.width q.width y.0 in
    (y.1, ap₂ (λ (a : ℕ) (b : Width). record { index = a; width = b }) i w)

-- the words that a rule is alike to are its own
first_looks : (q : Condition) (qs : Rule) → ((ks : List Look) → alike ks qs ≡ true → looks qs ≡ ks) → (w : Width) (ks : List Look)
    → alike ks (left_of w q ++ qs) ≡ true → condition_looks w q.index ++ looks qs ≡ record { index = q.index; width = w } ∷ ks
unfolding alike left_of condition_looks
first_looks q qs again Dword ks h = ap (λ (l : List Look). record { index = q.index; width = Dword } ∷ l) (again ks h)
first_looks q qs again Qword [] h = no h
first_looks q qs again Qword (k ∷ ks) h =
    let x = both_true (looks_at k (as_dword q)) (alike ks (left_of k.width (as_dword q) ++ qs)) h in
    let s : ◌≡◌ {A = Look} (record { index = q.index; width = Dword }) k = (looks_same k (as_dword q) x.0).1 in
    let w : Dword ≡ k.width = ap (λ (l : Look). l.width) s in
    let y : alike ks qs ≡ true = rw (← w) at x.1 in
    ap₂ (λ (l : Look) (ls : List Look). record { index = q.index; width = Qword } ∷ l ∷ ls) s (again ks y)

pub alike_looks : (ks : List Look) (r : Rule) → alike ks r ≡ true → looks r ≡ ks
unfolding alike looks
alike_looks [] [] h = refl
alike_looks [] (q ∷ qs) h = no h
alike_looks (k ∷ ks) [] h = no h
alike_looks (k ∷ ks) (q ∷ qs) h =
    let x = both_true (looks_at k q) (alike ks (left_of k.width q ++ qs)) h in
    let s = (looks_same k q x.0).1 in
    let w : q.width ≡ k.width = ap (λ (l : Look). l.width) s in
    let y : alike ks (left_of q.width q ++ qs) ≡ true = subst (λ (u : Width). alike ks (left_of u q ++ qs) ≡ true) (sym w) x.1 in
    first_looks q qs (λ ls. alike_looks ls qs) q.width ks y ∙ ap (λ (l : Look). l ∷ ks) s

module _ (ks : List Look) where
  pub all_chosen : (rs : List Rule) → Each (Fits ks) rs → alikes ks rs ≡ rs
  unfolding alikes
  all_chosen [] g = refl
  all_chosen (r ∷ rs) g = rw (g.0.alike, all_chosen rs g.1)

  pub none_other : (rs : List Rule) → Each (Fits ks) rs → others ks rs ≡ []
  unfolding others
  none_other [] g = refl
  none_other (r ∷ rs) g = rw g.0.alike (none_other rs g.1)

  pub pattern_alike : (rs : List Rule) → Each (Fits ks) rs → 1 ≤ length rs → length ks ≤ 12 → pattern rs ≡ ks
  unfolding pattern patterned
  pattern_alike [] g o l = absurd (omega arith)
  pattern_alike (r ∷ rs) g o l =
      let e = alike_looks ks r g.0.alike in
      let t : (alike (looks r) r && leb (length (looks r)) 12) ≡ true = rw e (true_both g.0.alike (le-leb (length ks) 12 l)) in
      rw t e

no_rules_lem : (m d : ℕ) (c : Call) → linear_most c m d [] ≡ 1
unfolding visits step step_as kind_of kind_in codes
no_rules_lem m d c = refl

no_code : (m : ℕ) → length (rule_bodies m []) ≡ 0
no_code m = refl

-- a number's rules, all alike
module _ (c : Call) (m d : ℕ) (ks : List Look) where
  pub alike_most : (j : ℕ) (rs : List Rule) → Each (Fits ks) rs → 1 ≤ length rs → length rs ≤ 2 ^ j → length ks ≤ 12
      → ruled_most c m d rs ≤ length ks * suc (tree_most j) + 1
  unfolding ruled_most
  alike_most j rs g o l n = rw (pattern_alike ks rs g o n, all_chosen ks rs g, none_other ks rs g) (go rs g o l)
    where
      go : (rs : List Rule) → Each (Fits ks) rs → 1 ≤ length rs → length rs ≤ 2 ^ j → words_most c m d ks rs [] rs ≤ length ks * suc (tree_most j) + 1
      go [] g o l = absurd (omega arith)
      go (r ∷ rs) g o l = unfold words_most in omega (arith, words_most_lem c m d j ks (r ∷ rs) g (omega arith) l, no_rules_lem m d c)

module _ (m d : ℕ) (ks : List Look) where
  pub alike_size : (rs : List Rule) → Each (Fits ks) rs → 1 ≤ length rs → length ks ≤ 12 → ruled_size m d rs ≡ searched_size m d ks rs
  unfolding ruled_size
  alike_size rs g o n = rw (pattern_alike ks rs g o n, all_chosen ks rs g, none_other ks rs g) (go rs o)
    where
      go : (rs : List Rule) → 1 ≤ length rs → words_size m d ks rs [] rs ≡ searched_size m d ks rs
      go [] o = absurd (omega arith)
      go (r ∷ rs) o = unfold words_size in omega (arith, no_code m)

-- ---- one equality each, on a dword: it is sure that they are searched

looks_two : (w : Width) (i : ℕ) → 2 * length (condition_looks w i) ≡ for_width w 2 4
unfolding condition_looks
looks_two Dword i = refl
looks_two Qword i = refl

conditions_least : (qs : Rule) (f : ℕ) → 2 * length (looks qs) ≤ length (conditions_code qs f)
unfolding conditions_code step_code looks
conditions_least [] f = omega arith
conditions_least (q ∷ qs) f =
    omega (
      arith,
      length-append (conditions_code qs (step_distance q f)) (step_code q f),
      length-append (condition_code q (near f)) (helpers f),
      conditions_least qs (step_distance q f),
      length_condition_code q (near f),
      condition_bounds q.operator q.width,
      looks_two q.width q.index,
      length-append (condition_looks q.width q.index) (looks qs),
    )

module _ (m d : ℕ) where
  rules_least : (ks : List Look) (rs : List Rule) → Each (Fits ks) rs → length rs * (2 * length ks + 1) ≤ length (rule_bodies m rs)
  unfolding rule_body
  rules_least ks [] g = omega arith
  rules_least ks (r ∷ rs) g =
      omega (
        arith,
        suc-mul (length rs) (2 * length ks + 1),
        length-append (conditions_code r 1 ++ (return m ∷ [])) (rule_bodies m rs),
        length-append (conditions_code r 1) (return m ∷ []),
        conditions_least r 1,
        ap length (alike_looks ks r g.0.alike),
        rules_least ks rs g.1,
      )

  -- with no word left each value takes three
  none_size : (size : List Rule → ℕ) (n : ℕ) (es : List Entry) → Rests [] n es → cases_size m d size es ≡ 3 * length es
  unfolding cases_size leaf_size
  none_size size n [] g = refl
  none_size size n (e ∷ es) g = omega (arith, none_size size n es g.1, none e.rules g.0)
    where
      none : (rs : List Rule) → Rest [] n rs → leaf_size m d size rs ≡ 0
      none [] h = refl
      none (r ∷ rs) h = absurd (fits_none r h.fits.0)

  pub last_size : (k : Look) (rs : List Rule) → Each (Fits (k ∷ [])) rs → 1 ≤ length rs → searched_size m d (k ∷ []) rs ≤ 3 * length rs + 1
  unfolding searched_size
  last_size k rs g o =
      omega (arith, none_size (searched_size m d []) (length rs) (cases k.width rs) (cases_rest k [] rs g), cases_few k.width rs, cases_some k [] rs g o)

  pub dwords_sure : (k : Look) (rs : List Rule) → Each (Fits (k ∷ [])) rs → 1 ≤ length rs → length rs ≤ rules_most → surely m d rs ≡ true
  unfolding surely
  dwords_sure k rs g o n =
      true_both (le-leb (length rs) rules_most n)
      (le-leb (ruled_size m d rs) (linear_size m d rs) (omega (arith, alike_size m d (k ∷ []) rs g o (omega arith), last_size k rs g o, rules_least (k ∷ []) rs g)))

-- the common shape: with at most 2 ^ j rules, each one equality on the low word of one argument, a number's rules take at most
-- j + 5 + (j - 6) instructions
pub dwords_most : (c : Call) (m d j : ℕ) (k : Look) (rs : List Rule) → Each (Fits (k ∷ [])) rs → 1 ≤ length rs → length rs ≤ 2 ^ j → length rs ≤ rules_most
    → entry_most c m d rs ≤ j + 5 + (j - 6)
unfolding entry_most
dwords_most c m d j k rs g o l n =
    rw (dwords_sure m d k rs g o n)
    (let x = alike_most c m d (k ∷ []) j rs g o l (omega arith) in
    let y : tree_most j ≡ j + 3 + (j - 6) = unfold tree_most in refl in
    omega arith)

-- the whole filter, for a call whose number has such rules: 11 instructions from there with 64 of them
pub dwords_quick : (rs : RuleSet) → ascending rs.entries ≡ true → indices_taken rs ≡ true → (c : Call) (i j : ℕ) (k : Look) (r : Rule) (more : List Rule)
    → span_count rs.entries ≤ 2 ^ i → rules_of c.number rs.entries ≡ r ∷ more → Each (Fits (k ∷ [])) (r ∷ more) → length (r ∷ more) ≤ 2 ^ j → length (r ∷ more) ≤ rules_most
    → steps (rules_form rs) c ≤ search_most i + guard_steps rs c + (j + 5 + (j - 6))
unfolding found_most
dwords_quick rs up taken c i j k r more l q g n h =
    let x = rules_form_quick rs up taken c i l in
    let e : number_most c rs.on_match rs.mismatch rs.entries ≡ entry_most c rs.on_match rs.mismatch (r ∷ more) =
    ap (λ (qs : List Rule). found_most c rs.on_match rs.mismatch (entry_most c rs.on_match rs.mismatch) qs) q in
    omega (arith, dwords_most c rs.on_match rs.mismatch j k (r ∷ more) g (omega arith) n h)

-- ---- one equality each, on a qword with one high word for all: sure too, of two rules or more

-- the value of a rule's first condition
unfoldable pub first_value : Width → Rule → ℕ
first_value w [] = 0
first_value w (q ∷ qs) = half w q.value

left_some : (k l : Look) (ls : List Look) (r : Rule) → alike (l ∷ ls) r ≡ true → (c : Condition) × (cs : Rule) × (r ≡ c ∷ cs)
unfolding alike
left_some k l ls [] h = no h
left_some k l ls (q ∷ qs) h = (q, qs, refl)

-- one value has all rules
pub record OneCase (v n : ℕ) (es : List Entry) : Type 0 where
  pub first : Rule
  pub rest : List Rule
  pub are : es ≡ record { number = v; rules = first ∷ rest } ∷ []
  pub count : suc (length rest) ≡ n

add_first : (v : ℕ) (q : Condition) (qs : Rule) → OneCase v 1 (add_case v (q ∷ qs) [])
unfolding add_case only
add_first v q qs = record { first = q ∷ qs; rest = []; are = refl; count = refl }

add_same : (v : ℕ) (q : Condition) (qs f : Rule) (fs : List Rule) → add_case v (q ∷ qs) (record { number = v; rules = f ∷ fs } ∷ []) ≡ record { number = v; rules = (q ∷ qs) ∷ f ∷ fs } ∷ []
unfolding add_case joining
add_same v q qs f fs = rw (le-ltb v v (omega arith), eq-eqb v v refl)

add_next : (v n : ℕ) (q : Condition) (qs : Rule) (es : List Entry) → OneCase v n es → OneCase v (suc n) (add_case v (q ∷ qs) es)
add_next v n q qs es i = record {
  first = q ∷ qs;
  rest = i.first ∷ i.rest;
  are = ap (add_case v (q ∷ qs)) i.are ∙ add_same v q qs i.first i.rest;
  count = omega (arith, i.count);
}

unfoldable Cased : Width → ℕ → List Rule → Type 0
Cased w v [] = Unit {0}
Cased w v (r ∷ rs) = OneCase v (suc (length rs)) (cases w (r ∷ rs))

module _ (k l : Look) (ls : List Look) (v : ℕ) where
  -- a rule that leaves something, in front of others with the same value
  in_front_lem : (r : Rule) (rs : List Rule) → alike (l ∷ ls) r ≡ true → Cased k.width v rs → OneCase v (suc (length rs)) (add_case v r (cases k.width rs))
  in_front_lem [] rs h i = no (unfold alike in h)
  in_front_lem (q ∷ qs) [] h i = unfold cases in add_first v q qs
  in_front_lem (q ∷ qs) (r ∷ rs) h i = add_next v (suc (length rs)) q qs (cases k.width (r ∷ rs)) (unfold Cased in i)

  one_case : (rs : List Rule) → Each (Fits (k ∷ l ∷ ls)) rs → Each (λ (r : Rule). first_value k.width r ≡ v) rs → Cased k.width v rs
  unfolding Cased first_value cases by_first
  one_case [] g h = tt
  one_case (r ∷ rs) g h = first r g.0 h.0 (one_case rs g.1 h.1)
    where
      first : (r : Rule) → Fits (k ∷ l ∷ ls) r → first_value k.width r ≡ v → Cased k.width v rs → OneCase v (suc (length rs)) (cases k.width (r ∷ rs))
      first [] f e i = absurd (omega (arith, f.some))
      first (q ∷ qs) f e i =
          subst (λ (x : ℕ). OneCase v (suc (length rs)) (add_case x (left_of k.width q ++ qs) (cases k.width rs))) (sym e) (in_front_lem (left_of k.width q ++ qs) rs (fits_first k (l ∷ ls) q qs f).1 i)

module _ (m d : ℕ) where
  size_step : (k : Look) (ks : List Look) (rs : List Rule) → searched_size m d (k ∷ ks) rs ≡ suc (max 1 (cases_size m d (searched_size m d ks) (cases k.width rs)))
  unfolding searched_size
  size_step k ks rs = refl

  qwords_size : (k l : Look) (v : ℕ) (r : Rule) (rs : List Rule) → Each (Fits (k ∷ l ∷ [])) (r ∷ rs) → Each (λ (r : Rule). first_value k.width r ≡ v) (r ∷ rs)
      → searched_size m d (k ∷ l ∷ []) (r ∷ rs) ≤ 3 * length (r ∷ rs) + 5
  qwords_size k l v r rs g h =
      let i : OneCase v (suc (length rs)) (cases k.width (r ∷ rs)) = unfold Cased in one_case k l [] v (r ∷ rs) g h in
      let w = rw i.are at (cases_rest k (l ∷ []) (r ∷ rs) g) in
      let y = last_size m d l (i.first ∷ i.rest) w.0.fits (omega arith) in
      let z : cases_size m d (searched_size m d (l ∷ [])) (cases k.width (r ∷ rs)) ≡ 3 + searched_size m d (l ∷ []) (i.first ∷ i.rest) + 0 =
      ap (cases_size m d (searched_size m d (l ∷ []))) i.are ∙ one i.first i.rest in
      omega (arith, i.count, size_step k (l ∷ []) (r ∷ rs))
    where
      one : (f : Rule) (fs : List Rule) → cases_size m d (searched_size m d (l ∷ [])) (record { number = v; rules = f ∷ fs } ∷ []) ≡ 3 + searched_size m d (l ∷ []) (f ∷ fs) + 0
      one f fs = unfold cases_size leaf_size in refl

  pub qwords_sure : (k l : Look) (v : ℕ) (r s : Rule) (rs : List Rule) → Each (Fits (k ∷ l ∷ [])) (r ∷ s ∷ rs) → Each (λ (r : Rule). first_value k.width r ≡ v) (r ∷ s ∷ rs)
      → length (r ∷ s ∷ rs) ≤ rules_most → surely m d (r ∷ s ∷ rs) ≡ true
  unfolding surely
  qwords_sure k l v r s rs g h n =
      true_both (le-leb (length (r ∷ s ∷ rs)) rules_most n)
      (le-leb (ruled_size m d (r ∷ s ∷ rs)) (linear_size m d (r ∷ s ∷ rs))
      (omega (arith, alike_size m d (k ∷ l ∷ []) (r ∷ s ∷ rs) g (omega arith) (omega arith), qwords_size k l v r (s ∷ rs) g h, rules_least m d (k ∷ l ∷ []) (r ∷ s ∷ rs) g)))

-- with at most 2 ^ j rules such a number's rules take at most 2 * (j + 4 + (j - 6)) + 1 instructions
pub qwords_most : (c : Call) (m d j : ℕ) (k l : Look) (v : ℕ) (r s : Rule) (rs : List Rule) → Each (Fits (k ∷ l ∷ [])) (r ∷ s ∷ rs)
    → Each (λ (r : Rule). first_value k.width r ≡ v) (r ∷ s ∷ rs) → length (r ∷ s ∷ rs) ≤ 2 ^ j → length (r ∷ s ∷ rs) ≤ rules_most
    → entry_most c m d (r ∷ s ∷ rs) ≤ 2 * (j + 4 + (j - 6)) + 1
unfolding entry_most
qwords_most c m d j k l v r s rs g h n o =
    rw (qwords_sure m d k l v r s rs g h o)
    (let x = alike_most c m d (k ∷ l ∷ []) j (r ∷ s ∷ rs) g (omega arith) n (omega arith) in
    let y : tree_most j ≡ j + 3 + (j - 6) = unfold tree_most in refl in
    omega arith)
