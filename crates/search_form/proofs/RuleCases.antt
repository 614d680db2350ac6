-- Rules that are alike, by the values of the first word that they look at: what is left for the call's value holds where one of them does.
use mathlib.Core.Path.{◌≡◌, refl, ◌∙◌, sym}
use mathlib.Core.Bool.{Bool, true, false, cond, ◌&&◌, ◌||◌, and-true}
use mathlib.Core.List.{List, [], ◌∷◌, ◌++◌}
use Prim.Native.Nat.{ℕ, suc, ◌+◌, ◌≤◌, ◌<◌}
use native.Mathlib.Omega.{arith}
use lib.Dec.{eqb, ltb}
use lib.ListN.{length}
use borrow.Author.Tests.{eqb-true, eqb-false, ltb-true, ltb-false, ne_eqb}
use Rattle.definitions.specs.declared.Operator.{Operator}
use Rattle.definitions.specs.declared.Operator.TheVariants.{Eq, Ge, Gt, Le, Lt, MaskedEq, Ne}
use Rattle.definitions.specs.declared.Width.{Width}
use Rattle.definitions.specs.declared.Width.TheVariants.{Dword, Qword}
use Rattle.definitions.specs.declared.Condition.{Condition}
use Rattle.definitions.specs.Word.{low}
use Rattle.definitions.specs.Machine.{Call}
use Rattle.definitions.specs.RuleSet.{Rule, Entry, argument, cut, test, holds, all_hold, any_holds, matches, rules_of}
use Rattle.definitions.specs.Format.{Each}
use Rattle.theorems.proofs.Halves.{eqb_halves}
use Rattle.theorems.proofs.Rules.{IndexTaken}
use Rattle.theorems.proofs.Conditions.{compared}
use Rattle.theorems.proofs.Tests.{both_true}
use Rattle.search_form.specs.Rules.{is_equality, same_width, Look, half, looks_at, left_of, alike, only, joining, add_case, by_first, cases, alikes, others}
use Rattle.search_form.proofs.Cases.{cond_case}
use Rattle.search_form.proofs.Spans.{Rising}

pub no : {P : Type 0} → false ≡ true → P
no h = absurd (let z : ◌≡◌ {A = ℕ} 0 1 = cc in omega arith)

-- ---- rules that look at just some words

pub record Fits (ks : List Look) (r : Rule) : Type 0 where
  pub taken : Each IndexTaken r
  pub alike : alike ks r ≡ true
  pub some : 1 ≤ length r

-- a value's rules: there are at most n
pub record Rest (ks : List Look) (n : ℕ) (rs : List Rule) : Type 0 where
  pub fits : Each (Fits ks) rs
  pub few : length rs ≤ n

-- with no word there is no rule
pub fits_none : (r : Rule) → Fits [] r → ⊥
unfolding alike
fits_none [] h = absurd (omega (arith, h.some))
fits_none (q ∷ qs) h = no h.alike

pub fits_first : (k : Look) (ks : List Look) (q : Condition) (qs : Rule) → Fits (k ∷ ks) (q ∷ qs)
    → (looks_at k q ≡ true) × (alike ks (left_of k.width q ++ qs) ≡ true)
unfolding alike
fits_first k ks q qs h = both_true (looks_at k q) (alike ks (left_of k.width q ++ qs)) h.alike

pub looks_index : (k : Look) (q : Condition) → looks_at k q ≡ true → q.index ≡ k.index
unfolding looks_at
looks_index k q h = eqb-true q.index k.index (both_true (eqb q.index k.index) (same_width k.width q.width && is_equality q.operator) h).0

pub index_taken_lem : (k : Look) (ks : List Look) (rs : List Rule) → Each (Fits (k ∷ ks)) rs → 1 ≤ length rs → k.index ≤ 5
index_taken_lem k ks [] g o = absurd (omega arith)
index_taken_lem k ks ([] ∷ rs) g o = absurd (omega (arith, g.0.some))
index_taken_lem k ks ((q ∷ qs) ∷ rs) g o = omega (arith, looks_index k q (fits_first k ks q qs g.0).0, g.0.taken.0)

module _ (ks : List Look) where
  only_rest : (r : Rule) → Each IndexTaken r → alike ks r ≡ true → Rest ks 1 (only r)
  unfolding only
  only_rest [] g h = record { fits = tt; few = omega arith }
  only_rest (q ∷ qs) g h = record { fits = (record { taken = g; alike = h; some = omega arith }, tt); few = omega arith }

  joining_rest : (r : Rule) (rs : List Rule) (n : ℕ) → Each IndexTaken r → alike ks r ≡ true → Rest ks n rs → Rest ks (suc n) (joining r rs)
  unfolding joining
  joining_rest [] rs n g h i = record { fits = tt; few = omega arith }
  joining_rest (q ∷ qs) [] n g h i = record { fits = tt; few = omega arith }
  joining_rest (q ∷ qs) (r ∷ rs) n g h i = record { fits = (record { taken = g; alike = h; some = omega arith }, i.fits); few = omega (arith, i.few) }

  rest_more : (n k : ℕ) (rs : List Rule) → n ≤ k → Rest ks n rs → Rest ks k rs
  rest_more n k rs h g = record { fits = g.fits; few = omega (arith, g.few) }

  abbrev pub Rests : ℕ → List Entry → Type 0
  Rests n es = Each (λ (e : Entry). Rest ks n e.rules) es

  rests_more : (n k : ℕ) (es : List Entry) → n ≤ k → Rests n es → Rests k es
  rests_more n k [] h g = tt
  rests_more n k (e ∷ es) h g = (rest_more n k e.rules h g.0, rests_more n k es h g.1)

  add_rests : (v n : ℕ) (r : Rule) (es : List Entry) → Each IndexTaken r → alike ks r ≡ true → Rests n es → Rests (suc n) (add_case v r es)
  unfolding add_case
  add_rests v n r [] t h g = (rest_more 1 (suc n) (only r) (omega arith) (only_rest r t h), tt)
  add_rests v n r (e ∷ es) t h g =
      cond_case (Rests (suc n)) (ltb v e.number) _ _
      (λ y. (rest_more 1 (suc n) (only r) (omega arith) (only_rest r t h), rests_more n (suc n) (e ∷ es) (omega arith) g))
      (λ y. cond_case (Rests (suc n)) (eqb v e.number) _ _
      (λ z. (joining_rest r e.rules n t h g.0, rests_more n (suc n) es (omega arith) g.1))
      (λ z. (rest_more n (suc n) e.rules (omega arith) g.0, add_rests v n r es t h g.1)))

  pub rests_fit : (n : ℕ) (es : List Entry) → Rests n es → Each (λ (e : Entry). Each (Fits ks) e.rules) es
  rests_fit n [] g = tt
  rests_fit n (e ∷ es) g = (g.0.fits, rests_fit n es g.1)

  pub found_rest : (x n : ℕ) (es : List Entry) → Rests n es → Rest ks n (rules_of x es)
  unfolding rules_of
  found_rest x n [] g = record { fits = tt; few = omega arith }
  found_rest x n (e ∷ es) g = cond_case (Rest ks n) (eqb x e.number) _ _ (λ y. g.0) (λ y. found_rest x n es g.1)

left_taken : (w : Width) (q : Condition) (qs : Rule) → IndexTaken q → Each IndexTaken qs → Each IndexTaken (left_of w q ++ qs)
unfolding left_of
left_taken Dword q qs h g = g
left_taken Qword q qs h g = (h, g)

-- ---- the values: they go up, there is one at least, and no more than rules

add_rising : (b v : ℕ) (r : Rule) (es : List Entry) → b ≤ v → Rising b es → Rising b (add_case v r es)
unfolding add_case Rising
add_rising b v r [] l h = (l, tt)
add_rising b v r (e ∷ es) l h =
    cond_case (Rising b) (ltb v e.number) _ _ (λ y. (l, (omega (arith, ltb-true v e.number y), h.1)))
    (λ n. cond_case (Rising b) (eqb v e.number) _ _ (λ y. let z = eqb-true v e.number y in (l, rw z h.1))
    (λ n₂. (h.0, add_rising (e.number + 1) v r es (let y = ltb-false v e.number n in let z = eqb-false v e.number n₂ in omega arith) h.1)))

pub cases_rising : (w : Width) (rs : List Rule) → Rising 0 (cases w rs)
unfolding cases by_first
cases_rising w [] = unfold Rising in tt
cases_rising w ([] ∷ rs) = cases_rising w rs
cases_rising w ((q ∷ qs) ∷ rs) = add_rising 0 (half w q.value) (left_of w q ++ qs) (cases w rs) (omega arith) (cases_rising w rs)

add_few : (v : ℕ) (r : Rule) (es : List Entry) → length (add_case v r es) ≤ suc (length es)
unfolding add_case
add_few v r [] = omega arith
add_few v r (e ∷ es) =
    cond_case (λ (l : List Entry). length l ≤ suc (suc (length es))) (ltb v e.number) _ _ (λ y. omega arith)
    (λ n. cond_case (λ (l : List Entry). length l ≤ suc (suc (length es))) (eqb v e.number) _ _ (λ y. omega arith) (λ n. omega (arith, add_few v r es)))

pub cases_few : (w : Width) (rs : List Rule) → length (cases w rs) ≤ length rs
unfolding cases by_first
cases_few w [] = omega arith
cases_few w ([] ∷ rs) = omega (arith, cases_few w rs)
cases_few w ((q ∷ qs) ∷ rs) = omega (arith, add_few (half w q.value) (left_of w q ++ qs) (cases w rs), cases_few w rs)

add_some : (v : ℕ) (r : Rule) (es : List Entry) → 1 ≤ length (add_case v r es)
unfolding add_case
add_some v r [] = omega arith
add_some v r (e ∷ es) =
    cond_case (λ (l : List Entry). 1 ≤ length l) (ltb v e.number) _ _ (λ y. omega arith)
    (λ y. cond_case (λ (l : List Entry). 1 ≤ length l) (eqb v e.number) _ _ (λ z. omega arith) (λ z. omega arith))

module _ (k : Look) (ks : List Look) where
  pub cases_some : (rs : List Rule) → Each (Fits (k ∷ ks)) rs → 1 ≤ length rs → 1 ≤ length (cases k.width rs)
  unfolding cases by_first
  cases_some [] g o = absurd (omega arith)
  cases_some ([] ∷ rs) g o = absurd (omega (arith, g.0.some))
  cases_some ((q ∷ qs) ∷ rs) g o = add_some (half k.width q.value) (left_of k.width q ++ qs) (cases k.width rs)

  pub cases_rest : (rs : List Rule) → Each (Fits (k ∷ ks)) rs → Rests ks (length rs) (cases k.width rs)
  unfolding cases by_first
  cases_rest [] g = tt
  cases_rest ([] ∷ rs) g = absurd (omega (arith, g.0.some))
  cases_rest ((q ∷ qs) ∷ rs) g =
      add_rests ks (half k.width q.value) (length rs) (left_of k.width q ++ qs) (cases k.width rs)
      (left_taken k.width q qs g.0.taken.0 g.0.taken.1) (fits_first k ks q qs g.0).1 (cases_rest rs g.1)

module _ (c : Call) where
  -- what a call has where is looked
  abbrev pub seen : Look → ℕ
  seen k = half k.width (argument k.index c)

  -- whether what is left for a value holds
  unfoldable pub hits : ℕ → List Entry → Bool
  hits x [] = false
  hits x (e ∷ es) = cond (eqb x e.number) (matches c e.rules) (hits x es)

  parts_hold : (i v m : ℕ) (o : Operator) (w u : Width) → (same_width w u && is_equality o) ≡ true
      → test o (cut u (argument i c)) (cut u v) (cut u m) ≡ (eqb (half w (argument i c)) (half w v) && all_hold c (left_of w (compared o u i v m)))
  unfolding same_width is_equality test half left_of all_hold holds
  parts_hold i v m Eq Dword Dword h = sym (and-true (eqb (low (argument i c)) (low v)))
  parts_hold i v m Eq Qword Qword h = eqb_halves (argument i c) v ∙ simp and-true
  parts_hold i v m Eq Dword Qword h = no h
  parts_hold i v m Eq Qword Dword h = no h
  parts_hold i v m Ge Dword Dword h = no h
  parts_hold i v m Ge Dword Qword h = no h
  parts_hold i v m Ge Qword Dword h = no h
  parts_hold i v m Ge Qword Qword h = no h
  parts_hold i v m Gt Dword Dword h = no h
  parts_hold i v m Gt Dword Qword h = no h
  parts_hold i v m Gt Qword Dword h = no h
  parts_hold i v m Gt Qword Qword h = no h
  parts_hold i v m Le Dword Dword h = no h
  parts_hold i v m Le Dword Qword h = no h
  parts_hold i v m Le Qword Dword h = no h
  parts_hold i v m Le Qword Qword h = no h
  parts_hold i v m Lt Dword Dword h = no h
  parts_hold i v m Lt Dword Qword h = no h
  parts_hold i v m Lt Qword Dword h = no h
  parts_hold i v m Lt Qword Qword h = no h
  parts_hold i v m MaskedEq Dword Dword h = no h
  parts_hold i v m MaskedEq Dword Qword h = no h
  parts_hold i v m MaskedEq Qword Dword h = no h
  parts_hold i v m MaskedEq Qword Qword h = no h
  parts_hold i v m Ne Dword Dword h = no h
  parts_hold i v m Ne Dword Qword h = no h
  parts_hold i v m Ne Qword Dword h = no h
  parts_hold i v m Ne Qword Qword h = no h

  look_holds : (k : Look) (q : Condition) → looks_at k q ≡ true
      → holds c q ≡ (eqb (seen k) (half k.width q.value) && all_hold c (left_of k.width q))
  unfolding looks_at holds
  look_holds k q h =
      let x = both_true (eqb q.index k.index) _ h in
      let e : q.index ≡ k.index = eqb-true q.index k.index x.0 in
      rw (← e) (parts_hold q.index q.value q.mask q.operator k.width q.width x.1)

  all_append : (a b : Rule) → all_hold c (a ++ b) ≡ (all_hold c a && all_hold c b)
  unfolding all_hold
  all_append [] b = refl
  all_append (q ∷ a) b = rw (all_append a b) (assoc (holds c q) (all_hold c a) (all_hold c b))
    where
      assoc : (x y z : Bool) → (x && (y && z)) ≡ ((x && y) && z)
      assoc true y z = refl
      assoc false y z = refl

  -- ---- values

  or_false : (a : Bool) → (a || false) ≡ a
  or_false true = refl
  or_false false = refl

  only_matches : (r : Rule) → matches c (only r) ≡ all_hold c r
  unfolding only matches any_holds
  only_matches [] = unfold all_hold in refl
  only_matches (q ∷ qs) = or_false (all_hold c (q ∷ qs))

  or_true : (a : Bool) → (a || true) ≡ true
  or_true true = refl
  or_true false = refl

  joining_matches : (r : Rule) (rs : List Rule) → matches c (joining r rs) ≡ (all_hold c r || matches c rs)
  unfolding joining matches any_holds
  joining_matches [] rs = unfold all_hold in refl
  joining_matches (q ∷ qs) [] = sym (or_true (all_hold c (q ∷ qs)))
  joining_matches (q ∷ qs) (r ∷ rs) = refl

  hits_below : (x b : ℕ) (es : List Entry) → x < b → Rising b es → hits x es ≡ false
  unfolding hits Rising
  hits_below x b [] l h = refl
  hits_below x b (e ∷ es) l h =
      let z : eqb x e.number ≡ false = ne_eqb x e.number (λ q. absurd (omega (arith, h.0))) in
      rw z (hits_below x (e.number + 1) es (omega (arith, h.0)) h.1)

  add_hits : (x b v : ℕ) (r : Rule) (es : List Entry) → Rising b es → hits x (add_case v r es) ≡ ((eqb x v && all_hold c r) || hits x es)
  unfolding add_case hits Rising
  add_hits x b v r [] h = rw only_matches (go (eqb x v))
    where
      go : (t : Bool) → cond t (all_hold c r) false ≡ ((t && all_hold c r) || false)
      go true = sym (or_false (all_hold c r))
      go false = refl
  add_hits x b v r (e ∷ es) h =
      cond_case (λ (l : List Entry). hits x l ≡ ((eqb x v && all_hold c r) || cond (eqb x e.number) (matches c e.rules) (hits x es))) (ltb v e.number) _ _
      (λ y. rw only_matches (first (eqb x v) refl (ltb-true v e.number y)))
      (λ n.
      cond_case (λ (l : List Entry). hits x l ≡ ((eqb x v && all_hold c r) || cond (eqb x e.number) (matches c e.rules) (hits x es))) (eqb v e.number) _ _
      (λ y. rw (joining_matches, ← eqb-true v e.number y) (same (eqb x v)))
      (λ n₂. rw (add_hits x (e.number + 1) v r es h.1) (later (eqb x e.number) refl (eqb-false v e.number n₂))))
    where
      first : (t : Bool) → eqb x v ≡ t → v < e.number
          → cond t (all_hold c r) (hits x (e ∷ es)) ≡ ((t && all_hold c r) || hits x (e ∷ es))
      first true q l =
          let z = eqb-true x v q in
          rw (hits_below x e.number (e ∷ es) (omega arith) (omega arith, h.1)) (sym (or_false (all_hold c r)))
      first false q l = refl

      same : (t : Bool) → cond t (all_hold c r || matches c e.rules) (hits x es) ≡ ((t && all_hold c r) || cond t (matches c e.rules) (hits x es))
      same true = refl
      same false = refl

      later : (t : Bool) → eqb x e.number ≡ t → (v ≡ e.number → ⊥)
          → cond t (matches c e.rules) ((eqb x v && all_hold c r) || hits x es) ≡ ((eqb x v && all_hold c r) || cond t (matches c e.rules) (hits x es))
      later true q l =
          let z = eqb-true x e.number q in
          let w : eqb x v ≡ false = ne_eqb x v (λ p. l (omega arith)) in
          rw w
      later false q l = refl

  -- ---- all together

  pub cases_hold : (k : Look) (ks : List Look) (rs : List Rule) → Each (Fits (k ∷ ks)) rs → any_holds c rs ≡ hits (seen k) (cases k.width rs)
  unfolding any_holds cases by_first all_hold
  cases_hold k ks [] g = unfold hits in refl
  cases_hold k ks ([] ∷ rs) g = absurd (omega (arith, g.0.some))
  cases_hold k ks ((q ∷ qs) ∷ rs) g =
      rw (cases_hold k ks rs g.1, look_holds k q (fits_first k ks q qs g.0).0, add_hits (seen k) 0 (half k.width q.value) (left_of k.width q ++ qs) (cases k.width rs) (cases_rising k.width rs), all_append)
      (regroup (eqb (seen k) (half k.width q.value)) (all_hold c (left_of k.width q)) (all_hold c qs) (hits (seen k) (cases k.width rs)))
    where
      regroup : (x y z t : Bool) → (((x && y) && z) || t) ≡ ((x && (y && z)) || t)
      regroup true y z t = refl
      regroup false y z t = refl

  -- those that are alike, or another
  pub split_hold : (ks : List Look) (rs : List Rule) → any_holds c rs ≡ (any_holds c (others ks rs) || any_holds c (alikes ks rs))
  unfolding any_holds others alikes
  split_hold ks [] = refl
  split_hold ks (r ∷ rs) = rw (split_hold ks rs) (go (alike ks r))
    where
      turn : (x y z : Bool) → (x || (y || z)) ≡ (y || (x || z))
      turn true true z = refl
      turn true false z = refl
      turn false y z = refl

      assoc : (x y z : Bool) → (x || (y || z)) ≡ ((x || y) || z)
      assoc true y z = refl
      assoc false y z = refl

      go : (t : Bool) → (all_hold c r || (any_holds c (others ks rs) || any_holds c (alikes ks rs)))
          ≡ (any_holds c (cond t (others ks rs) (r ∷ others ks rs)) || any_holds c (cond t (r ∷ alikes ks rs) (alikes ks rs)))
      go true = turn (all_hold c r) (any_holds c (others ks rs)) (any_holds c (alikes ks rs))
      go false = assoc (all_hold c r) (any_holds c (others ks rs)) (any_holds c (alikes ks rs))

pub others_each : (P : Rule → Type 0) (ks : List Look) (rs : List Rule) → Each P rs → Each P (others ks rs)
unfolding others
others_each P ks [] g = tt
others_each P ks (r ∷ rs) g = cond_case (Each P) (alike ks r) _ _ (λ y. others_each P ks rs g.1) (λ n. (g.0, others_each P ks rs g.1))

some_of : (k : Look) (ks : List Look) (r : Rule) → alike (k ∷ ks) r ≡ true → 1 ≤ length r
unfolding alike
some_of k ks [] h = no h
some_of k ks (q ∷ qs) h = omega arith

pub alikes_fit : (k : Look) (ks : List Look) (rs : List Rule) → Each (Each IndexTaken) rs → Each (Fits (k ∷ ks)) (alikes (k ∷ ks) rs)
unfolding alikes
alikes_fit k ks [] g = tt
alikes_fit k ks (r ∷ rs) g =
    cond_case (Each (Fits (k ∷ ks))) (alike (k ∷ ks) r) _ _
    (λ y. (record { taken = g.0; alike = y; some = some_of k ks r y }, alikes_fit k ks rs g.1)) (λ n. alikes_fit k ks rs g.1)

pub alikes_each : (P : Rule → Type 0) (ks : List Look) (rs : List Rule) → Each P rs → Each P (alikes ks rs)
unfolding alikes
alikes_each P ks [] g = tt
alikes_each P ks (r ∷ rs) g = cond_case (Each P) (alike ks r) _ _ (λ y. (g.0, alikes_each P ks rs g.1)) (λ n. alikes_each P ks rs g.1)
