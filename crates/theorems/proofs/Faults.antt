-- Laws of faults: the least of a list with one more list behind it, that it is the first with its number, and, for each number, which
-- rule sets have such a fault and where the first one is. A further fault of a condition is a line in `condition-row` and `codes`.
use mathlib.Core.Path.{◌≡◌, refl, sym, ◌∙◌}
use mathlib.Core.Bool.{Bool, true, false, cond, not, ◌&&◌, ◌||◌}
use mathlib.Core.List.{List, [], ◌∷◌, ◌++◌}
use Prim.Native.Nat.{ℕ, suc, ◌+◌, ◌≤◌, ◌<◌}
use native.Mathlib.Nat.{add-zero, zero-add}
use native.Mathlib.Numerals.{add-one}
use native.Mathlib.Omega.{arith}
use lib.Dec.{eqb, leb, ltb}
use lib.ListN.{length, get_or}
use borrow.Author.Tests.{eq-eqb, ne_eqb, eqb-true, eqb-false, ltb-true, ltb-false, le-leb}
use Rattle.definitions.specs.declared.Condition.{Condition}
use Rattle.definitions.specs.declared.Fault.{Fault}
use Rattle.definitions.specs.RuleSet.{Rule, Entry, RuleSet, one_of}
use Rattle.definitions.specs.Format.{Each}
use Rattle.definitions.specs.Answer.{index_taken, fits_width, has_conditions, fault, nowhere, placeless, no_fault, unless, faults_of, condition_faults, count_faults, rule_faults, entries_faults, set_faults, lesser, least_of, all, ascending}

-- ---- the least

pub least_append : (a : Fault) (xs ys : List Fault) → least_of a (xs ++ ys) ≡ least_of (least_of a xs) ys
unfolding least_of
least_append a [] ys = refl
least_append a (x ∷ xs) ys = least_append (lesser a x) xs ys

-- a test that came out true adds nothing
pub least_unless : (a : Fault) (t : Bool) (f : Fault) → least_of a (unless t f) ≡ cond t a (lesser a f)
unfolding least_of unless
least_unless a true f = refl
least_unless a false f = refl

-- ---- the first with a number

unfoldable pub has : ℕ → List Fault → Bool
has k [] = false
has k (f ∷ fs) = eqb f.code k || has k fs

unfoldable pub first_of : ℕ → List Fault → Fault
first_of k [] = no_fault
first_of k (f ∷ fs) = cond (eqb f.code k) f (first_of k fs)

or_assoc : (a b c : Bool) → ((a || b) || c) ≡ (a || (b || c))
or_assoc true b c = refl
or_assoc false b c = refl

or_false : (a : Bool) → (a || false) ≡ a
or_false true = refl
or_false false = refl

module _ (k : ℕ) where
  pub has_append : (xs ys : List Fault) → has k (xs ++ ys) ≡ (has k xs || has k ys)
  unfolding has
  has_append [] ys = refl
  has_append (x ∷ xs) ys = rw (has_append xs ys, or_assoc (eqb x.code k) (has k xs) (has k ys))

  pub first_append : (xs ys : List Fault) → first_of k (xs ++ ys) ≡ cond (has k xs) (first_of k xs) (first_of k ys)
  unfolding has first_of
  first_append [] ys = refl
  first_append (x ∷ xs) ys = go (eqb x.code k) (first_append xs ys)
    where
      go : (t : Bool) → first_of k (xs ++ ys) ≡ cond (has k xs) (first_of k xs) (first_of k ys)
          → cond t x (first_of k (xs ++ ys)) ≡ cond (t || has k xs) (cond t x (first_of k xs)) (first_of k ys)
      go true e = refl
      go false e = e

-- faults whose numbers are in a list
abbrev pub Among : List ℕ → List Fault → Type 0
Among ks = Each (λ (f : Fault). one_of ks f.code ≡ true)

module _ (ks : List ℕ) where
  pub among_append : (xs ys : List Fault) → Among ks xs → Among ks ys → Among ks (xs ++ ys)
  among_append [] ys a b = b
  among_append (x ∷ xs) ys a b = (a.0, among_append xs ys a.1 b)

  pub among_unless : (t : Bool) (f : Fault) → one_of ks f.code ≡ true → Among ks (unless t f)
  unfolding unless
  among_unless true f h = tt
  among_unless false f h = (h, tt)

  pub among_parts : {A : Type 0} (f : ℕ → A → List Fault) (n : ℕ) (xs : List A) → ((i : ℕ) (x : A) → Among ks (f i x)) → Among ks (faults_of f n xs)
  unfolding faults_of
  among_parts f n [] h = tt
  among_parts f n (x ∷ xs) h = among_append (f n x) (faults_of f (suc n) xs) (h n x) (among_parts f (suc n) xs h)

other : (ks : List ℕ) (a b : ℕ) → one_of ks a ≡ true → one_of ks b ≡ false → a ≡ b → ⊥
other ks a b p q e = let z : ◌≡◌ {A = ℕ} 0 1 = cc in omega arith

pub lacks : (ks : List ℕ) (fs : List Fault) (k : ℕ) → one_of ks k ≡ false → Among ks fs → has k fs ≡ false
unfolding has
lacks ks [] k z a = refl
lacks ks (f ∷ fs) k z a = rw (ne_eqb f.code k (other ks f.code k a.0 z)) (lacks ks fs k z a.1)

-- none of the numbers is 0
abbrev pub Numbered : List Fault → Type 0
Numbered = Each (λ (f : Fault). 0 < f.code)

pub numbered : (ks : List ℕ) (fs : List Fault) → one_of ks 0 ≡ false → Among ks fs → Numbered fs
numbered ks [] z a = tt
numbered ks (f ∷ fs) z a = (let n = other ks f.code 0 a.0 z in omega arith, numbered ks fs z a.1)

-- ---- which numbers there are

or_true : (a : Bool) → (a || true) ≡ true
or_true true = refl
or_true false = refl

-- with one number more
pub among_more : (k : ℕ) (ks : List ℕ) (fs : List Fault) → Among ks fs → Among (k ∷ ks) fs
unfolding one_of
among_more k ks [] a = tt
among_more k ks (f ∷ fs) a = (rw a.0 (or_true (eqb f.code k)), among_more k ks fs a.1)

one_append : (ks ls : List ℕ) (k : ℕ) → one_of (ks ++ ls) k ≡ (one_of ks k || one_of ls k)
unfolding one_of
one_append [] ls k = refl
one_append (x ∷ ks) ls k = rw (one_append ks ls k, or_assoc (eqb k x) (one_of ks k) (one_of ls k))

-- of two lists the numbers of both
pub among_joined : (ks ls : List ℕ) (xs ys : List Fault) → Among ks xs → Among ls ys → Among (ks ++ ls) (xs ++ ys)
among_joined ks ls [] ys a b = go ys b
  where
    go : (ys : List Fault) → Among ls ys → Among (ks ++ ls) ys
    go [] b = tt
    go (y ∷ ys) b = (rw (one_append ks ls y.code, b.0) (or_true (one_of ks y.code)), go ys b.1)
among_joined ks ls (x ∷ xs) ys a b = (rw (one_append ks ls x.code, a.0), among_joined ks ls xs ys a.1 b)

abbrev pub condition_codes : List ℕ
condition_codes = 5 ∷ 8 ∷ []

pub condition_codes_lem : (e r c : ℕ) (q : Condition) → Among condition_codes (condition_faults e r c q)
unfolding condition_faults one_of
condition_codes_lem e r c q =
    among_append condition_codes (unless (index_taken q) (fault 5 e r c)) (unless (fits_width q) (fault 8 e r c)) (among_unless condition_codes (index_taken q) (fault 5 e r c) refl) (among_unless condition_codes (fits_width q) (fault 8 e r c) refl)

abbrev pub count_codes : List ℕ
count_codes = 4 ∷ []

pub count_codes_lem : (e r n : ℕ) → Among count_codes (count_faults e r n)
unfolding count_faults one_of
count_codes_lem e r n = among_unless count_codes (not (eqb n 0)) (fault 4 e r nowhere) refl

module _ (k : ℕ) (e r : ℕ) where
  no_count : (n : ℕ) → one_of count_codes k ≡ false → has k (count_faults e r n) ≡ false
  no_count n h = lacks count_codes (count_faults e r n) k h (count_codes_lem e r n)

  no_condition_lem : (qs : Rule) → one_of condition_codes k ≡ false → has k (faults_of (condition_faults e r) 0 qs) ≡ false
  no_condition_lem qs h =
      lacks condition_codes (faults_of (condition_faults e r) 0 qs) k h (among_parts condition_codes (condition_faults e r) 0 qs (condition_codes_lem e r))

least_more : (a f : Fault) (fs : List Fault) → least_of a (f ∷ fs) ≡ least_of (cond (eqb a.code 0 || ltb f.code a.code) f a) fs
unfolding least_of lesser
least_more a f fs = refl

least_step : (a f : Fault) (fs : List Fault) → 0 < a.code → least_of a (f ∷ fs) ≡ least_of (cond (ltb f.code a.code) f a) fs
least_step a f fs p = rw (least_more a f fs, ne_eqb a.code 0 (omega arith))

least_end : (a : Fault) → least_of a [] ≡ a
unfolding least_of
least_end a = refl

-- the number only falls
falls : (a : Fault) (fs : List Fault) → Numbered fs → 0 < a.code → (0 < (least_of a fs).code) × ((least_of a fs).code ≤ a.code)
falls a [] h p = rw (least_end a) (p, omega arith)
falls a (f ∷ fs) h p =
    rw (least_step a f fs p) (go (ltb f.code a.code) refl (falls f fs h.1 h.0) (falls a fs h.1 p))
  where
    go : (t : Bool) → ltb f.code a.code ≡ t → (0 < (least_of f fs).code) × ((least_of f fs).code ≤ f.code)
        → (0 < (least_of a fs).code) × ((least_of a fs).code ≤ a.code)
        → (0 < (least_of (cond t f a) fs).code) × ((least_of (cond t f a) fs).code ≤ a.code)
    go true e w v = (w.0, omega (arith, w.1, ltb-true f.code a.code e))
    go false e w v = v

-- where the number stays, the fault does
stays : (a : Fault) (fs : List Fault) → Numbered fs → 0 < a.code → (least_of a fs).code ≡ a.code → least_of a fs ≡ a
stays a [] h p e = least_end a
stays a (f ∷ fs) h p e =
    rw (least_step a f fs p) (go (ltb f.code a.code) refl (stays a fs h.1 p) (rw (least_step a f fs p) at e))
  where
    go : (t : Bool) → ltb f.code a.code ≡ t → ((least_of a fs).code ≡ a.code → least_of a fs ≡ a)
        → (least_of (cond t f a) fs).code ≡ a.code → least_of (cond t f a) fs ≡ a
    go true e w q = absurd (omega (arith, (falls f fs h.1 h.0).1, ltb-true f.code a.code e))
    go false e w q = w q

-- where the number is another than before, the fault is the first with it
pub least_first : (k : ℕ) (a : Fault) (fs : List Fault) → Numbered fs → (least_of a fs).code ≡ k → (a.code ≡ k → ⊥)
    → (has k fs ≡ true) × (least_of a fs ≡ first_of k fs)
unfolding has first_of
least_first k a [] h e n = absurd (n (rw (least_end a) at e))
least_first k a (f ∷ fs) h e n = rw (least_more a f fs) (go (eqb f.code k) refl (λ m q. least_first k f fs h.1 q m) (λ q. least_first k a fs h.1 q n))
  where
    behind : (t : Bool) → ((least_of f fs).code ≡ k → (has k fs ≡ true) × (least_of f fs ≡ first_of k fs))
        → ((least_of a fs).code ≡ k → (has k fs ≡ true) × (least_of a fs ≡ first_of k fs))
        → (least_of (cond t f a) fs).code ≡ k → (has k fs ≡ true) × (least_of (cond t f a) fs ≡ first_of k fs)
    behind true w v q = w q
    behind false w v q = v q

    this : f.code ≡ k → (z t : Bool) → eqb a.code 0 ≡ z → ltb f.code a.code ≡ t → (least_of (cond (z || t) f a) fs).code ≡ k
        → least_of (cond (z || t) f a) fs ≡ f
    this m true t x y q = stays f fs h.1 h.0 (q ∙ sym m)
    this m false true x y q = stays f fs h.1 h.0 (q ∙ sym m)
    this m false false x y q =
        absurd (let w : a.code ≡ 0 → ⊥ = eqb-false a.code 0 x in omega (arith, (falls a fs h.1 (omega arith)).1, ltb-false f.code a.code y, n))

    go : (t : Bool) → eqb f.code k ≡ t
        → ((f.code ≡ k → ⊥) → (least_of f fs).code ≡ k → (has k fs ≡ true) × (least_of f fs ≡ first_of k fs))
        → ((least_of a fs).code ≡ k → (has k fs ≡ true) × (least_of a fs ≡ first_of k fs))
        → ((t || has k fs) ≡ true) × (least_of (cond (eqb a.code 0 || ltb f.code a.code) f a) fs ≡ cond t f (first_of k fs))
    go true q w v = (refl, this (eqb-true _ _ q) (eqb a.code 0) (ltb f.code a.code) refl refl (rw (least_more a f fs) at e))
    go false q w v = behind (eqb a.code 0 || ltb f.code a.code) (w (eqb-false _ _ q)) v (rw (least_more a f fs) at e)

-- no number means no fault
pub least_none : (fs : List Fault) → Numbered fs → (least_of no_fault fs).code ≡ 0 → fs ≡ []
least_none [] h e = refl
least_none (f ∷ fs) h e = absurd (omega (arith, falls f fs h.1 h.0, rw (least_more no_fault f fs) at e))

-- ---- which parts have a fault of a number, and where the first is

unfoldable pub first_failing : {A : Type 0} → (A → Bool) → List A → ℕ
first_failing f [] = 0
first_failing f (x ∷ xs) = cond (f x) (suc (first_failing f xs)) 0

-- part i has a fault numbered k where it does not pass a test, and the first such is at this spot
pub record Row {A : Type 0} (k : ℕ) (f : ℕ → A → List Fault) (test : A → Bool) (spot : ℕ → A → Fault) : Type 0 where
  pub had : (i : ℕ) (x : A) → has k (f i x) ≡ not (test x)
  pub first : (i : ℕ) (x : A) → test x ≡ false → first_of k (f i x) ≡ spot i x

not_both : (a b : Bool) → (not a || not b) ≡ not (a && b)
not_both true b = refl
not_both false b = refl

module _ {A : Type 0} {k : ℕ} {f : ℕ → A → List Fault} {test : A → Bool} {spot : ℕ → A → Fault} (row : Row k f test spot) where
  pub parts_had : (n : ℕ) (xs : List A) → has k (faults_of f n xs) ≡ not (all test xs)
  unfolding faults_of has
  parts_had n [] = refl
  parts_had n (x ∷ xs) = rw (has_append k (f n x) (faults_of f (suc n) xs), row.had n x, parts_had (suc n) xs) (not_both (test x) (all test xs))

  pub parts_first : (n : ℕ) (xs : List A) (d : A) → all test xs ≡ false
      → first_of k (faults_of f n xs) ≡ spot (n + first_failing test xs) (get_or xs (first_failing test xs) d)
  unfolding faults_of first_failing
  parts_first n [] d h = absurd (let z : ◌≡◌ {A = ℕ} 0 1 = cc in omega arith)
  parts_first n (x ∷ xs) d h = rw (first_append k (f n x) (faults_of f (suc n) xs), row.had n x) (go (test x) refl (parts_first (suc n) xs d) h)
    where
      go : (t : Bool) → test x ≡ t
          → (all test xs ≡ false → first_of k (faults_of f (suc n) xs) ≡ spot (suc n + first_failing test xs) (get_or xs (first_failing test xs) d))
          → (t && all test xs) ≡ false
          → cond (not t) (first_of k (f n x)) (first_of k (faults_of f (suc n) xs))
          ≡ spot (n + cond t (suc (first_failing test xs)) 0) (get_or (x ∷ xs) (cond t (suc (first_failing test xs)) 0) d)
      go true e more p =
          let m : suc n + first_failing test xs ≡ n + suc (first_failing test xs) = omega arith in
          rw (← m) (more p)
      go false e more p = rw (add-zero n) (row.first n x e)

-- a test of another number changes nothing
module _ (k : ℕ) where
  pub other_had : (t : Bool) (f : Fault) (ys : List Fault) → eqb f.code k ≡ false → has k (unless t f ++ ys) ≡ has k ys
  unfolding unless has
  other_had true f ys h = refl
  other_had false f ys h = rw h

  pub other_first : (t : Bool) (f : Fault) (ys : List Fault) → eqb f.code k ≡ false → first_of k (unless t f ++ ys) ≡ first_of k ys
  unfolding unless first_of
  other_first true f ys h = refl
  other_first false f ys h = rw h

  pub own_had : (t : Bool) (f : Fault) (ys : List Fault) → eqb f.code k ≡ true → has k ys ≡ false → has k (unless t f ++ ys) ≡ not t
  unfolding unless has
  own_had true f ys h e = e
  own_had false f ys h e = rw h

  pub own_first : (t : Bool) (f : Fault) (ys : List Fault) → eqb f.code k ≡ true → t ≡ false → first_of k (unless t f ++ ys) ≡ f
  unfolding unless first_of
  own_first t f ys h e = rw (e, h)

  -- one by itself
  pub other_alone : (t : Bool) (f : Fault) → eqb f.code k ≡ false → has k (unless t f) ≡ false
  unfolding unless has
  other_alone true f h = refl
  other_alone false f h = rw h

  pub own_alone : (t : Bool) (f : Fault) → eqb f.code k ≡ true → has k (unless t f) ≡ not t
  unfolding unless has
  own_alone true f h = refl
  own_alone false f h = rw h

  pub own_last : (t : Bool) (f : Fault) → eqb f.code k ≡ true → t ≡ false → first_of k (unless t f) ≡ f
  unfolding unless first_of
  own_last t f h e = rw (e, h)

  -- a list of other numbers in front changes nothing
  pub skip_had : (xs ys : List Fault) → has k xs ≡ false → has k (xs ++ ys) ≡ has k ys
  skip_had xs ys h = rw (has_append k xs ys, h)

  pub skip_first : (xs ys : List Fault) → has k xs ≡ false → first_of k (xs ++ ys) ≡ first_of k ys
  skip_first xs ys h = rw (first_append k xs ys, h)

  -- nor does one behind
  pub front_had : (xs ys : List Fault) → has k ys ≡ false → has k (xs ++ ys) ≡ has k xs
  front_had xs ys h = rw (has_append k xs ys, h) (or_false (has k xs))

  pub front_first : (xs ys : List Fault) → has k xs ≡ true → first_of k (xs ++ ys) ≡ first_of k xs
  front_first xs ys h = rw (first_append k xs ys, h)

pub alone_first : (t : Bool) (f : Fault) → has f.code (unless t f) ≡ true → first_of f.code (unless t f) ≡ f
unfolding unless has first_of
alone_first true f h = absurd (let z : ◌≡◌ {A = ℕ} 0 1 = cc in omega arith)
alone_first false f h = rw (eq-eqb f.code f.code refl)

-- ---- of conditions: each number with its test

abbrev spotted : ℕ → ℕ → ℕ → ℕ → Condition → Fault
spotted k e r c q = fault k e r c

abbrev pub ConditionRow : ℕ → (Condition → Bool) → Type 0
ConditionRow k test = (e r : ℕ) → Row k (condition_faults e r) test (spotted k e r)

pub index_row : ConditionRow 5 index_taken
unfolding condition_faults
index_row e r = record {
  had = λ c q. own_had 5 (index_taken q) _ _ refl (other_alone 5 (fits_width q) (fault 8 e r c) refl);
  first = λ c q h. own_first 5 (index_taken q) _ _ refl h;
}

pub width_row : ConditionRow 8 fits_width
unfolding condition_faults
width_row e r = record {
  had = λ c q. other_had 8 (index_taken q) (fault 5 e r c) _ refl ∙ own_alone 8 (fits_width q) (fault 8 e r c) refl;
  first = λ c q h. other_first 8 (index_taken q) (fault 5 e r c) _ refl ∙ own_last 8 (fits_width q) (fault 8 e r c) refl h;
}

-- ---- of rules

abbrev pub spotted_in : ℕ → (Condition → Bool) → ℕ → ℕ → Rule → Fault
spotted_in k test e r qs = fault k e r (first_failing test qs)

module _ {k : ℕ} {test : Condition → Bool} (row : ConditionRow k test) (other : one_of count_codes k ≡ false) where
  pub rule_row : (e : ℕ) → Row k (rule_faults e) (all test) (spotted_in k test e)
  unfolding rule_faults
  rule_row e = record {
    had = λ r qs. skip_had k (count_faults e r (length qs)) (faults_of (condition_faults e r) 0 qs) (no_count k e r (length qs) other) ∙ parts_had (row e r) 0 qs;
    first = λ r qs h. skip_first k (count_faults e r (length qs)) (faults_of (condition_faults e r) 0 qs) (no_count k e r (length qs) other) ∙ last r qs h;
  }
    where
      last : (r : ℕ) (qs : Rule) → all test qs ≡ false → first_of k (faults_of (condition_faults e r) 0 qs) ≡ fault k e r (first_failing test qs)
      last r [] h = absurd (let z : ◌≡◌ {A = ℕ} 0 1 = cc in omega arith)
      last r (q ∷ qs) h = parts_first (row e r) 0 (q ∷ qs) q h ∙ rw (zero-add (first_failing test (q ∷ qs)))

-- a fault of how many conditions there are
pub count_row : {k : ℕ} {test : ℕ → Bool} → one_of condition_codes k ≡ false → ((e r n : ℕ) → has k (count_faults e r n) ≡ not (test n))
    → ((e r n : ℕ) → test n ≡ false → first_of k (count_faults e r n) ≡ fault k e r nowhere)
    → (e : ℕ) → Row k (rule_faults e) (λ (qs : Rule). test (length qs)) (λ r qs. fault k e r nowhere)
unfolding rule_faults
count_row {k} {test} other had first e = record {
  had = λ r qs. front_had k (count_faults e r (length qs)) (faults_of (condition_faults e r) 0 qs) (no_condition_lem k e r qs other) ∙ had e r (length qs);
  first = λ r qs h. front_first k (count_faults e r (length qs)) (faults_of (condition_faults e r) 0 qs) (had e r (length qs) ∙ rw h) ∙ first e r (length qs) h;
}

pub empty_row : (e : ℕ) → Row 4 (rule_faults e) has_conditions (λ r qs. fault 4 e r nowhere)
unfolding count_faults one_of
empty_row = count_row {test = λ n. not (eqb n 0)} refl (λ e r n. own_alone 4 (not (eqb n 0)) (fault 4 e r nowhere) refl) (λ e r n h. own_last 4 (not (eqb n 0)) (fault 4 e r nowhere) refl h)

-- ---- of entries

abbrev pub RuleRow : ℕ → (Rule → Bool) → (ℕ → ℕ → Rule → Fault) → Type 0
RuleRow k test spot = (e : ℕ) → Row k (rule_faults e) test (spot e)

abbrev entry_faults : ℕ → Entry → List Fault
entry_faults e x = faults_of (rule_faults e) 0 x.rules

abbrev pub spotted_rule : (Rule → Bool) → (ℕ → ℕ → Rule → Fault) → ℕ → Entry → Fault
spotted_rule test spot e x = spot e (first_failing test x.rules) (get_or x.rules (first_failing test x.rules) [])

entry_row : {k : ℕ} {test : Rule → Bool} {spot : ℕ → ℕ → Rule → Fault} → RuleRow k test spot
    → Row k entry_faults (λ (x : Entry). all test x.rules) (spotted_rule test spot)
entry_row {test = test} row = record {
  had = λ e x. parts_had (row e) 0 x.rules;
  first = λ e x h. parts_first (row e) 0 x.rules [] h ∙ rw (zero-add (first_failing test x.rules));
}

-- the order of the numbers apart
module _ (k : ℕ) (other : eqb 2 k ≡ false) where
  entries_had : (l e : ℕ) (es : List Entry) → has k (entries_faults l e es) ≡ has k (faults_of entry_faults e es)
  unfolding entries_faults faults_of
  entries_had l e [] = refl
  entries_had l e (x ∷ xs) =
      rw (other_had k (leb l x.number) (fault 2 e nowhere nowhere) (entry_faults e x ++ entries_faults (x.number + 1) (suc e) xs) other, has_append k (entry_faults e x) (entries_faults (x.number + 1) (suc e) xs), has_append k (entry_faults e x) (faults_of entry_faults (suc e) xs), entries_had (x.number + 1) (suc e) xs)

  entries_first : (l e : ℕ) (es : List Entry) → first_of k (entries_faults l e es) ≡ first_of k (faults_of entry_faults e es)
  unfolding entries_faults faults_of
  entries_first l e [] = refl
  entries_first l e (x ∷ xs) =
      rw (other_first k (leb l x.number) (fault 2 e nowhere nowhere) (entry_faults e x ++ entries_faults (x.number + 1) (suc e) xs) other, first_append k (entry_faults e x) (entries_faults (x.number + 1) (suc e) xs), first_append k (entry_faults e x) (faults_of entry_faults (suc e) xs), entries_first (x.number + 1) (suc e) xs)

-- every number at least the one that is the least allowed where it stands
unfoldable pub ascending_from : ℕ → List Entry → Bool
ascending_from least [] = true
ascending_from least (e ∷ es) = leb least e.number && ascending_from (e.number + 1) es

unfoldable pub first_below : ℕ → List Entry → ℕ
first_below least [] = 0
first_below least (e ∷ es) = cond (leb least e.number) (suc (first_below (e.number + 1) es)) 0

rules_unordered : (e r : ℕ) (rs : List Rule) → has 2 (faults_of (rule_faults e) r rs) ≡ false
unfolding faults_of rule_faults has one_of
rules_unordered e r [] = refl
rules_unordered e r (q ∷ rs) =
    rw (has_append 2 (rule_faults e r q) (faults_of (rule_faults e) (suc r) rs), skip_had 2 (count_faults e r (length q)) (faults_of (condition_faults e r) 0 q) (no_count 2 e r (length q) refl), no_condition_lem 2 e r q refl)
    (rules_unordered e (suc r) rs)

no_order : (e : ℕ) (x : Entry) → has 2 (entry_faults e x) ≡ false
no_order e x = rules_unordered e 0 x.rules

order_had : (l e : ℕ) (es : List Entry) → has 2 (entries_faults l e es) ≡ not (ascending_from l es)
unfolding entries_faults has unless ascending_from
order_had l e [] = refl
order_had l e (x ∷ xs) = go (leb l x.number) (rw (has_append 2 (entry_faults e x) (entries_faults (x.number + 1) (suc e) xs), no_order e x) (order_had (x.number + 1) (suc e) xs))
  where
    go : (t : Bool) → has 2 (entry_faults e x ++ entries_faults (x.number + 1) (suc e) xs) ≡ not (ascending_from (x.number + 1) xs)
        → has 2 (unless t (fault 2 e nowhere nowhere) ++ (entry_faults e x ++ entries_faults (x.number + 1) (suc e) xs)) ≡ not (t && ascending_from (x.number + 1) xs)
    go true h = h
    go false h = refl

order_first : (l e : ℕ) (es : List Entry) → ascending_from l es ≡ false → first_of 2 (entries_faults l e es) ≡ fault 2 (e + first_below l es) nowhere nowhere
unfolding entries_faults first_of unless ascending_from first_below
order_first l e [] h = absurd (let z : ◌≡◌ {A = ℕ} 0 1 = cc in omega arith)
order_first l e (x ∷ xs) h = go (leb l x.number) (order_first (x.number + 1) (suc e) xs) h
  where
    go : (t : Bool) → (ascending_from (x.number + 1) xs ≡ false → first_of 2 (entries_faults (x.number + 1) (suc e) xs) ≡ fault 2 (suc e + first_below (x.number + 1) xs) nowhere nowhere)
        → (t && ascending_from (x.number + 1) xs) ≡ false
        → first_of 2 (unless t (fault 2 e nowhere nowhere) ++ (entry_faults e x ++ entries_faults (x.number + 1) (suc e) xs))
        ≡ fault 2 (e + cond t (suc (first_below (x.number + 1) xs)) 0) nowhere nowhere
    go true more h =
        let m : suc e + first_below (x.number + 1) xs ≡ e + suc (first_below (x.number + 1) xs) = omega arith in
        rw (first_append 2 (entry_faults e x) (entries_faults (x.number + 1) (suc e) xs), no_order e x, ← m) (more h)
    go false more h = rw (add-zero e)

ascending_behind : (e : Entry) (es : List Entry) → ascending (e ∷ es) ≡ ascending_from (e.number + 1) es
unfolding ascending ascending_from
ascending_behind e [] = refl
ascending_behind e (f ∷ es) = rw (ascending_behind f es, add-one e.number)

pub ascending_from_lem : (es : List Entry) → ascending es ≡ ascending_from 0 es
unfolding ascending ascending_from
ascending_from_lem [] = refl
ascending_from_lem (e ∷ es) = rw (le-leb 0 e.number (omega arith)) (ascending_behind e es)

-- ---- of the whole set, by the number

module _ (rs : RuleSet) where
  pub order_faults : has 2 (set_faults rs) ≡ not (ascending rs.entries)
  unfolding set_faults
  order_faults = rw (other_had 2 (not (eqb rs.mismatch rs.on_match)) (placeless 3) (entries_faults 0 0 rs.entries) refl, ascending_from_lem rs.entries) (order_had 0 0 rs.entries)

  pub order_place : ascending rs.entries ≡ false → first_of 2 (set_faults rs) ≡ fault 2 (first_below 0 rs.entries) nowhere nowhere
  unfolding set_faults
  order_place h =
      rw (other_first 2 (not (eqb rs.mismatch rs.on_match)) (placeless 3) (entries_faults 0 0 rs.entries) refl)
      (order_first 0 0 rs.entries (sym (ascending_from_lem rs.entries) ∙ h) ∙ rw (zero-add (first_below 0 rs.entries)))

  -- a fault of rules
  module _ {k : ℕ} {test : Rule → Bool} {spot : ℕ → ℕ → Rule → Fault} (row : RuleRow k test spot) (two : eqb 2 k ≡ false) (three : eqb 3 k ≡ false) where
    pub rule_faults_lem : has k (set_faults rs) ≡ not (all (λ (x : Entry). all test x.rules) rs.entries)
    unfolding set_faults
    rule_faults_lem =
        rw (other_had k (not (eqb rs.mismatch rs.on_match)) (placeless 3) (entries_faults 0 0 rs.entries) three, entries_had k two 0 0 rs.entries)
        (parts_had (entry_row row) 0 rs.entries)

    pub rule_place : (d : Entry) → all (λ (x : Entry). all test x.rules) rs.entries ≡ false
        → first_of k (set_faults rs)
        ≡ spotted_rule test spot (first_failing (λ (x : Entry). all test x.rules) rs.entries) (get_or rs.entries (first_failing (λ (x : Entry). all test x.rules) rs.entries) d)
    unfolding set_faults
    rule_place d h =
        rw (other_first k (not (eqb rs.mismatch rs.on_match)) (placeless 3) (entries_faults 0 0 rs.entries) three, entries_first k two 0 0 rs.entries)
        (parts_first (entry_row row) 0 rs.entries d h ∙ rw (zero-add (first_failing (λ (x : Entry). all test x.rules) rs.entries)))
