-- The spans of entries: they go up as the entries do, there are as many as can be counted straight from the entries, and a number
-- in front of others comes first.
use mathlib.Core.Path.{◌≡◌, refl, ap, ◌∙◌, sym}
use mathlib.Core.Bool.{Bool, true, false, cond, ◌&&◌, ◌||◌}
use mathlib.Core.List.{List, [], ◌∷◌}
use Prim.Native.Nat.{ℕ, suc, ◌+◌, ◌≤◌}
use native.Mathlib.Omega.{arith}
use lib.Dec.{eqb, leb, ltb}
use lib.ListN.{length}
use borrow.Author.Tests.{ltb-true, leb-true, leb-false, eqb-true, eqb-false, le-leb, lt-leb}
use Rattle.definitions.specs.RuleSet.{Rule, Entry}
use Rattle.definitions.specs.Answer.{ascending}
use Rattle.theorems.proofs.Tests.{both_true}
use Rattle.definitions.specs.SearchForm.{bodies, Destination, to_mismatch, to_match, to_rules, Span, is_match, alone, plain_spans, entry_spans, spans}
use Rattle.definitions.specs.RuleSet.{no_rules, together, span_count}
use Rattle.search_form.proofs.Grow.{within, seek, Sorted}
use Rattle.search_form.proofs.Cases.{cond_case, cond_cases}

-- ---- the destination of a number

within_alone : (x n : ℕ) (to : Destination) → within (alone n to) x ≡ eqb x n
within_alone x n to = go (eqb x n) refl (leb n x) refl
  where
    go : (t : Bool) → eqb x n ≡ t → (u : Bool) → leb n x ≡ u → (leb n x && leb x n) ≡ t
    go true q u w = let z = eqb-true x n q in rw (le-leb n x (omega arith), le-leb x n (omega arith))
    go false q true w =
        let z = eqb-false x n q in
        rw (w, lt-leb x n (omega (arith, leb-true n x w)))
    go false q false w = rw w

-- a number in front of a span that begins one further is in the span
within_longer : (x n : ℕ) (s : Span) → s.first ≡ n + 1 → s.first ≤ s.last
    → within (record { first = n; last = s.last; to = to_match }) x ≡ (eqb x n || within s x)
within_longer x n s e h = go (eqb x n) refl (leb n x) refl
  where
    go : (t : Bool) → eqb x n ≡ t → (u : Bool) → leb n x ≡ u → (leb n x && leb x s.last) ≡ (t || within s x)
    go true q u w = let z = eqb-true x n q in rw (le-leb n x (omega arith), le-leb x s.last (omega arith))
    go false q true w =
        let z = eqb-false x n q in
        rw (w, le-leb s.first x (omega (arith, leb-true n x w)))
    go false q false w =
        let z = leb-false n x w in
        rw (w, lt-leb s.first x (omega arith))

pub seek_alone : (x n : ℕ) (to : Destination) (ss : List Span) → seek (alone n to ∷ ss) x ≡ cond (eqb x n) to (seek ss x)
unfolding seek
seek_alone x n to ss = rw (within_alone x n to)

match_only : (to : Destination) → is_match to ≡ true → to ≡ to_match
match_only to_mismatch q = absurd (let z : ◌≡◌ {A = ℕ} 0 1 = cc in omega arith)
match_only to_match q = refl
match_only (to_rules at) q = absurd (let z : ◌≡◌ {A = ℕ} 0 1 = cc in omega arith)

-- a number without rules: in one span with those behind it, or alone
pub plain_case : (P : List Span → Type 0) (n : ℕ) (s : Span) (ss : List Span)
    → (s.first ≡ n + 1 → s.to ≡ to_match → P (record { first = n; last = s.last; to = to_match } ∷ ss))
    → P (alone n to_match ∷ s ∷ ss) → P (plain_spans n (s ∷ ss))
unfolding plain_spans
plain_case P n s ss f g =
    cond_case P (eqb s.first (n + 1) && is_match s.to) _ _
    (λ q. let x = both_true _ _ q in f (eqb-true _ _ x.0) (match_only s.to x.1))
    (λ q. g)

pub seek_plain : (x n : ℕ) (ss : List Span) → Sorted (n + 1) ss → seek (plain_spans n ss) x ≡ cond (eqb x n) to_match (seek ss x)
seek_plain x n [] o = unfold plain_spans in seek_alone x n to_match []
seek_plain x n (s ∷ ss) o =
    plain_case (λ l. seek l x ≡ cond (eqb x n) to_match (seek (s ∷ ss) x)) n s ss
    (λ e p.
    unfold seek in
    (ap (λ (w : Bool). cond w to_match (seek ss x)) (within_longer x n s e (unfold Sorted in o.1)) ∙ both p (eqb x n) (within s x)))
    (seek_alone x n to_match (s ∷ ss))
  where
    both : s.to ≡ to_match → (a w : Bool) → cond (a || w) to_match (seek ss x) ≡ cond a to_match (cond w s.to (seek ss x))
    both p true w = refl
    both p false true = sym p
    both p false false = refl

-- ---- they go up

-- entries that go up, from b on
unfoldable pub Rising : ℕ → List Entry → Type 0
Rising b [] = Unit {0}
Rising b (e ∷ es) = (b ≤ e.number) × Rising (e.number + 1) es

rises : (b : ℕ) (e : Entry) (es : List Entry) → b ≤ e.number → ascending (e ∷ es) ≡ true → Rising b (e ∷ es)
unfolding Rising ascending
rises b e [] h q = (h, tt)
rises b e (f ∷ es) h q =
    let x = both_true (ltb e.number f.number) (ascending (f ∷ es)) q in
    (h, rises (e.number + 1) f es (omega (arith, ltb-true e.number f.number x.0)) x.1)

pub rising : (es : List Entry) → ascending es ≡ true → Rising 0 es
rising [] q = unfold Rising in tt
rising (e ∷ es) q = rises 0 e es (omega arith) q

pub plain_sorted : (b n : ℕ) (ss : List Span) → b ≤ n → Sorted (n + 1) ss → Sorted b (plain_spans n ss)
unfolding Sorted
plain_sorted b n [] h o = unfold plain_spans in (h, omega arith, tt)
plain_sorted b n (s ∷ ss) h o = plain_case (Sorted b) n s ss (λ e p. (h, omega (arith, o.0, o.1), o.2)) (h, omega arith, o)

entry_sorted : (b n at : ℕ) (rs : List Rule) (ss : List Span) → b ≤ n → Sorted (n + 1) ss → Sorted b (entry_spans n rs at ss)
unfolding entry_spans Sorted
entry_sorted b n at [] ss h o = plain_sorted b n ss h o
entry_sorted b n at (r ∷ rs) ss h o = (h, omega arith, o)

pub spans_sorted : (m d b : ℕ) (es : List Entry) → Rising b es → Sorted b (spans m d es)
unfolding spans Rising
spans_sorted m d b [] a = unfold Sorted in tt
spans_sorted m d b (e ∷ es) a = entry_sorted b e.number _ e.rules (spans m d es) a.0 (spans_sorted m d (e.number + 1) es a.1)

-- ---- how many there are

-- the first span begins with the first number, and leads to a match where that has no rules
pub record Begins (n : ℕ) (plain : Bool) (ss : List Span) : Type 0 where
  span : Span
  others : List Span
  are : ss ≡ span ∷ others
  first : span.first ≡ n
  to : is_match span.to ≡ plain

plain_begins : (n : ℕ) (ss : List Span) → Begins n true (plain_spans n ss)
plain_begins n [] = unfold plain_spans in record { span = alone n to_match; others = []; are = refl; first = refl; to = refl }
plain_begins n (s ∷ ss) =
    plain_case (Begins n true) n s ss
    (λ e p. record { span = record { first = n; last = s.last; to = to_match }; others = ss; are = refl; first = refl; to = refl })
    (record { span = alone n to_match; others = s ∷ ss; are = refl; first = refl; to = refl })

pub entry_begins : (n at : ℕ) (rs : List Rule) (ss : List Span) → Begins n (no_rules rs) (entry_spans n rs at ss)
unfolding entry_spans
entry_begins n at [] ss = plain_begins n ss
entry_begins n at (r ∷ rs) ss = record { span = alone n (to_rules at); others = ss; are = refl; first = refl; to = refl }

-- a number more in front
pub entry_count : (n at : ℕ) (rs : List Rule) (k : ℕ) (plain : Bool) (ss : List Span) → Begins k plain ss
    → length (entry_spans n rs at ss) ≡ cond (eqb k (n + 1) && (no_rules rs && plain)) 0 1 + length ss
unfolding entry_spans plain_spans
entry_count n at (r ∷ rs) k plain ss b = go (eqb k (n + 1))
  where
    go : (t : Bool) → suc (length ss) ≡ cond (t && false) 0 1 + length ss
    go true = omega arith
    go false = omega arith
entry_count n at [] k plain ss b =
    rw (b.are, b.first, b.to)
    (cond_cases (λ (l : List Span) (x : ℕ). length l ≡ x + suc (length b.others)) (eqb k (n + 1) && plain) _ _ _ _ (λ q. omega arith) (λ q. omega arith))

pub spans_count : (m d : ℕ) (es : List Entry) → length (spans m d es) ≡ span_count es
unfolding spans span_count
spans_count m d [] = refl
spans_count m d (e ∷ []) = one e.rules
  where
    one : (rs : List Rule) → length (entry_spans e.number rs (length (bodies m d (e ∷ []))) []) ≡ 1
    one [] = unfold entry_spans plain_spans in refl
    one (r ∷ rs) = unfold entry_spans in refl
spans_count m d (e ∷ (f ∷ es)) =
    entry_count e.number _ e.rules f.number (no_rules f.rules) (spans m d (f ∷ es)) (entry_begins f.number _ f.rules (spans m d es))
    ∙ ap (λ (x : ℕ). cond (together e f) 0 1 + x) (spans_count m d (f ∷ es))

pub spans_some : (m d : ℕ) (e : Entry) (es : List Entry) → 1 ≤ length (spans m d (e ∷ es))
unfolding spans
spans_some m d e es = let b = entry_begins e.number (length (bodies m d (e ∷ es))) e.rules (spans m d es) in omega (arith, ap length b.are)
