-- Laws of the spans that are read from a rule set's bytes: a number more gathered into a run, and a run passed.
use mathlib.Core.Path.{◌≡◌, refl, ap}
use mathlib.Core.Bool.{Bool, true, false, cond, not, ◌&&◌}
use mathlib.Core.List.{List, [], ◌∷◌}
use Prim.Native.Nat.{ℕ, zero, suc, ◌+◌, ◌-◌, ◌≤◌}
use native.Mathlib.Omega.{arith}
use borrow.Author.Tests.{eq-eqb, ne_eqb, eqb-true, eqb-false}
use lib.Dec.{eqb}
use lib.ListN.{length, take, drop}
use Rattle.std.proofs.Common.{Some}
use Rattle.definitions.specs.declared.Instruction.{Instruction}
use Rattle.definitions.specs.Word.{number_at}
use Rattle.definitions.specs.RuleSet.{Entry}
use Rattle.theorems.proofs.Tests.{both_true}
use Rattle.definitions.specs.SearchForm.{bodies, to_match, to_rules, Span, is_match, alone, plain_spans, entry_spans, spans, lowest, singles}
use Rattle.search_form.proofs.Spans.{spans_some}
use Rattle.search_bodies.specs.Here.{bodies_here}
use Rattle.search_bodies.proofs.Bodies.{entries_here_lem, bodies_long, entry_body_none}
use Rattle.set_view.specs.Parts.{entries_here, entries_past, entry_here, entry_past, parts, plain_here, rules_here}
use Rattle.set_view.proofs.Walk.{behind_more, entries_further, plain_is, plain_past}
use Rattle.spans.specs.declared.Standing.{Standing}
use Rattle.spans.specs.declared.Run.{Run}
use Rattle.spans.specs.Spans.{spans_here, spans_from, Stands, Passes, Gathers, IsNext}

-- ---- runs

-- numbers from `first` to `last`, in one span with those that follow them
unfoldable pub gathered : ℕ → ℕ → List Span → List Span
gathered first last [] = record { first = first; last = last; to = to_match } ∷ []
gathered first last (s ∷ ss) =
    cond (eqb s.first (last + 1) && is_match s.to) (record { first = first; last = s.last; to = to_match } ∷ ss)
    (record { first = first; last = last; to = to_match } ∷ s ∷ ss)

pub gather_begin : (n : ℕ) (ss : List Span) → gathered n n ss ≡ plain_spans n ss
unfolding gathered plain_spans
gather_begin n [] = refl
gather_begin n (s ∷ ss) = refl

gather_more : (first last : ℕ) (ss : List Span) → gathered first last (plain_spans (last + 1) ss) ≡ gathered first (last + 1) ss
unfolding gathered plain_spans
gather_more first last [] = rw (eq-eqb (last + 1) (last + 1) refl)
gather_more first last (s ∷ ss) = go (eqb s.first (last + 1 + 1) && is_match s.to) refl
  where
    go : (b : Bool) → (eqb s.first (last + 1 + 1) && is_match s.to) ≡ b
        → gathered first last (plain_spans (last + 1) (s ∷ ss)) ≡ gathered first (last + 1) (s ∷ ss)
    go true e = rw (e, eq-eqb (last + 1) (last + 1) refl)
    go false e = rw (e, eq-eqb (last + 1) (last + 1) refl)

-- a span that does not follow, or has rules, is left as it is
gather_stop : (first last : ℕ) (s : Span) (ss : List Span) → (eqb s.first (last + 1) && is_match s.to) ≡ false
    → gathered first last (s ∷ ss) ≡ record { first = first; last = last; to = to_match } ∷ s ∷ ss
unfolding gathered
gather_stop first last s ss e = rw e

plain_stop : (first last n : ℕ) (ss : List Span) → eqb n (last + 1) ≡ false
    → gathered first last (plain_spans n ss) ≡ record { first = first; last = last; to = to_match } ∷ plain_spans n ss
unfolding plain_spans
plain_stop first last n [] e = gather_stop first last _ [] (rw e)
plain_stop first last n (s ∷ ss) e = go (eqb s.first (n + 1) && is_match s.to)
  where
    go : (b : Bool) → (let ps : List Span = cond b (record { first = n; last = s.last; to = to_match } ∷ ss) (alone n to_match ∷ s ∷ ss) in
        gathered first last ps ≡ record { first = first; last = last; to = to_match } ∷ ps)
    go true = gather_stop first last _ ss (rw e)
    go false = gather_stop first last _ (s ∷ ss) (rw e)

plain_first : (n : ℕ) (ss : List Span) → lowest (plain_spans n ss) ≡ n
unfolding plain_spans lowest
plain_first n [] = refl
plain_first n (s ∷ ss) = go (eqb s.first (n + 1) && is_match s.to)
  where
    go : (b : Bool) → lowest (cond b (record { first = n; last = s.last; to = to_match } ∷ ss) (alone n to_match ∷ s ∷ ss)) ≡ n
    go true = refl
    go false = refl

gather_none : (first last : ℕ) → gathered first last [] ≡ record { first = first; last = last; to = to_match } ∷ []
unfolding gathered
gather_none first last = refl

and_false : (b : Bool) → (b && false) ≡ false
and_false true = refl
and_false false = refl

-- ---- the spans of entries, from the bytes

-- the first of the entries has no rules, or has some; es are the others
plain_spans_lem : (s : List ℕ) (at m d : ℕ) (es : List Entry) → number_at 4 s (at + 4) ≡ 0
    → spans m d (entry_here s at ∷ es) ≡ plain_spans (number_at 4 s at) (spans m d es)
unfolding spans entry_spans entry_here parts
plain_spans_lem s at m d es e = rw e

ruled_spans : (s : List ℕ) (at m d : ℕ) (es : List Entry) → (number_at 4 s (at + 4) ≡ 0 → ⊥)
    → spans m d (entry_here s at ∷ es) ≡ alone (number_at 4 s at) (to_rules (length (bodies m d (entry_here s at ∷ es)))) ∷ spans m d es
unfolding spans entry_spans entry_here parts
ruled_spans s at m d es e = go (number_at 4 s (at + 4)) e
  where
    all : ℕ
    all = length (bodies m d (entry_here s at ∷ es))

    go : (k : ℕ) → (k ≡ 0 → ⊥) → entry_spans (number_at 4 s at) (rules_here s k (at + 8)) all (spans m d es) ≡ alone (number_at 4 s at) (to_rules all) ∷ spans m d es
    go zero e = absurd (e refl)
    go (suc k) e = refl

spans_plain : (s : List ℕ) (n at : ℕ) → (n ≡ 0 → ⊥) → number_at 4 s (at + 4) ≡ 0
    → spans_here s n at ≡ plain_spans (number_at 4 s at) (spans_here s (n - 1) (entry_past s at))
spans_plain s n at h e = rw (entries_here_lem s n at h) (plain_spans_lem s at _ _ _ e)

spans_ruled : (s : List ℕ) (n at : ℕ) → (n ≡ 0 → ⊥) → (number_at 4 s (at + 4) ≡ 0 → ⊥)
    → spans_here s n at ≡ alone (number_at 4 s at) (to_rules (length (bodies_here s n at))) ∷ spans_here s (n - 1) (entry_past s at)
spans_ruled s n at h e = rw (entries_here_lem s n at h) (ruled_spans s at _ _ _ e)

pub spans_none : (s : List ℕ) (n at : ℕ) → n ≡ 0 → spans_here s n at ≡ []
unfolding spans parts
spans_none s n at e = rw e

-- the number of the first entry is that of the first span
pub lowest_here : (s : List ℕ) (n at : ℕ) → (n ≡ 0 → ⊥) → lowest (spans_here s n at) ≡ number_at 4 s at
unfolding lowest
lowest_here s n at h = go (eqb (number_at 4 s (at + 4)) 0) refl
  where
    go : (b : Bool) → eqb (number_at 4 s (at + 4)) 0 ≡ b → lowest (spans_here s n at) ≡ number_at 4 s at
    go true e = rw (spans_plain s n at h (eqb-true _ _ e)) (plain_first (number_at 4 s at) _)
    go false e = rw (spans_ruled s n at h (eqb-false _ _ e))

-- where no entry follows, the run ends
pub gather_end : (s : List ℕ) (n at first last : ℕ) → (plain_here s n at && eqb (number_at 4 s at) (last + 1)) ≡ false
    → gathered first last (spans_here s n at) ≡ record { first = first; last = last; to = to_match } ∷ spans_here s n at
unfolding plain_here
gather_end s zero at first last e = rw (spans_none s zero at refl) (gather_none first last)
gather_end s (suc n) at first last e = go (eqb (number_at 4 s (at + 4)) 0) refl e
  where
    some : suc n ≡ 0 → ⊥
    some z = omega arith

    go : (b : Bool) → eqb (number_at 4 s (at + 4)) 0 ≡ b → (not (eqb (suc n) 0) && b && eqb (number_at 4 s at) (last + 1)) ≡ false
        → gathered first last (spans_here s (suc n) at) ≡ record { first = first; last = last; to = to_match } ∷ spans_here s (suc n) at
    go true q e = rw (spans_plain s (suc n) at some (eqb-true _ _ q)) (plain_stop first last (number_at 4 s at) (spans_here s (suc n - 1) (entry_past s at)) (rw (ne_eqb (suc n) 0 some) at e))
    go false q e = rw (spans_ruled s (suc n) at some (eqb-false _ _ q)) (gather_stop first last (alone (number_at 4 s at) (to_rules (length (bodies_here s (suc n) at)))) (spans_here s (suc n - 1) (entry_past s at)) (and_false (eqb (number_at 4 s at) (last + 1))))

-- where one follows, it is gathered too
pub record Follows (s : List ℕ) (n at last : ℕ) : Type 0 where
  pub some : n ≡ 0 → ⊥
  pub number : number_at 4 s at ≡ last + 1
  pub spans : (first : ℕ) → gathered first last (spans_here s n at) ≡ gathered first (last + 1) (spans_here s (n - 1) (at + 8))
  pub bodies : length (bodies_here s n at) ≡ length (bodies_here s (n - 1) (at + 8))
  pub ends : entries_past s n at ≡ entries_past s (n - 1) (at + 8)
  pub inside : at + 8 ≤ entries_past s n at

pub follows_is : (s : List ℕ) (n at last : ℕ) → (plain_here s n at && eqb (number_at 4 s at) (last + 1)) ≡ true → Follows s n at last
follows_is s n at last e =
    let t = both_true (plain_here s n at) (eqb (number_at 4 s at) (last + 1)) e in
    let p = plain_is s n at t.0 in
    let k = eqb-true (number_at 4 s at) (last + 1) t.1 in
    let q = plain_past s at p.1 in
    let x = behind_more (entry_past s) n at p.0 in
    let b = bodies_long s n at (number_at 4 s 8) (number_at 4 s 4) p.0 in
    record {
      some = p.0;
      number = k;
      spans = λ first. rw (spans_plain s n at p.0 p.1, q, k) (gather_more first last (spans_here s (n - 1) (at + 8)));
      bodies = rw (b, q, entry_body_none s (number_at 4 s (at + 4)) (at + 8) (number_at 4 s 8) (number_at 4 s 4) p.1) (omega arith);
      ends = rw q at x;
      inside = omega (arith, x, q, entries_further s (n - 1) (entry_past s at));
    }

-- ---- the run at a cursor

-- an entry without rules is eight bytes, and has no code
pub passes_plain : (s : List ℕ) (c : Standing) → Stands s c → (c.left ≡ 0 → ⊥) → number_at 4 s (c.at + 4) ≡ 0
    → Passes s c (record { at = c.at + 8; left = c.left - 1; place = c.place })
passes_plain s c stood some z =
    let m = number_at 4 s 8 in
    let d = number_at 4 s 4 in
    let p = plain_past s c.at z in
    let b = bodies_long s c.left c.at m d some in
    let k = ap (λ (l : List Instruction). length l) (entry_body_none s (number_at 4 s (c.at + 4)) (c.at + 8) m d z) in
    record {
      entries = rw (← p) (entries_here_lem s c.left c.at some);
      stands = record { inside = rw (← p, ← behind_more (entry_past s) c.left c.at some) stood.inside; size = stood.size; place = rw (← p) (omega (arith, k, b, stood.place)) };
      fewer = omega (arith, some);
      behind = omega arith;
    }

pub run_plain : (s : List ℕ) (c p : Standing) (r : Run) (number : ℕ) → number ≡ number_at 4 s c.at → number_at 4 s (c.at + 4) ≡ 0
    → Passes s c p → Gathers s p number r → IsNext s c r
run_plain s c p r number e z passed g =
    record {
      spans = rw (passed.entries, plain_spans_lem s c.at (number_at 4 s 8) (number_at 4 s 4) (entries_here s p.left p.at) z, ← e) g.spans;
      stands = g.stands;
      fewer = omega (arith, g.fewer, passed.fewer);
      behind = omega (arith, g.behind, passed.behind);
      place = rw g.place tt;
    }

pub run_ruled : (s : List ℕ) (c p : Standing) (number : ℕ) → number ≡ number_at 4 s c.at → (number_at 4 s (c.at + 4) ≡ 0 → ⊥)
    → Stands s c → Passes s c p → IsNext s c (record { first = number; last = number; place = Some c.place; next = p })
run_ruled s c p number e z stood passed =
    record {
      spans = rw (← stood.place, passed.entries, e) (ruled_spans s c.at (number_at 4 s 8) (number_at 4 s 4) (entries_here s p.left p.at) z);
      stands = passed.stands;
      fewer = passed.fewer;
      behind = passed.behind;
      place = omega arith;
    }

-- ---- runs passed one by one

-- where a span is left, an entry is
pub span_left : (s : List ℕ) (c : Standing) (n : ℕ) → (n ≡ 0 → ⊥) → n ≤ length (spans_from s c) → c.left ≡ 0 → ⊥
span_left s c n some h e =
    let z = rw (spans_none s c.left c.at e) at h in
    some (omega arith)

module _ (n : ℕ) (x : Span) (xs ys : List Span) (some : n ≡ 0 → ⊥) (e : xs ≡ x ∷ ys) where
  pub drop_more : drop (n - 1) ys ≡ drop n xs
  drop_more = rw e (go n some)
    where
      go : (n : ℕ) → (n ≡ 0 → ⊥) → drop (n - 1) ys ≡ drop n (x ∷ ys)
      go zero h = absurd (h refl)
      go (suc n) h = let q : suc n - 1 ≡ n = omega arith in rw q

  pub take_more : take n xs ≡ x ∷ take (n - 1) ys
  take_more = rw e (go n some)
    where
      go : (n : ℕ) → (n ≡ 0 → ⊥) → take n (x ∷ ys) ≡ x ∷ take (n - 1) ys
      go zero h = absurd (h refl)
      go (suc n) h = let q : suc n - 1 ≡ n = omega arith in rw q

  pub length_less : n ≤ length xs → n - 1 ≤ length ys
  length_less h = let q = rw e at h in omega arith

pub singles_more : (x : Span) (ss : List Span) → singles (x ∷ ss) ≡ (eqb x.first x.last && singles ss)
unfolding singles
singles_more x ss = refl

pub singles_none : singles [] ≡ true
unfolding singles
singles_none = refl

pub take_zero : (n : ℕ) (ss : List Span) → n ≡ 0 → take n ss ≡ []
take_zero n ss e = rw e

pub spans_there : (s : List ℕ) (n at : ℕ) → (n ≡ 0 → ⊥) → 1 ≤ length (spans_here s n at)
spans_there s n at h = rw (entries_here_lem s n at h) (spans_some _ _ _ _)
