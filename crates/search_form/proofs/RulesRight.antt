-- RIGHT, of rules that are searched: from the front of what is put for a number's rules a call gets what they mean, after what the rules
-- that are tried take, and as many instructions as halving takes for each word that is looked at.
use mathlib.Core.Path.{◌≡◌, refl, ◌∙◌}
use mathlib.Core.Bool.{Bool, true, false, cond, ◌||◌}
use mathlib.Core.List.{List, [], ◌∷◌, ◌++◌}
use mathlib.Core.Option.{some}
use Prim.Native.Nat.{ℕ, zero, suc, ◌+◌, ◌-◌, ◌/◌, ◌^◌, ◌≤◌}
use native.Mathlib.Omega.{arith}
use native.Mathlib.Nat.{pow-suc}
use lib.Dec.{eqb, leb}
use lib.ListN.{length, length-append}
use borrow.Author.Tests.{leb-true, leb-false}
use Rattle.definitions.specs.declared.Instruction.{Instruction}
use Rattle.definitions.specs.declared.Width.{Width}
use Rattle.definitions.specs.declared.Width.TheVariants.{Dword, Qword}
use Rattle.definitions.specs.Machine.{Call, State, Result, returns, set_a, start, fetch, run, visits}
use Rattle.definitions.specs.RuleSet.{Rule, Entry, argument, any_holds, matches, rules_of}
use Rattle.definitions.specs.Format.{Each}
use Rattle.definitions.specs.Emitted.{load, return, rule_bodies, rule_body}
use Rattle.theorems.proofs.Steps.{run_load, run_return, fetch_low, fetch_high}
use Rattle.theorems.proofs.Conditions.{Goes, cond_or}
use Rattle.theorems.proofs.Heads.{cond_returns}
use Rattle.theorems.proofs.Rules.{IndexTaken, body_right, rules_right}
use Rattle.definitions.specs.SearchForm.{Span, to_match, to_rules, plain_spans, grow, Form, plant}
use Rattle.search_form.specs.Rules.{Look, word_at, half, cases, Laid, lay_entry, lay, grown, fronted, mismatching, one_by_one, searched, pattern, alikes, others, by_words, ruled}
use Rattle.search_form.proofs.Cases.{cond_case}
use Rattle.search_form.proofs.Grow.{seek, find, Sorted, tree_right}
use Rattle.search_form.proofs.Spans.{Rising, seek_alone, seek_plain, plain_case, plain_sorted}
use Rattle.search_form.proofs.Sizes.{Rooted, tree_sized}
use Rattle.search_form.proofs.Steps.{count, count_load, count_return, Over, same, more, over_over, over_append}
use Rattle.search_form.proofs.Found.{tree_most, Ends, ends_over, ends_more, ends_first, Leads, leads_over, Ready, ready_over, Searched, tree_found}
use Rattle.search_form.proofs.RuleSteps.{linear_steps, tried_count}
use Rattle.search_form.proofs.RuleCases.{Fits, fits_none, index_taken_lem, cases_rising, cases_some, cases_rest, seen, hits, cases_hold, split_hold, others_each, alikes_fit, alikes_each, rests_fit}

-- ---- as many halvings as a number takes

unfoldable pub halvings : ℕ → ℕ → ℕ
halvings zero n = 0
halvings (suc fuel) n = cond (leb n 1) 0 (suc (halvings fuel ((n + 1) / 2)))

-- 2 ^ doublings n is n at least
unfoldable pub doublings : ℕ → ℕ
doublings n = halvings n n

halvings_enough : (fuel n : ℕ) → n ≤ suc fuel → n ≤ 2 ^ halvings fuel n
unfolding halvings
halvings_enough zero n h = omega arith
halvings_enough (suc fuel) n h =
    cond_case (λ (k : ℕ). n ≤ 2 ^ k) (leb n 1) _ _ (λ y. omega (arith, leb-true n 1 y))
    (λ y. rw pow-suc (let z = leb-false n 1 y in omega (arith, halvings_enough fuel ((n + 1) / 2) (omega arith))))

pub doublings_enough : (n : ℕ) → n ≤ 2 ^ doublings n
unfolding doublings
doublings_enough n = halvings_enough n n (omega arith)

module _ (c : Call) where
  fetch_word : (w : Width) (i : ℕ) → i ≤ 5 → fetch c (word_at w i) ≡ some (half w (argument i c))
  unfolding word_at half
  fetch_word Dword i h = fetch_low i h c
  fetch_word Qword i h = fetch_high i h c

-- ---- how many spans there are

plain_some : (n : ℕ) (ss : List Span) → 1 ≤ length (plain_spans n ss)
plain_some n [] = unfold plain_spans in omega arith
plain_some n (s ∷ ss) = plain_case (λ (l : List Span). 1 ≤ length l) n s ss (λ e p. omega arith) (omega arith)

plain_few : (n : ℕ) (ss : List Span) → length (plain_spans n ss) ≤ suc (length ss)
plain_few n [] = unfold plain_spans in omega arith
plain_few n (s ∷ ss) = plain_case (λ (l : List Span). length l ≤ suc (suc (length ss))) n s ss (λ e p. omega arith) (omega arith)

entry_some : (put : List Rule → Form → Form) (n : ℕ) (rs : List Rule) (l : Laid) → (1 ≤ length (lay_entry put n rs l).spans) × (length (lay_entry put n rs l).spans ≤ suc (length l.spans))
unfolding lay_entry
entry_some put n [] l = (plain_some n l.spans, plain_few n l.spans)
entry_some put n (r ∷ rs) l = (omega arith, omega arith)

pub lay_few : (put : List Rule → Form → Form) (es : List Entry) (f : Form) → length (lay put es f).spans ≤ length es
unfolding lay
lay_few put [] f = omega arith
lay_few put (e ∷ es) f = omega (arith, lay_few put es f, (entry_some put e.number e.rules (lay put es f)).1)

pub lay_some : (put : List Rule → Form → Form) (e : Entry) (es : List Entry) (f : Form) → 1 ≤ length (lay put (e ∷ es) f).spans
unfolding lay
lay_some put e es f = (entry_some put e.number e.rules (lay put es f)).0

-- ---- what is put in front of a form for rules

module _ (c : Call) (m d : ℕ) where
  abbrev pub AnyReady : Form → Type 0
  AnyReady f = (s : State) → Ready c s s.A refl m d f

  -- from where g is entered, in whatever state, the call gets r after n instructions at most
  pub record Puts (r : Result) (n : ℕ) (f g : Form) : Type 0 where
    pub rooted : Rooted g
    pub ready : AnyReady g
    pub over : Over f.code g.code
    pub ends : (s : State) → Ends c s s.A refl g.at g.code r n

  -- what rules give
  abbrev pub given : List Rule → Result
  given rs = returns (cond (any_holds c rs) m d)

  -- rules of which P holds are put so that they take `most` at most
  abbrev pub Putting : (Rule → Type 0) → (List Rule → ℕ) → (List Rule → Form → Form) → Type 0
  Putting P most put = (rs : List Rule) (f : Form) → Each P rs → 1 ≤ length rs → Rooted f → AnyReady f → Puts (given rs) (most rs) f (put rs f)

  -- ---- one by one

  abbrev pub linear_most : List Rule → ℕ
  linear_most rs = linear_steps m d rs c

  -- code in front of which rules are tried: the state does not matter
  tried : (rs : List Rule) (p : List Instruction) (r : Result) (n : ℕ) → Each (Each IndexTaken) rs → 1 ≤ length p → 1 ≤ n → Goes 0 p c r → ((s : State) → count 0 p s c ≤ n) → (s : State)
      → Ends c s s.A refl (length (rule_bodies m rs ++ p)) (rule_bodies m rs ++ p) (cond (any_holds c rs) (returns m) r) (linear_most rs + n - 1)
  tried rs p r n g l o h k s =
      let z : length (rule_bodies m rs ++ p) - length (rule_bodies m rs ++ p) ≡ 0 = omega arith in
      let e = rules_right m c (rule_body m) (body_right m c) (returns d) rs (return d ∷ []) g (λ t. run_return [] t c d) s ∙ cond_returns (any_holds c rs) m d in
      record {
        pos = omega (arith, length-append (rule_bodies m rs) p);
        inside = omega arith;
        goes = rw z (rules_right m c (rule_body m) (body_right m c) r rs p g h s);
        upto = rw z (omega (arith, tried_count m d rs p s c _ n o e k));
      }

  pub linear_puts : Putting (Each IndexTaken) linear_most (one_by_one m d)
  unfolding one_by_one fronted mismatching
  linear_puts rs f g any root ready =
      let o : Over f.code (rule_bodies m rs ++ (return d ∷ f.code)) = over_over (more (return d) same) (over_append (rule_bodies m rs) (return d ∷ f.code)) in
      record {
        rooted = record { pos = omega arith; inside = omega (arith, length-append (rule_bodies m rs) (return d ∷ f.code)) };
        ready = λ s. record {
          on_match = λ q. ends_over c s s.A refl f.match_return f.code _ (returns m) 1 o ((ready s).on_match q);
          on_mismatch = λ q.
              ends_over c s s.A refl (suc (length f.code)) (return d ∷ f.code) _ (returns d) 1 (over_append (rule_bodies m rs) (return d ∷ f.code))
              (ends_first c s s.A refl (return d) f.code (returns d) 1 (run_return f.code s c d) (rw count_return (omega arith)));
        };
        over = o;
        ends = λ s. rw (← cond_returns (any_holds c rs) m d)
            (ends_more c s s.A refl _ _ _ (linear_most rs + 1 - 1) (linear_most rs) (omega arith)
            (tried rs (return d ∷ f.code) (returns d) 1 g (omega arith) (omega arith) (λ t. run_return f.code t c d) (λ t. rw count_return (omega arith)) s));
      }

  -- ---- entries in front of a form

  -- what a value's rules take at most, or a return
  unfoldable pub found_most : (List Rule → ℕ) → List Rule → ℕ
  found_most most [] = 1
  found_most most (r ∷ rs) = most (r ∷ rs)

  pub record Lays (x b n : ℕ) (h : Bool) (f : Form) (l : Laid) : Type 0 where
    pub rooted : Rooted l.form
    pub ready : AnyReady l.form
    pub over : Over f.code l.form.code
    pub sorted : Sorted b l.spans
    pub leads : (s : State) → Leads c s s.A refl m d l.form.code (seek l.spans x) (returns (cond h m d)) n

  module _ (P : Rule → Type 0) (most : List Rule → ℕ) (put : List Rule → Form → Form) (puts : Putting P most put) (x : ℕ) where
    lay_entry_lem : (b n : ℕ) (rs others : List Rule) (h : Bool) (f : Form) (l : Laid) → b ≤ n → Each P rs
        → Lays x (n + 1) (found_most most others) h f l
        → Lays x b (found_most most (cond (eqb x n) rs others)) (cond (eqb x n) (matches c rs) h) f (lay_entry put n rs l)
    unfolding lay_entry matches Leads found_most
    lay_entry_lem b n [] others h f l le g i = record {
      rooted = i.rooted;
      ready = i.ready;
      over = i.over;
      sorted = plain_sorted b n l.spans le i.sorted;
      leads = λ s. rw (seek_plain x n l.spans i.sorted) (go s (eqb x n));
    }
      where
        go : (s : State) (t : Bool) → Leads c s s.A refl m d l.form.code (cond t to_match (seek l.spans x)) (returns (cond (cond t true h) m d)) (found_most most (cond t [] others))
        go s true = (refl, omega arith)
        go s false = i.leads s
    lay_entry_lem b n (r ∷ rs) others h f l le g i =
        let y = puts (r ∷ rs) l.form g (omega arith) i.rooted i.ready in
        record {
          rooted = y.rooted;
          ready = y.ready;
          over = over_over i.over y.over;
          sorted = unfold Sorted in (le, omega arith, i.sorted);
          leads = λ s. rw (seek_alone x n (to_rules (put (r ∷ rs) l.form).at) l.spans) (go y s (eqb x n));
        }
      where
        go : Puts (given (r ∷ rs)) (most (r ∷ rs)) l.form (put (r ∷ rs) l.form) → (s : State) (t : Bool)
            → Leads c s s.A refl m d (put (r ∷ rs) l.form).code (cond t (to_rules (put (r ∷ rs) l.form).at) (seek l.spans x))
            (returns (cond (cond t (any_holds c (r ∷ rs)) h) m d)) (found_most most (cond t (r ∷ rs) others))
        go y s true = y.ends s
        go y s false = leads_over c s s.A refl m d l.form.code (put (r ∷ rs) l.form).code (seek l.spans x) (returns (cond h m d)) (found_most most others) y.over (i.leads s)

    pub lay_right : (b : ℕ) (es : List Entry) (f : Form) → Each (λ (e : Entry). Each P e.rules) es → Rising b es → Rooted f → AnyReady f
        → Lays x b (found_most most (rules_of x es)) (hits c x es) f (lay put es f)
    unfolding lay hits rules_of Rising
    lay_right b [] f g a root ready = record {
      rooted = root;
      ready = ready;
      over = same;
      sorted = unfold Sorted in tt;
      leads = λ s. unfold seek Leads found_most in (refl, omega arith);
    }
    lay_right b (e ∷ es) f g a root ready =
        lay_entry_lem b e.number e.rules (rules_of x es) (hits c x es) f (lay put es f) a.0 g.0 (lay_right (e.number + 1) es f g.1 a.1 root ready)

  -- ---- the tree in front

  -- entered with the word loaded
  pub record Grows (x n : ℕ) (r : Result) (f g : Form) : Type 0 where
    pub rooted : Rooted g
    pub ready : AnyReady g
    pub over : Over f.code g.code
    pub front : g.at ≡ length g.code
    pub some : 1 ≤ length g.code
    pub goes : (s : State) → run 0 g.code (set_a x s) c ≡ r
    pub upto : (s : State) → count 0 g.code (set_a x s) c ≤ n

  pub grown_right : (x n k : ℕ) (h : Bool) (f : Form) (l : Laid) → 1 ≤ length l.spans → length l.spans ≤ 2 ^ k → Lays x 0 n h f l
      → Grows x (n + tree_most k) (returns (cond h m d)) f (grown m d l)
  unfolding grown
  grown_right x n k h f l o most i =
      let e = (found start).front in
      let z : length g.code - g.at ≡ 0 = omega arith in
      record {
        rooted = (tree_sized m d l.spans l.form i.rooted).rooted;
        ready = λ s. (found s).found.ready;
        over = over_over i.over (found start).found.over;
        front = e;
        some = omega (arith, (ends start).pos, (ends start).inside);
        goes = λ s. rw z at (ends s).goes;
        upto = λ s. rw z at (ends s).upto;
      }
    where
      g : Form
      g = plant m d (grow (length l.spans) false 0 0 l.spans) l.form

      found : (s : State) → Searched c s s.A refl m d l.form (plant m d (grow (length l.spans) false 0 0 l.spans) l.form) (find (grow (length l.spans) false 0 0 l.spans) s.A) (tree_most k)
      found s = tree_found c s s.A refl m d k l.spans l.form most o i.rooted (i.ready s)

      q : find (grow (length l.spans) false 0 0 l.spans) x ≡ seek l.spans x
      q = tree_right x 0 l.spans i.sorted

      ends : (s : State) → Ends c (set_a x s) x refl (plant m d (grow (length l.spans) false 0 0 l.spans) l.form).at (plant m d (grow (length l.spans) false 0 0 l.spans) l.form).code (returns (cond h m d)) (n + tree_most k)
      ends s = (found (set_a x s)).found.upto (returns (cond h m d)) n (rw q (i.leads (set_a x s)))

  -- ---- word by word

  unfoldable pub searched_most : List Look → List Rule → ℕ
  searched_most [] rs = linear_most rs
  searched_most (k ∷ ks) rs =
      suc (found_most (searched_most ks) (rules_of (seen c k) (cases k.width rs)) + tree_most (doublings (length (cases k.width rs))))

  lay_least : (put : List Rule → Form → Form) (es : List Entry) (f : Form) → 1 ≤ length es → 1 ≤ length (lay put es f).spans
  lay_least put [] f o = absurd (omega arith)
  lay_least put (e ∷ es) f o = lay_some put e es f

  pub searched_puts : (ks : List Look) → Putting (Fits ks) (searched_most ks) (searched ks m d)
  unfolding searched searched_most fronted
  searched_puts [] [] f g any root ready = absurd (omega arith)
  searched_puts [] (r ∷ rs) f g any root ready = absurd (fits_none r g.0)
  searched_puts (k ∷ ks) rs f g any root ready =
      let put : (List Rule → Form → Form) = searched ks m d in
      let es : List Entry = cases k.width rs in
      let a : ℕ = word_at k.width k.index in
      let small = index_taken_lem k ks rs g any in
      let h : Form = grown m d (lay (searched ks m d) (cases k.width rs) f) in
      let y : Grows (seen c k) (found_most (searched_most ks) (rules_of (seen c k) (cases k.width rs)) + tree_most (doublings (length (cases k.width rs)))) (returns (cond (hits c (seen c k) (cases k.width rs)) m d)) f (grown m d (lay (searched ks m d) (cases k.width rs) f)) =
      grown_right (seen c k) (found_most (searched_most ks) (rules_of (seen c k) (cases k.width rs))) (doublings (length (cases k.width rs))) (hits c (seen c k) (cases k.width rs)) f
      (lay (searched ks m d) (cases k.width rs) f)
      (lay_least (searched ks m d) (cases k.width rs) f (cases_some k ks rs g any))
      (omega (arith, lay_few (searched ks m d) (cases k.width rs) f, doublings_enough (length (cases k.width rs))))
      (lay_right (Fits ks) (searched_most ks) (searched ks m d) (searched_puts ks) (seen c k) 0 (cases k.width rs) f (rests_fit ks (length rs) (cases k.width rs) (cases_rest k ks rs g)) (cases_rising k.width rs) root ready) in
      let q = fetch_word c k.width k.index small in
      let yi = y.rooted.inside in
      record {
        rooted = record { pos = y.rooted.pos; inside = omega arith };
        ready = λ s. ready_over c s s.A refl m d h _ _ (more (load a) same) (y.ready s);
        over = over_over y.over (more (load a) same);
        ends = λ s. rw (cases_hold c k ks rs g)
            (ends_first c s s.A refl (load a) h.code _ _ (run_load h.code s c a q ∙ y.goes s)
            (rw (count_load h.code s c a q) (omega (arith, y.upto s))));
      }

  -- ---- with the others before

  unfoldable pub words_most : List Look → List Rule → List Rule → List Rule → ℕ
  words_most ks [] rest rs = linear_most rs
  words_most ks (a ∷ chosen) rest rs = linear_most rest + searched_most ks (a ∷ chosen) - 1

  unfoldable pub ruled_most : List Rule → ℕ
  ruled_most rs = words_most (pattern rs) (alikes (pattern rs) rs) (others (pattern rs) rs) rs

  searched_any : (ks : List Look) (rs all : List Rule) (f : Form) → alikes ks all ≡ rs → Each (Each IndexTaken) all → 1 ≤ length rs → Rooted f → AnyReady f
      → Puts (given rs) (searched_most ks rs) f (searched ks m d rs f)
  searched_any [] rs all f q g any root ready = unfold searched searched_most in linear_puts rs f (rw q at (alikes_each (Each IndexTaken) [] all g)) any root ready
  searched_any (k ∷ ks) rs all f q g any root ready = searched_puts (k ∷ ks) rs f (rw q at (alikes_fit k ks all g)) any root ready

  searched_front : (ks : List Look) (rs : List Rule) (f : Form) → (searched ks m d rs f).at ≡ length (searched ks m d rs f).code
  unfolding searched one_by_one fronted
  searched_front [] rs f = refl
  searched_front (k ∷ ks) rs f = refl

  count_some : (p : List Instruction) (s : State) → 1 ≤ length p → 1 ≤ count 0 p s c
  unfolding visits
  count_some [] s o = absurd (omega arith)
  count_some (i ∷ p) s o = omega arith

  -- what is entered at its front
  front_goes : (g : Form) (r : Result) (n : ℕ) (s : State) → g.at ≡ length g.code → Ends c s s.A refl g.at g.code r n
      → (run 0 g.code s c ≡ r) × (count 0 g.code s c ≤ n) × (1 ≤ n)
  front_goes g r n s e h =
      let z : length g.code - g.at ≡ 0 = omega arith in
      let x = rw z at h.upto in
      (rw z at h.goes, x, omega (arith, count_some g.code s (omega (arith, h.pos, h.inside))))

  words_puts : (ks : List Look) (rs : List Rule) (f : Form) → Each (Each IndexTaken) rs → 1 ≤ length rs → Rooted f → AnyReady f → (chosen : List Rule) → alikes ks rs ≡ chosen
      → Puts (given rs) (words_most ks chosen (others ks rs) rs) f (by_words m d ks chosen (others ks rs) rs f)
  unfolding by_words words_most fronted
  words_puts ks rs f g any root ready [] q = linear_puts rs f g any root ready
  words_puts ks rs f g any root ready (a ∷ rest) q =
      let h : Form = searched ks m d (a ∷ rest) f in
      let y = searched_any ks (a ∷ rest) rs f q g (omega arith) root ready in
      let b = rule_bodies m (others ks rs) in
      let o = over_append (rule_bodies m (others ks rs)) (searched ks m d (a ∷ rest) f).code in
      let yi = y.rooted.inside in
      record {
        rooted = record { pos = y.rooted.pos; inside = omega (arith, length-append (rule_bodies m (others ks rs)) (searched ks m d (a ∷ rest) f).code) };
        ready = λ s. ready_over c s s.A refl m d h _ _ o (y.ready s);
        over = over_over y.over o;
        ends = λ s. rw (split_hold c ks rs, q, ← cond_returns (any_holds c (others ks rs) || any_holds c (a ∷ rest)) m d, cond_or, cond_returns (any_holds c (a ∷ rest)) m d)
            (tried (others ks rs) h.code (given (a ∷ rest)) (searched_most ks (a ∷ rest)) (others_each (Each IndexTaken) ks rs g) (omega (arith, (y.ends s).pos, (y.ends s).inside))
            (front_goes h _ _ s (searched_front ks (a ∷ rest) f) (y.ends s)).2 (λ t. (front_goes h _ _ t (searched_front ks (a ∷ rest) f) (y.ends t)).0)
            (λ t. (front_goes h _ _ t (searched_front ks (a ∷ rest) f) (y.ends t)).1) s);
      }

  pub ruled_puts : Putting (Each IndexTaken) ruled_most (ruled m d)
  unfolding ruled ruled_most
  ruled_puts rs f g any root ready = words_puts (pattern rs) rs f g any root ready (alikes (pattern rs) rs) refl
