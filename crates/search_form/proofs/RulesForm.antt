-- RIGHT and QUICK of the form that searches rules too: for every call it returns the action that its rule set means, after as many
-- instructions as halving takes for the number, and for each word of the rules that are searched.
use mathlib.Core.Path.{◌≡◌, refl, ap, ◌∙◌}
use mathlib.Core.Bool.{Bool, true, false, cond}
use mathlib.Core.List.{List, [], ◌∷◌}
use Prim.Native.Nat.{ℕ, ◌+◌, ◌-◌, ◌^◌, ◌≤◌, max}
use native.Mathlib.Omega.{arith}
use lib.Dec.{eqb, leb}
use lib.ListN.{length}
use Rattle.definitions.specs.Machine.{Call, State, Result, returns, steps, set_a, start}
use Rattle.definitions.specs.RuleSet.{Rule, Entry, RuleSet, matches, listed, rules_of, together, span_count, no_rules}
use Rattle.definitions.specs.Compiled.{guard_steps}
use Rattle.definitions.specs.Format.{Each}
use Rattle.definitions.specs.Answer.{ascending, indices_taken}
use Rattle.definitions.specs.Emitted.{return}
use Rattle.theorems.proofs.Steps.{run_return}
use Rattle.theorems.proofs.Heads.{headed_right}
use Rattle.theorems.proofs.Right.{EntryTaken, each_index}
use Rattle.theorems.proofs.Rules.{IndexTaken}
use Rattle.definitions.specs.SearchForm.{entry_spans, plain_spans, Form}
use Rattle.search_form.specs.Counts.{search_most}
use Rattle.search_form.specs.Rules.{Laid, lay_entry, lay, one_by_one, ruled, rules_most, shorter_of, entry_form, bottom, rules_planted, rules_form}
use Rattle.search_form.specs.Statements.{RulesRight}
use Rattle.search_form.proofs.Cases.{cond_case}
use Rattle.search_form.proofs.Spans.{Rising, rising, Begins, entry_begins, entry_count}
use Rattle.search_form.proofs.Steps.{count_return, head_count}
use Rattle.search_form.proofs.Found.{tree_most, ends_more, ends_first}
use Rattle.search_form.proofs.Right.{Answers, below_power}
use Rattle.search_form.proofs.RuleCases.{hits}
use Rattle.search_form.proofs.RulesRight.{AnyReady, Puts, given, Putting, linear_most, linear_puts, found_most, lay_some, lay_right, grown_right, ruled_most, ruled_puts}
use Rattle.search_form.proofs.RulesSizes.{surely, surely_searched, bottom_rooted, rules_none}

-- ---- spans are as many as can be counted from the entries

lay_spans : (put : List Rule → Form → Form) (n : ℕ) (rs : List Rule) (l : Laid) → (lay_entry put n rs l).spans ≡ entry_spans n rs (put rs l.form).at l.spans
unfolding lay_entry entry_spans
lay_spans put n [] l = refl
lay_spans put n (r ∷ rs) l = refl

lay_begins : (put : List Rule → Form → Form) (e : Entry) (es : List Entry) (f : Form) → Begins e.number (no_rules e.rules) (lay put (e ∷ es) f).spans
unfolding lay
lay_begins put e es f = rw lay_spans (entry_begins e.number (put e.rules (lay put es f).form).at e.rules (lay put es f).spans)

lay_count : (put : List Rule → Form → Form) (es : List Entry) (f : Form) → length (lay put es f).spans ≡ span_count es
unfolding span_count
lay_count put [] f = unfold lay in refl
lay_count put (e ∷ []) f = unfold lay in rw lay_spans (one e.rules)
  where
    one : (rs : List Rule) → length (entry_spans e.number rs (put e.rules f).at []) ≡ 1
    one [] = unfold entry_spans plain_spans in refl
    one (r ∷ rs) = unfold entry_spans in refl
lay_count put (e ∷ (g ∷ es)) f =
    let l : Laid = lay put (g ∷ es) f in
    let q : (lay put (e ∷ (g ∷ es)) f).spans ≡ entry_spans e.number e.rules (put e.rules l.form).at l.spans = unfold lay in lay_spans put e.number e.rules l in
    ap length q
    ∙ entry_count e.number (put e.rules l.form).at e.rules g.number (no_rules g.rules) l.spans (lay_begins put g es f)
    ∙ ap (λ (x : ℕ). cond (together e g) 0 1 + x) (lay_count put (g ∷ es) f)

module _ (c : Call) (m d : ℕ) where
  puts_more : (r : Result) (n k : ℕ) (f g : Form) → n ≤ k → Puts c m d r n f g → Puts c m d r k f g
  puts_more r n k f g h x = record {
    rooted = x.rooted;
    ready = x.ready;
    over = x.over;
    ends = λ s. ends_more c s s.A refl g.at g.code r n k h (x.ends s);
  }

  -- what a number's rules take at most
  unfoldable pub entry_most : List Rule → ℕ
  entry_most rs = cond (surely m d rs) (ruled_most c m d rs) (max (ruled_most c m d rs) (linear_most c m d rs))

  entry_puts : Putting c m d (Each IndexTaken) entry_most (entry_form m d)
  unfolding entry_most
  entry_puts rs f g any root ready = go (surely m d rs) refl
    where
      go : (t : Bool) → surely m d rs ≡ t
          → Puts c m d (given c m d rs) (cond t (ruled_most c m d rs) (max (ruled_most c m d rs) (linear_most c m d rs))) f (entry_form m d rs f)
      go true q = rw (surely_searched m d rs f root q) (ruled_puts c m d rs f g any root ready)
      go false q =
          unfold entry_form shorter_of in
          cond_case (Puts c m d (given c m d rs) (max (ruled_most c m d rs) (linear_most c m d rs)) f) (leb (length rs) rules_most) _ _
          (λ p. cond_case (Puts c m d (given c m d rs) (max (ruled_most c m d rs) (linear_most c m d rs)) f)
          (leb (length (ruled m d rs f).code) (length (one_by_one m d rs f).code)) _ _
          (λ y. puts_more (given c m d rs) (ruled_most c m d rs) _ f _ (omega arith) (ruled_puts c m d rs f g any root ready))
          (λ y. puts_more (given c m d rs) (linear_most c m d rs) _ f _ (omega arith) (linear_puts c m d rs f g any root ready)))
          (λ p. puts_more (given c m d rs) (linear_most c m d rs) _ f _ (omega arith) (linear_puts c m d rs f g any root ready))

  bottom_ready : AnyReady c m d (bottom d)
  unfolding bottom
  bottom_ready s = record {
    on_match = λ q. absurd (omega arith);
    on_mismatch = λ q. ends_first c s s.A refl (return d) [] (returns d) 1 (run_return [] s c d) (rw count_return (omega arith));
  }

  listed_hits : (es : List Entry) → listed c m d es ≡ cond (hits c c.number es) m d
  unfolding listed hits
  listed_hits [] = refl
  listed_hits (e ∷ es) = rw (listed_hits es) (go (eqb c.number e.number))
    where
      go : (t : Bool) → cond t (cond (matches c e.rules) m d) (cond (hits c c.number es) m d) ≡ cond (cond t (matches c e.rules) (hits c c.number es)) m d
      go true = refl
      go false = refl

  -- what is run once the number is found, at most
  abbrev pub number_most : List Entry → ℕ
  number_most es = found_most c m d entry_most (rules_of c.number es)

  none_right : (k : ℕ) (es : List Entry) (s : State) → length es ≡ 0 → Answers c s (rules_planted m d es).code (returns (listed c m d es)) (number_most es + tree_most k)
  unfolding listed rules_of found_most
  none_right k [] s z = rw (rules_none m d) (record { goes = run_return [] s c d; upto = rw count_return (omega arith) })
  none_right k (e ∷ es) s z = absurd (omega arith)

  planted_right : (k : ℕ) (es : List Entry) → Each EntryTaken es → Rising 0 es → span_count es ≤ 2 ^ k
      → Answers c (set_a c.number start) (rules_planted m d es).code (returns (listed c m d es)) (number_most es + tree_most k)
  planted_right k [] g a l = none_right k [] (set_a c.number start) refl
  planted_right k (e ∷ es) g a l =
      unfold rules_planted in
      let x = grown_right c m d c.number (number_most (e ∷ es)) k (hits c c.number (e ∷ es)) (bottom d) (lay (entry_form m d) (e ∷ es) (bottom d))
      (lay_some (entry_form m d) e es (bottom d)) (rw (lay_count (entry_form m d) (e ∷ es) (bottom d)) l)
      (lay_right c m d (Each IndexTaken) entry_most (entry_form m d) entry_puts c.number 0 (e ∷ es) (bottom d) g a (bottom_rooted m d) bottom_ready) in
      record { goes = rw (listed_hits (e ∷ es)) (x.goes start); upto = x.upto start }

pub rules_form_right : RulesRight
unfolding rules_form
rules_form_right rs up taken c =
    let m = rs.on_match in
    let d = rs.mismatch in
    let es = rs.entries in
    headed_right rs (rules_planted m d es).code c
    (planted_right c m d (span_count es) es (each_index rs taken) (rising es up) (below_power (span_count es))).goes
    (λ z. (none_right c m d 0 es (set_a c.architecture start) z).goes)

-- with at most 2 ^ k spans of numbers: what finding the number takes, a guard, and what the number's rules take at most
pub rules_form_quick : (rs : RuleSet) → ascending rs.entries ≡ true → indices_taken rs ≡ true → (c : Call) (k : ℕ) → span_count rs.entries ≤ 2 ^ k
    → steps (rules_form rs) c ≤ search_most k + guard_steps rs c + number_most c rs.on_match rs.mismatch rs.entries
unfolding rules_form tree_most
rules_form_quick rs up taken c k l =
    let m = rs.on_match in
    let d = rs.mismatch in
    let es = rs.entries in
    let x = planted_right c m d k es (each_index rs taken) (rising es up) l in
    omega (
      arith,
      head_count (rules_planted m d es).code c (number_most c m d es + (k + 3 + (k - 6))) (omega arith) x.upto rs
          (λ z. (none_right c m d k es (set_a c.architecture start) z).upto),
    )
