-- The code of the rules behind the tree: it answers as the rules say, whatever was loaded before and whatever stands behind it, and the
-- spans lead there.
use mathlib.Core.Path.{◌≡◌, refl, ◌∙◌}
use mathlib.Core.Bool.{Bool, true, false, cond}
use mathlib.Core.List.{List, [], ◌∷◌, ◌++◌, append_assoc}
use Prim.Native.Nat.{ℕ, ◌+◌, ◌-◌}
use native.Mathlib.Omega.{arith}
use lib.Dec.{eqb}
use lib.ListN.{length, length-append}
use Rattle.definitions.specs.declared.Instruction.{Instruction}
use Rattle.definitions.specs.declared.Width.{Width}
use Rattle.definitions.specs.declared.Width.TheVariants.{Dword, Qword}
use Rattle.definitions.specs.Machine.{Call, State, returns, set_a, start}
use Rattle.definitions.specs.RuleSet.{Rule, Entry, any_holds, matches, listed, rules_of}
use Rattle.definitions.specs.Format.{Each}
use Rattle.definitions.specs.Emitted.{return, high_part, low_part, only_qword, condition_code, helpers, near, step_code, step_distance, conditions_code, rule_body, rule_bodies, entry_body}
use Rattle.theorems.proofs.Steps.{run_return}
use Rattle.theorems.proofs.Conditions.{Goes}
use Rattle.theorems.proofs.Heads.{cond_returns}
use Rattle.theorems.proofs.Rules.{IndexTaken, body_right, rules_right}
use Rattle.theorems.proofs.Right.{EntryTaken}
use Rattle.definitions.specs.SearchForm.{bodies, to_match, to_rules, Span, entry_spans, spans, ground}
use Rattle.definitions.specs.Compiled.{rules_steps}
use Rattle.search_form.proofs.Grow.{seek, Sorted}
use Rattle.search_form.proofs.Spans.{seek_alone, seek_plain, Rising, spans_sorted}
use Rattle.search_form.proofs.Steps.{count_return, count_within, Opens, loads, returning, count_opens, over_append}
use Rattle.search_form.proofs.Found.{Ends, ends_over, Leads, leads_over, Ready}

-- ---- it asks for nothing that was loaded before

onto_load : (w : Width) (p q : List Instruction) → Opens p → Opens q → Opens (only_qword w p ++ q)
onto_load Dword p q a b = b
onto_load Qword (i ∷ p) q (loads k r) b = loads k _
onto_load Qword (i ∷ p) q (returning k r) b = returning k _
onto_load Qword [] q a b = elim a [ ]

opens_append : (p q : List Instruction) → Opens p → Opens (p ++ q)
opens_append p q (loads k r) = loads k _
opens_append p q (returning k r) = returning k _

conditions_open : (qs : Rule) (d : ℕ) (p : List Instruction) → Opens p → Opens (conditions_code qs d ++ p)
unfolding conditions_code step_code condition_code high_part low_part
conditions_open [] d p o = o
conditions_open (q ∷ qs) d p o =
    rw (append_assoc (conditions_code qs (step_distance q d)) (step_code q d) p)
    (conditions_open qs (step_distance q d) (step_code q d ++ p)
    (opens_append (step_code q d) p (opens_append (condition_code q (near d)) (helpers d) (onto_load q.width (high_part q (near d)) (low_part q (near d)) (loads _ _) (loads _ _)))))

pub rules_open : (m : ℕ) (r : Rule) (rs : List Rule) (p : List Instruction) → Opens (rule_bodies m (r ∷ rs) ++ p)
unfolding rule_body
rules_open m r rs p = opens_append (rule_body m r ++ rule_bodies m rs) p (opens_append (rule_body m r) (rule_bodies m rs) (conditions_open r 1 (return m ∷ []) (returning m [])))

-- ---- the spans lead to it

module _ (c : Call) (m d : ℕ) where
  -- the state in which the tree is entered
  abbrev pub loaded : State
  loaded = set_a c.number start

  entry_ends : (r : Rule) (rs : List Rule) (rest : List Instruction) → Each (Each IndexTaken) (r ∷ rs)
      → Ends c loaded c.number refl (length (entry_body m d (r ∷ rs) ++ rest)) (entry_body m d (r ∷ rs) ++ rest)
      (returns (cond (any_holds c (r ∷ rs)) m d)) (rules_steps m d (r ∷ rs) c)
  unfolding entry_body rules_steps
  entry_ends r rs rest g =
      let all : List Instruction = rule_bodies m (r ∷ rs) ++ (return d ∷ []) in
      let zero_left : length (all ++ rest) - length (all ++ rest) ≡ 0 = omega arith in
      let answers : (p : List Instruction) → Goes 0 (rule_bodies m (r ∷ rs) ++ (return d ∷ p)) c (returns (cond (any_holds c (r ∷ rs)) m d)) =
      λ p s. rules_right m c (rule_body m) (body_right m c) (returns d) (r ∷ rs) (return d ∷ p) g (λ t. run_return p t c d) s ∙ cond_returns (any_holds c (r ∷ rs)) m d in
      record {
        pos = omega (arith, length-append all rest, length-append (rule_bodies m (r ∷ rs)) (return d ∷ []));
        inside = omega arith;
        goes = rw (zero_left, append_assoc) (answers rest loaded);
        upto =
            let within = count_within all rest loaded c _ (answers [] loaded) in
            let alike = count_opens all c c.number (rules_open m r rs (return d ∷ [])) in
            rw (zero_left, within, alike) (omega arith);
      }

  entry_leads : (n : ℕ) (rs : List Rule) (ss : List Span) (p : List Instruction) (v : ℕ) (others : List Rule) → Each (Each IndexTaken) rs → Sorted (n + 1) ss
      → Leads c loaded c.number refl m d p (seek ss c.number) (returns v) (rules_steps m d others c)
      → Leads c loaded c.number refl m d (entry_body m d rs ++ p) (seek (entry_spans n rs (length (entry_body m d rs ++ p)) ss) c.number)
      (returns (cond (eqb c.number n) (cond (matches c rs) m d) v)) (rules_steps m d (cond (eqb c.number n) rs others) c)
  unfolding entry_body entry_spans matches Leads rules_steps
  entry_leads n [] ss p v others g o h = rw (seek_plain c.number n ss o) (go (eqb c.number n))
    where
      go : (t : Bool) → Leads c loaded c.number refl m d p (cond t to_match (seek ss c.number)) (returns (cond t m v)) (rules_steps m d (cond t [] others) c)
      go true = (refl, omega arith)
      go false = h
  entry_leads n (r ∷ rs) ss p v others g o h = rw (seek_alone c.number n (to_rules (length (entry_body m d (r ∷ rs) ++ p))) ss) (go (eqb c.number n))
    where
      go : (t : Bool) → Leads c loaded c.number refl m d (entry_body m d (r ∷ rs) ++ p) (cond t (to_rules (length (entry_body m d (r ∷ rs) ++ p))) (seek ss c.number))
          (returns (cond t (cond (any_holds c (r ∷ rs)) m d) v)) (rules_steps m d (cond t (r ∷ rs) others) c)
      go true = entry_ends r rs p g
      go false = leads_over c loaded c.number refl m d p (entry_body m d (r ∷ rs) ++ p) (seek ss c.number) (returns v) (rules_steps m d others c) (over_append (entry_body m d (r ∷ rs)) p) h

  pub bodies_lead : (b : ℕ) (es : List Entry) → Each EntryTaken es → Rising b es
      → Leads c loaded c.number refl m d (bodies m d es) (seek (spans m d es) c.number) (returns (listed c m d es)) (rules_steps m d (rules_of c.number es) c)
  unfolding bodies spans listed rules_of Rising
  bodies_lead b [] g a = unfold seek Leads rules_steps in (refl, omega arith)
  bodies_lead b (e ∷ es) g a =
      entry_leads e.number e.rules (spans m d es) (bodies m d es) (listed c m d es) (rules_of c.number es) g.0
      (spans_sorted m d (e.number + 1) es a.1) (bodies_lead (e.number + 1) es g.1 a.1)

  last_ends : (es : List Entry) → Ends c loaded c.number refl 1 (bodies m d es) (returns d) 1
  unfolding bodies
  last_ends [] = record {
    pos = omega arith;
    inside = omega arith;
    goes = run_return [] loaded c d;
    upto = rw count_return (omega arith);
  }
  last_ends (e ∷ es) =
      ends_over c loaded c.number refl 1 (bodies m d es) (entry_body m d e.rules ++ bodies m d es) (returns d) 1 (over_append (entry_body m d e.rules) (bodies m d es)) (last_ends es)

  pub ground_ready : (es : List Entry) → Ready c loaded c.number refl m d (ground m d es)
  unfolding ground
  ground_ready es = record { on_match = λ q. absurd (omega arith); on_mismatch = λ q. last_ends es }
