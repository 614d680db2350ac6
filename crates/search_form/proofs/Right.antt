-- RIGHT: the search form returns, for every call, the action that its rule set means. The same walk counts the instructions.
use mathlib.Core.Path.{◌≡◌, refl}
use mathlib.Core.Bool.{false}
use mathlib.Core.List.{List, [], ◌∷◌}
use Prim.Native.Nat.{ℕ, zero, suc, ◌+◌, ◌-◌, ◌^◌, ◌≤◌, ◌<◌}
use native.Mathlib.Omega.{arith}
use lib.ListN.{length}
use lib.Pow.{pow-lt}
use Rattle.definitions.specs.declared.Instruction.{Instruction}
use Rattle.definitions.specs.Machine.{Call, State, Result, returns, set_a, start, run}
use Rattle.definitions.specs.RuleSet.{Entry, listed}
use Rattle.definitions.specs.Format.{Each}
use Rattle.theorems.proofs.Steps.{run_return}
use Rattle.theorems.proofs.Heads.{headed_right}
use Rattle.theorems.proofs.Right.{EntryTaken, each_index}
use Rattle.definitions.specs.SearchForm.{Span, spans, grow, Form, plant, ground, tree, planted, search_form}
use Rattle.definitions.specs.Compiled.{rules_steps}
use Rattle.definitions.specs.RuleSet.{rules_of}
use Rattle.search_form.specs.Statements.{Right}
use Rattle.search_form.proofs.Grow.{seek, find, tree_right}
use Rattle.search_form.proofs.Spans.{Rising, rising, spans_sorted, spans_some}
use Rattle.search_form.proofs.Shorter.{ground_rooted, planted_none}
use Rattle.search_form.proofs.Steps.{count, count_return}
use Rattle.search_form.proofs.Found.{tree_most, Ends, tree_found}
use Rattle.search_form.proofs.Bodies.{loaded, bodies_lead, ground_ready}

-- what code answers from its front on, and how long that takes
pub record Answers (c : Call) (s : State) (p : List Instruction) (r : Result) (n : ℕ) : Type 0 where
  pub goes : run 0 p s c ≡ r
  pub upto : count 0 p s c ≤ n

module _ (c : Call) (m d : ℕ) where
  from_front : (g : Form) (r : Result) (n : ℕ) → g.at ≡ length g.code → Ends c (loaded c m d) c.number refl g.at g.code r n
      → Answers c (loaded c m d) g.code r n
  from_front g r n e h =
      let z : length g.code - g.at ≡ 0 = omega arith in
      record { goes = rw z at h.goes; upto = rw z at h.upto }

  -- with nothing listed, whatever is loaded
  pub none_right : (k : ℕ) (es : List Entry) (s : State) → length es ≡ 0
      → Answers c s (planted m d es) (returns (listed c m d es)) (rules_steps m d (rules_of c.number es) c + tree_most k)
  unfolding listed rules_of rules_steps
  none_right k [] s z = rw planted_none (record { goes = run_return [] s c d; upto = rw count_return (omega arith) })
  none_right k (e ∷ es) s z = absurd (omega arith)

  pub planted_right : (k : ℕ) (es : List Entry) → Each EntryTaken es → Rising 0 es → length (spans m d es) ≤ 2 ^ k
      → Answers c (loaded c m d) (planted m d es) (returns (listed c m d es)) (rules_steps m d (rules_of c.number es) c + tree_most k)
  planted_right k [] g a l = none_right k [] (loaded c m d) refl
  planted_right k (e ∷ es) g a l =
      unfold planted tree in
      let ss : List Span = spans m d (e ∷ es) in
      let x = tree_found c (loaded c m d) c.number refl m d k ss (ground m d (e ∷ es)) l (spans_some m d e es) (ground_rooted m d (e ∷ es)) (ground_ready c m d (e ∷ es)) in
      let q : find (grow (length ss) false 0 0 ss) c.number ≡ seek ss c.number = tree_right c.number 0 ss (spans_sorted m d 0 (e ∷ es) a) in
      from_front (plant m d (grow (length ss) false 0 0 ss) (ground m d (e ∷ es))) _ _ x.front (x.found.upto _ _ (rw q (unfold ground in bodies_lead c m d 0 (e ∷ es) g a)))

pub below_power : (n : ℕ) → n ≤ 2 ^ n
below_power zero = omega arith
below_power (suc n) = let x : n < suc n = omega arith in omega (arith, below_power n, pow-lt x)

pub right : Right
unfolding search_form
right rs up taken c =
    let m = rs.on_match in
    let d = rs.mismatch in
    let es = rs.entries in
    headed_right rs (planted m d es) c
    (planted_right c m d (length (spans m d es)) es (each_index rs taken) (rising es up) (below_power _)).goes
    (λ z. (none_right c m d 0 es (set_a c.architecture start) z).goes)
