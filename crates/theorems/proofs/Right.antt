-- RIGHT: the emitted filter returns, for every call, the action that its rule set means.
use mathlib.Core.Path.{◌≡◌, refl, ◌∙◌}
use mathlib.Core.Bool.{true, cond}
use mathlib.Core.List.{List, [], ◌∷◌, ◌++◌, append_assoc}
use Prim.Native.Nat.{ℕ}
use native.Mathlib.Omega.{arith}
use lib.Dec.{eqb}
use lib.ListN.{length}
use borrow.Author.Tests.{leb-true}
use Rattle.definitions.specs.declared.Instruction.{Instruction}
use Rattle.definitions.specs.Machine.{Call, State, Result, returns, run, start, set_a}
use Rattle.definitions.specs.RuleSet.{Rule, Entry, RuleSet, all_hold, matches, listed}
use Rattle.definitions.specs.Format.{Each}
use Rattle.definitions.specs.Answer.{indices_taken}
use Rattle.definitions.specs.Emitted.{return, conditions_code, distance, rule_code, rule_body, body_code, entry_code, numbers_code, emitted}
use Rattle.theorems.specs.Statements.{Right}
use Rattle.theorems.proofs.Tests.{each_of}
use Rattle.theorems.proofs.Steps.{run_return, run_equal, skip1}
use Rattle.theorems.proofs.Heads.{cond_returns, headed_right}
use Rattle.theorems.proofs.Conditions.{Goes}
use Rattle.theorems.proofs.Rules.{IndexTaken, rule_right, rule_past_lem, rules_right, rules_past_lem}

abbrev pub EntryTaken : Entry → Type 0
EntryTaken e = Each (Each IndexTaken) e.rules

pub each_index : (rs : RuleSet) → indices_taken rs ≡ true → Each EntryTaken rs.entries
each_index rs h = each_of _ (λ e. each_of _ (each_of _ (λ q. leb-true q.index 5)) e.rules) rs.entries h

-- ---- the rules of an entry: a call with another number walks past them

module _ (m : ℕ) (c : Call) (rest : List Instruction) where
  rules_here_lem : (n : Result) (rs : List Rule) → Each (Each IndexTaken) rs → Goes 0 rest c n → Goes 0 (body_code m rs ++ rest) c (cond (matches c rs) (returns m) n)
  unfolding body_code matches rule_code rule_body conditions_code distance all_hold
  rules_here_lem n [] g h = rule_right m c n [] rest tt h
  rules_here_lem n (r ∷ rs) g h = rules_right m c (rule_code m) (rule_right m c) n (r ∷ rs) rest g h

  pass : (rs : List Rule) (s : State) → run 1 (body_code m rs ++ rest) s c ≡ run 1 rest s c
  unfolding body_code rule_code rule_body conditions_code distance
  pass [] s = rule_past_lem m c [] rest s
  pass (r ∷ rs) s = rules_past_lem m c (r ∷ rs) rest s

-- through p, with its number in the accumulator, call c gets result r
abbrev Walks : List Instruction → Call → Result → Type 0
Walks p c r = (s : State) → s.A ≡ c.number → run 0 p s c ≡ r

-- one entry, in front of the others, with the call's number in the accumulator
entry_right : (m d : ℕ) (e : Entry) (p : List Instruction) (c : Call) {z : Result} → EntryTaken e → Walks p c z
    → Walks (entry_code m d e ++ p) c (cond (eqb c.number e.number) (cond (matches c e.rules) (returns m) (returns d)) z)
unfolding entry_code
entry_right m d e p c {z} g w s at =
    rw (append_assoc, run_equal, rules_here_lem m c (return d ∷ p) (returns d) e.rules g (λ t. run_return p t c d) s, pass m c (return d ∷ p) e.rules s, skip1, w s at, at)

entries_right : (m d : ℕ) (es : List Entry) (c : Call) → Each EntryTaken es → Walks (numbers_code m d es) c (returns (listed c m d es))
unfolding numbers_code listed
entries_right m d [] c g s at = run_return [] s c d
entries_right m d (e ∷ es) c g s at =
    rw append_assoc (entry_right m d e (numbers_code m d es) c g.0 (entries_right m d es c g.1) s at ∙ simp cond_returns)

-- without entries it does not matter what was loaded
none_right : (m d : ℕ) (es : List Entry) (c : Call) (s : State) → length es ≡ 0 → run 0 (numbers_code m d es) s c ≡ returns (listed c m d es)
unfolding numbers_code listed
none_right m d [] c s e = run_return [] s c d
none_right m d (x ∷ es) c s e = absurd (omega arith)

pub right : Right
unfolding emitted
right rs taken c =
    headed_right rs (numbers_code rs.on_match rs.mismatch rs.entries) c
    (entries_right rs.on_match rs.mismatch rs.entries c (each_index rs taken) (set_a c.number start) refl)
    (none_right rs.on_match rs.mismatch rs.entries c (set_a c.architecture start))
