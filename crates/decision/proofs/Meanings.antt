-- Laws of what a rule set means: an argument's place, and conditions, rules and entries one after the other.
use mathlib.Core.Path.{◌≡◌, refl}
use mathlib.Core.Bool.{true, false, cond, ◌&&◌}
use mathlib.Core.List.{List, [], ◌∷◌}
use Rattle.std.specs.List.{list_all, list_any}
use mathlib.Core.Option.{Option, none, some}
use Prim.Native.Nat.{ℕ, zero, suc, ◌+◌, ◌*◌, ◌≤◌, ◌<◌}
use native.Mathlib.Omega.{arith}
use lib.ListN.{length}
use borrow.Author.Tests.{eq-eqb, ne_eqb}
use Rattle.definitions.specs.Word.{number_at}
use Rattle.definitions.specs.Machine.{Call, call_of}
use Rattle.definitions.specs.RuleSet.{RuleSet, Rule, Entry, architecture_word, in_second_table, guarded, kill_process, argument, holds, all_hold, any_holds, matches, listed, meaning}
use Rattle.definitions.specs.Format.{read}
use Rattle.definitions.specs.Answer.{refusal}
use Rattle.definitions.specs.Outcome.{decided, decided_read, decided_of}
use Rattle.theorems.proofs.Answers.{none_refused}
use Rattle.judge.specs.declared.Judged.{Judged}
use Rattle.judge.specs.Walk.{judged}
use Rattle.set_view.specs.Names.{guards_by, named_architecture}
use Rattle.set_view.specs.Parts.{Readable, set_here}
use Rattle.set_view.proofs.Agree.{read_agrees, readable}

-- ---- an argument

pub argument_at : (i : ℕ) (call : List ℕ) → i ≤ 5 → argument i (call_of call) ≡ number_at 8 call (16 + 8 * i)
argument_at zero call h = refl
argument_at (suc zero) call h = refl
argument_at (suc (suc zero)) call h = refl
argument_at (suc (suc (suc zero))) call h = refl
argument_at (suc (suc (suc (suc zero)))) call h = refl
argument_at (suc (suc (suc (suc (suc zero))))) call h = refl
argument_at (suc (suc (suc (suc (suc (suc i)))))) call h = absurd (omega arith)

pub argument_none : (i : ℕ) (call : List ℕ) → 5 < i → argument i (call_of call) ≡ 0
argument_none zero call h = absurd (omega arith)
argument_none (suc zero) call h = absurd (omega arith)
argument_none (suc (suc zero)) call h = absurd (omega arith)
argument_none (suc (suc (suc zero))) call h = absurd (omega arith)
argument_none (suc (suc (suc (suc zero)))) call h = absurd (omega arith)
argument_none (suc (suc (suc (suc (suc zero))))) call h = absurd (omega arith)
argument_none (suc (suc (suc (suc (suc (suc i)))))) call h = refl

module _ (c : Call) where
  -- ---- conditions, rules, entries

  pub all_is : (qs : Rule) → all_hold c qs ≡ list_all (holds c) qs
  unfolding all_hold
  all_is [] = refl
  all_is (q ∷ qs) = rw (all_is qs)

  pub any_is : (rs : List Rule) → any_holds c rs ≡ list_any (all_hold c) rs
  unfolding any_holds
  any_is [] = refl
  any_is (r ∷ rs) = rw (any_is rs)

  pub matches_none : (rs : List Rule) → rs ≡ [] → matches c rs ≡ true
  unfolding matches
  matches_none rs e = rw e

  pub matches_some : (rs : List Rule) → (rs ≡ [] → ⊥) → matches c rs ≡ any_holds c rs
  unfolding matches
  matches_some [] h = absurd (h refl)
  matches_some (r ∷ rs) h = refl

  module _ (m d : ℕ) where
    pub listed_none : (es : List Entry) → es ≡ [] → listed c m d es ≡ d
    unfolding listed
    listed_none es e = rw e

    pub listed_here : (es rest : List Entry) (number : ℕ) (rs : List Rule) → es ≡ record { number = number; rules = rs } ∷ rest → c.number ≡ number
        → listed c m d es ≡ cond (matches c rs) m d
    unfolding listed
    listed_here es rest number rs e f = rw (e, eq-eqb c.number number f)

    pub listed_behind : (es rest : List Entry) (number : ℕ) (rs : List Rule) → es ≡ record { number = number; rules = rs } ∷ rest → (c.number ≡ number → ⊥)
        → listed c m d es ≡ listed c m d rest
    unfolding listed
    listed_behind es rest number rs e f = rw (e, ne_eqb c.number number f)

module _ (c : Call) (s : List ℕ) where
  -- ---- the whole

  pub meaning_other : (c.architecture ≡ architecture_word (named_architecture (number_at 4 s 0)) → ⊥) → meaning (set_here s) c ≡ kill_process
  unfolding meaning set_here
  meaning_other h = rw (ne_eqb _ _ h)

  pub meaning_killed : c.architecture ≡ architecture_word (named_architecture (number_at 4 s 0)) → (guards_by (number_at 4 s 0) && in_second_table c.number) ≡ true
      → meaning (set_here s) c ≡ kill_process
  unfolding meaning set_here guarded guards_by
  meaning_killed e k = rw (eq-eqb _ _ e, k)

  pub meaning_own : c.architecture ≡ architecture_word (named_architecture (number_at 4 s 0)) → (guards_by (number_at 4 s 0) && in_second_table c.number) ≡ false
      → meaning (set_here s) c ≡ listed c (number_at 4 s 8) (number_at 4 s 4) (set_here s).entries
  unfolding meaning set_here guarded guards_by
  meaning_own e k = rw (eq-eqb _ _ e, k)

-- ---- what is decided, by what is said of the set

refused_by_lem : (x : Option RuleSet) (c : Call) → ((judged x).fault.code ≡ 0 → ⊥) → decided_read x c ≡ decided (judged x).fault 0
unfolding judged
refused_by_lem none c h = refl
refused_by_lem (some rs) c h = rw (ne_eqb (refusal rs).code 0 h)

pub decided_refused : (set call : List ℕ) (j : Judged) → length call ≡ 64 → j ≡ judged (read set) → (j.fault.code ≡ 0 → ⊥)
    → decided_of set call ≡ decided j.fault 0
unfolding decided_of
decided_refused set call j size e h = rw (eq-eqb (length call) 64 size, e) (refused_by_lem (read set) (call_of call) (rw e at h))

-- a set in which nothing is refused: what it means is decided
decides_by : (set : List ℕ) (x : Option RuleSet) (c : Call) → read set ≡ x → (judged x).fault.code ≡ 0
    → Readable set × (decided_read x c ≡ decided (judged x).fault (meaning (set_here set) c))
unfolding judged
decides_by set none c e z = absurd (omega arith)
decides_by set (some rs) c e z = (readable set rs e, rw (← (read_agrees set rs e).0, none_refused rs z))

pub decides : (set call : List ℕ) (j : Judged) → length call ≡ 64 → j ≡ judged (read set) → j.fault.code ≡ 0
    → Readable set × (decided_of set call ≡ decided j.fault (meaning (set_here set) (call_of call)))
unfolding decided_of
decides set call j size e z =
    let w = decides_by set (read set) (call_of call) refl (rw e at z) in
    (w.0, rw (eq-eqb (length call) 64 size, e) w.1)
