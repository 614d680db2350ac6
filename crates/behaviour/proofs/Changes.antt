-- What is changed in the entries of a rule set carries over to its meaning. T is any relation of the old action to the new one in which
-- every action is to itself: being the same, or staying a match.
use mathlib.Core.Path.{◌≡◌, refl}
use mathlib.Core.Bool.{Bool, true, false, cond, ◌&&◌}
use mathlib.Core.List.{List, [], ◌∷◌, ◌++◌}
use Prim.Native.Nat.{ℕ}
use lib.Dec.{eqb}
use Rattle.definitions.specs.Machine.{Call}
use Rattle.definitions.specs.RuleSet.{Rule, Entry, RuleSet, architecture_word, kill_process, in_second_table, guarded, any_holds, matches, listed, meaning}
use Rattle.behaviour.specs.Changes.{Changed, OneAnother, another, RulesBy}

-- what an entry says of its number: match action m, mismatch action d
abbrev pub says : Call → ℕ → ℕ → List Rule → ℕ
says c m d rs = cond (matches c rs) m d

-- an action stays what it was
abbrev pub Stays : ℕ → ℕ → ℕ → Type 0
Stays x a b = a ≡ x → b ≡ x

pub stays : (x a : ℕ) → Stays x a a
stays x a h = h

-- where there is a rule, a number matches where one does
pub matches_there : (c : Call) (front back : List Rule) (r : Rule) → matches c (front ++ (r ∷ back)) ≡ any_holds c (front ++ (r ∷ back))
unfolding matches
matches_there c [] back r = refl
matches_there c (f ∷ front) back r = refl

module _ (c : Call) (T : ℕ → ℕ → Type 0) (self : (a : ℕ) → T a a) where
  module _ (m d : ℕ) where
    -- the same entries in front
    pub in_front_lem : (before old new : List Entry) → T (listed c m d old) (listed c m d new) → T (listed c m d (before ++ old)) (listed c m d (before ++ new))
    unfolding listed
    in_front_lem [] old new h = h
    in_front_lem (e ∷ before) old new h = go (eqb c.number e.number) (in_front_lem before old new h)
      where
        go : (own : Bool) → T (listed c m d (before ++ old)) (listed c m d (before ++ new))
            → T (cond own (says c m d e.rules) (listed c m d (before ++ old))) (cond own (says c m d e.rules) (listed c m d (before ++ new)))
        go true k = self (says c m d e.rules)
        go false k = k

    -- the same entries behind
    entry_changed : (e f : Entry) (behind : List Entry) → f.number ≡ e.number → T (says c m d e.rules) (says c m d f.rules)
        → T (listed c m d (e ∷ behind)) (listed c m d (f ∷ behind))
    unfolding listed
    entry_changed e f behind same h = rw same (go (eqb c.number e.number))
      where
        go : (own : Bool) → T (cond own (says c m d e.rules) (listed c m d behind)) (cond own (says c m d f.rules) (listed c m d behind))
        go true = h
        go false = self (listed c m d behind)

    pub rules_changed : (R : List Rule → List Rule → Type 0) → ((rs ts : List Rule) → R rs ts → T (says c m d rs) (says c m d ts))
        → (old new : List Entry) → OneAnother (RulesBy R) old new → T (listed c m d old) (listed c m d new)
    rules_changed R one old new (another front back x y r p q) =
        rw (p, q) (in_front_lem front (x ∷ back) (y ∷ back) (entry_changed x y back r.number (one x.rules y.rules r.rules)))

  pub meaning_changed : (R : List Entry → List Entry → Type 0) (old new : RuleSet) → Changed R old new
      → T (listed c old.on_match old.mismatch old.entries) (listed c old.on_match old.mismatch new.entries)
      → T (meaning old c) (meaning new c)
  unfolding meaning guarded
  meaning_changed R old new g h =
      rw (g.architecture, g.native_only, g.mismatch, g.on_match)
      (go (eqb c.architecture (architecture_word old.architecture)) (guarded old && in_second_table c.number))
    where
      go : (own killed : Bool)
          → T (cond own (cond killed kill_process (listed c old.on_match old.mismatch old.entries)) kill_process) (cond own (cond killed kill_process (listed c old.on_match old.mismatch new.entries)) kill_process)
      go true true = self kill_process
      go true false = h
      go false killed = self kill_process
