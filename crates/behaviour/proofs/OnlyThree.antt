-- ONLY THREE: a call gets the match action, the mismatch action, or kill process.
use mathlib.Core.Path.{◌≡◌, refl}
use mathlib.Core.Bool.{Bool, true, false, cond, ◌&&◌, ◌||◌, or-true}
use mathlib.Core.List.{List, [], ◌∷◌}
use lib.Dec.{eqb}
use borrow.Author.Tests.{eq-eqb}
use Rattle.definitions.specs.Machine.{Call}
use Rattle.definitions.specs.RuleSet.{Entry, RuleSet, architecture_word, kill_process, in_second_table, guarded, one_of, matches, listed, meaning}
use Rattle.behaviour.specs.Statements.{three, OnlyThree, OnlyThreeBytes}
use Rattle.behaviour.proofs.Outputs.{does}

module _ (rs : RuleSet) where
  matching : one_of (three rs) rs.on_match ≡ true
  unfolding one_of
  matching = rw (eq-eqb rs.on_match rs.on_match refl)

  mismatching : one_of (three rs) rs.mismatch ≡ true
  unfolding one_of
  mismatching = rw (eq-eqb rs.mismatch rs.mismatch refl) (or-true (eqb rs.mismatch rs.on_match))

  killing : one_of (three rs) kill_process ≡ true
  unfolding one_of
  killing = go (eqb kill_process rs.on_match) (eqb kill_process rs.mismatch)
    where
      go : (a b : Bool) → (a || (b || true)) ≡ true
      go true b = refl
      go false b = or-true b

  listed_three : (c : Call) (es : List Entry) → one_of (three rs) (listed c rs.on_match rs.mismatch es) ≡ true
  unfolding listed
  listed_three c [] = mismatching
  listed_three c (e ∷ es) = go (eqb c.number e.number) (matches c e.rules) (listed_three c es)
    where
      go : (own match : Bool) → one_of (three rs) (listed c rs.on_match rs.mismatch es) ≡ true
          → one_of (three rs) (cond own (cond match rs.on_match rs.mismatch) (listed c rs.on_match rs.mismatch es)) ≡ true
      go true true h = matching
      go true false h = mismatching
      go false match h = h

pub only_three : OnlyThree
unfolding meaning
only_three rs c = go (eqb c.architecture (architecture_word rs.architecture)) (guarded rs && in_second_table c.number)
  where
    go : (own killed : Bool) → one_of (three rs) (cond own (cond killed kill_process (listed c rs.on_match rs.mismatch rs.entries)) kill_process) ≡ true
    go true true = killing rs
    go true false = listed_three rs c rs.entries
    go false killed = killing rs

pub only_three_bytes : OnlyThreeBytes
only_three_bytes rs f k c = (meaning rs c, does rs f k c, only_three rs c)
