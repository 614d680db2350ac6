-- Named filters as the code reads them, one step at a time, and what stands in scratch then. Needs no belief: `Turns` in proofs says that the
-- reader is made of these steps.
use Rattle.std.specs.Prelude.{ℕ, ◌+◌, ◌≤◌, ◌<◌, ◌≡◌, Bool, cond, not, List, [], ◌∷◌, ◌++◌, length, take, drop}
use Rattle.std.proofs.Math.Option.{some}
use Rattle.definitions.specs.RuleSet.{Architecture, RuleSet}
use Rattle.definitions.specs.Word.{bytes_of}
use Rattle.definitions.specs.Format.{check, joined, encode, architecture_of, native_of}
use Rattle.definitions.specs.JsonForm.{Filter, named}
use Rattle.definitions.specs.CallNames.{Slot}
use Rattle.definitions.specs.Collected.{NamedSet, encode_named, now, set_of, sets_of}
use Rattle.definitions.specs.JsonReader.{Got, got, stop, follow, blanks, fields}
use Rattle.definitions.specs.FormReader.{Judges, given_twice, behind_key, put_in, filter_there}
use Rattle.json_theorems.specs.Turns.{key_string, colon_there, Turned, turned_there}
use Rattle.json_filters.specs.Filters.{Behind}

-- ---- one turn of the reader

-- a name that none of the filters has
unfoldable pub new_name : List Filter → List ℕ → Got (List ℕ)
new_name fs l = follow (key_string (blanks l)) (λ k past. cond (named k fs) (stop given_twice (blanks l)) (got k past))

-- the filter behind its name
unfoldable pub filter_behind : Judges → List ℕ → List ℕ → Got Filter
filter_behind j name l = follow (colon_there l) (λ z behind. filter_there j name behind)

unfoldable pub filter_turn : Judges → List Filter → List ℕ → Got (Turned (List Filter))
filter_turn j fs l = follow (new_name fs l) (λ k past. follow (filter_behind j k past) (λ f rest. turned_there 0x7d (fs ++ (f ∷ [])) rest))

-- the turns, n of them at most
abbrev pub filter_turns : Judges → ℕ → List Filter → List ℕ → Got (List Filter)
filter_turns j =
    fields (λ fs k. cond (named k fs) given_twice 0)
    (λ fs k. behind_key (check (not (named k fs)) (some (put_in (λ f. fs ++ (f ∷ [])) (filter_there j k)))))

-- ---- what stands in scratch

-- the sets of the filters that were read
pub record Written (slots : List Slot) (architecture : ℕ) (fs : List Filter) (count : ℕ) (bytes : List ℕ) : Type 0 where
  pub known : Architecture
  pub is_known : architecture_of architecture ≡ some known
  pub sets : List NamedSet
  pub made : sets_of now.join slots known (native_of architecture) fs ≡ some sets
  pub many : count ≡ length sets
  pub spelled : bytes ≡ joined encode_named sets

-- a name behind them, with room for two lengths between
pub record NamePut (before after : List ℕ) (end count : ℕ) (k : List ℕ) : Type 0 where
  pub behind : Behind (end + 8) before after k (end + 8 + count)

-- a name that was read from a place up to another
pub record NameRead (before after : List ℕ) (at end count place : ℕ) (k : List ℕ) : Type 0 where
  pub put : NamePut before after end count k
  pub size : at + count + 2 ≤ place

-- behind them the set of a filter whose name stood there: both lengths, the name, the set
pub record Added (slots : List Slot) (architecture end count : ℕ) (before after : List ℕ) (place at : ℕ) (f : Filter) : Type 0 where
  pub known : Architecture
  pub is_known : architecture_of architecture ≡ some known
  pub set : RuleSet
  pub made : set_of now.join slots known (native_of architecture) f ≡ some set
  pub spelled : take place after ≡ take end before ++ (bytes_of 4 count ++ (bytes_of 4 (length (encode set)) ++ (take count (drop (end + 8) before) ++ encode set)))
  pub spot : place ≡ end + 8 + count + length (encode set)
  pub short : place ≤ at

-- a turn was made: one more set stands there, up to a place in scratch that is less than the one in the text
pub record Made (slots : List Slot) (architecture count end spot place : ℕ) (after : List ℕ) (more : Bool) (u : Turned (List Filter)) : Type 0 where
  pub same_more : more ≡ u.more
  pub written : Written slots architecture u.gathered (count + 1) (take spot after)
  pub longer : end + 8 ≤ spot
  pub less : spot < place

-- all turns were made
pub record AllMade (slots : List Slot) (architecture count end place : ℕ) (after : List ℕ) (fs : List Filter) : Type 0 where
  pub written : Written slots architecture fs count (take end after)
  pub few : count ≤ end
  pub less : end < place
