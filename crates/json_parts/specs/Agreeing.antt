-- How far a text agrees with a word. Needs no belief.
use Rattle.std.specs.Prelude.{ℕ, suc, cond, List, [], ◌∷◌, eqb, drop}
use Rattle.definitions.specs.JsonReader.{first}

-- how many of the word's bytes stand here
unfoldable pub agree : List ℕ → List ℕ → ℕ
agree [] l = 0
agree (a ∷ word) l = let more : ℕ = suc (agree word (drop 1 l)) in cond (eqb (first l) a) more 0
