-- What the writers put into a buffer, from numbers.
use Rattle.std.specs.Prelude.{ℕ, List, [], ◌∷◌, ◌++◌}
use Rattle.definitions.specs.Word.{bytes_of}

-- the head of a set with no entries
unfoldable pub head_bytes : ℕ → ℕ → ℕ → List ℕ
head_bytes a d m = bytes_of 4 a ++ (bytes_of 4 d ++ (bytes_of 4 m ++ bytes_of 4 0))

-- a condition's bytes, from its numbers
abbrev pub names_bytes : ℕ → ℕ → ℕ → List ℕ
names_bytes index width operator = index ∷ width ∷ operator ∷ 0 ∷ 0 ∷ 0 ∷ 0 ∷ 0 ∷ []

unfoldable pub condition_bytes : ℕ → ℕ → ℕ → ℕ → ℕ → List ℕ
condition_bytes index width operator value mask = names_bytes index width operator ++ (bytes_of 8 value ++ bytes_of 8 mask)
