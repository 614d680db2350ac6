-- Examples of NamedSets, by computation: two named sets, of names of two bytes and of none, with three bytes and one in the place of the sets,
-- which nothing here looks into.
use mathlib.Core.Path.{◌≡◌, refl}
use mathlib.Core.List.{List, [], ◌∷◌, ◌++◌}
use Prim.Native.Nat.{ℕ}
use lib.ListN.{take}
use Rattle.definitions.specs.Word.{number_of, number_at}
use Rattle.definitions.specs.JsonForm.{same}
use Rattle.definitions.specs.NamedSets.{no_set, set_there, stands_at, next_set, is_other, find_from, find_set}

abbrev two : List ℕ
two = (2 ∷ 0 ∷ 0 ∷ 0 ∷ 3 ∷ 0 ∷ 0 ∷ 0 ∷ 0x61 ∷ 0x62 ∷ 7 ∷ 8 ∷ 9 ∷ []) ++ (0 ∷ 0 ∷ 0 ∷ 0 ∷ 1 ∷ 0 ∷ 0 ∷ 0 ∷ 5 ∷ [])

walked : (next_set two 0 ≡ set_there 0 2 3) × (next_set two 13 ≡ set_there 13 0 1) × (next_set two 22 ≡ no_set 2)
unfolding next_set stands_at number_at number_of
walked = (refl, refl, refl)

-- a name that is not there whole, a set that is not, too few bytes for the lengths, a place behind the end
refused : (next_set two 1 ≡ no_set 1) × (next_set (take 12 two) 0 ≡ no_set 1) × (next_set two 15 ≡ no_set 1) × (next_set two 23 ≡ no_set 1)
unfolding next_set stands_at number_at number_of
refused = (refl, refl, refl, refl)

found : (find_set two (0x61 ∷ 0x62 ∷ []) ≡ set_there 0 2 3) × (find_set two [] ≡ set_there 13 0 1) × (find_set two (0x61 ∷ []) ≡ no_set 2)
unfolding find_set find_from is_other same next_set stands_at number_at number_of
found = (refl, refl, refl)

-- with a byte too many behind them what stands in front of it is found, and that there is no other set is not said
cut : (find_set (two ++ (1 ∷ [])) [] ≡ set_there 13 0 1) × (find_set (two ++ (1 ∷ [])) (0x61 ∷ []) ≡ no_set 1)
unfolding find_set find_from is_other same next_set stands_at number_at number_of
cut = (refl, refl)
