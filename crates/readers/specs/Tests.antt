-- The tests of a condition, from its numbers, in the order of the code.
use Rattle.std.specs.Prelude.{ℕ, Bool, ◌&&◌, ◌||◌, eqb, leb}
use Rattle.definitions.specs.Format.{width_of, is_there}

unfoldable pub condition_good : ℕ → ℕ → ℕ → Bool
condition_good width operator mask = is_there (width_of width) && (leb operator 6 && (eqb operator 5 || eqb mask 0))
