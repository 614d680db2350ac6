-- The code of the rules of the entries that stand at a place of a rule set's bytes, as a total function.
use Rattle.std.specs.Prelude.{ℕ, List}
use Rattle.definitions.specs.declared.Instruction.{Instruction}
use Rattle.definitions.specs.Word.{number_at}
use Rattle.definitions.specs.SearchForm.{bodies}
use Rattle.set_view.specs.Parts.{entries_here}

-- n entries from a place, in the set's own actions
abbrev pub bodies_here : List ℕ → ℕ → ℕ → List Instruction
bodies_here s n at = bodies (number_at 4 s 8) (number_at 4 s 4) (entries_here s n at)
