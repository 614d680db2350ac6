-- A comparison as the code names it: its kind in the form, and the code of its instruction.
use Rattle.std.specs.Prelude.{ℕ}
use Rattle.definitions.specs.SearchForm.{equal, at_least, above}
use Rattle.definitions.specs.SearchForm as form
use Rattle.search_writer.specs.declared.Comparison.{Comparison}
use Rattle.search_writer.specs.declared.Comparison.TheVariants.{Equal, AtLeast, Above}

abbrev pub kind_of : Comparison → form.Comparison
kind_of Equal = equal
kind_of AtLeast = at_least
kind_of Above = above

abbrev pub code_of : Comparison → ℕ
code_of Equal = 0x15
code_of AtLeast = 0x35
code_of Above = 0x25
