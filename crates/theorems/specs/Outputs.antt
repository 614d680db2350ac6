-- The two forms of output, so that a theorem can speak of either.
use Rattle.std.specs.Prelude.{ℕ, List, length}
use Rattle.definitions.specs.declared.Instruction.{Instruction}
use Rattle.definitions.specs.declared.Answer.{Answer}
use Rattle.definitions.specs.RuleSet.{RuleSet}
use Rattle.definitions.specs.Emitted.{emitted}
use Rattle.definitions.specs.SearchForm.{search_form}
use Rattle.definitions.specs.Answer.{too_long, turns_long, search_size, answer_of, search_answer_of}
use Rattle.definitions.specs.Compiled.{Compiled, Searched}

pub data Output : Type 0 where
  list search : Output

-- the filter
abbrev pub form_in : Output → RuleSet → List Instruction
form_in list rs = emitted rs
form_in search rs = search_form rs

abbrev pub size_in : Output → RuleSet → ℕ
size_in o rs = length (form_in o rs)

-- the entry that is told where it is too long
abbrev pub long_in : Output → RuleSet → ℕ
long_in list rs = too_long rs
long_in search rs = turns_long search_size rs

-- the answer for a byte string and a buffer of `room` bytes
abbrev pub answer_in : Output → List ℕ → ℕ → Answer
answer_in list set room = answer_of set room
answer_in search set room = search_answer_of set room

-- what compiling promises
abbrev pub Promised : Output → List ℕ → List ℕ → List ℕ → Answer → Type 0
Promised list set before after r = Compiled set before after r
Promised search set before after r = Searched set before after r
