-- Filters that were compiled, as theorems speak of them: of one, and of two, each in whichever form.
use Rattle.std.specs.Prelude.{ℕ, ◌≡◌, List}
use Rattle.definitions.specs.declared.Answer.{Answer}
use Rattle.definitions.specs.RuleSet.{RuleSet}
use Rattle.definitions.specs.Compiled.{FormOf, filter_in}
use Rattle.theorems.specs.Outputs.{Output, Promised}

-- these bytes are what a compilation of the rule set wrote, whatever its form, and whatever stood in the buffer
pub record FilterOf (rs : RuleSet) (filter : List ℕ) : Type 0 where
  pub output : Output
  pub set : List ℕ
  pub before : List ℕ
  pub after : List ℕ
  pub answer : Answer
  pub form : FormOf rs set
  pub promised : Promised output set before after answer
  pub compiled : answer.code ≡ 0
  pub is : filter ≡ filter_in answer after
