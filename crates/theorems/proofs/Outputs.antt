-- What holds of the answers in both forms of output: they are made by one definition.
use mathlib.Core.Path.{◌≡◌, refl, ◌∙◌}
use mathlib.Core.List.{List}
use Prim.Native.Nat.{ℕ}
use Rattle.definitions.specs.declared.Answer.{Answer}
use Rattle.definitions.specs.RuleSet.{RuleSet}
use Rattle.definitions.specs.Format.{read}
use Rattle.definitions.specs.Answer.{answer_by, answer_of, search_answer_of}
use Rattle.theorems.specs.Outputs.{Output, list, search, size_in, long_in, answer_in}
use Rattle.theorems.proofs.Answers.{Compiles, compiles_by}

pub answer_in_lem : (o : Output) (set : List ℕ) (room : ℕ) → answer_in o set room ≡ answer_by (size_in o) (long_in o) (read set) room
unfolding answer_of search_answer_of
answer_in_lem list set room = refl
answer_in_lem search set room = refl

pub compiles_in : (o : Output) (set : List ℕ) (room : ℕ) (r : Answer) → r ≡ answer_in o set room → r.code ≡ 0 → (rs : RuleSet) × Compiles (size_in o) set room r rs
compiles_in o set room r p z = compiles_by (size_in o) (long_in o) set room r (p ∙ answer_in_lem o set room) z
