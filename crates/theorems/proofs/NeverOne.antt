-- NEVER ONE: no set that can be read has a fault with that number.
use Rattle.definitions.specs.Answer.{answer}
use Rattle.theorems.specs.Outputs.{size_in, long_in}
use Rattle.theorems.specs.Statements.{NeverOne}
use Rattle.theorems.proofs.Answers.{answered_not_one}
use Rattle.theorems.proofs.Outputs.{answer_in_lem}

pub never_one : NeverOne
unfolding answer
never_one o set rs e room h = answered_not_one (size_in o rs) (long_in o rs) rs room (rw (answer_in_lem o set room, e) at h)
