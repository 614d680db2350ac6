-- `key_again` meets its contract: the numbers that it compares with are those of the key that was there.
use mathlib.Core.Path.{◌∙◌}
use native.Mathlib.Omega.{arith}
use Rattle.json_condition.proofs.Words as words
use Rattle.definitions.specs.Json.{ascii}
use Rattle.definitions.specs.Word.{number_at, number_of}
use Rattle.json_condition.proofs.key_again.Goals as goal

pub returns-in-327680 : goal.returns-in-327680
unfolding ascii number_at number_of
returns-in-327680 c = λ s p. c.is_word.ensures ∙ words.again_errno _ s _ p c.in-327680.is

pub returns-in-2146435072 : goal.returns-in-2146435072
unfolding ascii number_at number_of
returns-in-2146435072 c = λ s p. c.is_word-in-2146435072.ensures ∙ words.again_trace _ s _ p (λ e. omega (arith, c.in-2146435072.is)) c.in-2146435072.is

pub returns-in_default : goal.returns-in_default
unfolding ascii number_at number_of
returns-in_default c = λ s p. c.is_word-in_default.ensures ∙ words.again_masked _ s _ p (λ e. omega arith) (λ e. omega arith)
