-- `key_known` meets its contract: the numbers that it compares with are those of the keys.
use mathlib.Core.Path.{sym, ◌∙◌}
use Rattle.json_condition.proofs.Words as words
use Rattle.definitions.specs.Json.{ascii}
use Rattle.definitions.specs.Word.{number_at, number_of}
use Rattle.json_condition.proofs.key_known.Goals as goal

pub returns-then-is_word : goal.returns-then-is_word
unfolding ascii number_at number_of
returns-then-is_word c = λ s p. rw c.if-masked.true (rw (sym c.is_word.ensures ∙ c.if-is_word.true) at (words.masked_chosen s _ p))

pub returns-else-is_word : goal.returns-else-is_word
unfolding ascii number_at number_of
returns-else-is_word c = λ s p. rw c.if-masked.true (rw (sym c.is_word.ensures ∙ c.if-is_word.false) at (words.masked_chosen s _ p))

pub returns-then-is_word-2 : goal.returns-then-is_word-2
unfolding ascii number_at number_of
returns-then-is_word-2 c = λ s p. rw c.if-masked.false (rw (sym c.is_word-else-masked.ensures ∙ c.if-is_word-2.true) at (words.numbered_chosen s _ p))

pub returns-then-is_word-3 : goal.returns-then-is_word-3
unfolding ascii number_at number_of
returns-then-is_word-3 c = λ s p. rw c.if-masked.false (rw (sym c.is_word-else-masked.ensures ∙ c.if-is_word-2.false, sym c.is_word-else-is_word-2.ensures ∙ c.if-is_word-3.true) at (words.numbered_chosen s _ p))

pub returns-else-is_word-3 : goal.returns-else-is_word-3
unfolding ascii number_at number_of
returns-else-is_word-3 c = λ s p. rw c.if-masked.false (rw (sym c.is_word-else-masked.ensures ∙ c.if-is_word-2.false, sym c.is_word-else-is_word-2.ensures ∙ c.if-is_word-3.false) at (words.numbered_chosen s _ p))
