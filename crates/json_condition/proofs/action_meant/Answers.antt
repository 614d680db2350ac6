-- `action_meant` meets its contract: the numbers that it compares with are those of the words.
use mathlib.Core.Path.{sym, ◌∙◌}
use Rattle.json_condition.proofs.Words as words
use Rattle.definitions.specs.Json.{ascii}
use Rattle.definitions.specs.Word.{number_at, number_of}
use Rattle.json_condition.proofs.action_meant.Goals as goal

pub returns-then-is_word : goal.returns-then-is_word
unfolding ascii number_at number_of
returns-then-is_word c = λ s p. rw (sym c.is_word.ensures ∙ c.if-is_word.true) at (words.action_chosen s _ p)

pub returns-then-is_word-2 : goal.returns-then-is_word-2
unfolding ascii number_at number_of
returns-then-is_word-2 c = λ s p. rw (sym c.is_word.ensures ∙ c.if-is_word.false, sym c.is_word-else-is_word.ensures ∙ c.if-is_word-2.true) at (words.action_chosen s _ p)

pub returns-then-is_word-3 : goal.returns-then-is_word-3
unfolding ascii number_at number_of
returns-then-is_word-3 c = λ s p. rw (sym c.is_word.ensures ∙ c.if-is_word.false, sym c.is_word-else-is_word.ensures ∙ c.if-is_word-2.false, sym c.is_word-else-is_word-2.ensures ∙ c.if-is_word-3.true) at (words.action_chosen s _ p)

pub returns-then-is_word-4 : goal.returns-then-is_word-4
unfolding ascii number_at number_of
returns-then-is_word-4 c = λ s p. rw (sym c.is_word.ensures ∙ c.if-is_word.false, sym c.is_word-else-is_word.ensures ∙ c.if-is_word-2.false, sym c.is_word-else-is_word-2.ensures ∙ c.if-is_word-3.false, sym c.is_word-else-is_word-3.ensures ∙ c.if-is_word-4.true) at (words.action_chosen s _ p)

pub returns-then-is_word-5 : goal.returns-then-is_word-5
unfolding ascii number_at number_of
returns-then-is_word-5 c = λ s p. rw (sym c.is_word.ensures ∙ c.if-is_word.false, sym c.is_word-else-is_word.ensures ∙ c.if-is_word-2.false, sym c.is_word-else-is_word-2.ensures ∙ c.if-is_word-3.false, sym c.is_word-else-is_word-3.ensures ∙ c.if-is_word-4.false, sym c.is_word-else-is_word-4.ensures ∙ c.if-is_word-5.true) at (words.action_chosen s _ p)

pub returns-then-is_word-6 : goal.returns-then-is_word-6
unfolding ascii number_at number_of
returns-then-is_word-6 c = λ s p. rw (sym c.is_word.ensures ∙ c.if-is_word.false, sym c.is_word-else-is_word.ensures ∙ c.if-is_word-2.false, sym c.is_word-else-is_word-2.ensures ∙ c.if-is_word-3.false, sym c.is_word-else-is_word-3.ensures ∙ c.if-is_word-4.false, sym c.is_word-else-is_word-4.ensures ∙ c.if-is_word-5.false, sym c.is_word-else-is_word-5.ensures ∙ c.if-is_word-6.true) at (words.action_chosen s _ p)

pub returns-else-is_word-6 : goal.returns-else-is_word-6
unfolding ascii number_at number_of
returns-else-is_word-6 c = λ s p. rw (sym c.is_word.ensures ∙ c.if-is_word.false, sym c.is_word-else-is_word.ensures ∙ c.if-is_word-2.false, sym c.is_word-else-is_word-2.ensures ∙ c.if-is_word-3.false, sym c.is_word-else-is_word-3.ensures ∙ c.if-is_word-4.false, sym c.is_word-else-is_word-4.ensures ∙ c.if-is_word-5.false, sym c.is_word-else-is_word-5.ensures ∙ c.if-is_word-6.false) at (words.action_chosen s _ p)
