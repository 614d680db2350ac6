use mathlib.Core.Path.{sym, ◌∙◌}
use Rattle.definitions.specs.Word.{number_at, number_of}
use Rattle.definitions.specs.Json.{ascii}
use Rattle.json_parts.proofs.line_field.Goals as goal

pub returns-then-is_word : goal.returns-then-is_word
unfolding number_at number_of ascii
returns-then-is_word c = rw (sym c.is_word.ensures ∙ c.if-is_word.true)

pub returns-then-is_word-2 : goal.returns-then-is_word-2
unfolding number_at number_of ascii
returns-then-is_word-2 c = rw (sym c.is_word.ensures ∙ c.if-is_word.false, sym c.is_word-else-is_word.ensures ∙ c.if-is_word-2.true)

pub returns-then-is_word-3 : goal.returns-then-is_word-3
unfolding number_at number_of ascii
returns-then-is_word-3 c = rw (sym c.is_word.ensures ∙ c.if-is_word.false, sym c.is_word-else-is_word.ensures ∙ c.if-is_word-2.false, sym c.is_word-else-is_word-2.ensures ∙ c.if-is_word-3.true)

pub returns-else-is_word-3 : goal.returns-else-is_word-3
unfolding number_at number_of ascii
returns-else-is_word-3 c = rw (sym c.is_word.ensures ∙ c.if-is_word.false, sym c.is_word-else-is_word.ensures ∙ c.if-is_word-2.false, sym c.is_word-else-is_word-2.ensures ∙ c.if-is_word-3.false)
