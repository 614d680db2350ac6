use mathlib.Core.Path.{sym, ◌∙◌}
use Rattle.definitions.specs.Word.{number_at, number_of}
use Rattle.definitions.specs.Json.{ascii}
use Rattle.json_theorems.proofs.Tests.{false_not_true}
use Rattle.json_parts.proofs.filter_field.Goals as goal
use Rattle.json_parts.proofs.filter_field.Goals.{then-is_word, else-is_word, then-is_word-3, else-is_word-3}

pub returns-then-is_word-2 : goal.returns-then-is_word-2
unfolding number_at number_of ascii
returns-then-is_word-2 c = elim c.if-is_word.branch [ then-is_word w ↦ rw (sym c.is_word.ensures ∙ w.if-is_word.true) | else-is_word w ↦ rw (sym c.is_word.ensures ∙ w.if-is_word.false, sym w.is_word-else-is_word.ensures ∙ sym w.value-is ∙ c.if-is_word-2.true) ]

pub returns-then-is_word-4 : goal.returns-then-is_word-4
unfolding number_at number_of ascii
returns-then-is_word-4 c =
    elim c.if-is_word.branch [
      | then-is_word w ↦ absurd (false_not_true (sym c.if-is_word-2.false ∙ w.value-is ∙ w.if-is_word.true))
      | else-is_word w ↦ elim c.if-is_word-3.branch [ then-is_word-3 v ↦ rw (sym c.is_word.ensures ∙ w.if-is_word.false, sym w.is_word-else-is_word.ensures ∙ sym w.value-is ∙ c.if-is_word-2.false, sym c.is_word-else-is_word-2.ensures ∙ v.if-is_word-3.true) | else-is_word-3 v ↦ rw (sym c.is_word.ensures ∙ w.if-is_word.false, sym w.is_word-else-is_word.ensures ∙ sym w.value-is ∙ c.if-is_word-2.false, sym c.is_word-else-is_word-2.ensures ∙ v.if-is_word-3.false, sym v.is_word-else-is_word-3.ensures ∙ sym v.value-is ∙ c.if-is_word-4.true) ]
    ]

pub returns-then-is_word-5 : goal.returns-then-is_word-5
unfolding number_at number_of ascii
returns-then-is_word-5 c =
    elim c.if-is_word.branch [
      | then-is_word w ↦ absurd (false_not_true (sym c.if-is_word-2.false ∙ w.value-is ∙ w.if-is_word.true))
      | else-is_word w ↦ elim c.if-is_word-3.branch [ then-is_word-3 v ↦ absurd (false_not_true (sym c.if-is_word-4.false ∙ v.value-is ∙ v.if-is_word-3.true)) | else-is_word-3 v ↦ rw (sym c.is_word.ensures ∙ w.if-is_word.false, sym w.is_word-else-is_word.ensures ∙ sym w.value-is ∙ c.if-is_word-2.false, sym c.is_word-else-is_word-2.ensures ∙ v.if-is_word-3.false, sym v.is_word-else-is_word-3.ensures ∙ sym v.value-is ∙ c.if-is_word-4.false, sym c.is_word-else-is_word-4.ensures ∙ c.if-is_word-5.true) ]
    ]

pub returns-else-is_word-5 : goal.returns-else-is_word-5
unfolding number_at number_of ascii
returns-else-is_word-5 c =
    elim c.if-is_word.branch [
      | then-is_word w ↦ absurd (false_not_true (sym c.if-is_word-2.false ∙ w.value-is ∙ w.if-is_word.true))
      | else-is_word w ↦ elim c.if-is_word-3.branch [ then-is_word-3 v ↦ absurd (false_not_true (sym c.if-is_word-4.false ∙ v.value-is ∙ v.if-is_word-3.true)) | else-is_word-3 v ↦ rw (sym c.is_word.ensures ∙ w.if-is_word.false, sym w.is_word-else-is_word.ensures ∙ sym w.value-is ∙ c.if-is_word-2.false, sym c.is_word-else-is_word-2.ensures ∙ v.if-is_word-3.false, sym v.is_word-else-is_word-3.ensures ∙ sym v.value-is ∙ c.if-is_word-4.false, sym c.is_word-else-is_word-4.ensures ∙ c.if-is_word-5.false) ]
    ]
