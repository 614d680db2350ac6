-- The parts of a condition, as the code has them. Needs no belief.
use Rattle.std.specs.Prelude.{ℕ, ◌≡◌}
use Rattle.definitions.specs.JsonForm.{Compared}
use Rattle.definitions.specs.FormReader.{ConditionPart, the_index, the_width, the_operator, the_value, the_comment}
use Rattle.json_condition.specs.declared.Comparison.{Comparison}
use Rattle.json_condition.specs.declared.Part.{Part}
use Rattle.json_condition.specs.declared.Part.TheVariants.{Index, Width, Compares, Value, Comment}

abbrev pub comparison_of : Compared → Comparison
comparison_of o = record { operator = o.operator; mask = o.mask }

-- what a field gives: a comment is only skipped
abbrev pub part_of : ConditionPart → Part
part_of (the_index i) = Index i
part_of (the_width w) = Width w
part_of (the_operator o) = Compares (comparison_of o)
part_of (the_value x) = Value x
part_of (the_comment c) = Comment

-- the field that gives it
abbrev pub field_of_part : ConditionPart → ℕ
field_of_part (the_index i) = 0
field_of_part (the_width w) = 1
field_of_part (the_operator o) = 2
field_of_part (the_value x) = 3
field_of_part (the_comment c) = 4

-- what was read of a field
pub record Holds (part : Part) (field : ℕ) (p : ConditionPart) : Type 0 where
  pub is : part ≡ part_of p
  pub own : field ≡ field_of_part p
