-- What the fields of a condition make, and what its reader makes of that.
use mathlib.Core.Path.{◌≡◌, refl, ap, sym, ◌∙◌}
use mathlib.Core.Bool.{true, false}
use mathlib.Core.List.{List, ◌∷◌}
use mathlib.Core.Option.{Option, none, some}
use Prim.Native.Nat.{ℕ, ◌-◌}
use native.Mathlib.Omega.{arith}
use lib.ListN.{drop}
use Rattle.std.specs.Prelude as code
use Rattle.definitions.specs.declared.Condition.{Condition}
use Rattle.definitions.specs.declared.Width.{Width}
use Rattle.definitions.specs.Answer.{fits_width}
use Rattle.definitions.specs.Format.{then}
use Rattle.definitions.specs.CallNames.{Slot}
use Rattle.definitions.specs.JsonForm.{Compared}
use Rattle.definitions.specs.JsonReader.{got, stop}
use Rattle.definitions.specs.FormReader.{is_some, not_of_form, too_wide, judged, keyed_there, value_of, as_index, as_width, as_operator, as_value, as_comment, condition_from, condition_there, judges_of}
use Rattle.json_condition.specs.declared.Comparison.{Comparison}
use Rattle.json_condition.specs.declared.Gathered.{Gathered}
use Rattle.json_condition.specs.Conditions.{comparison_of}
use Rattle.json_condition.specs.Gathering.{Parts, Kept, Ended, compared_by, condition_object}
use Rattle.json_condition.proofs.Reading.{Faulty}
use Rattle.json_condition.proofs.Words.{there_is, there_is_none}

-- ---- what the fields make

abbrev from_fields : Option ℕ → Option Width → Option Compared → Option ℕ → Option (Option (List ℕ)) → Option Condition
from_fields a b c d e =
    then a (λ i. then b (λ w. then c (λ o. then d (λ x. then e (λ n. some (record { index = i; width = w; operator = o.operator; value = x; mask = o.mask }))))))

abbrev pub whole_of : Parts → Option Condition
whole_of ts = condition_from (λ f. some (value_of f ts))

compared_is : (o : Option Compared) (c : Comparison) → code.Some c ≡ compared_by o → o ≡ some (record { operator = c.operator; mask = c.mask })
compared_is none c e = cc
compared_is (some o) c e = let h : c ≡ comparison_of o = cc in rw h

compared_none : (o : Option Compared) → code.None ≡ compared_by o → o ≡ none
compared_none none e = refl
compared_none (some o) e = cc

remarked : (o : Option (Option (List ℕ))) (q : Condition) → is_some o ≡ true → then o (λ c. some q) ≡ some q
remarked none q e = cc
remarked (some c) q e = refl

module _ (g : Gathered) (ts : Parts) (k : Kept ts g) where
  pub kept_whole : (i : ℕ) (w : Width) (o : Comparison) (x : ℕ) → g.index ≡ code.Some i → g.width ≡ code.Some w → g.comparison ≡ code.Some o → g.value ≡ code.Some x
      → whole_of ts ≡ some (record { index = i; width = w; operator = o.operator; value = x; mask = o.mask })
  kept_whole i w o x a b c d =
      rw (there_is _ i (sym a ∙ k.index), there_is _ w (sym b ∙ k.width), compared_is _ o (sym c ∙ k.comparison), there_is _ x (sym d ∙ k.value)) (remarked (as_comment (value_of 4 ts)) _ k.comment)

  pub no_index : g.index ≡ code.None → whole_of ts ≡ none
  no_index a = rw (there_is_none _ (sym a ∙ k.index))

  pub no_width : g.width ≡ code.None → whole_of ts ≡ none
  no_width a = rw (there_is_none _ (sym a ∙ k.width)) (go (as_index (value_of 0 ts)))
    where
      go : (i : Option ℕ) → from_fields i none (as_operator (value_of 2 ts)) (as_value (value_of 3 ts)) (as_comment (value_of 4 ts)) ≡ none
      go none = refl
      go (some i) = refl

  pub no_comparison : g.comparison ≡ code.None → whole_of ts ≡ none
  no_comparison a = rw (compared_none _ (sym a ∙ k.comparison)) (go (as_index (value_of 0 ts)) (as_width (value_of 1 ts)))
    where
      go : (i : Option ℕ) (w : Option Width) → from_fields i w none (as_value (value_of 3 ts)) (as_comment (value_of 4 ts)) ≡ none
      go none w = refl
      go (some i) none = refl
      go (some i) (some w) = refl

  pub no_value : g.value ≡ code.None → whole_of ts ≡ none
  no_value a = rw (there_is_none _ (sym a ∙ k.value)) (go (as_index (value_of 0 ts)) (as_width (value_of 1 ts)) (as_operator (value_of 2 ts)))
    where
      go : (i : Option ℕ) (w : Option Width) (o : Option Compared) → from_fields i w o none (as_comment (value_of 4 ts)) ≡ none
      go none w o = refl
      go (some i) none o = refl
      go (some i) (some w) none = refl
      go (some i) (some w) (some o) = refl

-- ---- the condition's reader, of what its object gave

module _ (slots : List Slot) (l : List ℕ) where
  pub object_stops : (k : ℕ) (m : List ℕ) → condition_object slots l ≡ stop k m → condition_there (judges_of slots) l ≡ stop k m
  unfolding condition_there keyed_there judged
  object_stops k m e = rw e

  module _ (ts : Parts) (rest : List ℕ) (same : condition_object slots l ≡ got ts rest) where
    pub object_missing : whole_of ts ≡ none → condition_there (judges_of slots) l ≡ stop not_of_form (0x7d ∷ rest)
    unfolding condition_there keyed_there judged
    object_missing e = rw (same, e)

    pub object_wide : (q : Condition) → whole_of ts ≡ some q → fits_width q ≡ false → condition_there (judges_of slots) l ≡ stop too_wide l
    unfolding condition_there keyed_there judged
    object_wide q e f = rw (same, e, f)

    pub object_fine : (q : Condition) → whole_of ts ≡ some q → fits_width q ≡ true → condition_there (judges_of slots) l ≡ got q rest
    unfolding condition_there keyed_there judged
    object_fine q e f = rw (same, e, f)

-- a field is missing, which is told at the brace
pub missed : (slots : List Slot) {text : List ℕ} {at end : ℕ} {g : Gathered} (e : Ended text at (condition_object slots (drop at text)) end g) → whole_of e.parts ≡ none
    → Faulty text (condition_there (judges_of slots) (drop at text)) not_of_form (end - 1)
missed slots {text} {at} e m =
    record { same = object_missing slots (drop at text) _ _ e.same m ∙ ap (λ (l : List ℕ). stop not_of_form l) (sym e.brace); fault = omega arith; inside = omega (arith, e.inside) }
