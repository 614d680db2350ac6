-- `condition_ends` meets its contract: what the fields make, or the fault.
use mathlib.Core.Path.{refl, sym, ◌∙◌}
use native.Mathlib.Omega.{arith}
use Rattle.json_condition.proofs.Reading as reading
use Rattle.json_condition.proofs.Fields as fields
use Rattle.json_condition.proofs.condition_ends.Goals as goal
use Rattle.json_condition.proofs.condition_ends.Goals.{in_default-via-in-Some+in-Some+in-Some+in_default, in_default-via-in-Some+in-Some+in_default, in_default-via-in-Some+in_default, in_default-via-in_default}

pub returns-in_default : goal.returns-in_default
returns-in_default c = λ slots text inside e.
    elim c.in_default.branch [
      | in_default-via-in-Some+in-Some+in-Some+in_default w ↦ reading.tell_fault (fields.missed slots e (fields.no_value _ _ e.kept w.in_default.is-3))
      | in_default-via-in-Some+in-Some+in_default w ↦ reading.tell_fault (fields.missed slots e (fields.no_comparison _ _ e.kept w.in_default.is-2))
      | in_default-via-in-Some+in_default w ↦ reading.tell_fault (fields.missed slots e (fields.no_width _ _ e.kept w.in_default.is-1))
      | in_default-via-in_default w ↦ reading.tell_fault (fields.missed slots e (fields.no_index _ _ e.kept w.in_default.is-0))
    ]

pub returns-then-not-fits : goal.returns-then-not-fits
returns-then-not-fits c = λ slots text inside e.
    let m = fields.kept_whole _ _ e.kept _ _ _ _ c.in-Some-Some-Some-Some.is-0 c.in-Some-Some-Some-Some.is-1 c.in-Some-Some-Some-Some.is-2 c.in-Some-Some-Some-Some.is-3 in
    reading.tell_fault (record {
      same = fields.object_wide slots _ _ _ e.same _ m (sym c.fits.ensures ∙ c.if-not-fits.true);
      fault = omega arith;
      inside = inside;
    })

pub returns : goal.returns
returns c = λ slots text inside e.
    let m = fields.kept_whole _ _ e.kept _ _ _ _ c.in-Some-Some-Some-Some.is-0 c.in-Some-Some-Some-Some.is-1 c.in-Some-Some-Some-Some.is-2 c.in-Some-Some-Some-Some.is-3 in
    reading.tell_read _ refl (fields.object_fine slots _ _ _ e.same _ m (sym c.fits.ensures ∙ c.if-not-fits.false)) e.on e.inside refl
