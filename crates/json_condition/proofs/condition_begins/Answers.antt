-- `condition_begins` meets its contract: it stops, or the object is empty, or its turns are to come.
use mathlib.Core.Path.{refl, sym, ◌∙◌}
use Rattle.json_condition.proofs.Reading as reading
use Rattle.json_condition.proofs.Gathering as gathering
use Rattle.json_condition.proofs.condition_begins.Goals as goal

pub returns-in_err-open : goal.returns-in_err-open
returns-in_err-open c = λ slots. gathering.left_handed slots _ _ _ c.from_residual.ensures.1 (reading.stopped _ c.in_err-open.ensures (gathering.object_stops slots _ _ _))

pub returns-then-stands : goal.returns-then-stands
returns-then-stands c = λ slots.
    let o = reading.read c.in_ok-open.ensures refl in
    gathering.begins_ended slots c.args.text.now _ _ _ _ _ (gathering.kept_nothing c.default-gathered.result c.default-gathered.ensures) o.same o.on o.inside c.skip_blanks-start.ensures.inside c.skip_blanks-start.ensures.behind (sym c.stands.ensures ∙ c.if-stands.true)

pub returns : goal.returns
returns c = λ slots.
    let o = reading.read c.in_ok-open.ensures refl in
    gathering.begins_further slots c.args.text.now _ _ c.skip_blanks-start.result _ _ (gathering.kept_nothing c.default-gathered.result c.default-gathered.ensures) o.same o.on o.inside c.skip_blanks-start.ensures.behind (sym c.stands.ensures ∙ c.if-stands.false)
