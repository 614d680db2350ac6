-- `one_begins` meets its contract, return by return.
use mathlib.Core.Path.{refl, sym, ◌∙◌}
use native.Mathlib.Omega.{arith}
use Rattle.json_condition.proofs.Reading as reading
use Rattle.json_condition.proofs.Words as words
use Rattle.json_condition.proofs.OneKey as one
use Rattle.json_condition.specs.Words.{key_known}
use Rattle.json_condition.proofs.one_begins.Goals as goal

pub returns-in_err-open : goal.returns-in_err-open
returns-in_err-open c = reading.handed _ _ c.from_residual.ensures.1 (reading.stopped _ c.in_err-open.ensures (one.begins_stops _ _ _ _))

pub returns-then-stands : goal.returns-then-stands
returns-then-stands c =
    let o = reading.read c.in_ok-open.ensures refl in
    let b = sym c.skip_blanks-start.ensures.behind in
    reading.tell_fault (record { same = one.begins_empty _ _ _ _ _ o.same b (sym c.stands.ensures ∙ c.if-stands.true); fault = omega arith; inside = c.skip_blanks-start.ensures.inside })

pub returns-in_err-key : goal.returns-in_err-key
returns-in_err-key c =
    let o = reading.read c.in_ok-open.ensures refl in
    let b = sym c.skip_blanks-start.ensures.behind in
    reading.handed _ _ c.from_residual-in_err-key.ensures.1 (reading.stopped _ c.in_err-key.ensures (one.begins_key_stops _ _ _ _ _ o.same b (sym c.stands.ensures ∙ c.if-stands.false) _ _))

pub returns-in_default : goal.returns-in_default
returns-in_default c =
    let o = reading.read c.in_ok-open.ensures refl in
    let b = sym c.skip_blanks-start.ensures.behind in
    let k = reading.read c.in_ok-key.ensures refl in
    let n = words.there_is_none (key_known c.args.masked k.part) (c.in_default.ensures k.part k.value) in
    reading.tell_fault (record { same = one.begins_unknown _ _ _ _ _ o.same b (sym c.stands.ensures ∙ c.if-stands.false) _ _ k.same n; fault = omega arith; inside = c.skip_blanks-start.ensures.inside })

pub returns-in_err-colon : goal.returns-in_err-colon
returns-in_err-colon c =
    let o = reading.read c.in_ok-open.ensures refl in
    let b = sym c.skip_blanks-start.ensures.behind in
    let k = reading.read c.in_ok-key.ensures refl in
    let m = words.there_is (key_known c.args.masked k.part) _ (c.in-Some.ensures k.part k.value) in
    reading.handed _ _ c.from_residual-in_err-colon.ensures.1 (reading.stopped _ c.in_err-colon.ensures (one.begins_colon_stops _ _ _ _ _ o.same b (sym c.stands.ensures ∙ c.if-stands.false) _ _ k.same _ _ _ m))

pub returns : goal.returns
returns c =
    let o = reading.read c.in_ok-open.ensures refl in
    let b = sym c.skip_blanks-start.ensures.behind in
    let k = reading.read c.in_ok-key.ensures refl in
    let m = words.there_is (key_known c.args.masked k.part) _ (c.in-Some.ensures k.part k.value) in
    let v = reading.read c.in_ok-colon.ensures refl in
    reading.tell_read _ refl (one.begins_value _ _ _ _ _ o.same b (sym c.stands.ensures ∙ c.if-stands.false) _ _ k.same _ _ _ m v.same) (omega (arith, o.on, k.on, v.on, one.blanks_on c.args.text.now _ _ o.inside c.skip_blanks-start.ensures.inside c.skip_blanks-start.ensures.behind)) v.inside (refl, (words.key_named c.args.masked k.part _ m).small)
