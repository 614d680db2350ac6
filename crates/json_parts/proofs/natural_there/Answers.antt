use mathlib.Core.Path.{refl, ap, sym, ◌∙◌}
use native.Mathlib.Omega.{arith}
use lib.ListN.{drop}
use Rattle.json_parts.proofs.Places as laws
use Rattle.json_parts.proofs.Numbers as numbers
use Rattle.json_parts.proofs.Numbers.{numeric}
use Rattle.json_parts.proofs.natural_there.Goals as goal

pub returns-then-not-begins_number : goal.returns-then-not-begins_number
returns-then-not-begins_number c = laws.tells_refused _ (numbers.natural_missing c.args.most c.args.text.now c.args.at (ap numeric (sym c.byte.ensures) ∙ sym c.begins_number.ensures ∙ c.if-not-begins_number.true)) c.wrong_at.ensures (laws.here c.args.text.now c.args.at c.requires)

pub returns-in-Err : goal.returns-in-Err
returns-in-Err c =
    let s = numbers.stuck (drop c.args.at c.args.text.now) c.args.at _ c.in-Err.ensures.0 in
    rw c.not_json.ensures (laws.tells_stop (numbers.natural_stuck c.args.most c.args.text.now c.args.at (ap numeric (sym c.byte.ensures) ∙ sym c.begins_number.ensures ∙ c.if-not-begins_number.false) s.is) refl (omega arith) (numbers.bad_place_lem c.args.text.now c.args.at _ s c.in-Err.ensures.1))

pub read_natural-requires : goal.read_natural-requires
read_natural-requires c = (omega (arith, (numbers.counted (drop c.args.at c.args.text.now) c.args.at _ c.in-Ok.ensures.0).place), c.in-Ok.ensures.1)

pub returns-in-Some : goal.returns-in-Some
returns-in-Some c =
    let s = numbers.counted (drop c.args.at c.args.text.now) c.args.at _ c.in-Ok.ensures.0 in
    laws.tells_got (numbers.natural_read c.args.most c.args.text.now c.args.at (ap numeric (sym c.byte.ensures) ∙ sym c.begins_number.ensures ∙ c.if-not-begins_number.false) _ s _ c.in-Some.ensures) refl (omega (arith, s.place, s.long)) (numbers.past_place c.args.text.now c.args.at _ s c.in-Ok.ensures.1) refl

pub returns-in-None : goal.returns-in-None
returns-in-None c =
    let s = numbers.counted (drop c.args.at c.args.text.now) c.args.at _ c.in-Ok.ensures.0 in
    laws.tells_stop (numbers.natural_refused c.args.most c.args.text.now c.args.at (ap numeric (sym c.byte.ensures) ∙ sym c.begins_number.ensures ∙ c.if-not-begins_number.false) _ s c.in-None.ensures) refl (omega arith) (laws.here c.args.text.now c.args.at c.requires)
