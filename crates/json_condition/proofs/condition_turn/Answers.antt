-- `condition_turn` meets its contract: a turn of the reader, step by step.
use mathlib.Core.Path.{refl, sym, ◌∙◌}
use mathlib.Core.List.{[]}
use native.Mathlib.Omega.{arith}
use Rattle.json_parts.specs.Kinds.{keys_of}
use Rattle.json_condition.proofs.Reading as reading
use Rattle.json_condition.proofs.Gathering as gathering
use Rattle.json_condition.proofs.OneKey as one
use Rattle.json_condition.proofs.condition_turn.Goals as goal

pub returns-in_err-field : goal.returns-in_err-field
unfolding keys_of
returns-in_err-field c = λ slots ts n k enough.
    let b = sym c.skip_blanks-start.ensures.behind in
    let l = gathering.turns_enough c.args.text.now c.args.at n enough in
    gathering.left_handed slots _ _ _ c.from_residual.ensures.1 (reading.stopped _ c.in_err-field.ensures (gathering.turn_key_stops slots n ts _ _ l b _ _))

pub returns-then-given : goal.returns-then-given
unfolding keys_of
returns-then-given c = λ slots ts n k enough.
    let b = sym c.skip_blanks-start.ensures.behind in
    let l = gathering.turns_enough c.args.text.now c.args.at n enough in
    let f = reading.read c.in_ok-field.ensures refl in
    let e = reading.got_number f.same f.value in
    reading.tell_fault (record { same = gathering.turn_twice slots n ts _ _ l b _ _ e (sym (c.given.ensures ts k) ∙ c.if-given.true); fault = omega arith; inside = c.skip_blanks-start.ensures.inside })

pub returns-in_err-colon : goal.returns-in_err-colon
unfolding keys_of
returns-in_err-colon c = λ slots ts n k enough.
    let b = sym c.skip_blanks-start.ensures.behind in
    let l = gathering.turns_enough c.args.text.now c.args.at n enough in
    let f = reading.read c.in_ok-field.ensures refl in
    let e = reading.got_number f.same f.value in
    let t = sym (c.given.ensures ts k) ∙ c.if-given.false in
    gathering.left_handed slots _ _ _ c.from_residual-in_err-colon.ensures.1 (reading.stopped _ c.in_err-colon.ensures (gathering.turn_colon_stops slots n ts _ _ l b _ _ e t _ _))

pub returns-in_err-part : goal.returns-in_err-part
unfolding keys_of
returns-in_err-part c = λ slots ts n k enough.
    let b = sym c.skip_blanks-start.ensures.behind in
    let l = gathering.turns_enough c.args.text.now c.args.at n enough in
    let f = reading.read c.in_ok-field.ensures refl in
    let e = reading.got_number f.same f.value in
    let t = sym (c.given.ensures ts k) ∙ c.if-given.false in
    let y = reading.read c.in_ok-colon.ensures refl in
    gathering.left_handed slots _ _ _ c.from_residual-in_err-part.ensures.1 (reading.stopped _ (c.in_err-part.ensures slots) (gathering.turn_part_stops slots n ts _ _ l b _ _ e t _ _ y.same _ _))

pub more_there-requires : goal.more_there-requires
more_there-requires c = ((reading.read (c.in_ok-part.ensures []) refl).inside, omega arith)

pub returns-in_err-next : goal.returns-in_err-next
unfolding keys_of
returns-in_err-next c = λ slots ts n k enough.
    let b = sym c.skip_blanks-start.ensures.behind in
    let l = gathering.turns_enough c.args.text.now c.args.at n enough in
    let f = reading.read c.in_ok-field.ensures refl in
    let e = reading.got_number f.same f.value in
    let t = sym (c.given.ensures ts k) ∙ c.if-given.false in
    let y = reading.read c.in_ok-colon.ensures refl in
    let p = reading.read (c.in_ok-part.ensures slots) refl in
    gathering.left_handed slots _ _ _ c.from_residual-in_err-next.ensures.1 (reading.stopped _ c.in_err-next.ensures (gathering.turn_more_stops slots n ts _ _ l b _ _ e t _ _ y.same _ _ p.same _ _))

pub returns : goal.returns
unfolding keys_of
returns c = λ slots ts n k enough.
    let b = sym c.skip_blanks-start.ensures.behind in
    let l = gathering.turns_enough c.args.text.now c.args.at n enough in
    let f = reading.read c.in_ok-field.ensures refl in
    let e = reading.got_number f.same f.value in
    let t = sym (c.given.ensures ts k) ∙ c.if-given.false in
    let y = reading.read c.in_ok-colon.ensures refl in
    let p = reading.read (c.in_ok-part.ensures slots) refl in
    let m = reading.read c.in_ok-next.ensures refl in
    let h = gathering.turn_whole slots n ts _ _ l b _ _ e t _ _ y.same _ _ p.same _ _ m.same in
    rw (sym m.value) at (gathering.turn_left slots c.args.text.now c.args.at n _ _ _ _ _ m.part h m.same enough (omega (arith, f.on, y.on, p.on, m.on, one.blanks_on c.args.text.now c.args.at c.skip_blanks-start.result c.requires c.skip_blanks-start.ensures.inside c.skip_blanks-start.ensures.behind)) m.inside (c.taken.ensures ts _ p.part k p.value))
