-- `one_ends` meets its contract, return by return.
use mathlib.Core.Path.{refl, sym, ◌∙◌}
use native.Mathlib.Omega.{arith}
use borrow.Author.Tests.{not-true, not-false}
use Rattle.json_condition.proofs.Reading as reading
use Rattle.json_condition.proofs.OneKey as one
use Rattle.json_condition.proofs.one_ends.Goals as goal

pub returns-in_err-next : goal.returns-in_err-next
returns-in_err-next c = reading.handed _ _ c.from_residual.ensures.1 (reading.stopped _ c.in_err-next.ensures (one.ends_stops _ _ _ _))

pub returns-then-not-next : goal.returns-then-not-next
returns-then-not-next c =
    let n = reading.read c.in_ok-next.ensures refl in
    reading.tell_read 0 refl (one.ends_there _ _ _ _ n.same (sym n.value ∙ not-true _ c.if-not-next.true)) n.on n.inside tt

pub returns-in_err-key : goal.returns-in_err-key
returns-in_err-key c =
    let n = reading.read c.in_ok-next.ensures refl in
    let t = sym n.value ∙ not-false _ c.if-not-next.false in
    let b = sym c.skip_blanks-start.ensures.behind in
    reading.handed _ _ c.from_residual-in_err-key.ensures.1 (reading.stopped _ c.in_err-key.ensures (one.ends_key_stops _ _ _ _ n.same _ t b _ _))

pub returns-then-key_again : goal.returns-then-key_again
returns-then-key_again c =
    let n = reading.read c.in_ok-next.ensures refl in
    let t = sym n.value ∙ not-false _ c.if-not-next.false in
    let b = sym c.skip_blanks-start.ensures.behind in
    let k = reading.read c.in_ok-key.ensures refl in
    reading.tell_fault (record { same = one.ends_again _ _ _ _ n.same _ t b _ _ k.same (sym (c.key_again.ensures k.part k.value) ∙ c.if-key_again.true); fault = omega arith; inside = c.skip_blanks-start.ensures.inside })

pub returns-else-key_again : goal.returns-else-key_again
returns-else-key_again c =
    let n = reading.read c.in_ok-next.ensures refl in
    let t = sym n.value ∙ not-false _ c.if-not-next.false in
    let b = sym c.skip_blanks-start.ensures.behind in
    let k = reading.read c.in_ok-key.ensures refl in
    reading.tell_fault (record { same = one.ends_other _ _ _ _ n.same _ t b _ _ k.same (sym (c.key_again.ensures k.part k.value) ∙ c.if-key_again.false); fault = omega arith; inside = c.skip_blanks-start.ensures.inside })
