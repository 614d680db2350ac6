-- `decide` meets its contract: the call's size, what is said of the set, then its meaning.
use mathlib.Core.Path.{sym, ◌∙◌, ap}
use borrow.Author.Tests.{ne_eqb}
use Rattle.definitions.specs.declared.Fault.{Fault}
use Rattle.definitions.specs.Outcome.{decided, decided_of}
use Rattle.decision.proofs.Meanings.{decided_refused, decides}
use Rattle.decision.proofs.decide.Goals as goal

pub returns-in_default : goal.returns-in_default
unfolding decided_of
returns-in_default c = rw (ne_eqb _ _ c.in_default.ensures.1) (c.decided.ensures ∙ ap (λ (f : Fault). decided f 0) c.fault.ensures)

pub returns-then-found-ne0 : goal.returns-then-found-ne0
returns-then-found-ne0 c =
    c.decided-then-found-ne0.ensures ∙ sym (decided_refused c.args.set.now c.args.call.now c.judge.result c.in-Ok.ensures.1.long c.judge.ensures.0 c.if-found-ne0.true)

pub meaning-requires : goal.meaning-requires
meaning-requires c = (decides c.args.set.now c.args.call.now c.judge.result c.in-Ok.ensures.1.long c.judge.ensures.0 c.if-found-ne0.false).0

pub returns : goal.returns
returns c =
    let meant = decides c.args.set.now c.args.call.now c.judge.result c.in-Ok.ensures.1.long c.judge.ensures.0 c.if-found-ne0.false in
    c.decided-2.ensures ∙ ap (decided c.judge.result.fault) (rw c.in-Ok.ensures.1.same at c.meaning.ensures) ∙ sym meant.1
