-- `listed` meets its contract: the first entry that lists the number tells, else those behind it.
use mathlib.Core.Path.{◌≡◌, sym, ◌∙◌}
use Rattle.definitions.specs.Machine.{call_of}
use Rattle.decision.proofs.Meanings.{listed_none, listed_here, listed_behind}
use Rattle.decision.proofs.listed.Goals as goal

pub returns-then-matches : goal.returns-then-matches
returns-then-matches c =
    let number = sym (c.if-listed-number.true ∙ c.u32_at-number.ensures) in
    let here = listed_here (call_of c.args.call.now) c.args.actions.on_match c.args.actions.mismatch c.loop-listed.entries _ _ _ c.in-Some.ensures number in
    sym (sym c.loop-listed.invariant ∙ here ∙ rw (← c.matches.ensures, c.if-matches.true))

pub returns-else-matches : goal.returns-else-matches
returns-else-matches c =
    let number = sym (c.if-listed-number.true ∙ c.u32_at-number.ensures) in
    let here = listed_here (call_of c.args.call.now) c.args.actions.on_match c.args.actions.mismatch c.loop-listed.entries _ _ _ c.in-Some.ensures number in
    sym (sym c.loop-listed.invariant ∙ here ∙ rw (← c.matches.ensures, c.if-matches.false))

pub loop-listed-preserved : goal.loop-listed-preserved
loop-listed-preserved c =
    let other : (call_of c.args.call.now).number ≡ c.in-Some.listed → ⊥ = λ q. c.if-listed-number.false (sym q ∙ sym c.u32_at-number.ensures) in
    let behind = listed_behind (call_of c.args.call.now) c.args.actions.on_match c.args.actions.mismatch c.loop-listed.entries _ _ _ c.in-Some.ensures other in
    rw c.entries_behind-entries.ensures (sym behind ∙ c.loop-listed.invariant)

pub returns : goal.returns
returns c = sym (sym c.loop-listed.invariant ∙ listed_none (call_of c.args.call.now) c.args.actions.on_match c.args.actions.mismatch _ c.in_default.ensures)
