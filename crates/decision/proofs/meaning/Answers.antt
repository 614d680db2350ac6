-- `meaning` meets its contract: killed for its architecture, killed for its number, or what the entries say.
use mathlib.Core.Path.{sym, ◌∙◌}
use Rattle.definitions.specs.Machine.{call_of}
use Rattle.decision.proofs.Meanings.{meaning_other, meaning_killed, meaning_own}
use Rattle.decision.proofs.meaning.Goals as goal

pub returns-then-u32_at-architecture_word : goal.returns-then-u32_at-architecture_word
returns-then-u32_at-architecture_word c =
    sym (meaning_other (call_of c.args.call.now) c.args.s.now (λ q. c.if-u32_at-architecture_word.true (c.u32_at.ensures ∙ q ∙ sym (rw c.u32_at-a.ensures at c.architecture_word.ensures))))

pub returns-then-kills : goal.returns-then-kills
returns-then-kills c =
    let own = sym c.u32_at.ensures ∙ c.if-u32_at-architecture_word.false ∙ rw c.u32_at-a.ensures at c.architecture_word.ensures in
    let killed = sym (rw (c.u32_at-2.ensures, c.u32_at-a.ensures) at c.kills.ensures) ∙ c.if-kills.true in
    sym (meaning_killed (call_of c.args.call.now) c.args.s.now own killed)

pub returns : goal.returns
returns c =
    let own = sym c.u32_at.ensures ∙ c.if-u32_at-architecture_word.false ∙ rw c.u32_at-a.ensures at c.architecture_word.ensures in
    let served = sym (rw (c.u32_at-2.ensures, c.u32_at-a.ensures) at c.kills.ensures) ∙ c.if-kills.false in
    rw (meaning_own (call_of c.args.call.now) c.args.s.now own served) (rw (c.actions_here.ensures, c.new.ensures) at c.listed.ensures)
