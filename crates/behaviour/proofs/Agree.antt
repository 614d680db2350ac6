-- AGREE: what was compiled and the rule set itself answer one call alike. Running the filter returns what the rule set means, and that is
-- what is decided.
use mathlib.Core.Path.{◌≡◌, ap, sym, ◌∙◌}
use Prim.Native.Nat.{ℕ}
use lib.ListN.{length}
use borrow.Author.Tests.{eq-eqb}
use Rattle.definitions.specs.declared.Outcome.{Outcome}
use Rattle.definitions.specs.declared.Decision.{Decision}
use Rattle.definitions.specs.Machine.{filter_of, call_of, steps}
use Rattle.definitions.specs.RuleSet.{meaning}
use Rattle.definitions.specs.Answer.{no_fault}
use Rattle.definitions.specs.Compiled.{filter_in}
use Rattle.definitions.specs.Outcome.{outcome_of, decided, decided_of}
use Rattle.behaviour.specs.Statements.{Agree}
use Rattle.behaviour.proofs.Outputs.{promised_behaves, known}

abbrev code : Outcome → ℕ
code o = o.code

abbrev action : Outcome → ℕ
action o = o.action

abbrev decided_code : Decision → ℕ
decided_code d = d.code

abbrev decided_action : Decision → ℕ
decided_action d = d.action

pub agree : Agree
unfolding outcome_of decided_of
agree o set before after r bytes p z call size =
    let k = known set before after r o bytes p z in
    let b = promised_behaves set before after r o p in
    let right = b.right z k.rules k.form (call_of call) in
    let ran : outcome_of (filter_in r after) call
    ≡ record { code = 0; action = meaning k.rules (call_of call); steps = steps (filter_of (filter_in r after)) (call_of call) } =
    rw (eq-eqb (length call) 64 size, b.taken z, right) in
    let said : decided_of set call ≡ decided no_fault (meaning k.rules (call_of call)) = rw (eq-eqb (length call) 64 size, k.from, k.nothing) in
    (ap code ran, ap decided_code said, ap action ran ∙ sym (ap decided_action said))
