-- `any_holds` meets its contract: the definition's fold is that of the chain.
use mathlib.Core.Path.{sym, ◌∙◌}
use Rattle.std.proofs.Common.{rules, tests}
use Rattle.std.proofs.lemmas.Iterator.Search.{any_from_yields_List}
use Rattle.definitions.specs.Machine.{call_of}
use Rattle.definitions.specs.RuleSet.{all_hold}
use Rattle.set_view.proofs.Left.{rules_yielded}
use Rattle.decision.proofs.Meanings.{any_is}
use Rattle.decision.proofs.any_holds.Goals as goal

pub returns : goal.returns
returns c =
    let h = any_from_yields_List (all_hold (call_of c.args.call.now)) _ _ _ c.any.ensures.ran (rules_yielded c.args.rules) (λ x b q k. search (rules, tests)) in
    h ∙ sym (any_is (call_of c.args.call.now) c.args.rules.rules)
