-- `all_hold` meets its contract: the definition's fold is that of the chain.
use mathlib.Core.Path.{refl, sym, ◌∙◌}
use Rattle.std.proofs.Common.{rules, tests}
use Rattle.std.proofs.lemmas.Iterator.Consumers.{YieldsList-from_first}
use Rattle.std.proofs.lemmas.Iterator.Search.{all_from_yields_List}
use Rattle.definitions.specs.Machine.{call_of}
use Rattle.definitions.specs.RuleSet.{holds}
use Rattle.decision.proofs.Meanings.{all_is}
use Rattle.decision.proofs.all_hold.Goals as goal

pub returns : goal.returns
returns c =
    let h = all_from_yields_List (holds (call_of c.args.call.now)) _ _ _ c.all.ensures.ran (YieldsList-from_first (λ x. x) (λ s. s) _ refl) (λ x b q k. search (rules, tests)) in
    h ∙ sym (all_is (call_of c.args.call.now) c.args.conditions)
