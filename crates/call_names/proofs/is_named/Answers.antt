-- `is_named` meets its contract: a name of at least one byte, and zeros behind it.
use Rattle.std.proofs.Common.{◌≡◌, ◌-◌, ◌∙◌, rules, arith, tests, take, drop, length-take, position}
use Rattle.std.proofs.lemmas.Iterator.{YieldsList-from_slice}
use Rattle.std.proofs.lemmas.Iterator.Search.{position_from_yields_List, all_from_yields_List}
use Rattle.std.specs.List.{list_all}
use Rattle.definitions.specs.CallNames.{is_zero}
use Rattle.call_names.proofs.Search as laws
use Rattle.call_names.proofs.is_named.Goals as goal

pub returns-then-n-ne0 : goal.returns-then-n-ne0
returns-then-n-ne0 c =
    let found : c.position.result ≡ position is_zero (take 28 c.args.slot.now) = position_from_yields_List is_zero _ _ _ c.position.ensures.ran (YieldsList-from_slice _ c.iter.ensures.rest) (λ x b q k. search (rules, tests)) in
    let place = laws.until_place (take 28 c.args.slot.now) 28 _ (omega (arith, length-take 28 c.args.slot.now, c.fits-slot)) found in
    let each : c.all.result ≡ list_all is_zero (take (28 - c.unwrap_or-n.result) (drop c.unwrap_or-n.result c.args.slot.now)) = all_from_yields_List is_zero _ _ _ c.all.ensures.ran (YieldsList-from_slice _ c.iter-then-n-ne0.ensures.rest) (λ x b q k. search (rules, tests)) in
    laws.named_as c.args.slot.now _ _ (c.unwrap_or-n.ensures ∙ place.0) (omega (arith, c.unwrap_or-n.ensures, place.1)) c.if-n-ne0.true each

pub returns-else-n-ne0 : goal.returns-else-n-ne0
returns-else-n-ne0 c =
    let found : c.position.result ≡ position is_zero (take 28 c.args.slot.now) = position_from_yields_List is_zero _ _ _ c.position.ensures.ran (YieldsList-from_slice _ c.iter.ensures.rest) (λ x b q k. search (rules, tests)) in
    let place = laws.until_place (take 28 c.args.slot.now) 28 _ (omega (arith, length-take 28 c.args.slot.now, c.fits-slot)) found in
    rw c.if-n-ne0.false (laws.unnamed c.args.slot.now _ (c.unwrap_or-n.ensures ∙ place.0) c.if-n-ne0.false)
