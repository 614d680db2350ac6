-- `put_leaf` meets its contract.
use Rattle.search_writer.proofs.Planting.{hit_grew, at_grew, match_makes, rules_makes}
use Rattle.search_writer.proofs.put_leaf.Goals as goal

pub returns-in-None : goal.returns-in-None
returns-in-None c =
    let actions = c.args.plan.actions in
    let spot = c.near_return-spot.ensures in
    (hit_grew c.requires.0.miss spot.0 spot.1, rw c.in-None.is (match_makes actions.on_match actions.mismatch spot.0))

pub returns-in-Some : goal.returns-in-Some
returns-in-Some c =
    let actions = c.args.plan.actions in
    let spot = c.near_place-spot.ensures in
    (at_grew c.requires.0.hit c.requires.0.miss spot, rw c.in-Some.is (rules_makes actions.on_match actions.mismatch c.in-Some.place spot))
