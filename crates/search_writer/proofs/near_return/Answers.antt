-- `near_return` meets its contract: the last return is near, or there is a new one in front.
use mathlib.Core.Path.{◌≡◌}
use mathlib.Core.Bool.{true}
use native.Mathlib.Omega.{arith}
use lib.Dec.{ltb}
use Rattle.definitions.specs.SearchForm.{away, near_return}
use Rattle.search_writer.specs.Forms.{place_of}
use Rattle.search_writer.proofs.Planting.{reach_kept, reach_front, return_kept, return_front, away_near, away_none, away_far}
use Rattle.search_writer.proofs.near_return.Goals as goal
use Rattle.search_writer.proofs.near_return.Goals.{in_default-via-in-Some+else-count-at, in_default-via-in_default}

pub returns-in-Some : goal.returns-in-Some
returns-in-Some c =
    let a = c.args in
    let at = c.in-Some.at in
    let i = rw c.in-Some.is at c.requires.2 in
    rw c.in-Some.is (
      reach_kept _ a.count at _ (near_return a.z a.action at)
          (λ p e. return_kept a.z a.action a.count at p (away_near a.z a.count at i.0 c.if-count-at.true) e) i.1 (omega arith),
      i.0,
    )

pub returns-in_default : goal.returns-in_default
returns-in_default c =
    let a = c.args in
    let far : ltb a.z (away a.count (place_of a.at)) ≡ true =
    elim c.in_default.branch [
      | in_default-via-in-Some+else-count-at w ↦
          let i = rw w.in-Some.is at c.requires.2 in
          rw w.in-Some.is (away_far a.z a.count w.in-Some.at i.0 w.if-count-at.false)
      | in_default-via-in_default w ↦ rw w.in_default.is (away_none a.z a.count c.requires.3)
    ]
    in
    let front = rw c.give.ensures at c.put_front.ensures in
    (reach_front (near_return a.z a.action (place_of a.at)) (λ p e. return_front a.z a.action a.count (place_of a.at) p far e) front.0, front.1)
