-- `put_mismatch` meets its contract.
use Rattle.search_writer.proofs.Planting.{miss_grew, mismatch_makes}
use Rattle.search_writer.proofs.put_mismatch.Goals as goal

pub returns : goal.returns
returns c =
    let spot = c.near_return-spot.ensures in
    (miss_grew c.requires.0.hit spot.0 spot.1, mismatch_makes c.args.z c.args.plan.actions.mismatch spot.0)
