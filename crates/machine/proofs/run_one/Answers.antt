-- `run_one` meets its contract: what the run came to is put at its place.
use native.Mathlib.Omega.{arith}
use Rattle.checks.proofs.Walk.{accepts_short}
use Rattle.machine.proofs.Many.{put_one}
use Rattle.machine.proofs.run_one.Goals as goal

pub follow-requires : goal.follow-requires
follow-requires c = accepts_short _ c.requires.0

pub returns : goal.returns
returns c =
    put_one _ _ _ _ _ _ c.requires.0 c.told-call c.follow.ensures (omega (arith, c.follow.type_inv)) (omega (arith, c.follow.type_inv)) (omega arith) c.write_outcome.ensures
