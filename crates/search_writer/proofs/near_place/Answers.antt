-- `near_place` meets its contract: the place is near, or a jump in front leads there.
use native.Mathlib.Omega.{arith}
use Rattle.definitions.specs.SearchForm.{near_place}
use Rattle.search_writer.proofs.Planting.{reach_kept, reach_front, place_kept, place_front}
use Rattle.search_writer.proofs.near_place.Goals as goal

pub returns-then-far-le-JUMP_REACH : goal.returns-then-far-le-JUMP_REACH
returns-then-far-le-JUMP_REACH c = reach_kept _ c.args.count c.args.at _ (near_place c.args.at) (λ p e. place_kept c.args.count c.args.at p c.if-far-le-JUMP_REACH.true e) (omega arith) (omega arith)

pub returns-else-far-le-JUMP_REACH : goal.returns-else-far-le-JUMP_REACH
returns-else-far-le-JUMP_REACH c = reach_front (near_place c.args.at) (λ p e. place_front c.args.count c.args.at p c.if-far-le-JUMP_REACH.false e) (rw c.jump_by.ensures at c.put_front.ensures.0)
