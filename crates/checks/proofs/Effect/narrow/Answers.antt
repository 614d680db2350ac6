-- `narrow` meets its contract: a jump, and a branch, which is two.
use Rattle.checks.proofs.Scratch.{narrow_jump, narrow_branch}
use Rattle.checks.proofs.Effect.narrow.Goals as goal

pub returns-in-Jumps : goal.returns-in-Jumps
returns-in-Jumps c = rw c.in-Jumps.is (narrow_jump _ _ _ c.in-Jumps.k _ _ c.told-ahead (rw c.in-Jumps.is at c.requires.1) c.target.ensures c.narrow_at.ensures)

pub returns-in-Branches : goal.returns-in-Branches
returns-in-Branches c =
    rw c.in-Branches.is (narrow_branch _ _ _ _ c.in-Branches.t c.in-Branches.f _ _ _ c.told-ahead c.narrow_at-in-Branches.array_long (rw c.in-Branches.is at c.requires.1)
    (rw c.from.ensures at c.target-in-Branches.ensures) c.narrow_at-in-Branches.ensures (rw c.from-in-Branches.ensures at c.target-in-Branches-2.ensures) c.narrow_at-in-Branches-2.ensures)
