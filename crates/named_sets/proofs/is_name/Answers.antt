-- `is_name` meets its contract: the bytes that are compared are as many as the name has, from a place on.
use Rattle.std.proofs.Common.{◌≡◌, ◌+◌, ◌-◌, ◌∙◌, length, arith}
use Rattle.named_sets.proofs.Naming as naming
use Rattle.named_sets.proofs.is_name.Goals as goal

pub returns : goal.returns
returns c =
    let counted : c.args.at + length c.args.name.now - c.args.at ≡ length c.args.name.now = omega arith in
    rw counted at c.eq.ensures ∙ naming.same_compared _ _
