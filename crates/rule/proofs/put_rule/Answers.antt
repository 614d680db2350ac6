-- `put_rule` meets its contract: the body is put so that it ends where the rule does, and the two jumps in front of it, if there are any.
use native.Mathlib.Omega.{arith}
use Rattle.rule.proofs.put_rule.Goals as goal

pub put_rule_body-requires : goal.put_rule_body-requires
put_rule_body-requires c =
    let k = c.rule_length.ensures.0 c.args.m in
    let room = rw c.if-jumps.false at c.requires.from_in_bounds in
    record { reach = c.requires.reach; from_bound = (omega arith, omega arith) }
