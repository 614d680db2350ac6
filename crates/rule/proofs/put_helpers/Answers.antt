-- `put_helpers` meets its contract: there are three helpers, or none and nothing is written.
use mathlib.Core.Path.{ap, sym, ◌∙◌}
use native.Mathlib.Omega.{arith}
use lib.ListN.{length}
use Rattle.bpf.proofs.Buffer.{put_3, put_at}
use Rattle.rule.proofs.Rules.{put_none, helpers_none, helpers_three}
use Rattle.rule.proofs.put_helpers.Goals as goal

pub returns-then-is_far : goal.returns-then-is_far
returns-then-is_far c =
    let e = helpers_three c.args.d (sym c.is_far.ensures ∙ c.if-is_far.true) in
    let n = ap length e in
    rw e
    (put_at (omega arith) (rw (c.put-then-is_far-2.ensures, c.put-then-is_far.ensures, c.put.ensures, c.jump_by-far.ensures, c.jump_by.ensures, c.from.ensures) (put_3 _ _ _ _ _ (omega arith))))

pub returns-else-is_far : goal.returns-else-is_far
returns-else-is_far c = rw (helpers_none c.args.d (sym c.is_far.ensures ∙ c.if-is_far.false)) (put_at (omega arith) (sym (put_none _ _)))
