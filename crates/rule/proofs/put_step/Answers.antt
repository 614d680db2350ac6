-- `put_step` meets its contract: the helpers, and the condition in front of them.
use native.Mathlib.Omega.{arith}
use Rattle.bpf.proofs.Buffer.{put_both}
use Rattle.rule.proofs.Rules.{step_is, step_distance_lem}
use Rattle.rule.proofs.put_step.Goals as goal

pub returns : goal.returns
returns c =
    let q = c.args.q in
    let d = c.args.d in
    let w = rw c.near-f.ensures at c.put_condition-at.ensures in
    (rw (step_is q d) (put_both c.requires.1 c.put_helpers-behind.ensures w), rw (step_distance_lem q d) (omega (arith, w.spot, c.near-f.ensures)))
