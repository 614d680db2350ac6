use mathlib.Core.Path.{◌∙◌}
use native.Mathlib.Omega.{arith}
use Rattle.json_strings.proofs.Storing as laws
use Rattle.json_strings.proofs.put_plain.Goals as goal

pub loop-i-preserved : goal.loop-i-preserved
loop-i-preserved c = c.push.ensures ∙ laws.plain_turn c.args.text.now c.args.out.now c.loop-i.out c.args.at c.args.place c.loop-i.i c.args.n (omega arith) c.requires.0 c.loop-i.invariant
