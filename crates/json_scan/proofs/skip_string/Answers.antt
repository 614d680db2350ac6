use mathlib.Core.Path.{refl}
use native.Mathlib.Omega.{arith}
use Rattle.json_scan.proofs.Scanning as laws
use Rattle.json_scan.proofs.skip_string.Goals as goal

pub loop-at-init : goal.loop-at-init
loop-at-init c = laws.pass_start _ _ c.requires

pub returns-then-text-at-eq34 : goal.returns-then-text-at-eq34
returns-then-text-at-eq34 c = laws.stands_got _ (laws.pass_quote c.args.text.now c.args.from c.loop-at.at c.loop-at.invariant (omega arith) c.if-text-at-eq34.true) (record { inside = omega arith; behind = refl })

pub overflow_add-at : goal.overflow_add-at
overflow_add-at c = let t = laws.pass_turn c.args.text.now c.args.from c.loop-at.at c.loop-at.invariant _ (omega arith) c.if-text-at-eq34.false c.in-Some.ensures in omega (arith, t.passing.inside)

pub loop-at-smaller : goal.loop-at-smaller
loop-at-smaller c = let t = laws.pass_turn c.args.text.now c.args.from c.loop-at.at c.loop-at.invariant _ (omega arith) c.if-text-at-eq34.false c.in-Some.ensures in omega (arith, t.passing.inside, t.forth)

pub loop-at-preserved : goal.loop-at-preserved
loop-at-preserved c = (laws.pass_turn c.args.text.now c.args.from c.loop-at.at c.loop-at.invariant _ (omega arith) c.if-text-at-eq34.false c.in-Some.ensures).passing

pub returns-in-None : goal.returns-in-None
returns-in-None c = laws.stands_stop _ (laws.pass_none c.args.text.now c.args.from c.loop-at.at c.loop-at.invariant c.if-text-at-eq34.false c.in-None.ensures) (record { inside = c.loop-at.invariant.inside; behind = refl })

pub returns : goal.returns
returns c = laws.stands_stop _ (laws.pass_end c.args.text.now c.args.from c.loop-at.at c.loop-at.invariant (omega arith)) (record { inside = c.loop-at.invariant.inside; behind = refl })
