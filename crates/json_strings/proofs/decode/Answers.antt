use native.Mathlib.Omega.{arith}
use Rattle.json_strings.proofs.Storing as laws
use Rattle.json_strings.proofs.decode.Goals as goal

pub loop-at-init : goal.loop-at-init
loop-at-init c = laws.going_start c.args.text.now c.args.from c.args.out.now c.args.start c.requires.0

pub returns-then-text-at-eq34 : goal.returns-then-text-at-eq34
returns-then-text-at-eq34 c = laws.going_quote c.args.text.now c.args.from c.args.out.now c.args.start c.loop-at.out c.loop-at.at c.loop-at.count c.loop-at.invariant (omega arith) c.if-text-at-eq34.true

pub put_character-meant-requires : goal.put_character-meant-requires
put_character-meant-requires c = let f = c.loop-at.invariant.few in let t = (laws.there c.args.text.now c.loop-at.at c.in-Some.used c.in-Some.ensures).fits in (omega arith, omega (arith, c.requires.1), c.in-Some.ensures)

pub overflow_add-count : goal.overflow_add-count
overflow_add-count c = let g = laws.going_turn c.args.text.now c.args.from c.args.out.now c.args.start c.loop-at.out c.loop-at.at c.loop-at.count c.loop-at.invariant _ _ _ (omega arith) c.if-text-at-eq34.false c.in-Some.ensures c.put_character-meant.ensures.0 c.put_character-meant.ensures.1 in omega (arith, g.few, g.inside)

pub overflow_add-at : goal.overflow_add-at
overflow_add-at c = let g = laws.going_turn c.args.text.now c.args.from c.args.out.now c.args.start c.loop-at.out c.loop-at.at c.loop-at.count c.loop-at.invariant _ _ _ (omega arith) c.if-text-at-eq34.false c.in-Some.ensures c.put_character-meant.ensures.0 c.put_character-meant.ensures.1 in omega (arith, g.inside)

pub loop-at-smaller : goal.loop-at-smaller
loop-at-smaller c = let g = laws.going_turn c.args.text.now c.args.from c.args.out.now c.args.start c.loop-at.out c.loop-at.at c.loop-at.count c.loop-at.invariant _ _ _ (omega arith) c.if-text-at-eq34.false c.in-Some.ensures c.put_character-meant.ensures.0 c.put_character-meant.ensures.1 in omega (arith, g.inside, (laws.there c.args.text.now c.loop-at.at c.in-Some.used c.in-Some.ensures).some)

pub loop-at-preserved : goal.loop-at-preserved
loop-at-preserved c = laws.going_turn c.args.text.now c.args.from c.args.out.now c.args.start c.loop-at.out c.loop-at.at c.loop-at.count c.loop-at.invariant _ _ _ (omega arith) c.if-text-at-eq34.false c.in-Some.ensures c.put_character-meant.ensures.0 c.put_character-meant.ensures.1

pub returns-in-None : goal.returns-in-None
returns-in-None c = laws.going_none c.args.text.now c.args.from c.args.out.now c.args.start c.loop-at.out c.loop-at.at c.loop-at.count c.loop-at.invariant c.if-text-at-eq34.false c.in-None.ensures

pub returns : goal.returns
returns c = laws.going_end c.args.text.now c.args.from c.args.out.now c.args.start c.loop-at.out c.loop-at.at c.loop-at.count c.loop-at.invariant (omega arith)
