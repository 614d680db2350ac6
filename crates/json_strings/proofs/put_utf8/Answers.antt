use mathlib.Core.Path.{refl}
use Rattle.json_strings.proofs.Storing as laws
use Rattle.json_strings.proofs.put_utf8.Goals as goal

pub returns-then-c-le127 : goal.returns-then-c-le127
returns-then-c-le127 c = laws.put_1 c.args.out.now _ c.args.at c.args.c _ c.if-c-le127.true refl c.push.ensures

pub returns-then-c-le2047 : goal.returns-then-c-le2047
returns-then-c-le2047 c = laws.put_2 c.args.out.now _ _ c.args.at c.args.c _ _ c.if-c-le127.false c.if-c-le2047.true refl refl c.push-then-c-le2047.ensures c.push-then-c-le2047-2.ensures

pub returns-then-c-le65535 : goal.returns-then-c-le65535
returns-then-c-le65535 c = laws.put_3 c.args.out.now _ _ _ c.args.at c.args.c _ _ _ c.if-c-le2047.false c.if-c-le65535.true refl refl refl c.push-then-c-le65535.ensures c.push-then-c-le65535-2.ensures c.push-then-c-le65535-3.ensures

pub returns : goal.returns
returns c = laws.put_4 c.args.out.now _ _ _ _ c.args.at c.args.c _ _ _ _ c.if-c-le65535.false refl refl refl refl c.push-2.ensures c.push-3.ensures c.push-4.ensures c.push-5.ensures
