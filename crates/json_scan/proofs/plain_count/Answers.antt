use mathlib.Core.Path.{◌∙◌}
use native.Mathlib.Omega.{arith}
use lib.ListN.{get_or}
use Rattle.json_theorems.proofs.Strings.{count_1, count_3, count_4}
use Rattle.json_scan.proofs.Scanning as laws
use Rattle.json_scan.proofs.plain_count.Goals as goal

pub returns-then-a-le127 : goal.returns-then-a-le127
returns-then-a-le127 c = c.then_some.ensures ∙ laws.plain_there_lem c.args.text.now c.args.at 1 _ _ (count_1 (get_or c.args.text.now c.args.at 0) c.if-a-le127.true) (laws.bytes_1 c.args.text.now c.args.at (omega arith)) c.one.ensures

pub returns-then-a-le223 : goal.returns-then-a-le223
returns-then-a-le223 c = c.then_some-then-a-le223.ensures ∙ rw (c.two.ensures, c.byte.ensures) (laws.plain_2 c.args.text.now c.args.at c.requires (laws.count_two (get_or c.args.text.now c.args.at 0) c.if-a-le127.false c.if-a-le223.true))

pub returns-then-a-le239 : goal.returns-then-a-le239
returns-then-a-le239 c = c.then_some-then-a-le239.ensures ∙ rw (c.three.ensures, c.byte-then-a-le239.ensures, c.byte-then-a-le239-2.ensures) (laws.plain_3 c.args.text.now c.args.at c.requires (count_3 (get_or c.args.text.now c.args.at 0) c.if-a-le223.false c.if-a-le239.true))

pub returns-else-a-le239 : goal.returns-else-a-le239
returns-else-a-le239 c = c.then_some-else-a-le239.ensures ∙ rw (c.four.ensures, c.byte-else-a-le239.ensures, c.byte-else-a-le239-2.ensures, c.byte-else-a-le239-3.ensures) (laws.plain_4 c.args.text.now c.args.at c.requires (count_4 (get_or c.args.text.now c.args.at 0) c.if-a-le239.false))
