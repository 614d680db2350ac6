-- `next_set` meets its contract: one test after the other, and the two lengths at their places.
use mathlib.Core.Path.{◌∙◌}
use native.Mathlib.Omega.{arith}
use Rattle.named_sets.proofs.Places as places
use Rattle.named_sets.proofs.next_set.Goals as goal

pub returns-then-size-ge4294967296 : goal.returns-then-size-ge4294967296
returns-then-size-ge4294967296 c = c.no_set.ensures ∙ places.next_long c.args.sets.now c.args.at (omega (arith, c.if-size-ge4294967296.true))

pub returns-then-start-size : goal.returns-then-start-size
returns-then-start-size c = c.no_set-then-start-size.ensures ∙ places.next_end c.args.sets.now c.args.at (omega arith) c.if-start-size.true

pub returns-then-size-start : goal.returns-then-size-start
returns-then-size-start c = c.no_set-then-size-start.ensures ∙ places.next_short c.args.sets.now c.args.at (omega arith) c.if-start-size.false c.if-size-start.true

pub returns-then-size-start-2 : goal.returns-then-size-start-2
returns-then-size-start-2 c = c.no_set-then-size-start-2.ensures ∙ places.next_cut c.args.sets.now c.args.at c.u32_at-name_len.result c.u32_at-set_len.result c.u32_at-name_len.ensures c.u32_at-set_len.ensures (omega arith) c.if-start-size.false (omega arith) c.if-size-start-2.true

pub returns : goal.returns
returns c = places.next_there c.args.sets.now c.args.at c.u32_at-name_len.result c.u32_at-set_len.result c.u32_at-name_len.ensures c.u32_at-set_len.ensures (omega arith) c.if-start-size.false (omega arith) (omega arith)
