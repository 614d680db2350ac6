-- `search_verdict` meets its contract: as `verdict`, by the length of the search form.
use mathlib.Core.Path.{sym, ◌∙◌}
use native.Mathlib.Omega.{arith}
use Rattle.callfilter.proofs.Answering.{search_none, search_answer, search_size_lem}
use Rattle.callfilter.proofs.search_verdict.Goals as goal

pub returns-then-fault-eq1 : goal.returns-then-fault-eq1
returns-then-fault-eq1 c = c.answer_for.ensures ∙ sym (search_none _ _ c.judge.result c.judge.ensures.0 c.if-fault-eq1.true)

pub u32_at-requires : goal.u32_at-requires
u32_at-requires c =
    let head = search_answer _ c.args.room c.judge.result c.judge.ensures.0 c.if-fault-eq1.false in
    omega (arith, head.reads.head)

pub search_length-size-requires : goal.search_length-size-requires
search_length-size-requires c =
    let length = search_answer _ c.args.room c.judge.result c.judge.ensures.0 c.if-fault-eq1.false in
    (length.reads, omega (arith, c.u32_at.ensures))

pub search_long-requires : goal.search_long-requires
search_long-requires c =
    let long = search_answer _ c.args.room c.judge.result c.judge.ensures.0 c.if-fault-eq1.false in
    (long.reads, search_size_lem _ _ _ c.u32_at.ensures c.search_length-size.ensures)

pub answer_for-requires-2 : goal.answer_for-requires-2
answer_for-requires-2 c =
    let answer = search_answer _ c.args.room c.judge.result c.judge.ensures.0 c.if-fault-eq1.false in
    let size = search_size_lem c.args.set.now _ _ c.u32_at.ensures c.search_length-size.ensures in
    omega (arith, size, answer.small, c.judge.ensures.1)

pub returns : goal.returns
returns c =
    let whole = search_answer _ c.args.room c.judge.result c.judge.ensures.0 c.if-fault-eq1.false in
    let size = search_size_lem c.args.set.now _ _ c.u32_at.ensures c.search_length-size.ensures in
    c.answer_for-2.ensures ∙ rw size (sym (whole.said c.search_long.result (rw size at c.search_long.ensures)))
