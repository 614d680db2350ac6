-- `put_chain` meets its contract. It calls itself for the runs behind the first, of which there is one less.
use Prim.Native.Nat.{◌+◌, ◌-◌, ◌*◌}
use native.Mathlib.Omega.{arith}
use lib.ListN.{take}
use Rattle.definitions.specs.SearchForm.{chain}
use Rattle.spans.specs.Spans.{spans_from, span_of}
use Rattle.spans.proofs.Reading.{span_left, length_less}
use Rattle.search_writer.proofs.Planting.{ready_on, grew_on, grew_more, mismatch_leaf, link_makes, chain_none, chain_more, chain_one, singles_rest}
use Rattle.search_writer.proofs.+put_chain.Goals as goal

pub returns-then-n-eq0 : goal.returns-then-n-eq0
returns-then-n-eq0 t c =
    let a = c.args in
    let e = chain_none a.from a.below a.n (spans_from a.s.now a.c) c.if-n-eq0.true in
    (grew_more c.put_mismatch.ensures.0 (omega arith), rw e (mismatch_leaf a.plan.actions.on_match a.plan.actions.mismatch c.put_mismatch.ensures.1))

pub next_run-run-requires : goal.next_run-run-requires
next_run-run-requires t c = (c.requires.stands.0, span_left c.args.s.now c.args.c c.args.n c.if-n-eq0.false c.requires.stands.1)

pub returns-then-run : goal.returns-then-run
returns-then-run t c =
    let a = c.args in
    let e = chain_one a.from a.below a.n (span_of c.next_run-run.result) _ _ c.if-n-eq0.false c.next_run-run.ensures.spans c.if-run.true c.requires.stands.3 in
    (grew_more c.put_interval.ensures.0 (omega (arith, c.if-n-eq0.false)), rw e c.put_interval.ensures.1)

pub put_chain-miss-requires : goal.put_chain-miss-requires
put_chain-miss-requires t c =
    let a = c.args in
    let x = span_of c.next_run-run.result in
    let some = c.if-n-eq0.false in
    let e = c.next_run-run.ensures.spans in (
      omega (arith, some),
      (
        (
          c.next_run-run.ensures.stands,
          length_less a.n x _ _ some e c.requires.stands.1,
          omega (arith, c.next_run-run.ensures.behind, c.requires.stands.2, c.put_leaf-hit.ensures.0.less),
          singles_rest a.from a.below a.n x _ _ some e c.requires.stands.3,
        ),
        ready_on c.requires.ready c.put_leaf-hit.ensures.0 (omega (arith, some)) c.put_leaf-hit.auto.out,
      ),
    )

pub returns : goal.returns
returns t c =
    let a = c.args in
    let x = span_of c.next_run-run.result in
    let m = a.plan.actions.on_match in
    let d = a.plan.actions.mismatch in
    let rest = chain a.from a.below (take (a.n - 1) (spans_from a.s.now c.next_run-run.result.next)) in
    let e = chain_more a.from a.below a.n x _ _ c.if-n-eq0.false c.next_run-run.ensures.spans in (
      grew_on (grew_on {n = 3 * a.n + 2} c.put_leaf-hit.ensures.0 c.put_chain-miss.ensures.0 (omega (arith, c.if-n-eq0.false))) c.compare.ensures.0 (omega arith),
      rw e (link_makes m d a.from a.below x rest c.if-run.false c.put_leaf-hit.ensures.1 c.put_chain-miss.ensures.1 c.compare.ensures.1),
    )
