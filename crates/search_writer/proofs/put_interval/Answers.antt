-- `put_interval` meets its contract.
use native.Mathlib.Omega.{arith}
use Rattle.definitions.specs.SearchForm.{to_mismatch, at_least, leaf, up_to}
use Rattle.spans.specs.Spans.{span_of}
use Rattle.search_writer.proofs.Planting.{grew_on, grew_more, node_makes, mismatch_leaf, link_from, link_above}
use Rattle.search_writer.proofs.put_interval.Goals as goal

pub returns-then-run-from : goal.returns-then-run-from
returns-then-run-from c =
    let a = c.args in
    (grew_more c.put_up_to-inner.ensures.0 (omega arith), rw (link_from a.from a.below (span_of a.run) (leaf to_mismatch) c.requires.2 c.if-run-from.true) c.put_up_to-inner.ensures.1)

pub returns-else-run-from : goal.returns-else-run-from
returns-else-run-from c =
    let a = c.args in
    let m = a.plan.actions.on_match in
    let d = a.plan.actions.mismatch in (
      grew_on (grew_on {n = 5} c.put_up_to-inner.ensures.0 c.put_mismatch-miss.ensures.0 (omega arith)) c.compare.ensures.0 (omega arith),
      rw (link_above a.from a.below (span_of a.run) (leaf to_mismatch) c.requires.2 c.if-run-from.false)
          (node_makes m d at_least a.run.first (up_to a.below (span_of a.run) (leaf to_mismatch)) (leaf to_mismatch) c.put_up_to-inner.ensures.1 (mismatch_leaf m d c.put_mismatch-miss.ensures.1) c.compare.ensures.1),
    )
