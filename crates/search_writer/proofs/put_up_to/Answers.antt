-- `put_up_to` meets its contract.
use mathlib.Core.Path.{sym, ◌∙◌}
use native.Mathlib.Omega.{arith}
use Rattle.definitions.specs.SearchForm.{to_mismatch, above, leaf}
use Rattle.spans.specs.Spans.{span_of, destination}
use Rattle.search_writer.proofs.Planting.{grew_on, grew_more, node_makes, mismatch_leaf, up_to_end, up_to_on}
use Rattle.search_writer.proofs.put_up_to.Goals as goal

pub returns-then-ends_by : goal.returns-then-ends_by
returns-then-ends_by c =
    let a = c.args in
    (grew_more c.put_leaf.ensures.0 (omega arith), rw (up_to_end a.below (span_of a.run) (leaf to_mismatch) (sym c.ends_by.ensures ∙ c.if-ends_by.true)) c.put_leaf.ensures.1)

pub returns-else-ends_by : goal.returns-else-ends_by
returns-else-ends_by c =
    let a = c.args in
    let m = a.plan.actions.on_match in
    let d = a.plan.actions.mismatch in (
      grew_on (grew_on {n = 2} c.put_mismatch-miss.ensures.0 c.put_leaf-hit.ensures.0 (omega arith)) c.compare.ensures.0 (omega arith),
      rw (up_to_on a.below (span_of a.run) (leaf to_mismatch) (sym c.ends_by.ensures ∙ c.if-ends_by.false))
          (node_makes m d above a.run.last (leaf to_mismatch) (leaf (destination a.run.place)) (mismatch_leaf m d c.put_mismatch-miss.ensures.1) c.put_leaf-hit.ensures.1 c.compare.ensures.1),
    )
