-- `put_planted` meets its contract: the tree of all runs, with the code of the rules as its ground.
use mathlib.Core.Path.{sym, ap}
use Rattle.std.proofs.Common.{rules}
use native.Mathlib.Omega.{arith}
use Rattle.definitions.specs.Word.{number_at}
use Rattle.set_view.specs.declared.Actions.{Actions}
use Rattle.search_bodies.proofs.Bodies.{bodies_there, entries_eight}
use Rattle.spans.proofs.Reading.{spans_there}
use Rattle.search_writer.proofs.Planted.{planted_bodies, planted_there}
use Rattle.search_writer.proofs.put_planted.Goals as goal

pub returns-then-n-eq0 : goal.returns-then-n-eq0
returns-then-n-eq0 c =
    let a = c.args in
    let given = c.requires in
    (omega (arith, given.total_value), λ z w. rw (planted_bodies a.s.now a.n c.if-n-eq0.true) (given.total_value.0, w))

pub put_tree-tree-requires : goal.put_tree-tree-requires
put_tree-tree-requires c =
    let a = c.args in
    let given = c.requires in
    let s = a.s.now in
    let b = bodies_there s a.n 16 (number_at 4 s 8) (number_at 4 s 4) in
    let t = spans_there s a.n 16 c.if-n-eq0.false in
    let e = entries_eight s a.n 16 in
    record { stands = (record { inside = given.end_in_bounds.3; size = given.end_in_bounds.2; place = sym given.total_value.0 }, omega (arith, c.count_runs-runs.ensures), omega arith, λ z. omega (arith, c.count_runs-runs.ensures)); ready = record { room = given.end_in_bounds.0; hit = search rules; miss = (omega arith, omega (arith, given.total_value)); small = omega (arith, given.end_in_bounds, given.total_value, c.count_runs-runs.ensures) } }

pub returns : goal.returns
returns c =
    let a = c.args in
    let given = c.requires in
    let s = a.s.now in
    let e = entries_eight s a.n 16 in (
      omega (arith, c.put_tree-tree.ensures.0.most, given.end_in_bounds, given.total_value, c.count_runs-runs.ensures),
      planted_there s a.n a.total c.count_runs-runs.result _ _ (ap (λ (x : Actions). x.on_match) c.actions_here.ensures) (ap (λ (x : Actions). x.mismatch) c.actions_here.ensures) given.total_value.0 c.count_runs-runs.ensures.0 (c.put_tree-tree.ensures.1 c.count_runs-runs.result (omega arith)),
    )
