-- `put_tree` meets its contract. It calls itself for both halves, each of which has fewer runs.
use mathlib.Core.Path.{◌≡◌, refl, sym, ◌∙◌}
use mathlib.Core.Bool.{not, ◌&&◌, ◌||◌}
use Prim.Native.Nat.{◌-◌, ◌/◌}
use native.Mathlib.Omega.{arith}
use lib.Dec.{leb}
use lib.ListN.{take}
use Rattle.definitions.specs.SearchForm.{at_least, node, chain, grow}
use Rattle.search_bodies.proofs.Bodies.{entry_room}
use Rattle.spans.specs.Spans.{spans_from}
use Rattle.spans.proofs.Reading.{span_left, lowest_here}
use Rattle.search_writer.proofs.Halving.{few_singles, many, upper_long, grow_few, grow_halves}
use Rattle.search_writer.proofs.Planting.{ready_after, grew_after, node_makes, block_makes}
use Rattle.search_writer.proofs.+put_tree.Goals as goal
use Rattle.search_writer.proofs.+put_tree.Goals.{then-inside, else-inside}

pub put_chain-requires : goal.put_chain-requires
put_chain-requires t c =
    let o = c.open_block-start.ensures in
    let a = c.args in
    record { stands = (c.requires.stands.0, c.requires.stands.1, omega (arith, c.requires.stands.2, o.2), few_singles a.n (spans_from a.s.now a.c) c.requires.stands.1 (sym c.is_few.ensures ∙ c.if-is_few.true)); ready = ready_after c.requires.ready o.0 o.1 (omega (arith, c.requires.stands.3, o.3)) c.open_block-start.auto.out }

pub returns-then-is_few : goal.returns-then-is_few
returns-then-is_few t c =
    let a = c.args in
    let o = c.open_block-start.ensures in
    let ss = take a.n (spans_from a.s.now a.c) in (
      grew_after c.put_chain.ensures.0 o.2 (omega (arith, o.3, c.requires.stands.3)),
      λ fuel h.
          rw (grow_few fuel a.inside a.from a.below ss (sym c.is_few.ensures ∙ c.if-is_few.true))
          (block_makes a.plan.actions.on_match a.plan.actions.mismatch (not a.inside) (chain a.from a.below ss) o.4 c.put_chain.ensures.1),
    )

pub u32_at-middle-requires : goal.u32_at-middle-requires
u32_at-middle-requires t c =
    let a = c.args in
    let s = a.s.now in
    let u = c.skip-upper.result in
    let two = many a.n (spans_from s a.c) c.requires.stands.1 (sym c.is_few.ensures ∙ c.if-is_few.false) in
    let long = upper_long a.n (spans_from s a.c) (spans_from s u) c.requires.stands.1 c.skip-upper.ensures.1 in
    let some = span_left s u 1 (λ e. omega arith) (omega arith) in
    omega (arith, entry_room s u.left u.at _ some refl c.skip-upper.ensures.0.inside)

pub put_tree-hit-requires : goal.put_tree-hit-requires
put_tree-hit-requires t c =
    let a = c.args in
    let s = a.s.now in
    let o = c.open_block-start-2.ensures in
    let two = many a.n (spans_from s a.c) c.requires.stands.1 (sym c.is_few.ensures ∙ c.if-is_few.false) in (
      omega arith,
      (
        (
          c.skip-upper.ensures.0,
          upper_long a.n (spans_from s a.c) (spans_from s c.skip-upper.result) c.requires.stands.1 c.skip-upper.ensures.1,
          omega (arith, c.skip-upper.ensures.2, c.requires.stands.2, o.2),
          λ e. omega arith,
        ),
        ready_after c.requires.ready o.0 o.1 (omega (arith, o.3)) c.open_block-start-2.auto.out,
      ),
    )

pub put_tree-miss-requires : goal.put_tree-miss-requires
put_tree-miss-requires t c =
    let a = c.args in
    let s = a.s.now in
    let o = c.open_block-start-2.ensures in
    let g = c.put_tree-hit.ensures.0 in
    let two = many a.n (spans_from s a.c) c.requires.stands.1 (sym c.is_few.ensures ∙ c.if-is_few.false) in (
      omega arith,
      (
        (
          c.requires.stands.0,
          omega (arith, c.requires.stands.1),
          omega (arith, c.requires.stands.2, o.2, g.less),
          λ e. omega arith,
        ),
        ready_after c.requires.ready g.hit g.miss (omega (arith, g.most, o.3)) (c.put_tree-hit.auto.out ∙ c.open_block-start-2.auto.out),
      ),
    )

pub returns : goal.returns
returns t c =
    let a = c.args in
    let s = a.s.now in
    let o = c.open_block-start-2.ensures in
    let g = c.put_tree-hit.ensures in
    let h = c.put_tree-miss.ensures in
    let xs = spans_from s a.c in
    let u = c.skip-upper.result in
    let ys = spans_from s u in
    let n = a.n in
    let m = a.plan.actions.on_match in
    let d = a.plan.actions.mismatch in
    let not_few = sym c.is_few.ensures ∙ c.if-is_few.false in
    let two = many n xs c.requires.stands.1 not_few in
    let long = upper_long n xs ys c.requires.stands.1 c.skip-upper.ensures.1 in
    let some = span_left s u 1 (λ e. omega arith) (omega arith) in
    let low = lowest_here s u.left u.at some ∙ sym c.u32_at-middle.ensures in
    let middle = c.u32_at-middle.result in
    let within = c.if-inside.within in
    let around : within ≡ (a.inside || leb n 5) =
    elim c.if-inside.branch [ then-inside w ↦ rw (w.within-is, w.if-inside.true) | else-inside w ↦ rw (w.within-is, w.if-inside.false) ]
    in (
      grew_after c.compare.ensures.0 (omega (arith, g.0.less, h.0.less, o.2)) (omega (arith, g.0.most, h.0.most, o.3)),
      λ fuel f.
          rw (grow_halves fuel a.inside within a.from a.below middle n xs ys not_few c.requires.stands.1 f c.skip-upper.ensures.1 low around)
          (block_makes m d (leb n 5 && not a.inside)
          (node at_least middle (grow (fuel - 1) within middle a.below (take (n - n / 2) ys)) (grow (fuel - 1) within a.from middle (take (n / 2) xs)))
          o.4
          (node_makes m d at_least middle (grow (fuel - 1) within middle a.below (take (n - n / 2) ys)) (grow (fuel - 1) within a.from middle (take (n / 2) xs))
          (g.1 (fuel - 1) (omega arith)) (h.1 (fuel - 1) (omega arith)) c.compare.ensures.1)),
    )
