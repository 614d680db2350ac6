-- `open_block` meets its contract.
use mathlib.Core.Bool.{not, ◌&&◌}
use native.Mathlib.Omega.{arith}
use Rattle.search_writer.proofs.Planting.{open_none, open_some}
use Rattle.search_writer.proofs.open_block.Goals as goal
use Rattle.search_writer.proofs.open_block.Goals.{else-fits-via-then-fits+else-not-inside, else-fits-via-else-fits}

pub returns-then-not-inside : goal.returns-then-not-inside
returns-then-not-inside c =
    let g = c.put_mismatch.ensures.0 in
    (g.hit, g.miss, g.less, g.most, open_some (c.args.fits && not c.args.inside) c.args.plan.actions.mismatch (rw (c.if-fits.true, c.if-not-inside.true)) c.put_mismatch.ensures.1)

pub returns-else-fits : goal.returns-else-fits
returns-else-fits c = (
  c.requires.hit,
  c.requires.miss,
  omega arith,
  omega arith,
  open_none (c.args.fits && not c.args.inside) c.args.plan.actions.mismatch
      (elim c.else-fits.branch [
        | else-fits-via-then-fits+else-not-inside w ↦ rw (w.if-fits.true, w.if-not-inside.false)
        | else-fits-via-else-fits w ↦ rw w.if-fits.false
      ]),
)
