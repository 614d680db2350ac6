-- `follows` meets its contract: both sides of the test are numbers of 64 bits, so that no number follows the highest.
use mathlib.Core.Path.{refl, sym, ◌∙◌}
use native.Mathlib.Omega.{arith}
use Rattle.search_bodies.proofs.Bodies.{entry_room}
use Rattle.set_view.proofs.Walk.{plain_is}
use Rattle.spans.proofs.follows.Goals as goal

pub u32_at-requires : goal.u32_at-requires
u32_at-requires c =
    let a = c.args in
    let s = a.s.now in
    let p = plain_is s a.left a.at (sym c.plain_here.ensures ∙ c.if-plain_here.true) in
    omega (arith, entry_room s a.left a.at _ p.0 refl c.requires.0)
