-- `long_entry` meets its contract. The loop's invariant: what is left of the halving, from here on, is the whole.
use mathlib.Core.Path.{◌≡◌, sym, ◌∙◌}
use mathlib.Core.Bool.{Bool, true, false, cond}
use Prim.Native.Nat.{◌+◌, ◌-◌, ◌/◌, ◌≤◌}
use native.Mathlib.Omega.{arith}
use Rattle.search_writer.proofs.Turning.{half_width, halved_turn, halved_end}
use Rattle.search_writer.proofs.long_entry.Invariants.{short_by}
use Rattle.search_writer.proofs.long_entry.Goals as goal
use Rattle.search_writer.proofs.long_entry.Goals.{then-is_short, else-is_short}

pub loop-preserved : goal.loop-preserved
loop-preserved c =
    let left = 17 - c.loop.counter in
    let some : left ≡ 0 → ⊥ = λ e. omega arith in
    let less : left - 1 ≡ 17 - (c.loop.counter + 1) = omega arith in
    let f = short_by c.args.s.now in
    let more = c.loop.short + c.loop.width / 2 in
    let turned : c.if-is_short.short ≡ cond (f more) more c.loop.short =
    elim c.if-is_short.branch [
      | then-is_short w ↦ rw (w.short-is, ← c.is_short.ensures, w.if-is_short.true)
      | else-is_short w ↦ rw (w.short-is, ← c.is_short.ensures, w.if-is_short.false)
    ]
    in (
      rw (← less) (half_width left c.loop.width some c.loop.invariant.0),
      go (f more) turned,
      rw (← less, turned) (sym (halved_turn f left c.loop.width c.loop.short some c.loop.invariant.0) ∙ c.loop.invariant.2),
    )
  where
    go : (t : Bool) → c.if-is_short.short ≡ cond t (c.loop.short + c.loop.width / 2) c.loop.short → c.if-is_short.short + c.loop.width / 2 ≤ 131072
    go true e = omega (arith, c.loop.invariant.1)
    go false e = omega (arith, c.loop.invariant.1)

pub returns : goal.returns
returns c =
    let none : 17 - c.loop.counter ≡ 0 = omega arith in
    sym (halved_end (short_by c.args.s.now) (17 - c.loop.counter) c.loop.short none) ∙ c.loop.invariant.2
