-- `first_bad` meets its contract: slot by slot, as long as one has a name behind the name in front of it.
use Rattle.std.proofs.Common.{◌<◌, ◌*◌, ◌/◌, ◌≡◌, sym, ◌∙◌, ap, arith, length}
use Rattle.call_names.proofs.Search as laws
use Rattle.call_names.proofs.first_bad.Goals as goal
use Rattle.call_names.proofs.first_bad.Goals.{then-not-is_named-via-then-not-is_named, then-not-is_named-via-else-not-is_named+then-ge}

pub loop-i-init : goal.loop-i-init
loop-i-init c = laws.check_start c.args.table.now

pub returns-then-not-is_named : goal.returns-then-not-is_named
returns-then-not-is_named c =
    let inside : c.loop-i.i < length c.args.table.now / 32 = omega (arith, c.as_chunks.ensures.front_len, c.loop-i-test.true) in
    let slot = laws.slot_is c.args.table.now _ c.loop-i.i c.as_chunks.ensures.front inside in (
      elim c.then-not-is_named.branch [
        | then-not-is_named-via-then-not-is_named w ↦ laws.check_unnamed _ _ _ _ c.loop-i.invariant inside slot (sym w.if-not-is_named.ensures)
        | then-not-is_named-via-else-not-is_named+then-ge w ↦ laws.check_order _ _ _ _ c.loop-i.invariant inside slot (sym w.if-not-is_named.ensures) (sym w.if-ge.ensures)
      ],
      omega (arith, inside),
    )

pub loop-i-preserved : goal.loop-i-preserved
loop-i-preserved c =
    let inside : c.loop-i.i < length c.args.table.now / 32 = omega (arith, c.as_chunks.ensures.front_len, c.loop-i-test.true) in
    let slot = laws.slot_is c.args.table.now _ c.loop-i.i c.as_chunks.ensures.front inside in
    laws.check_turn _ _ _ _ c.loop-i.invariant inside slot (sym c.if-not-is_named.ensures) (sym c.if-ge.ensures)

pub returns : goal.returns
returns c =
    let last : c.loop-i.i ≡ length c.args.table.now / 32 = omega (arith, c.as_chunks.ensures.front_len, c.loop-i.auto.i-end, c.loop-i-test.false) in
    (ap (λ n. 32 * n) c.as_chunks.ensures.front_len ∙ laws.check_end _ _ (rw last at c.loop-i.invariant), omega (arith, c.as_chunks.ensures.front_len))
