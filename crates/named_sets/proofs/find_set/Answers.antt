-- `find_set` meets its contract: from each place on the walk comes to what the whole walk comes to.
use Rattle.std.proofs.Common.{◌∙◌, sym, arith}
use Rattle.named_sets.proofs.Naming as naming
use Rattle.named_sets.proofs.find_set.Goals as goal
use Rattle.named_sets.proofs.find_set.Goals.{then-found-ne0-via-then-found-ne0, then-found-ne0-via-else-found-ne0+then-is_named}

pub loop-at-init : goal.loop-at-init
loop-at-init c = naming.walk_start c.args.sets.now c.args.name.now

pub is_named-requires : goal.is_named-requires
is_named-requires c = (naming.walk_inside _ _ _ _ c.next_set-found.ensures c.loop-at.invariant c.if-found-ne0.false).name

pub returns-then-found-ne0 : goal.returns-then-found-ne0
returns-then-found-ne0 c = elim c.then-found-ne0.branch [
  | then-found-ne0-via-then-found-ne0 w ↦ naming.walk_none _ _ _ _ c.next_set-found.ensures c.loop-at.invariant w.if-found-ne0.true
  | then-found-ne0-via-else-found-ne0+then-is_named w ↦ naming.walk_found _ _ _ _ c.next_set-found.ensures c.loop-at.invariant (sym w.is_named.ensures ∙ w.if-is_named.true)
]

pub loop-at-smaller : goal.loop-at-smaller
loop-at-smaller c =
    let further = naming.walk_further _ _ _ _ c.next_set-found.ensures c.loop-at.invariant c.if-found-ne0.false in
    let inside = naming.walk_inside _ _ _ _ c.next_set-found.ensures c.loop-at.invariant c.if-found-ne0.false in
    omega arith

pub loop-at-preserved : goal.loop-at-preserved
loop-at-preserved c = naming.walk_on _ _ _ _ c.next_set-found.ensures c.loop-at.invariant c.if-found-ne0.false (sym c.is_named.ensures ∙ c.if-is_named.false)
