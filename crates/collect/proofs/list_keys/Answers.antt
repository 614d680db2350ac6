-- `list_keys` meets its contract: the keys listed and those of the lines left are the keys of all lines.
use Rattle.std.proofs.Common.{◌∙◌, arith}
use Rattle.collect.proofs.Listing.{raw_sizes, listing_room, listing_turn, listing_end}
use Rattle.collect.proofs.list_keys.Goals as goal

pub u32_at-requires : goal.u32_at-requires
u32_at-requires c =
    let sizes = raw_sizes c.requires in
    let room = listing_room sizes (c.loop-i.invariant c.requires) (omega arith) in
    omega arith

pub overflow_add-number : goal.overflow_add-number
overflow_add-number c =
    let sizes = raw_sizes c.requires in
    let room = listing_room sizes (c.loop-i.invariant c.requires) (omega arith) in
    omega arith

pub put_key-requires : goal.put_key-requires
put_key-requires c = let sizes = raw_sizes c.requires in omega arith

pub past_entry-p-requires : goal.past_entry-p-requires
past_entry-p-requires c =
    let sizes = raw_sizes c.requires in
    let room = listing_room sizes (c.loop-i.invariant c.requires) (omega arith) in
    omega arith

pub loop-i-preserved : goal.loop-i-preserved
loop-i-preserved c = λ h. rw c.past_entry-p.ensures (listing_turn (raw_sizes h) (c.loop-i.invariant h) (omega arith) _ _ (c.from-number.ensures ∙ c.u32_at.ensures) c.put_key.ensures.0 c.put_key.ensures.1 c.put_key.auto.s)

pub returns : goal.returns
returns c = λ h. listing_end (raw_sizes h) (c.loop-i.invariant h) (omega arith)
