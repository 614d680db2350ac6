-- `collect` meets its contract: keys listed, sorted, and their lines written in that order are the lines, collected.
use mathlib.Core.Path.{◌∙◌}
use native.Mathlib.Omega.{arith}
use Rattle.collect.proofs.Listing.{raw_sizes}
use Rattle.collect.proofs.Sorting.{raw_first, raw_keyed, raw_collected, raw_none}
use Rattle.collect.proofs.collect.Goals as goal

pub returns-then-n-eq0 : goal.returns-then-n-eq0
returns-then-n-eq0 c = λ h. raw_none h c.if-n-eq0.true

pub sort_keys-requires : goal.sort_keys-requires
sort_keys-requires c = omega (arith, (raw_sizes c.requires).few, (raw_sizes c.requires).long, (raw_sizes c.requires).small, c.list_keys.auto.s)

pub write_groups-requires : goal.write_groups-requires
write_groups-requires c =
    raw_keyed c.requires _ _ (c.list_keys.ensures (raw_first c.requires)) c.sort_keys.ensures.0 c.sort_keys.ensures.1 (c.sort_keys.auto.s ∙ c.list_keys.auto.s) (omega arith)

pub returns : goal.returns
returns c = λ h.
    let listed = c.list_keys.ensures (raw_first h) in
    let long = c.sort_keys.auto.s ∙ c.list_keys.auto.s in
    raw_collected h _ _ listed c.sort_keys.ensures.0 c.sort_keys.ensures.1 long (omega arith) _ _ _
    (c.write_groups.ensures (raw_keyed h _ _ listed c.sort_keys.ensures.0 c.sort_keys.ensures.1 long (omega arith)))
