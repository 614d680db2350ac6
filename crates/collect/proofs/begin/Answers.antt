-- `begin` meets its contract: an entry is copied as it stands.
use Rattle.std.proofs.Common.{◌∙◌}
use Rattle.collect.proofs.Parts.{copied}
use Rattle.collect.proofs.begin.Goals as goal

pub returns : goal.returns
returns c =
    let past = c.past_entry-past.ensures in
    (c.copy_within.ensures.after ∙ rw (← past) (copied _ _ _ _ (rw past c.requires.inside)), rw past)
