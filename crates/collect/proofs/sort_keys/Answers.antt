-- `sort_keys` meets its contract: what is lent comes back sorted, and what stands in front is as it was.
use mathlib.Core.Path.{ap, ◌∙◌}
use Rattle.sort.specs.Sorted.{sorted}
use Rattle.collect.proofs.Parts.{part_keys, back_keys, back_front}
use Rattle.collect.proofs.sort_keys.Goals as goal

pub returns : goal.returns
returns c = (back_keys c.args.s.now c.args.t c.args.n c.requires c.sort.new.s c.sort.auto.s ∙ c.sort.ensures ∙ ap sorted (part_keys c.args.s.now c.args.t c.args.n c.requires), back_front c.args.s.now c.args.t c.args.n c.requires c.sort.new.s c.sort.auto.s)
