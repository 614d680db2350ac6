-- `put_key` meets its contract: what is lent comes back with one key set, and what stands in front is as it was.
use mathlib.Core.Path.{ap, ◌∙◌}
use Prim.Native.Nat.{ℕ}
use lib.ListN.{set}
use mathlib.Core.List.{List}
use Rattle.collect.proofs.Parts.{part_keys, back_keys, back_front}
use Rattle.collect.proofs.put_key.Goals as goal

pub returns : goal.returns
returns c = (back_keys c.args.s.now c.args.t c.args.n c.requires.1 c.put_key.new.s c.put_key.auto.s ∙ c.put_key.ensures ∙ ap (λ (l : List ℕ). set l c.args.i c.args.k) (part_keys c.args.s.now c.args.t c.args.n c.requires.1), back_front c.args.s.now c.args.t c.args.n c.requires.1 c.put_key.new.s c.put_key.auto.s)
