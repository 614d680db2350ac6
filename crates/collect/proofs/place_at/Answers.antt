-- `place_at` meets its contract: what is lent are the keys.
use mathlib.Core.Path.{ap, ◌∙◌}
use Prim.Native.Nat.{ℕ, ◌%◌}
use lib.ListN.{get_or}
use mathlib.Core.List.{List}
use Rattle.collect.proofs.Parts.{part_keys}
use Rattle.collect.proofs.place_at.Goals as goal

pub returns : goal.returns
returns c = ap (λ (k : ℕ). k % 4294967296) (c.key_at.ensures ∙ ap (λ (l : List ℕ). get_or l c.args.i 0) (part_keys c.args.s.now c.args.t c.args.n c.requires.1))
