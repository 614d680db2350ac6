-- `write_others` meets its contract: each turn adds one line.
use mathlib.Core.Path.{ap, ◌∙◌}
use Prim.Native.Nat.{ℕ, ◌%◌}
use native.Mathlib.Omega.{arith}
use lib.ListN.{get_or}
use mathlib.Core.List.{List}
use Rattle.collect.proofs.Writing.{keys_kept, writing_reaches, writing_turn, writing_end}
use Rattle.collect.proofs.write_others.Goals as goal

pub add-w-requires : goal.add-w-requires
add-w-requires c = writing_reaches c.requires.keyed (c.loop-i.invariant c.requires) (omega arith) _ (c.place_at-from.ensures ∙ ap (λ (l : List ℕ). get_or l c.loop-i.i 0 % 4294967296) (keys_kept _ _ c.args.t c.args.n (c.loop-i.invariant c.requires).kept))

pub loop-i-preserved : goal.loop-i-preserved
loop-i-preserved c = λ h. writing_turn h.keyed (c.loop-i.invariant h) (omega arith) _ (c.place_at-from.ensures ∙ ap (λ (l : List ℕ). get_or l c.loop-i.i 0 % 4294967296) (keys_kept _ _ c.args.t c.args.n (c.loop-i.invariant h).kept)) _ _ c.add-w.ensures

pub returns : goal.returns
returns c = λ h. writing_end h.keyed (c.loop-i.invariant h) (omega arith)
