-- `add_condition` meets its contract: the condition is put behind the set, and the open rule's count of conditions is raised.
use mathlib.Core.Path.{ap, ◌∙◌}
use mathlib.Core.List.{List}
use Prim.Native.Nat.{ℕ}
use native.Mathlib.Omega.{arith}
use Rattle.writers.proofs.Stores.{raised}
use Rattle.writers.proofs.Writers.{coded, added}
use Rattle.writers.proofs.add_condition.Goals as goal

pub returns : goal.returns
returns c =
    let code = coded c.args.index c.args.width c.args.operator c.args.value c.args.mask _ _ _ _ c.verdict-why.ensures c.condition_good-good.ensures in
    added c.args.index c.args.width c.args.operator c.args.value c.args.mask (omega arith) (omega arith) (omega arith) (cc) (c.raise.ensures ∙ ap (λ (l : List ℕ). raised l c.args.w.rule) c.write_condition.ensures)
