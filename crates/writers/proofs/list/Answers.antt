-- `list` meets its contract: the entry is put behind the set, and the count of entries is raised.
use mathlib.Core.Path.{ap, ◌∙◌}
use mathlib.Core.List.{List}
use Prim.Native.Nat.{ℕ}
use native.Mathlib.Omega.{arith}
use Rattle.writers.proofs.Stores.{raised}
use Rattle.writers.proofs.Writers.{listed}
use Rattle.writers.proofs.list.Goals as goal

pub returns : goal.returns
returns c = listed (omega arith) (cc) (c.raise.ensures ∙ ap (λ (l : List ℕ). raised l 12) c.write_entry.ensures)
