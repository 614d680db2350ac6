-- `scan_entries` meets its contract.
use mathlib.Core.Path.{ap, sym, ◌∙◌}
use native.Mathlib.Omega.{arith}
use Rattle.judge.specs.Walk.{turn_of}
use Rattle.judge.proofs.Walk.{turns_done}
use Rattle.judge.proofs.scan_entries.Goals as goal

pub returns : goal.returns
returns c = (turns_done _ _ _ c.loop-turn-test.false ∙ sym (ap turn_of c.loop-turn.invariant.told), omega arith)
