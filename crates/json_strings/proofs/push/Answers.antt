-- src/lib.rt:25:9
use native.Mathlib.Omega.{arith}
use Rattle.json_strings.proofs.Storing as laws
use Rattle.json_strings.proofs.push.Goals as goal

-- src/lib.rt:21:1
pub returns-else-at-out : goal.returns-else-at-out
returns-else-at-out c = laws.push_none _ _ _ (omega arith)
