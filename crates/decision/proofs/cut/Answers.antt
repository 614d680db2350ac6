-- `cut` meets its contract, width by width.
use Rattle.decision.proofs.cut.Goals as goal

pub returns-in-Dword : goal.returns-in-Dword
returns-in-Dword c = rw c.in-Dword.is
