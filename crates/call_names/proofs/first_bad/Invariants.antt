use Rattle.call_names.proofs.Search as laws
use Rattle.call_names.proofs.first_bad.Given as goal

abbrev pub invariant-loop-i : goal.invariant-loop-i
invariant-loop-i l = laws.Checking l.table l.prior l.i
