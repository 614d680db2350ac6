use Prim.Native.Nat.{◌-◌}
use lib.ListN.{take, drop}
use Rattle.json_numbers.proofs.Counting as laws
use Rattle.json_numbers.proofs.read_natural.Given as goal

abbrev pub invariant-loop-b : goal.invariant-loop-b
invariant-loop-b l = laws.Reading (take (l.to - l.from) (drop l.from l.text)) l.most l.b-index l.value
