-- `write_others` meets its contract: each turn adds one line.
use Rattle.collect.specs.Raw.{FirstWritten, Writing}
use Rattle.collect.proofs.write_others.Given as goal

abbrev pub invariant-loop-i : goal.invariant-loop-i
invariant-loop-i l = (h : FirstWritten l.initial.s l.t l.n l.initial.w) → Writing h.keyed.line h.before l.s l.t l.n h.at l.w l.i
