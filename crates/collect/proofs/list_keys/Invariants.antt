-- `list_keys` meets its contract: the keys listed and those of the lines left are the keys of all lines.
use Rattle.collect.specs.Raw.{Raw}
use Rattle.collect.proofs.Listing.{Listing}
use Rattle.collect.proofs.list_keys.Given as goal

abbrev pub invariant-loop-i : goal.invariant-loop-i
invariant-loop-i l = (h : Raw l.initial.s l.t l.n 0) → Listing h.entries l.initial.s l.s l.t l.n l.p l.i
