-- A filter that the kernel takes is never stuck, so a run of it over a call of 64 bytes always answers 0, with an action.
use Prim.Native.Nat.{◌%◌}
use lib.Dec.{eqb}
use lib.ListN.{length}
use borrow.Author.Tests.{eq-eqb}
use Rattle.definitions.specs.Machine.{filter_of, call_of}
use Rattle.definitions.specs.Kernel.{accepts, accepts_bytes}
use Rattle.definitions.specs.Outcome.{outcome_of}
use Rattle.theorems.proofs.Tests.{both_true}
use Rattle.theorems.proofs.Safe.{safe}
use Rattle.theorems.specs.Statements.{Answered}

pub answered : Answered
unfolding outcome_of accepts_bytes
answered filter call t size =
    let whole = both_true (eqb (length filter % 8) 0) (accepts (filter_of filter)) t in
    let end = safe (filter_of filter) whole.1 (call_of call) in
    (end.0, rw (eq-eqb (length call) 64 size, t, end.1))
