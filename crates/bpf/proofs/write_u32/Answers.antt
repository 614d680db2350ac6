-- `write_u32` meets its contract: its four stores are one `place`.
use native.Mathlib.Omega.{arith}
use lib.ListN.{length-set}
use Rattle.definitions.specs.Word.{bytes_of}
use Rattle.bpf.proofs.Buffer.{stores_4}
use Rattle.bpf.proofs.write_u32.Goals as goal

pub bounds-out-at-2 : goal.bounds-out-at-2
bounds-out-at-2 c = simp length-set (omega arith)

pub bounds-out-at-3 : goal.bounds-out-at-3
bounds-out-at-3 c = simp length-set (omega arith)

pub bounds-out-at-4 : goal.bounds-out-at-4
bounds-out-at-4 c = simp length-set (omega arith)

pub returns : goal.returns
unfolding bytes_of
returns c = stores_4 _ _ _ _ _ _ (omega arith)
