-- `put_all` meets its contract: one instruction behind the other, until all stand there.
use mathlib.Core.Path.{◌≡◌, sym}
use Prim.Native.Nat.{◌<◌}
use native.Mathlib.Omega.{arith}
use lib.ListN.{length}
use Rattle.std.proofs.lemmas.List.{take_more, take_all, length-take-le}
use Rattle.definitions.specs.Machine.{filter_bytes}
use Rattle.bpf.proofs.Buffer.{place_nil, put_next, put_at}
use Rattle.condition.proofs.put_all.Goals as goal

pub loop-instruction-init : goal.loop-instruction-init
unfolding filter_bytes
loop-instruction-init g c = (omega arith, sym (place_nil _ _))

pub loop-instruction-preserved : goal.loop-instruction-preserved
loop-instruction-preserved g c =
    let loop = c.loop-instruction in
    let is = c.args.instructions in
    let k = loop.instruction-index in
    let all : length is ≡ g.row.N = omega arith in
    let here : k < length is = omega arith in
    let done = length-take-le k is (omega arith) in
    (omega arith, rw (c.put.ensures, loop.invariant.1, take_more is k (record { code = 0; jt = 0; jf = 0; k = 0 }) here) (put_next _ _ _ _ _ (omega (arith, done)) (omega arith)))

pub returns : goal.returns
returns g c =
    let is = c.args.instructions in
    let all : length is ≡ g.row.N = omega arith in
    put_at (omega arith) (rw (c.loop-instruction.invariant.1, take_all c.loop-instruction.instruction-index is (omega arith)))
