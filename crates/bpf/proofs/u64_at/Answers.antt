-- `u64_at` meets its contract: eight bytes are two numbers of four.
use native.Mathlib.Omega.{arith}
use Rattle.bpf.proofs.Buffer.{number_8}
use Rattle.bpf.proofs.u64_at.Goals as goal

pub returns : goal.returns
returns c =
    let p = c in
    omega (arith, number_8 p.args.s.now p.args.at p.requires)
