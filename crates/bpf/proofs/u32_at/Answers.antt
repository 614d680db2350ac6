-- `u32_at` meets its contract: the sum over the four bytes is the number that they write.
use native.Mathlib.Omega.{arith}
use Rattle.bpf.proofs.Buffer.{number_4}
use Rattle.bpf.proofs.u32_at.Goals as goal

pub returns : goal.returns
returns c =
    let p = c in
    omega (arith, number_4 p.args.s.now p.args.at p.requires)
