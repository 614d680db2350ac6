-- `run_all` meets its contract. The loop's invariant: the outcomes so far stand in the buffer, and what is behind them is as it was.
use mathlib.Core.Path.{sym, ◌∙◌}
use Prim.Native.Nat.{◌+◌, ◌*◌, ◌/◌, ◌≤◌, ◌<◌}
use native.Mathlib.Omega.{arith}
use lib.ListN.{length}
use Rattle.machine.proofs.Many.{chunk_in, put_behind, put_more, ran_zero}
use Rattle.machine.proofs.run_all.Goals as goal

pub run_one-requires : goal.run_one-requires
run_one-requires c = let z = ran_zero _ _ _ (sym c.ran_code-code.ensures ∙ c.if-code-ne0.false) in (z.0, omega (arith, z.1, c.as_chunks.ensures.front_len))

pub loop-i-preserved : goal.loop-i-preserved
loop-i-preserved c =
    let z = ran_zero _ _ _ (sym c.ran_code-code.ensures ∙ c.if-code-ne0.false) in
    let within : c.loop-i.i < length c.args.calls.now / 64 = omega (arith, c.as_chunks.ensures.front_len) in
    let room : 8 * c.loop-i.i + 8 ≤ length c.loop-i.out = omega (arith, z.1) in
    let put = rw (c.as_chunks.ensures.front, chunk_in (length c.args.calls.now / 64) c.loop-i.i c.args.calls.now within) at c.run_one.ensures in
    record {
      told = put_more _ _ _ _ _ room put c.loop-i.invariant.told;
      kept = put_behind _ _ _ _ _ room put _ c.loop-i.invariant.kept;
    }
