-- `scan_entry` meets its contract: what its rules are told on top of is what the entry adds itself.
use mathlib.Core.Path.{◌∙◌}
use Prim.Native.Nat.{◌-◌}
use native.Mathlib.Omega.{arith}
use Rattle.judge.specs.Walk.{sum}
use Rattle.judge.proofs.Walk.{turn_none, entry_short, entry_stop, entry_there, entry_turn}
use Rattle.judge.proofs.scan_entry.Goals as goal

pub returns-then-s-from : goal.returns-then-s-from
returns-then-s-from c = turn_none _ _ c.args.from c.requires.2 (entry_short _ _ c.if-s-from.true)

pub returns-in_err-scan : goal.returns-in_err-scan
returns-in_err-scan c =
    let t = c.args.from in
    rw c.from_residual.ensures
    (turn_none _ _ t c.requires.2 (entry_stop _ _ c.if-s-from.false (c.args.all - t.left) (sum t.count t.least t.fits t.fault) (c.in_err-scan.ensures.same ∙ rw (c.around_rules.ensures.0, c.note.ensures, c.fault.ensures, c.number_at-number.ensures.0, c.u32_at-rules.ensures))))

pub returns : goal.returns
returns c =
    let t = c.args.from in
    let there = entry_there c.args.s.now t.past c.if-s-from.false (c.args.all - t.left) (sum t.count t.least t.fits t.fault) c.in_ok-scan.scan (c.in_ok-scan.ensures.same ∙ rw (c.around_rules.ensures.0, c.note.ensures, c.fault.ensures, c.number_at-number.ensures.0, c.u32_at-rules.ensures)) in
    record {
      same = entry_turn _ _ _ _ _ there.0 c.in_ok-scan.scan c.requires.2 c.requires.1 there.1 there.2 there.3 ∙ rw (c.fitting.ensures, c.number_at-number.ensures.0);
      inside = c.in_ok-scan.ensures.inside;
      fewer = omega arith;
    }
