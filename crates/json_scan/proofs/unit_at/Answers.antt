use mathlib.Core.Path.{sym}
use native.Mathlib.Omega.{arith}
use Rattle.json_scan.proofs.Scanning as laws
use Rattle.json_scan.proofs.unit_at.Goals as goal

pub returns-in_err-p : goal.returns-in_err-p
returns-in_err-p c = rw c.from_residual.ensures (laws.unit_first c.args.text.now c.args.at (laws.no_digit_here (sym c.byte.ensures) c.in_err-p.ensures.0), tt)

pub returns-in_err-q : goal.returns-in_err-q
returns-in_err-q c = rw c.from_residual-in_err-q.ensures (laws.unit_second c.args.text.now c.args.at _ (laws.digit_here (sym c.byte.ensures) c.in_ok-p.ensures.0) (laws.no_digit_here (sym c.byte-2.ensures) c.in_err-q.ensures.0), tt)

pub returns-in_err-r : goal.returns-in_err-r
returns-in_err-r c = rw c.from_residual-in_err-r.ensures (laws.unit_third c.args.text.now c.args.at _ _ (laws.digit_here (sym c.byte.ensures) c.in_ok-p.ensures.0) (laws.digit_here (sym c.byte-2.ensures) c.in_ok-q.ensures.0) (laws.no_digit_here (sym c.byte-3.ensures) c.in_err-r.ensures.0), tt)

pub returns-in_err-s : goal.returns-in_err-s
returns-in_err-s c = rw c.from_residual-in_err-s.ensures (laws.unit_fourth c.args.text.now c.args.at _ _ _ (laws.digit_here (sym c.byte.ensures) c.in_ok-p.ensures.0) (laws.digit_here (sym c.byte-2.ensures) c.in_ok-q.ensures.0) (laws.digit_here (sym c.byte-3.ensures) c.in_ok-r.ensures.0) (laws.no_digit_here (sym c.byte-4.ensures) c.in_err-s.ensures.0), tt)

pub returns : goal.returns
returns c = (laws.unit_whole c.args.text.now c.args.at _ _ _ _ (laws.digit_here (sym c.byte.ensures) c.in_ok-p.ensures.0) (laws.digit_here (sym c.byte-2.ensures) c.in_ok-q.ensures.0) (laws.digit_here (sym c.byte-3.ensures) c.in_ok-r.ensures.0) (laws.digit_here (sym c.byte-4.ensures) c.in_ok-s.ensures.0), omega (arith, c.in_ok-p.ensures.1, c.in_ok-q.ensures.1, c.in_ok-r.ensures.1, c.in_ok-s.ensures.1))
