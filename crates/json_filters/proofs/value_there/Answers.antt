-- `value_there` meets its contract: one field more is gathered.
use native.Mathlib.Omega.{arith}
use Rattle.json_filters.proofs.Gathering.{itself, lines_value, mismatch_value, match_value, lines_stop, mismatch_stop, match_stop, untouched, front_kept}
use Rattle.json_filters.proofs.value_there.Goals as goal

pub returns-in_err-action-in-0 : goal.returns-in_err-action-in-0
returns-in_err-action-in-0 c = (mismatch_stop _ c.in-0.is c.from_residual.ensures.1 c.in_err-action-in-0.ensures, untouched _ _)

pub returns-in_ok-action-in-0 : goal.returns-in_ok-action-in-0
returns-in_ok-action-in-0 c = (mismatch_value c.in-0.is c.in_ok-action-in-0.ensures, untouched _ _)

pub returns-in_err-action-in-1 : goal.returns-in_err-action-in-1
returns-in_err-action-in-1 c = (match_stop _ c.in-1.is c.from_residual-in_err-action-in-1.ensures.1 c.in_err-action-in-1.ensures, untouched _ _)

pub returns-in_ok-action-in-1 : goal.returns-in_ok-action-in-1
returns-in_ok-action-in-1 c = (match_value c.in-1.is c.in_ok-action-in-1.ensures, untouched _ _)

pub returns-in_err-lines-in_default : goal.returns-in_err-lines-in_default
returns-in_err-lines-in_default c = (lines_stop _ (omega (arith, c.requires.2)) c.from_residual-in_err-lines-in_default.ensures.1 c.in_err-lines-in_default.ensures.0, front_kept _ _ c.in_err-lines-in_default.ensures.1 (omega (arith, c.requires.1.room)) (itself _))

pub returns-in_ok-lines-in_default : goal.returns-in_ok-lines-in_default
returns-in_ok-lines-in_default c = (lines_value (omega (arith, c.requires.2)) c.in_ok-lines-in_default.ensures.0 (omega (arith, c.requires.1.room)) (itself _), front_kept _ _ c.in_ok-lines-in_default.ensures.1 (omega (arith, c.requires.1.room)) (itself _))
