-- `value_there` meets its contract: one field more is known of the line.
use mathlib.Core.Path.{refl}
use native.Mathlib.Omega.{arith}
use Rattle.json_scan.proofs.Telling.{refused}
use Rattle.json_lines.proofs.Calls.{slots_of}
use Rattle.json_lines.proofs.Fields.{with_call, with_args, with_comment, call_stopped, args_stopped, comment_stopped}
use Rattle.json_lines.proofs.Steps.{handed}
use Rattle.json_lines.proofs.value_there.Goals as goal

pub returns-in_err-call-in-0 : goal.returns-in_err-call-in-0
returns-in_err-call-in-0 c = (λ raw₀ ts n h. handed _ _ c.from_residual.ensures.1 (call_stopped (slots_of c.args.table.now) c.in-0.is c.in_err-call-in-0.ensures (refused _)), refl)

pub returns-in_ok-call-in-0 : goal.returns-in_ok-call-in-0
returns-in_ok-call-in-0 c = (λ raw₀ ts n h. with_call h c.in-0.is c.in_ok-call-in-0.ensures, refl)

pub returns-in_err-args-in-1 : goal.returns-in_err-args-in-1
returns-in_err-args-in-1 c = (λ raw₀ ts n h. handed _ _ c.from_residual-in_err-args-in-1.ensures.1 (args_stopped (slots_of c.args.table.now) c.in-1.is (c.in_err-args-in-1.ensures.0 (slots_of c.args.table.now)) (refused _)), c.in_err-args-in-1.ensures.1)

pub returns-in_ok-args-in-1 : goal.returns-in_ok-args-in-1
returns-in_ok-args-in-1 c = (λ raw₀ ts n h. with_args h c.in-1.is (c.in_ok-args-in-1.ensures.0 (slots_of c.args.table.now)), c.in_ok-args-in-1.ensures.1)

pub returns-in_err-comment-in_default : goal.returns-in_err-comment-in_default
returns-in_err-comment-in_default c = (λ raw₀ ts n h. handed _ _ c.from_residual-in_err-comment-in_default.ensures.1 (comment_stopped (slots_of c.args.table.now) (omega (arith, c.requires.4)) c.in_err-comment-in_default.ensures (refused _)), refl)

pub returns-in_ok-comment-in_default : goal.returns-in_ok-comment-in_default
returns-in_ok-comment-in_default c = (λ raw₀ ts n h. with_comment h (omega (arith, c.requires.4)) c.in_ok-comment-in_default.ensures, refl)
