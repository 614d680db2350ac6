-- `args_there` meets its contract.
use mathlib.Core.Path.{refl, sym, ◌∙◌}
use native.Mathlib.Omega.{arith}
use Rattle.definitions.specs.FormReader.{judges_of}
use Rattle.json_scan.proofs.Telling.{refused}
use Rattle.json_lines.proofs.Args.{args_null, args_stopped, args_empty, args_filled}
use Rattle.json_lines.proofs.Steps.{handed, no_value}
use Rattle.json_lines.proofs.args_there.Goals as goal

pub returns-in_err-null : goal.returns-in_err-null
returns-in_err-null c = (λ slots. handed _ _ c.from_residual.ensures.1 (args_null (judges_of slots) (sym c.if-stands.true ∙ c.stands.ensures) c.in_err-null.ensures (no_value _ _ _ c.from_residual.ensures.1)), refl)

pub returns-then-stands : goal.returns-then-stands
returns-then-stands c = (λ slots. args_null (judges_of slots) (sym c.if-stands.true ∙ c.stands.ensures) c.in_ok-null.ensures (refl, refl), refl)

pub returns-in_err-args : goal.returns-in_err-args
returns-in_err-args c = (λ slots. handed _ _ c.from_residual-in_err-args.ensures.1 (args_stopped slots (sym c.if-stands.false ∙ c.stands.ensures) (c.in_err-args.ensures.0 slots) (refused _)), c.in_err-args.ensures.1)

pub returns-in-0 : goal.returns-in-0
returns-in-0 c = (λ slots. args_empty slots (sym c.if-stands.false ∙ c.stands.ensures) (c.in_ok-args.ensures.0 slots) refl c.requires.0 c.in-0.is, c.in_ok-args.ensures.1)

pub returns-in_default : goal.returns-in_default
returns-in_default c = (λ slots. args_filled slots (sym c.if-stands.false ∙ c.stands.ensures) (c.in_ok-args.ensures.0 slots) refl (λ e. omega arith), c.in_ok-args.ensures.1)
