use mathlib.Core.Path.{ap, sym, ◌∙◌}
use mathlib.Core.Bool.{not}
use native.Mathlib.Omega.{arith}
use Prim.Native.Nat.{◌+◌}
use Rattle.std.specs.Bool.{then_some}
use Rattle.json_scan.proofs.Scanning as laws
use Rattle.json_scan.proofs.escape_count.Goals as goal
use Rattle.json_scan.proofs.escape_count.Goals.{then-byte-ne92-via-then-byte-ne92, then-byte-ne92-via-else-byte-ne92+then-byte-ne117}

pub returns-then-e-ne117 : goal.returns-then-e-ne117
returns-then-e-ne117 c = c.then_some.ensures ∙ rw (c.is_short.ensures, c.byte-e.ensures) (sym (laws.escape_letter c.args.text.now c.args.at (λ e. c.if-e-ne117.true (c.byte-e.ensures ∙ e))))

pub unit_at-requires : goal.unit_at-requires
unit_at-requires c = omega (arith, laws.inside c.args.text.now (c.args.at + 1) 0x75 (sym c.byte-e.ensures ∙ c.if-e-ne117.false) (omega arith))

pub returns-in_err-u : goal.returns-in_err-u
returns-in_err-u c = c.from_residual.ensures ∙ laws.escape_none c.args.text.now c.args.at (sym c.byte-e.ensures ∙ c.if-e-ne117.false) (laws.option_none c.in_err-u.ensures.0)

pub returns-then-not-is_high : goal.returns-then-not-is_high
returns-then-not-is_high c = c.then_some-then-not-is_high.ensures ∙ ap (λ t. then_some (not t) 6) c.is_low.ensures ∙ laws.escape_single c.args.text.now c.args.at (sym c.byte-e.ensures ∙ c.if-e-ne117.false) _ (laws.option_some c.in_ok-u.ensures.0) (sym c.is_high.ensures ∙ c.if-not-is_high.true)

pub returns-then-byte-ne92 : goal.returns-then-byte-ne92
returns-then-byte-ne92 c =
    elim c.then-byte-ne92.branch [
      | then-byte-ne92-via-then-byte-ne92 w ↦ laws.pair_6 c.args.text.now c.args.at (sym c.byte-e.ensures ∙ c.if-e-ne117.false) _ (laws.option_some c.in_ok-u.ensures.0) (sym c.is_high.ensures ∙ c.if-not-is_high.false) (λ e. w.if-byte-ne92.true (c.byte.ensures ∙ e))
      | then-byte-ne92-via-else-byte-ne92+then-byte-ne117 w ↦ laws.pair_7 c.args.text.now c.args.at (sym c.byte-e.ensures ∙ c.if-e-ne117.false) _ (laws.option_some c.in_ok-u.ensures.0) (sym c.is_high.ensures ∙ c.if-not-is_high.false) (sym c.byte.ensures ∙ w.if-byte-ne92.false) (λ e. w.if-byte-ne117.true (w.byte-else-byte-ne92.ensures ∙ e))
    ]

pub unit_at-requires-2 : goal.unit_at-requires-2
unit_at-requires-2 c = omega (arith, laws.inside c.args.text.now (c.args.at + 7) 0x75 (sym c.byte-else-byte-ne92.ensures ∙ c.if-byte-ne117.false) (omega arith))

pub returns-in_err-v : goal.returns-in_err-v
returns-in_err-v c = c.from_residual-in_err-v.ensures ∙ laws.pair_none c.args.text.now c.args.at (sym c.byte-e.ensures ∙ c.if-e-ne117.false) _ (laws.option_some c.in_ok-u.ensures.0) (sym c.is_high.ensures ∙ c.if-not-is_high.false) (sym c.byte.ensures ∙ c.if-byte-ne92.false) (sym c.byte-else-byte-ne92.ensures ∙ c.if-byte-ne117.false) (laws.option_none c.in_err-v.ensures.0)

pub returns : goal.returns
returns c = c.then_some-2.ensures ∙ ap (λ t. then_some t 12) c.is_low-2.ensures ∙ laws.pair_whole c.args.text.now c.args.at (sym c.byte-e.ensures ∙ c.if-e-ne117.false) _ (laws.option_some c.in_ok-u.ensures.0) (sym c.is_high.ensures ∙ c.if-not-is_high.false) _ (sym c.byte.ensures ∙ c.if-byte-ne92.false) (sym c.byte-else-byte-ne92.ensures ∙ c.if-byte-ne117.false) (laws.option_some c.in_ok-v.ensures.0)
