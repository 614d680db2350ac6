use mathlib.Core.Path.{ap, sym, ◌∙◌}
use native.Mathlib.Omega.{arith}
use Rattle.json_scan.specs.Scan.{option_of}
use Rattle.json_numbers.proofs.Counting as laws
use Rattle.json_numbers.proofs.read_natural.Goals as goal
use Rattle.json_numbers.proofs.read_natural.Goals.{then-most-value-via-then-most-value, then-most-value-via-else-most-value+then-most-value-2}

pub loop-b-init : goal.loop-b-init
loop-b-init c = record { small = omega arith; left = laws.natural_start c.args.most _ }

pub returns-then-not-is_digit : goal.returns-then-not-is_digit
returns-then-not-is_digit c = ap option_of (sym (laws.not_digit _ c.args.most c.loop-b.b-index c.loop-b.value (omega arith) c.loop-b.invariant (sym c.is_digit.ensures ∙ c.if-not-is_digit.true)))

pub returns-then-most-value : goal.returns-then-most-value
returns-then-most-value c =
    elim c.then-most-value.branch [
      | then-most-value-via-then-most-value w ↦ ap option_of (sym (laws.too_large _ c.args.most c.loop-b.b-index c.loop-b.value (omega arith) c.loop-b.invariant (let h = w.if-most-value.true in omega arith)))
      | then-most-value-via-else-most-value+then-most-value-2 w ↦ ap option_of (sym (laws.too_large _ c.args.most c.loop-b.b-index c.loop-b.value (omega arith) c.loop-b.invariant (let h = w.if-most-value.false in let k = w.if-most-value-2.true in let d = c.from-digit.ensures in omega arith)))
    ]

pub loop-b-preserved : goal.loop-b-preserved
loop-b-preserved c = rw c.from-digit.ensures (laws.reading_turn _ c.args.most c.loop-b.b-index c.loop-b.value (omega arith) c.loop-b.invariant (sym c.is_digit.ensures ∙ c.if-not-is_digit.false) (let d = c.from-digit.ensures in let h = c.if-most-value.false in let k = c.if-most-value-2.false in omega arith))

pub returns : goal.returns
returns c = ap option_of (sym (laws.reading_end _ c.args.most c.loop-b.b-index c.loop-b.value (omega arith) c.loop-b.invariant))
