use mathlib.Core.Path.{ap, sym, ◌∙◌}
use mathlib.Core.Bool.{not}
use borrow.Author.Tests.{eq-eqb, ne_eqb, le-leb}
use Rattle.json_parts.proofs.Faults as laws
use Rattle.json_parts.proofs.escape_bad.Goals as goal

pub returns-then-byte-ne117 : goal.returns-then-byte-ne117
returns-then-byte-ne117 c = sym (laws.escape_is c.args.text.now c.args.at ∙ rw (ne_eqb _ _ (λ e. c.if-byte-ne117.true (c.byte.ensures ∙ e))))

pub returns-in_default : goal.returns-in_default
returns-in_default c = sym (laws.escape_is c.args.text.now c.args.at ∙ rw (eq-eqb _ _ (sym c.byte.ensures ∙ c.if-byte-ne117.false), laws.digit_none _ c.in_default.ensures.0))

pub returns-in_default-digit_at : goal.returns-in_default-digit_at
returns-in_default-digit_at c = sym (laws.escape_is c.args.text.now c.args.at ∙ rw (eq-eqb _ _ (sym c.byte.ensures ∙ c.if-byte-ne117.false), laws.digit_some _ _ c.in-Some.ensures.0 c.in-Some.ensures.1, laws.digit_none _ c.in_default-digit_at.ensures.0))

pub returns-then-next-ge12 : goal.returns-then-next-ge12
returns-then-next-ge12 c = sym (laws.escape_is c.args.text.now c.args.at ∙ rw (eq-eqb _ _ (sym c.byte.ensures ∙ c.if-byte-ne117.false), laws.digit_some _ _ c.in-Some.ensures.0 c.in-Some.ensures.1, laws.digit_some _ _ c.in-Some-digit_at.ensures.0 c.in-Some-digit_at.ensures.1, laws.digit_is _ _ c.in-Some.ensures.0, laws.digit_is _ _ c.in-Some-digit_at.ensures.0, eq-eqb _ _ c.if-lead-eq13.true, le-leb _ _ c.if-next-ge12.true))

pub returns-then-is_none : goal.returns-then-is_none
returns-then-is_none c = sym (laws.escape_is c.args.text.now c.args.at ∙ rw (eq-eqb _ _ (sym c.byte.ensures ∙ c.if-byte-ne117.false), laws.digit_some _ _ c.in-Some.ensures.0 c.in-Some.ensures.1, laws.digit_some _ _ c.in-Some-digit_at.ensures.0 c.in-Some-digit_at.ensures.1, laws.digit_is _ _ c.in-Some.ensures.0, laws.digit_is _ _ c.in-Some-digit_at.ensures.0, laws.no_half _ _ c.else-lead-eq13.either, laws.digit_missing _ _ c.digit_at-3.ensures.0 c.if-is_none.ensures))

pub returns-then-is_none-2 : goal.returns-then-is_none-2
returns-then-is_none-2 c = sym (laws.escape_is c.args.text.now c.args.at ∙ rw (eq-eqb _ _ (sym c.byte.ensures ∙ c.if-byte-ne117.false), laws.digit_some _ _ c.in-Some.ensures.0 c.in-Some.ensures.1, laws.digit_some _ _ c.in-Some-digit_at.ensures.0 c.in-Some-digit_at.ensures.1, laws.digit_is _ _ c.in-Some.ensures.0, laws.digit_is _ _ c.in-Some-digit_at.ensures.0, laws.no_half _ _ c.else-lead-eq13.either, laws.digit_there _ _ c.digit_at-3.ensures.0 c.digit_at-3.ensures.1 c.if-is_none.ensures, laws.digit_missing _ _ c.digit_at-4.ensures.0 c.if-is_none-2.ensures))

pub returns-then-byte-ne92 : goal.returns-then-byte-ne92
returns-then-byte-ne92 c = sym (laws.escape_is c.args.text.now c.args.at ∙ rw (eq-eqb _ _ (sym c.byte.ensures ∙ c.if-byte-ne117.false), laws.digit_some _ _ c.in-Some.ensures.0 c.in-Some.ensures.1, laws.digit_some _ _ c.in-Some-digit_at.ensures.0 c.in-Some-digit_at.ensures.1, laws.digit_is _ _ c.in-Some.ensures.0, laws.digit_is _ _ c.in-Some-digit_at.ensures.0, laws.no_half _ _ c.else-lead-eq13.either, laws.digit_there _ _ c.digit_at-3.ensures.0 c.digit_at-3.ensures.1 c.if-is_none.ensures, laws.digit_there _ _ c.digit_at-4.ensures.0 c.digit_at-4.ensures.1 c.if-is_none-2.ensures, ne_eqb _ _ (λ e. c.if-byte-ne92.true (c.byte-2.ensures ∙ e))))

pub returns-then-byte-ne117-2 : goal.returns-then-byte-ne117-2
returns-then-byte-ne117-2 c = sym (laws.escape_is c.args.text.now c.args.at ∙ rw (eq-eqb _ _ (sym c.byte.ensures ∙ c.if-byte-ne117.false), laws.digit_some _ _ c.in-Some.ensures.0 c.in-Some.ensures.1, laws.digit_some _ _ c.in-Some-digit_at.ensures.0 c.in-Some-digit_at.ensures.1, laws.digit_is _ _ c.in-Some.ensures.0, laws.digit_is _ _ c.in-Some-digit_at.ensures.0, laws.no_half _ _ c.else-lead-eq13.either, laws.digit_there _ _ c.digit_at-3.ensures.0 c.digit_at-3.ensures.1 c.if-is_none.ensures, laws.digit_there _ _ c.digit_at-4.ensures.0 c.digit_at-4.ensures.1 c.if-is_none-2.ensures, eq-eqb _ _ (sym c.byte-2.ensures ∙ c.if-byte-ne92.false), ne_eqb _ _ (λ e. c.if-byte-ne117-2.true (c.byte-3.ensures ∙ e))))

pub returns-then-ne : goal.returns-then-ne
returns-then-ne c = sym (laws.escape_is c.args.text.now c.args.at ∙ rw (eq-eqb _ _ (sym c.byte.ensures ∙ c.if-byte-ne117.false), laws.digit_some _ _ c.in-Some.ensures.0 c.in-Some.ensures.1, laws.digit_some _ _ c.in-Some-digit_at.ensures.0 c.in-Some-digit_at.ensures.1, laws.digit_is _ _ c.in-Some.ensures.0, laws.digit_is _ _ c.in-Some-digit_at.ensures.0, laws.no_half _ _ c.else-lead-eq13.either, laws.digit_there _ _ c.digit_at-3.ensures.0 c.digit_at-3.ensures.1 c.if-is_none.ensures, laws.digit_there _ _ c.digit_at-4.ensures.0 c.digit_at-4.ensures.1 c.if-is_none-2.ensures, eq-eqb _ _ (sym c.byte-2.ensures ∙ c.if-byte-ne92.false), eq-eqb _ _ (sym c.byte-3.ensures ∙ c.if-byte-ne117-2.false), ap not (sym (laws.digit_thirteen _ _ c.digit_at-5.ensures.0)) ∙ sym c.ne.ensures ∙ c.if-ne.true))

pub returns-in_default-digit_at-2 : goal.returns-in_default-digit_at-2
returns-in_default-digit_at-2 c = sym (laws.escape_is c.args.text.now c.args.at ∙ rw (eq-eqb _ _ (sym c.byte.ensures ∙ c.if-byte-ne117.false), laws.digit_some _ _ c.in-Some.ensures.0 c.in-Some.ensures.1, laws.digit_some _ _ c.in-Some-digit_at.ensures.0 c.in-Some-digit_at.ensures.1, laws.digit_is _ _ c.in-Some.ensures.0, laws.digit_is _ _ c.in-Some-digit_at.ensures.0, laws.no_half _ _ c.else-lead-eq13.either, laws.digit_there _ _ c.digit_at-3.ensures.0 c.digit_at-3.ensures.1 c.if-is_none.ensures, laws.digit_there _ _ c.digit_at-4.ensures.0 c.digit_at-4.ensures.1 c.if-is_none-2.ensures, eq-eqb _ _ (sym c.byte-2.ensures ∙ c.if-byte-ne92.false), eq-eqb _ _ (sym c.byte-3.ensures ∙ c.if-byte-ne117-2.false), ap not (sym (laws.digit_thirteen _ _ c.digit_at-5.ensures.0)) ∙ sym c.ne.ensures ∙ c.if-ne.false, laws.low_none _ c.in_default-digit_at-2.ensures.0))

pub returns-then-low-lt12 : goal.returns-then-low-lt12
returns-then-low-lt12 c = sym (laws.escape_is c.args.text.now c.args.at ∙ rw (eq-eqb _ _ (sym c.byte.ensures ∙ c.if-byte-ne117.false), laws.digit_some _ _ c.in-Some.ensures.0 c.in-Some.ensures.1, laws.digit_some _ _ c.in-Some-digit_at.ensures.0 c.in-Some-digit_at.ensures.1, laws.digit_is _ _ c.in-Some.ensures.0, laws.digit_is _ _ c.in-Some-digit_at.ensures.0, laws.no_half _ _ c.else-lead-eq13.either, laws.digit_there _ _ c.digit_at-3.ensures.0 c.digit_at-3.ensures.1 c.if-is_none.ensures, laws.digit_there _ _ c.digit_at-4.ensures.0 c.digit_at-4.ensures.1 c.if-is_none-2.ensures, eq-eqb _ _ (sym c.byte-2.ensures ∙ c.if-byte-ne92.false), eq-eqb _ _ (sym c.byte-3.ensures ∙ c.if-byte-ne117-2.false), ap not (sym (laws.digit_thirteen _ _ c.digit_at-5.ensures.0)) ∙ sym c.ne.ensures ∙ c.if-ne.false, laws.low_less _ _ c.in-Some-digit_at-2.ensures.0 c.if-low-lt12.true))

pub returns-then-is_none-3 : goal.returns-then-is_none-3
returns-then-is_none-3 c = sym (laws.escape_is c.args.text.now c.args.at ∙ rw (eq-eqb _ _ (sym c.byte.ensures ∙ c.if-byte-ne117.false), laws.digit_some _ _ c.in-Some.ensures.0 c.in-Some.ensures.1, laws.digit_some _ _ c.in-Some-digit_at.ensures.0 c.in-Some-digit_at.ensures.1, laws.digit_is _ _ c.in-Some.ensures.0, laws.digit_is _ _ c.in-Some-digit_at.ensures.0, laws.no_half _ _ c.else-lead-eq13.either, laws.digit_there _ _ c.digit_at-3.ensures.0 c.digit_at-3.ensures.1 c.if-is_none.ensures, laws.digit_there _ _ c.digit_at-4.ensures.0 c.digit_at-4.ensures.1 c.if-is_none-2.ensures, eq-eqb _ _ (sym c.byte-2.ensures ∙ c.if-byte-ne92.false), eq-eqb _ _ (sym c.byte-3.ensures ∙ c.if-byte-ne117-2.false), ap not (sym (laws.digit_thirteen _ _ c.digit_at-5.ensures.0)) ∙ sym c.ne.ensures ∙ c.if-ne.false, laws.low_more _ _ c.in-Some-digit_at-2.ensures.0 c.if-low-lt12.false c.in-Some-digit_at-2.ensures.1, laws.digit_missing _ _ c.digit_at-7.ensures.0 c.if-is_none-3.ensures))

pub returns : goal.returns
returns c = sym (laws.escape_is c.args.text.now c.args.at ∙ rw (eq-eqb _ _ (sym c.byte.ensures ∙ c.if-byte-ne117.false), laws.digit_some _ _ c.in-Some.ensures.0 c.in-Some.ensures.1, laws.digit_some _ _ c.in-Some-digit_at.ensures.0 c.in-Some-digit_at.ensures.1, laws.digit_is _ _ c.in-Some.ensures.0, laws.digit_is _ _ c.in-Some-digit_at.ensures.0, laws.no_half _ _ c.else-lead-eq13.either, laws.digit_there _ _ c.digit_at-3.ensures.0 c.digit_at-3.ensures.1 c.if-is_none.ensures, laws.digit_there _ _ c.digit_at-4.ensures.0 c.digit_at-4.ensures.1 c.if-is_none-2.ensures, eq-eqb _ _ (sym c.byte-2.ensures ∙ c.if-byte-ne92.false), eq-eqb _ _ (sym c.byte-3.ensures ∙ c.if-byte-ne117-2.false), ap not (sym (laws.digit_thirteen _ _ c.digit_at-5.ensures.0)) ∙ sym c.ne.ensures ∙ c.if-ne.false, laws.low_more _ _ c.in-Some-digit_at-2.ensures.0 c.if-low-lt12.false c.in-Some-digit_at-2.ensures.1, laws.digit_there _ _ c.digit_at-7.ensures.0 c.digit_at-7.ensures.1 c.if-is_none-3.ensures))
