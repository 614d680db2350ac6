use mathlib.Core.Path.{sym, ◌∙◌}
use Rattle.json_scan.proofs.Scanning.{option_none, option_some}
use native.Mathlib.Omega.{arith}
use Rattle.json_strings.proofs.Storing as laws
use Rattle.json_strings.proofs.put_character.Goals as goal

pub put_plain-requires : goal.put_plain-requires
put_plain-requires c = ((laws.there c.args.text.now c.args.at c.args.used c.requires.2).fits, c.requires.1)

pub returns-then-text-at-ne92 : goal.returns-then-text-at-ne92
returns-then-text-at-ne92 c = laws.meant_plain c.args.text.now c.args.at c.args.used c.requires.2 c.if-text-at-ne92.true c.args.out.now c.args.place _ c.put_plain.ensures

pub bounds-text-at-2 : goal.bounds-text-at-2
bounds-text-at-2 c = omega (arith, laws.long_escape c.args.text.now c.args.at c.args.used c.requires.2 c.if-text-at-ne92.false)

pub returns-in-Some : goal.returns-in-Some
returns-in-Some c = laws.meant_short_escape c.args.text.now c.args.at c.args.used c.requires.2 c.if-text-at-ne92.false _ (option_some c.in-Some.ensures) c.args.out.now c.args.place _ c.push.ensures

pub unit_at-requires : goal.unit_at-requires
unit_at-requires c = laws.long_escape c.args.text.now c.args.at c.args.used c.requires.2 c.if-text-at-ne92.false

pub unwrap-u-requires : goal.unwrap-u-requires
unwrap-u-requires c = rw (c.unit_at.ensures.0, (laws.one_there c.args.text.now c.args.at c.args.used c.requires.2 c.if-text-at-ne92.false (option_none c.in_default.ensures)).1)

pub put_utf8-requires : goal.put_utf8-requires
put_utf8-requires c = let small = rw c.unwrap-u.ensures at c.unit_at.ensures.1 in (omega arith, omega (arith, c.requires.1))

pub returns-then-used-eq6 : goal.returns-then-used-eq6
returns-then-used-eq6 c = laws.as_meant c.args.out.now _ _ _ c.args.place _ (laws.one_unit c.args.text.now c.args.at c.args.used c.requires.2 c.if-text-at-ne92.false (option_none c.in_default.ensures) _ (option_some (sym c.unwrap-u.ensures ∙ c.unit_at.ensures.0)) c.if-used-eq6.true) c.put_utf8.ensures

pub unit_at-requires-2 : goal.unit_at-requires-2
unit_at-requires-2 c = omega (arith, laws.long_pair c.args.text.now c.args.at c.args.used c.requires.2 c.if-text-at-ne92.false (option_none c.in_default.ensures) _ (option_some (sym c.unwrap-u.ensures ∙ c.unit_at.ensures.0)) c.if-used-eq6.false)

pub unwrap-v-requires : goal.unwrap-v-requires
unwrap-v-requires c = rw (c.unit_at-2.ensures.0, (laws.two_there c.args.text.now c.args.at c.args.used c.requires.2 c.if-text-at-ne92.false (option_none c.in_default.ensures) _ (option_some (sym c.unwrap-u.ensures ∙ c.unit_at.ensures.0)) c.if-used-eq6.false).1)

pub overflow_sub-u : goal.overflow_sub-u
overflow_sub-u c = (laws.two_units c.args.text.now c.args.at c.args.used c.requires.2 c.if-text-at-ne92.false (option_none c.in_default.ensures) _ (option_some (sym c.unwrap-u.ensures ∙ c.unit_at.ensures.0)) c.if-used-eq6.false _ (option_some (sym c.unwrap-v.ensures ∙ c.unit_at-2.ensures.0))).high

pub overflow_sub-v : goal.overflow_sub-v
overflow_sub-v c = (laws.two_units c.args.text.now c.args.at c.args.used c.requires.2 c.if-text-at-ne92.false (option_none c.in_default.ensures) _ (option_some (sym c.unwrap-u.ensures ∙ c.unit_at.ensures.0)) c.if-used-eq6.false _ (option_some (sym c.unwrap-v.ensures ∙ c.unit_at-2.ensures.0))).low

pub put_utf8-requires-2 : goal.put_utf8-requires-2
put_utf8-requires-2 c = let w = laws.two_units c.args.text.now c.args.at c.args.used c.requires.2 c.if-text-at-ne92.false (option_none c.in_default.ensures) _ (option_some (sym c.unwrap-u.ensures ∙ c.unit_at.ensures.0)) c.if-used-eq6.false _ (option_some (sym c.unwrap-v.ensures ∙ c.unit_at-2.ensures.0)) in let h = w.high' in let l = w.low' in let n = w.long in (omega arith, omega (arith, c.requires.1))

pub returns : goal.returns
returns c = laws.as_meant c.args.out.now _ _ _ c.args.place _ (laws.two_units c.args.text.now c.args.at c.args.used c.requires.2 c.if-text-at-ne92.false (option_none c.in_default.ensures) _ (option_some (sym c.unwrap-u.ensures ∙ c.unit_at.ensures.0)) c.if-used-eq6.false _ (option_some (sym c.unwrap-v.ensures ∙ c.unit_at-2.ensures.0))).meant' c.put_utf8-2.ensures
