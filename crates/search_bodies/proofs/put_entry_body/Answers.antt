-- `put_entry_body` meets its contract: nothing, or the rules and the return behind them.
use mathlib.Core.Path.{sym}
use native.Mathlib.Omega.{arith}
use Rattle.bpf.proofs.Buffer.{put_next}
use Rattle.rule.proofs.Rules.{put_none}
use Rattle.definitions.specs.Emitted.{rule_bodies}
use Rattle.set_view.specs.Parts.{rule_past, rules_here}
use Rattle.set_view.proofs.Walk.{behind_none}
use Rattle.search_bodies.proofs.Bodies.{entry_body_none, entry_body_some, entry_body_long}
use Rattle.search_bodies.proofs.put_entry_body.Goals as goal

pub returns-then-n-eq0 : goal.returns-then-n-eq0
returns-then-n-eq0 c =
    let a = c.args in
    let s = a.s.now in
    let e = entry_body_none s a.n a.from a.actions.on_match a.actions.mismatch c.if-n-eq0.true in
    (rw e (sym (put_none _ a.at)), rw e (omega arith), sym (behind_none (rule_past s) a.n a.from c.if-n-eq0.true))

pub put_rules-rules-requires : goal.put_rules-rules-requires
put_rules-rules-requires c =
    let a = c.args in
    let s = a.s.now in
    let l = entry_body_long s a.n a.from a.actions.on_match a.actions.mismatch c.if-n-eq0.false in
    omega arith

pub put-requires : goal.put-requires
put-requires c =
    let a = c.args in
    let s = a.s.now in
    let l = entry_body_long s a.n a.from a.actions.on_match a.actions.mismatch c.if-n-eq0.false in
    omega (arith, c.put_rules-rules.auto.out, c.put_rules-rules.ensures.1)

pub overflow_add-result : goal.overflow_add-result
overflow_add-result c =
    let a = c.args in
    let s = a.s.now in
    let l = entry_body_long s a.n a.from a.actions.on_match a.actions.mismatch c.if-n-eq0.false in
    omega (arith, c.requires.from_in_bounds, c.put_rules-rules.ensures.1, c.well_formed)

pub returns-else-n-eq0 : goal.returns-else-n-eq0
returns-else-n-eq0 c =
    let a = c.args in
    let s = a.s.now in
    let b = entry_body_some s a.n a.from a.actions.on_match a.actions.mismatch c.if-n-eq0.false in
    let l = entry_body_long s a.n a.from a.actions.on_match a.actions.mismatch c.if-n-eq0.false in (
      rw (b, c.put.ensures, c.give.ensures, c.put_rules-rules.ensures.0)
          (put_next _ _ _ (rule_bodies a.actions.on_match (rules_here s a.n a.from)) _ c.put_rules-rules.ensures.1 (omega (arith, c.requires.from_in_bounds, c.put_rules-rules.ensures.1))),
      omega (arith, c.put_rules-rules.ensures.1),
      c.put_rules-rules.ensures.2,
    )
