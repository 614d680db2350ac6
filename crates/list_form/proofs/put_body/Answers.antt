-- `put_body` meets its contract: without rules the number always matches, else its rules are written.
use mathlib.Core.Path.{ap, sym, ◌∙◌}
use native.Mathlib.Omega.{arith}
use lib.ListN.{length}
use Rattle.set_view.proofs.Walk.{behind_none}
use Rattle.set_view.specs.Parts.{rule_past}
use Rattle.list_form.proofs.Filters.{body_always, body_none, body_some}
use Rattle.list_form.proofs.put_body.Goals as goal

pub put_always-requires : goal.put_always-requires
put_always-requires c =
    let a = c.args in
    let e = body_none a.s.now a.n a.from a.m c.if-n-eq0.true in
    let n = ap length (e ∙ body_always a.m) in
    omega arith

pub returns-then-n-eq0 : goal.returns-then-n-eq0
returns-then-n-eq0 c =
    let a = c.args in
    let e = body_none a.s.now a.n a.from a.m c.if-n-eq0.true in
    let n = ap length (e ∙ body_always a.m) in (
      rw e c.put_always.ensures,
      omega arith,
      sym (behind_none (rule_past a.s.now) a.n a.from c.if-n-eq0.true),
    )

pub put_rules-requires : goal.put_rules-requires
put_rules-requires c =
    let a = c.args in
    let e = body_some a.s.now a.n a.from a.m c.if-n-eq0.false in
    record { reach = c.requires.reach; from_in_bounds = rw (← e) c.requires.from_in_bounds }

pub returns-else-n-eq0 : goal.returns-else-n-eq0
returns-else-n-eq0 c =
    let a = c.args in
    rw (body_some a.s.now a.n a.from a.m c.if-n-eq0.false) c.put_rules.ensures
