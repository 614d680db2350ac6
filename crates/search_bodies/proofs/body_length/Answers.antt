-- `body_length` meets its contract: a return stands behind the rules.
use mathlib.Core.Path.{sym}
use native.Mathlib.Omega.{arith}
use Rattle.set_view.specs.Parts.{rule_past}
use Rattle.set_view.proofs.Walk.{behind_none}
use Rattle.search_bodies.proofs.Bodies.{entry_body_none, entry_body_long}
use Rattle.search_bodies.proofs.body_length.Goals as goal

pub returns-then-n-eq0 : goal.returns-then-n-eq0
returns-then-n-eq0 c =
    let a = c.args in
    let s = a.s.now in
    (λ m d. rw (entry_body_none s a.n a.from m d c.if-n-eq0.true), sym (behind_none (rule_past s) a.n a.from c.if-n-eq0.true), omega arith)

pub returns-else-n-eq0 : goal.returns-else-n-eq0
returns-else-n-eq0 c =
    let a = c.args in
    let some = c.if-n-eq0.false in
    (λ m d. omega (arith, entry_body_long a.s.now a.n a.from m d some, c.rules_length-rules.ensures.0 m), c.rules_length-rules.ensures.1, omega (arith, c.rules_length-rules.ensures.2))
