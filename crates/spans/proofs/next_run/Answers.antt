-- `next_run` meets its contract: a number with rules is a run by itself, and one without is gathered with those that follow it.
use mathlib.Core.Path.{refl, sym, ◌∙◌}
use native.Mathlib.Omega.{arith}
use Rattle.search_bodies.proofs.Bodies.{entry_room}
use Rattle.spans.proofs.Reading.{passes_plain, run_plain, run_ruled}
use Rattle.spans.proofs.next_run.Goals as goal

pub u32_at-number-requires : goal.u32_at-number-requires
u32_at-number-requires c =
    let a = c.args in
    omega (arith, entry_room a.s.now a.c.left a.c.at _ c.requires.1 refl c.requires.0.inside)

pub overflow_add-c : goal.overflow_add-c
overflow_add-c c =
    let a = c.args in
    omega (arith, entry_room a.s.now a.c.left a.c.at _ c.requires.1 refl c.requires.0.inside, c.requires.0.size)

pub u32_at-rules-requires : goal.u32_at-rules-requires
u32_at-rules-requires c =
    let a = c.args in
    omega (arith, entry_room a.s.now a.c.left a.c.at _ c.requires.1 refl c.requires.0.inside)

pub overflow_add-next : goal.overflow_add-next
overflow_add-next c =
    let a = c.args in
    omega (arith, entry_room a.s.now a.c.left a.c.at _ c.requires.1 refl c.requires.0.inside, c.requires.0.size)

pub gather-requires : goal.gather-requires
gather-requires c = (passes_plain c.args.s.now c.args.c c.requires.0 c.requires.1 (sym c.u32_at-rules.ensures ∙ c.if-rules-eq0.true)).stands

pub returns-then-rules-eq0 : goal.returns-then-rules-eq0
returns-then-rules-eq0 c =
    let a = c.args in
    let z = sym c.u32_at-rules.ensures ∙ c.if-rules-eq0.true in
    run_plain a.s.now a.c _ c.gather.result c.u32_at-number.result c.u32_at-number.ensures z (passes_plain a.s.now a.c c.requires.0 c.requires.1 z) c.gather.ensures

pub returns-else-rules-eq0 : goal.returns-else-rules-eq0
returns-else-rules-eq0 c =
    let a = c.args in
    run_ruled a.s.now a.c c.pass.result c.u32_at-number.result c.u32_at-number.ensures (λ e. c.if-rules-eq0.false (c.u32_at-rules.ensures ∙ e)) c.requires.0 c.pass.ensures
