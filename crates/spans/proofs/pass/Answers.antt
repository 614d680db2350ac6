-- `pass` meets its contract: the entry's rules end where the next entry begins, and their code is what is left out.
use mathlib.Core.Path.{refl}
use native.Mathlib.Omega.{arith}
use Rattle.definitions.specs.Word.{number_at}
use Rattle.search_bodies.proofs.Bodies.{entry_room, entries_here_lem, bodies_long}
use Rattle.set_view.proofs.Walk.{behind_more, entry_inside, entry_past_lem}
use Rattle.set_view.specs.Parts.{entry_past}
use Rattle.spans.proofs.pass.Goals as goal

pub overflow_add-c : goal.overflow_add-c
overflow_add-c c =
    let a = c.args in
    omega (arith, entry_room a.s.now a.c.left a.c.at _ c.requires.1 refl c.requires.0.inside, c.requires.0.size)

pub u32_at-rules-requires : goal.u32_at-rules-requires
u32_at-rules-requires c =
    let a = c.args in
    omega (arith, entry_room a.s.now a.c.left a.c.at _ c.requires.1 refl c.requires.0.inside, c.requires.0.size)

pub overflow_add-c-2 : goal.overflow_add-c-2
overflow_add-c-2 c =
    let a = c.args in
    omega (arith, entry_room a.s.now a.c.left a.c.at _ c.requires.1 refl c.requires.0.inside, c.requires.0.size)

pub body_length-body-requires : goal.body_length-body-requires
body_length-body-requires c =
    let a = c.args in
    let i = entry_inside a.s.now a.c.left a.c.at _ c.requires.1 refl c.requires.0.inside in
    (rw (c.u32_at-rules.ensures, ← entry_past_lem a.s.now a.c.at) i, c.requires.0.size)

pub overflow_sub-result-2 : goal.overflow_sub-result-2
overflow_sub-result-2 c =
    let a = c.args in
    let s = a.s.now in
    let k = rw c.u32_at-rules.ensures at (c.body_length-body.ensures.0 (number_at 4 s 8) (number_at 4 s 4)) in
    omega (arith, k, bodies_long s a.c.left a.c.at (number_at 4 s 8) (number_at 4 s 4) c.requires.1, c.requires.0.place)

pub returns : goal.returns
returns c =
    let a = c.args in
    let s = a.s.now in
    let left = a.c.left in
    let at = a.c.at in
    let k = rw c.u32_at-rules.ensures at (c.body_length-body.ensures.0 (number_at 4 s 8) (number_at 4 s 4)) in
    let p = rw (c.u32_at-rules.ensures, ← entry_past_lem s at) at c.body_length-body.ensures.1 in
    let b = bodies_long s left at (number_at 4 s 8) (number_at 4 s 4) c.requires.1 in
    record {
      entries = rw p (entries_here_lem s left at c.requires.1);
      stands = record { inside = rw (p, ← behind_more (entry_past s) left at c.requires.1) c.requires.0.inside; size = c.requires.0.size; place = rw p (omega (arith, k, b, c.requires.0.place)) };
      fewer = omega (arith, c.requires.1);
      behind = omega arith;
    }
