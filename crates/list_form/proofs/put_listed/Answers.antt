-- `put_listed` meets its contract: the test of the number, what stands for no rules, and the return behind it are the entry.
use mathlib.Core.List.{[]}
use native.Mathlib.Omega.{arith}
use Rattle.definitions.specs.Emitted.{body_code}
use Rattle.list_form.proofs.Filters.{put_around, body_always, plain_code}
use Rattle.list_form.proofs.put_listed.Goals as goal

pub returns : goal.returns
returns c =
    let a = c.args in
    rw (
      plain_code a.s.now a.from a.actions.on_match a.actions.mismatch c.requires.2,
      c.put-2.ensures,
      c.give.ensures,
      c.put_always.ensures,
      c.put.ensures,
      c.if_equal.ensures,
      c.u32_at-listed.ensures,
    )
    (put_around _ _ _ _ (body_code a.actions.on_match []) _ (rw body_always (omega arith)) (omega (arith, c.requires)))
