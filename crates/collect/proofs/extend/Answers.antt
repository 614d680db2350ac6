-- `extend` meets its contract: a count is raised in front of what is then copied.
use native.Mathlib.Omega.{arith}
use mathlib.Core.Path.{◌∙◌}
use Rattle.collect.proofs.Parts.{copied, extend_done}
use Rattle.collect.proofs.extend.Goals as goal

pub returns : goal.returns
returns c = (
  extend_done c.args.s.now _ _ c.args.from c.args.entry c.args.end _ _ _ (omega (arith, c.requires.1, c.requires.0.room)) (omega (arith, c.requires.0.head)) c.past_entry-past.ensures (c.from.ensures ∙ c.u32_at.ensures) (c.from-2.ensures ∙ c.u32_at-2.ensures) c.write_u32.ensures
      (c.copy_within.ensures.after ∙ copied _ _ _ _ (let past = c.past_entry-past.ensures in omega (arith, c.requires.0.inside, c.write_u32.auto.out))),
  rw c.past_entry-past.ensures,
)
