-- `write_groups` meets its contract: the first line begins an entry, and the others follow.
use mathlib.Core.Path.{refl}
use native.Mathlib.Omega.{arith}
use Rattle.collect.proofs.Writing.{line_reaches, writing_start}
use Rattle.collect.proofs.write_groups.Goals as goal

pub begin-end-requires : goal.begin-end-requires
begin-end-requires c = line_reaches c.requires 0 (omega (arith, c.requires.first)) _ refl refl _ c.place_at-from.ensures _ c.requires.room

pub write_others-requires : goal.write_others-requires
write_others-requires c = (record { before = c.args.s.now; at = c.args.at; keyed = c.requires; writing = writing_start c.requires _ _ _ c.place_at-from.ensures c.begin-end.ensures.0 c.begin-end.ensures.1 })

pub returns : goal.returns
returns c = λ h. c.write_others.ensures (record { before = c.args.s.now; at = c.args.at; keyed = h; writing = writing_start h _ _ _ c.place_at-from.ensures c.begin-end.ensures.0 c.begin-end.ensures.1 })
