-- `line_there` meets its contract: the entry is written when the whole line was read.
use mathlib.Core.Path.{refl, ◌∙◌}
use native.Mathlib.Omega.{arith}
use Rattle.json_scan.proofs.Telling.{refused}
use Rattle.json_lines.proofs.Calls.{slots_of}
use Rattle.json_lines.proofs.Entries.{line_stopped, line_begun, line_missing, line_room, line_written}
use Rattle.json_lines.proofs.Steps.{handed}
use Rattle.json_lines.proofs.line_there.Goals as goal

pub returns-in_err-line : goal.returns-in_err-line
returns-in_err-line c = (handed _ _ c.from_residual.ensures.1 (line_stopped (slots_of c.args.table.now) c.in_err-line.ensures.0 (refused _)), c.in_err-line.ensures.1)

pub returns-in_default : goal.returns-in_default
returns-in_default c = (line_missing c.in_ok-line.ensures.0 refl c.in_default.is, c.in_ok-line.ensures.1)

pub overflow_sub-result : goal.overflow_sub-result
overflow_sub-result c = let h = line_begun c.in_ok-line.ensures.0 refl in omega arith

pub write_entry-end-requires : goal.write_entry-end-requires
write_entry-end-requires c = let h = line_room c.in_ok-line.ensures.0 refl c.in-Some.is c.flatten.ensures c.requires.0 c.requires.3 in omega (arith, c.requires.2, c.in_ok-line.ensures.1)

pub returns : goal.returns
returns c = (line_written c.in_ok-line.ensures.0 refl c.in-Some.is c.flatten.ensures c.requires.0 c.requires.3 (omega (arith, c.requires.2, c.in_ok-line.ensures.1)) c.write_entry-end.ensures.0 c.write_entry-end.ensures.1, c.write_entry-end.auto.raw ∙ c.in_ok-line.ensures.1)
