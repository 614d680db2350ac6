-- `write_entry` meets its contract: two numbers, or three, one behind the other.
use mathlib.Core.Path.{refl}
use native.Mathlib.Omega.{arith}
use Rattle.json_lines.proofs.Heads.{head_bare, head_ruled}
use Rattle.json_lines.proofs.write_entry.Goals as goal

pub returns-in-None : goal.returns-in-None
returns-in-None c =
    let e = c.in-None.is in
    let fits = rw e at c.requires in
    rw e (rw (c.write_u32-in-None.ensures, c.write_u32.ensures, c.from.ensures) (head_bare _ _ _ fits), refl)

pub returns-in-Some : goal.returns-in-Some
returns-in-Some c =
    let e = c.in-Some.is in
    let fits = rw e at c.requires in
    rw e (rw (c.write_u32-in-Some-2.ensures, c.write_u32-in-Some.ensures, c.write_u32.ensures, c.from.ensures) (head_ruled _ _ _ _ (omega arith)), refl)
