-- `put_turn` meets its contract: the entries without rules that stand there, else one entry.
use mathlib.Core.Path.{refl, sym}
use native.Mathlib.Omega.{arith}
use Rattle.definitions.specs.Emitted.{entry_code}
use Rattle.bpf.proofs.Buffer.{write_begin, write_turn, write_room}
use Rattle.set_view.specs.Parts.{entry_here, entry_past}
use Rattle.set_view.proofs.Walk.{behind_more, entry_inside}
use Rattle.list_form.proofs.Filters.{entries_more}
use Rattle.list_form.proofs.put_turn.Goals as goal

pub put_entry-entry-requires : goal.put_entry-entry-requires
put_entry-entry-requires c =
    let a = c.args in
    let s = a.s.now in
    let some = c.requires.from_in_bounds.2 in
    let i = entry_inside s a.n a.from _ some refl c.requires.from_in_bounds.0 in
    let more = entries_more s a.n a.from a.actions.on_match a.actions.mismatch some in
    record { reach = (i, c.requires.from_in_bounds.1); from_in_bounds = write_room _ _ _ _ _ _ (entry_code a.actions.on_match a.actions.mismatch (entry_here s a.from)) _ c.requires.from_in_bounds_2 (write_begin a.out.now _ _) more }

pub returns-else-plain_here : goal.returns-else-plain_here
returns-else-plain_here c =
    let a = c.args in
    let s = a.s.now in
    let some = c.requires.from_in_bounds.2 in
    let e = c.put_entry-entry.ensures.2 in
    let more = entries_more s a.n a.from a.actions.on_match a.actions.mismatch some in (
      rw e (write_turn _ _ _ _ _ _ (entry_code a.actions.on_match a.actions.mismatch (entry_here s a.from)) _ _ _ c.requires.from_in_bounds_2 (write_begin _ _ _) more
          c.put_entry-entry.ensures.0 c.put_entry-entry.ensures.1 c.put_entry-entry.auto.out),
      rw e (sym (behind_more (entry_past s) a.n a.from some)),
      omega (arith, some),
    )
