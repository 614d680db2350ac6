-- `put_entries` meets its contract. The loop's invariant: what is left, written here, is the whole, written there; and both are read
-- from bytes that end at one place.
use Rattle.bpf.proofs.Buffer.{write_end}
use Rattle.list_form.proofs.Filters.{entries_none}
use Rattle.list_form.proofs.put_entries.Goals as goal

pub returns : goal.returns
returns c =
    let a = c.args in
    write_end _ _ _ _ _ _ c.loop-left.invariant.0 (entries_none a.s.now c.loop-left.left c.loop-left.past a.actions.on_match a.actions.mismatch c.loop-left-test.false)
