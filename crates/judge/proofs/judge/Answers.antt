-- `judge` meets its contract: the reader's tests one after the other, and then what the walk over the entries found.
use mathlib.Core.Path.{sym, ◌∙◌}
use Rattle.theorems.proofs.Heads.{length_head}
use Rattle.judge.proofs.Whole.{too_many, too_few, no_head_lem, entries_off, entries_more, entries_all, none_said}
use Rattle.judge.proofs.judge.Goals as goal
use Rattle.judge.proofs.judge.Goals.{then-size-gt-MOST_BYTES-via-then-size-gt-MOST_BYTES, then-size-gt-MOST_BYTES-via-else-size-gt-MOST_BYTES+then-size-lt-HEAD_SIZE, then-size-gt-MOST_BYTES-via-else-size-gt-MOST_BYTES+else-size-lt-HEAD_SIZE+then-not-head_there}
use Rattle.judge.proofs.judge.Goals.{in_default-via-in-Some+else-entries-size, in_default-via-in_default}

pub returns-then-size-gt-MOST_BYTES : goal.returns-then-size-gt-MOST_BYTES
returns-then-size-gt-MOST_BYTES c =
    none_said _ _ c.no_set.ensures (elim c.then-size-gt-MOST_BYTES.branch [
      | then-size-gt-MOST_BYTES-via-then-size-gt-MOST_BYTES w ↦ too_many _ w.if-size-gt-MOST_BYTES.true
      | then-size-gt-MOST_BYTES-via-else-size-gt-MOST_BYTES+then-size-lt-HEAD_SIZE w ↦ too_few _ w.if-size-gt-MOST_BYTES.false w.if-size-lt-HEAD_SIZE.true
      | then-size-gt-MOST_BYTES-via-else-size-gt-MOST_BYTES+else-size-lt-HEAD_SIZE+then-not-head_there w ↦ no_head_lem _ w.if-size-gt-MOST_BYTES.false w.if-size-lt-HEAD_SIZE.false (sym w.if-not-head_there.ensures)
    ])

pub returns-in-Some : goal.returns-in-Some
returns-in-Some c =
    let told = c.in-Some.ensures.0 ∙ rw (c.note-same.ensures, c.fault-none.ensures, c.fault.ensures, c.actions_differ.ensures, c.head_length-around.ensures.0, length_head, c.u32_at-n.ensures, c.u32_at.ensures) in
    (sym (entries_all _ c.if-size-gt-MOST_BYTES.false c.if-size-lt-HEAD_SIZE.false (sym c.if-not-head_there.ensures) c.in-Some.entries told c.if-entries-size.true), c.in-Some.ensures.1)

pub returns-in_default : goal.returns-in_default
returns-in_default c =
    none_said _ _ c.no_set-in_default.ensures (elim c.in_default.branch [
      | in_default-via-in-Some+else-entries-size w ↦ entries_more _ c.if-size-gt-MOST_BYTES.false c.if-size-lt-HEAD_SIZE.false (sym c.if-not-head_there.ensures) w.in-Some.entries (w.in-Some.ensures.0 ∙ rw (c.note-same.ensures, c.fault-none.ensures, c.fault.ensures, c.actions_differ.ensures, c.head_length-around.ensures.0, length_head, c.u32_at-n.ensures, c.u32_at.ensures)) w.if-entries-size.false
      | in_default-via-in_default w ↦ entries_off _ c.if-size-gt-MOST_BYTES.false c.if-size-lt-HEAD_SIZE.false (sym c.if-not-head_there.ensures) (w.in_default.ensures.0 ∙ rw (c.note-same.ensures, c.fault-none.ensures, c.fault.ensures, c.actions_differ.ensures, c.head_length-around.ensures.0, length_head, c.u32_at-n.ensures, c.u32_at.ensures))
    ])
