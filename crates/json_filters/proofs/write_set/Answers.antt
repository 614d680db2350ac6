-- `write_set` meets its contract: the entries are collected behind the head's place, and the head is put over it.
use native.Mathlib.Omega.{arith}
use Rattle.json_filters.proofs.Placing.{set_written}
use Rattle.json_filters.proofs.write_set.Goals as goal

pub overflow_add-place : goal.overflow_add-place
overflow_add-place c = omega (arith, c.requires.room, c.requires.small)

pub returns : goal.returns
returns c raw =
    set_written _ _ _ raw (c.collect-c.ensures raw) c.collect-c.auto.s (rw c.from.ensures at c.write_u32.ensures) c.write_u32-2.ensures c.write_u32-3.ensures c.write_u32-4.ensures
