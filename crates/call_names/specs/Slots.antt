-- How a name is kept to be looked up in the table, and what is answered for it. The table's slots by their places are in definitions; they need no
-- belief: a table has no bad slot (laws `table_good`, `good_table`), and its slots are those that spell it.
use Rattle.std.specs.Prelude.{ℕ, ◌≡◌, List, ◌++◌, length, take, replicate, Option, Some, None}
use Rattle.std.specs.declared.cmp.Ordering.{Ordering}
use Rattle.std.specs.Ordering.{nat_cmp}
use Rattle.std.specs.Cmp.Lexicographic.{slice_cmp}
use Rattle.std.proofs.Math.Option.{Option as Maybe, none, some}
use Rattle.definitions.specs.CallNames.{number_for, slots_in, slot_count, first_bad}

pub record Good (table : List ℕ) : Type 0 where
  pub good : first_bad table ≡ length table

-- the order of n bytes
abbrev pub compared : ℕ → List ℕ → List ℕ → Ordering
compared n a b = slice_cmp nat_cmp (take n a) (take n b)

-- a string of which the first 32 bytes are kept, and all counted
pub record Kept (s buffer : List ℕ) (count : ℕ) : Type 0 where
  pub counted : length s ≡ count
  pub bytes : take 32 (s ++ replicate 32 0) ≡ buffer

-- what is answered for a name
abbrev pub told : Maybe ℕ → Option ℕ
told none = None
told (some n) = Some n

-- the answer for whatever name is kept so
abbrev pub Answers : List ℕ → List ℕ → ℕ → Option ℕ → Type 0
Answers table key count r = (k : List ℕ) → Kept k key count → r ≡ told (number_for (slots_in (slot_count table) table) k)
