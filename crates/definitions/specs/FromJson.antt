-- What reading JSON promises: the whole contract of `callfilter_read_json`, said of the bytes that went in and came out. What a text means is said
-- without a reader, by RFC 8259, the form, the table and collecting; the reader in `json_answer` says which fault is the first, and where.
--
--    0  read: how many sets were written (count) and how many bytes (end)
--    1  no such architecture
--    7  a buffer is too short: scratch (count 1) or the one for the sets (2), and how many bytes it needs (end)
--   14  the table is none; at: its first bad slot
--   15  the text has more than 1 MiB
--   and in the text, at the place told: 3 equal actions, 4 args without conditions, 5 an index above 5, 8 a number wider than its condition,
--   10 no JSON text goes on so, 11 nor does one of the form, 12 a key given twice, 13 a call that the table does not have
use Rattle.std.specs.Prelude.{ℕ, ◌-◌, ◌*◌, ◌%◌, ◌^◌, ◌≤◌, ◌≡◌, Bool, true, cond, not, ◌||◌, List, eqb, leb, ltb, length, take, drop}
use Rattle.std.proofs.Math.Option.{Option, none, some}
use Rattle.definitions.specs.declared.JsonAnswer.{JsonAnswer}
use Rattle.definitions.specs.RuleSet.{Architecture, RuleSet}
use Rattle.definitions.specs.Format.{joined, Each, encode, InRange, native_of, architecture_of}
use Rattle.definitions.specs.Answer.{answer_of, search_answer_of}
use Rattle.definitions.specs.Json.{Json, Text}
use Rattle.definitions.specs.JsonForm.{Filter, filters_of}
use Rattle.definitions.specs.CallNames.{Slot, TableOf, slots_in, slot_count, first_bad}
use Rattle.definitions.specs.Collected.{NamedSet, encode_named, sets_of, now}
use Rattle.definitions.specs.JsonReader.{Got, got, stop}
use Rattle.definitions.specs.FormReader.{judges_of, read_filters}

-- ---- what a text means: the filters that it is by RFC 8259 and the form, and their rule sets by the table and the architecture

pub record Means (text table : List ℕ) (architecture : ℕ) (sets : List NamedSet) : Type 0 where
  pub value : Json
  pub filters : List Filter
  pub slots : List Slot
  pub known : Architecture
  pub written : Text text value
  pub form : filters_of value ≡ some filters
  pub tabled : TableOf slots table
  pub named : architecture_of architecture ≡ some known
  pub made : sets_of now.join slots known (native_of architecture) filters ≡ some sets

-- compiled, in either form and into a buffer of any length, a set gets 0, or 6 or 7 by its filter's length
abbrev pub by_length : ℕ → Bool
by_length code = eqb code 0 || (eqb code 6 || eqb code 7)

pub record Compiles (rs : RuleSet) : Type 0 where
  pub ranged : InRange rs
  pub listed : (room : ℕ) → by_length (answer_of (encode rs) room).code ≡ true
  pub searched : (room : ℕ) → by_length (search_answer_of (encode rs) room).code ≡ true

-- ---- the answer

-- a text has at most 1 MiB, as a set has
abbrev pub most_text : ℕ
most_text = 2 ^ 20

-- what scratch needs
abbrev pub scratch_for : List ℕ → ℕ
scratch_for text = 3 * length text

abbrev pub refused_at : ℕ → ℕ → JsonAnswer
refused_at code at = record { code = code; at = at; count = 0; end = 0 }

abbrev pub too_short : ℕ → ℕ → JsonAnswer
too_short which bytes = record { code = 7; at = 0; count = which; end = bytes }

abbrev pub wrote : ℕ → ℕ → ℕ → JsonAnswer
wrote room count bytes = cond (leb bytes room) (record { code = 0; at = 0; count = count; end = bytes }) (too_short 2 bytes)

-- of filters that the reader gives there always are sets: its judges refuse the others
abbrev pub sets_answer : ℕ → Option (List NamedSet) → JsonAnswer
sets_answer room none = wrote room 0 0
sets_answer room (some sets) = wrote room (length sets) (length (joined encode_named sets))

abbrev pub read_answer : List ℕ → (List Filter → Option (List NamedSet)) → ℕ → Got (List Filter) → JsonAnswer
read_answer text sets room (got filters rest) = sets_answer room (sets filters)
read_answer text sets room (stop code rest) = refused_at code (length text - length rest)

-- a place in a table is told by its low 32 bits
abbrev pub known_answer : List ℕ → List ℕ → Bool → ℕ → ℕ → Option Architecture → JsonAnswer
known_answer text table native scratch room none = refused_at 1 0
known_answer text table native scratch room (some known) =
    let slots : List Slot = slots_in (slot_count table) table in
    cond (not (eqb (first_bad table) (length table))) (refused_at 14 (first_bad table % 2 ^ 32))
    (cond (ltb most_text (length text)) (refused_at 15 0)
    (cond (ltb scratch (scratch_for text)) (too_short 1 (scratch_for text))
    (read_answer text (sets_of now.join slots known native) room (read_filters (judges_of slots) text))))

-- for a text, a table, an architecture, and buffers of these lengths
unfoldable pub json_answer : List ℕ → List ℕ → ℕ → ℕ → ℕ → JsonAnswer
json_answer text table architecture scratch room = known_answer text table (native_of architecture) scratch room (architecture_of architecture)

-- ---- the contract

-- how many bytes an answer says were written
abbrev pub bytes_written : JsonAnswer → ℕ
bytes_written r = cond (eqb r.code 0) r.end 0

-- what stands in the buffer where a text was read
pub record Wrote (text table : List ℕ) (architecture : ℕ) (after : List ℕ) (r : JsonAnswer) : Type 0 where
  pub sets : List NamedSet
  pub means : Means text table architecture sets
  pub bytes : take r.end after ≡ joined encode_named sets
  pub many : r.count ≡ length sets
  pub compile : Each (λ s. Compiles s.set) sets

-- a buffer held `before` and now holds `after`, and `r` was answered; scratch has this length
pub record FromJson (text table : List ℕ) (architecture scratch : ℕ) (before after : List ℕ) (r : JsonAnswer) : Type 0 where
  -- the first fault that reading from left to right meets, and where it is
  pub answer : r ≡ json_answer text table architecture scratch (length before)
  -- what stands behind the sets is as it was; where the text was refused, that is all
  pub kept : drop (bytes_written r) after ≡ drop (bytes_written r) before
  pub long : length after ≡ length before
  -- read, the sets that the text means stand in the buffer, and each compiles
  pub meant : r.code ≡ 0 → Wrote text table architecture after r
  -- refused, and not for a length, the text means no sets
  pub refused : (r.code ≡ 0 → ⊥) → (r.code ≡ 7 → ⊥) → (r.code ≡ 15 → ⊥) → (sets : List NamedSet) → Means text table architecture sets → ⊥
  -- a buffer as long as the text, and scratch three times that, are never too short
  pub roomy : length text ≤ length before → scratch_for text ≤ scratch → r.code ≡ 7 → ⊥
