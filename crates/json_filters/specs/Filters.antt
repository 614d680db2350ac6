-- Filters that are written as sets while they are read. Needs no belief.
use Rattle.std.specs.Prelude.{ℕ, ◌+◌, ◌-◌, ◌*◌, ◌≤◌, ◌≡◌, Bool, false, cond, eqb, List, ◌∷◌, ◌++◌, length, take, drop, None, Some, is_some, IsSomeAnd, Result}
use Rattle.std.specs.Prelude as given
use Rattle.std.proofs.Math.Option.{Option, none, some}
use Rattle.definitions.specs.Word.{bytes_of}
use Rattle.definitions.specs.RuleSet.{Architecture, Entry, RuleSet}
use Rattle.definitions.specs.Format.{joined, encode_entry, encode, architecture_of, native_of}
use Rattle.definitions.specs.CallNames.{Slot, slot_count, slots_in}
use Rattle.definitions.specs.JsonForm.{Line, Filter}
use Rattle.definitions.specs.FormReader.{Typed, typed, value_of, FilterPart, the_action, the_lines, filter_reads, judges_of}
use Rattle.definitions.specs.Collected.{now, numbered, set_of}
use Rattle.call_names.specs.Slots.{Good}
use Rattle.json_scan.specs.Telling.{place_in, Reads}
use Rattle.json_scan.specs.declared.Misread.{Misread}
use Rattle.json_scan.specs.declared.Read.{Read}
use Rattle.json_filters.specs.declared.Parts.{Parts}
use Rattle.json_filters.specs.declared.Turn.{Turn}

-- the slots of a lent table
abbrev pub table_slots : List ℕ → List Slot
table_slots table = slots_in (slot_count table) table

-- an architecture's number that is known
pub record Known (architecture : ℕ) : Type 0 where
  pub known : Architecture
  pub named : architecture_of architecture ≡ some known

-- what is lent: a text that is not too long, a good table, scratch by the text's length
pub record Lent (text table scratch : List ℕ) : Type 0 where
  pub short : length text ≤ 1048576
  pub good : Good table
  pub room : 3 * length text ≤ length scratch

-- the first part of scratch is as it was
pub record Untouched (t : ℕ) (before after : List ℕ) : Type 0 where
  pub front : take t after ≡ take t before
  pub whole : length after ≡ length before

-- ---- what is gathered of a filter

-- an action's field
abbrev pub ActionHeld : Option FilterPart → given.Option ℕ → Type 0
ActionHeld none value = value ≡ None
ActionHeld (some (the_action a)) value = value ≡ Some a
ActionHeld (some (the_lines ls)) value = ⊥

-- the entries of lines, in the second third of scratch
pub record LinesWritten (slots : List Slot) (t : ℕ) (scratch : List ℕ) (count : ℕ) (ls : List Line) : Type 0 where
  pub entries : List Entry
  pub made : numbered slots ls ≡ some entries
  pub written : take (length (joined encode_entry entries)) (drop t scratch) ≡ joined encode_entry entries
  pub many : count ≡ length entries

abbrev pub LinesHeld : List Slot → ℕ → List ℕ → Option FilterPart → given.Option ℕ → Type 0
LinesHeld slots t scratch none lines = lines ≡ None
LinesHeld slots t scratch (some (the_action a)) lines = ⊥
LinesHeld slots t scratch (some (the_lines ls)) lines = IsSomeAnd lines (λ count. LinesWritten slots t scratch count ls)

pub record Gathered (slots : List Slot) (t : ℕ) (scratch : List ℕ) (p : Parts) (ts : List (Typed FilterPart)) : Type 0 where
  pub mismatch : ActionHeld (value_of 0 ts) p.mismatch
  pub on_match : ActionHeld (value_of 1 ts) p.on_match
  pub lines : LinesHeld slots t scratch (value_of 2 ts) p.lines

-- whether a field was given
unfoldable pub is_given : Parts → ℕ → Bool
is_given p f = cond (eqb f 0) (is_some p.mismatch) (cond (eqb f 1) (is_some p.on_match) (is_some p.lines))

-- a place behind the brace that ends an object
pub record Closed (text : List ℕ) (at : ℕ) : Type 0 where
  pub some : 1 ≤ at
  pub inside : at ≤ length text
  pub brace : drop (at - 1) text ≡ 0x7d ∷ drop at text

-- what is gathered with a turn up to a place; where it is the last, the brace is passed
pub record TurnHeld (slots : List Slot) (text scratch : List ℕ) (at : ℕ) (turn : Turn) (ts : List (Typed FilterPart)) : Type 0 where
  pub gathered : Gathered slots (length text) scratch turn.parts ts
  pub closed : turn.more ≡ false → Closed text at

-- all fields of an object are gathered, and its brace is passed
pub record AllGathered (slots : List Slot) (text scratch : List ℕ) (at : ℕ) (p : Parts) (ts : List (Typed FilterPart)) : Type 0 where
  pub gathered : Gathered slots (length text) scratch p ts
  pub closed : Closed text at

-- a field more, behind those that were gathered before it
pub record GathersOn (text : List ℕ) (at : ℕ) (table before after : List ℕ) (field : ℕ) (p : Parts) (r : Result (Read Parts) Misread) : Type 0 where
  pub on : (ts : List (Typed FilterPart)) → Gathered (table_slots table) (length text) before p ts → value_of field ts ≡ none
      → Reads text at (λ part q. Gathered (table_slots table) (length text) after q (typed field part ∷ ts))
      (filter_reads (judges_of (table_slots table)) field (drop at text)) r
  pub inside : place_in r ≤ length text

-- ---- what is written of it

-- a set's bytes by its numbers
unfoldable pub set_bytes : ℕ → ℕ → ℕ → List Entry → List ℕ
set_bytes architecture mismatch on_match es =
    bytes_of 4 architecture ++ (bytes_of 4 mismatch ++ (bytes_of 4 on_match ++ (bytes_of 4 (length es) ++ joined encode_entry es)))

-- bytes that stand behind what stood in front of a place
pub record Behind (place : ℕ) (before after bytes : List ℕ) (end : ℕ) : Type 0 where
  pub spot : end ≡ place + length bytes
  pub written : take end after ≡ take place before ++ bytes
  pub whole : length after ≡ length before

-- the set of a filter, no longer than what was read of the text
pub record SetWritten (slots : List Slot) (architecture place : ℕ) (before after : List ℕ) (end at : ℕ) (f : Filter) : Type 0 where
  pub known : Architecture
  pub named : architecture_of architecture ≡ some known
  pub set : RuleSet
  pub made : set_of now.join slots known (native_of architecture) f ≡ some set
  pub behind : Behind place before after (encode set) end
  pub short : end ≤ at
