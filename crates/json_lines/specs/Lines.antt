-- The lines of a filter, written as entries while they are read: the reader's parts as the code takes them, and what then stands in a buffer.
-- Needs no belief.
use Rattle.std.specs.Prelude.{ℕ, ◌+◌, ◌-◌, ◌*◌, ◌≤◌, ◌<◌, ◌≡◌, Bool, true, false, cond, None, Some, IsSomeAnd, List, [], ◌∷◌, ◌++◌, eqb, length, take, drop}
use Rattle.std.specs.Prelude as given
use Rattle.std.proofs.Math.Option.{Option, none, some}
use Rattle.definitions.specs.Word.{bytes_of}
use Rattle.definitions.specs.RuleSet.{Rule, Entry}
use Rattle.definitions.specs.Format.{joined, encode_condition, encode_entry}
use Rattle.definitions.specs.JsonForm.{Line, line_keys, field_of}
use Rattle.definitions.specs.JsonReader.{Got, got, stop, follow, first, blanks}
use Rattle.definitions.specs.FormReader.{given_twice, unknown_call, empty_args, Judges, is_some, asked, judged, null_or, string_there, list_there, condition_there, object_there, behind_key, Typed, value_of, field_judge, field_reader, LinePart, the_call, the_args, the_remark, line_reads}
use Rattle.definitions.specs.CallNames.{Slot, number_for}
use Rattle.definitions.specs.Collected.{rules_of_args, numbered}
use Rattle.json_theorems.specs.Turns.{open_there, field_there, colon_there}
use Rattle.json_scan.specs.Scan.{At}
use Rattle.json_lines.specs.declared.Lines.{Lines}
use Rattle.json_lines.specs.declared.LineRead.{LineRead}

-- ---- the reader's parts

-- the bracket that begins an object or a list, and whether something stands in it; where nothing does, its end too
unfoldable pub begin_there : ℕ → ℕ → List ℕ → Got Bool
begin_there opening closing l =
    follow (open_there opening l) (λ z rest. cond (eqb (first (blanks rest)) closing) (got false (drop 1 (blanks rest))) (got true rest))

-- a call's name that the table has
unfoldable pub call_there : List Slot → List ℕ → Got (List ℕ)
call_there slots = judged (λ s. asked (is_some (number_for slots s)) unknown_call s) string_there

-- null, or a list of one condition at least
unfoldable pub args_there : Judges → List ℕ → Got (Option Rule)
args_there j = null_or (judged (λ r. asked (j.filled r) empty_args r) (list_there (condition_there j)))

-- a key of a line whose field was not seen before, up to its value
unfoldable pub fresh_there : (ℕ → Bool) → List ℕ → Got ℕ
fresh_there seen l =
    follow (field_there line_keys (blanks l)) (λ f past. cond (seen f) (stop given_twice (blanks l)) (follow (colon_there past) (λ z behind. got f behind)))

-- the fields of a line
unfoldable pub fields_there : Judges → List ℕ → Got (List (Typed LinePart))
fields_there j = object_there (λ ts k. field_judge ts (field_of line_keys k)) (λ ts k. behind_key (field_reader (line_reads j) ts (field_of line_keys k))) []

-- ---- what is known of a line while it is read

-- whether the key of a field was given
unfoldable pub seen_in : LineRead → ℕ → Bool
seen_in line f = cond (eqb f 0) (given.is_some line.number) (cond (eqb f 1) (given.is_some line.args) line.commented)

-- ---- what was written

-- conditions stand behind what stood in front of a place
pub record Conditions (raw₀ raw : List ℕ) (spot count : ℕ) (q : Rule) : Type 0 where
  pub counted : count ≡ length q
  pub written : take (spot + 24 * count) raw ≡ take spot raw₀ ++ joined encode_condition q
  pub fits : 0 < count → spot + 24 * count ≤ length raw₀

-- args that were read: no rule, or one with its conditions
abbrev pub ArgsOf : List ℕ → List ℕ → ℕ → given.Option ℕ → Option Rule → Type 0
ArgsOf raw₀ raw spot conditions none = (conditions ≡ None) × (take spot raw ≡ take spot raw₀)
ArgsOf raw₀ raw spot conditions (some q) = IsSomeAnd conditions (λ count. (0 < count) × Conditions raw₀ raw spot count q)

-- ---- what is known of a line by the fields that were read

abbrev pub CallIs : List Slot → given.Option ℕ → Option LinePart → Type 0
CallIs slots number none = number ≡ None
CallIs slots number (some (the_call s)) = IsSomeAnd number (λ n. number_for slots s ≡ some n)
CallIs slots number (some (the_args r)) = ⊥
CallIs slots number (some (the_remark c)) = ⊥

-- conditions stand behind the twelve bytes of their entry and rule
pub record Stand (raw : List ℕ) (spot count : ℕ) (q : Rule) : Type 0 where
  pub counted : count ≡ length q
  pub written : take (24 * count) (drop (spot + 12) raw) ≡ joined encode_condition q

abbrev pub RuleIs : List ℕ → ℕ → given.Option ℕ → Option Rule → Type 0
RuleIs raw spot conditions none = conditions ≡ None
RuleIs raw spot conditions (some q) = IsSomeAnd conditions (λ count. Stand raw spot count q)

abbrev pub ArgsAre : List ℕ → ℕ → given.Option (given.Option ℕ) → Option LinePart → Type 0
ArgsAre raw spot args none = args ≡ None
ArgsAre raw spot args (some (the_call s)) = ⊥
ArgsAre raw spot args (some (the_args r)) = IsSomeAnd args (λ conditions. RuleIs raw spot conditions r)
ArgsAre raw spot args (some (the_remark c)) = ⊥

abbrev pub RemarkIs : Bool → Option LinePart → Type 0
RemarkIs commented none = commented ≡ false
RemarkIs commented (some (the_call s)) = ⊥
RemarkIs commented (some (the_args r)) = ⊥
RemarkIs commented (some (the_remark c)) = commented ≡ true

-- in front of the line's entry all is as it was
pub record Holds (slots : List Slot) (raw₀ raw : List ℕ) (spot : ℕ) (line : LineRead) (ts : List (Typed LinePart)) : Type 0 where
  pub call : CallIs slots line.number (value_of 0 ts)
  pub args : ArgsAre raw spot line.args (value_of 1 ts)
  pub remark : RemarkIs line.commented (value_of 2 ts)
  pub front : take spot raw ≡ take spot raw₀

-- the whole object was read: a brace stands in front of the place
pub record Known (slots : List Slot) (text raw₀ raw : List ℕ) (spot past : ℕ) (line : LineRead) (ts : List (Typed LinePart)) : Type 0 where
  pub holds : Holds slots raw₀ raw spot line ts
  pub brace : At text (0x7d ∷ drop past text) (past - 1)

-- an entry, and its rule if it has one, in front of the rule's conditions
abbrev pub head_bytes : ℕ → given.Option ℕ → List ℕ
head_bytes number (Some count) = bytes_of 4 number ++ (bytes_of 4 1 ++ bytes_of 4 count)
head_bytes number None = bytes_of 4 number ++ bytes_of 4 0

abbrev pub entry_size : given.Option ℕ → ℕ
entry_size (Some count) = 12 + 24 * count
entry_size None = 8

-- the entry of a line stands behind what stood in front of a place
pub record Written (slots : List Slot) (raw₀ raw : List ℕ) (spot past : ℕ) (line : Line) : Type 0 where
  pub number : ℕ
  pub named : number_for slots line.call ≡ some number
  pub end : past ≡ spot + length (encode_entry (record { number = number; rules = rules_of_args line.args }))
  pub written : take past raw ≡ take spot raw₀ ++ encode_entry (record { number = number; rules = rules_of_args line.args })

-- the entries of lines stand at the front of a buffer
pub record Entries (slots : List Slot) (raw : List ℕ) (r : Lines) (lines : List Line) : Type 0 where
  pub entries : List Entry
  pub made : numbered slots lines ≡ some entries
  pub written : take r.end raw ≡ joined encode_entry entries
  pub end : r.end ≡ length (joined encode_entry entries)
  pub count : r.count ≡ length entries
