-- What a condition's object has given so far, and how its reader goes on from there. Needs no belief.
use Rattle.std.specs.Prelude.{ℕ, ◌+◌, ◌-◌, ◌≤◌, ◌<◌, ◌≡◌, true, false, List, [], ◌∷◌, length, drop, is_some, Result, Ok, Err}
use Rattle.std.specs.Prelude as code
use Rattle.std.proofs.Math.Option.{Option, none, some}
use Rattle.definitions.specs.CallNames.{Slot}
use Rattle.definitions.specs.JsonForm.{Compared, field_of, condition_keys}
use Rattle.definitions.specs.JsonReader.{Got, got, fields}
use Rattle.definitions.specs.FormReader.{is_some as has, Typed, value_of, has_typed, field_judge, field_reader, behind_key, object_there, ConditionPart, as_index, as_width, as_operator, as_value, as_comment, condition_reads, judges_of}
use Rattle.json_scan.specs.declared.Misread.{Misread}
use Rattle.json_scan.specs.declared.Read.{Read}
use Rattle.json_scan.specs.Scan.{Tells, option_of}
use Rattle.json_scan.specs.Telling.{code_of}
use Rattle.json_condition.specs.declared.Comparison.{Comparison}
use Rattle.json_condition.specs.declared.Gathered.{Gathered}
use Rattle.json_condition.specs.declared.Turn.{Turn}
use Rattle.json_condition.specs.Conditions.{comparison_of}

abbrev pub Parts : Type 0
Parts = List (Typed ConditionPart)

-- the reader of a condition's object, and its turns, n of them at most
abbrev pub condition_object : List Slot → List ℕ → Got Parts
condition_object slots l =
    object_there (λ ts k. field_judge ts (field_of condition_keys k)) (λ ts k. behind_key (field_reader (condition_reads (judges_of slots)) ts (field_of condition_keys k))) [] l

abbrev pub condition_turns : List Slot → ℕ → Parts → List ℕ → Got Parts
condition_turns slots n ts l =
    fields (λ ts k. field_judge ts (field_of condition_keys k)) (λ ts k. behind_key (field_reader (condition_reads (judges_of slots)) ts (field_of condition_keys k))) n ts l

-- ---- the fields that were given: what each gave, that a comment is one, and that there is no other

abbrev pub compared_by : Option Compared → code.Option Comparison
compared_by none = code.None
compared_by (some o) = code.Some (comparison_of o)

pub record Kept (ts : Parts) (g : Gathered) : Type 0 where
  pub index : g.index ≡ option_of (as_index (value_of 0 ts))
  pub width : g.width ≡ option_of (as_width (value_of 1 ts))
  pub comparison : g.comparison ≡ compared_by (as_operator (value_of 2 ts))
  pub value : g.value ≡ option_of (as_value (value_of 3 ts))
  pub comment : has (as_comment (value_of 4 ts)) ≡ true
  pub indexed : is_some g.index ≡ has_typed 0 ts
  pub sized : is_some g.width ≡ has_typed 1 ts
  pub compared : is_some g.comparison ≡ has_typed 2 ts
  pub valued : is_some g.value ≡ has_typed 3 ts
  pub commented : g.commented ≡ has_typed 4 ts
  pub other : (f : ℕ) → 5 ≤ f → has_typed f ts ≡ false

-- ---- how the reader goes on: there are turns to come, or it is done, or it stopped

pub record Further (slots : List Slot) (text : List ℕ) (from : ℕ) (result : Got Parts) (at : ℕ) (g : Gathered) : Type 0 where
  pub parts : Parts
  pub turns : ℕ
  pub kept : Kept parts g
  pub on : from < at
  pub inside : at ≤ length text
  pub enough : length text ≤ at + turns
  pub same : result ≡ condition_turns slots turns parts (drop at text)

pub record Ended (text : List ℕ) (from : ℕ) (result : Got Parts) (at : ℕ) (g : Gathered) : Type 0 where
  pub parts : Parts
  pub kept : Kept parts g
  pub on : from < at
  pub inside : at ≤ length text
  pub brace : drop (at - 1) text ≡ 0x7d ∷ drop at text
  pub same : result ≡ got parts (drop at text)

pub data Onward (slots : List Slot) (text : List ℕ) (from : ℕ) (result : Got Parts) (t : Read Turn) : Type 0 where
  further : t.value.more ≡ true → Further slots text from result t.at t.value.gathered → Onward slots text from result t
  ended : t.value.more ≡ false → Ended text from result t.at t.value.gathered → Onward slots text from result t

abbrev pub Left : List Slot → List ℕ → ℕ → Got Parts → Result (Read Turn) Misread → Type 0
Left slots text from result (Ok t) = Onward slots text from result t
Left slots text from result (Err e) = Tells text from (λ ts. Unit {0}) result (code_of e.why) e.at
