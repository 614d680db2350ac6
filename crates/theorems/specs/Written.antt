-- The theorems of rule sets that are written and read part by part, as statements. Their proofs stand beside the code: in
-- crates/writers/proofs/Made.antt and crates/readers/proofs/Back.antt.
use Rattle.std.specs.Prelude.{ℕ, ◌*◌, ◌≡◌, Bool, true, cond, List, [], ◌∷◌, leb, ltb, length, take}
use Rattle.std.proofs.Math.Option.{Option, some}
use Rattle.definitions.specs.declared.Condition.{Condition}
use Rattle.definitions.specs.declared.Writer.{Writer}
use Rattle.definitions.specs.declared.Cursor.{Cursor}
use Rattle.definitions.specs.RuleSet.{Rule, Entry, RuleSet}
use Rattle.definitions.specs.Format.{InRange, encode, read}
use Rattle.definitions.specs.Answer.{ascending, rules_filled, indices_taken, widths_fit, too_many}
use Rattle.definitions.specs.Parts.{last_rules}
use Rattle.definitions.specs.Writers.{state_fits, Added, Made}
use Rattle.definitions.specs.Readers.{head_of, entry_of, rule_of, compared_of, Left, HeadGiven, EntryGiven, RuleGiven, ConditionGiven}
use Rattle.theorems.specs.Outputs.{Output, size_in, answer_in}

-- ---- of what calls of the writers made

-- the bytes are the byte form of the parts
abbrev pub Spelled : Type 0
Spelled = (rs : RuleSet) (out : List ℕ) (w : Writer) → Made rs out w → InRange rs × (encode rs ≡ take w.end out)

-- they read back as the parts
abbrev pub ReadBack : Type 0
ReadBack = (rs : RuleSet) (out : List ℕ) (w : Writer) → Made rs out w → read (take w.end out) ≡ some rs

-- compiling them never says that they are not of the format
abbrev pub OfTheFormat : Type 0
OfTheFormat =
    (o : Output) (rs : RuleSet) (out : List ℕ) (w : Writer) → Made rs out w → (room : ℕ) → (answer_in o (take w.end out) room).code ≡ 1 → ⊥

-- where the numbers were listed in ascending order, the actions differ, no rule was left without conditions, no index is above 5 and
-- every dword condition's value and mask have 32 bits, they compile, unless the filter is too long or the buffer too short
abbrev pub Compiling : Type 0
Compiling =
    (o : Output) (rs : RuleSet) (out : List ℕ) (w : Writer) → Made rs out w
    → ascending rs.entries ≡ true → (rs.mismatch ≡ rs.on_match → ⊥) → rules_filled rs ≡ true → indices_taken rs ≡ true → widths_fit rs ≡ true
    → (room : ℕ)
    → ((answer_in o (take w.end out) room).code ≡ cond (leb too_many (size_in o rs)) 6 (cond (ltb room (8 * size_in o rs)) 7 0))
    × ((answer_in o (take w.end out) room).count ≡ size_in o rs)

-- a state that calls have made fits its buffer, says that no number is listed only where none is, and that no rule is open only where
-- the number listed last has none
abbrev pub Fitting : Type 0
Fitting =
    (rs : RuleSet) (out : List ℕ) (w : Writer) → Made rs out w
    → (state_fits w ≡ true) × (w.entry ≡ 0 → rs.entries ≡ []) × (w.rule ≡ 0 → last_rules rs.entries ≡ [])

-- a state without a set, as a start that was refused returns it, is refused by every writer, and is such a state then
abbrev pub NeverStarted : Type 0
NeverStarted =
    (part : Option (RuleSet → RuleSet)) (ordered : Bool) (more : ℕ) (before after : List ℕ) (w r : Writer)
    → Added part ordered more before after w r → w.end ≡ 0 → (r.code ≡ 0 → ⊥) × (r.end ≡ 0)

-- ---- of reading a rule set's bytes: its parts come back, in order. From the head on, each reader gives the part that is next, and
-- leaves a cursor that stands before the others.

abbrev pub HeadBack : Type 0
HeadBack = (rs : RuleSet) → InRange rs → HeadGiven rs (encode rs) (head_of (encode rs))

abbrev pub EntryBack : Type 0
EntryBack = (s : List ℕ) (c : Cursor) (e : Entry) (es : List Entry) → Left s c [] [] (e ∷ es) → EntryGiven e es s (entry_of s c)

abbrev pub RuleBack : Type 0
RuleBack = (s : List ℕ) (c : Cursor) (r : Rule) (rs : List Rule) (es : List Entry) → Left s c [] (r ∷ rs) es → RuleGiven r rs es s (rule_of s c)

abbrev pub ConditionBack : Type 0
ConditionBack =
    (s : List ℕ) (c : Cursor) (q : Condition) (qs : List Condition) (rs : List Rule) (es : List Entry)
    → Left s c (q ∷ qs) rs es → ConditionGiven q qs rs es s (compared_of s c)

-- where nothing is left, the cursor stands behind the last byte
abbrev pub AllRead : Type 0
AllRead = (s : List ℕ) (c : Cursor) → Left s c [] [] [] → c.at ≡ length s
