-- The worked rule set, and what the program's functions say of it.
use Rattle.std.specs.Prelude.{ℕ, ◌<◌, ◌≡◌, List, length}
use Rattle.std.proofs.Math.Option.{some}
use Rattle.definitions.specs.declared.Condition.{Condition}
use Rattle.definitions.specs.declared.Writer.{Writer}
use Rattle.definitions.specs.declared.Cursor.{Cursor}
use Rattle.definitions.specs.Machine.{filter_bytes}
use Rattle.definitions.specs.RuleSet.{Rule, Entry, RuleSet}
use Rattle.definitions.specs.Emitted.{emitted}
use Rattle.definitions.specs.Format.{encode}
use Rattle.definitions.specs.Parts.{started, with_rule, with_condition, condition_of}
use Rattle.definitions.specs.Writers.{Holds}
use Rattle.definitions.specs.Readers.{Left}
pub use Rattle.definitions.proofs.Examples.Emitted.{worked}

-- with nothing listed yet
abbrev pub begun : RuleSet
begun = started worked.architecture worked.native_only worked.mismatch worked.on_match

-- what a state says, unless a call was refused
abbrev pub Wrote : RuleSet → List ℕ → Writer → Type 0
Wrote rs out w = w.code ≡ 0 → Holds rs out w

-- a part was added, or a call was refused
abbrev pub Adds : (RuleSet → RuleSet) → List ℕ → List ℕ → Writer → Writer → Type 0
Adds add before after w r = (rs : RuleSet) → Wrote rs before w → Wrote (add rs) after r

-- a rule of one condition, which has these numbers
abbrev pub AddsRule : ℕ → ℕ → ℕ → ℕ → ℕ → List ℕ → List ℕ → Writer → Writer → Type 0
AddsRule index width operator value mask before after w r =
    (q : Condition) → condition_of index width operator value mask ≡ some q → Adds (λ rs. with_condition q (with_rule rs)) before after w r

-- a cursor stands before parts of a set, or behind the last
abbrev pub Ahead : List ℕ → Cursor → Type 0
Ahead s c = (qs : List Condition) × (rs : List Rule) × (es : List Entry) × Left s c qs rs es

-- a cursor that stood before parts of a set gave r: it still does, further on, or nothing is left
pub record Walked (s : List ℕ) (c r : Cursor) : Type 0 where
  pub ahead : Ahead s r
  pub further : r.code ≡ 0 → c.at < r.at
  pub ended : (r.code ≡ 0 → ⊥) → r.at ≡ length s

-- bytes are the byte form of a rule set, and others are its filter
pub record Stored (rs : RuleSet) (form filter : List ℕ) : Type 0 where
  pub spelled : encode rs ≡ form
  pub compiled : filter_bytes (emitted rs) ≡ filter
