-- What rule sets mean, and so what their filters do, in both forms of output, as statements: each is said of meanings and then of bytes
-- that compilations wrote (`FilterOf`). Each is proved in the file of proofs/ that bears its name.
use Rattle.std.specs.Prelude.{ℕ, ◌≤◌, ◌≡◌, true, List, [], ◌∷◌, length}
use Rattle.definitions.specs.declared.Answer.{Answer}
use Rattle.definitions.specs.Word.{AreBytes}
use Rattle.definitions.specs.Machine.{filter_of, Call, returns, runs}
use Rattle.definitions.specs.RuleSet.{RuleSet, kill_process, one_of, meaning, rules_of}
use Rattle.definitions.specs.Compiled.{filter_in, Compiled, Searched}
use Rattle.definitions.specs.Outcome.{outcome_of, decided_of}
use Rattle.theorems.specs.Outputs.{Output, Promised}
use Rattle.behaviour.specs.Filters.{FilterOf}
use Rattle.behaviour.specs.Changes.{Changed, MoreEntries, OnlyAt, Narrowed, Reordered}
use Rattle.behaviour.specs.Seen.{SeenAlike, from}

-- ---- of compilations

-- of one set and into one form, two write the same bytes, whatever stood in their buffers
abbrev pub Fixed : Type 0
Fixed =
    (o : Output) (set before after other_before other_after : List ℕ) (r s : Answer) → AreBytes set
    → Promised o set before after r → Promised o set other_before other_after s → r.code ≡ 0 → s.code ≡ 0
    → filter_in r after ≡ filter_in s other_after

-- of one rule set, two do the same with every call, also where one is a list and the other a search
abbrev pub Alike : Type 0
Alike = (rs : RuleSet) (f g : List ℕ) → FilterOf rs f → FilterOf rs g → (c : Call) → runs (filter_of f) c ≡ runs (filter_of g) c

-- what compiles as a list compiles as a search, in the same room or more
abbrev pub SearchToo : Type 0
SearchToo =
    (set before after other_before other_after : List ℕ) (r s : Answer)
    → Compiled set before after r → Searched set other_before other_after s → length before ≤ length other_before
    → r.code ≡ 0 → s.code ≡ 0

-- running what compiling wrote and asking the rule set itself give one action, for every call
abbrev pub Agree : Type 0
Agree =
    (o : Output) (set before after : List ℕ) (r : Answer) → AreBytes set → Promised o set before after r → r.code ≡ 0
    → (call : List ℕ) → length call ≡ 64
    → ((outcome_of (filter_in r after) call).code ≡ 0) × ((decided_of set call).code ≡ 0)
    × ((outcome_of (filter_in r after) call).action ≡ (decided_of set call).action)

-- ---- which actions there are: that for a match, that for a mismatch, and kill process

abbrev pub three : RuleSet → List ℕ
three rs = rs.on_match ∷ rs.mismatch ∷ kill_process ∷ []

abbrev pub OnlyThree : Type 0
OnlyThree = (rs : RuleSet) (c : Call) → one_of (three rs) (meaning rs c) ≡ true

abbrev pub OnlyThreeBytes : Type 0
OnlyThreeBytes =
    (rs : RuleSet) (f : List ℕ) → FilterOf rs f → (c : Call) → (a : ℕ) × (runs (filter_of f) c ≡ returns a) × (one_of (three rs) a ≡ true)

-- ---- what an action depends on

-- two calls that are the same in all that the rule set looks at get one action
abbrev pub Blind : Type 0
Blind = (rs : RuleSet) (c d : Call) → SeenAlike rs c d → meaning rs d ≡ meaning rs c

abbrev pub BlindBytes : Type 0
BlindBytes = (rs : RuleSet) (f : List ℕ) → FilterOf rs f → (c d : Call) → SeenAlike rs c d → runs (filter_of f) d ≡ runs (filter_of f) c

-- so a number without rules gets one action, whatever its arguments are
abbrev pub BlindToArguments : Type 0
BlindToArguments =
    (rs : RuleSet) (f : List ℕ) → FilterOf rs f → (c d : Call) → d.architecture ≡ c.architecture → d.number ≡ c.number
    → rules_of c.number rs.entries ≡ [] → runs (filter_of f) d ≡ runs (filter_of f) c

-- and it never matters where a call comes from
abbrev pub BlindToPointer : Type 0
BlindToPointer =
    (rs : RuleSet) (f : List ℕ) → FilterOf rs f → (c : Call) (pointer : ℕ) → runs (filter_of f) (from pointer c) ≡ runs (filter_of f) c

-- ---- what a change of the rule set changes

-- with one more number listed, or one more rule for a number that has rules, what matched still matches
abbrev pub Grows : Type 0
Grows = (old new : RuleSet) → Changed MoreEntries old new → (c : Call) → meaning old c ≡ old.on_match → meaning new c ≡ new.on_match

abbrev pub GrowsBytes : Type 0
GrowsBytes =
    (old new : RuleSet) (f g : List ℕ) → FilterOf old f → FilterOf new g → Changed MoreEntries old new → (c : Call)
    → runs (filter_of f) c ≡ returns old.on_match → runs (filter_of g) c ≡ returns new.on_match

-- with one more condition in a rule, what did not match still does not
abbrev pub Stricter : Type 0
Stricter = (old new : RuleSet) → Changed Narrowed old new → (c : Call) → meaning old c ≡ old.mismatch → meaning new c ≡ new.mismatch

abbrev pub StricterBytes : Type 0
StricterBytes =
    (old new : RuleSet) (f g : List ℕ) → FilterOf old f → FilterOf new g → Changed Narrowed old new → (c : Call)
    → runs (filter_of f) c ≡ returns old.mismatch → runs (filter_of g) c ≡ returns new.mismatch

-- whatever is changed for number n, listing it included, no call with another number gets another action
abbrev pub Frame : Type 0
Frame = (n : ℕ) (old new : RuleSet) → Changed (OnlyAt n) old new → (c : Call) → (c.number ≡ n → ⊥) → meaning old c ≡ meaning new c

abbrev pub FrameBytes : Type 0
FrameBytes =
    (n : ℕ) (old new : RuleSet) (f g : List ℕ) → FilterOf old f → FilterOf new g → Changed (OnlyAt n) old new
    → (c : Call) → (c.number ≡ n → ⊥) → runs (filter_of f) c ≡ runs (filter_of g) c

-- the order of rules and of conditions changes no action
abbrev pub Order : Type 0
Order = (old new : RuleSet) → Changed Reordered old new → (c : Call) → meaning old c ≡ meaning new c

abbrev pub OrderBytes : Type 0
OrderBytes =
    (old new : RuleSet) (f g : List ℕ) → FilterOf old f → FilterOf new g → Changed Reordered old new
    → (c : Call) → runs (filter_of f) c ≡ runs (filter_of g) c
