-- That a refusal names the first part that has the fault, as statements about compiling and deciding. Proofs are in
-- crates/theorems/proofs/Named.antt.
use Rattle.std.specs.Prelude.{ℕ, suc, ◌<◌, ◌≡◌, Bool, true, false, List, [], ◌∷◌, length, take, get_or}
use Rattle.std.proofs.Math.Option.{some}
use Rattle.definitions.specs.declared.Condition.{Condition}
use Rattle.definitions.specs.declared.Fault.{Fault}
use Rattle.definitions.specs.declared.Answer.{Answer}
use Rattle.definitions.specs.declared.Decision.{Decision}
use Rattle.definitions.specs.Word.{AreBytes}
use Rattle.definitions.specs.RuleSet.{Rule, Entry, RuleSet, one_of}
use Rattle.definitions.specs.Format.{read}
use Rattle.definitions.specs.Answer.{ascending, all, has_conditions, index_taken, fits_width, short_with, emitted_size, turns_long, fault, nowhere, answer_by, answer_of}
use Rattle.definitions.specs.Outcome.{decided_of}

-- part n is there, does not pass, and all in front of it do
pub record FirstFailing {A : Type 0} (f : A → Bool) (nothing : A) (parts : List A) (n : ℕ) : Type 0 where
  pub there : n < length parts
  pub fails : f (get_or parts n nothing) ≡ false
  pub before : (k : ℕ) → k < n → f (get_or parts k nothing) ≡ true

-- entry n is there, the entries in front of it pass, and with it they do not
pub record TurnsWith (f : List Entry → Bool) (entries : List Entry) (n : ℕ) : Type 0 where
  pub there : n < length entries
  pub passes : f (take n entries) ≡ true
  pub fails : f (take (suc n) entries) ≡ false

-- and it is the first
pub record FirstWith (f : List Entry → Bool) (entries : List Entry) (n : ℕ) : Type 0 where
  pub turns : TurnsWith f entries n
  pub before : (k : ℕ) → k < n → f (take k entries) ≡ true

abbrev pub no_entry : Entry
no_entry = record { number = 0; rules = [] }

-- the rule that a fault names is the first that does not pass, in the first entry that has one
pub record RuleNamed (test : Rule → Bool) (rs : RuleSet) (f : Fault) : Type 0 where
  pub entry : FirstFailing (λ (e : Entry). all test e.rules) no_entry rs.entries f.entry
  pub rule : FirstFailing test [] (get_or rs.entries f.entry no_entry).rules f.rule

abbrev pub rule_of : RuleSet → Fault → Rule
rule_of rs f = get_or (get_or rs.entries f.entry no_entry).rules f.rule []

-- `Long`: what is said of the entry that is named where a filter is too long
pub record NamedIn (Long : ℕ → Type 0) (rs : RuleSet) (f : Fault) : Type 0 where
  pub ascending : f.code ≡ 2 → FirstWith ascending rs.entries f.entry × (f.rule ≡ nowhere) × (f.condition ≡ nowhere)
  pub empty : f.code ≡ 4 → RuleNamed has_conditions rs f × (f.condition ≡ nowhere)
  pub index : f.code ≡ 5 → RuleNamed (all index_taken) rs f × ((q : Condition) → FirstFailing index_taken q (rule_of rs f) f.condition)
  pub long : f.code ≡ 6 → Long f.entry × (f.rule ≡ nowhere) × (f.condition ≡ nowhere)
  pub wide : f.code ≡ 8 → RuleNamed (all fits_width) rs f × ((q : Condition) → FirstFailing fits_width q (rule_of rs f) f.condition)

-- no place is named
abbrev pub Nowhere : Fault → Type 0
Nowhere f = (f.entry ≡ nowhere) × (f.rule ≡ nowhere) × (f.condition ≡ nowhere)

-- ---- of compiling

abbrev pub refused_by : Answer → Fault
refused_by r = fault r.code r.entry r.rule r.condition

abbrev pub Named : Type 0
Named =
    (set : List ℕ) (room : ℕ) (rs : RuleSet) → read set ≡ some rs
    → NamedIn (FirstWith (short_with emitted_size rs) rs.entries) rs (refused_by (answer_of set room))

-- of a form of `size` instructions that need not grow with each entry, as a search
abbrev pub TurnsNamed : (RuleSet → ℕ) → Type 0
TurnsNamed size =
    (set : List ℕ) (room : ℕ) (rs : RuleSet) → AreBytes set → read set ≡ some rs
    → NamedIn (TurnsWith (short_with size rs) rs.entries) rs (refused_by (answer_by size (turns_long size) (read set) room))

-- the other answers name none, whatever the form: compiled, not of the format, equal actions, a buffer that is too short
abbrev pub placeless : List ℕ
placeless = 0 ∷ 1 ∷ 3 ∷ 7 ∷ []

abbrev pub Unnamed : Type 0
Unnamed =
    (size long : RuleSet → ℕ) (set : List ℕ) (room code : ℕ) → one_of placeless code ≡ true → (answer_by size long (read set) room).code ≡ code
    → Nowhere (refused_by (answer_by size long (read set) room))

-- ---- of deciding, where no filter is too long

abbrev pub undecided_by : Decision → Fault
undecided_by d = fault d.code d.entry d.rule d.condition

abbrev pub DecidedNamed : Type 0
DecidedNamed =
    (set call : List ℕ) (rs : RuleSet) → length call ≡ 64 → read set ≡ some rs → NamedIn (λ n. ⊥) rs (undecided_by (decided_of set call))

-- the other answers: decided, not of the format, equal actions, a call that is not 64 bytes
abbrev pub undecided : List ℕ
undecided = 0 ∷ 1 ∷ 3 ∷ 9 ∷ []

abbrev pub DecidedUnnamed : Type 0
DecidedUnnamed =
    (set call : List ℕ) (code : ℕ) → one_of undecided code ≡ true → (decided_of set call).code ≡ code → Nowhere (undecided_by (decided_of set call))
