-- The theorems, as statements in the words of the definitions. Each is proved in the file of proofs/ that bears its name.
use Rattle.std.specs.Prelude.{ℕ, ◌*◌, ◌/◌, ◌≤◌, ◌≡◌, ◌↔◌, true, cond, List, leb, ltb, length}
use Rattle.std.proofs.Math.Option.{some}
use Rattle.definitions.specs.declared.Instruction.{Instruction}
use Rattle.definitions.specs.Word.{AreBytes}
use Rattle.definitions.specs.Machine.{filter_bytes, filter_of, Call, call_of, returns, start, run, runs, visits, steps, Climbs}
use Rattle.definitions.specs.Kernel.{accepts, accepts_bytes}
use Rattle.definitions.specs.RuleSet.{RuleSet, meaning}
use Rattle.definitions.specs.Emitted.{emitted}
use Rattle.definitions.specs.Format.{InRange, encode, read}
use Rattle.definitions.specs.Answer.{too_many, ascending, rules_filled, indices_taken, widths_fit}
use Rattle.definitions.specs.Outcome.{outcome_of}
use Rattle.theorems.specs.Length.{filter_length}
use Rattle.theorems.specs.Outputs.{Output, size_in, answer_in}

-- ---- of the emitted filter

-- it returns, for every call, the action that the rule set means
abbrev pub Right : Type 0
Right = (rs : RuleSet) → indices_taken rs ≡ true → (c : Call) → runs (emitted rs) c ≡ returns (meaning rs c)

-- the kernel's checks pass, where it is short enough for the kernel
abbrev pub Taken : Type 0
Taken = (rs : RuleSet) → InRange rs → indices_taken rs ≡ true → length (emitted rs) ≤ 4096 → accepts (emitted rs) ≡ true

-- it is as long as a sum over entries, rules and conditions says
abbrev pub Lengths : Type 0
Lengths = (rs : RuleSet) → length (emitted rs) ≡ filter_length rs

-- ---- of every filter

-- a run goes from instruction to later instruction and stays inside, so that it executes none twice and at most as many as there are
abbrev pub Once : Type 0
Once = (p : List Instruction) (c : Call) → Climbs 0 (length p) (visits 0 0 p start c) × (steps p c ≤ length p)

-- one that the kernel takes is never stuck: every run returns an action
abbrev pub Safe : Type 0
Safe = (p : List Instruction) → accepts p ≡ true → (c : Call) → (a : ℕ) × (runs p c ≡ returns a)

-- one that the kernel takes reads no scratch word before it has written it: whatever they hold at the start, every run is the same
abbrev pub Scratch : Type 0
Scratch =
    (p : List Instruction) → accepts p ≡ true → (c : Call) (words : List ℕ) → length words ≡ 16
    → run 0 p (record { A = 0; X = 0; M = words }) c ≡ runs p c

-- ---- of bytes

-- the emitted filter's bytes stand for the emitted filter
abbrev pub Bytes : Type 0
Bytes = (rs : RuleSet) → InRange rs → indices_taken rs ≡ true → filter_of (filter_bytes (emitted rs)) ≡ emitted rs

-- so the three promises hold of the bytes
abbrev pub RightBytes : Type 0
RightBytes = (rs : RuleSet) → InRange rs → indices_taken rs ≡ true → (c : Call) → runs (filter_of (filter_bytes (emitted rs))) c ≡ returns (meaning rs c)

abbrev pub TakenBytes : Type 0
TakenBytes =
    (rs : RuleSet) → InRange rs → indices_taken rs ≡ true → length (emitted rs) ≤ 4096 → accepts_bytes (filter_bytes (emitted rs)) ≡ true

abbrev pub OnceBytes : Type 0
OnceBytes =
    (bs : List ℕ) (c : Call) → Climbs 0 (length bs / 8) (visits 0 0 (filter_of bs) start c) × (steps (filter_of bs) c ≤ length bs / 8)

-- asking what a filter does answers 0 with an action, for every filter that the kernel takes and every call
abbrev pub Answered : Type 0
Answered =
    (filter call : List ℕ) → accepts_bytes filter ≡ true → length call ≡ 64
    → (a : ℕ) × (outcome_of filter call ≡ record { code = 0; action = a; steps = steps (filter_of filter) (call_of call) })

-- ---- of rule sets

-- bytes are of the format exactly when they are what is written of a rule set in range, and then that rule set is read from them
abbrev pub RoundTrip : Type 0
RoundTrip = (bs : List ℕ) → AreBytes bs → (rs : RuleSet) → (read bs ≡ some rs) ↔ (InRange rs × (encode rs ≡ bs))

-- two different byte strings never are one rule set
abbrev pub OneForm : Type 0
OneForm = (a b : List ℕ) → AreBytes a → AreBytes b → (rs : RuleSet) → read a ≡ some rs → read b ≡ some rs → a ≡ b

-- ---- of answers, in both forms of output

-- 1 is said of no bytes that are of the format
abbrev pub NeverOne : Type 0
NeverOne = (o : Output) (set : List ℕ) (rs : RuleSet) → read set ≡ some rs → (room : ℕ) → (answer_in o set room).code ≡ 1 → ⊥

-- Where numbers ascend, the actions differ, every rule has conditions, no index is above 5 and every dword condition's value and mask have
-- 32 bits, a set compiles, unless its filter is too long or the buffer too short.
abbrev pub Faultless : Type 0
Faultless =
    (o : Output) (set : List ℕ) (rs : RuleSet) → read set ≡ some rs
    → ascending rs.entries ≡ true → (rs.mismatch ≡ rs.on_match → ⊥) → rules_filled rs ≡ true → indices_taken rs ≡ true → widths_fit rs ≡ true
    → (room : ℕ)
    → ((answer_in o set room).code ≡ cond (leb too_many (size_in o rs)) 6 (cond (ltb room (8 * size_in o rs)) 7 0))
    × ((answer_in o set room).count ≡ size_in o rs)
