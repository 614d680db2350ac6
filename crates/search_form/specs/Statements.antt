-- The theorems of the search form, as statements in the words of the definitions. Each is proved in the file of proofs/ that bears its name.
use Rattle.std.specs.Prelude.{ℕ, ◌+◌, ◌^◌, ◌≤◌, ◌≡◌, true, length}
use Rattle.definitions.specs.Machine.{filter_bytes, filter_of, Call, returns, runs, steps}
use Rattle.definitions.specs.Kernel.{accepts}
use Rattle.definitions.specs.RuleSet.{RuleSet, meaning}
use Rattle.definitions.specs.Emitted.{emitted}
use Rattle.definitions.specs.Format.{InRange}
use Rattle.definitions.specs.Answer.{ascending, indices_taken, search_size}
use Rattle.theorems.specs.Named.{TurnsNamed}
use Rattle.definitions.specs.SearchForm.{search_form}
use Rattle.search_form.specs.Rules.{rules_form}
use Rattle.search_form.specs.Counts.{search_most}
use Rattle.definitions.specs.Compiled.{guard_steps, found_steps}
use Rattle.definitions.specs.RuleSet.{span_count}

-- it returns, for every call, the action that the rule set means
abbrev pub Right : Type 0
Right = (rs : RuleSet) → ascending rs.entries ≡ true → indices_taken rs ≡ true → (c : Call) → runs (search_form rs) c ≡ returns (meaning rs c)

-- the kernel's checks pass, where it is short enough for the kernel
abbrev pub Taken : Type 0
Taken = (rs : RuleSet) → InRange rs → indices_taken rs ≡ true → length (search_form rs) ≤ 4096 → accepts (search_form rs) ≡ true

-- its bytes stand for it, so that all that is said here of the form holds of the bytes
abbrev pub Bytes : Type 0
Bytes =
    (rs : RuleSet) → InRange rs → indices_taken rs ≡ true → length (search_form rs) ≤ 4096 → filter_of (filter_bytes (search_form rs)) ≡ search_form rs

-- it is never longer than the emitted form
abbrev pub Shorter : Type 0
Shorter = (rs : RuleSet) → length (search_form rs) ≤ length (emitted rs)

-- with at most 2 ^ k spans, a run takes searchMost k instructions at most, and beside them what a guard takes, and a return, or what the
-- number's rules take by themselves
abbrev pub Quick : Type 0
Quick =
    (rs : RuleSet) → ascending rs.entries ≡ true → indices_taken rs ≡ true → (c : Call) (k : ℕ) → span_count rs.entries ≤ 2 ^ k
    → steps (search_form rs) c ≤ search_most k + guard_steps rs c + found_steps rs c

-- where it is too long, an entry is named with which it gets so
abbrev pub SearchNamed : Type 0
SearchNamed = TurnsNamed search_size

-- ---- of the form that searches rules too

abbrev pub RulesRight : Type 0
RulesRight = (rs : RuleSet) → ascending rs.entries ≡ true → indices_taken rs ≡ true → (c : Call) → runs (rules_form rs) c ≡ returns (meaning rs c)

abbrev pub RulesTaken : Type 0
RulesTaken = (rs : RuleSet) → InRange rs → indices_taken rs ≡ true → length (rules_form rs) ≤ 4096 → accepts (rules_form rs) ≡ true

abbrev pub RulesShorter : Type 0
RulesShorter = (rs : RuleSet) → length (rules_form rs) ≤ length (emitted rs)
