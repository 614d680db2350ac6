-- What asking about a call answers, without a kernel: what a filter does with it, and what a rule set means for it.
use Rattle.std.specs.Prelude.{ℕ, ◌+◌, ◌*◌, ◌/◌, ◌%◌, ◌<◌, ◌≡◌, cond, List, eqb, leb, length, take, drop}
use Rattle.std.proofs.Math.Option.{Option, none, some}
use Rattle.definitions.specs.declared.Fault.{Fault}
use Rattle.definitions.specs.declared.Outcome.{Outcome}
use Rattle.definitions.specs.declared.Decision.{Decision}
use Rattle.definitions.specs.Word.{number_at}
use Rattle.definitions.specs.Machine.{Result, returns, stuck, filter_of, Call, call_of, runs, steps}
use Rattle.definitions.specs.Kernel.{accepts_bytes}
use Rattle.definitions.specs.RuleSet.{RuleSet, meaning}
use Rattle.definitions.specs.Format.{read}
use Rattle.definitions.specs.Answer.{placeless, no_fault, refusal}

-- a filter that the kernel would not take
abbrev pub refused : Outcome
refused = record { code = 1; action = 0; steps = 0 }

-- a run's result and the number of instructions that it executed. No filter that the kernel takes gets stuck.
abbrev pub ended : Result → ℕ → Outcome
ended (returns a) n = record { code = 0; action = a; steps = n }
ended stuck n = refused

-- a call that is not 64 bytes
abbrev pub no_call : Outcome
no_call = record { code = 9; action = 0; steps = 0 }

-- what a filter's bytes do with a call's bytes
unfoldable pub outcome_of : List ℕ → List ℕ → Outcome
outcome_of filter call =
    cond (eqb (length call) 64)
    (cond (accepts_bytes filter) (ended (runs (filter_of filter) (call_of call)) (steps (filter_of filter) (call_of call))) refused)
    no_call

-- ---- a filter and many calls, 64 bytes each, one behind the other

abbrev pub call_in : List ℕ → ℕ → List ℕ
call_in calls i = take 64 (drop (64 * i) calls)

-- the outcome with that number in a buffer: action and steps, four bytes each
abbrev pub outcome_in : List ℕ → ℕ → Outcome
outcome_in out i = record { code = 0; action = number_at 4 out (8 * i); steps = number_at 4 out (8 * i + 4) }

-- how many bytes the outcomes take
abbrev pub outcomes_size : List ℕ → ℕ
outcomes_size calls = 8 * (length calls / 64)

-- 9: the bytes are not whole calls; 1: the kernel would not take the filter; 7: the outcomes do not fit into so much room
unfoldable pub ran_code : List ℕ → List ℕ → ℕ → ℕ
ran_code filter calls room =
    cond (eqb (length calls % 64) 0) (cond (accepts_bytes filter) (cond (leb (outcomes_size calls) room) 0 7) 1) 9

-- what running a filter on calls promises of a buffer that held `before` and now holds `after`, and of the code that is answered
pub record RanAll (filter calls before after : List ℕ) (code : ℕ) : Type 0 where
  pub answer : code ≡ ran_code filter calls (length before)
  -- each call's outcome stands in the buffer, in the order of the calls
  pub each : code ≡ 0 → (i : ℕ) → i < length calls / 64 → outcome_in after i ≡ outcome_of filter (call_in calls i)
  -- what stands behind them is as it was; where it was refused, that is all
  pub kept : let written = cond (eqb code 0) (outcomes_size calls) 0 in drop written after ≡ drop written before

-- ---- a rule set: nothing runs, and what is refused has its place

abbrev pub decided : Fault → ℕ → Decision
decided f action = record { code = f.code; action = action; entry = f.entry; rule = f.rule; condition = f.condition }

-- What is refused is not decided. Too long a filter is no refusal here, since none is made.
abbrev pub decided_read : Option RuleSet → Call → Decision
decided_read none c = decided (placeless 1) 0
decided_read (some rs) c = cond (eqb (refusal rs).code 0) (decided no_fault (meaning rs c)) (decided (refusal rs) 0)

-- what a rule set's bytes mean for a call's bytes
unfoldable pub decided_of : List ℕ → List ℕ → Decision
decided_of set call = cond (eqb (length call) 64) (decided_read (read set) (call_of call)) (decided (placeless 9) 0)
