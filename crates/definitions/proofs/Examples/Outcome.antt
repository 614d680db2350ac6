-- Examples of Outcome, by computation: a call as bytes, what is answered for whole runs, and for rule sets.
use mathlib.Core.Path.{◌≡◌, refl}
use mathlib.Core.List.{List, [], ◌∷◌, ◌++◌}
use mathlib.Core.Bool.{Bool, true, ◌&&◌, false}
use Prim.Native.Nat.{ℕ, ◌+◌, ◌^◌}
use lib.Dec.{eqb}
use lib.ListN.{take, replicate, set as put}
use Rattle.definitions.specs.declared.Operator.TheVariants.{Ge}
use Rattle.definitions.specs.declared.Width.TheVariants.{Dword, Qword}
use Rattle.definitions.specs.declared.Fault.{Fault}
use Rattle.definitions.specs.Word.{bytes_of, number_of, number_at}
use Rattle.definitions.specs.Machine.{instruction_bytes, filter_bytes, instruction_at, instructions_at, filter_of, call_of, words, fetch, codes, kind_in, kind_of, into_a, compute, test_holds, step_as, step, run, visits}
use Rattle.definitions.specs.Kernel.{constant_taken, operand_taken, taken_as, each_taken, effect_as, effect_of, is_return, ends_in_return, scratch_next, scratch_taken, accepts, accepts_bytes}
use Rattle.definitions.specs.Emitted.{load, if_equal, return}
use Rattle.definitions.specs.RuleSet.{x86_64, architecture_word, Rule, Entry, kill_process, one_of, is_action, test, holds, all_hold, any_holds, matches, listed, meaning, guarded, has_second_table, in_second_table}
use Rattle.definitions.specs.Format.{architecture_number, width_number, operator_number, encode_condition, encode_rule, encode_entry, encode, architecture_of, width_of, operator_of, mask_taken, times, condition_at, rule_at, entry_at, read, unflagged, native_of, head_number}
use Rattle.definitions.specs.Answer.{all, fault, nowhere, placeless, no_fault, unless, faults_of, condition_faults, count_faults, rule_faults, entries_faults, set_faults, lesser, least_of}
use Rattle.definitions.proofs.Examples.RuleSet.{compared, allow, errno}
use Rattle.definitions.specs.Outcome.{outcome_of, decided_of, call_in, outcome_in, ran_code}

-- number 7, architecture 0xc000003e, pointer 2 ^ 32 + 1, arguments 2, 3, 4, 5, 6 and 2 ^ 56
abbrev call : List ℕ
call =
    bytes_of 4 7 ++ bytes_of 4 0xc000003e ++ bytes_of 8 0x100000001
    ++ bytes_of 8 2 ++ bytes_of 8 3 ++ bytes_of 8 4 ++ bytes_of 8 5 ++ bytes_of 8 6 ++ bytes_of 8 0x100000000000000

fields : words (call_of call) ≡ 7 ∷ 0xc000003e ∷ 1 ∷ 1 ∷ 2 ∷ 0 ∷ 3 ∷ 0 ∷ 4 ∷ 0 ∷ 5 ∷ 0 ∷ 6 ∷ 0 ∷ 0 ∷ 0x1000000 ∷ []
unfolding words number_at number_of bytes_of
fields = refl

-- a filter that looks at the last argument's high word: run, refused with a byte missing, and a call with a byte missing
abbrev filter : List ℕ
filter = filter_bytes (load 60 ∷ if_equal 0x1000000 1 0 ∷ return 1 ∷ return 2 ∷ [])

answers : (outcome_of filter call ≡ record { code = 0; action = 2; steps = 3 })
    × (outcome_of filter (replicate 64 0) ≡ record { code = 0; action = 1; steps = 3 })
    × (outcome_of (6 ∷ filter) call ≡ record { code = 1; action = 0; steps = 0 })
    × (outcome_of filter (0 ∷ call) ≡ record { code = 9; action = 0; steps = 0 })
unfolding outcome_of accepts_bytes accepts each_taken taken_as operand_taken constant_taken ends_in_return is_return scratch_next scratch_taken effect_of effect_as kind_of kind_in codes run visits step step_as fetch words into_a compute test_holds filter_of instructions_at instruction_at number_at number_of filter_bytes instruction_bytes bytes_of
answers = (refl, refl, refl, refl)

-- many calls: what is refused, and which of two refusals comes first
codes_of_many : (ran_code filter (call ++ call) 16 ≡ 0)
    × (ran_code filter [] 0 ≡ 0)
    × (ran_code (6 ∷ filter) (0 ∷ call) 0 ≡ 9)
    × (ran_code filter (take 32 call) 16 ≡ 9)
    × (ran_code (6 ∷ filter) call 0 ≡ 1)
    × (ran_code filter (call ++ call) 15 ≡ 7)
unfolding ran_code accepts_bytes accepts each_taken taken_as operand_taken constant_taken ends_in_return is_return scratch_next scratch_taken effect_of effect_as kind_of kind_in codes filter_of instructions_at instruction_at number_at number_of filter_bytes instruction_bytes bytes_of
codes_of_many = (refl, refl, refl, refl, refl, refl)

-- the second call, and its outcome
second : (call_in (replicate 64 0 ++ call) 1 ≡ call)
    × (outcome_in (bytes_of 4 1 ++ bytes_of 4 3 ++ bytes_of 4 2 ++ bytes_of 4 70000) 1 ≡ record { code = 0; action = 2; steps = 70000 })
unfolding number_at number_of bytes_of
second = (refl, refl)

-- ---- rule sets

-- mismatch action d; number 7 with one rule
abbrev ruled : ℕ → Rule → List ℕ
ruled d r = encode (record { architecture = x86_64; native_only = false; mismatch = d; on_match = allow; entries = record { number = 7; rules = r ∷ [] } ∷ [] })

abbrev plain : ℕ → Entry
plain n = record { number = n; rules = [] }

-- the last argument is at least v
abbrev least : ℕ → Rule
least v = compared Ge Qword 5 v 0 ∷ []

-- a set with some entries
abbrev listing : List Entry → List ℕ
listing es = encode (record { architecture = x86_64; native_only = false; mismatch = errno 1; on_match = allow; entries = es })

-- number 8, with a rule that is good and one that is not
abbrev second_rule : Rule → List ℕ
second_rule r = listing (plain 7 ∷ record { number = 8; rules = least 0 ∷ r ∷ [] } ∷ [])

-- the set, the call, the action and the fault
record Row : Type 0 where
  set : List ℕ
  asked : List ℕ
  action : ℕ
  found : Fault

abbrev row : List ℕ → List ℕ → ℕ → Fault → Row
row s c a f = record { set = s; asked = c; action = a; found = f }

abbrev table : List Row
table =
    -- match, mismatch, a number that is not listed, another architecture
    row (ruled (errno 1) (least (2 ^ 56))) call allow no_fault
    ∷ row (ruled (errno 1) (least (2 ^ 56 + 1))) call (errno 1) no_fault
    ∷ row (ruled (errno 1) (least 0)) (put call 0 8) (errno 1) no_fault
    ∷ row (ruled (errno 1) (least 0)) (put call 4 0) kill_process no_fault
    -- 1 to 5 and 8 as compiling answers, with their places
    ∷ row [] call 0 (placeless 1)
    ∷ row (listing (plain 6 ∷ plain 7 ∷ plain 7 ∷ [])) call 0 (fault 2 2 nowhere nowhere)
    ∷ row (ruled allow (least 0)) call 0 (placeless 3)
    ∷ row (second_rule []) call 0 (fault 4 1 1 nowhere)
    ∷ row (second_rule (compared Ge Qword 0 0 0 ∷ compared Ge Qword 6 0 0 ∷ [])) call 0 (fault 5 1 1 1)
    ∷ row (second_rule (compared Ge Dword 0 (2 ^ 32) 0 ∷ [])) call 0 (fault 8 1 1 0)
    -- 9 first, whatever the set
    ∷ row (ruled (errno 1) (least 0)) (0 ∷ call) 0 (placeless 9)
    ∷ row [] (take 63 call) 0 (placeless 9)
    ∷ []

abbrev row_holds : Row → Bool
row_holds r =
    let d = decided_of r.set r.asked in
    eqb d.action r.action && eqb d.code r.found.code && eqb d.entry r.found.entry && eqb d.rule r.found.rule
    && eqb d.condition r.found.condition

decisions : all row_holds table ≡ true
unfolding decided_of least_of lesser set_faults entries_faults rule_faults count_faults condition_faults faults_of unless read entry_at rule_at condition_at times mask_taken operator_of width_of architecture_of unflagged native_of is_action one_of number_at number_of encode encode_entry encode_rule encode_condition bytes_of architecture_number head_number width_number operator_number architecture_word meaning guarded has_second_table in_second_table listed matches any_holds all_hold holds test
decisions = refl
