-- Examples of Emitted, by computation: a worked filter with a table of the calls that it decides, four wrong filters with a call that shows each,
-- the smallest rule sets, and rules long enough for the helper jumps.
use mathlib.Core.Path.{◌≡◌, refl}
use mathlib.Core.Bool.{Bool, true, false, not, ◌&&◌}
use mathlib.Core.List.{List, [], ◌∷◌, ◌++◌}
use Prim.Native.Nat.{ℕ, ◌+◌, ◌-◌, ◌^◌}
use lib.Dec.{eqb}
use lib.ListN.{length, take, replicate, set as put}
use Rattle.definitions.specs.declared.Instruction.{Instruction}
use Rattle.definitions.specs.declared.Operator.{Operator}
use Rattle.definitions.specs.declared.Operator.TheVariants.{Eq, Ge, Gt, Le, Lt, MaskedEq, Ne}
use Rattle.definitions.specs.declared.Width.{Width}
use Rattle.definitions.specs.declared.Width.TheVariants.{Dword, Qword}
use Rattle.definitions.specs.declared.Condition.{Condition}
use Rattle.definitions.specs.Machine.{Call, Result, returns, stuck, words, fetch, codes, kind_in, kind_of, into_a, compute, test_holds, step_as, step, run, visits, runs, steps}
use Rattle.definitions.specs.RuleSet.{Architecture, x86_64, aarch64, riscv64, architecture_word, Entry, RuleSet, test, holds, all_hold, any_holds, matches, listed, meaning, guarded, has_second_table, in_second_table}
use Rattle.definitions.specs.Answer.{all}
use Rattle.definitions.specs.Emitted.{load, mask_by, jump_by, if_equal, if_greater, if_at_least, if_any_bit, return, high_tests, low_tests, high_part, low_part, condition_code, helpers, near, step_code, step_distance, conditions_code, distance, rule_code, rule_body, body_code, entry_code, numbers_code, emitted, head_code, number_code}
use Rattle.definitions.specs.Compiled.{guard_steps}
use Rattle.definitions.proofs.Examples.RuleSet.{compared, allow, errno, call_on, call}

-- ---- the worked filter

-- x86-64, mismatch errno 1, match allow. 0: no rules. 1: argument 0 dword eq 1.
-- 257: argument 2 qword masked eq 0, mask 3; or argument 1 qword ge 2 ^ 32.
abbrev pub worked : RuleSet
worked = record {
  architecture = x86_64;
  native_only = false;
  mismatch = errno 1;
  on_match = allow;
  entries =
      record { number = 0; rules = [] }
      ∷ record { number = 1; rules = (compared Eq Dword 0 1 0 ∷ []) ∷ [] }
      ∷ record { number = 257; rules = (compared MaskedEq Qword 2 0 3 ∷ []) ∷ (compared Ge Qword 1 (2 ^ 32) 0 ∷ []) ∷ [] }
      ∷ [];
}

-- its 36 instructions
abbrev pub worked_filter : List Instruction
worked_filter =
    load 4 ∷ if_equal 0xc000003e 1 0 ∷ return 0x80000000
    ∷ load 0 ∷ if_equal 0 0 1 ∷ jump_by 1
    ∷ jump_by 2 ∷ return allow ∷ return (errno 1)
    ∷ if_equal 1 0 1 ∷ jump_by 1 ∷ jump_by 4
    ∷ load 16 ∷ if_equal 1 0 1 ∷ return allow
    ∷ return (errno 1) ∷ if_equal 257 0 1 ∷ jump_by 1
    ∷ jump_by 8 ∷ load 0x24 ∷ mask_by 0
    ∷ if_equal 0 0 4 ∷ load 0x20 ∷ mask_by 3
    ∷ if_equal 0 0 1 ∷ return allow ∷ jump_by 1
    ∷ jump_by 7 ∷ load 0x1c ∷ if_greater 1 3 0
    ∷ if_equal 1 0 3 ∷ load 0x18 ∷ if_at_least 0 0 1
    ∷ return allow ∷ return (errno 1) ∷ return (errno 1) ∷ []

worked_emitted : emitted worked ≡ worked_filter
unfolding emitted head_code number_code guarded has_second_table numbers_code entry_code body_code rule_code rule_body conditions_code distance step_code step_distance helpers near condition_code high_part low_part high_tests low_tests architecture_word
worked_emitted = refl

-- a call, the action that it gets, and the instructions that are run for it
record Row : Type 0 where
  asked : Call
  action : ℕ
  count : ℕ

abbrev row : Call → ℕ → ℕ → Row
row c a n = record { asked = c; action = a; count = n }

abbrev table : List Row
table =
    row (call 0 0 0 0) allow 6
    ∷ row (call 1 1 0 0) allow 10
    ∷ row (call 1 (2 ^ 32 + 1) 0 0) allow 10
    ∷ row (call 1 2 0 0) (errno 1) 10
    ∷ row (call 257 0 0 4) allow 16
    ∷ row (call 257 0 0 1) (errno 1) 20
    ∷ row (call 257 0 (2 ^ 32) 1) allow 22
    ∷ row (call 257 0 (2 ^ 32 - 1) 2) (errno 1) 20
    ∷ row (call 2 0 0 0) (errno 1) 11
    ∷ row (call_on 0xc00000b7 0 0 0 0) 0x80000000 3 ∷ []

abbrev gives : Result → ℕ → Bool
gives (returns a) b = eqb a b
gives stuck b = false

-- the filter's run, its count of instructions, and the rule set's meaning
abbrev row_holds : Row → Bool
row_holds r =
    gives (runs worked_filter r.asked) r.action && eqb (steps worked_filter r.asked) r.count && eqb (meaning worked r.asked) r.action

table_holds : all row_holds table ≡ true
unfolding run visits step step_as kind_of kind_in codes fetch words into_a compute test_holds meaning guarded has_second_table in_second_table listed matches any_holds all_hold holds test architecture_word
table_holds = refl

-- ---- four wrong filters: each gives a call another action than its rule set means

record Wrong : Type 0 where
  filter : List Instruction
  set : RuleSet
  asked : Call

abbrev differs : Wrong → Bool
differs w = not (gives (runs w.filter w.asked) (meaning w.set w.asked))

-- number 1, and one condition on its argument 0
abbrev single : Condition → RuleSet
single q = record { architecture = x86_64; native_only = false; mismatch = errno 1; on_match = allow; entries = record { number = 1; rules = (q ∷ []) ∷ [] } ∷ [] }

-- the filter of such a set, with other code for the condition
abbrev single_filter : ℕ → List Instruction → List Instruction
single_filter over code =
    load 4 ∷ if_equal 0xc000003e 1 0 ∷ return 0x80000000 ∷ load 0 ∷ if_equal 1 0 1 ∷ jump_by 1 ∷ jump_by over
    ∷ (code ++ (return allow ∷ return (errno 1) ∷ return (errno 1) ∷ []))

abbrev wrongs : List Wrong
wrongs =
    -- a qword is compared by its low word only
    record { filter = single_filter 4 (load 16 ∷ if_equal 1 0 1 ∷ []); set = single (compared Eq Qword 0 (2 ^ 32 + 1) 0); asked = call 1 1 0 0 }
    -- le takes an equal high word for a match at once
    ∷ record {
      filter = single_filter 7 (load 20 ∷ if_greater 0 4 0 ∷ if_equal 0 2 2 ∷ load 16 ∷ if_greater 5 1 0 ∷ []);
      set = single (compared Le Qword 0 5 0);
      asked = call 1 6 0 0;
    }
    -- call 2 falls into the conditions of 257
    ∷ record { filter = put worked_filter 16 (if_equal 257 0 0); set = worked; asked = call 2 0 0 4 }
    -- a failing condition returns mismatch without trying the next rule
    ∷ record { filter = put (put worked_filter 21 (if_equal 0 0 12)) 24 (if_equal 0 0 9); set = worked; asked = call 257 0 (2 ^ 32) 1 }
    ∷ []

wrongs_differ : all differs wrongs ≡ true
unfolding run step step_as kind_of kind_in codes fetch words into_a compute test_holds meaning guarded has_second_table in_second_table listed matches any_holds all_hold holds test architecture_word
wrongs_differ = refl

-- ---- the smallest sets

abbrev Nothing : Architecture → ℕ → Type 0
Nothing a w = emitted (record { architecture = a; native_only = false; mismatch = allow; on_match = errno 1; entries = [] })
    ≡ load 4 ∷ if_equal w 1 0 ∷ return 0x80000000 ∷ return allow ∷ []

nothing_listed : Nothing x86_64 0xc000003e × Nothing aarch64 0xc00000b7 × Nothing riscv64 0xc00000f3
unfolding emitted head_code number_code guarded has_second_table numbers_code architecture_word
nothing_listed = (refl, refl, refl)

-- native numbers only: a guard behind the load of the number, on x86_64 alone
abbrev native : Architecture → List Entry → RuleSet
native a es = record { architecture = a; native_only = true; mismatch = allow; on_match = errno 1; entries = es }

guarded_numbers :
    (emitted (native x86_64 [])
    ≡ load 4 ∷ if_equal 0xc000003e 1 0 ∷ return 0x80000000 ∷ load 0 ∷ if_any_bit 0x40000000 0 2 ∷ if_equal 0xffffffff 1 0 ∷ return 0x80000000 ∷ return allow ∷ [])
    × (emitted (native x86_64 (record { number = 7; rules = [] } ∷ []))
    ≡ load 4 ∷ if_equal 0xc000003e 1 0 ∷ return 0x80000000 ∷ load 0 ∷ if_any_bit 0x40000000 0 2 ∷ if_equal 0xffffffff 1 0 ∷ return 0x80000000
    ∷ if_equal 7 0 1 ∷ jump_by 1 ∷ jump_by 2 ∷ return (errno 1) ∷ return allow ∷ return allow ∷ [])
    × (emitted (native aarch64 []) ≡ load 4 ∷ if_equal 0xc00000b7 1 0 ∷ return 0x80000000 ∷ return allow ∷ [])
unfolding emitted head_code number_code guarded has_second_table numbers_code entry_code body_code architecture_word
guarded_numbers = (refl, refl, refl)

-- what it takes of a run: one instruction of a native number, two of one with bit 30, and none where there is no guard
guard_taken : (guard_steps (native x86_64 []) (call 7 0 0 0) ≡ 1) × (guard_steps (native x86_64 []) (call 0xffffffff 0 0 0) ≡ 2)
    × (guard_steps (native aarch64 []) (call 0xffffffff 0 0 0) ≡ 0) × (guard_steps worked (call 7 0 0 0) ≡ 0)
unfolding guarded has_second_table
guard_taken = (refl, refl, refl, refl)

-- the value is cut by the mask
masked_value : condition_code (compared MaskedEq Dword 0 36 4) 1 ≡ load 16 ∷ mask_by 4 ∷ if_equal 4 0 1 ∷ []
unfolding condition_code high_part low_part high_tests low_tests
masked_value = refl

-- ---- the code of each operator and width: argument 1 against 2 ^ 33 + 5, mask 2 ^ 33 + 2 ^ 32 + 7, with 9 to jump where it fails

abbrev value : ℕ
value = 2 ^ 33 + 5

abbrev mask : ℕ
mask = 2 ^ 33 + 2 ^ 32 + 7

abbrev code_for : Operator → Width → List Instruction
code_for o w = condition_code (compared o w 1 value mask) 9

record Coded : Type 0 where
  eq : code_for Eq Dword ≡ load 24 ∷ if_equal 5 0 9 ∷ []
  eq_wide : code_for Eq Qword ≡ load 28 ∷ if_equal 2 0 11 ∷ load 24 ∷ if_equal 5 0 9 ∷ []
  ne : code_for Ne Dword ≡ load 24 ∷ if_equal 5 9 0 ∷ []
  ne_wide : code_for Ne Qword ≡ load 28 ∷ if_equal 2 0 2 ∷ load 24 ∷ if_equal 5 9 0 ∷ []
  ge : code_for Ge Dword ≡ load 24 ∷ if_at_least 5 0 9 ∷ []
  ge_wide : code_for Ge Qword ≡ load 28 ∷ if_greater 2 3 0 ∷ if_equal 2 0 11 ∷ load 24 ∷ if_at_least 5 0 9 ∷ []
  gt : code_for Gt Dword ≡ load 24 ∷ if_greater 5 0 9 ∷ []
  gt_wide : code_for Gt Qword ≡ load 28 ∷ if_greater 2 3 0 ∷ if_equal 2 0 11 ∷ load 24 ∷ if_greater 5 0 9 ∷ []
  le : code_for Le Dword ≡ load 24 ∷ if_greater 5 9 0 ∷ []
  le_wide : code_for Le Qword ≡ load 28 ∷ if_greater 2 12 0 ∷ if_equal 2 0 2 ∷ load 24 ∷ if_greater 5 9 0 ∷ []
  lt : code_for Lt Dword ≡ load 24 ∷ if_at_least 5 9 0 ∷ []
  lt_wide : code_for Lt Qword ≡ load 28 ∷ if_greater 2 12 0 ∷ if_equal 2 0 2 ∷ load 24 ∷ if_at_least 5 9 0 ∷ []
  masked : code_for MaskedEq Dword ≡ load 24 ∷ mask_by 7 ∷ if_equal 5 0 9 ∷ []
  masked_wide : code_for MaskedEq Qword ≡ load 28 ∷ mask_by 3 ∷ if_equal 2 0 12 ∷ load 24 ∷ mask_by 7 ∷ if_equal 5 0 9 ∷ []

coded : Coded
unfolding condition_code high_part low_part high_tests low_tests
coded = record {
  eq = refl;
  eq_wide = refl;
  ne = refl;
  ne_wide = refl;
  ge = refl;
  ge_wide = refl;
  gt = refl;
  gt_wide = refl;
  le = refl;
  le_wide = refl;
  lt = refl;
  lt_wide = refl;
  masked = refl;
  masked_wide = refl;
}

-- ---- rules with helper jumps

abbrev masked : Condition
masked = compared MaskedEq Qword 0 0 3

-- the 43rd masked qword condition is the first with helpers: it stands in front of them, they in front of the 42nd
first_helpers : take 12 (conditions_code (replicate 43 masked) 1)
    ≡ load 20 ∷ mask_by 0 ∷ if_equal 0 0 4 ∷ load 16 ∷ mask_by 3 ∷ if_equal 0 0 1
    ∷ jump_by 2 ∷ jump_by 254 ∷ jump_by 254
    ∷ load 20 ∷ mask_by 0 ∷ if_equal 0 0 250 ∷ []
unfolding conditions_code step_code step_distance helpers near condition_code high_part low_part high_tests low_tests
first_helpers = refl

-- how many instructions n conditions have: the 43rd and the 85th bring three more
second_helpers : all (λ (r : ℕ × ℕ). eqb (length (conditions_code (replicate r.0 masked) 1)) r.1)
    ((42, 252) ∷ (43, 261) ∷ (84, 507) ∷ (85, 516) ∷ []) ≡ true
unfolding conditions_code step_code step_distance helpers near condition_code high_part low_part high_tests low_tests
second_helpers = refl

-- the reach itself: from a distance of 248 there are none, from 249 there are
at_reach : (helpers 248 ≡ []) × (helpers 249 ≡ jump_by 2 ∷ jump_by 250 ∷ jump_by 250 ∷ [])
unfolding helpers
at_reach = (refl, refl)

-- a rule of 85 conditions decides as it means, where the first fails, the last, one in the middle, or none
abbrev long : RuleSet
long = record {
  architecture = x86_64;
  native_only = false;
  mismatch = errno 1;
  on_match = allow;
  entries = record { number = 1; rules = ((compared Eq Qword 0 0 0 ∷ replicate 41 masked) ++ (compared Eq Dword 1 0 0 ∷ replicate 41 masked) ++ (compared Eq Dword 2 0 0 ∷ [])) ∷ [] } ∷ [];
}

abbrev agrees : Call → Bool
agrees c = gives (runs (emitted long) c) (meaning long c)

long_agrees : all agrees (call 1 0 0 0 ∷ call 1 4 0 0 ∷ call 1 0 1 0 ∷ call 1 0 0 1 ∷ call 2 0 0 0 ∷ []) ≡ true
unfolding run step step_as kind_of kind_in codes fetch words into_a compute test_holds meaning guarded has_second_table in_second_table listed matches any_holds all_hold holds test architecture_word emitted head_code number_code numbers_code entry_code body_code rule_code rule_body conditions_code distance step_code step_distance helpers near condition_code high_part low_part high_tests low_tests
long_agrees = refl
