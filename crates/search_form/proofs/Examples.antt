-- Search forms, instruction by instruction, and what a search takes among many numbers.
use mathlib.Core.Path.{◌≡◌, refl}
use mathlib.Core.Bool.{Bool, true, false}
use mathlib.Core.List.{List, [], ◌∷◌}
use Prim.Native.Nat.{ℕ, zero, suc, ◌+◌, max}
use lib.ListN.{length}
use Rattle.definitions.specs.declared.Instruction.{Instruction}
use Rattle.definitions.specs.declared.Operator.TheVariants.{Eq}
use Rattle.definitions.specs.declared.Width.TheVariants.{Dword}
use Rattle.definitions.specs.Machine.{words, fetch, codes, kind_in, kind_of, into_a, compute, test_holds, step_as, step, visits, steps}
use Rattle.definitions.specs.RuleSet.{Architecture, x86_64, aarch64, architecture_word, has_second_table, Entry, RuleSet, guarded}
use Rattle.definitions.specs.Emitted.{load, mask_by, if_equal, if_greater, if_at_least, if_any_bit, return, high_tests, low_tests, high_part, low_part, condition_code, helpers, near, step_code, step_distance, conditions_code, number_code, head_code, rule_body, entry_body}
use Rattle.definitions.proofs.Examples.RuleSet.{compared, allow, errno, call}
use Rattle.definitions.proofs.Examples.Emitted.{worked}
use Rattle.definitions.specs.SearchForm.{bodies, plain_spans, entry_spans, spans, ends_by, up_to, link, chain, singles, few, lowest, block_if, grow, away, near_place, near_return, plant_leaf, open_block, comparing, compare_first, plant, ground, tree, planted, search_form}

-- the worked rule set: 27 instructions, where the emitted form has 36
worked_form : search_form worked ≡
    (load 4 ∷ if_equal 0xc000003e 1 0 ∷ return 0x80000000
    ∷ load 0 ∷ if_equal 0 2 0 ∷ if_equal 1 2 0
    ∷ if_equal 257 5 19 ∷ return allow ∷ load 16
    ∷ if_equal 1 0 1 ∷ return allow ∷ return (errno 1)
    ∷ load 0x24 ∷ mask_by 0 ∷ if_equal 0 0 4
    ∷ load 0x20 ∷ mask_by 3 ∷ if_equal 0 0 1
    ∷ return allow ∷ load 0x1c ∷ if_greater 1 3 0
    ∷ if_equal 1 0 3 ∷ load 0x18 ∷ if_at_least 0 0 1
    ∷ return allow ∷ return (errno 1) ∷ return (errno 1) ∷ [])
unfolding search_form head_code number_code guarded has_second_table planted tree ground plant compare_first comparing open_block plant_leaf near_return near_place away grow block_if lowest few singles chain link up_to ends_by spans entry_spans plain_spans bodies entry_body rule_body conditions_code step_code step_distance helpers near condition_code high_part low_part high_tests low_tests architecture_word
worked_form = refl

abbrev plain : ℕ → Entry
plain n = record { number = n; rules = [] }

abbrev listing : Architecture → Bool → List Entry → RuleSet
listing a native es = record { architecture = a; native_only = native; mismatch = errno 1; on_match = allow; entries = es }

-- eleven spans: 3 to 6, 11 to 12, 30 to 31, and eight numbers alone, one of them with a rule
abbrev mixed : RuleSet
mixed = listing x86_64 false
    (plain 3 ∷ plain 4 ∷ plain 5 ∷ plain 6 ∷ plain 9
    ∷ record { number = 10; rules = (compared Eq Dword 0 1 0 ∷ []) ∷ [] }
    ∷ plain 11 ∷ plain 12 ∷ plain 20 ∷ plain 24 ∷ plain 30 ∷ plain 31 ∷ plain 40 ∷ plain 45 ∷ plain 50 ∷ plain 55 ∷ plain 60 ∷ [])

mixed_form : search_form mixed ≡
    (load 4 ∷ if_equal 0xc000003e 1 0 ∷ return 0x80000000
    ∷ load 0 ∷ if_at_least 30 10 0 ∷ if_at_least 11 5 0
    ∷ if_at_least 9 2 0 ∷ if_at_least 3 0 20 ∷ if_greater 6 19 14
    ∷ if_equal 9 13 0 ∷ if_equal 10 13 17 ∷ if_at_least 20 1 0
    ∷ if_greater 12 15 10 ∷ if_equal 20 9 0 ∷ if_equal 24 8 13
    ∷ if_at_least 50 4 0 ∷ if_at_least 40 1 0 ∷ if_greater 31 10 5
    ∷ if_equal 40 4 0 ∷ if_equal 45 3 8 ∷ if_equal 50 2 0
    ∷ if_equal 55 1 0 ∷ if_equal 60 0 5 ∷ return allow
    ∷ load 16 ∷ if_equal 1 0 1 ∷ return allow
    ∷ return (errno 1) ∷ return (errno 1) ∷ [])
unfolding search_form head_code number_code guarded has_second_table planted tree ground plant compare_first comparing open_block plant_leaf near_return near_place away grow block_if lowest few singles chain link up_to ends_by spans entry_spans plain_spans bodies entry_body rule_body conditions_code step_code step_distance helpers near condition_code high_part low_part high_tests low_tests architecture_word
mixed_form = refl

-- native numbers only: a guard behind the load of the number, on x86_64 alone
guarded_forms :
    (search_form (listing x86_64 true []) ≡
    load 4 ∷ if_equal 0xc000003e 1 0 ∷ return 0x80000000
    ∷ load 0 ∷ if_any_bit 0x40000000 0 2 ∷ if_equal 0xffffffff 1 0 ∷ return 0x80000000
    ∷ return (errno 1) ∷ [])
    × (search_form (listing x86_64 true (plain 3 ∷ plain 4 ∷ plain 7 ∷ [])) ≡
    load 4 ∷ if_equal 0xc000003e 1 0 ∷ return 0x80000000
    ∷ load 0 ∷ if_any_bit 0x40000000 0 2 ∷ if_equal 0xffffffff 1 0 ∷ return 0x80000000
    ∷ if_at_least 7 2 0 ∷ if_at_least 3 0 3 ∷ if_greater 4 2 1 ∷ if_equal 7 0 1 ∷ return allow ∷ return (errno 1) ∷ [])
    × (search_form (listing aarch64 true (plain 3 ∷ plain 4 ∷ plain 7 ∷ [])) ≡ search_form (listing aarch64 false (plain 3 ∷ plain 4 ∷ plain 7 ∷ [])))
unfolding search_form head_code number_code guarded has_second_table planted tree ground plant compare_first comparing open_block plant_leaf near_return near_place away grow block_if lowest few singles chain link up_to ends_by spans entry_spans plain_spans bodies entry_body architecture_word
guarded_forms = (refl, refl, refl)

-- What it takes: one instruction, two for a cancelled call, which goes on. A call of the second table is killed by the sixth.
abbrev taking : Bool → ℕ → ℕ
taking native n = steps (search_form (listing x86_64 native (plain 0xfffffffe ∷ plain 0xffffffff ∷ []))) (call n 0 0 0)

guarded_steps :
    (taking false 7 ≡ 5) × (taking true 7 ≡ 6)
    × (taking false 0xffffffff ≡ 6) × (taking true 0xffffffff ≡ 8)
    × (taking false 0x40000007 ≡ 5) × (taking true 0x40000007 ≡ 6)
unfolding visits step step_as kind_of kind_in codes fetch words into_a compute test_holds search_form head_code number_code guarded has_second_table planted tree ground plant compare_first comparing open_block plant_leaf near_return near_place away grow block_if lowest few singles chain link up_to ends_by spans entry_spans plain_spans bodies entry_body architecture_word
guarded_steps = (refl, refl, refl, refl, refl, refl)

-- ---- many numbers

-- n numbers without rules, each `by` further than the last
unfoldable spread : ℕ → ℕ → ℕ → List Entry
spread zero by from = []
spread (suc n) by from = plain from ∷ spread n by (from + by)

-- a filter's length, and of the instructions that it runs for each listed number the most and the sum
unfoldable measured : List Instruction → List Entry → ℕ → ℕ → List ℕ
measured p [] worst total = length p ∷ worst ∷ total ∷ []
measured p (e ∷ es) worst total = let n : ℕ = steps p (call e.number 0 0 0) in measured p es (max worst n) (total + n)

-- 412 numbers, none beside another: 13.64 instructions in the mean
isolated : measured (search_form (listing x86_64 false (spread 412 2 0))) (spread 412 2 0) 0 0 ≡ 580 ∷ 15 ∷ 5620 ∷ []
unfolding measured spread visits step step_as kind_of kind_in codes fetch words into_a compute test_holds search_form head_code number_code guarded has_second_table planted tree ground plant compare_first comparing open_block plant_leaf near_return near_place away grow block_if lowest few singles chain link up_to ends_by spans entry_spans plain_spans bodies entry_body rule_body conditions_code step_code step_distance helpers near condition_code high_part low_part high_tests low_tests architecture_word
isolated = refl

-- 0 to 411: one span
beside : measured (search_form (listing x86_64 false (spread 412 1 0))) (spread 412 1 0) 0 0 ≡ 7 ∷ 5 ∷ 2060 ∷ []
unfolding measured spread visits step step_as kind_of kind_in codes fetch words into_a compute test_holds search_form head_code number_code guarded has_second_table planted tree ground plant compare_first comparing open_block plant_leaf near_return near_place away grow block_if lowest few singles chain link up_to ends_by spans entry_spans plain_spans bodies entry_body rule_body conditions_code step_code step_distance helpers near condition_code high_part low_part high_tests low_tests architecture_word
beside = refl
