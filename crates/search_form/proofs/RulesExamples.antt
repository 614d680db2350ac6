-- A form by example: an ioctl with eight rules, of which one is not alike, and a getsockopt with two qwords each.
use mathlib.Core.Path.{◌≡◌, refl}
use mathlib.Core.Bool.{false}
use mathlib.Core.List.{[], ◌∷◌}
use Rattle.definitions.specs.declared.Operator.TheVariants.{Eq, MaskedEq}
use Rattle.definitions.specs.declared.Width.TheVariants.{Dword, Qword}
use Rattle.definitions.specs.RuleSet.{x86_64, architecture_word, has_second_table, RuleSet, guarded}
use Rattle.definitions.specs.Emitted.{load, mask_by, if_equal, if_greater, if_at_least, return, high_tests, low_tests, high_part, low_part, condition_code, helpers, near, step_code, step_distance, conditions_code, number_code, head_code, rule_body}
use Rattle.definitions.proofs.Examples.RuleSet.{compared}
use Rattle.definitions.specs.SearchForm.{plain_spans, ends_by, up_to, link, chain, singles, few, lowest, block_if, grow, away, near_place, near_return, plant_leaf, open_block, comparing, compare_first, plant}
use Rattle.search_form.specs.Rules.{is_equality, same_width, word_at, half, looks_at, left_of, alike, condition_looks, looks, only, joining, add_case, by_first, cases, lay_entry, lay, grown, fronted, mismatching, one_by_one, searched, patterned, pattern, alikes, others, by_words, ruled, shorter_of, entry_form, bottom, rules_planted, rules_form}

abbrev monitor : RuleSet
monitor = record {
  architecture = x86_64;
  native_only = false;
  mismatch = 327681;
  on_match = 2147418112;
  entries =
      record { number = 0; rules = [] }
      ∷ record { number = 16; rules = (compared Eq Dword 1 44672 0 ∷ []) ∷ (compared Eq Dword 1 44547 0 ∷ []) ∷ (compared MaskedEq Dword 2 4 6 ∷ []) ∷ (compared Eq Dword 1 44673 0 ∷ []) ∷ (compared Eq Dword 1 21505 0 ∷ []) ∷ (compared Eq Dword 1 44672 0 ∷ []) ∷ (compared Eq Dword 1 44618 0 ∷ []) ∷ (compared Eq Dword 1 99 0 ∷ []) ∷ [] }
      ∷ record { number = 55; rules = (compared Eq Qword 1 1 0 ∷ compared Eq Qword 2 4 0 ∷ []) ∷ (compared Eq Qword 1 1 0 ∷ compared Eq Qword 2 7 0 ∷ []) ∷ (compared Eq Qword 1 6 0 ∷ compared Eq Qword 2 1 0 ∷ []) ∷ (compared Eq Qword 1 6 0 ∷ compared Eq Qword 2 2 0 ∷ []) ∷ (compared Eq Qword 1 6 0 ∷ compared Eq Qword 2 9 0 ∷ []) ∷ [] }
      ∷ record { number = 60; rules = [] } ∷ [];
}

-- 41 instructions, where the search for the number alone has 83, and the emitted form 115
monitor_form : rules_form monitor ≡
    (load 4
    ∷ if_equal 3221225534 1 0
    ∷ return 2147483648
    ∷ load 0
    ∷ if_at_least 55 2 0
    ∷ if_equal 0 33 0
    ∷ if_equal 16 2 33
    ∷ if_equal 55 14 0
    ∷ if_equal 60 30 31
    ∷ load 32
    ∷ mask_by 6
    ∷ if_equal 4 0 1
    ∷ return 2147418112
    ∷ load 24
    ∷ if_at_least 44547 2 0
    ∷ if_equal 99 23 0
    ∷ if_equal 21505 22 23
    ∷ if_at_least 44618 1 0
    ∷ if_equal 44547 20 21
    ∷ if_at_least 44672 1 0
    ∷ if_equal 44618 18 19
    ∷ if_greater 44673 18 17
    ∷ load 28
    ∷ if_equal 0 0 16
    ∷ load 24
    ∷ if_equal 1 1 0
    ∷ if_equal 6 5 13
    ∷ load 36
    ∷ if_equal 0 0 11
    ∷ load 32
    ∷ if_equal 4 8 0
    ∷ if_equal 7 7 8
    ∷ load 36
    ∷ if_equal 0 0 6
    ∷ load 32
    ∷ if_at_least 9 2 0
    ∷ if_at_least 1 0 3
    ∷ if_greater 2 2 1
    ∷ if_equal 9 0 1
    ∷ return 2147418112
    ∷ return 327681 ∷ [])
unfolding rules_form head_code number_code guarded has_second_table architecture_word rules_planted bottom entry_form shorter_of ruled by_words others alikes pattern patterned searched one_by_one mismatching fronted grown lay lay_entry cases by_first add_case joining only looks condition_looks alike left_of looks_at half word_at same_width is_equality plain_spans plant compare_first comparing open_block plant_leaf near_return near_place away grow block_if lowest few singles chain link up_to ends_by rule_body conditions_code step_code step_distance helpers near condition_code high_part low_part high_tests low_tests
monitor_form = refl
