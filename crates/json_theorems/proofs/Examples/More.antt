-- More cases of the comparison with the real serde front end, by computation, as in Cases.
use Prim.Native.Nat.{ℕ}
use Prim.Native.Char.{code}
use Prim.Native.String.{String, [] as end, ◌∷◌ as ◌then◌}
use mathlib.Core.Path.{◌≡◌, refl}
use mathlib.Core.Bool.{Bool, true, false, cond, not, ◌&&◌}
use mathlib.Core.List.{List, [], ◌∷◌, ◌++◌}
use mathlib.Core.Option.{Option, none, some}
use lib.Dec.{eqb}
use Rattle.definitions.specs.declared.Instruction.{Instruction}
use Rattle.definitions.specs.RuleSet.{x86_64, Entry, RuleSet, architecture_word, guarded, has_second_table}
use Rattle.definitions.specs.Answer.{rules_filled, indices_taken, widths_fit}
use Rattle.definitions.specs.Emitted.{high_tests, low_tests, high_part, low_part, condition_code, helpers, near, step_code, step_distance, conditions_code, distance, rule_body, rule_code, body_code, entry_code, numbers_code, emitted, head_code, number_code}
use Rattle.definitions.specs.Json.{ascii, all, is_blank, is_unescaped, short_escape, hex_digit, hex4, utf8, Json}
use Rattle.definitions.specs.JsonForm.{same, decimal, natural, string_of, each_of, list_of, gathered, fields_of, action_of, operator_of, condition_of, line_of, filter_of, filters_from, filters_of, Filter}
use Rattle.definitions.specs.CallNames.{Slot, number_for}
use Rattle.definitions.specs.Collected.{now, numbered, insert, collected, set_with}
use Rattle.definitions.specs.JsonReader.{Got, got, stop, blanks, byte_count, plain_piece, pair_piece, escape_piece, character, characters, string_at, digit_count, number_count, key_at, fields, object_at, items, array_at, apart, bad_number, bad_character, plain_bad, escape_bad, is_second, literal_at, value_at, text_at}

-- the bytes of a text
abbrev bytes : String → List ℕ
bytes end = []
bytes (c then s) = utf8 (code c) ++ bytes s

abbrev slot : String → ℕ → Slot
slot name n = record { name = ascii name; number = n }

abbrev table : List Slot
table = slot "close" 3 ∷ slot "futex" 202 ∷ slot "openat" 257 ∷ slot "read" 0 ∷ slot "write" 1 ∷ []

-- an answer's number, and the filter
record Said : Type 0 where
  number : ℕ
  filter : List ℕ

abbrev said : ℕ → List ℕ → Said
said n f = record { number = n; filter = f }

abbrev flat : List Instruction → List ℕ
flat [] = []
flat (i ∷ is) = i.code ∷ i.jt ∷ i.jf ∷ i.k ∷ flat is

-- 13: a name that is not in the table; 4, 5, 8 and 3 as for sets
abbrev said_of : Filter → Option (List Entry) → List ℕ → Said
said_of f none more = said 13 []
said_of f (some es) more =
    let rs : RuleSet = set_with x86_64 false f es in
    cond (not (rules_filled rs)) (said 4 []) (cond (not (indices_taken rs)) (said 5 []) (cond (not (widths_fit rs)) (said 8 [])
    (cond (eqb rs.mismatch rs.on_match) (said 3 []) (said 0 (flat (emitted (set_with x86_64 false f (collected now.join es))) ++ more)))))

-- the first that is refused, or all filters one behind the other
abbrev joined_with : Said → Said → Said
joined_with a b = cond (eqb a.number 0) (cond (eqb b.number 0) (said 0 (a.filter ++ b.filter)) b) a

abbrev said_of_all : List Filter → Said
said_of_all [] = said 0 []
said_of_all (f ∷ fs) = joined_with (said_of f (numbered table f.lines) []) (said_of_all fs)

-- 11: not filters
abbrev said_of_filters : Option (List Filter) → Said
said_of_filters none = said 11 []
said_of_filters (some fs) = said_of_all fs

abbrev said_of_text : Got Json → Said
said_of_text (got v rest) = said_of_filters (filters_of v)
said_of_text (stop k l) = said k []

record Case : Type 0 where
  text : String
  is : Said

abbrev case : String → ℕ → List ℕ → Case
case t n f = record { text = t; is = said n f }

abbrev holds : Case → Bool
holds c = let r : Said = said_of_text (text_at (bytes c.text)) in eqb r.number c.is.number && same r.filter c.is.filter

abbrev all_hold : List Case → Bool
all_hold [] = true
all_hold (c ∷ cs) = holds c && all_hold cs

abbrev cases0 : List Case
cases0 =
    case "{\"t\":{\"mismatch_action\":\"trap\",\"match_action\":\"allow\",\"filter\":[{\"syscall\":\"read\\u0000\"}]}}" 13 ([])
    ∷ case "{\"t\":{\"mismatch_action\":\"trap\",\"match_action\":\"allow\",\"filter\":[{\"syscall\":\"\"}]}}" 13 ([])
    ∷ case "{\"\":{\"mismatch_action\":\"trap\",\"match_action\":\"allow\",\"filter\":[]}}" 0 (0x20 ∷ 0 ∷ 0 ∷ 4 ∷ 0x15 ∷ 1 ∷ 0 ∷ 0xc000003e ∷ 6 ∷ 0 ∷ 0 ∷ 0x80000000 ∷ 6 ∷ 0 ∷ 0 ∷ 0x30000 ∷ [])
    ∷ case "{\"t\":{\"mismatch_action\":\"trap\",\"match_action\":\"allow\",\"filter\":[]},\"\\u0074\":{\"mismatch_action\":\"trap\",\"match_action\":\"allow\",\"filter\":[]}}" 11 ([])
    ∷ case "{\"t\":{\"mismatch_action\":\"trap\",\"match_action\":\"allow\",\"filter\":[{\"syscall\":\"read\",\"args\":[{\"index\":0,\"type\":\"dword\",\"op\":\"eq\",\"val\":00}]}]}}" 10 ([])
    ∷ case "{\"t\":{\"mismatch_action\":\"trap\",\"match_action\":\"allow\",\"filter\":[{\"syscall\":\"read\",\"args\":[{\"index\":-1,\"type\":\"dword\",\"op\":\"eq\",\"val\":1}]}]}}" 11 ([])
    ∷ case "{\"t\":{\"mismatch_action\":\"trap\",\"match_action\":\"allow\",\"filter\":[{\"syscall\":\"read\",\"args\":[{\"index\":5.0,\"type\":\"dword\",\"op\":\"eq\",\"val\":1}]}]}}" 11 ([])
    ∷ case "{\"t\":{\"mismatch_action\":\"trap\",\"match_action\":\"allow\",\"filter\":[{\"syscall\":\"read\",\"args\":[{\"index\":\"0\",\"type\":\"dword\",\"op\":\"eq\",\"val\":1}]}]}}" 11 ([])
    ∷ case "{\"t\":{\"mismatch_action\":\"trap\",\"match_action\":\"allow\",\"filter\":[{\"syscall\":\"read\",\"args\":[{\"index\":0,\"type\":\"DWORD\",\"op\":\"eq\",\"val\":1}]}]}}" 11 ([])
    ∷ case "{\"t\":{\"mismatch_action\":\"trap\",\"match_action\":\"allow\",\"filter\":[{\"syscall\":\"read\",\"args\":[{\"val\":1,\"op\":\"eq\",\"type\":\"dword\",\"index\":0}]}]}}" 0 (0x20 ∷ 0 ∷ 0 ∷ 4 ∷ 0x15 ∷ 1 ∷ 0 ∷ 0xc000003e ∷ 6 ∷ 0 ∷ 0 ∷ 0x80000000 ∷ 0x20 ∷ 0 ∷ 0 ∷ 0 ∷ 0x15 ∷ 0 ∷ 1 ∷ 0 ∷ 5 ∷ 0 ∷ 0 ∷ 1 ∷ 5 ∷ 0 ∷ 0 ∷ 4 ∷ 0x20 ∷ 0 ∷ 0 ∷ 0x10 ∷ 0x15 ∷ 0 ∷ 1 ∷ 1 ∷ 6 ∷ 0 ∷ 0 ∷ 0x7fff0000 ∷ 6 ∷ 0 ∷ 0 ∷ 0x30000 ∷ 6 ∷ 0 ∷ 0 ∷ 0x30000 ∷ [])
    ∷ case "{\"t\":{\"mismatch_action\":\"trap\",\"match_action\":\"allow\",\"filter\":[{\"syscall\":\"read\",\"args\":[{\"index\":0,\"type\":\"dword\",\"op\":\"eq\"}]}]}}" 11 ([])
    ∷ case "{\"t\":{\"mismatch_action\":\"trap\",\"match_action\":\"allow\",\"filter\":[{\"syscall\":\"read\",\"args\":[{\"index\":0,\"type\":\"dword\",\"op\":\"eq\",\"val\":null}]}]}}" 11 ([])
    ∷ []

hold0 : all_hold cases0 ≡ true
unfolding text_at value_at literal_at apart bad_number bad_character plain_bad escape_bad is_second array_at items object_at fields key_at number_count digit_count string_at characters character escape_piece pair_piece plain_piece byte_count blanks ascii all is_blank is_unescaped short_escape hex_digit hex4 utf8 same decimal natural string_of each_of list_of gathered fields_of action_of operator_of condition_of line_of filter_of filters_from filters_of number_for numbered insert collected emitted head_code number_code architecture_word guarded has_second_table numbers_code entry_code body_code rule_body rule_code conditions_code distance step_code step_distance helpers near condition_code high_part low_part high_tests low_tests
hold0 = refl

abbrev cases12 : List Case
cases12 =
    case "{\"t\":{\"mismatch_action\":\"trap\",\"match_action\":\"allow\",\"filter\":[{\"syscall\":\"read\",\"args\":[{\"index\":0,\"type\":\"dword\",\"op\":{\"masked_eq\":18446744073709551616},\"val\":1}]}]}}" 11 ([])
    ∷ case "{\"t\":{\"mismatch_action\":\"trap\",\"match_action\":\"allow\",\"filter\":[{\"syscall\":\"read\",\"args\":[{\"index\":0,\"type\":\"dword\",\"op\":{},\"val\":1}]}]}}" 11 ([])
    ∷ case "{\"t\":{\"mismatch_action\":\"trap\",\"match_action\":\"allow\",\"filter\":[{\"syscall\":\"read\",\"args\":[{\"index\":0,\"type\":\"dword\",\"op\":{\"masked_eq\":null},\"val\":1}]}]}}" 11 ([])
    -- seccompiler takes it; here: no such form
    ∷ case "{\"t\":{\"mismatch_action\":\"trap\",\"match_action\":\"allow\",\"filter\":[{\"syscall\":\"read\",\"args\":[{\"index\":0,\"type\":{\"dword\":null},\"op\":\"eq\",\"val\":1}]}]}}" 11 ([])
    ∷ case "{\"t\":{\"mismatch_action\":\"trap\",\"match_action\":\"allow\",\"filter\":[{\"syscall\":\"read\",\"args\":[{\"index\":0,\"type\":\"dword\",\"op\":[\"masked_eq\",4],\"val\":1}]}]}}" 11 ([])
    ∷ case "{\"t\":{\"mismatch_action\":\"trap\",\"match_action\":\"allow\",\"filter\":[{\"syscall\":\"read\",\"args\":[null]}]}}" 11 ([])
    ∷ case "{\"t\":{\"mismatch_action\":\"trap\",\"match_action\":\"allow\",\"filter\":[{\"syscall\":\"read\",\"args\":[[]]}]}}" 11 ([])
    ∷ case "{\"t\":{\"mismatch_action\":\"trap\",\"match_action\":\"allow\",\"filter\":[{\"syscall\":\"read\",\"args\":[{}]}]}}" 11 ([])
    ∷ case "{\"t\":{\"mismatch_action\":\"trap\",\"match_action\":\"allow\",\"filter\":[{\"syscall\":\"read\",\"args\":[5]}]}}" 11 ([])
    ∷ case "{\"t\":{\"mismatch_action\":{\"errno\":-1},\"match_action\":\"allow\",\"filter\":[]}}" 11 ([])
    ∷ case "{\"t\":{\"mismatch_action\":{\"errno\":1.0},\"match_action\":\"allow\",\"filter\":[]}}" 11 ([])
    ∷ case "{\"t\":{\"mismatch_action\":{\"errno\":\"1\"},\"match_action\":\"allow\",\"filter\":[]}}" 11 ([])
    ∷ []

hold12 : all_hold cases12 ≡ true
unfolding text_at value_at literal_at apart bad_number bad_character plain_bad escape_bad is_second array_at items object_at fields key_at number_count digit_count string_at characters character escape_piece pair_piece plain_piece byte_count blanks ascii all is_blank is_unescaped short_escape hex_digit hex4 utf8 same decimal natural string_of each_of list_of gathered fields_of action_of operator_of condition_of line_of filter_of filters_from filters_of number_for numbered insert collected emitted head_code number_code architecture_word guarded has_second_table numbers_code entry_code body_code rule_body rule_code conditions_code distance step_code step_distance helpers near condition_code high_part low_part high_tests low_tests
hold12 = refl

abbrev cases24 : List Case
cases24 =
    case "{\"t\":{\"mismatch_action\":{\"errno\":1,\"trace\":2},\"match_action\":\"allow\",\"filter\":[]}}" 11 ([])
    ∷ case "{\"t\":{\"mismatch_action\":{\"trace\":70000},\"match_action\":\"allow\",\"filter\":[]}}" 0 (0x20 ∷ 0 ∷ 0 ∷ 4 ∷ 0x15 ∷ 1 ∷ 0 ∷ 0xc000003e ∷ 6 ∷ 0 ∷ 0 ∷ 0x80000000 ∷ 6 ∷ 0 ∷ 0 ∷ 0x7ff01170 ∷ [])
    ∷ case "{\"t\":{\"mismatch_action\":{\"errno\":null},\"match_action\":\"allow\",\"filter\":[]}}" 11 ([])
    ∷ case "{\"t\":{\"mismatch_action\":\"errno\",\"match_action\":\"allow\",\"filter\":[]}}" 11 ([])
    ∷ case "{\"t\":{\"mismatch_action\":{},\"match_action\":\"allow\",\"filter\":[]}}" 11 ([])
    ∷ case "{\"t\":{\"mismatch_action\":null,\"match_action\":\"allow\",\"filter\":[]}}" 11 ([])
    -- seccompiler takes it; here: no such form
    ∷ case "{\"t\":{\"mismatch_action\":{\"tr\\u0061p\":null},\"match_action\":\"allow\",\"filter\":[]}}" 11 ([])
    ∷ case "{\"t\":{\"mismatch_action\":\"trap\",\"match_action\":\"allow\",\"filter\":null}}" 11 ([])
    ∷ case "{\"t\":{\"mismatch_action\":\"trap\",\"match_action\":\"allow\",\"filter\":{}}}" 11 ([])
    ∷ case "{\"t\":null}" 11 ([])
    ∷ case "null" 11 ([])
    ∷ case "5" 11 ([])
    ∷ []

hold24 : all_hold cases24 ≡ true
unfolding text_at value_at literal_at apart bad_number bad_character plain_bad escape_bad is_second array_at items object_at fields key_at number_count digit_count string_at characters character escape_piece pair_piece plain_piece byte_count blanks ascii all is_blank is_unescaped short_escape hex_digit hex4 utf8 same decimal natural string_of each_of list_of gathered fields_of action_of operator_of condition_of line_of filter_of filters_from filters_of number_for numbered insert collected emitted head_code number_code architecture_word guarded has_second_table numbers_code entry_code body_code rule_body rule_code conditions_code distance step_code step_distance helpers near condition_code high_part low_part high_tests low_tests
hold24 = refl

abbrev cases36 : List Case
cases36 =
    case "\"\"" 11 ([])
    ∷ case "{\"t\":{\"mismatch_action\":\"trap\",\"match_action\":\"allow\",\"filter\":[{\"syscall\":null}]}}" 11 ([])
    ∷ case "{\"t\":{\"mismatch_action\":\"trap\",\"match_action\":\"allow\",\"filter\":[null]}}" 11 ([])
    ∷ case "{\"t\":{\"mismatch_action\":\"trap\",\"match_action\":\"allow\",\"filter\":[{}]}}" 11 ([])
    ∷ case "{\"t\":{\"mismatch_action\":\"trap\",\"match_action\":\"allow\",\"filter\":[{\"syscall\":\"read\",\"args\":{}}]}}" 11 ([])
    ∷ case "{\"t\":{\"mismatch_action\":\"trap\",\"match_action\":\"allow\",\"filter\":[{\"syscall\":\"read\",\"args\":null,\"args\":null}]}}" 11 ([])
    ∷ case "{\"t\":{\"mismatch_action\":\"trap\",\"match_action\":\"allow\",\"filter\":[{\"syscall\":\"read\",\"comment\":null,\"comment\":\"x\"}]}}" 11 ([])
    ∷ case "{\"t\":{\"mismatch_action\":\"trap\",\"match_action\":\"allow\",\"filter\":[{\"syscall\":\"read\",\"comment\":\"\\ud800\"}]}}" 10 ([])
    ∷ case "{\"t\":{\"mismatch_action\":\"trap\",\"match_action\":\"allow\",\"filter\":[{\"syscall\":\"read\",\"comment\":\"\\ud83d\\ude00 \\u0000 \\/\"}]}}" 0 (0x20 ∷ 0 ∷ 0 ∷ 4 ∷ 0x15 ∷ 1 ∷ 0 ∷ 0xc000003e ∷ 6 ∷ 0 ∷ 0 ∷ 0x80000000 ∷ 0x20 ∷ 0 ∷ 0 ∷ 0 ∷ 0x15 ∷ 0 ∷ 1 ∷ 0 ∷ 5 ∷ 0 ∷ 0 ∷ 1 ∷ 5 ∷ 0 ∷ 0 ∷ 2 ∷ 6 ∷ 0 ∷ 0 ∷ 0x7fff0000 ∷ 6 ∷ 0 ∷ 0 ∷ 0x30000 ∷ 6 ∷ 0 ∷ 0 ∷ 0x30000 ∷ [])
    ∷ case "{\"t\":{\"mismatch_action\":\"trap\",\"match_action\":\"allow\",\"filter\":[{\"syscall\":\"read\",\"comment\":\"a\tb\"}]}}" 10 ([])
    ∷ case "{\"t\":{\"mismatch_action\":\"trap\",\"match_action\":\"allow\",\"filter\":[{\"syscall\":\"read\",}]}}" 10 ([])
    ∷ case "{\"t\":{\"mismatch_action\":\"trap\",\"match_action\":\"allow\",\"filter\":[{\"syscall\":\"read\"},]}}" 10 ([])
    ∷ []

hold36 : all_hold cases36 ≡ true
unfolding text_at value_at literal_at apart bad_number bad_character plain_bad escape_bad is_second array_at items object_at fields key_at number_count digit_count string_at characters character escape_piece pair_piece plain_piece byte_count blanks ascii all is_blank is_unescaped short_escape hex_digit hex4 utf8 same decimal natural string_of each_of list_of gathered fields_of action_of operator_of condition_of line_of filter_of filters_from filters_of number_for numbered insert collected emitted head_code number_code architecture_word guarded has_second_table numbers_code entry_code body_code rule_body rule_code conditions_code distance step_code step_distance helpers near condition_code high_part low_part high_tests low_tests
hold36 = refl

abbrev cases48 : List Case
cases48 =
    case "{\"t\":{\"mismatch_action\":\"trap\",\"match_action\":\"allow\",\"filter\":[{\"syscall\":\"read\",\"foo\":[[[[[[[[[1]]]]]]]]]}]}}" 11 ([])
    ∷ case "{\"t\":{\"filter\":[],\"filter_action\":\"allow\",\"default_action\":\"trap\"}}" 0 (0x20 ∷ 0 ∷ 0 ∷ 4 ∷ 0x15 ∷ 1 ∷ 0 ∷ 0xc000003e ∷ 6 ∷ 0 ∷ 0 ∷ 0x80000000 ∷ 6 ∷ 0 ∷ 0 ∷ 0x30000 ∷ [])
    ∷ case "{\"t\":{\"filter\":[],\"filter_action\":\"allow\",\"match_action\":\"allow\",\"default_action\":\"trap\"}}" 11 ([])
    ∷ case " \t\n{ \"t\" :\n{ \"filter\" : [ ] , \"match_action\" : \"allow\" , \"mismatch_action\" : \"log\" } }\n" 0 (0x20 ∷ 0 ∷ 0 ∷ 4 ∷ 0x15 ∷ 1 ∷ 0 ∷ 0xc000003e ∷ 6 ∷ 0 ∷ 0 ∷ 0x80000000 ∷ 6 ∷ 0 ∷ 0 ∷ 0x7ffc0000 ∷ [])
    ∷ case "{\"a\":{\"mismatch_action\":\"trap\",\"match_action\":\"allow\",\"filter\":[{\"syscall\":\"nope\"}]},\"b\":{\"mismatch_action\":\"trap\",\"match_action\":\"allow\",\"filter\":[]}}" 13 ([])
    ∷ case "{\"a\":{\"mismatch_action\":\"trap\",\"match_action\":\"allow\",\"filter\":[]},\"b\":{\"mismatch_action\":\"trap\",\"match_action\":\"trap\",\"filter\":[]}}" 3 ([])
    -- seccompiler takes it; here: actions are compared as words
    ∷ case "{\"a\":{\"mismatch_action\":{\"errno\":0},\"match_action\":{\"errno\":65536},\"filter\":[]}}" 3 ([])
    -- seccompiler says 5, its first fault in the text, and so will the pass; here the names come first
    ∷ case "{\"t\":{\"mismatch_action\":\"trap\",\"match_action\":\"allow\",\"filter\":[{\"syscall\":\"read\",\"args\":[{\"index\":6,\"type\":\"dword\",\"op\":\"eq\",\"val\":1}]},{\"syscall\":\"nope\"}]}}" 13 ([])
    ∷ case "{\"t\":{\"mismatch_action\":\"trap\",\"match_action\":\"allow\",\"filter\":[{\"syscall\":\"read\"},{\"syscall\":\"read\",\"args\":[]}]}}" 4 ([])
    ∷ []

hold48 : all_hold cases48 ≡ true
unfolding text_at value_at literal_at apart bad_number bad_character plain_bad escape_bad is_second array_at items object_at fields key_at number_count digit_count string_at characters character escape_piece pair_piece plain_piece byte_count blanks ascii all is_blank is_unescaped short_escape hex_digit hex4 utf8 same decimal natural string_of each_of list_of gathered fields_of action_of operator_of condition_of line_of filter_of filters_from filters_of number_for numbered insert collected emitted head_code number_code architecture_word guarded has_second_table numbers_code entry_code body_code rule_body rule_code conditions_code distance step_code step_distance helpers near condition_code high_part low_part high_tests low_tests
hold48 = refl
