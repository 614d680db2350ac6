-- The 44 cases of the comparison with the real serde front end, by computation: what the definitions say of each text, and, where it is taken, the
-- filter, instruction by instruction (code, jt, jf, k), which is what seccompiler printed but where a comment says otherwise.
use Prim.Native.Nat.{ℕ}
use Prim.Native.Char.{code}
use Prim.Native.String.{String, [] as end, ◌∷◌ as ◌then◌}
use mathlib.Core.Path.{◌≡◌, refl}
use mathlib.Core.Bool.{Bool, true, false, cond, not, ◌&&◌}
use mathlib.Core.List.{List, [], ◌∷◌, ◌++◌}
use mathlib.Core.Option.{Option, none, some}
use lib.Dec.{eqb}
use Rattle.definitions.specs.declared.Instruction.{Instruction}
use Rattle.definitions.specs.RuleSet.{x86_64, Entry, RuleSet, architecture_word, guarded, has_second_table}
use Rattle.definitions.specs.Answer.{rules_filled, indices_taken, widths_fit}
use Rattle.definitions.specs.Emitted.{high_tests, low_tests, high_part, low_part, condition_code, helpers, near, step_code, step_distance, conditions_code, distance, rule_body, rule_code, body_code, entry_code, numbers_code, emitted, head_code, number_code}
use Rattle.definitions.specs.Json.{ascii, all, is_blank, is_unescaped, short_escape, hex_digit, hex4, utf8, Json}
use Rattle.definitions.specs.JsonForm.{same, decimal, natural, string_of, each_of, list_of, gathered, fields_of, action_of, operator_of, condition_of, line_of, filter_of, filters_from, filters_of, Filter}
use Rattle.definitions.specs.CallNames.{Slot, number_for}
use Rattle.definitions.specs.Collected.{now, numbered, insert, collected, set_with}
use Rattle.definitions.specs.JsonReader.{Got, got, stop, blanks, byte_count, plain_piece, pair_piece, escape_piece, character, characters, string_at, digit_count, number_count, key_at, fields, object_at, items, array_at, apart, bad_number, bad_character, plain_bad, escape_bad, is_second, literal_at, value_at, text_at}

-- the bytes of a text
abbrev bytes : String → List ℕ
bytes end = []
bytes (c then s) = utf8 (code c) ++ bytes s

abbrev slot : String → ℕ → Slot
slot name n = record { name = ascii name; number = n }

abbrev table : List Slot
table = slot "close" 3 ∷ slot "futex" 202 ∷ slot "openat" 257 ∷ slot "read" 0 ∷ slot "write" 1 ∷ []

-- an answer's number, and the filter
record Said : Type 0 where
  number : ℕ
  filter : List ℕ

abbrev said : ℕ → List ℕ → Said
said n f = record { number = n; filter = f }

abbrev flat : List Instruction → List ℕ
flat [] = []
flat (i ∷ is) = i.code ∷ i.jt ∷ i.jf ∷ i.k ∷ flat is

-- 13: a name that is not in the table; 4, 5, 8 and 3 as for sets
abbrev said_of : Filter → Option (List Entry) → List ℕ → Said
said_of f none more = said 13 []
said_of f (some es) more =
    let rs : RuleSet = set_with x86_64 false f es in
    cond (not (rules_filled rs)) (said 4 []) (cond (not (indices_taken rs)) (said 5 []) (cond (not (widths_fit rs)) (said 8 [])
    (cond (eqb rs.mismatch rs.on_match) (said 3 []) (said 0 (flat (emitted (set_with x86_64 false f (collected now.join es))) ++ more)))))

abbrev said_of_all : List Filter → Said
said_of_all [] = said 0 []
said_of_all (f ∷ []) = said_of f (numbered table f.lines) []
said_of_all (f ∷ (g ∷ fs)) = said 0 []

-- 11: not filters
abbrev said_of_filters : Option (List Filter) → Said
said_of_filters none = said 11 []
said_of_filters (some fs) = said_of_all fs

abbrev said_of_text : Got Json → Said
said_of_text (got v rest) = said_of_filters (filters_of v)
said_of_text (stop k l) = said k []

record Case : Type 0 where
  text : String
  is : Said

abbrev case : String → ℕ → List ℕ → Case
case t n f = record { text = t; is = said n f }

abbrev holds : Case → Bool
holds c = let r : Said = said_of_text (text_at (bytes c.text)) in eqb r.number c.is.number && same r.filter c.is.filter

abbrev all_hold : List Case → Bool
all_hold [] = true
all_hold (c ∷ cs) = holds c && all_hold cs

abbrev cases0 : List Case
cases0 =
    case "{\"t\":{\"mismatch_action\":\"trap\",\"match_action\":\"allow\",\"filter\":[]}}" 0 (0x20 ∷ 0 ∷ 0 ∷ 4 ∷ 0x15 ∷ 1 ∷ 0 ∷ 0xc000003e ∷ 6 ∷ 0 ∷ 0 ∷ 0x80000000 ∷ 6 ∷ 0 ∷ 0 ∷ 0x30000 ∷ [])
    ∷ case "{\"t\":{\"mismatch_action\":\"trap\",\"match_action\":\"allow\",\"filter\":[{\"syscall\":\"read\"}]}}" 0 (0x20 ∷ 0 ∷ 0 ∷ 4 ∷ 0x15 ∷ 1 ∷ 0 ∷ 0xc000003e ∷ 6 ∷ 0 ∷ 0 ∷ 0x80000000 ∷ 0x20 ∷ 0 ∷ 0 ∷ 0 ∷ 0x15 ∷ 0 ∷ 1 ∷ 0 ∷ 5 ∷ 0 ∷ 0 ∷ 1 ∷ 5 ∷ 0 ∷ 0 ∷ 2 ∷ 6 ∷ 0 ∷ 0 ∷ 0x7fff0000 ∷ 6 ∷ 0 ∷ 0 ∷ 0x30000 ∷ 6 ∷ 0 ∷ 0 ∷ 0x30000 ∷ [])
    -- as seccompiler; with S6 (now = asWritten) the call always matches
    ∷ case "{\"t\":{\"mismatch_action\":\"trap\",\"match_action\":\"allow\",\"filter\":[{\"syscall\":\"read\"},{\"syscall\":\"read\",\"args\":[{\"index\":0,\"type\":\"dword\",\"op\":\"eq\",\"val\":1}]}]}}" 0 (0x20 ∷ 0 ∷ 0 ∷ 4 ∷ 0x15 ∷ 1 ∷ 0 ∷ 0xc000003e ∷ 6 ∷ 0 ∷ 0 ∷ 0x80000000 ∷ 0x20 ∷ 0 ∷ 0 ∷ 0 ∷ 0x15 ∷ 0 ∷ 1 ∷ 0 ∷ 5 ∷ 0 ∷ 0 ∷ 1 ∷ 5 ∷ 0 ∷ 0 ∷ 4 ∷ 0x20 ∷ 0 ∷ 0 ∷ 0x10 ∷ 0x15 ∷ 0 ∷ 1 ∷ 1 ∷ 6 ∷ 0 ∷ 0 ∷ 0x7fff0000 ∷ 6 ∷ 0 ∷ 0 ∷ 0x30000 ∷ 6 ∷ 0 ∷ 0 ∷ 0x30000 ∷ [])
    -- as seccompiler; with S6 (now = asWritten) the call always matches
    ∷ case "{\"t\":{\"mismatch_action\":\"trap\",\"match_action\":\"allow\",\"filter\":[{\"syscall\":\"read\",\"args\":[{\"index\":0,\"type\":\"dword\",\"op\":\"eq\",\"val\":1}]},{\"syscall\":\"read\"}]}}" 0 (0x20 ∷ 0 ∷ 0 ∷ 4 ∷ 0x15 ∷ 1 ∷ 0 ∷ 0xc000003e ∷ 6 ∷ 0 ∷ 0 ∷ 0x80000000 ∷ 0x20 ∷ 0 ∷ 0 ∷ 0 ∷ 0x15 ∷ 0 ∷ 1 ∷ 0 ∷ 5 ∷ 0 ∷ 0 ∷ 1 ∷ 5 ∷ 0 ∷ 0 ∷ 4 ∷ 0x20 ∷ 0 ∷ 0 ∷ 0x10 ∷ 0x15 ∷ 0 ∷ 1 ∷ 1 ∷ 6 ∷ 0 ∷ 0 ∷ 0x7fff0000 ∷ 6 ∷ 0 ∷ 0 ∷ 0x30000 ∷ 6 ∷ 0 ∷ 0 ∷ 0x30000 ∷ [])
    ∷ case "{\"t\":{\"mismatch_action\":\"trap\",\"match_action\":\"allow\",\"filter\":[{\"syscall\":\"read\",\"args\":[{\"index\":0,\"type\":\"dword\",\"op\":\"eq\",\"val\":1}]}]}}" 0 (0x20 ∷ 0 ∷ 0 ∷ 4 ∷ 0x15 ∷ 1 ∷ 0 ∷ 0xc000003e ∷ 6 ∷ 0 ∷ 0 ∷ 0x80000000 ∷ 0x20 ∷ 0 ∷ 0 ∷ 0 ∷ 0x15 ∷ 0 ∷ 1 ∷ 0 ∷ 5 ∷ 0 ∷ 0 ∷ 1 ∷ 5 ∷ 0 ∷ 0 ∷ 4 ∷ 0x20 ∷ 0 ∷ 0 ∷ 0x10 ∷ 0x15 ∷ 0 ∷ 1 ∷ 1 ∷ 6 ∷ 0 ∷ 0 ∷ 0x7fff0000 ∷ 6 ∷ 0 ∷ 0 ∷ 0x30000 ∷ 6 ∷ 0 ∷ 0 ∷ 0x30000 ∷ [])
    ∷ case "{\"t\":{\"mismatch_action\":\"trap\",\"match_action\":\"allow\",\"filter\":[{\"syscall\":\"read\",\"args\":[]}]}}" 4 ([])
    ∷ case "{\"t\":{\"mismatch_action\":\"trap\",\"match_action\":\"allow\",\"filter\":[{\"syscall\":\"read\",\"args\":null}]}}" 0 (0x20 ∷ 0 ∷ 0 ∷ 4 ∷ 0x15 ∷ 1 ∷ 0 ∷ 0xc000003e ∷ 6 ∷ 0 ∷ 0 ∷ 0x80000000 ∷ 0x20 ∷ 0 ∷ 0 ∷ 0 ∷ 0x15 ∷ 0 ∷ 1 ∷ 0 ∷ 5 ∷ 0 ∷ 0 ∷ 1 ∷ 5 ∷ 0 ∷ 0 ∷ 2 ∷ 6 ∷ 0 ∷ 0 ∷ 0x7fff0000 ∷ 6 ∷ 0 ∷ 0 ∷ 0x30000 ∷ 6 ∷ 0 ∷ 0 ∷ 0x30000 ∷ [])
    ∷ case "{\"t\":{\"mismatch_action\":\"trap\",\"match_action\":\"allow\",\"filter\":[{\"syscall\":\"read\",\"comment\":null}]}}" 0 (0x20 ∷ 0 ∷ 0 ∷ 4 ∷ 0x15 ∷ 1 ∷ 0 ∷ 0xc000003e ∷ 6 ∷ 0 ∷ 0 ∷ 0x80000000 ∷ 0x20 ∷ 0 ∷ 0 ∷ 0 ∷ 0x15 ∷ 0 ∷ 1 ∷ 0 ∷ 5 ∷ 0 ∷ 0 ∷ 1 ∷ 5 ∷ 0 ∷ 0 ∷ 2 ∷ 6 ∷ 0 ∷ 0 ∷ 0x7fff0000 ∷ 6 ∷ 0 ∷ 0 ∷ 0x30000 ∷ 6 ∷ 0 ∷ 0 ∷ 0x30000 ∷ [])
    ∷ case "{\"t\":{\"mismatch_action\":\"trap\",\"match_action\":\"allow\",\"filter\":[{\"syscall\":\"read\",\"comment\":5}]}}" 11 ([])
    -- seccompiler: "t": 12 ins 200000:4 150100:c000003e 060000:80000000 200000:; here: op is a word or masked_eq
    ∷ case "{\"t\":{\"mismatch_action\":\"trap\",\"match_action\":\"allow\",\"filter\":[{\"syscall\":\"read\",\"args\":[{\"index\":0,\"type\":\"dword\",\"op\":{\"eq\":null},\"val\":1}]}]}}" 11 ([])
    -- seccompiler: "t": 10 ins 200000:4 150100:c000003e 060000:80000000 200000:; here: an action is a word, errno or trace
    ∷ case "{\"t\":{\"mismatch_action\":{\"trap\":null},\"match_action\":\"allow\",\"filter\":[{\"syscall\":\"read\"}]}}" 11 ([])
    ∷ []

hold0 : all_hold cases0 ≡ true
unfolding text_at value_at literal_at apart bad_number bad_character plain_bad escape_bad is_second array_at items object_at fields key_at number_count digit_count string_at characters character escape_piece pair_piece plain_piece byte_count blanks ascii all is_blank is_unescaped short_escape hex_digit hex4 utf8 same decimal natural string_of each_of list_of gathered fields_of action_of operator_of condition_of line_of filter_of filters_from filters_of number_for numbered insert collected emitted head_code number_code architecture_word guarded has_second_table numbers_code entry_code body_code rule_body rule_code conditions_code distance step_code step_distance helpers near condition_code high_part low_part high_tests low_tests
hold0 = refl

abbrev cases11 : List Case
cases11 =
    -- seccompiler: "t": 10 ins 200000:4 150100:c000003e 060000:80000000 200000:; here: actions are compared as words
    case "{\"t\":{\"mismatch_action\":{\"errno\":65537},\"match_action\":{\"errno\":1},\"filter\":[{\"syscall\":\"read\"}]}}" 3 ([])
    ∷ case "{\"t\":{\"mismatch_action\":{\"errno\":4294967296},\"match_action\":\"allow\",\"filter\":[{\"syscall\":\"read\"}]}}" 11 ([])
    -- seccompiler: "t": 10 ins 200000:4 150100:c000003e 060000:80000000 200000:; here: no arrays for objects
    ∷ case "{\"t\":{\"mismatch_action\":\"trap\",\"match_action\":\"allow\",\"filter\":[[\"read\",null,null]]}}" 11 ([])
    -- seccompiler: "t": 12 ins 200000:4 150100:c000003e 060000:80000000 200000:; here: no arrays for objects
    ∷ case "{\"t\":[\"trap\",\"allow\",[[\"read\",[[0,\"dword\",\"eq\",1,null]],null]]]}" 11 ([])
    -- seccompiler: ERR SerdeJson(Error("invalid length 1, expected struct JsonR
    ∷ case "{\"t\":{\"mismatch_action\":\"trap\",\"match_action\":\"allow\",\"filter\":[[\"read\"]]}}" 11 ([])
    ∷ case "{\"t\":{\"mismatch_action\":\"trap\",\"match_action\":\"allow\",\"filter\":[{\"syscall\":\"read\",\"args\":[{\"index\":6,\"type\":\"dword\",\"op\":\"eq\",\"val\":1}]}]}}" 5 ([])
    ∷ case "{\"t\":{\"mismatch_action\":\"trap\",\"match_action\":\"allow\",\"filter\":[{\"syscall\":\"read\",\"args\":[{\"index\":256,\"type\":\"dword\",\"op\":\"eq\",\"val\":1}]}]}}" 11 ([])
    ∷ case "{\"t\":{\"mismatch_action\":\"trap\",\"match_action\":\"allow\",\"filter\":[{\"syscall\":\"read\",\"args\":[{\"index\":0,\"type\":\"dword\",\"op\":\"eq\",\"val\":1.0}]}]}}" 11 ([])
    ∷ case "{\"t\":{\"mismatch_action\":\"trap\",\"match_action\":\"allow\",\"filter\":[{\"syscall\":\"read\",\"args\":[{\"index\":0,\"type\":\"dword\",\"op\":\"eq\",\"val\":-0}]}]}}" 11 ([])
    -- seccompiler: "t": 12 ins 200000:4 150100:c000003e 060000:80000000 200000:; here: S8
    ∷ case "{\"t\":{\"mismatch_action\":\"trap\",\"match_action\":\"allow\",\"filter\":[{\"syscall\":\"read\",\"args\":[{\"index\":0,\"type\":\"dword\",\"op\":\"eq\",\"val\":18446744073709551615}]}]}}" 8 ([])
    ∷ case "{\"t\":{\"mismatch_action\":\"trap\",\"match_action\":\"allow\",\"filter\":[{\"syscall\":\"read\",\"args\":[{\"index\":0,\"type\":\"dword\",\"op\":\"eq\",\"val\":18446744073709551616}]}]}}" 11 ([])
    ∷ []

hold11 : all_hold cases11 ≡ true
unfolding text_at value_at literal_at apart bad_number bad_character plain_bad escape_bad is_second array_at items object_at fields key_at number_count digit_count string_at characters character escape_piece pair_piece plain_piece byte_count blanks ascii all is_blank is_unescaped short_escape hex_digit hex4 utf8 same decimal natural string_of each_of list_of gathered fields_of action_of operator_of condition_of line_of filter_of filters_from filters_of number_for numbered insert collected emitted head_code number_code architecture_word guarded has_second_table numbers_code entry_code body_code rule_body rule_code conditions_code distance step_code step_distance helpers near condition_code high_part low_part high_tests low_tests
hold11 = refl

abbrev cases22 : List Case
cases22 =
    case "{\"t\":{\"mismatch_action\":\"trap\",\"match_action\":\"allow\",\"filter\":[{\"syscall\":\"read\",\"args\":[{\"index\":0,\"type\":\"dword\",\"op\":\"eq\",\"val\":1e0}]}]}}" 11 ([])
    ∷ case "{\"t\":{\"mismatch_action\":\"trap\",\"match_action\":\"allow\",\"filter\":[{\"syscall\":\"nope\",\"args\":[]}]}}" 13 ([])
    -- seccompiler: ERR Backend(InvalidArgumentNumber)
    ∷ case "{\"t\":{\"mismatch_action\":\"allow\",\"match_action\":\"allow\",\"filter\":[{\"syscall\":\"read\",\"args\":[{\"index\":9,\"type\":\"dword\",\"op\":\"eq\",\"val\":1}]}]}}" 5 ([])
    -- seccompiler: ERR Backend(EmptyRule)
    ∷ case "{\"t\":{\"mismatch_action\":\"allow\",\"match_action\":\"allow\",\"filter\":[{\"syscall\":\"read\",\"args\":[]}]}}" 4 ([])
    ∷ case "{\"t\":{\"mismatch_action\":\"allow\",\"match_action\":\"allow\",\"filter\":[{\"syscall\":\"read\"}]}}" 3 ([])
    -- seccompiler: ERR SerdeJson(Error("unknown variant `user_notif`, expected; here: S2
    ∷ case "{\"t\":{\"mismatch_action\":\"user_notif\",\"match_action\":\"allow\",\"filter\":[{\"syscall\":\"read\"}]}}" 0 (0x20 ∷ 0 ∷ 0 ∷ 4 ∷ 0x15 ∷ 1 ∷ 0 ∷ 0xc000003e ∷ 6 ∷ 0 ∷ 0 ∷ 0x80000000 ∷ 0x20 ∷ 0 ∷ 0 ∷ 0 ∷ 0x15 ∷ 0 ∷ 1 ∷ 0 ∷ 5 ∷ 0 ∷ 0 ∷ 1 ∷ 5 ∷ 0 ∷ 0 ∷ 2 ∷ 6 ∷ 0 ∷ 0 ∷ 0x7fff0000 ∷ 6 ∷ 0 ∷ 0 ∷ 0x7fc00000 ∷ 6 ∷ 0 ∷ 0 ∷ 0x7fc00000 ∷ [])
    ∷ case "{\"t\":{\"default_action\":\"trap\",\"match_action\":\"allow\",\"filter\":[]}}" 0 (0x20 ∷ 0 ∷ 0 ∷ 4 ∷ 0x15 ∷ 1 ∷ 0 ∷ 0xc000003e ∷ 6 ∷ 0 ∷ 0 ∷ 0x80000000 ∷ 6 ∷ 0 ∷ 0 ∷ 0x30000 ∷ [])
    ∷ case "{\"t\":{\"default_action\":\"trap\",\"mismatch_action\":\"trap\",\"match_action\":\"allow\",\"filter\":[]}}" 11 ([])
    ∷ case "{\"t\":{\"default_action\":\"trap\",\"filter_action\":\"allow\",\"filter\":[]}}" 0 (0x20 ∷ 0 ∷ 0 ∷ 4 ∷ 0x15 ∷ 1 ∷ 0 ∷ 0xc000003e ∷ 6 ∷ 0 ∷ 0 ∷ 0x80000000 ∷ 6 ∷ 0 ∷ 0 ∷ 0x30000 ∷ [])
    ∷ case "{\"t\":{\"mismatch_action\":\"trap\",\"match_action\":\"allow\",\"filter\":[]},\"t\":{\"mismatch_action\":\"trap\",\"match_action\":\"allow\",\"filter\":[]}}" 11 ([])
    ∷ case "{\"t\":{\"mismatch_action\":\"trap\",\"match_action\":\"allow\",\"filter\":[],\"comment\":\"x\"}}" 11 ([])
    ∷ []

hold22 : all_hold cases22 ≡ true
unfolding text_at value_at literal_at apart bad_number bad_character plain_bad escape_bad is_second array_at items object_at fields key_at number_count digit_count string_at characters character escape_piece pair_piece plain_piece byte_count blanks ascii all is_blank is_unescaped short_escape hex_digit hex4 utf8 same decimal natural string_of each_of list_of gathered fields_of action_of operator_of condition_of line_of filter_of filters_from filters_of number_for numbered insert collected emitted head_code number_code architecture_word guarded has_second_table numbers_code entry_code body_code rule_body rule_code conditions_code distance step_code step_distance helpers near condition_code high_part low_part high_tests low_tests
hold22 = refl

abbrev cases33 : List Case
cases33 =
    case "{}" 0 ([])
    ∷ case "[]" 11 ([])
    ∷ case "{\"t\":{\"mismatch_action\":\"trap\",\"match_action\":\"allow\"}}" 11 ([])
    ∷ case "{\"t\":{\"mismatch_action\":\"trap\",\"match_action\":\"allow\",\"filter\":[{\"syscall\":\"read\",\"syscall\":\"read\"}]}}" 11 ([])
    ∷ case "{\"t\":{\"mismatch_action\":\"trap\",\"match_action\":\"allow\",\"filter\":[{\"sy\\u0073call\":\"r\\u0065ad\"}]}}" 0 (0x20 ∷ 0 ∷ 0 ∷ 4 ∷ 0x15 ∷ 1 ∷ 0 ∷ 0xc000003e ∷ 6 ∷ 0 ∷ 0 ∷ 0x80000000 ∷ 0x20 ∷ 0 ∷ 0 ∷ 0 ∷ 0x15 ∷ 0 ∷ 1 ∷ 0 ∷ 5 ∷ 0 ∷ 0 ∷ 1 ∷ 5 ∷ 0 ∷ 0 ∷ 2 ∷ 6 ∷ 0 ∷ 0 ∷ 0x7fff0000 ∷ 6 ∷ 0 ∷ 0 ∷ 0x30000 ∷ 6 ∷ 0 ∷ 0 ∷ 0x30000 ∷ [])
    ∷ case "\u{feff}{\"t\":{\"mismatch_action\":\"trap\",\"match_action\":\"allow\",\"filter\":[]}}" 10 ([])
    ∷ case "{\"t\":{\"mismatch_action\":\"trap\",\"match_action\":\"allow\",\"filter\":[]}} x" 10 ([])
    ∷ case "{\"t\":{\"mismatch_action\":\"trap\",\"match_action\":\"allow\",\"filter\":[{\"syscall\":\"read\",\"args\":[{\"index\":0,\"type\":\"dword\",\"op\":{\"masked_eq\":4},\"val\":36}]}]}}" 0 (0x20 ∷ 0 ∷ 0 ∷ 4 ∷ 0x15 ∷ 1 ∷ 0 ∷ 0xc000003e ∷ 6 ∷ 0 ∷ 0 ∷ 0x80000000 ∷ 0x20 ∷ 0 ∷ 0 ∷ 0 ∷ 0x15 ∷ 0 ∷ 1 ∷ 0 ∷ 5 ∷ 0 ∷ 0 ∷ 1 ∷ 5 ∷ 0 ∷ 0 ∷ 5 ∷ 0x20 ∷ 0 ∷ 0 ∷ 0x10 ∷ 0x54 ∷ 0 ∷ 0 ∷ 4 ∷ 0x15 ∷ 0 ∷ 1 ∷ 4 ∷ 6 ∷ 0 ∷ 0 ∷ 0x7fff0000 ∷ 6 ∷ 0 ∷ 0 ∷ 0x30000 ∷ 6 ∷ 0 ∷ 0 ∷ 0x30000 ∷ [])
    ∷ case "{\"t\":{\"mismatch_action\":\"trap\",\"match_action\":\"allow\",\"filter\":[{\"syscall\":\"read\",\"args\":[{\"index\":0,\"type\":\"dword\",\"op\":{\"masked_eq\":4,\"masked_eq\":4},\"val\":36}]}]}}" 11 ([])
    ∷ case "{\"t\":{\"mismatch_action\":\"trap\",\"match_action\":\"allow\",\"filter\":[{\"syscall\":\"read\",\"args\":[{\"index\":0,\"type\":\"dword\",\"op\":\"masked_eq\",\"val\":36}]}]}}" 11 ([])
    ∷ case "{\"t\":{\"mismatch_action\":\"trap\",\"match_action\":\"allow\",\"filter\":[{\"syscall\":\"read\"},{\"syscall\":\"close\"},{\"syscall\":\"read\"}]}}" 0 (0x20 ∷ 0 ∷ 0 ∷ 4 ∷ 0x15 ∷ 1 ∷ 0 ∷ 0xc000003e ∷ 6 ∷ 0 ∷ 0 ∷ 0x80000000 ∷ 0x20 ∷ 0 ∷ 0 ∷ 0 ∷ 0x15 ∷ 0 ∷ 1 ∷ 0 ∷ 5 ∷ 0 ∷ 0 ∷ 1 ∷ 5 ∷ 0 ∷ 0 ∷ 2 ∷ 6 ∷ 0 ∷ 0 ∷ 0x7fff0000 ∷ 6 ∷ 0 ∷ 0 ∷ 0x30000 ∷ 0x15 ∷ 0 ∷ 1 ∷ 3 ∷ 5 ∷ 0 ∷ 0 ∷ 1 ∷ 5 ∷ 0 ∷ 0 ∷ 2 ∷ 6 ∷ 0 ∷ 0 ∷ 0x7fff0000 ∷ 6 ∷ 0 ∷ 0 ∷ 0x30000 ∷ 6 ∷ 0 ∷ 0 ∷ 0x30000 ∷ [])
    ∷ []

hold33 : all_hold cases33 ≡ true
unfolding text_at value_at literal_at apart bad_number bad_character plain_bad escape_bad is_second array_at items object_at fields key_at number_count digit_count string_at characters character escape_piece pair_piece plain_piece byte_count blanks ascii all is_blank is_unescaped short_escape hex_digit hex4 utf8 same decimal natural string_of each_of list_of gathered fields_of action_of operator_of condition_of line_of filter_of filters_from filters_of number_for numbered insert collected emitted head_code number_code architecture_word guarded has_second_table numbers_code entry_code body_code rule_body rule_code conditions_code distance step_code step_distance helpers near condition_code high_part low_part high_tests low_tests
hold33 = refl
