-- Texts with a fault of each kind, by computation: which number the reader answers, and at which byte. The place is where a ¶ stood when this was made.
use Prim.Native.Nat.{ℕ}
use Prim.Native.Char.{code}
use Prim.Native.String.{String, [] as end, ◌∷◌ as ◌then◌}
use mathlib.Core.Path.{◌≡◌, refl}
use mathlib.Core.Bool.{Bool, true, ◌&&◌}
use mathlib.Core.List.{List, [], ◌∷◌, ◌++◌}
use lib.Dec.{eqb}
use Rattle.definitions.specs.Json.{ascii, all, is_blank, is_unescaped, short_escape, hex_digit, hex4, utf8}
use Rattle.definitions.specs.JsonForm.{same, decimal}
use Rattle.definitions.specs.CallNames.{Slot, number_for}
use Rattle.definitions.specs.JsonReader.{blanks, byte_count, plain_piece, pair_piece, escape_piece, character, characters, string_at, digit_count, number_count, key_at, fields, object_at, items, array_at, apart, literal_at, bad_number, bad_character, plain_bad, escape_bad, is_second}
use Rattle.definitions.specs.FormReader.{object_there, array_there, string_there, number_there, wrong}
use Rattle.definitions.specs.FormReader.{Told, told, read_filters, whole, filters_there, filter_there, line_there, condition_there, keyed_there, one_there, either_there, null_or, list_there, word_there, natural_there, judged, action_there, operator_there}

abbrev bytes : String → List ℕ
bytes end = []
bytes (c then s) = utf8 (code c) ++ bytes s

abbrev slot : String → ℕ → Slot
slot name n = record { name = ascii name; number = n }

abbrev table : List Slot
table = slot "close" 3 ∷ slot "futex" 202 ∷ slot "openat" 257 ∷ slot "read" 0 ∷ slot "write" 1 ∷ []

record Case : Type 0 where
  text : String
  code : ℕ
  at : ℕ

abbrev case : ℕ → ℕ → String → Case
case k n t = record { text = t; code = k; at = n }

abbrev holds : Told → Case → Bool
holds r c = eqb r.code c.code && eqb r.at c.at

abbrev all_hold : List Case → Bool
all_hold [] = true
all_hold (c ∷ cs) = holds (told table (bytes c.text)) c && all_hold cs

abbrev cases0 : List Case
cases0 =
    case 0 0 "{\"t\":{\"mismatch_action\":\"trap\",\"match_action\":\"allow\",\"filter\":[]}}"
    ∷ case 0 0 "{\"t\":{\"mismatch_action\":\"trap\",\"match_action\":\"allow\",\"filter\":[{\"syscall\":\"read\",\"args\":[{\"index\":0,\"type\":\"dword\",\"op\":\"eq\",\"val\":1}]}]}}"
    ∷ case 0 0 "{}"
    ∷ case 0 0 " \n{ \"t\" : {\"filter\":[],\"filter_action\":\"log\",\"default_action\":{\"errno\":1}} }\t"
    ∷ case 0 0 "{\"t\":{\"mismatch_action\":\"trap\",\"match_action\":\"allow\",\"filter\":[{\"syscall\":\"read\",\"args\":null,\"comment\":null}]}}"
    ∷ case 0 0 "{\"t\":{\"mismatch_action\":\"trap\",\"match_action\":\"allow\",\"filter\":[{\"syscall\":\"read\",\"args\":[{\"val\":1,\"op\":{\"masked_eq\":7},\"type\":\"qword\",\"index\":5,\"comment\":\"x\"}]}]}}"
    ∷ case 10 0 ""
    ∷ case 10 5 "{\"t\":" ∷ []

hold0 : all_hold cases0 ≡ true
unfolding told read_filters whole filters_there filter_there line_there condition_there keyed_there one_there either_there null_or list_there word_there natural_there judged action_there operator_there object_there array_there string_there number_there wrong array_at items object_at fields key_at number_count digit_count string_at characters character escape_piece pair_piece plain_piece byte_count blanks ascii all is_blank is_unescaped short_escape hex_digit hex4 utf8 same decimal literal_at apart bad_number bad_character plain_bad escape_bad is_second number_for
hold0 = refl

abbrev cases8 : List Case
cases8 =
    case 10 0 "x"
    ∷ case 10 67 "{\"t\":{\"mismatch_action\":\"trap\",\"match_action\":\"allow\",\"filter\":[]}}x"
    ∷ case 10 82 "{\"t\":{\"mismatch_action\":\"trap\",\"match_action\":\"allow\",\"filter\":[{\"syscall\":\"read\",}]}}"
    ∷ case 10 83 "{\"t\":{\"mismatch_action\":\"trap\",\"match_action\":\"allow\",\"filter\":[{\"syscall\":\"read\"},]}}"
    ∷ case 10 99 "{\"t\":{\"mismatch_action\":\"trap\",\"match_action\":\"allow\",\"filter\":[{\"syscall\":\"read\",\"args\":[{\"index\":x]}]}}"
    ∷ case 10 100 "{\"t\":{\"mismatch_action\":\"trap\",\"match_action\":\"allow\",\"filter\":[{\"syscall\":\"read\",\"args\":[{\"index\":01]}]}}"
    ∷ case 10 75 "{\"t\":{\"mismatch_action\":\"trap\",\"match_action\":\"allow\",\"filter\":[{\"syscall\" \"read\"}]}}"
    ∷ case 10 95 "{\"t\":{\"mismatch_action\":\"trap\",\"match_action\":\"allow\",\"filter\":[{\"syscall\":\"read\",\"comment\":\"a\\x\"}]}}" ∷ []

hold8 : all_hold cases8 ≡ true
unfolding told read_filters whole filters_there filter_there line_there condition_there keyed_there one_there either_there null_or list_there word_there natural_there judged action_there operator_there object_there array_there string_there number_there wrong array_at items object_at fields key_at number_count digit_count string_at characters character escape_piece pair_piece plain_piece byte_count blanks ascii all is_blank is_unescaped short_escape hex_digit hex4 utf8 same decimal literal_at apart bad_number bad_character plain_bad escape_bad is_second number_for
hold8 = refl

abbrev cases16 : List Case
cases16 =
    case 10 95 "{\"t\":{\"mismatch_action\":\"trap\",\"match_action\":\"allow\",\"filter\":[{\"syscall\":\"read\",\"comment\":nulx}]}}"
    ∷ case 10 30 "{\"t\":{\"filter\":[{\"comment\":nul"
    ∷ case 10 34 "{\"t\":{\"mismatch_action\":{\"errno\":-},\"match_action\":\"allow\",\"filter\":[]}}"
    ∷ case 10 35 "{\"t\":{\"mismatch_action\":{\"errno\":1.},\"match_action\":\"allow\",\"filter\":[]}}"
    ∷ case 10 38 "{\"t\":{\"mismatch_action\":{\"errno\":1.5e+x},\"match_action\":\"allow\",\"filter\":[]}}"
    ∷ case 10 35 "{\"t\":{\"mismatch_action\":{\"errno\":1e,\"match_action\":\"allow\",\"filter\":[]}}"
    ∷ case 10 34 "{\"t\":{\"mismatch_action\":{\"errno\":-x,\"match_action\":\"allow\",\"filter\":[]}}"
    ∷ case 10 3 "{\"a\n\":1}" ∷ []

hold16 : all_hold cases16 ≡ true
unfolding told read_filters whole filters_there filter_there line_there condition_there keyed_there one_there either_there null_or list_there word_there natural_there judged action_there operator_there object_there array_there string_there number_there wrong array_at items object_at fields key_at number_count digit_count string_at characters character escape_piece pair_piece plain_piece byte_count blanks ascii all is_blank is_unescaped short_escape hex_digit hex4 utf8 same decimal literal_at apart bad_number bad_character plain_bad escape_bad is_second number_for
hold16 = refl

abbrev cases24 : List Case
cases24 =
    case 10 6 "{\"a\\u0g12\":1}"
    ∷ case 10 5 "{\"\\udc00\":1}"
    ∷ case 10 8 "{\"\\ud800x\":1}"
    ∷ case 10 9 "{\"\\ud800\\n\":1}"
    ∷ case 10 10 "{\"\\ud800\\u0000\":1}"
    ∷ case 10 11 "{\"\\ud800\\ud800\":1}"
    ∷ case 10 13 "{\"\\ud800\\udc0"
    ∷ case 10 13 "{\"\\ud83d\\ude0g" ∷ []

hold24 : all_hold cases24 ≡ true
unfolding told read_filters whole filters_there filter_there line_there condition_there keyed_there one_there either_there null_or list_there word_there natural_there judged action_there operator_there object_there array_there string_there number_there wrong array_at items object_at fields key_at number_count digit_count string_at characters character escape_piece pair_piece plain_piece byte_count blanks ascii all is_blank is_unescaped short_escape hex_digit hex4 utf8 same decimal literal_at apart bad_number bad_character plain_bad escape_bad is_second number_for
hold24 = refl

abbrev cases32 : List Case
cases32 =
    case 10 5 "{\"abc"
    ∷ case 10 6 "{\"abc\\"
    ∷ case 10 6 "{\"\\u00"
    ∷ case 11 0 "[]"
    ∷ case 11 5 "{\"t\":[]}"
    ∷ case 11 6 "{\"t\":{\"other\":1}}"
    ∷ case 11 53 "{\"t\":{\"mismatch_action\":\"trap\",\"match_action\":\"allow\"}}"
    ∷ case 11 65 "{\"t\":{\"mismatch_action\":\"trap\",\"match_action\":\"allow\",\"filter\":[{}]}}" ∷ []

hold32 : all_hold cases32 ≡ true
unfolding told read_filters whole filters_there filter_there line_there condition_there keyed_there one_there either_there null_or list_there word_there natural_there judged action_there operator_there object_there array_there string_there number_there wrong array_at items object_at fields key_at number_count digit_count string_at characters character escape_piece pair_piece plain_piece byte_count blanks ascii all is_blank is_unescaped short_escape hex_digit hex4 utf8 same decimal literal_at apart bad_number bad_character plain_bad escape_bad is_second number_for
hold32 = refl

abbrev cases40 : List Case
cases40 =
    case 11 76 "{\"t\":{\"mismatch_action\":\"trap\",\"match_action\":\"allow\",\"filter\":[{\"args\":null}]}}"
    ∷ case 11 75 "{\"t\":{\"mismatch_action\":\"trap\",\"match_action\":\"allow\",\"filter\":[{\"syscall\":3}]}}"
    ∷ case 11 64 "{\"t\":{\"mismatch_action\":\"trap\",\"match_action\":\"allow\",\"filter\":[\"read\"]}}"
    ∷ case 11 89 "{\"t\":{\"mismatch_action\":\"trap\",\"match_action\":\"allow\",\"filter\":[{\"syscall\":\"read\",\"args\":true}]}}"
    ∷ case 11 89 "{\"t\":{\"mismatch_action\":\"trap\",\"match_action\":\"allow\",\"filter\":[{\"syscall\":\"read\",\"args\":{}}]}}"
    ∷ case 11 92 "{\"t\":{\"mismatch_action\":\"trap\",\"match_action\":\"allow\",\"filter\":[{\"syscall\":\"read\",\"comment\":3}]}}"
    ∷ case 11 99 "{\"t\":{\"mismatch_action\":\"trap\",\"match_action\":\"allow\",\"filter\":[{\"syscall\":\"read\",\"args\":[{\"index\":256]}]}}"
    ∷ case 11 99 "{\"t\":{\"mismatch_action\":\"trap\",\"match_action\":\"allow\",\"filter\":[{\"syscall\":\"read\",\"args\":[{\"index\":1.0]}]}}" ∷ []

hold40 : all_hold cases40 ≡ true
unfolding told read_filters whole filters_there filter_there line_there condition_there keyed_there one_there either_there null_or list_there word_there natural_there judged action_there operator_there object_there array_there string_there number_there wrong array_at items object_at fields key_at number_count digit_count string_at characters character escape_piece pair_piece plain_piece byte_count blanks ascii all is_blank is_unescaped short_escape hex_digit hex4 utf8 same decimal literal_at apart bad_number bad_character plain_bad escape_bad is_second number_for
hold40 = refl

abbrev cases48 : List Case
cases48 =
    case 11 99 "{\"t\":{\"mismatch_action\":\"trap\",\"match_action\":\"allow\",\"filter\":[{\"syscall\":\"read\",\"args\":[{\"index\":-0]}]}}"
    ∷ case 11 99 "{\"t\":{\"mismatch_action\":\"trap\",\"match_action\":\"allow\",\"filter\":[{\"syscall\":\"read\",\"args\":[{\"index\":1e0]}]}}"
    ∷ case 11 99 "{\"t\":{\"mismatch_action\":\"trap\",\"match_action\":\"allow\",\"filter\":[{\"syscall\":\"read\",\"args\":[{\"index\":\"0\"]}]}}"
    ∷ case 11 108 "{\"t\":{\"mismatch_action\":\"trap\",\"match_action\":\"allow\",\"filter\":[{\"syscall\":\"read\",\"args\":[{\"index\":0,\"type\":\"word\"]}]}}"
    ∷ case 11 98 "{\"t\":{\"mismatch_action\":\"trap\",\"match_action\":\"allow\",\"filter\":[{\"syscall\":\"read\",\"args\":[{\"type\":{\"dword\":null}]}]}}"
    ∷ case 11 96 "{\"t\":{\"mismatch_action\":\"trap\",\"match_action\":\"allow\",\"filter\":[{\"syscall\":\"read\",\"args\":[{\"op\":\"masked_eq\"]}]}}"
    ∷ case 11 97 "{\"t\":{\"mismatch_action\":\"trap\",\"match_action\":\"allow\",\"filter\":[{\"syscall\":\"read\",\"args\":[{\"op\":{\"eq\":1}]}]}}"
    ∷ case 11 109 "{\"t\":{\"mismatch_action\":\"trap\",\"match_action\":\"allow\",\"filter\":[{\"syscall\":\"read\",\"args\":[{\"op\":{\"masked_eq\":null}]}]}}" ∷ []

hold48 : all_hold cases48 ≡ true
unfolding told read_filters whole filters_there filter_there line_there condition_there keyed_there one_there either_there null_or list_there word_there natural_there judged action_there operator_there object_there array_there string_there number_there wrong array_at items object_at fields key_at number_count digit_count string_at characters character escape_piece pair_piece plain_piece byte_count blanks ascii all is_blank is_unescaped short_escape hex_digit hex4 utf8 same decimal literal_at apart bad_number bad_character plain_bad escape_bad is_second number_for
hold48 = refl

abbrev cases56 : List Case
cases56 =
    case 11 97 "{\"t\":{\"mismatch_action\":\"trap\",\"match_action\":\"allow\",\"filter\":[{\"syscall\":\"read\",\"args\":[{\"op\":{}]}]}}"
    ∷ case 11 97 "{\"t\":{\"mismatch_action\":\"trap\",\"match_action\":\"allow\",\"filter\":[{\"syscall\":\"read\",\"args\":[{\"val\":18446744073709551616]}]}}"
    ∷ case 11 125 "{\"t\":{\"mismatch_action\":\"trap\",\"match_action\":\"allow\",\"filter\":[{\"syscall\":\"read\",\"args\":[{\"index\":0,\"type\":\"dword\",\"op\":\"eq\"}]}]}}"
    ∷ case 11 24 "{\"t\":{\"mismatch_action\":\"errno\",\"match_action\":\"allow\",\"filter\":[]}}"
    ∷ case 11 25 "{\"t\":{\"mismatch_action\":{\"trap\":null},\"match_action\":\"allow\",\"filter\":[]}}"
    ∷ case 11 33 "{\"t\":{\"mismatch_action\":{\"errno\":4294967296},\"match_action\":\"allow\",\"filter\":[]}}"
    ∷ case 11 35 "{\"t\":{\"mismatch_action\":{\"errno\":1,\"trace\":2},\"match_action\":\"allow\",\"filter\":[]}}"
    ∷ case 11 24 "{\"t\":{\"mismatch_action\":null,\"match_action\":\"allow\",\"filter\":[]}}" ∷ []

hold56 : all_hold cases56 ≡ true
unfolding told read_filters whole filters_there filter_there line_there condition_there keyed_there one_there either_there null_or list_there word_there natural_there judged action_there operator_there object_there array_there string_there number_there wrong array_at items object_at fields key_at number_count digit_count string_at characters character escape_piece pair_piece plain_piece byte_count blanks ascii all is_blank is_unescaped short_escape hex_digit hex4 utf8 same decimal literal_at apart bad_number bad_character plain_bad escape_bad is_second number_for
hold56 = refl

abbrev cases64 : List Case
cases64 =
    case 11 24 "{\"t\":{\"mismatch_action\":[],\"match_action\":\"allow\",\"filter\":[]}}"
    ∷ case 12 67 "{\"t\":{\"mismatch_action\":\"trap\",\"match_action\":\"allow\",\"filter\":[]},\"t\":{}}"
    ∷ case 12 31 "{\"t\":{\"mismatch_action\":\"trap\",\"mismatch_action\":1"
    ∷ case 12 31 "{\"t\":{\"mismatch_action\":\"trap\",\"default_action\":1"
    ∷ case 12 82 "{\"t\":{\"mismatch_action\":\"trap\",\"match_action\":\"allow\",\"filter\":[{\"syscall\":\"read\",\"sysc\\u0061ll\":1}]}}"
    ∷ case 12 101 "{\"t\":{\"mismatch_action\":\"trap\",\"match_action\":\"allow\",\"filter\":[{\"syscall\":\"read\",\"args\":[{\"index\":0,\"index\":0}]}]}}"
    ∷ case 12 35 "{\"t\":{\"mismatch_action\":{\"errno\":1,\"errno\":2},\"match_action\":\"allow\",\"filter\":[]}}"
    ∷ case 13 75 "{\"t\":{\"mismatch_action\":\"trap\",\"match_action\":\"allow\",\"filter\":[{\"syscall\":\"opennat\"}]}}" ∷ []

hold64 : all_hold cases64 ≡ true
unfolding told read_filters whole filters_there filter_there line_there condition_there keyed_there one_there either_there null_or list_there word_there natural_there judged action_there operator_there object_there array_there string_there number_there wrong array_at items object_at fields key_at number_count digit_count string_at characters character escape_piece pair_piece plain_piece byte_count blanks ascii all is_blank is_unescaped short_escape hex_digit hex4 utf8 same decimal literal_at apart bad_number bad_character plain_bad escape_bad is_second number_for
hold64 = refl

abbrev cases72 : List Case
cases72 =
    case 13 75 "{\"t\":{\"mismatch_action\":\"trap\",\"match_action\":\"allow\",\"filter\":[{\"syscall\":\"read\\u0000\",\"args\":[]}]}}"
    ∷ case 3 5 "{\"t\":{\"mismatch_action\":\"allow\",\"match_action\":\"allow\",\"filter\":[]}}"
    ∷ case 3 5 "{\"t\":{\"mismatch_action\":{\"errno\":1},\"match_action\":{\"errno\":65537},\"filter\":[]}}"
    ∷ case 4 89 "{\"t\":{\"mismatch_action\":\"trap\",\"match_action\":\"allow\",\"filter\":[{\"syscall\":\"read\",\"args\":[ ]}]}}"
    ∷ case 4 108 "{\"t\":{\"mismatch_action\":\"trap\",\"match_action\":\"allow\",\"filter\":[{\"syscall\":\"read\"},{\"syscall\":\"read\",\"args\":[]}]}}"
    ∷ case 5 99 "{\"t\":{\"mismatch_action\":\"trap\",\"match_action\":\"allow\",\"filter\":[{\"syscall\":\"read\",\"args\":[{\"index\":6]}]}}"
    ∷ case 5 100 "{\"t\":{\"mismatch_action\":\"allow\",\"match_action\":\"allow\",\"filter\":[{\"syscall\":\"read\",\"args\":[{\"index\":9"
    ∷ case 8 90 "{\"t\":{\"mismatch_action\":\"trap\",\"match_action\":\"allow\",\"filter\":[{\"syscall\":\"read\",\"args\":[{\"index\":0,\"type\":\"dword\",\"op\":\"eq\",\"val\":4294967296}]}]}}" ∷ []

hold72 : all_hold cases72 ≡ true
unfolding told read_filters whole filters_there filter_there line_there condition_there keyed_there one_there either_there null_or list_there word_there natural_there judged action_there operator_there object_there array_there string_there number_there wrong array_at items object_at fields key_at number_count digit_count string_at characters character escape_piece pair_piece plain_piece byte_count blanks ascii all is_blank is_unescaped short_escape hex_digit hex4 utf8 same decimal literal_at apart bad_number bad_character plain_bad escape_bad is_second number_for
hold72 = refl

abbrev cases80 : List Case
cases80 =
    case 8 90 "{\"t\":{\"mismatch_action\":\"trap\",\"match_action\":\"allow\",\"filter\":[{\"syscall\":\"read\",\"args\":[{\"index\":0,\"type\":\"dword\",\"op\":{\"masked_eq\":4294967296},\"val\":0}]}]}}"
    ∷ case 11 132 "{\"t\":{\"mismatch_action\":\"trap\",\"match_action\":\"allow\",\"filter\":[{\"syscall\":\"read\",\"args\":[{\"type\":\"dword\",\"op\":\"eq\",\"val\":4294967296}]}]}}" ∷ []

hold80 : all_hold cases80 ≡ true
unfolding told read_filters whole filters_there filter_there line_there condition_there keyed_there one_there either_there null_or list_there word_there natural_there judged action_there operator_there object_there array_there string_there number_there wrong array_at items object_at fields key_at number_count digit_count string_at characters character escape_piece pair_piece plain_piece byte_count blanks ascii all is_blank is_unescaped short_escape hex_digit hex4 utf8 same decimal literal_at apart bad_number bad_character plain_bad escape_bad is_second number_for
hold80 = refl

-- bytes that are no UTF-8, in a key: at the first with which no character begins so
abbrev in_key : List ℕ → List ℕ
in_key bs = 0x7b ∷ 0x22 ∷ (bs ++ (0x22 ∷ []))

abbrev at : ℕ → List ℕ → Bool
at n bs = let r : Told = told table (in_key bs) in eqb r.code 10 && eqb r.at n

bad_utf8 : (at 2 (0x80 ∷ []) && (at 2 (0xc1 ∷ 0x80 ∷ []) && (at 2 (0xf5 ∷ []) && (at 3 (0xc2 ∷ []) && (at 3 (0xe0 ∷ 0x9f ∷ []) && (at 4 (0xe0 ∷ 0xa0 ∷ []) && (at 3 (0xed ∷ 0xa0 ∷ 0x80 ∷ [])
    && (at 3 (0xf0 ∷ 0x8f ∷ []) && (at 3 (0xf4 ∷ 0x90 ∷ []) && (at 4 (0xf1 ∷ 0x80 ∷ 0xc0 ∷ []) && at 5 (0xf1 ∷ 0x80 ∷ 0x80 ∷ []))))))))))) ≡ true
unfolding told read_filters whole filters_there filter_there line_there condition_there keyed_there one_there either_there null_or list_there word_there natural_there judged action_there operator_there object_there array_there string_there number_there wrong array_at items object_at fields key_at number_count digit_count string_at characters character escape_piece pair_piece plain_piece byte_count blanks ascii all is_blank is_unescaped short_escape hex_digit hex4 utf8 same decimal literal_at apart bad_number bad_character plain_bad escape_bad is_second number_for
bad_utf8 = refl
