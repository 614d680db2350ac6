-- Texts that RFC 8259 has, and texts that it has not, by computation.
use Prim.Native.Nat.{ℕ}
use Prim.Native.Char.{code}
use Prim.Native.String.{String, [] as end, ◌∷◌ as ◌then◌}
use mathlib.Core.Path.{◌≡◌, refl}
use mathlib.Core.Bool.{Bool, true, false, not, ◌&&◌}
use mathlib.Core.List.{List, [], ◌∷◌, ◌++◌}
use Rattle.definitions.specs.Json.{ascii, all, is_blank, is_unescaped, short_escape, hex_digit, hex4, utf8, Json}
use Rattle.definitions.specs.JsonForm.{same}
use Rattle.definitions.specs.JsonReader.{Got, got, stop, blanks, byte_count, plain_piece, pair_piece, escape_piece, character, characters, string_at, digit_count, number_count, key_at, fields, object_at, items, array_at, apart, bad_number, bad_character, plain_bad, escape_bad, is_second, literal_at, value_at, text_at}

abbrev bytes : String → List ℕ
bytes end = []
bytes (c then s) = utf8 (code c) ++ bytes s

abbrev is_text : Got Json → Bool
is_text (got v rest) = true
is_text (stop k l) = false

abbrev all_texts : List (List ℕ) → Bool
all_texts [] = true
all_texts (t ∷ ts) = is_text (text_at t) && all_texts ts

abbrev no_texts : List (List ℕ) → Bool
no_texts [] = true
no_texts (t ∷ ts) = not (is_text (text_at t)) && no_texts ts

abbrev texts : List (List ℕ)
texts =
    (bytes "null") ∷
    (bytes "true") ∷
    (bytes "false") ∷
    (bytes " \t\r\n[ ] \n") ∷
    (bytes "{}") ∷
    (bytes "[]") ∷
    (bytes "\"\"") ∷
    (bytes "0") ∷
    (bytes "-0") ∷
    (bytes "-1") ∷
    (bytes "10") ∷
    (bytes "1.0") ∷
    (bytes "1.05") ∷
    (bytes "0.1") ∷
    (bytes "1e0") ∷
    (bytes "1E0") ∷
    (bytes "1e+0") ∷
    (bytes "1e-0") ∷
    (bytes "1.5E+10") ∷
    (bytes "-0.0e-5") ∷
    (bytes "123456789012345678901234567890") ∷
    (bytes "1e400") ∷
    (bytes "[1,2]") ∷
    (bytes "[ 1 , 2 ]") ∷
    (bytes "[[[[]]]]") ∷
    (bytes "[{},[],null,true,false,\"\",0]") ∷
    (bytes "{\"a\":1}") ∷
    (bytes "{ \"a\" : 1 , \"b\" : [ ] }") ∷
    (bytes "{\"a\":1,\"a\":2}") ∷
    (bytes "{\"\":0}") ∷
    (bytes "\"\\\"\"") ∷
    (bytes "\"\\\\\"") ∷
    (bytes "\"\\/\"") ∷
    (bytes "\"\\b\\f\\n\\r\\t\"") ∷
    (bytes "\"\\u0000\"") ∷
    (bytes "\"\\u0041\"") ∷
    (bytes "\"\\uD83D\\uDE00\"") ∷
    (bytes "\"\\ud83d\\ude00\"") ∷
    (bytes "\"\\uFFFF\"") ∷
    (bytes "\"\\u00e9\"") ∷
    (bytes "\"é\"") ∷
    (bytes "\"€\"") ∷
    (bytes "\"😀\"") ∷
    (bytes "\"\\\"\\\\\\/\"") ∷
    (bytes "\"\u{7f}\"") ∷
    (bytes "\"[]{},:\"") ∷
    (bytes "{\"a\":{\"b\":{\"c\":[]}}}") ∷
    (bytes "\"\\uDBFF\\uDFFF\"") ∷
    (bytes "\"\\uE000\"") ∷
    (bytes "\"\u{2028}\u{2029}\"") ∷
    (0x22 ∷ 0xc2 ∷ 0x80 ∷ 0x22 ∷ []) ∷
    (0x22 ∷ 0xdf ∷ 0xbf ∷ 0x22 ∷ []) ∷
    (0x22 ∷ 0xe0 ∷ 0xa0 ∷ 0x80 ∷ 0x22 ∷ []) ∷
    (0x22 ∷ 0xed ∷ 0x9f ∷ 0xbf ∷ 0x22 ∷ []) ∷
    (0x22 ∷ 0xee ∷ 0x80 ∷ 0x80 ∷ 0x22 ∷ []) ∷
    (0x22 ∷ 0xef ∷ 0xbf ∷ 0xbf ∷ 0x22 ∷ []) ∷
    (0x22 ∷ 0xf0 ∷ 0x90 ∷ 0x80 ∷ 0x80 ∷ 0x22 ∷ []) ∷
    (0x22 ∷ 0xf4 ∷ 0x8f ∷ 0xbf ∷ 0xbf ∷ 0x22 ∷ []) ∷
    []

abbrev none : List (List ℕ)
none =
    (bytes "") ∷
    (bytes "  ") ∷
    (bytes "nul") ∷
    (bytes "nulll") ∷
    (bytes "True") ∷
    (bytes "tru") ∷
    (bytes "[") ∷
    (bytes "{") ∷
    (bytes "[1") ∷
    (bytes "[1,") ∷
    (bytes "[1,]") ∷
    (bytes "[,1]") ∷
    (bytes "[1 2]") ∷
    (bytes "[1,,2]") ∷
    (bytes "{\"a\"}") ∷
    (bytes "{\"a\":}") ∷
    (bytes "{\"a\":1,}") ∷
    (bytes "{,}") ∷
    (bytes "{a:1}") ∷
    (bytes "{'a':1}") ∷
    (bytes "{\"a\" 1}") ∷
    (bytes "{\"a\":1 \"b\":2}") ∷
    (bytes "{1:1}") ∷
    (bytes "[1}") ∷
    (bytes "{\"a\":1]") ∷
    (bytes "[]]") ∷
    (bytes "[] x") ∷
    (bytes "[] []") ∷
    (bytes "1 2") ∷
    (bytes "01") ∷
    (bytes "-") ∷
    (bytes "-01") ∷
    (bytes "+1") ∷
    (bytes ".5") ∷
    (bytes "1.") ∷
    (bytes "1.e1") ∷
    (bytes "1e") ∷
    (bytes "1e+") ∷
    (bytes "1E-") ∷
    (bytes "0x1") ∷
    (bytes "1_000") ∷
    (bytes "NaN") ∷
    (bytes "Infinity") ∷
    (bytes "-Infinity") ∷
    (bytes "\"") ∷
    (bytes "\"a") ∷
    (bytes "\"\\\"") ∷
    (bytes "\"\\x\"") ∷
    (bytes "\"\\u\"") ∷
    (bytes "\"\\u12\"") ∷
    (bytes "\"\\u123\"") ∷
    (bytes "\"\\u12G4\"") ∷
    (bytes "\"\\U0041\"") ∷
    (bytes "\"\\ud800\"") ∷
    (bytes "\"\\udc00\"") ∷
    (bytes "\"\\ud800a\"") ∷
    (bytes "\"\\ud800\\n\"") ∷
    (bytes "\"\\ud800\\ud800\"") ∷
    (bytes "\"\\udc00\\ud800\"") ∷
    (bytes "\"\\ud800\\u0041\"") ∷
    (bytes "\"\n\"") ∷
    (bytes "\"\t\"") ∷
    (bytes "\"\0\"") ∷
    (bytes "\"\u{1f}\"") ∷
    (bytes "'a'") ∷
    (bytes "\"a\" \"b\"") ∷
    (bytes "// c\n1") ∷
    (bytes "/**/1") ∷
    (bytes "[1]//") ∷
    (bytes "\u{feff}1") ∷
    (bytes "[\u{feff}]") ∷
    (bytes "\u{a0}[]") ∷
    (bytes "\u{c}[]") ∷
    (bytes "\u{b}1") ∷
    (bytes "[1,\n]") ∷
    (bytes "{\"a\":1,\"b\"}") ∷
    (bytes "{\"a\"::1}") ∷
    (bytes "{{}}") ∷
    (bytes "[[]") ∷
    (bytes "true,") ∷
    (bytes "\"\\a\"") ∷
    (bytes "\"\\ \"") ∷
    (bytes "\"a\nb\"") ∷
    (bytes "1,") ∷
    (bytes "--1") ∷
    (bytes "1e1.5") ∷
    (bytes "1.2.3") ∷
    (bytes "00") ∷
    (bytes "-00") ∷
    (bytes "0e") ∷
    (bytes "0.") ∷
    (bytes "[-]") ∷
    (bytes "[1e]") ∷
    (bytes "[0 1]") ∷
    (bytes "{\"a\":\"b\"") ∷
    (bytes "{\"a\":\"b\",") ∷
    (bytes "tRue") ∷
    (bytes "nUll") ∷
    (bytes "[true,fals]") ∷
    (0x22 ∷ 0x80 ∷ 0x22 ∷ []) ∷
    (0x22 ∷ 0xc0 ∷ 0x80 ∷ 0x22 ∷ []) ∷
    (0x22 ∷ 0xc1 ∷ 0xbf ∷ 0x22 ∷ []) ∷
    (0x22 ∷ 0xe0 ∷ 0x9f ∷ 0xbf ∷ 0x22 ∷ []) ∷
    (0x22 ∷ 0xed ∷ 0xa0 ∷ 0x80 ∷ 0x22 ∷ []) ∷
    (0x22 ∷ 0xed ∷ 0xbf ∷ 0xbf ∷ 0x22 ∷ []) ∷
    (0x22 ∷ 0xf0 ∷ 0x8f ∷ 0xbf ∷ 0xbf ∷ 0x22 ∷ []) ∷
    (0x22 ∷ 0xf4 ∷ 0x90 ∷ 0x80 ∷ 0x80 ∷ 0x22 ∷ []) ∷
    (0x22 ∷ 0xf5 ∷ 0x80 ∷ 0x80 ∷ 0x80 ∷ 0x22 ∷ []) ∷
    (0x22 ∷ 0xff ∷ 0x22 ∷ []) ∷
    (0x22 ∷ 0xfe ∷ 0x22 ∷ []) ∷
    (0x22 ∷ 0xc3 ∷ 0x22 ∷ []) ∷
    (0x22 ∷ 0xe4 ∷ 0xb8 ∷ 0x22 ∷ []) ∷
    (0x22 ∷ 0xf0 ∷ 0x9f ∷ 0x98 ∷ 0x22 ∷ []) ∷
    (0x22 ∷ 0xc3 ∷ []) ∷
    (0x22 ∷ 0xe4 ∷ 0xb8 ∷ []) ∷
    (0xef ∷ 0xbb ∷ 0xbf ∷ 0x31 ∷ []) ∷
    (0xff ∷ 0xfe ∷ 0x31 ∷ 0x0 ∷ []) ∷
    (0x22 ∷ 0x1b ∷ 0x22 ∷ []) ∷
    (0x22 ∷ 0xc3 ∷ 0x28 ∷ 0x22 ∷ []) ∷
    []

read : all_texts texts ≡ true
unfolding text_at value_at literal_at apart bad_number bad_character plain_bad escape_bad is_second array_at items object_at fields key_at number_count digit_count string_at characters character escape_piece pair_piece plain_piece byte_count blanks ascii all is_blank is_unescaped short_escape hex_digit hex4 utf8 same
read = refl

refused : no_texts none ≡ true
unfolding text_at value_at literal_at apart bad_number bad_character plain_bad escape_bad is_second array_at items object_at fields key_at number_count digit_count string_at characters character escape_piece pair_piece plain_piece byte_count blanks ascii all is_blank is_unescaped short_escape hex_digit hex4 utf8 same
refused = refl
