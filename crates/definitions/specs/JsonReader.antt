-- A reader of JSON texts, left to right, that stops at the first fault. It needs no belief: what it reads is what RFC 8259 (Text) says.
-- A reader of a part is handed the text from where the part begins, and gives what the part stands for with the text behind it, or the
-- number of a fault with the text from where it shows.
use Rattle.std.specs.Prelude.{ℕ, zero, suc, ◌+◌, Bool, true, false, cond, not, ◌&&◌, ◌||◌, List, [], ◌∷◌, ◌++◌, eqb, leb, length, take, drop, get_or}
use Rattle.std.proofs.Math.Option.{Option, none, some}
use Rattle.definitions.specs.Format.{then, check}
use Rattle.definitions.specs.Json.{ascii, within, quote, backslash, is_blank, is_unescaped, short_escape, hex_digit, hex4, is_high, is_low, utf8, pair_of, is_digit, Json, null, boolean, number, string, array, object, Values, no_values, value, Members, no_members, member}
use Rattle.definitions.specs.JsonForm.{same, Only}

pub data Got (A : Type 0) : Type 0 where
  got : A → List ℕ → Got A
  stop : ℕ → List ℕ → Got A

-- no JSON text goes on so
abbrev pub not_json : ℕ
not_json = 10

abbrev pub follow : {A B : Type 0} → Got A → (A → List ℕ → Got B) → Got B
follow (got a rest) f = f a rest
follow (stop k l) f = stop k l

abbrev pub first : List ℕ → ℕ
first l = get_or l 0 0

unfoldable pub blanks : List ℕ → List ℕ
blanks [] = []
blanks (b ∷ bs) = let more : List ℕ = blanks bs in cond (is_blank b) more (b ∷ bs)

-- a byte that must stand here
abbrev pub ended : {A : Type 0} → ℕ → A → List ℕ → Got A
ended b a l = cond (eqb (first l) b) (got a (drop 1 l)) (stop not_json l)

-- ---- strings

-- a character as it is written: its UTF-8, and how many bytes it takes
pub record Piece : Type 0 where
  pub meant : List ℕ
  pub used : ℕ

abbrev pub piece : List ℕ → ℕ → Piece
piece s n = record { meant = s; used = n }

-- how many bytes a character has that begins with this one
unfoldable pub byte_count : ℕ → ℕ
byte_count b = cond (leb b 0x7f) 1 (cond (leb b 0xdf) 2 (cond (leb b 0xef) 3 4))

unfoldable pub plain_piece : List ℕ → Option Piece
plain_piece l = check (is_unescaped (take (byte_count (first l)) l)) (some (piece (take (byte_count (first l)) l) (byte_count (first l))))

abbrev pub hex_at : List ℕ → ℕ → Option ℕ
hex_at l i = hex4 (get_or l i 0) (get_or l (1 + i) 0) (get_or l (2 + i) 0) (get_or l (3 + i) 0)

unfoldable pub pair_piece : ℕ → List ℕ → Option Piece
pair_piece h l =
    check (eqb (get_or l 6 0) backslash && eqb (get_or l 7 0) 0x75)
    (then (hex_at l 8) (λ u. check (is_low u) (some (piece (utf8 (pair_of h u)) 12))))

abbrev pub unit_or : ℕ → List ℕ → Option Piece
unit_or u l = cond (is_high u) (pair_piece u l) (check (not (is_low u)) (some (piece (utf8 u) 6)))

unfoldable pub escape_piece : List ℕ → Option Piece
escape_piece l =
    cond (eqb (get_or l 1 0) 0x75) (then (hex_at l 2) (λ u. unit_or u l)) (then (short_escape (get_or l 1 0)) (λ b. some (piece (b ∷ []) 2)))

unfoldable pub character : List ℕ → Option Piece
character l = cond (eqb (first l) backslash) (escape_piece l) (plain_piece l)

abbrev pub on_piece : Option Piece → List ℕ → (Piece → Got (List ℕ)) → Got (List ℕ)
on_piece none l f = stop not_json l
on_piece (some p) l f = f p

-- the characters up to the quotation mark that ends them, at most n with it
unfoldable pub characters : ℕ → List ℕ → Got (List ℕ)
characters zero l = stop not_json l
characters (suc n) l =
    let more : Got (List ℕ) = on_piece (character l) l (λ p. follow (characters n (drop p.used l)) (λ s rest. got (p.meant ++ s) rest)) in
    cond (eqb (first l) quote) (got [] (drop 1 l)) more

-- behind the quotation mark that begins it
unfoldable pub string_at : List ℕ → Got (List ℕ)
string_at l = characters (length l) l

-- ---- where a character that is none goes wrong: the first of its bytes with which none begins so any more

abbrev pub hex_value : Option ℕ → ℕ
hex_value none = 16
hex_value (some d) = d

-- whether a byte can follow the first one of a character of several
unfoldable pub is_second : ℕ → ℕ → Bool
is_second a b =
    cond (eqb a 0xe0) (within 0xa0 0xbf b) (cond (eqb a 0xed) (within 0x80 0x9f b) (cond (eqb a 0xf0) (within 0x90 0xbf b)
    (cond (eqb a 0xf4) (within 0x80 0x8f b) (within 0x80 0xbf b))))

unfoldable pub plain_bad : List ℕ → ℕ
plain_bad l =
    cond (not (within 0xc2 0xf4 (first l))) 0 (cond (not (is_second (first l) (get_or l 1 0))) 1 (cond (not (within 0x80 0xbf (get_or l 2 0))) 2 3))

-- the digits of a code unit: the first half of a pair begins with d8 to db, the second with dc to df
unfoldable pub escape_bad : List ℕ → ℕ
escape_bad l =
    let h : ℕ → ℕ = λ i. hex_value (hex_digit (get_or l i 0)) in
    cond (not (eqb (get_or l 1 0) 0x75)) 1
    (cond (leb 16 (h 2)) 2 (cond (leb 16 (h 3) || (eqb (h 2) 13 && leb 12 (h 3))) 3 (cond (leb 16 (h 4)) 4 (cond (leb 16 (h 5)) 5
    (cond (not (eqb (get_or l 6 0) backslash)) 6 (cond (not (eqb (get_or l 7 0) 0x75)) 7 (cond (not (eqb (h 8) 13)) 8
    (cond (not (within 12 15 (h 9))) 9 (cond (leb 16 (h 10)) 10 11)))))))))

unfoldable pub bad_character : List ℕ → List ℕ
bad_character l = drop (cond (eqb (first l) backslash) (escape_bad l) (plain_bad l)) l

abbrev pub placed : {A : Type 0} → (List ℕ → List ℕ) → Got A → Got A
placed f (got a rest) = got a rest
placed f (stop k l) = stop k (f l)

-- ---- numbers

unfoldable pub digit_count : List ℕ → ℕ
digit_count [] = 0
digit_count (b ∷ bs) = let more : ℕ = suc (digit_count bs) in cond (is_digit b) more 0

-- how many bytes a sign, an integer, a fraction, an exponent take; none where they are begun and not of the form
abbrev pub sign_count : List ℕ → ℕ
sign_count l = cond (eqb (first l) 0x2d) 1 0

abbrev pub whole_count : List ℕ → Option ℕ
whole_count l = cond (eqb (first l) 0x30) (some 1) (check (leb 1 (digit_count l)) (some (digit_count l)))

abbrev pub fraction_count : List ℕ → Option ℕ
fraction_count l = cond (eqb (first l) 0x2e) (check (leb 1 (digit_count (drop 1 l))) (some (suc (digit_count (drop 1 l))))) (some 0)

abbrev pub exponent_sign : List ℕ → ℕ
exponent_sign l = cond (eqb (first l) 0x2b || eqb (first l) 0x2d) 1 0

abbrev pub exponent_count : List ℕ → Option ℕ
exponent_count l =
    cond (eqb (first l) 0x65 || eqb (first l) 0x45)
    (let s : ℕ = suc (exponent_sign (drop 1 l)) in check (leb 1 (digit_count (drop s l))) (some (s + digit_count (drop s l))))
    (some 0)

unfoldable pub number_count : List ℕ → Option ℕ
number_count l =
    then (whole_count (drop (sign_count l) l)) (λ w. let a : ℕ = sign_count l + w in
    then (fraction_count (drop a l)) (λ f. let b : ℕ = a + f in
    then (exponent_count (drop b l)) (λ e. some (b + e))))

-- where a number goes wrong: behind a sign, a point, an exponent's letter or its sign, where a digit must stand
abbrev pub bad_exponent : ℕ → List ℕ → List ℕ
bad_exponent n l = drop (n + suc (exponent_sign (drop (suc n) l))) l

abbrev pub bad_fraction : ℕ → Option ℕ → List ℕ → List ℕ
bad_fraction n none l = drop (suc n) l
bad_fraction n (some f) l = bad_exponent (n + f) l

abbrev pub bad_whole : Option ℕ → List ℕ → List ℕ
bad_whole none l = drop (sign_count l) l
bad_whole (some w) l = bad_fraction (sign_count l + w) (fraction_count (drop (sign_count l + w) l)) l

unfoldable pub bad_number : List ℕ → List ℕ
bad_number l = bad_whole (whole_count (drop (sign_count l) l)) l

abbrev pub on_count : Option ℕ → List ℕ → Got Json
on_count none l = stop not_json (bad_number l)
on_count (some n) l = got (number (take n l)) (drop n l)

-- ---- objects and arrays: `step` reads a value, in a member's case behind its key, and adds it to what there is

-- what was read, unless it is refused by a number that is not 0; then the fault is at l
abbrev pub unless : {A : Type 0} → ℕ → List ℕ → A → List ℕ → Got A
unless code l a rest = cond (eqb code 0) (got a rest) (stop code l)

-- a key, and what stands between it and its value; `judge` refuses a key as soon as its string is read, at its quotation mark
unfoldable pub key_at : (List ℕ → ℕ) → List ℕ → Got (List ℕ)
key_at judge l =
    cond (eqb (first l) quote)
    (follow (placed bad_character (string_at (drop 1 l))) (λ k rest. follow (unless (judge k) l k rest) (λ known past.
    follow (ended 0x3a known (blanks past)) (λ key more. got key (blanks more)))))
    (stop not_json l)

unfoldable pub fields : {P : Type 0} → (P → List ℕ → ℕ) → (P → List ℕ → List ℕ → Got P) → ℕ → P → List ℕ → Got P
fields judge step zero p l = stop not_json l
fields judge step (suc n) p l =
    follow (key_at (judge p) (blanks l)) (λ k behind. follow (step p k behind) (λ q rest.
    let more : Got _ = fields judge step n q (drop 1 (blanks rest)) in
    cond (eqb (first (blanks rest)) 0x2c) more (ended 0x7d q (blanks rest))))

-- behind the brace that begins it
unfoldable pub object_at : {P : Type 0} → (P → List ℕ → ℕ) → (P → List ℕ → List ℕ → Got P) → P → List ℕ → Got P
object_at judge step p l = cond (eqb (first (blanks l)) 0x7d) (got p (drop 1 (blanks l))) (fields judge step (length l) p l)

-- every key is taken
abbrev pub any_key : {P : Type 0} → P → List ℕ → ℕ
any_key p k = 0

unfoldable pub items : {P : Type 0} → (P → List ℕ → Got P) → ℕ → P → List ℕ → Got P
items step zero p l = stop not_json l
items step (suc n) p l =
    follow (step p (blanks l)) (λ q rest.
    let more : Got _ = items step n q (drop 1 (blanks rest)) in
    cond (eqb (first (blanks rest)) 0x2c) more (ended 0x5d q (blanks rest)))

unfoldable pub array_at : {P : Type 0} → (P → List ℕ → Got P) → P → List ℕ → Got P
array_at step p l = cond (eqb (first (blanks l)) 0x5d) (got p (drop 1 (blanks l))) (items step (length l) p l)

-- ---- any value

-- behind as many bytes as are the word's
unfoldable pub apart : List ℕ → List ℕ → List ℕ
apart [] l = l
apart (a ∷ word) [] = []
apart (a ∷ word) (b ∷ l) = let more : List ℕ = apart word l in cond (eqb a b) more (b ∷ l)

unfoldable pub literal_at : List ℕ → Json → List ℕ → Got Json
literal_at word v l = cond (same (take (length word) l) word) (got v (drop (length word) l)) (stop not_json (apart word l))

abbrev pub values_of : List Json → Values
values_of [] = no_values
values_of (v ∷ vs) = value v (values_of vs)

abbrev pub members_of : List Only → Members
members_of [] = no_members
members_of (m ∷ ms) = member m.key m.value (members_of ms)

-- a value that nests less than n deep
unfoldable pub value_at : ℕ → List ℕ → Got Json
value_at zero l = stop not_json l
value_at (suc n) l =
    let b : ℕ = first l in
    let in_object : Got Json =
    follow (object_at any_key (λ ms k m. follow (value_at n m) (λ v rest. got (ms ++ (record { key = k; value = v } ∷ [])) rest)) [] (drop 1 l))
    (λ ms rest. got (object (members_of ms)) rest) in
    let in_array : Got Json =
    follow (array_at (λ vs m. follow (value_at n m) (λ v rest. got (vs ++ (v ∷ [])) rest)) [] (drop 1 l)) (λ vs rest. got (array (values_of vs)) rest) in
    cond (eqb b quote) (follow (placed bad_character (string_at (drop 1 l))) (λ s rest. got (string s) rest))
    (cond (eqb b 0x7b) in_object
    (cond (eqb b 0x5b) in_array
    (cond (eqb b 0x6e) (literal_at (ascii "null") null l)
    (cond (eqb b 0x74) (literal_at (ascii "true") (boolean true) l)
    (cond (eqb b 0x66) (literal_at (ascii "false") (boolean false) l)
    (on_count (number_count l) l))))))

abbrev pub nothing_left : Json → List ℕ → Got Json
nothing_left v [] = got v []
nothing_left v (b ∷ bs) = stop not_json (b ∷ bs)

unfoldable pub text_at : List ℕ → Got Json
text_at t = follow (value_at (suc (length t)) (blanks t)) (λ v rest. nothing_left v (blanks rest))
