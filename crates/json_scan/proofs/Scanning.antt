-- What the scanners of the code need: the reader by places of the text, one return of the code after the other. Assumes nothing.
use mathlib.Core.Path.{◌≡◌, refl, ap, sym, ◌∙◌}
use mathlib.Core.Bool.{Bool, true, false, cond, not, ◌&&◌, ◌||◌}
use mathlib.Core.List.{List, [], ◌∷◌, ◌++◌, append_assoc}
use mathlib.Core.Option.{Option, none, some}
use Prim.Native.Nat.{ℕ, zero, suc, ◌+◌, ◌*◌, ◌≤◌, ◌<◌, min}
use native.Mathlib.Nat.{add-zero}
use native.Mathlib.Numerals.{add-one}
use native.Mathlib.Omega.{arith}
use lib.Dec.{eqb, leb}
use lib.ListN.{length, take, drop, get_or, length-take, length-drop, take-append-drop, get_or-eq_default, drop_of_length-le}
use lib.Seq.{drop-cons, get_or-drop, take_all, drop-drop}
use borrow.Author.Tests.{leb-true, leb-false, le-leb, lt-leb, eq-eqb, ne_eqb}
use Rattle.std.specs.Prelude.{Some, None, Ok, Err}
use Rattle.std.specs.Bool.{then_some}
use Rattle.definitions.specs.Format.{then, check}
use Rattle.definitions.specs.Json.{quote, backslash, is_blank, is_tail, is_unescaped, short_escape, hex_digit, hex4, is_high, is_low, utf8, pair_of}
use Rattle.definitions.specs.JsonReader.{Got, got, stop, not_json, follow, first, blanks, Piece, piece, byte_count, plain_piece, hex_at, pair_piece, unit_or, escape_piece, character, characters, string_at}
use Rattle.json_scan.specs.Scan.{option_of, unit_at, used_of, is_short, At, Stands}
use Rattle.json_theorems.proofs.Strings.{unescaped_lead, next, character_sound, character_reads, character_long, no_character}

-- ---- blanks

pub blank_turn : (text : List ℕ) (at : ℕ) → at < length text → is_blank (get_or text at 0) ≡ true → blanks (drop at text) ≡ blanks (drop (at + 1) text)
unfolding blanks
blank_turn text at h e = rw (drop-cons text at 0, e, add-one)

pub blank_none : (text : List ℕ) (at : ℕ) → at < length text → is_blank (get_or text at 0) ≡ false → blanks (drop at text) ≡ drop at text
unfolding blanks
blank_none text at h e = rw (drop-cons text at 0, e)

pub blank_end : (text : List ℕ) (at : ℕ) → length text ≤ at → blanks (drop at text) ≡ drop at text
unfolding blanks
blank_end text at h = rw (drop_of_length-le text h)

-- ---- what may be none

pub option_none : {A : Type 0} {o : Option A} → None ≡ option_of o → o ≡ none
option_none {o = none} e = refl
option_none {o = some a} e = cc

pub option_some : {A : Type 0} {o : Option A} {a : A} → Some a ≡ option_of o → o ≡ some a
option_some {o = none} e = cc
option_some {o = some b} e = cc

pub piece_none : {o : Option Piece} → None ≡ used_of o → o ≡ none
piece_none {o = none} e = refl
piece_none {o = some p} e = cc

-- a digit by the byte that was read
pub digit_here : {b x d : ℕ} → x ≡ b → Some d ≡ option_of (hex_digit b) → hex_digit x ≡ some d
digit_here e h = rw e (option_some h)

pub no_digit_here : {b x : ℕ} → x ≡ b → None ≡ option_of (hex_digit b) → hex_digit x ≡ none
no_digit_here e h = rw e (option_none h)

-- ---- code units

pub hex_at_lem : (text : List ℕ) (at i : ℕ) → hex_at (drop at text) i ≡ unit_at text (at + i)
unfolding unit_at
hex_at_lem text at i =
    let e1 : at + (1 + i) ≡ at + i + 1 = omega arith in
    let e2 : at + (2 + i) ≡ at + i + 2 = omega arith in
    let e3 : at + (3 + i) ≡ at + i + 3 = omega arith in
    simp (get_or-drop, e1, e2, e3)

-- ---- characters in their UTF-8

plain_used : (l : List ℕ) → used_of (plain_piece l) ≡ then_some (is_unescaped (take (byte_count (first l)) l)) (byte_count (first l))
unfolding plain_piece
plain_used l = go (is_unescaped (take (byte_count (first l)) l))
  where
    go : (t : Bool) → used_of (check t (some (piece (take (byte_count (first l)) l) (byte_count (first l))))) ≡ then_some t (byte_count (first l))
    go true = refl
    go false = refl

pub first_at : (text : List ℕ) (at : ℕ) → first (drop at text) ≡ get_or text at 0
first_at text at = get_or-drop at text 0 0 ∙ rw add-zero

-- n bytes are there
pub plain_there_lem : (text : List ℕ) (at n : ℕ) (c : List ℕ) (t : Bool) → byte_count (get_or text at 0) ≡ n → take n (drop at text) ≡ c → t ≡ is_unescaped c
    → then_some t n ≡ used_of (plain_piece (drop at text))
plain_there_lem text at n c t en ec et = sym (plain_used (drop at text) ∙ rw (first_at text at, en, ec, ← et))

-- n bytes are not there
pub plain_short : (text : List ℕ) (at n : ℕ) → byte_count (get_or text at 0) ≡ n → length text < at + n → at < length text → None ≡ used_of (plain_piece (drop at text))
plain_short text at n en short there = sym (plain_used (drop at text) ∙ go (is_unescaped (take (byte_count (first (drop at text))) (drop at text))) refl)
  where
    l : List ℕ
    l = drop at text

    go : (t : Bool) → is_unescaped (take (byte_count (first (drop at text))) (drop at text)) ≡ t → then_some t (byte_count (first (drop at text))) ≡ None
    go false e = refl
    go true e =
        let b : byte_count (first (drop at text)) ≡ n = rw (first_at text at) en in
        let w : take (byte_count (first (drop at text))) (drop at text) ≡ drop at text = take_all (byte_count (first (drop at text))) (drop at text) (omega (arith, b, length-drop at text)) in
        let d = unescaped_lead (drop at text) (rw w at e) in
        absurd (omega (arith, d.long, b, length-drop at text))

-- ---- escapes

any_of : (a b c d e f g h : Bool) (va vb vc vd ve vf vg vh : ℕ) (k : ℕ → Option Piece) → ((x : ℕ) → used_of (k x) ≡ Some 2)
    → used_of (then (cond a (some va) (cond b (some vb) (cond c (some vc) (cond d (some vd) (cond e (some ve) (cond f (some vf) (cond g (some vg) (cond h (some vh) none)))))))) k)
    ≡ then_some (((a || b) || (c || d)) || ((e || f) || (g || h))) 2
any_of true b c d e f g h va vb vc vd ve vf vg vh k two = two va
any_of false true c d e f g h va vb vc vd ve vf vg vh k two = two vb
any_of false false true d e f g h va vb vc vd ve vf vg vh k two = two vc
any_of false false false true e f g h va vb vc vd ve vf vg vh k two = two vd
any_of false false false false true f g h va vb vc vd ve vf vg vh k two = two ve
any_of false false false false false true g h va vb vc vd ve vf vg vh k two = two vf
any_of false false false false false false true h va vb vc vd ve vf vg vh k two = two vg
any_of false false false false false false false true va vb vc vd ve vf vg vh k two = two vh
any_of false false false false false false false false va vb vc vd ve vf vg vh k two = refl

short_used : (e : ℕ) → used_of (then (short_escape e) (λ b. some (piece (b ∷ []) 2))) ≡ then_some (is_short e) 2
unfolding short_escape is_short
short_used e =
    any_of (eqb e 0x22) (eqb e 0x5c) (eqb e 0x2f) (eqb e 0x62) (eqb e 0x66) (eqb e 0x6e) (eqb e 0x72) (eqb e 0x74) 0x22 0x5c 0x2f 0x08 0x0c 0x0a 0x0d 0x09
    (λ b. some (piece (b ∷ []) 2)) (λ x. refl)

pub escape_letter : (text : List ℕ) (at : ℕ) → (get_or text (at + 1) 0 ≡ 0x75 → ⊥) → used_of (escape_piece (drop at text)) ≡ then_some (is_short (get_or text (at + 1) 0)) 2
unfolding escape_piece
escape_letter text at h = rw (get_or-drop at text 1 0, ne_eqb (get_or text (at + 1) 0) 0x75 h) (short_used (get_or text (at + 1) 0))

pub escape_unit : (text : List ℕ) (at : ℕ) → get_or text (at + 1) 0 ≡ 0x75
    → used_of (escape_piece (drop at text)) ≡ used_of (then (unit_at text (at + 2)) (λ u. unit_or u (drop at text)))
unfolding escape_piece
escape_unit text at h = rw (get_or-drop at text 1 0, h, hex_at_lem text at 2)

pub unit_single : (u : ℕ) (l : List ℕ) → is_high u ≡ false → used_of (unit_or u l) ≡ then_some (not (is_low u)) 6
unit_single u l h = rw h (go (not (is_low u)))
  where
    go : (t : Bool) → used_of (check t (some (piece (utf8 u) 6))) ≡ then_some t 6
    go true = refl
    go false = refl

-- the second half of a pair
pub pair_used : (u : ℕ) (text : List ℕ) (at : ℕ) → is_high u ≡ true
    → used_of (unit_or u (drop at text))
    ≡ used_of (check (eqb (get_or text (at + 6) 0) backslash && eqb (get_or text (at + 7) 0) 0x75) (then (unit_at text (at + 8)) (λ v. check (is_low v) (some (piece (utf8 (pair_of u v)) 12)))))
unfolding pair_piece
pair_used u text at h = rw (h, get_or-drop at text 6 0, get_or-drop at text 7 0, hex_at_lem text at 8)

pub pair_last : (u v : ℕ) → used_of (check (is_low v) (some (piece (utf8 (pair_of u v)) 12))) ≡ then_some (is_low v) 12
pair_last u v = go (is_low v)
  where
    go : (t : Bool) → used_of (check t (some (piece (utf8 (pair_of u v)) 12))) ≡ then_some t 12
    go true = refl
    go false = refl

-- ---- unit_at, return by return

module _ (text : List ℕ) (at : ℕ) where
  pub unit_first : hex_digit (get_or text at 0) ≡ none → None ≡ option_of (unit_at text at)
  unfolding unit_at hex4
  unit_first e = rw e

  pub unit_second : (p : ℕ) → hex_digit (get_or text at 0) ≡ some p → hex_digit (get_or text (at + 1) 0) ≡ none → None ≡ option_of (unit_at text at)
  unfolding unit_at hex4
  unit_second p ep e = rw (ep, e)

  pub unit_third : (p q : ℕ) → hex_digit (get_or text at 0) ≡ some p → hex_digit (get_or text (at + 1) 0) ≡ some q → hex_digit (get_or text (at + 2) 0) ≡ none
      → None ≡ option_of (unit_at text at)
  unfolding unit_at hex4
  unit_third p q ep eq e = rw (ep, eq, e)

  pub unit_fourth : (p q r : ℕ) → hex_digit (get_or text at 0) ≡ some p → hex_digit (get_or text (at + 1) 0) ≡ some q → hex_digit (get_or text (at + 2) 0) ≡ some r
      → hex_digit (get_or text (at + 3) 0) ≡ none → None ≡ option_of (unit_at text at)
  unfolding unit_at hex4
  unit_fourth p q r ep eq er e = rw (ep, eq, er, e)

  pub unit_whole : (p q r s : ℕ) → hex_digit (get_or text at 0) ≡ some p → hex_digit (get_or text (at + 1) 0) ≡ some q → hex_digit (get_or text (at + 2) 0) ≡ some r
      → hex_digit (get_or text (at + 3) 0) ≡ some s → Some (16 * (16 * (16 * p + q) + r) + s) ≡ option_of (unit_at text at)
  unfolding unit_at hex4
  unit_whole p q r s ep eq er es = rw (ep, eq, er, es)

-- ---- bytes at a place, one by one

pub bytes_1 : (text : List ℕ) (at : ℕ) → at + 1 ≤ length text → take 1 (drop at text) ≡ get_or text at 0 ∷ []
bytes_1 text at h = next 1 at text h

pub bytes_2 : (text : List ℕ) (at : ℕ) → at + 2 ≤ length text → take 2 (drop at text) ≡ get_or text at 0 ∷ (get_or text (at + 1) 0 ∷ [])
bytes_2 text at h = let e1 : at + 1 ≡ suc at = omega arith in rw e1 (next 2 at text h)

pub bytes_3 : (text : List ℕ) (at : ℕ) → at + 3 ≤ length text → take 3 (drop at text) ≡ get_or text at 0 ∷ (get_or text (at + 1) 0 ∷ (get_or text (at + 2) 0 ∷ []))
bytes_3 text at h =
    let e1 : at + 1 ≡ suc at = omega arith in
    let e2 : at + 2 ≡ suc (suc at) = omega arith in
    rw (e1, e2) (next 3 at text h)

pub bytes_4 : (text : List ℕ) (at : ℕ) → at + 4 ≤ length text
    → take 4 (drop at text) ≡ get_or text at 0 ∷ (get_or text (at + 1) 0 ∷ (get_or text (at + 2) 0 ∷ (get_or text (at + 3) 0 ∷ [])))
bytes_4 text at h =
    let e1 : at + 1 ≡ suc at = omega arith in
    let e2 : at + 2 ≡ suc (suc at) = omega arith in
    let e3 : at + 3 ≡ suc (suc (suc at)) = omega arith in
    rw (e1, e2, e3) (next 4 at text h)

-- ---- plain_count, return by return: behind the end stand zeros, and none of them ends a character

and_none : (t : Bool) → (t && false) ≡ false
and_none true = refl
and_none false = refl

module _ (text : List ℕ) (at : ℕ) (there : at < length text) where
  no_second : get_or text (at + 1) 0 ≡ 0 → is_unescaped (get_or text at 0 ∷ (get_or text (at + 1) 0 ∷ [])) ≡ false
  unfolding is_unescaped
  no_second z = rw z (and_none _)

  no_third : get_or text (at + 2) 0 ≡ 0 → is_unescaped (get_or text at 0 ∷ (get_or text (at + 1) 0 ∷ (get_or text (at + 2) 0 ∷ []))) ≡ false
  unfolding is_unescaped
  no_third z = rw z (and_none _)

  no_fourth : get_or text (at + 3) 0 ≡ 0 → is_unescaped (get_or text at 0 ∷ (get_or text (at + 1) 0 ∷ (get_or text (at + 2) 0 ∷ (get_or text (at + 3) 0 ∷ [])))) ≡ false
  unfolding is_unescaped
  no_fourth z = rw (z, and_none (is_tail (get_or text (at + 2) 0))) (and_none _)

  pub plain_2 : byte_count (get_or text at 0) ≡ 2 → then_some (is_unescaped (get_or text at 0 ∷ (get_or text (at + 1) 0 ∷ []))) 2 ≡ used_of (plain_piece (drop at text))
  plain_2 e = go (leb (at + 2) (length text)) refl
    where
      go : (t : Bool) → leb (at + 2) (length text) ≡ t → then_some (is_unescaped (get_or text at 0 ∷ (get_or text (at + 1) 0 ∷ []))) 2 ≡ used_of (plain_piece (drop at text))
      go true h = plain_there_lem text at 2 _ _ e (bytes_2 text at (leb-true _ _ h)) refl
      go false h = let g = leb-false _ _ h in rw (no_second (get_or-eq_default text 0 {n = at + 1} (omega arith))) (plain_short text at 2 e g there)

  pub plain_3 : byte_count (get_or text at 0) ≡ 3
      → then_some (is_unescaped (get_or text at 0 ∷ (get_or text (at + 1) 0 ∷ (get_or text (at + 2) 0 ∷ [])))) 3 ≡ used_of (plain_piece (drop at text))
  plain_3 e = go (leb (at + 3) (length text)) refl
    where
      go : (t : Bool) → leb (at + 3) (length text) ≡ t
          → then_some (is_unescaped (get_or text at 0 ∷ (get_or text (at + 1) 0 ∷ (get_or text (at + 2) 0 ∷ [])))) 3 ≡ used_of (plain_piece (drop at text))
      go true h = plain_there_lem text at 3 _ _ e (bytes_3 text at (leb-true _ _ h)) refl
      go false h = let g = leb-false _ _ h in rw (no_third (get_or-eq_default text 0 {n = at + 2} (omega arith))) (plain_short text at 3 e g there)

  pub plain_4 : byte_count (get_or text at 0) ≡ 4
      → then_some (is_unescaped (get_or text at 0 ∷ (get_or text (at + 1) 0 ∷ (get_or text (at + 2) 0 ∷ (get_or text (at + 3) 0 ∷ []))))) 4 ≡ used_of (plain_piece (drop at text))
  plain_4 e = go (leb (at + 4) (length text)) refl
    where
      go : (t : Bool) → leb (at + 4) (length text) ≡ t
          → then_some (is_unescaped (get_or text at 0 ∷ (get_or text (at + 1) 0 ∷ (get_or text (at + 2) 0 ∷ (get_or text (at + 3) 0 ∷ []))))) 4 ≡ used_of (plain_piece (drop at text))
      go true h = plain_there_lem text at 4 _ _ e (bytes_4 text at (leb-true _ _ h)) refl
      go false h = let g = leb-false _ _ h in rw (no_fourth (get_or-eq_default text 0 {n = at + 3} (omega arith))) (plain_short text at 4 e g there)

-- a byte that is none of zero stands inside
pub inside : (text : List ℕ) (at b : ℕ) → get_or text at 0 ≡ b → 1 ≤ b → at < length text
inside text at b e h = go (leb (length text) at) refl
  where
    go : (t : Bool) → leb (length text) at ≡ t → at < length text
    go true f = absurd (let z = get_or-eq_default text 0 {n = at} (leb-true _ _ f) in omega arith)
    go false f = leb-false _ _ f

-- ---- escape_count, return by return

module _ (text : List ℕ) (at : ℕ) (isU : get_or text (at + 1) 0 ≡ 0x75) where
  pub escape_none : unit_at text (at + 2) ≡ none → None ≡ used_of (escape_piece (drop at text))
  escape_none e = sym (escape_unit text at isU ∙ rw e)

  pub escape_is : (u : ℕ) → unit_at text (at + 2) ≡ some u → used_of (escape_piece (drop at text)) ≡ used_of (unit_or u (drop at text))
  escape_is u e = escape_unit text at isU ∙ rw e

  pub escape_single : (u : ℕ) → unit_at text (at + 2) ≡ some u → is_high u ≡ false → then_some (not (is_low u)) 6 ≡ used_of (escape_piece (drop at text))
  escape_single u e h = sym (escape_is u e ∙ unit_single u (drop at text) h)

  module _ (u : ℕ) (eu : unit_at text (at + 2) ≡ some u) (high : is_high u ≡ true) where
    pub pair_6 : (get_or text (at + 6) 0 ≡ backslash → ⊥) → None ≡ used_of (escape_piece (drop at text))
    pair_6 h = sym (escape_is u eu ∙ pair_used u text at high ∙ rw (ne_eqb _ _ h))

    pub pair_7 : get_or text (at + 6) 0 ≡ backslash → (get_or text (at + 7) 0 ≡ 0x75 → ⊥) → None ≡ used_of (escape_piece (drop at text))
    pair_7 g h = sym (escape_is u eu ∙ pair_used u text at high ∙ rw (eq-eqb _ _ g, ne_eqb _ _ h))

    pub pair_none : get_or text (at + 6) 0 ≡ backslash → get_or text (at + 7) 0 ≡ 0x75 → unit_at text (at + 8) ≡ none → None ≡ used_of (escape_piece (drop at text))
    pair_none g h e = sym (escape_is u eu ∙ pair_used u text at high ∙ rw (eq-eqb _ _ g, eq-eqb _ _ h, e))

    pub pair_whole : (v : ℕ) → get_or text (at + 6) 0 ≡ backslash → get_or text (at + 7) 0 ≡ 0x75 → unit_at text (at + 8) ≡ some v
        → then_some (is_low v) 12 ≡ used_of (escape_piece (drop at text))
    pair_whole v g h e = sym (escape_is u eu ∙ pair_used u text at high ∙ rw (eq-eqb _ _ g, eq-eqb _ _ h, e) (pair_last u v))

-- ---- characters

pub character_escape : (text : List ℕ) (at : ℕ) → get_or text at 0 ≡ backslash → used_of (escape_piece (drop at text)) ≡ used_of (character (drop at text))
unfolding character
character_escape text at h = rw (first_at text at, eq-eqb _ _ h)

pub character_plain : (text : List ℕ) (at : ℕ) → (get_or text at 0 ≡ backslash → ⊥) → used_of (plain_piece (drop at text)) ≡ used_of (character (drop at text))
unfolding character
character_plain text at h = rw (first_at text at, ne_eqb _ _ h)

-- a piece takes as many bytes as there are
pub used_fits : (l : List ℕ) (p : Piece) → character l ≡ some p → (1 ≤ p.used) × (p.used ≤ length l)
used_fits l p e =
    let c = character_sound l p e in
    let r = rw (take-append-drop p.used l) at (character_reads c (drop p.used l)).char in
    let s : p.used ≡ length (take p.used l) = used_same _ _ (sym e ∙ r) in
    let t = character_long c in
    (omega arith, omega (arith, length-take p.used l, min_le p.used (length l)))
  where
    used_same : (a b : Piece) → some a ≡ some b → a.used ≡ b.used
    used_same a b h = let q : a ≡ b = cc in ap (λ (x : Piece). x.used) q

    min_le : (a b : ℕ) → min a b ≤ b
    min_le a b = omega arith

-- ---- a string, character by character

pub record Passing (text : List ℕ) (from at : ℕ) : Type 0 where
  pub left : ℕ
  pub done : List ℕ
  pub inside : at ≤ length text
  pub enough : length text ≤ at + left
  pub whole : string_at (drop from text) ≡ follow (characters left (drop at text)) (λ s rest. got (done ++ s) rest)

pub follow_id : (g : Got (List ℕ)) → g ≡ follow g (λ s rest. got ([] ++ s) rest)
follow_id (got s rest) = refl
follow_id (stop k l) = refl

pub pass_start : (text : List ℕ) (from : ℕ) → from ≤ length text → Passing text from from
unfolding string_at
pass_start text from h = record {
  left = length (drop from text);
  done = [];
  inside = h;
  enough = omega (arith, length-drop from text);
  whole = follow_id (characters (length (drop from text)) (drop from text));
}

pub after_quote : (text : List ℕ) (at n : ℕ) (done : List ℕ) → at < length text → length text ≤ at + n → get_or text at 0 ≡ quote
    → follow (characters n (drop at text)) (λ s rest. got (done ++ s) rest) ≡ got (done ++ []) (drop (at + 1) text)
unfolding characters
after_quote text at zero done h m e = absurd (omega arith)
after_quote text at (suc n) done h m e = rw (first_at text at, eq-eqb _ _ e, drop-drop 1 at text)

pub after_end : (text : List ℕ) (at n : ℕ) (done : List ℕ) → length text ≤ at
    → follow (characters n (drop at text)) (λ s rest. got (done ++ s) rest) ≡ stop not_json (drop at text)
unfolding characters
after_end text at zero done h = refl
after_end text at (suc n) done h = rw (drop_of_length-le text h, no_character)

pub after_none : (text : List ℕ) (at n : ℕ) (done : List ℕ) → (get_or text at 0 ≡ quote → ⊥) → character (drop at text) ≡ none
    → follow (characters n (drop at text)) (λ s rest. got (done ++ s) rest) ≡ stop not_json (drop at text)
unfolding characters
after_none text at zero done h e = refl
after_none text at (suc n) done h e = rw (first_at text at, ne_eqb _ _ h, e)

follow_follow : (g : Got (List ℕ)) (done a : List ℕ)
    → follow (follow g (λ s rest. got (a ++ s) rest)) (λ s rest. got (done ++ s) rest) ≡ follow g (λ s rest. got ((done ++ a) ++ s) rest)
follow_follow (got s rest) done a = rw append_assoc
follow_follow (stop k l) done a = refl

pub after_some : (text : List ℕ) (at n : ℕ) (done : List ℕ) (p : Piece) → (get_or text at 0 ≡ quote → ⊥) → character (drop at text) ≡ some p
    → follow (characters (suc n) (drop at text)) (λ s rest. got (done ++ s) rest)
    ≡ follow (characters n (drop (at + p.used) text)) (λ s rest. got ((done ++ p.meant) ++ s) rest)
unfolding characters
after_some text at n done p h e = rw (first_at text at, ne_eqb _ _ h, e, drop-drop p.used at text) (follow_follow (characters n (drop (at + p.used) text)) done p.meant)

pub record Turned (text : List ℕ) (from at n : ℕ) : Type 0 where
  pub forth : 1 ≤ n
  pub passing : Passing text from (at + n)

module _ (text : List ℕ) (from at : ℕ) (p : Passing text from at) where
  pub pass_quote : at < length text → get_or text at 0 ≡ quote → string_at (drop from text) ≡ got (p.done ++ []) (drop (at + 1) text)
  pass_quote h e = p.whole ∙ after_quote text at p.left p.done h p.enough e

  pub pass_end : length text ≤ at → string_at (drop from text) ≡ stop not_json (drop at text)
  pass_end h = p.whole ∙ after_end text at p.left p.done h

  pub pass_none : (get_or text at 0 ≡ quote → ⊥) → None ≡ used_of (character (drop at text)) → string_at (drop from text) ≡ stop not_json (drop at text)
  pass_none h e = p.whole ∙ after_none text at p.left p.done h (piece_none e)

  pub pass_turn : (n : ℕ) → at < length text → (get_or text at 0 ≡ quote → ⊥) → Some n ≡ used_of (character (drop at text)) → Turned text from at n
  pass_turn n there h e = go (character (drop at text)) refl e
    where
      some_left : (q : Piece) → character (drop at text) ≡ some q → n ≡ q.used → (m : ℕ) → p.left ≡ m → Turned text from at n
      some_left q f s zero l = absurd (omega (arith, p.enough))
      some_left q f s (suc m) l =
          let fit = used_fits (drop at text) q f in
          record {
            forth = omega arith;
            passing = record {
              left = m;
              done = p.done ++ q.meant;
              inside = omega (arith, length-drop at text);
              enough = omega (arith, p.enough);
              whole = rw s (p.whole ∙ rw l (after_some text at m p.done q h f));
            };
          }

      go : (o : Option Piece) → character (drop at text) ≡ o → Some n ≡ used_of o → Turned text from at n
      go none f s = cc
      go (some q) f s = some_left q f (cc) p.left refl

pub count_two : (a : ℕ) → 0x7f < a → a ≤ 0xdf → byte_count a ≡ 2
unfolding byte_count
count_two a l h = rw (lt-leb a 0x7f l, le-leb a 0xdf h)

-- ---- what a place stands for

pub stands_got : {A : Type 0} {text : List ℕ} {g : Got A} {a : A} {rest : List ℕ} (at : ℕ) → g ≡ got a rest → At text rest at → Stands text g (Ok at)
stands_got at e h = rw e h

pub stands_stop : {A : Type 0} {text : List ℕ} {g : Got A} {k : ℕ} {rest : List ℕ} (at : ℕ) → g ≡ stop k rest → At text rest at → Stands text g (Err at)
stands_stop at e h = rw e h
