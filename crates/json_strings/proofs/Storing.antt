-- Strings stored as they are decoded. Assumes nothing.
use mathlib.Core.Path.{◌≡◌, refl, ap, sym, ◌∙◌}
use mathlib.Core.Bool.{Bool, true, false, cond, not, ◌&&◌}
use mathlib.Core.List.{List, [], ◌∷◌, ◌++◌, append-nil}
use mathlib.Core.Option.{Option, none, some}
use Prim.Native.Nat.{ℕ, zero, suc, ◌+◌, ◌-◌, ◌*◌, ◌/◌, ◌%◌, ◌≤◌, ◌<◌}
use native.Mathlib.Omega.{arith}
use native.Mathlib.Numerals.{add-one, add-two, add-three}
use native.Mathlib.Nat.{add-zero}
use lib.Dec.{eqb, leb}
use lib.ListN.{length, take, drop, get_or, set, replicate, length-append, length-take, length-drop}
use lib.Seq.{sets, length-sets, set_out, get_or-drop, take-suc, take-length}
use borrow.Author.Tests.{eqb-true, eqb-false, le-leb, lt-leb}
use Rattle.std.specs.Prelude.{Some, None, Ok, Err}
use Rattle.definitions.specs.Format.{then, check}
use Rattle.definitions.specs.Json.{quote, backslash, is_unescaped, short_escape, is_high, is_low, utf8, pair_of, Character, unescaped, escaped, unit, pair}
use Rattle.definitions.specs.JsonReader.{Got, got, stop, not_json, follow, first, Piece, piece, byte_count, plain_piece, hex_at, pair_piece, unit_or, escape_piece, character, characters, string_at}
use Rattle.json_scan.specs.Scan.{At, unit_at, used_of}
use Rattle.json_theorems.proofs.Tests.{check_some, then_some, within_le}
use Rattle.json_theorems.proofs.Strings.{character_sound}
use Rattle.json_scan.proofs.Scanning.{first_at, piece_none, hex_at_lem, used_fits, follow_id, after_quote, after_end, after_none, after_some}
use Rattle.json_strings.specs.declared.Decoded.{Decoded}
use Rattle.json_strings.specs.Decoding.{meant_of, Read, Stored}

-- ---- stores one after the other

pub sets_append : (l : List ℕ) (i : ℕ) (a b : List ℕ) → sets l i (a ++ b) ≡ sets (sets l i a) (i + length a) b
sets_append l i [] b = rw (add-zero i)
sets_append l i (x ∷ a) b =
    let e : suc i + length a ≡ i + suc (length a) = omega arith in
    rw (← e) (sets_append (set l i x) (suc i) a b)

pub push_none : (l : List ℕ) (i b : ℕ) → length l ≤ i → l ≡ set l i b
push_none l i b h = sym (set_out l i b h)

-- ---- UTF-8

pub put_1 : (l o1 : List ℕ) (at c x : ℕ) → c ≤ 0x7f → x ≡ c → o1 ≡ set l at x → (o1 ≡ sets l at (utf8 c)) × (1 ≡ length (utf8 c))
unfolding utf8
put_1 l o1 at c x h ex e = rw (le-leb c 0x7f h) (e ∙ ap (λ (y : ℕ). set l at y) ex, refl)

pub put_2 : (l o1 o2 : List ℕ) (at c x y : ℕ) → 0x7f < c → c ≤ 0x7ff → x ≡ 0xc0 + c / 64 → y ≡ 0x80 + c % 64 → o1 ≡ set l at x → o2 ≡ set o1 (at + 1) y
    → (o2 ≡ sets l at (utf8 c)) × (2 ≡ length (utf8 c))
unfolding utf8
put_2 l o1 o2 at c x y g h ex ey e1 e2 = rw (lt-leb c 0x7f g, le-leb c 0x7ff h) (e2 ∙ rw (e1, ex, ey, add-one), refl)

pub put_3 : (l o1 o2 o3 : List ℕ) (at c x y z : ℕ) → 0x7ff < c → c ≤ 0xffff → x ≡ 0xe0 + c / 64 / 64 → y ≡ 0x80 + c / 64 % 64 → z ≡ 0x80 + c % 64
    → o1 ≡ set l at x → o2 ≡ set o1 (at + 1) y → o3 ≡ set o2 (at + 2) z → (o3 ≡ sets l at (utf8 c)) × (3 ≡ length (utf8 c))
unfolding utf8
put_3 l o1 o2 o3 at c x y z g h ex ey ez e1 e2 e3 =
    rw (lt-leb c 0x7f (omega arith), lt-leb c 0x7ff g, le-leb c 0xffff h) (e3 ∙ rw (e2, e1, ex, ey, ez, add-one, add-two), refl)

pub put_4 : (l o1 o2 o3 o4 : List ℕ) (at c w x y z : ℕ) → 0xffff < c → w ≡ 0xf0 + c / 64 / 64 / 64 → x ≡ 0x80 + c / 64 / 64 % 64 → y ≡ 0x80 + c / 64 % 64 → z ≡ 0x80 + c % 64
    → o1 ≡ set l at w → o2 ≡ set o1 (at + 1) x → o3 ≡ set o2 (at + 2) y → o4 ≡ set o3 (at + 3) z → (o4 ≡ sets l at (utf8 c)) × (4 ≡ length (utf8 c))
unfolding utf8
put_4 l o1 o2 o3 o4 at c w x y z g ew ex ey ez e1 e2 e3 e4 =
    rw (lt-leb c 0x7f (omega arith), lt-leb c 0x7ff (omega arith), lt-leb c 0xffff g) (e4 ∙ rw (e3, e2, e1, ew, ex, ey, ez, add-one, add-two, add-three), refl)

utf8_short : (c : ℕ) → length (utf8 c) ≤ 4
unfolding utf8
utf8_short c = go (leb c 0x7f) (leb c 0x7ff) (leb c 0xffff)
  where
    go : (s t u : Bool) → length (cond s (c ∷ []) (cond t ((0xc0 + c / 64) ∷ (0x80 + c % 64) ∷ []) (cond u ((0xe0 + c / 64 / 64) ∷ (0x80 + c / 64 % 64) ∷ (0x80 + c % 64) ∷ [])
        ((0xf0 + c / 64 / 64 / 64) ∷ (0x80 + c / 64 / 64 % 64) ∷ (0x80 + c / 64 % 64) ∷ (0x80 + c % 64) ∷ [])))) ≤ 4
    go true t u = omega arith
    go false true u = omega arith
    go false false true = omega arith
    go false false false = omega arith

meant_short : {c a : List ℕ} → Character c a → length a ≤ length c
meant_short (unescaped c e) = omega arith
meant_short (escaped e b h) = omega arith
meant_short (unit p q r s u h x y) = omega (arith, utf8_short u)
meant_short (pair p q r s h p' q' r' s' l e e' x y) = omega (arith, utf8_short (pair_of h l))

-- ---- bytes of the text

pub plain_turn : (text l out : List ℕ) (at place i n : ℕ) → i < n → at + n ≤ length text → out ≡ sets l place (take i (drop at text))
    → set out (place + i) (get_or text (at + i) 0) ≡ sets l place (take (i + 1) (drop at text))
plain_turn text l out at place i n h k e =
    let long : i < length (drop at text) = omega (arith, length-drop at text) in
    let n1 : length (take i (drop at text)) ≡ i = omega (arith, length-take i (drop at text)) in
    let t : take (i + 1) (drop at text) ≡ take i (drop at text) ++ (get_or text (at + i) 0 ∷ []) = rw (add-one, take-suc (drop at text) i 0 long, get_or-drop at text i 0) in
    sym (ap (λ (m : List ℕ). sets l place m) t ∙ sets_append l place (take i (drop at text)) (get_or text (at + i) 0 ∷ [])
    ∙ ap (λ (k : ℕ). set (sets l place (take i (drop at text))) (place + k) (get_or text (at + i) 0)) n1 ∙ ap (λ (m : List ℕ). set m (place + i) (get_or text (at + i) 0)) (sym e))

-- ---- what stands at a place

pub data Spelt (text : List ℕ) (at : ℕ) (p : Piece) : Type 0 where
  plain : (get_or text at 0 ≡ backslash → ⊥) → p.meant ≡ take p.used (drop at text) → Spelt text at p
  short : (b : ℕ) → get_or text at 0 ≡ backslash → (get_or text (at + 1) 0 ≡ 0x75 → ⊥) → short_escape (get_or text (at + 1) 0) ≡ some b → p.meant ≡ b ∷ [] → p.used ≡ 2 → Spelt text at p
  single : (u : ℕ) → get_or text at 0 ≡ backslash → get_or text (at + 1) 0 ≡ 0x75 → unit_at text (at + 2) ≡ some u → p.meant ≡ utf8 u → p.used ≡ 6 → Spelt text at p
  double : (u v : ℕ) → get_or text at 0 ≡ backslash → get_or text (at + 1) 0 ≡ 0x75 → unit_at text (at + 2) ≡ some u → unit_at text (at + 8) ≡ some v → is_high u ≡ true → is_low v ≡ true
      → p.meant ≡ utf8 (pair_of u v) → p.used ≡ 12 → Spelt text at p

piece_meant : (s : List ℕ) (n : ℕ) (p : Piece) → some (piece s n) ≡ some p → p.meant ≡ s
piece_meant s n p e = let q : piece s n ≡ p = cc in ap (λ (x : Piece). x.meant) (sym q)

piece_used : (s : List ℕ) (n : ℕ) (p : Piece) → some (piece s n) ≡ some p → p.used ≡ n
piece_used s n p e = let q : piece s n ≡ p = cc in ap (λ (x : Piece). x.used) (sym q)

plain_spelt : (text : List ℕ) (at : ℕ) (p : Piece) → (get_or text at 0 ≡ backslash → ⊥) → plain_piece (drop at text) ≡ some p → Spelt text at p
unfolding plain_piece
plain_spelt text at p ne e =
    let c = check_some (is_unescaped (take (byte_count (first (drop at text))) (drop at text))) (some (piece (take (byte_count (first (drop at text))) (drop at text)) (byte_count (first (drop at text))))) p e in
    let m = piece_meant (take (byte_count (first (drop at text))) (drop at text)) (byte_count (first (drop at text))) p c.1 in
    let n = piece_used (take (byte_count (first (drop at text))) (drop at text)) (byte_count (first (drop at text))) p c.1 in
    plain ne (rw n m)

unit_spelt : (text : List ℕ) (at u : ℕ) (p : Piece) → get_or text at 0 ≡ backslash → get_or text (at + 1) 0 ≡ 0x75 → unit_at text (at + 2) ≡ some u → unit_or u (drop at text) ≡ some p → Spelt text at p
unfolding pair_piece
unit_spelt text at u p e0 e1 eu e = go (is_high u) refl e
  where
    go : (t : Bool) → is_high u ≡ t → cond t (pair_piece u (drop at text)) (check (not (is_low u)) (some (piece (utf8 u) 6))) ≡ some p → Spelt text at p
    go true h f =
        let c = check_some (eqb (get_or (drop at text) 6 0) backslash && eqb (get_or (drop at text) 7 0) 0x75) (then (hex_at (drop at text) 8) (λ x. check (is_low x) (some (piece (utf8 (pair_of u x)) 12)))) p f in
        let v = then_some (hex_at (drop at text) 8) (λ x. check (is_low x) (some (piece (utf8 (pair_of u x)) 12))) p c.1 in
        let d = check_some (is_low v.0) (some (piece (utf8 (pair_of u v.0)) 12)) p v.2 in
        double u v.0 e0 e1 eu (sym (hex_at_lem text at 8) ∙ v.1) h d.0 (piece_meant _ _ p d.1) (piece_used _ _ p d.1)
    go false h f =
        let c = check_some (not (is_low u)) (some (piece (utf8 u) 6)) p f in
        single u e0 e1 eu (piece_meant _ _ p c.1) (piece_used _ _ p c.1)

escape_spelt : (text : List ℕ) (at : ℕ) (p : Piece) → get_or text at 0 ≡ backslash → escape_piece (drop at text) ≡ some p → Spelt text at p
unfolding escape_piece
escape_spelt text at p e0 e = go (eqb (get_or text (at + 1) 0) 0x75) refl (rw (get_or-drop at text 1 0) at e)
  where
    go : (t : Bool) → eqb (get_or text (at + 1) 0) 0x75 ≡ t
        → cond t (then (hex_at (drop at text) 2) (λ u. unit_or u (drop at text))) (then (short_escape (get_or text (at + 1) 0)) (λ b. some (piece (b ∷ []) 2))) ≡ some p → Spelt text at p
    go true h f =
        let u = then_some (hex_at (drop at text) 2) _ p f in
        unit_spelt text at u.0 p e0 (eqb-true _ _ h) (sym (hex_at_lem text at 2) ∙ u.1) u.2
    go false h f =
        let b = then_some (short_escape (get_or text (at + 1) 0)) (λ b. some (piece (b ∷ []) 2)) p f in
        short b.0 e0 (eqb-false _ _ h) b.1 (piece_meant _ _ p b.2) (piece_used _ _ p b.2)

pub spelt : (text : List ℕ) (at : ℕ) (p : Piece) → character (drop at text) ≡ some p → Spelt text at p
unfolding character
spelt text at p e = go (eqb (get_or text at 0) backslash) refl (rw (first_at text at) at e)
  where
    go : (t : Bool) → eqb (get_or text at 0) backslash ≡ t → cond t (escape_piece (drop at text)) (plain_piece (drop at text)) ≡ some p → Spelt text at p
    go true h f = escape_spelt text at p (eqb-true _ _ h) f
    go false h f = plain_spelt text at p (eqb-false _ _ h) f

-- ---- put_character, return by return

-- what stands behind a backslash for itself is no code unit
no_unit : {b : ℕ} → short_escape 0x75 ≡ some b → ⊥
unfolding short_escape
no_unit e = cc

module _ (text : List ℕ) (at used : ℕ) (eu : Some used ≡ used_of (character (drop at text))) where
  pub record There : Type 0 where
    pub piece' : Piece
    pub is : character (drop at text) ≡ some piece'
    pub taken : used ≡ piece'.used
    pub some : 1 ≤ used
    pub fits : at + used ≤ length text
    pub kind : Spelt text at piece'

  pub there : There
  there = go (character (drop at text)) refl eu
    where
      go : (o : Option Piece) → character (drop at text) ≡ o → Some used ≡ used_of o → There
      go none e u = cc
      go (some p) e u =
          let f = used_fits (drop at text) p e in
          let t : used ≡ p.used = cc in
          record { piece' = p; is = e; taken = t; some = omega arith; fits = omega (arith, length-drop at text); kind = spelt text at p e }

  pub meant_plain : (get_or text at 0 ≡ backslash → ⊥) → (l : List ℕ) (place : ℕ) (out : List ℕ) → out ≡ sets l place (take used (drop at text))
      → (out ≡ sets l place (meant_of (character (drop at text)))) × (used ≡ length (meant_of (character (drop at text))))
  meant_plain ne l place out e = go there.kind
    where
      go : Spelt text at there.piece' → (out ≡ sets l place (meant_of (character (drop at text)))) × (used ≡ length (meant_of (character (drop at text))))
      go (plain n m) =
          let t = there.taken in
          let f = there.fits in
          let q : meant_of (character (drop at text)) ≡ take used (drop at text) = rw there.is (m ∙ ap (λ (k : ℕ). take k (drop at text)) (sym t)) in
          rw q (e, sym (let g = length-take used (drop at text) in let d = length-drop at text in omega arith))
      go (short b e0 n s m u) = absurd (ne e0)
      go (single u e0 e1 x m y) = absurd (ne e0)
      go (double u v e0 e1 x y h w m z) = absurd (ne e0)

  module _ (e0 : get_or text at 0 ≡ backslash) where
    pub long_escape : at + 2 ≤ length text
    long_escape = go there.kind
      where
        go : Spelt text at there.piece' → at + 2 ≤ length text
        go (plain n m) = absurd (n e0)
        go (short b e n s m u) = omega (arith, there.taken, there.fits)
        go (single u e e1 x m y) = omega (arith, there.taken, there.fits)
        go (double u v e e1 x y h w m z) = omega (arith, there.taken, there.fits)

    pub meant_short_escape : (b : ℕ) → short_escape (get_or text (at + 1) 0) ≡ some b → (l : List ℕ) (place : ℕ) (out : List ℕ) → out ≡ set l place b
        → (out ≡ sets l place (meant_of (character (drop at text)))) × (1 ≡ length (meant_of (character (drop at text))))
    meant_short_escape b eb l place out e = go there.kind
      where
        go : Spelt text at there.piece' → (out ≡ sets l place (meant_of (character (drop at text)))) × (1 ≡ length (meant_of (character (drop at text))))
        go (plain n m) = absurd (n e0)
        go (short b' e' n s m u) =
            let q : meant_of (character (drop at text)) ≡ b' ∷ [] = rw there.is m in
            let r : b ≡ b' = cc in
            rw q (e ∙ ap (λ (x : ℕ). set l place x) r, refl)
        go (single u e' e1 x m y) = absurd (no_unit (rw e1 at eb))
        go (double u v e' e1 x y h w m z) = absurd (no_unit (rw e1 at eb))

    -- a code unit, alone or the first of a pair
    module _ (none-short : short_escape (get_or text (at + 1) 0) ≡ none) where
      pub one_there : (u : ℕ) × (unit_at text (at + 2) ≡ some u)
      one_there = go there.kind
        where
          go : Spelt text at there.piece' → (u : ℕ) × (unit_at text (at + 2) ≡ some u)
          go (plain n m) = absurd (n e0)
          go (short b e' n s m y) = cc
          go (single u e' e1 x m y) = (u, x)
          go (double u v e' e1 x y h z m k) = (u, x)

      module _ (u : ℕ) (unit-is : unit_at text (at + 2) ≡ some u) where
        pub one_unit : used ≡ 6 → meant_of (character (drop at text)) ≡ utf8 u
        one_unit six = go there.kind
          where
            go : Spelt text at there.piece' → meant_of (character (drop at text)) ≡ utf8 u
            go (plain n m) = absurd (n e0)
            go (short b e' n s m y) = cc
            go (single w e' e1 x m y) = let r : u ≡ w = cc in rw (there.is, r) m
            go (double w v e' e1 x y h z m k) = absurd (omega (arith, there.taken))

        module _ (six : used ≡ 6 → ⊥) where
          pub long_pair : at + 12 ≤ length text
          long_pair = go there.kind
            where
              go : Spelt text at there.piece' → at + 12 ≤ length text
              go (plain n m) = absurd (n e0)
              go (short b e' n s m y) = cc
              go (single w e' e1 x m y) = absurd (six (there.taken ∙ y))
              go (double w v e' e1 x y h z m k) = omega (arith, there.taken, there.fits)

          pub two_there : (v : ℕ) × (unit_at text (at + 8) ≡ some v)
          two_there = go there.kind
            where
              go : Spelt text at there.piece' → (v : ℕ) × (unit_at text (at + 8) ≡ some v)
              go (plain n m) = absurd (n e0)
              go (short b e' n s m y) = cc
              go (single w e' e1 x m y) = absurd (six (there.taken ∙ y))
              go (double w v e' e1 x y h z m k) = (v, y)

          pub record Two (v : ℕ) : Type 0 where
            pub long : used ≡ 12
            pub meant' : meant_of (character (drop at text)) ≡ utf8 (0x10000 + (0x400 * (u - 0xd800) + (v - 0xdc00)))
            pub high : 0xd800 ≤ u
            pub high' : u ≤ 0xdbff
            pub low : 0xdc00 ≤ v
            pub low' : v ≤ 0xdfff

          pub two_units : (v : ℕ) → unit_at text (at + 8) ≡ some v → Two v
          two_units v unit-is' = go there.kind
            where
              go : Spelt text at there.piece' → Two v
              go (plain n m) = absurd (n e0)
              go (short b e' n s m y) = cc
              go (single w e' e1 x m y) = absurd (six (there.taken ∙ y))
              go (double w v' e' e1 x y h z m k) =
                  let r : u ≡ w = cc in
                  let s : v ≡ v' = cc in
                  let a = within_le 0xd800 0xdbff w h in
                  let b = within_le 0xdc00 0xdfff v' z in
                  record { long = there.taken ∙ k; meant' = rw (there.is, r, s) m; high = omega arith; high' = omega arith; low = omega arith; low' = omega arith }

pub as_meant : (l out a b : List ℕ) (place r : ℕ) → a ≡ b → (out ≡ sets l place b) × (r ≡ length b) → (out ≡ sets l place a) × (r ≡ length a)
as_meant l out a b place r e h = rw e h

-- ---- the loop

pub record Going (text : List ℕ) (from : ℕ) (out₀ : List ℕ) (start : ℕ) (out : List ℕ) (at count : ℕ) : Type 0 where
  pub left : ℕ
  pub done : List ℕ
  pub inside : at ≤ length text
  pub enough : length text ≤ at + left
  pub whole : string_at (drop from text) ≡ follow (characters left (drop at text)) (λ s rest. got (done ++ s) rest)
  pub wrote : out ≡ sets out₀ start done
  pub counted : count ≡ length done
  pub few : count ≤ at

pub going_start : (text : List ℕ) (from : ℕ) (out : List ℕ) (start : ℕ) → from ≤ length text → Going text from out start out from 0
unfolding string_at
going_start text from out start h = record {
  left = length (drop from text);
  done = [];
  inside = h;
  enough = omega (arith, length-drop from text);
  whole = follow_id (characters (length (drop from text)) (drop from text));
  wrote = refl;
  counted = refl;
  few = omega arith;
}

stored_got : (text out₀ : List ℕ) (start : ℕ) (g : Got (List ℕ)) (s rest out : List ℕ) (d : Decoded) → g ≡ got s rest → Read text out₀ start s rest out d → Stored text out₀ start g out (Ok d)
stored_got text out₀ start g s rest out d e h = rw e h

stored_stop : (text out₀ : List ℕ) (start k : ℕ) (g : Got (List ℕ)) (rest out : List ℕ) (at : ℕ) → g ≡ stop k rest → At text rest at → Stored text out₀ start g out (Err at)
stored_stop text out₀ start k g rest out at e h = rw e h

module _ (text : List ℕ) (from : ℕ) (out₀ : List ℕ) (start : ℕ) (out : List ℕ) (at count : ℕ) (p : Going text from out₀ start out at count) where
  pub going_long : length out ≡ length out₀
  going_long = ap length p.wrote ∙ length-sets out₀ start p.done

  pub going_quote : at < length text → get_or text at 0 ≡ quote → Stored text out₀ start (string_at (drop from text)) out (Ok (record { at = at + 1; count = count }))
  going_quote h e =
      stored_got text out₀ start (string_at (drop from text)) p.done (drop (at + 1) text) out _
      (p.whole ∙ after_quote text at p.left p.done h p.enough e ∙ ap (λ (l : List ℕ). got l (drop (at + 1) text)) (append-nil p.done))
      (record { place = record { inside = omega arith; behind = refl }; counted = p.counted; stored = p.wrote })

  pub going_end : length text ≤ at → Stored text out₀ start (string_at (drop from text)) out (Err at)
  going_end h =
      stored_stop text out₀ start not_json (string_at (drop from text)) (drop at text) out at (p.whole ∙ after_end text at p.left p.done h)
      (record { inside = p.inside; behind = refl })

  pub going_none : (get_or text at 0 ≡ quote → ⊥) → None ≡ used_of (character (drop at text)) → Stored text out₀ start (string_at (drop from text)) out (Err at)
  going_none h e =
      stored_stop text out₀ start not_json (string_at (drop from text)) (drop at text) out at (p.whole ∙ after_none text at p.left p.done h (piece_none e))
      (record { inside = p.inside; behind = refl })

  pub going_turn : (n m : ℕ) (out' : List ℕ) → at < length text → (get_or text at 0 ≡ quote → ⊥) → Some n ≡ used_of (character (drop at text))
      → out' ≡ sets out (start + count) (meant_of (character (drop at text))) → m ≡ length (meant_of (character (drop at text)))
      → Going text from out₀ start out' (at + n) (count + m)
  going_turn n m out' inside' h en eo em = go (character (drop at text)) refl en eo em
    where
      some_left : (q : Piece) → character (drop at text) ≡ some q → n ≡ q.used → out' ≡ sets out (start + count) q.meant → m ≡ length q.meant → (k : ℕ) → p.left ≡ k
          → Going text from out₀ start out' (at + n) (count + m)
      some_left q f s o l zero e = absurd (omega (arith, p.enough))
      some_left q f s o l (suc k) e =
          let fit = used_fits (drop at text) q f in
          let shorter = meant_short (character_sound (drop at text) q f) in
          let c = p.counted in
          let w = p.few in
          record {
            left = k;
            done = p.done ++ q.meant;
            inside = omega (arith, length-drop at text);
            enough = omega (arith, p.enough);
            whole = rw s (p.whole ∙ rw e (after_some text at k p.done q h f));
            wrote = o ∙ ap (λ (x : List ℕ). sets x (start + count) q.meant) p.wrote ∙ ap (λ (x : ℕ). sets (sets out₀ start p.done) (start + x) q.meant) c ∙ sym (sets_append out₀ start p.done q.meant);
            counted = rw length-append (omega arith);
            few = omega (arith, length-take q.used (drop at text));
          }

      go : (o : Option Piece) → character (drop at text) ≡ o → Some n ≡ used_of o → out' ≡ sets out (start + count) (meant_of o) → m ≡ length (meant_of o) → Going text from out₀ start out' (at + n) (count + m)
      go none f s o l = cc
      go (some q) f s o l = some_left q f (cc) o l p.left refl

-- ---- a buffer of zeros keeps what comes first

sets_front : (x : ℕ) (l : List ℕ) (i : ℕ) (s : List ℕ) → sets (x ∷ l) (suc i) s ≡ x ∷ sets l i s
sets_front x l i [] = refl
sets_front x l i (b ∷ s) = sets_front x (set l i b) (suc i) s

sets_none : (i : ℕ) (s : List ℕ) → sets [] i s ≡ []
sets_none i [] = refl
sets_none i (b ∷ s) = sets_none (suc i) s

pub keeps : (l s : List ℕ) → sets l 0 s ≡ take (length l) (s ++ drop (length s) l)
keeps [] s = sets_none 0 s
keeps (x ∷ l) [] = sym (take-length (x ∷ l))
keeps (x ∷ l) (b ∷ s) = sets_front b l 0 s ∙ ap (λ (m : List ℕ). b ∷ m) (keeps l s)

take_zeros : (n m : ℕ) → n ≤ m → ◌≡◌ {A = List ℕ} (replicate n 0) (take n (replicate m 0))
take_zeros zero m h = refl
take_zeros (suc n) zero h = absurd (omega arith)
take_zeros (suc n) (suc m) h = ap (λ (l : List ℕ). 0 ∷ l) (take_zeros n m (omega arith))

zeros_keep : (n m : ℕ) (s : List ℕ) → n ≤ m → sets (replicate n 0) 0 s ≡ take n (s ++ replicate m 0)
zeros_keep zero m s h = sets_none 0 s
zeros_keep (suc n) m [] h = take_zeros (suc n) m h
zeros_keep (suc n) m (b ∷ s) h = sets_front b (replicate n 0) 0 s ∙ ap (λ (l : List ℕ). b ∷ l) (zeros_keep n m s (omega arith))

-- decoded into n zeros: the first n bytes, filled up with zeros (for 32, what the table of names takes)
pub kept_zeros : (n : ℕ) (s : List ℕ) → sets (replicate n 0) 0 s ≡ take n (s ++ replicate n 0)
kept_zeros n s = zeros_keep n n s (omega arith)
