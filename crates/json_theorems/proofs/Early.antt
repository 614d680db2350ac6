-- 10 is told as soon as a text cannot go on: any text with the same bytes up to that place, and with it, is refused with 10 at the same place.
-- Readers are followed through two texts that begin alike, with q and q' behind what they share: where one stops with 10 in what is shared, or goes on
-- from there, so does the other. Assumes nothing.
use mathlib.Core.Path.{◌≡◌, refl, ap, subst, sym, ◌∙◌}
use mathlib.Core.Bool.{Bool, true, false, cond, ◌&&◌, ◌||◌}
use mathlib.Core.List.{List, [], ◌∷◌, ◌++◌, append_assoc, append_cancel_right}
use mathlib.Core.Option.{Option, none, some}
use Prim.Native.Nat.{ℕ, zero, suc, ◌+◌, ◌-◌, ◌≤◌, ◌<◌}
use native.Mathlib.Omega.{arith}
use lib.Dec.{eqb, leb}
use lib.ListN.{length, take, drop, length-append, length-drop, length-take, take-append-drop}
use borrow.Author.Tests.{eqb-true, eqb-false, leb-true, leb-false, eq-eqb, ne_eqb}
use Rattle.definitions.specs.RuleSet.{one_of}
use Rattle.definitions.specs.Format.{check}
use Rattle.definitions.specs.Json.{ascii, quote, is_blank, is_digit, Json, null}
use Rattle.definitions.specs.JsonForm.{same, Filter}
use Rattle.definitions.specs.CallNames.{Slot}
use Rattle.definitions.specs.JsonReader.{Got, got, stop, not_json, follow, first, blanks, ended, unless, Piece, character, on_piece, characters, string_at, placed, bad_character, digit_count, whole_count, fraction_count, exponent_sign, exponent_count, number_count, key_at, fields, object_at, items, array_at, literal_at, apart}
use Rattle.definitions.specs.FormReader.{not_of_form, wrong, string_there, on_number, number_there, object_there, array_there, behind_key, Judges, Verdict, fine, begun, closing, answered, judged, put_in, null_or, either_there, filters_there, all_read, whole, read_filters, judges_of, told_of, told}
use Rattle.json_theorems.proofs.Tests.{false_not_true}
use Rattle.json_theorems.proofs.Strings.{character_long, character_sound}
use Rattle.json_theorems.proofs.Same.{NotTen}
use Rattle.json_theorems.proofs.Sizes.{blanks_size}
use Rattle.json_theorems.proofs.Steady.{Within, behind, faulty, within_characters, drop_size, apart_size, within_placed, within_ended, within_key, within_fields, within_blanks, object_next, array_next, within_object, within_items, within_array, Steady, steady_filters, steady_string, steady_number, steady_judged, steady_put, steady_none, steady_object, steady_array, steady_null, steady_either}
use Rattle.json_theorems.proofs.Closed.{is_refusal, eleven_refusal, Judged, Fair, filters_closed}
use Rattle.json_theorems.proofs.NumberParts.{on_part, byte_read, digits_read, digits_is, whole_read, whole_is, fraction_read, fraction_is, is_sign, exponent_read, exponent_is, is_minus, number_read, number_is, number_rest}
use Rattle.json_theorems.proofs.Pieces.{bad_place, drop_front, piece_alike, wrong_alike}

-- ---- what came of a part is behind a place, or a fault that is not 10

data After {A : Type 0} (m : List ℕ) : Got A → Type 0 where
  got_after : (a : A) (rest : List ℕ) → length rest ≤ length m → After m (got a rest)
  stop_after : (k : ℕ) (n : List ℕ) → length n ≤ length m → After m (stop k n)
  other_stop : (k : ℕ) (n : List ℕ) → NotTen k → After m (stop k n)

after_longer : {A : Type 0} (l m : List ℕ) (g : Got A) → length l ≤ length m → After l g → After m g
after_longer l m _ h (got_after a rest w) = got_after a rest (omega arith)
after_longer l m _ h (stop_after k n w) = stop_after k n (omega arith)
after_longer l m _ h (other_stop k n w) = other_stop k n w

within_after : {A : Type 0} (l : List ℕ) (g : Got A) → Within l g → After l g
within_after l _ (behind a rest w) = got_after a rest (omega arith)
within_after l _ (faulty k n w f) = stop_after k n w

after_follow : {A B : Type 0} (l : List ℕ) (g : Got A) (f : A → List ℕ → Got B) → After l g → ((a : A) (m : List ℕ) → After m (f a m)) → After l (follow g f)
after_follow l _ f (got_after a m h) next = after_longer m l (f a m) h (next a m)
after_follow l _ f (stop_after k m h) next = stop_after k m h
after_follow l _ f (other_stop k m h) next = other_stop k m h

after_unless : {A : Type 0} (k : ℕ) → NotTen k → (l : List ℕ) (a : A) (m : List ℕ) → After m (unless k l a m)
after_unless {A} k n l a m = by (eqb k 0)
  where
    by : (t : Bool) → After m (cond t (got a m) (stop k l))
    by true = got_after a m (omega arith)
    by false = other_stop k l n

after_ended : {A : Type 0} (c : ℕ) → 1 ≤ c → (a : A) (l : List ℕ) → After l (ended c a l)
after_ended c h a l = within_after l _ (within_ended c h a l)

after_blanks : {A : Type 0} (l : List ℕ) (g : Got A) → After (blanks l) g → After l g
after_blanks l g w = after_longer (blanks l) l g (blanks_size l) w

after_all : {A : Type 0} (a : A) (l : List ℕ) → After l (all_read a l)
after_all a [] = got_after a [] (omega arith)
after_all a (b ∷ l) = stop_after not_json (b ∷ l) (omega arith)

refusal_other : (k : ℕ) → is_refusal k ≡ true → NotTen k
unfolding one_of
refusal_other k e is = false_not_true (ap is_refusal (sym is) ∙ e)

judged_other : (k : ℕ) → Judged k → NotTen k
judged_other k j = go (eqb k 0) refl
  where
    go : (t : Bool) → eqb k 0 ≡ t → NotTen k
    go true e = let z = eqb-true k 0 e in λ is. omega arith
    go false e = refusal_other k (j (eqb-false k 0 e))

eqb_turned : (a b : ℕ) → eqb a b ≡ eqb b a
eqb_turned a b = go (eqb b a) refl
  where
    go : (t : Bool) → eqb b a ≡ t → eqb a b ≡ t
    go true e = eq-eqb a b (sym (eqb-true b a e))
    go false e = ne_eqb a b (λ s. eqb-false b a e (sym s))

placed_follow : (g : Got (List ℕ)) (f : List ℕ → List ℕ) → placed bad_character (follow g (λ s m. got (f s) m)) ≡ follow (placed bad_character g) (λ s m. got (f s) m)
placed_follow (got s m) f = refl
placed_follow (stop k m) f = refl

some_bytes : (l : List ℕ) (p : Piece) → character l ≡ some p → 1 ≤ p.used
some_bytes l p e = omega (arith, character_long (character_sound l p e), length-take p.used l)

after_part : (o : Option ℕ) (bad l : List ℕ) → length bad ≤ length l → After l (on_part o bad l)
after_part none bad l h = stop_after not_json bad h
after_part (some n) bad l h = got_after n (drop n l) (drop_size n l)

after_digits : (l : List ℕ) → After l (digits_read l)
after_digits l = subst (After l) (sym (digits_is l)) (after_part (check (leb 1 (digit_count l)) (some (digit_count l))) l l (omega arith))

after_whole : (l : List ℕ) → After l (whole_read l)
after_whole l = subst (After l) (sym (whole_is l)) (after_part (whole_count l) l l (omega arith))

after_fraction : (l : List ℕ) → After l (fraction_read l)
after_fraction l = subst (After l) (sym (fraction_is l)) (after_part (fraction_count l) (drop 1 l) l (drop_size 1 l))

after_exponent : (l : List ℕ) → After l (exponent_read l)
after_exponent l =
    subst (After l) (sym (exponent_is l)) (after_part (exponent_count l) (drop (suc (exponent_sign (drop 1 l))) l) l (drop_size (suc (exponent_sign (drop 1 l))) l))

colon : List ℕ → List ℕ → Got (List ℕ)
colon known m = follow (ended 0x3a known (blanks m)) (λ key more. got key (blanks more))

after_colon : (known m : List ℕ) → After m (colon known m)
unfolding colon
after_colon known m = after_follow m (ended 0x3a known (blanks m)) _ (after_blanks m _ (after_ended 0x3a (omega arith) known (blanks m))) (λ key more. got_after key (blanks more) (blanks_size more))

after_read : (j : Judges) (t : List ℕ) → After t (read_filters j t)
unfolding read_filters whole
after_read j t =
    after_follow t (filters_there j (blanks t)) _ (after_blanks t _ (within_after (blanks t) _ ((steady_filters j).within (blanks t)))) (λ a m. after_blanks m _ (after_all a (blanks m)))

module _ (q q' : List ℕ) where
  -- g in the one text and h in the other: the same, or g is behind what they share
  data Alike {A : Type 0} : Got A → Got A → Type 0 where
    both_got : (a : A) (s : List ℕ) → Alike (got a (s ++ q)) (got a (s ++ q'))
    both_stop : (k : ℕ) (s : List ℕ) → Alike (stop k (s ++ q)) (stop k (s ++ q'))
    past : (g h : Got A) → After q g → Alike g h

  alike_cond : {A : Type 0} (t : Bool) (g g' h h' : Got A) → Alike g h → Alike g' h' → Alike (cond t g g') (cond t h h')
  alike_cond true g g' h h' a b = a
  alike_cond false g g' h h' a b = b

  -- one part behind the other
  alike_then : {A B : Type 0} (g h : Got A) (f f' : A → List ℕ → Got B) → Alike g h → ((a : A) (m : List ℕ) → After m (f a m))
      → ((a : A) (s : List ℕ) → g ≡ got a (s ++ q) → h ≡ got a (s ++ q') → Alike (f a (s ++ q)) (f' a (s ++ q'))) → Alike (follow g f) (follow h f')
  alike_then _ _ f f' (both_got a s) after next = next a s refl refl
  alike_then _ _ f f' (both_stop k s) after next = both_stop k s
  alike_then _ h f f' (past _ _ (got_after a m x)) after next = past (f a m) (follow h f') (after_longer m q (f a m) x (after a m))
  alike_then _ h f f' (past _ _ (stop_after k m x)) after next = past (stop k m) (follow h f') (stop_after k m x)
  alike_then _ h f f' (past _ _ (other_stop k m x)) after next = past (stop k m) (follow h f') (other_stop k m x)

  -- the same, where the first part stays within l and l'
  alike_follow : {A B : Type 0} (l l' : List ℕ) (g h : Got A) (f f' : A → List ℕ → Got B) → Within l g → Within l' h → Alike g h
      → ((a : A) (m : List ℕ) → After m (f a m)) → ((a : A) (s : List ℕ) → length (s ++ q) < length l → length (s ++ q') < length l' → Alike (f a (s ++ q)) (f' a (s ++ q')))
      → Alike (follow g f) (follow h f')
  alike_follow {A} l l' g h f f' w w' k after next = alike_then g h f f' k after (λ a s e e'. next a s (short l g a (s ++ q) w e) (short l' h a (s ++ q') w' e'))
    where
      got_short : (l : List ℕ) (a : A) (m : List ℕ) → Within l (got a m) → length m < length l
      got_short l a m (behind _ _ h) = h

      short : (l : List ℕ) (g : Got A) (a : A) (m : List ℕ) → Within l g → g ≡ got a m → length m < length l
      short l g a m w e = got_short l a m (subst (Within l) e w)

  -- ---- blanks

  data Skips (s : List ℕ) : Type 0 where
    still : (c : ℕ) (t : List ℕ) → blanks (s ++ q) ≡ c ∷ (t ++ q) → blanks (s ++ q') ≡ c ∷ (t ++ q') → Skips s
    none_left : length (blanks (s ++ q)) ≤ length q → Skips s

  skips : (s : List ℕ) → Skips s
  unfolding blanks
  skips [] = none_left (blanks_size q)
  skips (b ∷ s) = go (is_blank b) refl (skips s)
    where
      go : (t : Bool) → is_blank b ≡ t → Skips s → Skips (b ∷ s)
      go true e (still c t x y) = still c t (rw e x) (rw e y)
      go true e (none_left h) = none_left (rw e h)
      go false e k = still b s (rw e) (rw e)

  -- what begins behind blanks
  alike_blanks : {A : Type 0} (r r' : List ℕ → Got A) → ((l : List ℕ) → After l (r l)) → (s : List ℕ)
      → ((c : ℕ) (t : List ℕ) → length (t ++ q) < length (s ++ q) → length (t ++ q') < length (s ++ q') → Alike (r (c ∷ (t ++ q))) (r' (c ∷ (t ++ q'))))
      → Alike (r (blanks (s ++ q))) (r' (blanks (s ++ q')))
  alike_blanks r r' after s early = go (skips s)
    where
      go : Skips s → Alike (r (blanks (s ++ q))) (r' (blanks (s ++ q')))
      go (still c t x y) =
          let n = ap length x in
          let n' = ap length y in
          rw (x, y) (early c t (omega (arith, blanks_size (s ++ q))) (omega (arith, blanks_size (s ++ q'))))
      go (none_left h) = past _ _ (after_longer (blanks (s ++ q)) q (r (blanks (s ++ q))) h (after (blanks (s ++ q))))

  alike_ended : {A : Type 0} (c : ℕ) (a : A) (b : ℕ) (s : List ℕ) → Alike (ended c a (b ∷ (s ++ q))) (ended c a (b ∷ (s ++ q')))
  alike_ended c a b s = alike_cond (eqb b c) _ _ _ _ (both_got a s) (both_stop not_json (b ∷ s))

  alike_map : {A B : Type 0} (g h : Got A) (f : A → B) → Alike g h → Alike (follow g (λ a m. got (f a) m)) (follow h (λ a m. got (f a) m))
  alike_map _ _ f (both_got a s) = both_got (f a) s
  alike_map _ _ f (both_stop k s) = both_stop k s
  alike_map _ h f (past _ _ (got_after a m x)) = past _ _ (got_after (f a) m x)
  alike_map _ h f (past _ _ (stop_after k m x)) = past _ _ (stop_after k m x)
  alike_map _ h f (past _ _ (other_stop k m x)) = past _ _ (other_stop k m x)

  -- ---- strings

  abbrev Read : ℕ → List ℕ → Got (List ℕ)
  Read n l = placed bad_character (characters n l)

  module _ (S : List ℕ) (n n' : ℕ) (again : (t : List ℕ) → length t < length S → Alike (Read n (t ++ q)) (Read n' (t ++ q'))) where
    abbrev more : ℕ → List ℕ → Option Piece → Got (List ℕ)
    more m l o = placed bad_character (on_piece o l (λ p. follow (characters m (drop p.used l)) (λ s rest. got (p.meant ++ s) rest)))

    string_wrong : character (S ++ q) ≡ none → Alike (stop not_json (drop (bad_place (S ++ q)) (S ++ q))) (more n' (S ++ q') (character (S ++ q')))
    unfolding bad_character
    string_wrong e = go (leb (length S) (bad_place (S ++ q))) refl
      where
        go : (t : Bool) → leb (length S) (bad_place (S ++ q)) ≡ t → Alike (stop not_json (drop (bad_place (S ++ q)) (S ++ q))) (more n' (S ++ q') (character (S ++ q')))
        go true et = past _ _ (stop_after not_json (drop (bad_place (S ++ q)) (S ++ q)) (omega (arith, leb-true (length S) (bad_place (S ++ q)) et, length-drop (bad_place (S ++ q)) (S ++ q), length-append S q)))
        go false et =
            let less = leb-false (length S) (bad_place (S ++ q)) et in
            let w = wrong_alike S q q' e less in
            rw (w.0, w.1, drop_front (bad_place (S ++ q)) S q (omega arith), drop_front (bad_place (S ++ q)) S q' (omega arith)) (both_stop not_json (drop (bad_place (S ++ q)) S))

    string_on : (p : Piece) → character (S ++ q) ≡ some p → Alike (more n (S ++ q) (some p)) (more n' (S ++ q') (character (S ++ q')))
    string_on p e = go (leb p.used (length S)) refl
      where
        go : (t : Bool) → leb p.used (length S) ≡ t → Alike (more n (S ++ q) (some p)) (more n' (S ++ q') (character (S ++ q')))
        go true et =
            let less = leb-true _ _ et in
            rw (piece_alike S q q' p less e, drop_front p.used S q less, drop_front p.used S q' less, placed_follow (characters n (drop p.used S ++ q)) (λ s. p.meant ++ s), placed_follow (characters n' (drop p.used S ++ q')) (λ s. p.meant ++ s))
            (alike_map _ _ (λ s. p.meant ++ s) (again (drop p.used S) (omega (arith, some_bytes (S ++ q) p e, length-drop p.used S))))
        go false et =
            let less = leb-false p.used (length S) et in
            past _ _ (after_longer (drop p.used (S ++ q)) q (more n (S ++ q) (some p)) (omega (arith, length-drop p.used (S ++ q), length-append S q))
            (within_after _ _ (within_placed (drop p.used (S ++ q)) _ (tail (characters n (drop p.used (S ++ q))) (within_characters n (drop p.used (S ++ q)))))))
          where
            tail : {l : List ℕ} (g : Got (List ℕ)) → Within l g → Within l (follow g (λ s rest. got (p.meant ++ s) rest))
            tail _ (behind s m h) = behind (p.meant ++ s) m h
            tail _ (faulty k m h f) = faulty k m h f

  characters_alike : (n n' : ℕ) (s : List ℕ) → length (s ++ q) ≤ n → length (s ++ q') ≤ n' → Alike (Read n (s ++ q)) (Read n' (s ++ q'))
  unfolding characters bad_character
  characters_alike zero n' s h h' =
      past _ _ (after_longer (s ++ q) q _ (omega arith) (within_after (s ++ q) _ (within_placed (s ++ q) (characters zero (s ++ q)) (within_characters zero (s ++ q)))))
  characters_alike (suc n) n' [] h h' = past _ _ (within_after q _ (within_placed q (characters (suc n) q) (within_characters (suc n) q)))
  characters_alike (suc n) zero (b ∷ s) h h' = absurd (omega arith)
  characters_alike (suc n) (suc n') (b ∷ s) h h' =
      go (eqb b quote) (character (b ∷ (s ++ q))) refl
      (λ t less. characters_alike n n' t (omega (arith, length-append t q, length-append s q)) (omega (arith, length-append t q', length-append s q')))
    where
      go : (t : Bool) (o : Option Piece) → character (b ∷ (s ++ q)) ≡ o → ((t : List ℕ) → length t < length (b ∷ s) → Alike (Read n (t ++ q)) (Read n' (t ++ q')))
          → Alike (placed bad_character (cond t (got [] (s ++ q)) (on_piece o (b ∷ (s ++ q)) (λ p. follow (characters n (drop p.used (b ∷ (s ++ q)))) (λ x rest. got (p.meant ++ x) rest)))))
          (placed bad_character (cond t (got [] (s ++ q')) (on_piece (character (b ∷ (s ++ q'))) (b ∷ (s ++ q')) (λ p. follow (characters n' (drop p.used (b ∷ (s ++ q')))) (λ x rest. got (p.meant ++ x) rest)))))
      go true o e again = both_got [] s
      go false none e again = string_wrong (b ∷ s) n n' again e
      go false (some p) e again = string_on (b ∷ s) n n' again p e

  string_alike : (s : List ℕ) → Alike (placed bad_character (string_at (s ++ q))) (placed bad_character (string_at (s ++ q')))
  unfolding string_at
  string_alike s = characters_alike (length (s ++ q)) (length (s ++ q')) s (omega arith) (omega arith)

  -- ---- numbers, part by part

  byte_alike : (t : ℕ → Bool) (s : List ℕ) → Alike (byte_read t (s ++ q)) (byte_read t (s ++ q'))
  byte_alike t [] = past _ _ (by (t (first q)))
    where
      by : (b : Bool) → After {A = ℕ} q (cond b (got 1 (drop 1 q)) (got 0 q))
      by true = got_after 1 (drop 1 q) (drop_size 1 q)
      by false = got_after 0 q (omega arith)
  byte_alike t (b ∷ s) = alike_cond (t b) _ _ _ _ (both_got 1 s) (both_got 0 (b ∷ s))

  data Counts (s : List ℕ) : Type 0 where
    within_both : digit_count (s ++ q) < length s → digit_count (s ++ q') ≡ digit_count (s ++ q) → Counts s
    through : length s ≤ digit_count (s ++ q) → Counts s

  counts : (s : List ℕ) → Counts s
  unfolding digit_count
  counts [] = through (omega arith)
  counts (b ∷ s) = go (is_digit b) refl (counts s)
    where
      go : (t : Bool) → is_digit b ≡ t → Counts s → Counts (b ∷ s)
      go true e (within_both h x) = within_both (rw e (omega arith)) (rw e (ap suc x))
      go true e (through h) = through (rw e (omega arith))
      go false e c = within_both (rw e (omega arith)) (rw e)

  digits_alike : (s : List ℕ) → Alike (digits_read (s ++ q)) (digits_read (s ++ q'))
  digits_alike s = go (counts s)
    where
      go : Counts s → Alike (digits_read (s ++ q)) (digits_read (s ++ q'))
      go (within_both h x) =
          rw (x, drop_front (digit_count (s ++ q)) s q (omega arith), drop_front (digit_count (s ++ q)) s q' (omega arith))
          (alike_cond (leb 1 (digit_count (s ++ q))) _ _ _ _ (both_got (digit_count (s ++ q)) (drop (digit_count (s ++ q)) s)) (both_stop not_json s))
      go (through h) = past _ _ (by (leb 1 (digit_count (s ++ q))) refl)
        where
          by : (b : Bool) → leb 1 (digit_count (s ++ q)) ≡ b → After q (cond b (got (digit_count (s ++ q)) (drop (digit_count (s ++ q)) (s ++ q))) (stop not_json (s ++ q)))
          by true e = got_after _ (drop (digit_count (s ++ q)) (s ++ q)) (omega (arith, length-drop (digit_count (s ++ q)) (s ++ q), length-append s q))
          by false e = stop_after not_json (s ++ q) (omega (arith, leb-false 1 (digit_count (s ++ q)) e, length-append s q))

  whole_alike : (s : List ℕ) → Alike (whole_read (s ++ q)) (whole_read (s ++ q'))
  whole_alike [] = past _ _ (after_whole q)
  whole_alike (b ∷ s) = alike_cond (eqb b 0x30) _ _ _ _ (both_got 1 s) (digits_alike (b ∷ s))

  fraction_alike : (s : List ℕ) → Alike (fraction_read (s ++ q)) (fraction_read (s ++ q'))
  fraction_alike [] = past _ _ (after_fraction q)
  fraction_alike (b ∷ s) = alike_cond (eqb b 0x2e) _ _ _ _ (alike_map _ _ (λ d. suc d) (digits_alike s)) (both_got 0 (b ∷ s))

  exponent_alike : (s : List ℕ) → Alike (exponent_read (s ++ q)) (exponent_read (s ++ q'))
  exponent_alike [] = past _ _ (after_exponent q)
  exponent_alike (b ∷ s) =
      alike_cond (eqb b 0x65 || eqb b 0x45) _ _ _ _
      (alike_then (byte_read is_sign (s ++ q)) (byte_read is_sign (s ++ q')) _ _ (byte_alike is_sign s)
      (λ n m. after_follow m (digits_read m) _ (after_digits m) (λ d k. got_after (suc n + d) k (omega arith))) (λ n t e e'. alike_map _ _ (λ d. suc n + d) (digits_alike t)))
      (both_got 0 (b ∷ s))

  count_alike : (s : List ℕ) → Alike (number_read (s ++ q)) (number_read (s ++ q'))
  unfolding number_read
  count_alike s =
      alike_then (byte_read is_minus (s ++ q)) (byte_read is_minus (s ++ q')) _ _ (byte_alike is_minus s)
      (λ a l1. after_follow l1 (whole_read l1) _ (after_whole l1) (λ w l2. after_follow l2 (fraction_read l2) _ (after_fraction l2) (λ f l3. after_follow l3 (exponent_read l3) _ (after_exponent l3) (λ e l4. got_after (a + w + f + e) l4 (omega arith)))))
      (λ a s1 x x'. alike_then (whole_read (s1 ++ q)) (whole_read (s1 ++ q')) _ _ (whole_alike s1)
      (λ w l2. after_follow l2 (fraction_read l2) _ (after_fraction l2) (λ f l3. after_follow l3 (exponent_read l3) _ (after_exponent l3) (λ e l4. got_after (a + w + f + e) l4 (omega arith))))
      (λ w s2 y y'. alike_then (fraction_read (s2 ++ q)) (fraction_read (s2 ++ q')) _ _ (fraction_alike s2)
      (λ f l3. after_follow l3 (exponent_read l3) _ (after_exponent l3) (λ e l4. got_after (a + w + f + e) l4 (omega arith)))
      (λ f s3 z z'. alike_map (exponent_read (s3 ++ q)) (exponent_read (s3 ++ q')) (λ e. a + w + f + e) (exponent_alike s3))))

  number_alike : (s : List ℕ) → Alike (on_number (number_count (s ++ q)) (s ++ q)) (on_number (number_count (s ++ q')) (s ++ q'))
  number_alike s =
      rw (number_is (s ++ q), number_is (s ++ q'))
      (alike_then (number_read (s ++ q)) (number_read (s ++ q')) _ _ (count_alike s) (λ n m. got_after (take n (s ++ q)) m (omega arith)) (λ n t e e'. same_text n t (number_rest (s ++ q) n (t ++ q) e) (number_rest (s ++ q') n (t ++ q') e')))
    where
      cut : (x t r : List ℕ) → x ++ (t ++ r) ≡ s ++ r → x ++ t ≡ s
      cut x t r e = append_cancel_right (x ++ t) s r (append_assoc x t r ∙ e)

      same_text : (n : ℕ) (t : List ℕ) → take n (s ++ q) ++ (t ++ q) ≡ s ++ q → take n (s ++ q') ++ (t ++ q') ≡ s ++ q' → Alike (got (take n (s ++ q)) (t ++ q)) (got (take n (s ++ q')) (t ++ q'))
      same_text n t e e' =
          let is : take n (s ++ q') ≡ take n (s ++ q) = append_cancel_right _ _ t (cut (take n (s ++ q')) t q' e' ∙ sym (cut (take n (s ++ q)) t q e)) in
          rw is (both_got (take n (s ++ q)) t)

  -- ---- keys, members and values

  unless_alike : {A : Type 0} (k : ℕ) → NotTen k → (l l' : List ℕ) (a : A) (s : List ℕ) → Alike (unless k l a (s ++ q)) (unless k l' a (s ++ q'))
  unless_alike k n l l' a s = alike_cond (eqb k 0) _ _ _ _ (both_got a s) (past _ _ (other_stop k l n))

  colon_alike : (known s : List ℕ) → Alike (colon known (s ++ q)) (colon known (s ++ q'))
  unfolding colon
  colon_alike known s =
      alike_then (ended 0x3a known (blanks (s ++ q))) (ended 0x3a known (blanks (s ++ q'))) _ _
      (alike_blanks (ended 0x3a known) (ended 0x3a known) (after_ended 0x3a (omega arith) known) s (λ c t h h'. alike_ended 0x3a known c t))
      (λ key m. got_after key (blanks m) (blanks_size m))
      (λ key t e e'. alike_blanks (λ l. got key l) (λ l. got key l) (λ l. got_after key l (omega arith)) t (λ c u h h'. both_got key (c ∷ u)))

  key_alike : (judge : List ℕ → ℕ) → ((k : List ℕ) → NotTen (judge k)) → (b : ℕ) (s : List ℕ) → Alike (key_at judge (b ∷ (s ++ q))) (key_at judge (b ∷ (s ++ q')))
  unfolding key_at colon
  key_alike judge ok b s =
      alike_cond (eqb b quote) _ _ _ _
      (alike_then (placed bad_character (string_at (s ++ q))) (placed bad_character (string_at (s ++ q'))) _ _ (string_alike s)
      (λ k m. after_follow m (unless (judge k) (b ∷ (s ++ q)) k m) _ (after_unless (judge k) (ok k) (b ∷ (s ++ q)) k m) (λ known n. after_colon known n))
      (λ k t e e'. alike_then (unless (judge k) (b ∷ (s ++ q)) k (t ++ q)) (unless (judge k) (b ∷ (s ++ q')) k (t ++ q')) _ _
      (unless_alike (judge k) (ok k) (b ∷ (s ++ q)) (b ∷ (s ++ q')) k t) (λ known m. after_colon known m) (λ known u x x'. colon_alike known u)))
      (both_stop not_json (b ∷ s))

  -- a part, and a comma with which it goes on, or a bracket that ends it
  module _ {P : Type 0} (c : ℕ) (pos : 1 ≤ c) (go go' : P → List ℕ → Got P) (after : (p : P) (m : List ℕ) → After m (go p m)) where
    abbrev onward : (P → List ℕ → Got P) → P → List ℕ → Got P
    onward f p l = cond (eqb (first l) 0x2c) (f p (drop 1 l)) (ended c p l)

    after_onward : (p : P) (l : List ℕ) → After l (onward go p l)
    after_onward p l = by (eqb (first l) 0x2c)
      where
        by : (t : Bool) → After l (cond t (go p (drop 1 l)) (ended c p l))
        by true = after_longer (drop 1 l) l (go p (drop 1 l)) (drop_size 1 l) (after p (drop 1 l))
        by false = after_ended c pos p l

    turn_alike : (l l' : List ℕ) (g h : Got P) → Within l g → Within l' h → Alike g h
        → ((p : P) (t : List ℕ) → length (t ++ q) < length l → length (t ++ q') < length l' → Alike (go p (t ++ q)) (go' p (t ++ q')))
        → Alike (follow g (λ p m. onward go p (blanks m))) (follow h (λ p m. onward go' p (blanks m)))
    turn_alike l l' g h w w' k next =
        alike_follow l l' g h _ _ w w' k (λ p m. after_blanks m _ (after_onward p (blanks m)))
        (λ p s less less'. alike_blanks (onward go p) (onward go' p) (after_onward p) s (λ d t x x'. alike_cond (eqb d 0x2c) _ _ _ _ (next p t (omega arith) (omega arith)) (alike_ended c p d t)))

  -- ---- readers of values

  record Early {A : Type 0} (r : List ℕ → Got A) : Type 0 where
    steady : Steady r
    early : (b : ℕ) (s : List ℕ) → Alike (r (b ∷ (s ++ q))) (r (b ∷ (s ++ q')))

  early_all : {A : Type 0} (r : List ℕ → Got A) → Early r → (s : List ℕ) → Alike (r (s ++ q)) (r (s ++ q'))
  early_all r e [] = past _ _ (within_after q _ (e.steady.within q))
  early_all r e (b ∷ s) = e.early b s

  module _ {P : Type 0} (judge : P → List ℕ → ℕ) (ok : (p : P) (k : List ℕ) → Judged (judge p k)) (step : P → List ℕ → List ℕ → Got P)
      (steps : (p : P) (k : List ℕ) → Early (step p k)) where
    stays : (p : P) (k l : List ℕ) → Within l (step p k l)
    stays p k l = (steps p k).steady.within l

    fields_alike : (n n' : ℕ) (p : P) (s : List ℕ) → length (s ++ q) ≤ n → length (s ++ q') ≤ n' → Alike (fields judge step n p (s ++ q)) (fields judge step n' p (s ++ q'))
    unfolding fields
    fields_alike zero n' p s h h' = past _ _ (stop_after not_json (s ++ q) (omega arith))
    fields_alike (suc n) n' p [] h h' = past _ _ (within_after q _ (within_fields judge ok step stays (suc n) p q))
    fields_alike (suc n) zero p (b ∷ s) h h' = absurd (omega arith)
    fields_alike (suc n) (suc n') p (b ∷ s) h h' =
        alike_follow (b ∷ (s ++ q)) (b ∷ (s ++ q')) (key_at (judge p) (blanks (b ∷ (s ++ q)))) (key_at (judge p) (blanks (b ∷ (s ++ q')))) _ _
        (within_blanks (b ∷ (s ++ q)) _ (within_key (judge p) (ok p) (blanks (b ∷ (s ++ q))))) (within_blanks (b ∷ (s ++ q')) _ (within_key (judge p) (ok p) (blanks (b ∷ (s ++ q')))))
        (alike_blanks (key_at (judge p)) (key_at (judge p)) (λ l. within_after l _ (within_key (judge p) (ok p) l)) (b ∷ s) (λ c t x x'. key_alike (judge p) (λ k. judged_other (judge p k) (ok p k)) c t))
        (λ k m. after_follow m (step p k m) _ (within_after m _ (stays p k m)) (λ r rest. after_blanks rest _ (after_onward 0x7d (omega arith) (fields judge step n) (fields judge step n') after r (blanks rest))))
        (λ k t less less'. turn_alike 0x7d (omega arith) (fields judge step n) (fields judge step n') after (t ++ q) (t ++ q') (step p k (t ++ q)) (step p k (t ++ q')) (stays p k (t ++ q)) (stays p k (t ++ q')) (early_all (step p k) (steps p k) t)
        (λ r u x x'. fields_alike n n' r u (omega arith) (omega arith)))
      where
        after : (r : P) (m : List ℕ) → After m (fields judge step n r m)
        after r m = within_after m _ (within_fields judge ok step stays n r m)

    object_alike : (p : P) (s : List ℕ) → Alike (object_at judge step p (s ++ q)) (object_at judge step p (s ++ q'))
    unfolding object_at
    object_alike p [] = past _ _ (within_after q _ (within_object judge ok step stays p q))
    object_alike p (b ∷ s) = go (skips (b ∷ s))
      where
        go : Skips (b ∷ s) → Alike (object_at judge step p (b ∷ (s ++ q))) (object_at judge step p (b ∷ (s ++ q')))
        go (still c t x y) = unfold object_at in rw (x, y) (alike_cond (eqb c 0x7d) _ _ _ _ (both_got p t) (fields_alike (suc (length (s ++ q))) (suc (length (s ++ q'))) p (b ∷ s) (omega arith) (omega arith)))
        go (none_left h) = past _ _ (after_longer (blanks (b ∷ (s ++ q))) q _ h (within_after _ _ (object_next judge ok step stays p b (s ++ q))))

  module _ {P : Type 0} (step : P → List ℕ → Got P) (steps : (p : P) → Early (step p)) where
    stay : (p : P) (l : List ℕ) → Within l (step p l)
    stay p l = (steps p).steady.within l

    items_alike : (n n' : ℕ) (p : P) (s : List ℕ) → length (s ++ q) ≤ n → length (s ++ q') ≤ n' → Alike (items step n p (s ++ q)) (items step n' p (s ++ q'))
    unfolding items
    items_alike zero n' p s h h' = past _ _ (stop_after not_json (s ++ q) (omega arith))
    items_alike (suc n) n' p [] h h' = past _ _ (within_after q _ (within_items step stay (suc n) p q))
    items_alike (suc n) zero p (b ∷ s) h h' = absurd (omega arith)
    items_alike (suc n) (suc n') p (b ∷ s) h h' =
        turn_alike 0x5d (omega arith) (items step n) (items step n') (λ r m. within_after m _ (within_items step stay n r m)) (b ∷ (s ++ q)) (b ∷ (s ++ q'))
        (step p (blanks (b ∷ (s ++ q)))) (step p (blanks (b ∷ (s ++ q')))) (within_blanks (b ∷ (s ++ q)) _ (stay p (blanks (b ∷ (s ++ q))))) (within_blanks (b ∷ (s ++ q')) _ (stay p (blanks (b ∷ (s ++ q')))))
        (alike_blanks (step p) (step p) (λ l. within_after l _ (stay p l)) (b ∷ s) (λ c t x x'. (steps p).early c t))
        (λ r u x x'. items_alike n n' r u (omega arith) (omega arith))

    array_alike : (p : P) (s : List ℕ) → Alike (array_at step p (s ++ q)) (array_at step p (s ++ q'))
    unfolding array_at
    array_alike p [] = past _ _ (within_after q _ (within_array step stay p q))
    array_alike p (b ∷ s) = go (skips (b ∷ s))
      where
        go : Skips (b ∷ s) → Alike (array_at step p (b ∷ (s ++ q))) (array_at step p (b ∷ (s ++ q')))
        go (still c t x y) = unfold array_at in rw (x, y) (alike_cond (eqb c 0x5d) _ _ _ _ (both_got p t) (items_alike (suc (length (s ++ q))) (suc (length (s ++ q'))) p (b ∷ s) (omega arith) (omega arith)))
        go (none_left h) = past _ _ (after_longer (blanks (b ∷ (s ++ q))) q _ h (within_after _ _ (array_next step stay p b (s ++ q))))

  -- by the byte with which a value begins, or none begins so
  begun_alike : {A : Type 0} (t : Bool) (b : ℕ) (s : List ℕ) (g h : Got A) → Alike g h
      → Alike (cond t g (stop (wrong (b ∷ (s ++ q))) (b ∷ (s ++ q)))) (cond t h (stop (wrong (b ∷ (s ++ q'))) (b ∷ (s ++ q'))))
  unfolding wrong
  begun_alike t b s g h w = alike_cond t g (stop (wrong (b ∷ (s ++ q))) (b ∷ (s ++ q))) h (stop (wrong (b ∷ (s ++ q'))) (b ∷ (s ++ q'))) w (both_stop (wrong (b ∷ s)) (b ∷ s))

  early_string : Early string_there
  unfolding string_there
  early_string = record { steady = steady_string; early = λ b s. begun_alike (eqb b quote) b s (placed bad_character (string_at (s ++ q))) (placed bad_character (string_at (s ++ q'))) (string_alike s) }

  early_number : Early number_there
  unfolding number_there
  early_number = record {
    steady = steady_number;
    early = λ b s. begun_alike (eqb b 0x2d || is_digit b) b s (on_number (number_count (b ∷ (s ++ q))) (b ∷ (s ++ q))) (on_number (number_count (b ∷ (s ++ q'))) (b ∷ (s ++ q'))) (number_alike (b ∷ s));
  }

  early_judged : {A B : Type 0} (r : List ℕ → Got A) → Early r → (g : A → Verdict B) → ((a : A) → Fair (g a)) → Early (judged g r)
  unfolding judged
  early_judged {A} {B} r e g fair = record {
    steady = steady_judged r e.steady g fair;
    early = λ b s. alike_then (r (b ∷ (s ++ q))) (r (b ∷ (s ++ q'))) _ _ (e.early b s) (λ a m. after (g a) (fair a) (b ∷ (s ++ q)) m) (λ a t x x'. say (g a) (fair a) (b ∷ (s ++ q)) (b ∷ (s ++ q')) t);
  }
    where
      after : (v : Verdict B) → Fair v → (l m : List ℕ) → After m (answered v l m)
      after (fine b) f l m = got_after b m (omega arith)
      after (begun k) f l m = other_stop k l (refusal_other k f)
      after (closing k) f l m = other_stop k (0x7d ∷ m) (refusal_other k f)

      say : (v : Verdict B) → Fair v → (l l' t : List ℕ) → Alike (answered v l (t ++ q)) (answered v l' (t ++ q'))
      say (fine b) f l l' t = both_got b t
      say (begun k) f l l' t = past _ _ (other_stop k l (refusal_other k f))
      say (closing k) f l l' t = past _ _ (other_stop k (0x7d ∷ (t ++ q)) (refusal_other k f))

  early_put : {A B : Type 0} (r : List ℕ → Got A) → Early r → (add : A → B) → Early (put_in add r)
  early_put r e add = record { steady = steady_put r e.steady add; early = λ b s. alike_map (r (b ∷ (s ++ q))) (r (b ∷ (s ++ q'))) add (e.early b s) }

  early_none : {A : Type 0} → Early (behind_key {P = A} none)
  early_none = record { steady = steady_none; early = λ b s. past _ _ (other_stop not_of_form (b ∷ (s ++ q)) (refusal_other not_of_form eleven_refusal)) }

  early_object : {P : Type 0} (judge : P → List ℕ → ℕ) → ((p : P) (k : List ℕ) → Judged (judge p k)) → (step : P → List ℕ → List ℕ → Got P) → ((p : P) (k : List ℕ) → Early (step p k)) → (p : P)
      → Early (object_there judge step p)
  unfolding object_there
  early_object judge ok step e p = record {
    steady = steady_object judge ok step (λ x k. (e x k).steady) p;
    early = λ b s. begun_alike (eqb b 0x7b) b s (object_at judge step p (s ++ q)) (object_at judge step p (s ++ q')) (object_alike judge ok step e p s);
  }

  early_array : {P : Type 0} (step : P → List ℕ → Got P) → ((p : P) → Early (step p)) → (p : P) → Early (array_there step p)
  unfolding array_there
  early_array step e p = record {
    steady = steady_array step (λ x. (e x).steady) p;
    early = λ b s. begun_alike (eqb b 0x5b) b s (array_at step p (s ++ q)) (array_at step p (s ++ q')) (array_alike step e p s);
  }

  literal_alike : (word : List ℕ) (v : Json) (s : List ℕ) → Alike (literal_at word v (s ++ q)) (literal_at word v (s ++ q'))
  unfolding literal_at same apart
  literal_alike [] v s = both_got v s
  literal_alike (a ∷ word) v [] = past _ _ (by (same (take (suc (length word)) q) (a ∷ word)))
    where
      by : (t : Bool) → After q (cond t (got v (drop (suc (length word)) q)) (stop not_json (apart (a ∷ word) q)))
      by true = got_after v (drop (suc (length word)) q) (drop_size (suc (length word)) q)
      by false = stop_after not_json (apart (a ∷ word) q) (apart_size (a ∷ word) q)
  literal_alike (a ∷ word) v (b ∷ s) = rw (eqb_turned a b) (go (eqb b a) (literal_alike word v s))
    where
      go : (t : Bool) → Alike (cond (same (take (length word) (s ++ q)) word) (got v (drop (length word) (s ++ q))) (stop not_json (apart word (s ++ q))))
          (cond (same (take (length word) (s ++ q')) word) (got v (drop (length word) (s ++ q'))) (stop not_json (apart word (s ++ q'))))
          → Alike (cond (t && same (take (length word) (s ++ q)) word) (got v (drop (length word) (s ++ q))) (stop not_json (cond t (apart word (s ++ q)) (b ∷ (s ++ q)))))
          (cond (t && same (take (length word) (s ++ q')) word) (got v (drop (length word) (s ++ q'))) (stop not_json (cond t (apart word (s ++ q')) (b ∷ (s ++ q')))))
      go true ih = ih
      go false ih = both_stop not_json (b ∷ s)

  early_null : {A : Type 0} (r : List ℕ → Got A) → Early r → Early (null_or r)
  unfolding null_or
  early_null {A} r e = record {
    steady = steady_null r e.steady;
    early = λ b s. alike_cond (eqb b 0x6e) _ _ _ _ (alike_map (literal_at (ascii "null") null (b ∷ (s ++ q))) (literal_at (ascii "null") null (b ∷ (s ++ q'))) (λ v. none) (literal_alike (ascii "null") null (b ∷ s))) ((early_put r e (λ a. some a)).early b s);
  }

  early_either : {A : Type 0} (r r' : List ℕ → Got A) → Early r → Early r' → Early (either_there r r')
  unfolding either_there
  early_either r r' e e' = record {
    steady = steady_either r r' e.steady e'.steady;
    early = λ b s. alike_cond (eqb b quote) (r (b ∷ (s ++ q))) (r' (b ∷ (s ++ q))) (r (b ∷ (s ++ q'))) (r' (b ∷ (s ++ q'))) (e.early b s) (e'.early b s);
  }

  early_filters : (j : Judges) → Early (filters_there j)
  early_filters = filters_closed (λ A r. Early r) (record {
    string = early_string;
    number = early_number;
    judge = early_judged;
    put = early_put;
    refused = early_none;
    object = early_object;
    array = early_array;
    or_null = early_null;
    either = early_either;
  })

  -- ---- whole texts

  module _ (j : Judges) where
    read_alike : (s : List ℕ) → Alike (read_filters j (s ++ q)) (read_filters j (s ++ q'))
    unfolding read_filters whole
    read_alike s =
        alike_then (filters_there j (blanks (s ++ q))) (filters_there j (blanks (s ++ q'))) _ _
        (alike_blanks (filters_there j) (filters_there j) (λ l. within_after l _ ((steady_filters j).within l)) s (λ c t x x'. (early_filters j).early c t))
        (λ a m. after_blanks m _ (after_all a (blanks m)))
        (λ a t e e'. alike_blanks (all_read a) (all_read a) (after_all a) t (λ c u x x'. both_stop not_json (c ∷ u)))

  -- stopped with 10 in what is shared, and in the other at the same place
  stop_same : {A : Type 0} (g h : Got A) → Alike g h → (m : List ℕ) → g ≡ stop not_json m → length q < length m → (s : List ℕ) × (m ≡ s ++ q) × (h ≡ stop not_json (s ++ q'))
  stop_same _ _ (both_got a s) m e less = absurd (let z : ◌≡◌ {A = ℕ} 0 1 = cc in omega arith)
  stop_same _ _ (both_stop k s) m e less = let ek : k ≡ not_json = cc in let em : s ++ q ≡ m = cc in (s, sym em, ap (λ (i : ℕ). stop i (s ++ q')) ek)
  stop_same _ h (past _ _ (got_after a n x)) m e less = absurd (let z : ◌≡◌ {A = ℕ} 0 1 = cc in omega arith)
  stop_same _ h (past _ _ (stop_after k n x)) m e less = absurd (let em : length n ≡ length m = ap length (stop_list e) in omega arith)
    where
      stop_list : {A : Type 0} {k : ℕ} {n m : List ℕ} → ◌≡◌ {A = Got A} (stop k n) (stop not_json m) → n ≡ m
      stop_list e = cc
  stop_same _ h (past _ _ (other_stop k n x)) m e less = absurd (x (let ek : k ≡ not_json = cc in ek))

-- ---- what is told

record Stopped (table : List Slot) (t : List ℕ) : Type 0 where
  rest : List ℕ
  read : read_filters (judges_of table) t ≡ stop not_json rest
  place : (told table t).at ≡ length t - length rest

told_stopped : (table : List Slot) (t : List ℕ) → (told table t).code ≡ not_json → Stopped table t
unfolding told
told_stopped table t e = go (read_filters (judges_of table) t) refl e
  where
    go : (g : Got (List Filter)) → read_filters (judges_of table) t ≡ g → (told_of t g).code ≡ not_json → Stopped table t
    go (got a m) is c = absurd (omega arith)
    go (stop k m) is c = record { rest = m; read = is ∙ ap (λ (i : ℕ). stop i m) c; place = unfold told in rw is }

told_stop : (table : List Slot) (t m : List ℕ) → read_filters (judges_of table) t ≡ stop not_json m → told table t ≡ record { code = not_json; at = length t - length m }
unfolding told
told_stop table t m e = rw e

-- A text that is refused with 10 at a place before its end, and any text with the same bytes up to that place and with it, get the same refusal.
pub ten_early : (table : List Slot) (t t' : List ℕ) → (told table t).code ≡ not_json → (told table t).at < length t
    → take (suc (told table t).at) t ≡ take (suc (told table t).at) t' → told table t' ≡ told table t
ten_early table t t' code before same' = go (told_stopped table t code)
  where
    after_stop : (t m : List ℕ) → After {A = List Filter} t (stop not_json m) → length m ≤ length t
    after_stop t m (stop_after _ _ h) = h
    after_stop t m (other_stop _ _ h) = absurd (h refl)

    go : Stopped table t → told table t' ≡ told table t
    go w =
        let s : List ℕ = take (suc (told table t).at) t in
        let q : List ℕ = drop (suc (told table t).at) t in
        let q' : List ℕ = drop (suc (told table t).at) t' in
        let is : s ++ q ≡ t = take-append-drop (suc (told table t).at) t in
        let is' : s ++ q' ≡ t' = ap (λ (x : List ℕ). x ++ q') same' ∙ take-append-drop (suc (told table t).at) t' in
        let inside = after_stop t w.rest (subst (After t) w.read (after_read (judges_of table) t)) in
        let p = w.place in
        let less : length q < length w.rest = omega (arith, length-drop (suc (told table t).at) t) in
        let k = stop_same q q' (read_filters (judges_of table) (s ++ q)) (read_filters (judges_of table) (s ++ q')) (read_alike q q' (judges_of table) s) w.rest (ap (read_filters (judges_of table)) is ∙ w.read) less in
        let long = ap length k.1 ∙ length-append k.0 q in
        let long' = length-append k.0 q' in
        let whole' = sym (ap length is) ∙ length-append s q in
        let whole'' = sym (ap length is') ∙ length-append s q' in
        let place : length t' - length (k.0 ++ q') ≡ length t - length w.rest = omega arith in
        told_stop table t' (k.0 ++ q') (ap (read_filters (judges_of table)) (sym is') ∙ k.2)
        ∙ ap (λ (i : ℕ). record { code = not_json; at = i }) place ∙ sym (told_stop table t w.rest w.read)
