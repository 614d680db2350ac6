-- Strings kept as two numbers: they tell a word of at most 16 bytes from every other string, so that keys and words are found by comparing
-- numbers with constants. Assumes nothing.
use mathlib.Core.Path.{◌≡◌, refl, ap, sym, ◌∙◌}
use mathlib.Core.Bool.{Bool, true, false, cond, ◌&&◌}
use mathlib.Core.List.{List, [], ◌∷◌, ◌++◌}
use mathlib.Core.Option.{some}
use Rattle.std.specs.Prelude.{Some}
use Rattle.json_scan.specs.Scan.{option_of}
use Rattle.json_parts.specs.declared.Object.{Object}
use Rattle.json_parts.specs.declared.Object.TheVariants.{Condition, Line, Filter}
use Prim.Native.Nat.{ℕ, zero, suc, ◌≤◌}
use Prim.Native.String.{String}
use native.Mathlib.Omega.{arith}
use lib.Dec.{eqb, leb}
use lib.ListN.{length, take, drop, replicate, length-append, length-take, length-replicate, drop_of_length-le}
use lib.Seq.{take-take, take-append_seam}
use borrow.Author.Tests.{leb-true, eqb-true, eq-eqb}
use Rattle.definitions.specs.Word.{bytes_of, AreBytes}
use Rattle.definitions.specs.Json.{ascii, all}
use Rattle.definitions.specs.JsonForm.{same, Key, field_of}
use Rattle.theorems.proofs.Words.{number_drop}
use Rattle.json_theorems.proofs.Tests.{false_not_true, both_true}
use Rattle.json_theorems.proofs.Values.{same_true}
use Rattle.json_parts.specs.declared.Word.{Word}
use Rattle.json_parts.specs.Kinds.{keys_of}
use Rattle.json_parts.specs.Words.{filled, low_of, high_of, Packs, is_word, fits, keys_fit, field_in}

length_filled : (s : List ℕ) → length (filled s) ≡ 16
length_filled s = rw (length-take 16 (s ++ replicate 16 0), length-append s (replicate 16 0), length-replicate {A = ℕ} 16 0) (omega arith)

-- the two numbers write the bytes again
rewritten : (s : List ℕ) → AreBytes (filled s) → filled s ≡ bytes_of 8 (low_of s) ++ (bytes_of 8 (high_of s) ++ [])
rewritten s h =
    let l = length_filled s in
    let a : drop 0 (filled s) ≡ bytes_of 8 (low_of s) ++ drop 8 (filled s) = number_drop 8 (filled s) 0 8 h refl (omega arith) in
    let b : drop 8 (filled s) ≡ bytes_of 8 (high_of s) ++ drop 16 (filled s) = number_drop 8 (filled s) 8 16 h refl (omega arith) in
    let e : drop 16 (filled s) ≡ [] = drop_of_length-le (filled s) {i = 16} (omega arith) in
    a ∙ ap (λ (x : List ℕ). bytes_of 8 (low_of s) ++ x) (b ∙ ap (λ (x : List ℕ). bytes_of 8 (high_of s) ++ x) e)

front : (s : List ℕ) → length s ≤ 16 → take (length s) (filled s) ≡ s
front s h = take-take (length s) 16 (s ++ replicate 16 0) h ∙ take-append_seam s (replicate 16 0)

told_apart : (w s : List ℕ) → length w ≤ 16 → length s ≡ length w → AreBytes (filled w) → AreBytes (filled s) → low_of s ≡ low_of w → high_of s ≡ high_of w → w ≡ s
told_apart w s h e bw bs lo hi =
    let same_filled : filled s ≡ filled w = rewritten s bs ∙ ap (λ (x : ℕ). bytes_of 8 x ++ (bytes_of 8 (high_of s) ++ [])) lo ∙ ap (λ (x : ℕ). bytes_of 8 (low_of w) ++ (bytes_of 8 x ++ [])) hi ∙ sym (rewritten w bw) in
    sym (sym (front s (omega arith)) ∙ ap (λ (n : ℕ). take n (filled s)) e ∙ ap (λ (x : List ℕ). take (length w) x) same_filled ∙ front w h)

are_bytes : (l : List ℕ) → all (λ b. leb b 255) l ≡ true → AreBytes l
unfolding all
are_bytes [] h i = omega arith
are_bytes (b ∷ l) h zero = let p = both_true (leb b 255) (all (λ b. leb b 255) l) h in omega (arith, leb-true b 255 p.0)
are_bytes (b ∷ l) h (suc i) = are_bytes l (both_true (leb b 255) (all (λ b. leb b 255) l) h).1 i

same_itself : (w : List ℕ) → same w w ≡ true
unfolding same
same_itself [] = refl
same_itself (b ∷ w) = rw (eq-eqb b b refl, same_itself w)

told : (w s : List ℕ) (r : Word) → fits w ≡ true → Packs s r → same w s ≡ is_word w r
unfolding fits
told w s r f p = go (is_word w r) refl (same w s) refl
  where
    parts : (leb (length w) 16 ≡ true) × (all (λ b. leb b 255) (filled w) ≡ true)
    parts = both_true (leb (length w) 16) (all (λ b. leb b 255) (filled w)) f

    equal : is_word w r ≡ true → w ≡ s
    equal e =
        let a = both_true (eqb r.count (length w)) (eqb r.low (low_of w) && eqb r.high (high_of w)) e in
        let b = both_true (eqb r.low (low_of w)) (eqb r.high (high_of w)) a.1 in
        told_apart w s (leb-true _ _ parts.0) (sym p.counted ∙ eqb-true _ _ a.0) (are_bytes (filled w) parts.1) p.bytes
        (sym p.low ∙ eqb-true _ _ b.0) (sym p.high ∙ eqb-true _ _ b.1)

    itself : w ≡ s → is_word w r ≡ true
    itself e =
        rw (eq-eqb _ _ (p.counted ∙ ap length (sym e)), eq-eqb _ _ (p.low ∙ ap (λ (x : List ℕ). low_of x) (sym e)), eq-eqb _ _ (p.high ∙ ap (λ (x : List ℕ). high_of x) (sym e)))

    go : (t : Bool) → is_word w r ≡ t → (u : Bool) → same w s ≡ u → same w s ≡ is_word w r
    go true e u d = ap (λ (x : List ℕ). same w x) (sym (equal e)) ∙ same_itself w ∙ sym e
    go false e false d = d ∙ sym e
    go false e true d = absurd (false_not_true (sym e ∙ itself (same_true w s d)))

-- a string that is kept so is a word exactly if its count and its two numbers are the word's
pub is_word_lem : (w : String) (s : List ℕ) (r : Word) → fits (ascii w) ≡ true → Packs s r
    → same (ascii w) s ≡ (eqb r.count (length (ascii w)) && (eqb r.low (low_of (ascii w)) && eqb r.high (high_of (ascii w))))
is_word_lem w s r f p = told (ascii w) s r f p

pub field_in_lem : (keys : List Key) (s : List ℕ) (r : Word) → keys_fit keys ≡ true → Packs s r → field_in keys r ≡ option_of (field_of keys s)
unfolding keys_fit
field_in_lem [] s r f p = refl
field_in_lem (x ∷ xs) s r f p =
    let a = both_true (fits (ascii x.word)) (keys_fit xs) f in
    rw (← told (ascii x.word) s r a.0 p, field_in_lem xs s r a.1 p) (go (same (ascii x.word) s))
  where
    go : (t : Bool) → cond t (Some x.field) (option_of (field_of xs s)) ≡ option_of (cond t (some x.field) (field_of xs s))
    go true = refl
    go false = refl

pub kinds_fit : (object : Object) → keys_fit (keys_of object) ≡ true
unfolding keys_fit fits all ascii keys_of
kinds_fit Condition = refl
kinds_fit Line = refl
kinds_fit Filter = refl
