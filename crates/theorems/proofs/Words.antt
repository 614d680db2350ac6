-- Numbers written as bytes and read back, in place.
use mathlib.Core.Path.{◌≡◌, refl, ap, sym, ◌∙◌}
use mathlib.Core.List.{List, [], ◌∷◌, ◌++◌}
use Prim.Native.Nat.{ℕ, zero, suc, ◌+◌, ◌*◌, ◌/◌, ◌%◌, ◌^◌, ◌≤◌, ◌<◌}
use native.Mathlib.Nat.{pow-suc, one-le-pow}
use native.Mathlib.Omega.{arith}
use mathlib.Core.Bool.{Bool, true, false}
use lib.Dec.{ltb}
use borrow.Author.Tests.{ltb-true, ltb-false}
use native.Mathlib.Numerals.{add-one}
use lib.ListN.{length, take, drop, get_or, length-take, length-drop, take-append-drop, get_or-eq_default}
use lib.Seq.{take_at, drop_at, drop-cons, drop-drop, drop-append-add, get_or-append-add, get_or-take, get_or-drop}
use Rattle.definitions.specs.Word.{bytes_of, number_of, number_at, AreBytes}

pub length_bytes : (w x : ℕ) → length (bytes_of w x) ≡ w
unfolding bytes_of
length_bytes zero x = refl
length_bytes (suc w) x = ap suc (length_bytes w (x / 256))

pub number_bytes : (w x : ℕ) → x < 256 ^ w → number_of (bytes_of w x) ≡ x
unfolding number_of bytes_of
number_bytes zero x h = omega (arith, h)
number_bytes (suc w) x h =
    let b : x < 256 ^ w * 256 = rw pow-suc at h in
    let k : x / 256 < 256 ^ w = omega arith in
    rw (number_bytes w (x / 256) k) (omega arith)

-- what stands i bytes into t, behind p
pub number_past : (w : ℕ) (p t : List ℕ) (at i : ℕ) → length p ≡ at → number_at w (p ++ t) (at + i) ≡ number_at w t i
unfolding number_at
number_past w p t at i e = rw (← e, drop-append-add)

pub number_here : (w : ℕ) (p t : List ℕ) (at : ℕ) → length p ≡ at → number_at w (p ++ t) at ≡ number_at w t 0
unfolding number_at
number_here w p t at e = rw (drop_at p t at e)

pub byte_past : (p t : List ℕ) (at i : ℕ) → length p ≡ at → get_or (p ++ t) (at + i) 0 ≡ get_or t i 0
byte_past p t at i e = rw (← e) (get_or-append-add p t i 0)

pub byte_here : (p t : List ℕ) (at : ℕ) → length p ≡ at → get_or (p ++ t) at 0 ≡ get_or t 0 0
byte_here p t at e = let z : at ≡ at + 0 = omega arith in rw z (byte_past p t at 0 e)

-- a number at the front
pub number_front : (w x : ℕ) (q : List ℕ) → x < 256 ^ w → number_at w (bytes_of w x ++ q) 0 ≡ x
unfolding number_at
number_front w x q h = rw (take_at (bytes_of w x) q w (length_bytes w x)) (number_bytes w x h)

-- ---- what stands at a place of bytes of which what is behind that place is known

pub drop_front : (s p t : List ℕ) (at n : ℕ) → drop at s ≡ p ++ t → length p ≡ n → drop (at + n) s ≡ t
drop_front s p t at n e l = sym (drop-drop n at s) ∙ rw e (drop_at p t n l)

pub number_here_at : (w x : ℕ) (s t : List ℕ) (at : ℕ) → drop at s ≡ bytes_of w x ++ t → x < 256 ^ w → number_at w s at ≡ x
unfolding number_at
number_here_at w x s t at e h = rw e (number_front w x t h)

pub number_front_at : (w x : ℕ) (s p t : List ℕ) (at n : ℕ) → drop at s ≡ p ++ (bytes_of w x ++ t) → length p ≡ n → x < 256 ^ w → number_at w s (at + n) ≡ x
number_front_at w x s p t at n e l h = number_here_at w x s t (at + n) (drop_front s p (bytes_of w x ++ t) at n e l) h

-- ---- bytes read as a number write the same bytes again

behind_bytes : (b : ℕ) (bs : List ℕ) → AreBytes (b ∷ bs) → AreBytes bs
behind_bytes b bs h i = h (suc i)

pub bytes_number : (w : ℕ) (bs : List ℕ) → AreBytes bs → length bs ≡ w → bytes_of w (number_of bs) ≡ bs
unfolding bytes_of number_of
bytes_number zero [] h e = refl
bytes_number zero (b ∷ bs) h e = absurd (omega arith)
bytes_number (suc w) [] h e = absurd (omega arith)
bytes_number (suc w) (b ∷ bs) h e =
    let small : b < 256 = h 0 in
    let low : (b + 256 * number_of bs) % 256 ≡ b = omega arith in
    let high : (b + 256 * number_of bs) / 256 ≡ number_of bs = omega arith in
    rw (low, high, bytes_number w bs (behind_bytes b bs h) (omega arith))

part_bytes : (bs : List ℕ) (w at : ℕ) → AreBytes bs → AreBytes (take w (drop at bs))
part_bytes bs w at h i = go (ltb i w) refl
  where
    go : (t : Bool) → ltb i w ≡ t → get_or (take w (drop at bs)) i 0 < 256
    go true e = rw (get_or-take w (drop at bs) i 0 (ltb-true i w e), get_or-drop) (h (at + i))
    go false e = let l : length (take w (drop at bs)) ≤ i = rw length-take (omega (arith, ltb-false)) in rw (get_or-eq_default (take w (drop at bs)) 0 l) (omega arith)

-- what stands at a place is the number there, and what stands behind it
pub number_drop : (w : ℕ) (bs : List ℕ) (at next : ℕ) → AreBytes bs → next ≡ at + w → next ≤ length bs
    → drop at bs ≡ bytes_of w (number_at w bs at) ++ drop next bs
unfolding number_at
number_drop w bs at next h e l =
    rw (bytes_number w (take w (drop at bs)) (part_bytes bs w at h) (simp (length-take, length-drop) (omega arith)), e, ← drop-drop w at bs)
    (sym (take-append-drop w (drop at bs)))

pub byte_drop : (bs : List ℕ) (at next : ℕ) → next ≡ at + 1 → next ≤ length bs → drop at bs ≡ get_or bs at 0 ∷ drop next bs
byte_drop bs at next e l = rw (e, add-one) (drop-cons bs at 0 (omega arith))

-- ---- a number of w bytes is below 256 ^ w

pub number_small : (w : ℕ) (bs : List ℕ) → AreBytes bs → length bs ≤ w → number_of bs < 256 ^ w
unfolding number_of
number_small zero [] h e = omega arith
number_small zero (b ∷ bs) h e = absurd (omega arith)
number_small (suc w) [] h e = one-le-pow (suc w) 256 (omega arith)
number_small (suc w) (b ∷ bs) h e =
    let small : b < 256 = h 0 in
    let more = number_small w bs (behind_bytes b bs h) (omega arith) in
    rw pow-suc (omega arith)

pub number_at_small : (w : ℕ) (bs : List ℕ) (at : ℕ) → AreBytes bs → number_at w bs at < 256 ^ w
unfolding number_at
number_at_small w bs at h = number_small w (take w (drop at bs)) (part_bytes bs w at h) (rw length-take (omega arith))
