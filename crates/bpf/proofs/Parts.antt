-- A buffer into which bytes are put, seen from a part of it: what stands in front, what stands behind, and bytes that are there already.
use mathlib.Core.Path.{◌≡◌, refl, ap, sym, ◌∙◌}
use mathlib.Core.List.{List, ◌++◌, append_assoc}
use Prim.Native.Nat.{ℕ, ◌+◌, ◌≤◌}
use native.Mathlib.Nat.{add_assoc}
use native.Mathlib.Omega.{arith}
use lib.ListN.{length, take, drop, length-take, take-append-drop}
use lib.Seq.{take_at, drop_at, take-take, take-append-le, drop-append-le, drop-drop, take-add}
use Rattle.bpf.specs.Place.{place}

-- what stands in front is as it was
pub take_place : (l : List ℕ) (at n : ℕ) (bs : List ℕ) → n ≤ at → at ≤ length l → take n (place l at bs) ≡ take n l
unfolding place
take_place l at n bs h k =
    let long : length (take at l) ≡ at = simp length-take (omega arith) in
    rw append_assoc (take-append-le n (take at l) (bs ++ drop (at + length bs) l) (omega arith) ∙ take-take n at l h)

-- behind a front, bytes are put as far on as the front is long
pub place_behind : (l : List ℕ) (n at : ℕ) (bs : List ℕ) → n + at ≤ length l → drop n (place l (n + at) bs) ≡ place (drop n l) at bs
unfolding place
place_behind l n at bs h =
    let long : length (take (n + at) l) ≡ n + at = simp length-take (omega arith) in
    let front : length (take n l) ≡ n = simp length-take (omega arith) in
    let part : drop n (take (n + at) l) ≡ take at (drop n l) = rw (take-add n at l) (drop_at (take n l) (take at (drop n l)) n front) in
    rw (append_assoc, drop-append-le n (take (n + at) l) (bs ++ drop (n + at + length bs) l) (omega arith), part, drop-drop, add_assoc, append_assoc)

-- bytes that are there already change nothing
pub place_there : (l : List ℕ) (at : ℕ) (bs : List ℕ) → take (length bs) (drop at l) ≡ bs → place l at bs ≡ l
unfolding place
place_there l at bs e =
    ap (λ (m : List ℕ). take at l ++ m ++ drop (at + length bs) l) (sym e)
    ∙ rw (append_assoc, ← drop-drop, take-append-drop (length bs) (drop at l), take-append-drop)

-- bytes that were put are there
pub there_placed : (l : List ℕ) (at : ℕ) (bs : List ℕ) → at ≤ length l → take (length bs) (drop at (place l at bs)) ≡ bs
unfolding place
there_placed l at bs h =
    let long : length (take at l) ≡ at = simp length-take (omega arith) in
    rw (append_assoc, drop_at (take at l) (bs ++ drop (at + length bs) l) at long) (take_at bs (drop (at + length bs) l) (length bs) refl)
