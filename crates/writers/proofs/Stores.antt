-- Laws of bytes put into a buffer.
use mathlib.Core.Path.{◌≡◌, ap, ◌∙◌, sym}
use mathlib.Core.List.{List, [], ◌∷◌, ◌++◌, append_assoc}
use Prim.Native.Nat.{ℕ, ◌+◌, ◌*◌, ◌/◌, ◌%◌, ◌^◌, ◌≤◌, ◌<◌}
use native.Mathlib.Omega.{arith}
use lib.ListN.{length, take, drop, length-append, length-take}
use lib.Seq.{take_at, drop_at, drop-append-add, drop-drop}
use borrow.Rule.Slice.PartMut.{put_mid}
use Rattle.definitions.specs.Word.{bytes_of, number_at}
use Rattle.theorems.proofs.Words.{length_bytes, number_here, number_front}
use Rattle.bpf.specs.Place.{place}
use Rattle.bpf.proofs.Buffer.{length_place, place_next, drop_place}

pub put_four : (l : List ℕ) (a b c d : ℕ) → 16 ≤ length l
    → place (place (place (place l 0 (bytes_of 4 a)) 4 (bytes_of 4 b)) 8 (bytes_of 4 c)) 12 (bytes_of 4 d)
    ≡ place l 0 (bytes_of 4 a ++ (bytes_of 4 b ++ (bytes_of 4 c ++ bytes_of 4 d)))
put_four l a b c d h =
    rw (
      place_next l 0 4 (bytes_of 4 a) (bytes_of 4 b) (rw length_bytes) (simp length_bytes (omega arith)),
      place_next l 0 8 (bytes_of 4 a ++ bytes_of 4 b) (bytes_of 4 c) (simp (length-append, length_bytes)) (simp length_bytes (omega arith)),
      place_next l 0 12 (bytes_of 4 a ++ bytes_of 4 b ++ bytes_of 4 c) (bytes_of 4 d) (simp (length-append, length_bytes)) (simp length_bytes (omega arith)),
    ) (simp append_assoc)

-- eight bytes, and two long numbers behind them
pub put_long : (l : List ℕ) (at : ℕ) (names : List ℕ) (v m : ℕ) → length names ≡ 8 → at + 24 ≤ length l
    → place (place (place l at names) (at + 8) (bytes_of 8 v)) (at + 16) (bytes_of 8 m) ≡ place l at (names ++ (bytes_of 8 v ++ bytes_of 8 m))
put_long l at names v m e h =
    rw (
      place_next l at (at + 8) names (bytes_of 8 v) (rw e) (simp length_bytes (omega arith)),
      place_next l at (at + 16) (names ++ bytes_of 8 v) (bytes_of 8 m) (simp (length-append, length_bytes, e)) (simp length_bytes (omega arith)),
    ) (simp append_assoc)

-- three bytes and five zeros are two numbers of four bytes
pub three_bytes : (a b c : ℕ) → a < 256 → b < 256 → c < 256 → bytes_of 4 (a + 256 * b + 65536 * c) ++ bytes_of 4 0 ≡ a ∷ b ∷ c ∷ 0 ∷ 0 ∷ 0 ∷ 0 ∷ 0 ∷ []
unfolding bytes_of
three_bytes a b c ha hb hc =
    let n : ℕ = a + 256 * b + 65536 * c in
    let e0 : n % 256 ≡ a = omega arith in
    let d0 : n / 256 ≡ b + 256 * c = omega arith in
    let e1 : (b + 256 * c) % 256 ≡ b = omega arith in
    let d1 : (b + 256 * c) / 256 ≡ c = omega arith in
    let e2 : c % 256 ≡ c = omega arith in
    let d2 : c / 256 ≡ 0 = omega arith in
    rw (e0, d0, e1, d1, e2, d2)

-- a part of the buffer that was written over
pub written_over : (l bs : List ℕ) (at k : ℕ) → k ≡ length bs → put_mid at k l bs ≡ place l at bs
unfolding place
written_over l bs at k e = rw (e, drop-drop (length bs) at l) (sym (append_assoc (take at l) bs (drop (at + length bs) l)))

-- what is put at the front is taken from there
pub take_front : (l bs : List ℕ) (n : ℕ) → length bs ≡ n → take n (place l 0 bs) ≡ bs
unfolding place
take_front l bs n e = take_at bs (drop (0 + length bs) l) n e

-- ---- a part put behind what is there, and a count in it raised

abbrev pub raised : List ℕ → ℕ → List ℕ
raised out at = place out at (bytes_of 4 (number_at 4 out at + 1))

pub length_added : (out : List ℕ) (end at : ℕ) (bs : List ℕ) → end + length bs ≤ length out → at + 4 ≤ length out
    → length (raised (place out end bs) at) ≡ length out
length_added out end at bs h k =
    let l = length_place out end bs h in
    length_place (place out end bs) at (bytes_of 4 (number_at 4 (place out end bs) at + 1)) (rw (length_bytes, l) k) ∙ l

place_over : (p n m r : List ℕ) (at : ℕ) → length p ≡ at → length n ≡ length m → place (p ++ (n ++ r)) at m ≡ p ++ (m ++ r)
unfolding place
place_over p n m r at e l =
    rw (take_at p (n ++ r) at e, ← e, drop-append-add p (n ++ r) (length m), drop_at n r (length m) l) (append_assoc p m r)

module _ (out : List ℕ) (end at k : ℕ) (p q bs : List ℕ)
    (form : take end out ≡ p ++ (bytes_of 4 k ++ q)) (spot : length p ≡ at) (small : k < 2 ^ 32) (room : end + length bs ≤ length out) where
  put_part : place out end bs ≡ p ++ (bytes_of 4 k ++ (q ++ (bs ++ drop (end + length bs) out)))
  unfolding place
  put_part = rw form (simp append_assoc)

  count_there : number_at 4 (place out end bs) at ≡ k
  count_there = rw put_part (number_here 4 p _ at spot ∙ number_front 4 k _ small)

  part_long : length (p ++ (bytes_of 4 (k + 1) ++ (q ++ bs))) ≡ end + length bs
  part_long =
      let l = ap length form in
      let m : length (take end out) ≡ end = simp length-take (omega arith) in
      let n = simp (length-append, length_bytes) at l in
      simp (length-append, length_bytes) (omega arith)

  pub part_put : raised (place out end bs) at ≡ p ++ (bytes_of 4 (k + 1) ++ (q ++ bs)) ++ drop (end + length bs) out
  part_put =
      rw (count_there, put_part, place_over p (bytes_of 4 k) (bytes_of 4 (k + 1)) (q ++ (bs ++ drop (end + length bs) out)) at spot (length_bytes 4 k ∙ sym (length_bytes 4 (k + 1))))
      (simp append_assoc)

  pub part_taken : take (end + length bs) (raised (place out end bs) at) ≡ p ++ (bytes_of 4 (k + 1) ++ (q ++ bs))
  part_taken = rw part_put (take_at (p ++ (bytes_of 4 (k + 1) ++ (q ++ bs))) (drop (end + length bs) out) (end + length bs) part_long)

-- behind the part, whatever stood there
pub kept_behind : (out : List ℕ) (end at n : ℕ) (bs : List ℕ) → end + length bs ≡ n → n ≤ length out → at + 4 ≤ n
    → drop n (raised (place out end bs) at) ≡ drop n out
kept_behind out end at n bs e h k =
    drop_place (place out end bs) at n (bytes_of 4 (number_at 4 (place out end bs) at + 1)) (rw length_bytes k)
    (rw (length_place out end bs (omega arith)) h)
    ∙ drop_place out end n bs (omega arith) h
