-- Parts of a buffer that was written into: what stands in front is as it was, and what was put in front of it does not touch what stands behind.
-- Assumes nothing.
use mathlib.Core.Path.{◌≡◌, refl, ap, sym, ◌∙◌}
use mathlib.Core.List.{List, ◌++◌, append_assoc}
use Prim.Native.Nat.{ℕ, ◌+◌, ◌≤◌}
use native.Mathlib.Omega.{arith}
use lib.ListN.{length, take, drop, length-append, length-take}
use lib.Seq.{sets, sets-eq, length-sets, take_at, drop_at, take-take, take-add, drop-drop, take-append-le, take-append-add, length-take-le}
use Rattle.definitions.specs.Word.{bytes_of}
use Rattle.theorems.proofs.Words.{length_bytes}
use Rattle.bpf.specs.Place.{place}
use Rattle.bpf.proofs.Buffer.{put_two}
use Rattle.json_filters.specs.Filters.{Behind}

-- bytes that are stored where there is room stand behind what stood in front
pub stored_behind : (before : List ℕ) (spot : ℕ) (bytes : List ℕ) → spot + length bytes ≤ length before → Behind spot before (sets before spot bytes) bytes (spot + length bytes)
stored_behind before spot bytes h =
    let n : length (take spot before ++ bytes) ≡ spot + length bytes = simp (length-append, length-take) (omega arith) in
    record { spot = refl; written = rw (sets-eq bytes before spot h) (take_at (take spot before ++ bytes) _ _ n); whole = length-sets before spot bytes }

part_same : (a b : List ℕ) (n m : ℕ) → n ≤ length a → n ≤ length b → take (n + m) a ≡ take (n + m) b → take m (drop n a) ≡ take m (drop n b)
part_same a b n m p q h =
    let e = sym (take-add n m a) ∙ h ∙ take-add n m b in
    sym (drop_at (take n a) (take m (drop n a)) n (length-take-le n a p)) ∙ ap (λ (l : List ℕ). drop n l) e ∙ drop_at (take n b) (take m (drop n b)) n (length-take-le n b q)

module _ {spot end : ℕ} {before after bytes : List ℕ} (b : Behind spot before after bytes end) (inside : end ≤ length before) where
  starts : spot ≤ length before
  starts = let s = b.spot in omega arith

  pub front_kept : (n : ℕ) → n ≤ spot → take n after ≡ take n before
  front_kept n h =
      let s = b.spot in
      let k = starts in
      sym (take-take n end after (omega arith)) ∙ ap (λ (l : List ℕ). take n l) b.written
      ∙ take-append-le n (take spot before) bytes (omega (arith, length-take-le spot before k)) ∙ take-take n spot before h

  pub part_kept : (n m : ℕ) → n + m ≤ spot → take m (drop n after) ≡ take m (drop n before)
  part_kept n m h = let s = starts in let w = b.whole in part_same after before n m (omega arith) (omega arith) (front_kept (n + m) h)

  pub part_written : take (length bytes) (drop spot after) ≡ bytes
  part_written =
      let w = b.whole in
      let s = starts in
      let e : take spot after ++ take (length bytes) (drop spot after) ≡ take spot before ++ bytes =
      sym (take-add spot (length bytes) after) ∙ ap (λ (n : ℕ). take n after) (sym b.spot) ∙ b.written in
      sym (drop_at (take spot after) (take (length bytes) (drop spot after)) spot (length-take-le spot after (omega arith))) ∙ ap (λ (l : List ℕ). drop spot l) e
      ∙ drop_at (take spot before) bytes spot (length-take-le spot before s)

-- bytes put in front of n others
over : (l : List ℕ) (at n : ℕ) (bytes : List ℕ) → at + length bytes + n ≤ length l
    → take (at + length bytes + n) (place l at bytes) ≡ take at l ++ (bytes ++ take n (drop (at + length bytes) l))
unfolding place
over l at n bytes h =
    let k : length (take at l ++ bytes) ≡ at + length bytes = simp (length-append, length-take) (omega arith) in
    ap (λ (m : ℕ). take (m + n) (take at l ++ bytes ++ drop (at + length bytes) l)) (sym k)
    ∙ take-append-add (take at l ++ bytes) (drop (at + length bytes) l) n ∙ append_assoc (take at l) bytes (take n (drop (at + length bytes) l))

-- two lengths put in front of a name and of what was written behind it
pub lengths_put : (end count : ℕ) {place' : ℕ} {before after bytes : List ℕ} → Behind (end + 8 + count) before after bytes place' → place' ≤ length before
    → take place' (place (place after end (bytes_of 4 count)) (end + 4) (bytes_of 4 (length bytes)))
    ≡ take end before ++ (bytes_of 4 count ++ (bytes_of 4 (length bytes) ++ (take count (drop (end + 8) before) ++ bytes)))
lengths_put end count {place'} {before} {after} {bytes} b inside =
    let w = b.whole in
    let s = b.spot in
    let two : List ℕ = bytes_of 4 count ++ bytes_of 4 (length bytes) in
    let n : length two ≡ 8 = simp (length-append, length_bytes) in
    let front = front_kept b inside end (omega arith) in
    let name = part_kept b inside (end + 8) count (omega arith) in
    let set : take (length bytes) (drop count (drop (end + 8) after)) ≡ bytes = ap (λ (l : List ℕ). take (length bytes) l) (drop-drop count (end + 8) after) ∙ part_written b inside in
    let rest : take (count + length bytes) (drop (end + 8) after) ≡ take count (drop (end + 8) before) ++ bytes =
    take-add count (length bytes) (drop (end + 8) after) ∙ ap (λ (l : List ℕ). l ++ take (length bytes) (drop count (drop (end + 8) after))) name
    ∙ ap (λ (l : List ℕ). take count (drop (end + 8) before) ++ l) set in
    let count_is : place' ≡ end + length two + (count + length bytes) = omega arith in
    let whole : take place' (place after end two) ≡ take end after ++ (two ++ take (count + length bytes) (drop (end + length two) after)) =
    ap (λ (m : ℕ). take m (place after end two)) count_is ∙ over after end (count + length bytes) two (omega arith) in
    ap (λ (l : List ℕ). take place' l) (put_two after end count (length bytes) (omega arith)) ∙ whole
    ∙ ap (λ (m : ℕ). take end after ++ (two ++ take (count + length bytes) (drop (end + m) after))) n
    ∙ ap (λ (l : List ℕ). take end after ++ (two ++ l)) rest
    ∙ ap (λ (l : List ℕ). l ++ (two ++ (take count (drop (end + 8) before) ++ bytes))) front
    ∙ ap (λ (l : List ℕ). take end before ++ l) (append_assoc (bytes_of 4 count) (bytes_of 4 (length bytes)) (take count (drop (end + 8) before) ++ bytes))
