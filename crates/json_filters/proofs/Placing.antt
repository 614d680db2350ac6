-- Bytes that come to stand behind others in a buffer, part by part.
use mathlib.Core.Path.{◌≡◌, ap, sym, ◌∙◌}
use mathlib.Core.List.{List, ◌++◌, append_assoc}
use Prim.Native.Nat.{ℕ, ◌+◌, ◌≤◌}
use native.Mathlib.Omega.{arith}
use lib.ListN.{length, take, drop, length-append, length-take}
use lib.Seq.{take_at, drop_at, take-take, take-add, take-append-le, length-take-le}
use Rattle.bpf.specs.Place.{place}
use Rattle.bpf.proofs.Buffer.{length_place, place_next, drop_place}
use Rattle.definitions.specs.Word.{bytes_of}
use Rattle.definitions.specs.Format.{joined, encode_entry}
use Rattle.definitions.specs.Collected.{collected, now}
use Rattle.theorems.proofs.Words.{length_bytes}
use Rattle.collect.specs.Raw.{Raw, Collects}
use Rattle.json_filters.specs.Filters.{set_bytes, Behind}

pub take_place : (l : List ℕ) (at n : ℕ) (bs : List ℕ) → at + length bs ≡ n → at ≤ length l → take n (place l at bs) ≡ take at l ++ bs
unfolding place
take_place l at n bs e h = take_at (take at l ++ bs) (drop (at + length bs) l) n (length-append (take at l) bs ∙ ap (λ k. k + length bs) (length-take-le at l h) ∙ e)

-- what stands at a place of a front
pub part_of : (l a b : List ℕ) (m n : ℕ) → take (m + n) l ≡ a ++ b → length a ≡ m → take n (drop m l) ≡ b
part_of l a b m n e h =
    let short : m ≤ length l = omega (arith, length-take (m + n) l, ap length e, length-append a b, h) in
    sym (drop_at (take m l) (take n (drop m l)) m (length-take-le m l short)) ∙ ap (drop m) (sym (take-add m n l) ∙ e) ∙ drop_at a b m h

-- a head put over the bytes in front of others
pub over : (before mid : List ℕ) (p n end : ℕ) (h bs : List ℕ) → length h ≡ n → take end mid ≡ take (p + n) before ++ bs → end ≡ p + n + length bs
    → p + n + length bs ≤ length before → length mid ≡ length before → Behind p before (place mid p h) (h ++ bs) end
over before mid p n end h bs long stood ends room whole =
    let stood' : take (p + n + length bs) mid ≡ take (p + n) before ++ bs = ap (λ e. take e mid) (sym ends) ∙ stood in
    let behind : take (length bs) (drop (p + n) mid) ≡ bs = part_of mid (take (p + n) before) bs (p + n) (length bs) stood' (length-take-le (p + n) before (omega arith)) in
    let front : take p mid ≡ take p before =
    sym (take-take p (p + n + length bs) mid (omega arith)) ∙ ap (take p) stood'
    ∙ take-append-le p (take (p + n) before) bs (omega (arith, length-take-le (p + n) before (omega arith))) ∙ take-take p (p + n) before (omega arith) in
    record {
      spot = ends ∙ omega (arith, length-append h bs, long);
      written =
          ap (λ e. take e (place mid p h)) ends ∙ take-add (p + n) (length bs) (place mid p h)
          ∙ rw (take_place mid p (p + n) h (rw long) (omega arith), drop_place mid p (p + n) h (omega arith) (omega arith), behind, front) (append_assoc (take p before) h bs);
      whole = length_place mid p h (omega arith) ∙ whole;
    }

-- four numbers put one behind the other
pub four_numbers : (l : List ℕ) (p : ℕ) (a b c d : List ℕ) → length a ≡ 4 → length b ≡ 4 → length c ≡ 4 → length d ≡ 4 → p + 16 ≤ length l
    → place (place (place (place l p a) (p + 4) b) (p + 8) c) (p + 12) d ≡ place l p (a ++ (b ++ (c ++ d)))
four_numbers l p a b c d la lb lc ld h =
    let two = place_next l p (p + 4) a b (rw la) (omega (arith, lb)) in
    let three = place_next l p (p + 8) (a ++ b) c (rw (length-append, la, lb) (omega arith)) (omega (arith, lc)) in
    let all = place_next l p (p + 12) ((a ++ b) ++ c) d (rw (length-append, length-append, la, lb, lc) (omega arith)) (omega (arith, ld)) in
    ap (λ x. place (place x (p + 8) c) (p + 12) d) two ∙ ap (λ x. place x (p + 12) d) three ∙ all ∙ ap (place l p) (append_assoc (a ++ b) c d ∙ append_assoc a b (c ++ d))

-- a set, its entries collected behind the head's place and its head put over it
pub set_written : {s₀ s₁ s₂ s₃ s₄ s₅ : List ℕ} {t n p end count : ℕ} (a m o : ℕ) (raw : Raw s₀ t n (p + 16)) → Collects raw.entries s₀ s₁ (p + 16) end count → length s₁ ≡ length s₀
    → s₂ ≡ place s₁ p (bytes_of 4 a) → s₃ ≡ place s₂ (p + 4) (bytes_of 4 m) → s₄ ≡ place s₃ (p + 8) (bytes_of 4 o) → s₅ ≡ place s₄ (p + 12) (bytes_of 4 count)
    → Behind p s₀ s₅ (set_bytes a m o (collected now.join raw.entries)) end
unfolding set_bytes
set_written {s₀ = s₀} {s₁} {s₅ = s₅} {p = p} {end} {count} a m o raw c whole e₂ e₃ e₄ e₅ =
    let h : List ℕ = bytes_of 4 a ++ (bytes_of 4 m ++ (bytes_of 4 o ++ bytes_of 4 count)) in
    let bs : List ℕ = joined encode_entry (collected now.join raw.entries) in
    let long : length h ≡ 16 = simp (length-append, length_bytes) in
    let room : p + 16 + length bs ≤ length s₀ = omega (arith, raw.room, raw.long, c.inside, c.ends) in
    let there = over s₀ s₁ p 16 end h bs long c.bytes c.ends room whole in
    let all : s₅ ≡ place s₁ p h =
    e₅ ∙ ap (λ x. place x (p + 12) (bytes_of 4 count)) (e₄ ∙ ap (λ x. place x (p + 8) (bytes_of 4 o)) (e₃ ∙ ap (λ x. place x (p + 4) (bytes_of 4 m)) e₂))
    ∙ four_numbers s₁ p (bytes_of 4 a) (bytes_of 4 m) (bytes_of 4 o) (bytes_of 4 count) (length_bytes 4 a) (length_bytes 4 m) (length_bytes 4 o) (length_bytes 4 count) (omega (arith, whole, room)) in
    let same : h ++ bs ≡ bytes_of 4 a ++ (bytes_of 4 m ++ (bytes_of 4 o ++ (bytes_of 4 (length (collected now.join raw.entries)) ++ bs))) =
    simp append_assoc (ap (λ x. bytes_of 4 a ++ (bytes_of 4 m ++ (bytes_of 4 o ++ (bytes_of 4 x ++ bs)))) c.counts) in
    record { spot = there.spot ∙ ap (λ x. p + length x) same; written = ap (take end) all ∙ there.written ∙ ap (λ x. take p s₀ ++ x) same; whole = ap length all ∙ there.whole }
