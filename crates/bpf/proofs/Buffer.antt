-- Laws of numbers in bytes, of bytes put into a buffer, and of a loop that writes instructions there. Every crate that writes
-- instructions goes by these and never looks into `place`.
use mathlib.Core.Path.{◌≡◌, refl, ap, sym, ◌∙◌}
use mathlib.Core.List.{List, [], ◌∷◌, ◌++◌, append_assoc, append-nil}
use Prim.Native.Nat.{ℕ, suc, ◌+◌, ◌-◌, ◌*◌, ◌/◌, ◌≤◌, ◌<◌}
use native.Mathlib.Nat.{add-suc, add-zero, add_assoc}
use native.Mathlib.Numerals.{add-one}
use native.Mathlib.Omega.{arith}
use lib.ListN.{length, take, drop, get_or, set, length-append, length-take, length-drop, take-append-drop}
use lib.Seq.{drop-cons, sets-eq, take_at, drop_at, take-take, take-append-le, drop-append-add, drop-drop}
use Rattle.definitions.specs.Word.{number_of, bytes_of, number_at}
use Rattle.definitions.specs.declared.Instruction.{Instruction}
use Rattle.bpf.specs.Place.{place, place_before, PutBefore, Writing}
use Rattle.definitions.specs.Machine.{instruction_bytes, filter_bytes}

pub number_zero : (s : List ℕ) (at : ℕ) → number_at 0 s at ≡ 0
unfolding number_at number_of
number_zero s at = refl

pub number_suc : (w : ℕ) (s : List ℕ) (at : ℕ) → at < length s → number_at (suc w) s at ≡ get_or s at 0 + 256 * number_at w s (at + 1)
unfolding number_at number_of
number_suc w s at h = rw (drop-cons s at 0, add-one)

-- the same, i bytes on
number_in : (w i : ℕ) (s : List ℕ) (at : ℕ) → at + i < length s → number_at (suc w) s (at + i) ≡ get_or s (at + i) 0 + 256 * number_at w s (at + suc i)
unfolding number_at number_of
number_in w i s at h = rw (drop-cons s (at + i) 0, add-suc)

-- a 4-byte number by its bytes
pub number_4 : (s : List ℕ) (at : ℕ) → at + 4 ≤ length s
    → number_at 4 s at ≡ get_or s at 0 + 256 * get_or s (at + 1) 0 + 65536 * get_or s (at + 2) 0 + 16777216 * get_or s (at + 3) 0
number_4 s at h =
    omega (arith, number_suc 3 s at (omega arith), number_in 2 1 s at (omega arith), number_in 1 2 s at (omega arith), number_in 0 3 s at (omega arith), number_zero s (at + 4))

-- an 8-byte number is two 4-byte numbers
pub number_8 : (s : List ℕ) (at : ℕ) → at + 8 ≤ length s → number_at 8 s at ≡ number_at 4 s at + 4294967296 * number_at 4 s (at + 4)
number_8 s at h =
    omega (
      arith,
      number_4 s at (omega arith),
      number_suc 7 s at (omega arith),
      number_in 6 1 s at (omega arith),
      number_in 5 2 s at (omega arith),
      number_in 4 3 s at (omega arith),
    )

-- four stores one after the other
pub stores_4 : (l : List ℕ) (at a b c d : ℕ) → at + 4 ≤ length l
    → set (set (set (set l at a) (at + 1) b) (at + 2) c) (at + 3) d ≡ place l at (a ∷ b ∷ c ∷ d ∷ [])
unfolding place
stores_4 l at a b c d fits =
    let e1 : at + 1 ≡ suc at = omega arith in
    let e2 : at + 2 ≡ suc (suc at) = omega arith in
    let e3 : at + 3 ≡ suc (suc (suc at)) = omega arith in
    rw (e1, e2, e3) (sets-eq (a ∷ b ∷ c ∷ d ∷ []) l at fits)

-- eight stores one after the other
pub stores_8 : (l : List ℕ) (at a b c d e f g h : ℕ) → at + 8 ≤ length l
    → set (set (set (set (set (set (set (set l at a) (at + 1) b) (at + 2) c) (at + 3) d) (at + 4) e) (at + 5) f) (at + 6) g) (at + 7) h
    ≡ place l at (a ∷ b ∷ c ∷ d ∷ e ∷ f ∷ g ∷ h ∷ [])
unfolding place
stores_8 l at a b c d e f g h fits =
    let e1 : at + 1 ≡ suc at = omega arith in
    let e2 : at + 2 ≡ suc (suc at) = omega arith in
    let e3 : at + 3 ≡ suc (suc (suc at)) = omega arith in
    let e4 : at + 4 ≡ suc (suc (suc (suc at))) = omega arith in
    let e5 : at + 5 ≡ suc (suc (suc (suc (suc at)))) = omega arith in
    let e6 : at + 6 ≡ suc (suc (suc (suc (suc (suc at))))) = omega arith in
    let e7 : at + 7 ≡ suc (suc (suc (suc (suc (suc (suc at)))))) = omega arith in
    rw (e1, e2, e3, e4, e5, e6, e7) (sets-eq (a ∷ b ∷ c ∷ d ∷ e ∷ f ∷ g ∷ h ∷ []) l at fits)

-- ---- place

pub length_place : (l : List ℕ) (at : ℕ) (bs : List ℕ) → at + length bs ≤ length l → length (place l at bs) ≡ length l
unfolding place
length_place l at bs h = simp (length-append, length-take, length-drop) (omega arith)

pub place_nil : (l : List ℕ) (at : ℕ) → place l at [] ≡ l
unfolding place
place_nil l at = rw (add-zero, append-nil, take-append-drop)

-- two runs of bytes, one behind the other, are one
pub place_append : (l : List ℕ) (at : ℕ) (a b : List ℕ) → at + length a + length b ≤ length l
    → place (place l at a) (at + length a) b ≡ place l at (a ++ b)
unfolding place
place_append l at a b h =
    let n : length (take at l ++ a) ≡ at + length a = simp (length-append, length-take) (omega arith) in
    let t : take (at + length a) (take at l ++ a ++ drop (at + length a) l) ≡ take at l ++ a = take_at (take at l ++ a) _ _ n in
    let d : drop (at + length a + length b) (take at l ++ a ++ drop (at + length a) l) ≡ drop (at + length a + length b) l =
    rw (← n, drop-append-add, n, drop-drop) in
    rw (t, d, length-append) (simp (append_assoc, add_assoc))

-- a run of bytes behind another
pub place_next : (l : List ℕ) (at next : ℕ) (a b : List ℕ) → next ≡ at + length a → next + length b ≤ length l
    → place (place l at a) next b ≡ place l at (a ++ b)
place_next l at next a b e h = rw e (place_append l at a b (omega arith))

-- what stands behind is as it was
pub drop_place : (l : List ℕ) (at n : ℕ) (bs : List ℕ) → at + length bs ≤ n → n ≤ length l → drop n (place l at bs) ≡ drop n l
unfolding place
drop_place l at n bs h k =
    let long : length (take at l ++ bs) ≡ at + length bs = simp (length-append, length-take) (omega arith) in
    let more : n ≡ length (take at l ++ bs) + (n - (at + length bs)) = omega arith in
    let rest : at + length bs + (n - (at + length bs)) ≡ n = omega arith in
    rw more (drop-append-add (take at l ++ bs) (drop (at + length bs) l) (n - (at + length bs)) ∙ rw (drop-drop, long))

-- two numbers of four bytes
pub put_two : (l : List ℕ) (at a b : ℕ) → at + 8 ≤ length l
    → place (place l at (bytes_of 4 a)) (at + 4) (bytes_of 4 b) ≡ place l at (bytes_of 4 a ++ bytes_of 4 b)
unfolding bytes_of
put_two l at a b h = place_next l at (at + 4) (bytes_of 4 a) (bytes_of 4 b) refl (omega arith)

-- a long number is two short ones
bytes_8 : (v : ℕ) → bytes_of 8 v ≡ bytes_of 4 v ++ bytes_of 4 (v / 256 / 256 / 256 / 256)
unfolding bytes_of
bytes_8 v = refl

pub put_8 : (l : List ℕ) (at v : ℕ) → at + 8 ≤ length l
    → place (place l at (bytes_of 4 v)) (at + 4) (bytes_of 4 (v / 256 / 256 / 256 / 256)) ≡ place l at (bytes_of 8 v)
put_8 l at v h =
    rw (bytes_8 v) (put_two l at v (v / 256 / 256 / 256 / 256) h)

-- ---- instructions

pub length_instruction_bytes : (i : Instruction) → length (instruction_bytes i) ≡ 8
unfolding instruction_bytes bytes_of
length_instruction_bytes i = refl

pub length_filter_bytes : (is : List Instruction) → length (filter_bytes is) ≡ 8 * length is
unfolding filter_bytes
length_filter_bytes [] = refl
length_filter_bytes (i ∷ is) = rw (length-append, length_instruction_bytes, length_filter_bytes is) (omega arith)

pub filter_bytes_append : (a b : List Instruction) → filter_bytes (a ++ b) ≡ filter_bytes a ++ filter_bytes b
unfolding filter_bytes
filter_bytes_append [] b = refl
filter_bytes_append (i ∷ a) b = rw (filter_bytes_append a b, append_assoc)

-- one instruction more behind a run of them
pub put_next : (l : List ℕ) (at next : ℕ) (is : List Instruction) (i : Instruction) → next ≡ at + 8 * length is → next + 8 ≤ length l
    → place (place l at (filter_bytes is)) next (instruction_bytes i) ≡ place l at (filter_bytes (is ++ (i ∷ [])))
unfolding filter_bytes
put_next l at next is i e h =
    let n : next ≡ at + length (filter_bytes is) = e ∙ ap (λ (k : ℕ). at + k) (sym (length_filter_bytes is)) in
    rw (filter_bytes_append, append-nil, n)
    (place_append l at (filter_bytes is) (instruction_bytes i) (simp length_instruction_bytes (omega arith)))

pub put_first : (l : List ℕ) (at : ℕ) (i : Instruction) → place l at (instruction_bytes i) ≡ place l at (filter_bytes (i ∷ []))
unfolding filter_bytes
put_first l at i = rw append-nil

pub put_2 : (l : List ℕ) (at : ℕ) (a b : Instruction) → at + 16 ≤ length l
    → place (place l at (instruction_bytes a)) (at + 8) (instruction_bytes b) ≡ place l at (filter_bytes (a ∷ b ∷ []))
put_2 l at a b h = rw (put_first l at a) (put_next l at (at + 8) (a ∷ []) b (omega arith) (omega arith))

pub put_3 : (l : List ℕ) (at : ℕ) (a b c : Instruction) → at + 24 ≤ length l
    → place (place (place l at (instruction_bytes a)) (at + 8) (instruction_bytes b)) (at + 16) (instruction_bytes c) ≡ place l at (filter_bytes (a ∷ b ∷ c ∷ []))
put_3 l at a b c h = rw (put_2 l at a b (omega arith)) (put_next l at (at + 16) (a ∷ b ∷ []) c (omega arith) (omega arith))

-- two runs of instructions, one behind the other, are one
pub puts_append : (l : List ℕ) (at next : ℕ) (is js : List Instruction) → next ≡ at + 8 * length is → next + 8 * length js ≤ length l
    → place (place l at (filter_bytes is)) next (filter_bytes js) ≡ place l at (filter_bytes (is ++ js))
puts_append l at next is js e h =
    let n : next ≡ at + length (filter_bytes is) = e ∙ ap (λ (k : ℕ). at + k) (sym (length_filter_bytes is)) in
    rw (filter_bytes_append, n)
    (place_append l at (filter_bytes is) (filter_bytes js) (simp length_filter_bytes (omega arith)))

-- a run of bytes put in front of another is one run too
pub place_before_lem : (l : List ℕ) (at next : ℕ) (a b : List ℕ) → next ≡ at + length a → next + length b ≤ length l
    → place (place l next b) at a ≡ place l at (a ++ b)
unfolding place
place_before_lem l at next a b e h =
    let n : length (take at l) ≡ at = simp length-take (omega arith) in
    let m : length (take next l) ≡ next = simp length-take (omega arith) in
    let le : at ≤ length (take next l) = omega arith in
    let t : take at (take next l ++ b ++ drop (next + length b) l) ≡ take at l =
    rw append_assoc (take-append-le at (take next l) (b ++ drop (next + length b) l) le ∙ take-take at next l (omega arith)) in
    let d : drop (at + length a) (take next l ++ b ++ drop (next + length b) l) ≡ b ++ drop (next + length b) l =
    rw (← e, append_assoc) (drop_at (take next l) (b ++ drop (next + length b) l) next m) in
    rw (t, d, length-append, e) (simp (append_assoc, add_assoc))

-- what is put twice at one place is the later one
place_again : (l : List ℕ) (at : ℕ) (a c : List ℕ) → length c ≡ length a → at + length a ≤ length l → place (place l at a) at c ≡ place l at c
unfolding place
place_again l at a c e h =
    let n : length (take at l) ≡ at = simp length-take (omega arith) in
    let m : length (take at l ++ a) ≡ at + length a = simp (length-append, length-take) (omega arith) in
    let t : take at (take at l ++ a ++ drop (at + length a) l) ≡ take at l = rw append_assoc (take_at (take at l) (a ++ drop (at + length a) l) at n) in
    let d : drop (at + length a) (take at l ++ a ++ drop (at + length a) l) ≡ drop (at + length a) l = drop_at (take at l ++ a) (drop (at + length a) l) (at + length a) m in
    rw (e, t, d)

-- one of two instructions, put again
pub put_over : (l : List ℕ) (at : ℕ) (a b c : Instruction) → at + 16 ≤ length l
    → place (place (place l at (instruction_bytes a)) (at + 8) (instruction_bytes b)) at (instruction_bytes c) ≡ place l at (filter_bytes (c ∷ b ∷ []))
unfolding filter_bytes
put_over l at a b c h =
    let first : place (place l at (instruction_bytes a)) (at + 8) (instruction_bytes b) ≡ place (place l (at + 8) (instruction_bytes b)) at (instruction_bytes a) =
    put_2 l at a b h ∙ rw append-nil (sym (place_before_lem l at (at + 8) (instruction_bytes a) (instruction_bytes b) (rw length_instruction_bytes) (rw length_instruction_bytes (omega arith)))) in
    let room : at + length (instruction_bytes a) ≤ length (place l (at + 8) (instruction_bytes b)) = rw (length_place l (at + 8) (instruction_bytes b) (rw length_instruction_bytes (omega arith)), length_instruction_bytes) (omega arith) in
    rw (first, append-nil)
    (place_again (place l (at + 8) (instruction_bytes b)) at (instruction_bytes a) (instruction_bytes c) (rw (length_instruction_bytes a, length_instruction_bytes c)) room
    ∙ place_before_lem l at (at + 8) (instruction_bytes c) (instruction_bytes b) (rw length_instruction_bytes) (rw length_instruction_bytes (omega arith)))

pub puts_before : (l : List ℕ) (at next : ℕ) (is js : List Instruction) → next ≡ at + 8 * length is → next + 8 * length js ≤ length l
    → place (place l next (filter_bytes js)) at (filter_bytes is) ≡ place l at (filter_bytes (is ++ js))
puts_before l at next is js e h =
    let n : next ≡ at + length (filter_bytes is) = e ∙ ap (λ (k : ℕ). at + k) (sym (length_filter_bytes is)) in
    rw filter_bytes_append
    (place_before_lem l at next (filter_bytes is) (filter_bytes js) n (simp length_filter_bytes (omega arith)))

-- one in front of two
pub put_in_front : (l : List ℕ) (at next : ℕ) (a b c : Instruction) → next ≡ at + 8 → next + 16 ≤ length l
    → place (place (place l next (instruction_bytes b)) (next + 8) (instruction_bytes c)) at (instruction_bytes a) ≡ place l at (filter_bytes (a ∷ b ∷ c ∷ []))
put_in_front l at next a b c e h = rw (put_2 l next b c h, put_first (place l next (filter_bytes (b ∷ c ∷ []))) at a) (puts_before l at next (a ∷ []) (b ∷ c ∷ []) e h)

-- ---- a loop that writes instructions one part behind the other: what is left, written, is the whole

pub write_begin : (out : List ℕ) (at : ℕ) (all : List Instruction) → Writing out at all out at all
write_begin out at all = record { same = refl; spot = refl; long = refl }

pub write_turn : (out₀ : List ℕ) (at : ℕ) (all : List Instruction) (out : List ℕ) (pos : ℕ) (left a b : List Instruction) (out' : List ℕ) (pos' : ℕ)
    → at + 8 * length all ≤ length out₀ → Writing out₀ at all out pos left → left ≡ a ++ b
    → out' ≡ place out pos (filter_bytes a) → pos' ≡ pos + 8 * length a → length out' ≡ length out
    → Writing out₀ at all out' pos' b
write_turn out₀ at all out pos left a b out' pos' room w e o p l =
    let n : length left ≡ length a + length b = rw (e, length-append) in
    record {
      same = rw (o, puts_append out pos pos' a b p (omega (arith, w.spot, w.long)), ← e) w.same;
      spot = omega (arith, w.spot);
      long = l ∙ w.long;
    }

pub write_end : (out₀ : List ℕ) (at : ℕ) (all : List Instruction) (out : List ℕ) (pos : ℕ) (left : List Instruction)
    → Writing out₀ at all out pos left → left ≡ []
    → (out ≡ place out₀ at (filter_bytes all)) × (pos ≡ at + 8 * length all)
unfolding filter_bytes
write_end out₀ at all out pos left w e =
    let q = rw e at w.same in
    let s = rw e at w.spot in
    (sym (place_nil out pos) ∙ q, omega arith)

-- how much of a part fits
pub write_room : (out₀ : List ℕ) (at : ℕ) (all : List Instruction) (out : List ℕ) (pos : ℕ) (left a b : List Instruction)
    → at + 8 * length all ≤ length out₀ → Writing out₀ at all out pos left → left ≡ a ++ b → pos + 8 * length a ≤ length out
write_room out₀ at all out pos left a b room w e =
    let n : length left ≡ length a + length b = rw (e, length-append) in
    omega (arith, w.spot, w.long)

-- ---- a loop that writes them from the end, one part in front of the other

pub before_is : (l : List ℕ) (end at : ℕ) (is : List Instruction) → at + 8 * length is ≡ end
    → place_before l end (filter_bytes is) ≡ place l at (filter_bytes is)
unfolding place_before
before_is l end at is e = let n : end - length (filter_bytes is) ≡ at = rw length_filter_bytes (omega arith) in rw n

-- instructions put at the place that is theirs before another
pub put_at : {l : List ℕ} {end at : ℕ} {is : List Instruction} {out : List ℕ} → at + 8 * length is ≡ end → out ≡ place l at (filter_bytes is) → PutBefore l end is out at
put_at {l} {end} {at} {is} e o = record { same = o ∙ sym (before_is l end at is e); spot = e }

pub put_where : {l : List ℕ} {end at : ℕ} {is : List Instruction} {out : List ℕ} → PutBefore l end is out at → out ≡ place l at (filter_bytes is)
put_where {l} {end} {at} {is} p = p.same ∙ before_is l end at is p.spot

-- two runs, one in front of the other, are one
pub put_both : {l : List ℕ} {end next at : ℕ} {is js : List Instruction} {mid out : List ℕ} → end ≤ length l
    → PutBefore l end js mid next → PutBefore mid next is out at → PutBefore l end (is ++ js) out at
put_both {l} {end} {next} {at} {is} {js} {mid} {out} room p q =
    let n : length (is ++ js) ≡ length is + length js = length-append is js in
    put_at (omega (arith, p.spot, q.spot))
    (put_where q ∙ rw (put_where p) (puts_before l at next is js (omega (arith, q.spot)) (omega (arith, p.spot))))

pub record WritingBefore (out₀ : List ℕ) (end : ℕ) (all : List Instruction) (out : List ℕ) (pos : ℕ) (left : List Instruction) : Type 0 where
  pub same : place_before out pos (filter_bytes left) ≡ place_before out₀ end (filter_bytes all)
  pub room : 8 * length left ≤ pos
  pub fits : pos ≤ length out
  pub long : length out ≡ length out₀

pub before_turn : (out₀ : List ℕ) (end : ℕ) (all : List Instruction) (out : List ℕ) (pos : ℕ) (left a b : List Instruction) (out' : List ℕ) (pos' : ℕ)
    → WritingBefore out₀ end all out pos left → left ≡ a ++ b
    → pos' + 8 * length b ≡ pos → out' ≡ place out pos' (filter_bytes b) → length out' ≡ length out
    → WritingBefore out₀ end all out' pos' a
before_turn out₀ end all out pos left a b out' pos' w e p o l =
    let n : length left ≡ length a + length b = rw (e, length-append) in
    let x : pos' - 8 * length a + 8 * length a ≡ pos' = omega (arith, w.room) in
    let y : pos' - 8 * length a + 8 * length left ≡ pos = omega (arith, w.room) in
    record {
      same = rw (
        before_is out' pos' (pos' - 8 * length a) a x,
        o,
        puts_before out (pos' - 8 * length a) pos' a b (omega arith) (omega (arith, w.fits)),
        ← e,
        ← before_is out pos (pos' - 8 * length a) left y,
      )
          w.same;
      room = omega (arith, w.room);
      fits = omega (arith, w.fits);
      long = l ∙ w.long;
    }

pub before_end : (out₀ : List ℕ) (end : ℕ) (all : List Instruction) (out : List ℕ) (pos : ℕ) (left : List Instruction)
    → WritingBefore out₀ end all out pos left → left ≡ [] → out ≡ place_before out₀ end (filter_bytes all)
unfolding filter_bytes place_before
before_end out₀ end all out pos left w e = sym (place_nil out _) ∙ rw e at w.same
