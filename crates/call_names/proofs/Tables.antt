-- Bytes are a table exactly if no slot is bad, and then there is one list of slots that they spell: the one by places. Assumes nothing.
use mathlib.Core.Path.{◌≡◌, refl, ap, sym, ◌∙◌}
use mathlib.Core.Bool.{Bool, true, false, cond, ◌&&◌}
use mathlib.Core.List.{List, [], ◌∷◌, ◌++◌, append_assoc}
use Prim.Native.Nat.{ℕ, zero, suc, ◌+◌, ◌-◌, ◌*◌, ◌≤◌, ◌<◌}
use native.Mathlib.Omega.{arith}
use lib.Dec.{eqb, leb, ltb}
use lib.ListN.{length, take, drop, replicate, length-drop, length-append, length-replicate}
use lib.Seq.{take_at, drop_at, get_or-drop}
use borrow.Author.Tests.{leb-true, eqb-false, ltb-true, lt-ltb, le-leb, ne_eqb}
use Rattle.definitions.specs.Word.{AreBytes, bytes_of, number_at}
use Rattle.definitions.specs.Format.{joined}
use Rattle.theorems.proofs.Words.{length_bytes, number_here, number_front, number_drop, number_at_small}
use Rattle.definitions.specs.Json.{all}
use Rattle.definitions.specs.CallNames.{Slot, encode_slot, before, in_order, slot_taken, slots_taken, TableOf, is_zero, until_zero, name_in, slot_in, slots_in, is_named, bad_at, slot_count}
use Rattle.json_theorems.proofs.Tests.{both_true}
use Rattle.json_theorems.proofs.FromJson.{Tables}
use Rattle.call_names.specs.Slots.{Good}
use Rattle.call_names.proofs.Ranks.{Before, shorter, before_is, is_before}
use Rattle.call_names.proofs.Search.{AreGood, first_good, spells, name_short, whole, named_law}

abbrev ok_byte : ℕ → Bool
ok_byte b = leb 1 b && leb b 255

-- ---- no slot is bad: a table

until_ok : (l : List ℕ) → AreBytes l → all ok_byte (until_zero l) ≡ true
unfolding until_zero all
until_ok [] h = refl
until_ok (b ∷ l) h = go (eqb b 0) refl (until_ok l (λ i. h (suc i))) (h 0)
  where
    go : (t : Bool) → eqb b 0 ≡ t → all ok_byte (until_zero l) ≡ true → b < 256 → all ok_byte (cond t [] (b ∷ until_zero l)) ≡ true
    go true e ih small = refl
    go false e ih small = let n = eqb-false b 0 e in rw (le-leb 1 b (omega (arith, n)), le-leb b 255 (omega arith), ih)

take_bytes : (n : ℕ) (l : List ℕ) → AreBytes l → AreBytes (take n l)
take_bytes zero l h i = omega arith
take_bytes (suc n) [] h i = h i
take_bytes (suc n) (b ∷ l) h zero = h 0
take_bytes (suc n) (b ∷ l) h (suc i) = take_bytes n l (λ j. h (suc j)) i

drop_bytes : (n : ℕ) (l : List ℕ) → AreBytes l → AreBytes (drop n l)
drop_bytes n l h i = rw (get_or-drop n l i 0) (h (n + i))

slot_taken_lem : (l : List ℕ) → AreBytes l → is_named l ≡ true → slot_taken (slot_in l) ≡ true
unfolding slot_in name_in
slot_taken_lem l h e =
    let p = both_true (leb 1 (length (until_zero (take 28 l)))) _ (named_law l e) in
    rw (p.0, le-leb (length (until_zero (take 28 l))) 28 (name_short l), until_ok (take 28 l) (take_bytes 28 l h), lt-ltb (number_at 4 l 28) 4294967296 (number_at_small 4 l 28 h))

good_taken : (n : ℕ) (p l : List ℕ) → AreBytes l → AreGood n p l → slots_taken (slots_in n l) ≡ true
unfolding slots_taken slots_in
good_taken zero p l h g = refl
good_taken (suc n) p l h g =
    let f = first_good n p l g in
    rw (slot_taken_lem l h f.named, good_taken n (name_in l) (drop 32 l) (drop_bytes 32 l h) f.others)

good_ordered : (n : ℕ) (p l : List ℕ) → AreGood n p l → in_order (slots_in n l) ≡ true
unfolding in_order slots_in slot_in
good_ordered zero p l g = refl
good_ordered (suc zero) p l g = refl
good_ordered (suc (suc n)) p l g =
    let f = first_good (suc n) p l g in
    let h = first_good n (name_in l) (drop 32 l) f.others in
    rw (is_before h.behind, good_ordered (suc n) (name_in l) (drop 32 l) f.others)

slot_spelled : (l : List ℕ) → AreBytes l → 32 ≤ length l → is_named l ≡ true → encode_slot (slot_in l) ++ drop 32 l ≡ l
unfolding encode_slot slot_in
slot_spelled l h long e =
    append_assoc (name_in l) (replicate (28 - length (name_in l)) 0 ++ bytes_of 4 (number_at 4 l 28)) (drop 32 l)
    ∙ ap (λ (m : List ℕ). name_in l ++ m) (append_assoc (replicate (28 - length (name_in l)) 0) (bytes_of 4 (number_at 4 l 28)) (drop 32 l)
    ∙ ap (λ (m : List ℕ). replicate (28 - length (name_in l)) 0 ++ m) (sym (number_drop 4 l 28 32 h refl long)))
    ∙ sym (spells l (omega arith) e)

good_spelled : (n : ℕ) (p l : List ℕ) → AreBytes l → length l ≡ 32 * n → AreGood n p l → joined encode_slot (slots_in n l) ≡ l
unfolding slots_in
good_spelled zero p [] h long g = refl
good_spelled zero p (b ∷ l) h long g = absurd (omega arith)
good_spelled (suc n) p l h long g =
    let f = first_good n p l g in
    ap (λ (m : List ℕ). encode_slot (slot_in l) ++ m) (good_spelled n (name_in l) (drop 32 l) (drop_bytes 32 l h) (omega (arith, length-drop 32 l)) f.others)
    ∙ slot_spelled l h (omega arith) f.named

pub good_table : (table : List ℕ) → AreBytes table → Good table → TableOf (slots_in (slot_count table) table) table
good_table table h g =
    let w = whole table g in
    record {
      taken = good_taken (slot_count table) [] table h w.are;
      ordered = good_ordered (slot_count table) [] table w.are;
      spelled = good_spelled (slot_count table) [] table h w.long w.are;
    }

-- ---- a table: no slot is bad, and these are its slots

until_name : (x : List ℕ) (n : ℕ) → all ok_byte x ≡ true → until_zero (x ++ replicate n 0) ≡ x
unfolding until_zero all
until_name [] zero h = refl
until_name [] (suc n) h = refl
until_name (b ∷ x) n h =
    let p = both_true (ok_byte b) (all ok_byte x) h in
    let q = leb-true 1 b (both_true (leb 1 b) (leb b 255) p.0).0 in
    rw (ne_eqb b 0 (λ e. omega arith), until_name x n p.1)

all_zeros : (n : ℕ) → all is_zero (replicate n 0) ≡ true
unfolding all
all_zeros zero = refl
all_zeros (suc n) = all_zeros n

module _ (s : Slot) (rest : List ℕ) (t : slot_taken s ≡ true) where
  fill : List ℕ
  fill = replicate (28 - length s.name) 0

  some_name : 1 ≤ length s.name
  some_name = leb-true 1 _ (both_true (leb 1 (length s.name)) _ t).0

  parts : (leb (length s.name) 28 ≡ true) × ((all ok_byte s.name && ltb s.number 4294967296) ≡ true)
  parts = both_true (leb (length s.name) 28) _ (both_true (leb 1 (length s.name)) _ t).1

  short_name : length s.name ≤ 28
  short_name = leb-true _ 28 parts.0

  bytes_name : all ok_byte s.name ≡ true
  bytes_name = (both_true (all ok_byte s.name) _ parts.1).0

  small_number : s.number < 4294967296
  small_number = ltb-true _ 4294967296 (both_true (all ok_byte s.name) _ parts.1).1

  long_field : length (s.name ++ fill) ≡ 28
  unfolding fill
  long_field = let h = short_name in omega (arith, length-append s.name (replicate (28 - length s.name) 0), length-replicate {A = ℕ} (28 - length s.name) 0)

  split : encode_slot s ++ rest ≡ (s.name ++ fill) ++ (bytes_of 4 s.number ++ rest)
  unfolding encode_slot fill
  split = simp append_assoc

  field : take 28 (encode_slot s ++ rest) ≡ s.name ++ fill
  field = ap (λ (l : List ℕ). take 28 l) split ∙ take_at (s.name ++ fill) _ 28 long_field

  the_name : name_in (encode_slot s ++ rest) ≡ s.name
  unfolding name_in fill
  the_name = ap until_zero field ∙ until_name s.name (28 - length s.name) bytes_name

  has_name : is_named (encode_slot s ++ rest) ≡ true
  unfolding is_named fill
  has_name = rw (the_name, field, le-leb 1 _ some_name, drop_at s.name (replicate (28 - length s.name) 0) (length s.name) refl, all_zeros (28 - length s.name))

  the_number : number_at 4 (encode_slot s ++ rest) 28 ≡ s.number
  the_number = ap (λ (l : List ℕ). number_at 4 l 28) split ∙ number_here 4 (s.name ++ fill) (bytes_of 4 s.number ++ rest) 28 long_field ∙ number_front 4 s.number rest small_number

  long_slot : length (encode_slot s) ≡ 32
  unfolding encode_slot fill
  long_slot =
      let h = long_field in
      let e : encode_slot s ≡ (s.name ++ replicate (28 - length s.name) 0) ++ bytes_of 4 s.number = simp append_assoc in
      ap length e ∙ (omega (arith, length-append (s.name ++ replicate (28 - length s.name) 0) (bytes_of 4 s.number), length_bytes 4 s.number))

  pub behind_slot : drop 32 (encode_slot s ++ rest) ≡ rest
  behind_slot = drop_at (encode_slot s) rest 32 long_slot

  the_slot : slot_in (encode_slot s ++ rest) ≡ s
  unfolding slot_in
  the_slot = go (name_in (encode_slot s ++ rest)) (number_at 4 (encode_slot s ++ rest) 28) the_name the_number
    where
      go : (x : List ℕ) (n : ℕ) → x ≡ s.name → n ≡ s.number → record { name = x; number = n } ≡ s
      go x n e f = rw (e, f)

  length_slots : length (encode_slot s ++ rest) ≡ 32 + length rest
  length_slots = let h = long_slot in omega (arith, length-append (encode_slot s) rest)

abbrev Follows : List ℕ → List Slot → Type 0
Follows p [] = Unit {0}
Follows p (s ∷ ss) = Before p s.name

pub record Only (slots : List Slot) (p l : List ℕ) : Type 0 where
  pub long : length l ≡ 32 * length slots
  pub are : AreGood (length slots) p l
  pub these : slots_in (length slots) l ≡ slots

next_follows : (s : Slot) (ss : List Slot) → in_order (s ∷ ss) ≡ true → Follows s.name ss × (in_order ss ≡ true)
unfolding in_order
next_follows s [] e = (tt, refl)
next_follows s (t ∷ ts) e = let p = both_true (before s.name t.name) (in_order (t ∷ ts)) e in (before_is s.name t.name p.0, p.1)

one_more : (n : ℕ) (p l : List ℕ) → is_named l ≡ true → before p (name_in l) ≡ true → AreGood n (name_in l) (drop 32 l) → AreGood (suc n) p l
unfolding bad_at
one_more n p l e f g = rw (e, f) (omega arith)

only : (slots : List Slot) (p : List ℕ) → slots_taken slots ≡ true → in_order slots ≡ true → Follows p slots → Only slots p (joined encode_slot slots)
unfolding slots_taken slots_in bad_at
only [] p t o f = record { long = refl; are = refl; these = refl }
only (s ∷ ss) p t o f =
    let q = both_true (slot_taken s) (slots_taken ss) t in
    let n = next_follows s ss o in
    let ih = only ss s.name q.1 n.1 n.0 in
    let name = the_name s (joined encode_slot ss) q.0 in
    let past = behind_slot s (joined encode_slot ss) q.0 in
    record {
      long = length_slots s (joined encode_slot ss) q.0 ∙ (let h = ih.long in omega arith);
      are = one_more (length ss) p (encode_slot s ++ joined encode_slot ss) (has_name s (joined encode_slot ss) q.0) (rw name (is_before f)) (rw (name, past) ih.are);
      these = rw (the_slot s (joined encode_slot ss) q.0, past, ih.these);
    }

starts : (slots : List Slot) → slots_taken slots ≡ true → Follows [] slots
unfolding slots_taken
starts [] t = tt
starts (s ∷ ss) t = go s.name (some_name s [] (both_true (slot_taken s) (slots_taken ss) t).0)
  where
    go : (x : List ℕ) → 1 ≤ length x → Before [] x
    go [] h = absurd (omega arith)
    go (b ∷ x) h = shorter b x

pub record Unique (slots : List Slot) (table : List ℕ) : Type 0 where
  pub good : Good table
  pub these : slots_in (slot_count table) table ≡ slots

pub table_good : (slots : List Slot) (table : List ℕ) → TableOf slots table → Unique slots table
table_good slots table t =
    let o : Only slots [] table = rw t.spelled at (only slots [] t.taken t.ordered (starts slots t.taken)) in
    let h = o.long in
    let n : slot_count table ≡ length slots = omega arith in
    record { good = record { good = rw n (o.are ∙ sym h) }; these = rw n o.these }

-- what reading JSON needs of the table
pub tables : (table : List ℕ) → AreBytes table → Tables table
tables table h = record {
  good = λ g. good_table table h (record { good = g });
  only = λ slots t. let u = table_good slots table t in (u.good.good, u.these);
}
