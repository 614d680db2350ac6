-- Slots by places. Assumes nothing.
use mathlib.Core.Path.{◌≡◌, refl, ap, sym, ◌∙◌}
use mathlib.Core.Bool.{Bool, true, false, cond, not, ◌&&◌, ◌||◌}
use mathlib.Core.List.{List, [], ◌∷◌, ◌++◌, append_assoc}
use mathlib.Core.Option.{none, some}
use Prim.Native.Nat.{ℕ, zero, suc, ◌+◌, ◌-◌, ◌*◌, ◌≤◌, ◌<◌}
use native.Mathlib.Omega.{arith}
use lib.Dec.{eqb, leb, ltb}
use lib.ListN.{length, get_or, take, drop, replicate, length-take, length-drop, take-append-drop, replicate-append-replicate}
use lib.Seq.{drop-drop, take-append-add, take_at}
use borrow.Author.Tests.{eqb-true, eqb-false, ltb-true, ltb-false, le-leb}
use Rattle.std.specs.Prelude.{Option as Answer, Some, None, unwrap_or, position}
use Rattle.std.specs.Simd.{first_chunks}
use Rattle.std.specs.List.{position_or_len, list_all, list_any}
use Rattle.std.proofs.lemmas.List.{take-take, drop-take}
use Rattle.std.proofs.lemmas.Bool.{cases_eq}
use Rattle.std.proofs.Common.{⊎_elim}
use Rattle.std.proofs.lemmas.List.Recursion.{is_position_or_len}
use Rattle.std.specs.declared.cmp.Ordering.{Ordering}
use Rattle.std.specs.declared.cmp.Ordering.TheVariants.{Less, Equal, Greater}
use Rattle.std.specs.Ordering.{is_lt, is_ge, is_some_and, nat_cmp}
use Rattle.std.specs.Cmp.Lexicographic.{slice_partial_cmp, lists_agrees}
use Rattle.definitions.specs.Word.{number_at}
use Rattle.definitions.specs.Json.{all}
use Rattle.definitions.specs.JsonForm.{same}
use Rattle.definitions.specs.CallNames.{before, number_for, is_zero, until_zero, name_in, slot_in, slots_in, is_named, bad_at, first_bad, slot_count}
use Rattle.json_theorems.proofs.Tests.{both_true, false_not_true}
use Rattle.call_names.specs.Slots.{Good, compared, Kept, Answers}
use Rattle.json_theorems.proofs.Values.{same_true, same_self}
use Rattle.call_names.proofs.Ranks.{Before, before_is, before_trans, not_same, is_byte, Ranked, ranked_less, ranked_same, ranked_greater, rank, before_ranked, never}

-- ---- bytes up to a zero

pub until_bytes : (l : List ℕ) → all is_byte (until_zero l) ≡ true
unfolding until_zero all
until_bytes [] = refl
until_bytes (b ∷ l) = go (eqb b 0) refl (until_bytes l)
  where
    go : (t : Bool) → eqb b 0 ≡ t → all is_byte (until_zero l) ≡ true → all is_byte (cond t [] (b ∷ until_zero l)) ≡ true
    go true e ih = refl
    go false e ih = let h = eqb-false b 0 e in rw (le-leb 1 b (omega (arith, h)), ih)

pub until_short : (l : List ℕ) → length (until_zero l) ≤ length l
unfolding until_zero
until_short [] = omega arith
until_short (b ∷ l) = go (eqb b 0) (until_short l)
  where
    go : (t : Bool) → length (until_zero l) ≤ length l → length (cond t [] (b ∷ until_zero l)) ≤ suc (length l)
    go true ih = omega arith
    go false ih = omega arith

pub until_split : (l : List ℕ) → until_zero l ++ drop (length (until_zero l)) l ≡ l
unfolding until_zero
until_split [] = refl
until_split (b ∷ l) = go (eqb b 0) (until_split l)
  where
    go : (t : Bool) → until_zero l ++ drop (length (until_zero l)) l ≡ l
        → cond t [] (b ∷ until_zero l) ++ drop (length (cond t [] (b ∷ until_zero l))) (b ∷ l) ≡ b ∷ l
    go true ih = refl
    go false ih = ap (λ (m : List ℕ). b ∷ m) ih

pub zeros_are : (l : List ℕ) → all is_zero l ≡ true → l ≡ replicate (length l) 0
unfolding all
zeros_are [] h = refl
zeros_are (b ∷ l) h =
    let p = both_true (is_zero b) (all is_zero l) h in
    let e : b ≡ 0 = eqb-true b 0 p.0 in
    let f = zeros_are l p.1 in
    rw (e, ← f)

-- ---- good slots

-- n slots are good, behind the name p
abbrev pub AreGood : ℕ → List ℕ → List ℕ → Type 0
AreGood n p l = bad_at n p l ≡ 32 * n

pub record FirstGood (n : ℕ) (p l : List ℕ) : Type 0 where
  pub named : is_named l ≡ true
  pub behind : Before p (name_in l)
  pub others : AreGood n (name_in l) (drop 32 l)

pub first_good : (n : ℕ) (p l : List ℕ) → AreGood (suc n) p l → FirstGood n p l
unfolding bad_at
first_good n p l g = go (is_named l) refl (before p (name_in l)) refl g
  where
    go : (s : Bool) → is_named l ≡ s → (t : Bool) → before p (name_in l) ≡ t → cond (s && t) (32 + bad_at n (name_in l) (drop 32 l)) 0 ≡ 32 * suc n → FirstGood n p l
    go true es true et h = record { named = es; behind = before_is p (name_in l) et; others = omega arith }
    go true es false et h = absurd (omega arith)
    go false es t et h = absurd (omega arith)

drop_slot : (i : ℕ) (l : List ℕ) → drop (32 * suc i) l ≡ drop (32 * i) (drop 32 l)
drop_slot i l = let e : 32 * suc i ≡ 32 + 32 * i = omega arith in rw e (sym (drop-drop (32 * i) 32 l))

-- slots further on are good too
pub later_good : (t i n : ℕ) (p l : List ℕ) → t ≡ i + n → AreGood t p l → (q : List ℕ) × AreGood n q (drop (32 * i) l)
later_good t zero n p l e g = let f : t ≡ n = omega arith in (p, rw f at g)
later_good zero (suc i) n p l e g = absurd (omega arith)
later_good (suc t) (suc i) n p l e g =
    let f = first_good t p l g in
    let r = later_good t i n (name_in l) (drop 32 l) (omega arith) f.others in
    (r.0, rw (drop_slot i l) r.1)

-- ---- looking up, by the name of one slot

module _ (k : List ℕ) where
  here : (n : ℕ) (l : List ℕ) → number_for (slots_in (suc n) l) k ≡ cond (same (name_in l) k) (some (number_at 4 l 28)) (number_for (slots_in n (drop 32 l)) k)
  unfolding number_for slots_in slot_in
  here n l = refl

  first_before : (t i m : ℕ) (q l : List ℕ) → t ≡ i + suc m → AreGood t q l → name_in (drop (32 * i) l) ≡ k → Before q k
  first_before zero i m q l n g e = absurd (omega arith)
  first_before (suc t) zero m q l n g e = rw (← e) (first_good t q l g).behind
  first_before (suc t) (suc i) m q l n g e =
      let f = first_good t q l g in
      before_trans f.behind (first_before t i m (name_in l) (drop 32 l) (omega arith) f.others (rw (drop_slot i l) at e))

  pub found_here : (t i m : ℕ) (p l : List ℕ) → t ≡ i + suc m → AreGood t p l → name_in (drop (32 * i) l) ≡ k
      → number_for (slots_in t l) k ≡ some (number_at 4 (drop (32 * i) l) 28)
  found_here zero i m p l n g e = absurd (omega arith)
  found_here (suc t) zero m p l n g e = here t l ∙ rw (e, same_self k)
  found_here (suc t) (suc i) m p l n g e =
      let f = first_good t p l g in
      let b = first_before t i m (name_in l) (drop 32 l) (omega arith) f.others (rw (drop_slot i l) at e) in
      here t l ∙ rw (not_same b, drop_slot i l) (found_here t i m (name_in l) (drop 32 l) (omega arith) f.others (rw (drop_slot i l) at e))

  -- none of the slots has the name
  pub not_here : (n : ℕ) (l : List ℕ) → ((i : ℕ) → i < n → name_in (drop (32 * i) l) ≡ k → ⊥) → number_for (slots_in n l) k ≡ none
  unfolding number_for slots_in
  not_here zero l f = refl
  not_here (suc n) l f = here n l ∙ go (same (name_in l) k) refl (not_here n (drop 32 l) (λ i h e. f (suc i) (omega arith) (rw (drop_slot i l) e)))
    where
      go : (t : Bool) → same (name_in l) k ≡ t → number_for (slots_in n (drop 32 l)) k ≡ none
          → cond t (some (number_at 4 l 28)) (number_for (slots_in n (drop 32 l)) k) ≡ none
      go true e ih = absurd (f 0 (omega arith) (same_true (name_in l) k e))
      go false e ih = ih

-- ---- no name is like it

no_name : (k : List ℕ) → ((l : List ℕ) → name_in l ≡ k → ⊥) → (n : ℕ) (l : List ℕ) → number_for (slots_in n l) k ≡ none
no_name k f n l = not_here k n l (λ i h. f (drop (32 * i) l))

pub name_short : (l : List ℕ) → length (name_in l) ≤ 28
unfolding name_in
name_short l = omega (arith, until_short (take 28 l), length-take 28 l)

pub too_long : (k : List ℕ) → 28 < length k → (n : ℕ) (l : List ℕ) → number_for (slots_in n l) k ≡ none
too_long k h = no_name k (λ l e. omega (arith, name_short l, ap length e))

name_bytes : (l : List ℕ) → all is_byte (name_in l) ≡ true
unfolding name_in
name_bytes l = until_bytes (take 28 l)

byte_not_zero : (b : ℕ) → is_byte b ≡ not (is_zero b)
byte_not_zero b = go (eqb b 0) refl
  where
    go : (t : Bool) → eqb b 0 ≡ t → leb 1 b ≡ not t
    go true e = rw (eqb-true b 0 e)
    go false e = let h = eqb-false b 0 e in le-leb 1 b (omega (arith, h))

zero_free : (k : List ℕ) → all is_byte k ≡ not (list_any is_zero k)
unfolding all
zero_free [] = refl
zero_free (b ∷ k) = rw (byte_not_zero b, zero_free k) (go (is_zero b) (list_any is_zero k))
  where
    go : (s t : Bool) → (not s && not t) ≡ not (s || t)
    go true t = refl
    go false t = refl

pub has_zero : (k : List ℕ) → list_any is_zero k ≡ true → (n : ℕ) (l : List ℕ) → number_for (slots_in n l) k ≡ none
has_zero k h = no_name k (λ l e. false_not_true (sym (zero_free k ∙ ap not h) ∙ rw e at (name_bytes l)))

-- ---- how a name stands in the table, and how it is kept

-- a name, or none, and zeros behind it up to 28 bytes
abbrev pub Filled : List ℕ → Type 0
Filled l = l ≡ name_in l ++ (replicate (28 - length (name_in l)) 0 ++ drop 28 l)

pub spells : (l : List ℕ) → 28 ≤ length l → is_named l ≡ true → Filled l
unfolding is_named name_in
spells l h e =
    let z = (both_true (leb 1 (length (until_zero (take 28 l)))) _ e).1 in
    let f = zeros_are (drop (length (until_zero (take 28 l))) (take 28 l)) z in
    let n : length (drop (length (until_zero (take 28 l))) (take 28 l)) ≡ 28 - length (until_zero (take 28 l)) = omega (arith, length-drop (length (until_zero (take 28 l))) (take 28 l), length-take 28 l) in
    sym (take-append-drop 28 l) ∙ ap (λ (m : List ℕ). m ++ drop 28 l) (sym (until_split (take 28 l)) ∙ ap (λ (m : List ℕ). until_zero (take 28 l) ++ m) (f ∙ ap (λ (x : ℕ). replicate x 0) n))
    ∙ append_assoc (until_zero (take 28 l)) _ (drop 28 l)

take_zeros : (n m : ℕ) → n ≤ m → ◌≡◌ {A = List ℕ} (take n (replicate m 0)) (replicate n 0)
take_zeros zero m h = refl
take_zeros (suc n) zero h = absurd (omega arith)
take_zeros (suc n) (suc m) h = ap (λ (l : List ℕ). 0 ∷ l) (take_zeros n m (omega arith))

pub kept_bytes : (k buffer : List ℕ) (count : ℕ) → Kept k buffer count → count ≤ 28 → buffer ≡ k ++ (replicate (28 - length k) 0 ++ replicate 4 0)
kept_bytes k buffer count kept h =
    let c = kept.counted in
    let e : 32 ≡ length k + (32 - length k) = omega arith in
    let f : 32 - length k ≡ 28 - length k + 4 = omega arith in
    sym kept.bytes ∙ ap (λ (x : ℕ). take x (k ++ replicate 32 0)) e ∙ take-append-add k (replicate 32 0) (32 - length k)
    ∙ ap (λ (m : List ℕ). k ++ m) (take_zeros (32 - length k) 32 (omega arith) ∙ ap (λ (x : ℕ). replicate x 0) f ∙ sym (replicate-append-replicate (28 - length k) 4 0))

pub kept_front : (k buffer : List ℕ) (count : ℕ) → Kept k buffer count → count ≤ 28 → take count buffer ≡ k
kept_front k buffer count kept h = ap (λ (m : List ℕ). take count m) (kept_bytes k buffer count kept h) ∙ take_at k _ count kept.counted

ranked_as : {x y a b a' b' : List ℕ} → a ≡ a' → b ≡ b' → Ranked x y (compared 28 a' b') → Ranked x y (compared 28 a b)
ranked_as ea eb r = rw (ea, eb) r

pub slot_ranked : (l k buffer : List ℕ) (count : ℕ) → Kept k buffer count → count ≤ 28 → all is_byte k ≡ true → Filled l → Ranked (name_in l) k (compared 28 l buffer)
slot_ranked l k buffer count kept h bytes f =
    let c = kept.counted in
    ranked_as f (kept_bytes k buffer count kept h)
    (rank 28 (28 - length (name_in l)) (28 - length k) (name_in l) k (drop 28 l) (replicate 4 0) (name_bytes l) bytes (omega (arith, name_short l)) (omega arith))

filled_ranked : (l m : List ℕ) → Filled l → Filled m → Ranked (name_in l) (name_in m) (compared 28 l m)
filled_ranked l m f g =
    ranked_as f g
    (rank 28 (28 - length (name_in l)) (28 - length (name_in m)) (name_in l) (name_in m) (drop 28 l) (drop 28 m) (name_bytes l) (name_bytes m) (omega (arith, name_short l)) (omega (arith, name_short m)))

-- ---- the search

bad_short : (n : ℕ) (p l : List ℕ) → bad_at n p l ≤ 32 * n
unfolding bad_at
bad_short zero p l = omega arith
bad_short (suc n) p l = go (is_named l && before p (name_in l)) (bad_short n (name_in l) (drop 32 l))
  where
    go : (t : Bool) → bad_at n (name_in l) (drop 32 l) ≤ 32 * n → cond t (32 + bad_at n (name_in l) (drop 32 l)) 0 ≤ 32 * suc n
    go true h = omega arith
    go false h = omega arith

pub record Whole (table : List ℕ) : Type 0 where
  pub long : length table ≡ 32 * slot_count table
  pub are : AreGood (slot_count table) [] table

pub whole : (table : List ℕ) → Good table → Whole table
whole table g =
    let b = bad_short (slot_count table) [] table in
    let e = g.good in
    record { long = omega arith; are = omega arith }

named_there : (t i m : ℕ) (p l : List ℕ) → t ≡ i + suc m → AreGood t p l → is_named (drop (32 * i) l) ≡ true
named_there t i m p l e g = let r = later_good t i (suc m) p l e g in (first_good m r.0 (drop (32 * i) l) r.1).named

drop_take : (n m : ℕ) (l : List ℕ) → n ≤ m → drop n (take m l) ≡ take (m - n) (drop n l)
drop_take n m l h = let e : n + (m - n) ≡ m = omega arith in ap (λ (k : ℕ). drop n (take k l)) (sym e) ∙ drop-take n (m - n) l

-- the slots as they are cut off the table
slot_at : (n i : ℕ) (l d : List ℕ) → i < n → get_or (first_chunks 32 n l) i d ≡ take 32 (drop (32 * i) l)
slot_at zero i l d h = absurd (omega arith)
slot_at (suc n) zero l d h = refl
slot_at (suc n) (suc i) l d h = slot_at n i (drop 32 l) d (omega arith) ∙ ap (λ (x : List ℕ). take 32 x) (sym (drop_slot i l))

pub slot_is : (table : List ℕ) (slots : List (List ℕ)) (i : ℕ) → slots ≡ first_chunks 32 (slot_count table) table → i < slot_count table → get_or slots i [] ≡ take 32 (drop (32 * i) table)
slot_is table slots i are h = rw are (slot_at (slot_count table) i table [] h)

number_in_slot : (l : List ℕ) → number_at 4 (take 32 l) 28 ≡ number_at 4 l 28
unfolding number_at
number_in_slot l = rw (drop_take 28 32 l (omega arith), take-take 4 4 (drop 28 l) (omega arith))

module _ (table key : List ℕ) (count : ℕ) (g : Good table) (few : count ≤ 28) (k : List ℕ) (kept : Kept k key count) (bytes : all is_byte k ≡ true) where
  ranked : (i : ℕ) → i < slot_count table → Ranked (name_in (drop (32 * i) table)) k (compared 28 (drop (32 * i) table) key)
  ranked i h =
      let w = whole table g in
      slot_ranked (drop (32 * i) table) k key count kept few bytes
      (spells (drop (32 * i) table) (omega (arith, length-drop (32 * i) table, w.long)) (named_there (slot_count table) i (slot_count table - suc i) [] table (omega arith) w.are))

  ascends : (i j : ℕ) → i < j → j < slot_count table → Before (name_in (drop (32 * i) table)) (name_in (drop (32 * j) table))
  ascends i j a b =
      let r = later_good (slot_count table) i (suc (slot_count table - suc i)) [] table (omega arith) (whole table g).are in
      let f = first_good (slot_count table - suc i) r.0 (drop (32 * i) table) r.1 in
      first_before _ (slot_count table - suc i) (j - suc i) (slot_count table - suc j) (name_in (drop (32 * i) table)) (drop 32 (drop (32 * i) table)) (omega arith) f.others (ap name_in (further i j a))
    where
      further : (i j : ℕ) → i < j → drop (32 * (j - suc i)) (drop 32 (drop (32 * i) table)) ≡ drop (32 * j) table
      further i j a = let e : 32 * i + (32 + 32 * (j - suc i)) ≡ 32 * j = omega arith in rw (drop-drop (32 * (j - suc i)) 32 (drop (32 * i) table), drop-drop (32 + 32 * (j - suc i)) (32 * i) table, e)

  module _ (slots : List (List ℕ)) (are : slots ≡ first_chunks 32 (slot_count table) table) where
    slot_order : (i : ℕ) → i < slot_count table → compared 28 (get_or slots i []) key ≡ compared 28 (drop (32 * i) table) key
    slot_order i h = rw (are, slot_at (slot_count table) i table [] h, take-take 28 32 (drop (32 * i) table) (omega arith))

    pub found_there : (i : ℕ) → i < slot_count table → compared 28 (get_or slots i []) key ≡ Equal
        → number_for (slots_in (slot_count table) table) k ≡ some (number_at 4 (get_or slots i []) 28)
    found_there i h e =
        found_here k (slot_count table) i (slot_count table - suc i) [] table (omega arith) (whole table g).are (ranked_same (ranked i h) (sym (slot_order i h) ∙ e))
        ∙ ap some (sym (number_in_slot (drop (32 * i) table)) ∙ ap (λ (l : List ℕ). number_at 4 l 28) (sym (slot_is table slots i are h)))

    all_less : (i : ℕ) → i < slot_count table → compared 28 (get_or slots i []) key ≡ Less → (j : ℕ) → j < i + 1 → Before (name_in (drop (32 * j) table)) k
    all_less i h e j a =
        let here = ranked_less (ranked i h) (sym (slot_order i h) ∙ e) in
        ⊎_elim (λ same. rw same here) (λ ne. before_trans (ascends j i (omega (arith, ne)) h) here) (cases_eq j i)

    all_greater : (i : ℕ) → i < slot_count table → compared 28 (get_or slots i []) key ≡ Greater → (j : ℕ) → i ≤ j → j < slot_count table → Before k (name_in (drop (32 * j) table))
    all_greater i h e j a b =
        let here = ranked_greater (ranked i h) (sym (slot_order i h) ∙ e) in
        ⊎_elim (λ same. rw same here) (λ ne. before_trans here (ascends i j (omega (arith, ne)) b)) (cases_eq j i)

-- the slots below low have a lower name than what is kept so, and those from high on a greater one
pub record Searching (table key : List ℕ) (count low high : ℕ) : Type 0 where
  pub ordered : low ≤ high
  pub inside : high ≤ slot_count table
  pub below : (k : List ℕ) → Kept k key count → (i : ℕ) → i < low → Before (name_in (drop (32 * i) table)) k
  pub above : (k : List ℕ) → Kept k key count → (i : ℕ) → high ≤ i → i < slot_count table → Before k (name_in (drop (32 * i) table))

pub search_start : (table key : List ℕ) (count high : ℕ) → high ≡ slot_count table → Searching table key count 0 high
search_start table key count high e = record {
  ordered = omega arith;
  inside = omega arith;
  below = λ k kept i h. absurd (omega arith);
  above = λ k kept i a h. absurd (omega arith);
}

module _ (table key : List ℕ) (count low middle high : ℕ) (g : Good table) (s : Searching table key count low high) (lo : low ≤ middle) (hi : middle < high) (few : count ≤ 28)
    (bytes : (k : List ℕ) → Kept k key count → all is_byte k ≡ true) (slots : List (List ℕ)) (are : slots ≡ first_chunks 32 (slot_count table) table) where
  there : middle < slot_count table
  there = let h = s.inside in omega arith

  pub search_found : compared 28 (get_or slots middle []) key ≡ Equal → (k : List ℕ) → Kept k key count
      → number_for (slots_in (slot_count table) table) k ≡ some (number_at 4 (get_or slots middle []) 28)
  search_found e k kept = found_there table key count g few k kept (bytes k kept) slots are middle there e

  pub search_low : compared 28 (get_or slots middle []) key ≡ Less → (next : ℕ) → next ≤ middle + 1 → Searching table key count next high
  search_low e next n = record {
    ordered = omega arith;
    inside = s.inside;
    below = λ k kept i h. all_less table key count g few k kept (bytes k kept) slots are middle there e i (omega arith);
    above = s.above;
  }

  pub search_high : compared 28 (get_or slots middle []) key ≡ Greater → Searching table key count low middle
  search_high e = record {
    ordered = lo;
    inside = (let h = there in omega arith);
    below = s.below;
    above = λ k kept. all_greater table key count g few k kept (bytes k kept) slots are middle there e;
  }

pub search_end : (table key : List ℕ) (count low high : ℕ) → Searching table key count low high → high ≤ low → (k : List ℕ) → Kept k key count
    → number_for (slots_in (slot_count table) table) k ≡ none
search_end table key count low high s h k kept = not_here k (slot_count table) table (λ i inside e. go i inside e (ltb i low) refl)
  where
    go : (i : ℕ) → i < slot_count table → name_in (drop (32 * i) table) ≡ k → (t : Bool) → ltb i low ≡ t → ⊥
    go i inside e true f = never (s.below k kept i (ltb-true i low f)) e
    go i inside e false f = never (s.above k kept i (let w = ltb-false i low f in omega arith) inside) (sym e)

-- ---- the check

bad_named : (n : ℕ) (p l : List ℕ) → is_named l ≡ true → before p (name_in l) ≡ true → bad_at (suc n) p l ≡ 32 + bad_at n (name_in l) (drop 32 l)
unfolding bad_at
bad_named n p l e f = rw (e, f)

bad_unnamed : (n : ℕ) (p l : List ℕ) → is_named l ≡ false → bad_at n p l ≡ 0
unfolding bad_at
bad_unnamed zero p l e = refl
bad_unnamed (suc n) p l e = rw e

bad_order : (n : ℕ) (p l : List ℕ) → is_named l ≡ true → before p (name_in l) ≡ false → bad_at n p l ≡ 0
unfolding bad_at
bad_order zero p l e f = refl
bad_order (suc n) p l e f = rw (e, f)

-- what `>=` answers of 28 bytes
abbrev pub is_from : List ℕ → List ℕ → Bool
is_from a b = is_some_and is_ge (slice_partial_cmp (λ x y. Some (nat_cmp x y)) (take 28 a) (take 28 b))

before_unless : {x y : List ℕ} (a b : List ℕ) → Ranked x y (compared 28 a b) → before x y ≡ not (is_from a b)
before_unless a b r = sym (before_ranked r) ∙ lt_unless (compared 28 a b) ∙ ap (λ (o : Answer Ordering). not (is_some_and is_ge o)) (sym (lists_agrees {R = nat_cmp} (λ x y. refl) (take 28 a) (take 28 b)))
  where
    lt_unless : (o : Ordering) → is_lt o ≡ not (is_ge o)
    lt_unless Less = refl
    lt_unless Equal = refl
    lt_unless Greater = refl

-- the first i slots are good, and prior is the last of them; for the first slot it has no name
pub record Checking (table prior : List ℕ) (i : ℕ) : Type 0 where
  pub filled : Filled prior
  pub rest : first_bad table ≡ 32 * i + bad_at (slot_count table - i) (name_in prior) (drop (32 * i) table)

pub check_start : (table : List ℕ) → Checking table (replicate 32 0) 0
unfolding name_in until_zero
check_start table = record { filled = refl; rest = (let e : slot_count table - 0 ≡ slot_count table = omega arith in rw e (omega arith)) }

module _ (table prior slot : List ℕ) (i : ℕ) (c : Checking table prior i) (inside : i < slot_count table) (is : slot ≡ take 32 (drop (32 * i) table)) where
  name : name_in slot ≡ name_in (drop (32 * i) table)
  unfolding name_in
  name = rw (is, take-take 28 32 (drop (32 * i) table) (omega arith))

  named : is_named slot ≡ is_named (drop (32 * i) table)
  unfolding is_named name_in
  named = rw (is, take-take 28 32 (drop (32 * i) table) (omega arith))

  filled : is_named slot ≡ true → Filled slot
  filled e = spells slot (omega (arith, ap length is, length-take 32 (drop (32 * i) table), length-drop (32 * i) table)) e

  behind : is_named slot ≡ true → before (name_in prior) (name_in (drop (32 * i) table)) ≡ not (is_from prior slot)
  behind e = ap (λ (x : List ℕ). before (name_in prior) x) (sym name) ∙ before_unless prior slot (filled_ranked prior slot c.filled (filled e))

  pub check_unnamed : is_named slot ≡ false → 32 * i ≡ first_bad table
  check_unnamed e = omega (arith, c.rest, bad_unnamed (slot_count table - i) (name_in prior) (drop (32 * i) table) (sym named ∙ e))

  pub check_order : is_named slot ≡ true → is_from prior slot ≡ true → 32 * i ≡ first_bad table
  check_order e f = omega (arith, c.rest, bad_order (slot_count table - i) (name_in prior) (drop (32 * i) table) (sym named ∙ e) (behind e ∙ ap not f))

  pub check_turn : is_named slot ≡ true → is_from prior slot ≡ false → Checking table slot (i + 1)
  check_turn e f =
      let n : slot_count table - i ≡ suc (slot_count table - (i + 1)) = omega arith in
      let p : 32 * (i + 1) ≡ 32 * i + 32 = omega arith in
      record {
        filled = filled e;
        rest = c.rest ∙ rw (n, bad_named (slot_count table - (i + 1)) (name_in prior) (drop (32 * i) table) (sym named ∙ e) (behind e ∙ ap not f), name, p, drop-drop 32 (32 * i) table)
            (sum (32 * i) (bad_at (slot_count table - (i + 1)) (name_in (drop (32 * i) table)) (drop (32 * i + 32) table)));
      }
    where
      sum : (a x : ℕ) → a + (32 + x) ≡ a + 32 + x
      sum a x = omega arith

pub check_end : (table prior : List ℕ) → Checking table prior (slot_count table) → 32 * slot_count table ≡ first_bad table
unfolding bad_at
check_end table prior c = let e : slot_count table - slot_count table ≡ 0 = omega arith in sym (c.rest ∙ rw e (omega arith))

-- what `position` and `all` answer
until_is_place : (l : List ℕ) → length (until_zero l) ≡ position_or_len is_zero l
unfolding until_zero
until_is_place = is_position_or_len (λ l. length (until_zero l)) is_zero refl (λ b l. step (is_zero b) b (until_zero l))
  where
    step : (t : Bool) (b : ℕ) (more : List ℕ) → length (cond t [] (b ∷ more)) ≡ cond t 0 (1 + length more)
    step true b more = refl
    step false b more = omega arith

pub until_place : (l : List ℕ) (n : ℕ) (found : Answer ℕ) → length l ≡ n → found ≡ position is_zero l
    → (unwrap_or found n ≡ length (until_zero l)) × (unwrap_or found n ≤ n)
until_place l n found e f = rw (f, until_is_place l) (go (ltb (position_or_len is_zero l) (length l)) refl)
  where
    short : position_or_len is_zero l ≤ n
    short = omega (arith, until_is_place l, until_short l)

    go : (t : Bool) → ltb (position_or_len is_zero l) (length l) ≡ t
        → (unwrap_or (cond t (Some (position_or_len is_zero l)) None) n ≡ position_or_len is_zero l) × (unwrap_or (cond t (Some (position_or_len is_zero l)) None) n ≤ n)
    go true h = (refl, short)
    go false h = (let w = ltb-false _ _ h in let v = short in omega arith, omega arith)

pub each_zero : (l : List ℕ) → list_all is_zero l ≡ all is_zero l
unfolding all
each_zero [] = refl
each_zero (b ∷ l) = ap (λ (t : Bool). is_zero b && t) (each_zero l)

pub unnamed : (l : List ℕ) (n : ℕ) → n ≡ length (until_zero (take 28 l)) → n ≡ 0 → false ≡ is_named l
unfolding is_named name_in
unnamed l n e z = rw (← e, z)

pub named_as : (l : List ℕ) (n : ℕ) (r : Bool) → n ≡ length (until_zero (take 28 l)) → n ≤ 28 → (n ≡ 0 → ⊥) → r ≡ list_all is_zero (take (28 - n) (drop n l)) → r ≡ is_named l
unfolding is_named name_in
named_as l n r e h z er = er ∙ rw (← e, le-leb 1 n (omega (arith, z)), drop_take n 28 l h) (each_zero (take (28 - n) (drop n l)))

-- ---- answers

pub answers_none : (table key : List ℕ) (count : ℕ) (r : Answer ℕ) → r ≡ None
    → ((k : List ℕ) → Kept k key count → number_for (slots_in (slot_count table) table) k ≡ none) → Answers table key count r
answers_none table key count r e f k kept = rw (f k kept) e

pub answers_some : (table key : List ℕ) (count n : ℕ) (r : Answer ℕ) → r ≡ Some n
    → ((k : List ℕ) → Kept k key count → number_for (slots_in (slot_count table) table) k ≡ some n) → Answers table key count r
answers_some table key count n r e f k kept = rw (f k kept) e

pub kept_long : (table key : List ℕ) (count : ℕ) → 28 < count → (k : List ℕ) → Kept k key count → number_for (slots_in (slot_count table) table) k ≡ none
kept_long table key count h k kept = let c = kept.counted in too_long k (omega arith) (slot_count table) table

-- a zero among the first bytes is one among more of them
any_more : (n m : ℕ) (l : List ℕ) → n ≤ m → list_any is_zero (take n l) ≡ true → list_any is_zero (take m l) ≡ true
any_more zero m l h e = absurd (false_not_true e)
any_more (suc n) zero l h e = absurd (omega arith)
any_more (suc n) (suc m) [] h e = absurd (false_not_true e)
any_more (suc n) (suc m) (b ∷ l) h e = go (is_zero b) e (any_more n m l (omega arith))
  where
    go : (t : Bool) → (t || list_any is_zero (take n l)) ≡ true → (list_any is_zero (take n l) ≡ true → list_any is_zero (take m l) ≡ true) → (t || list_any is_zero (take m l)) ≡ true
    go true f ih = refl
    go false f ih = ih f

module _ (key : List ℕ) (count n : ℕ) (few : count ≤ 28) (k : List ℕ) (kept : Kept k key count) where
  pub kept_zero : list_any is_zero (take n key) ≡ true → n ≤ count → (table : List ℕ) → number_for (slots_in (slot_count table) table) k ≡ none
  kept_zero e h table = has_zero k (rw (kept_front k key count kept few) at (any_more n count key h e)) (slot_count table) table

  pub kept_clean : list_any is_zero (take n key) ≡ false → count ≤ n → all is_byte k ≡ true
  kept_clean e h = zero_free k ∙ ap not (go (list_any is_zero k) refl)
    where
      go : (t : Bool) → list_any is_zero k ≡ t → list_any is_zero k ≡ false
      go false f = f
      go true f = absurd (false_not_true (sym e ∙ any_more count n key h (rw (kept_front k key count kept few) f)))

pub named_law : (l : List ℕ) → is_named l ≡ true → (leb 1 (length (name_in l)) && all is_zero (drop (length (name_in l)) (take 28 l))) ≡ true
unfolding is_named
named_law l h = h
