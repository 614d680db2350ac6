-- How far a text agrees with a word, and that a literal is told by it. Assumes nothing.
use mathlib.Core.Path.{◌≡◌, refl, ap, sym, ◌∙◌}
use mathlib.Core.Bool.{Bool, true, false, cond, ◌&&◌}
use mathlib.Core.List.{List, [], ◌∷◌}
use mathlib.Core.Option.{Option, none, some}
use Prim.Native.Nat.{ℕ, suc, ◌+◌, ◌≤◌}
use native.Mathlib.Omega.{arith}
use lib.Dec.{eqb, leb}
use lib.ListN.{length, take, drop, get_or, length-drop}
use lib.Seq.{drop-drop}
use borrow.Author.Tests.{leb-true, eqb-true, eqb-false, eq-eqb, ne_eqb}
use Rattle.definitions.specs.Json.{ascii, all, null}
use Rattle.definitions.specs.JsonForm.{same}
use Rattle.definitions.specs.JsonReader.{got, stop, not_json, follow, apart, literal_at}
use Rattle.definitions.specs.FormReader.{string_there, null_or}
use Rattle.json_theorems.proofs.Tests.{both_true}
use Rattle.json_numbers.proofs.Counting.{first_at}
use Rattle.json_scan.specs.Scan.{Tells}
use Rattle.json_parts.specs.Agreeing.{agree}
use Rattle.json_parts.proofs.Places.{put_in}

abbrev Seen : List ℕ → Type 0
Seen word = all (λ b. leb 1 b) word ≡ true

-- the word's bytes are no zeros, so that nothing agrees with them behind the end
apart_is : (word l : List ℕ) → Seen word → apart word l ≡ drop (agree word l) l
unfolding apart agree all
apart_is [] l h = refl
apart_is (a ∷ word) [] h =
    let p = both_true (leb 1 a) (all (λ b. leb 1 b) word) h in
    rw (ne_eqb 0 a (λ e. omega (arith, leb-true 1 a p.0)))
apart_is (a ∷ word) (b ∷ l) h = go (eqb a b) refl (apart_is word l (both_true (leb 1 a) (all (λ b. leb 1 b) word) h).1)
  where
    turned : (t : Bool) → eqb a b ≡ t → eqb b a ≡ t
    turned true e = eq-eqb b a (sym (eqb-true a b e))
    turned false e = ne_eqb b a (λ f. eqb-false a b e (sym f))

    go : (t : Bool) → eqb a b ≡ t → apart word l ≡ drop (agree word l) l
        → cond (eqb a b) (apart word l) (b ∷ l) ≡ drop (cond (eqb b a) (suc (agree word l)) 0) (b ∷ l)
    go true e ih = rw (e, turned true e) ih
    go false e ih = rw (e, turned false e)

both_more : (a b : ℕ) → eqb a b ≡ eqb (suc a) (suc b)
both_more a b = go (eqb a b) refl
  where
    go : (t : Bool) → eqb a b ≡ t → eqb a b ≡ eqb (suc a) (suc b)
    go true e = e ∙ sym (eq-eqb (suc a) (suc b) (ap suc (eqb-true a b e)))
    go false e = e ∙ sym (ne_eqb (suc a) (suc b) (λ f. eqb-false a b e (omega arith)))

same_is : (word l : List ℕ) → Seen word → same (take (length word) l) word ≡ eqb (agree word l) (length word)
unfolding same agree all
same_is [] l h = refl
same_is (a ∷ word) [] h =
    let p = both_true (leb 1 a) (all (λ b. leb 1 b) word) h in
    rw (ne_eqb 0 a (λ e. omega (arith, leb-true 1 a p.0))) (sym (ne_eqb 0 (suc (length word)) (λ e. omega arith)))
same_is (a ∷ word) (b ∷ l) h = rw (same_is word l (both_true (leb 1 a) (all (λ b. leb 1 b) word) h).1) (go (eqb b a))
  where
    go : (t : Bool) → (t && eqb (agree word l) (length word)) ≡ eqb (cond t (suc (agree word l)) 0) (suc (length word))
    go true = both_more (agree word l) (length word)
    go false = sym (ne_eqb 0 (suc (length word)) (λ e. omega arith))

agree_short : (word l : List ℕ) → Seen word → agree word l ≤ length l
unfolding agree all
agree_short [] l h = omega arith
agree_short (a ∷ word) [] h =
    let p = both_true (leb 1 a) (all (λ b. leb 1 b) word) h in
    rw (ne_eqb 0 a (λ e. omega (arith, leb-true 1 a p.0))) (omega arith)
agree_short (a ∷ word) (b ∷ l) h = go (eqb b a) (agree_short word l (both_true (leb 1 a) (all (λ b. leb 1 b) word) h).1)
  where
    go : (t : Bool) → agree word l ≤ length l → cond t (suc (agree word l)) 0 ≤ suc (length l)
    go true ih = omega arith
    go false ih = omega arith

-- ---- null

null_agrees : (text : List ℕ) (at : ℕ) → agree (ascii "null") (drop at text)
    ≡ cond (eqb (get_or text at 0) 0x6e) (suc (cond (eqb (get_or text (at + 1) 0) 0x75) (suc (cond (eqb (get_or text (at + 2) 0) 0x6c) (suc (cond (eqb (get_or text (at + 3) 0) 0x6c) 1 0)) 0)) 0)) 0
unfolding agree ascii
null_agrees text at =
    let e2 : at + 2 ≡ at + 1 + 1 = omega arith in
    let e3 : at + 3 ≡ at + 1 + 1 + 1 = omega arith in
    rw (e2, e3, drop-drop 1 at text, drop-drop 1 (at + 1) text, drop-drop 1 (at + 1 + 1) text, first_at text at, first_at text (at + 1), first_at text (at + 1 + 1), first_at text (at + 1 + 1 + 1))

-- null_count, return by return
module _ (text : List ℕ) (at : ℕ) where
  pub none_agrees : (get_or text at 0 ≡ 0x6e → ⊥) → 0 ≡ agree (ascii "null") (drop at text)
  none_agrees e = sym (null_agrees text at ∙ rw (ne_eqb _ _ e))

  module _ (e : get_or text at 0 ≡ 0x6e) where
    pub one_agrees : (get_or text (at + 1) 0 ≡ 0x75 → ⊥) → 1 ≡ agree (ascii "null") (drop at text)
    one_agrees f = sym (null_agrees text at ∙ rw (eq-eqb _ _ e, ne_eqb _ _ f))

    module _ (f : get_or text (at + 1) 0 ≡ 0x75) where
      pub two_agree : (get_or text (at + 2) 0 ≡ 0x6c → ⊥) → 2 ≡ agree (ascii "null") (drop at text)
      two_agree g = sym (null_agrees text at ∙ rw (eq-eqb _ _ e, eq-eqb _ _ f, ne_eqb _ _ g))

      module _ (g : get_or text (at + 2) 0 ≡ 0x6c) where
        pub three_agree : (get_or text (at + 3) 0 ≡ 0x6c → ⊥) → 3 ≡ agree (ascii "null") (drop at text)
        three_agree h = sym (null_agrees text at ∙ rw (eq-eqb _ _ e, eq-eqb _ _ f, eq-eqb _ _ g, ne_eqb _ _ h))

        pub all_agree : get_or text (at + 3) 0 ≡ 0x6c → 4 ≡ agree (ascii "null") (drop at text)
        all_agree h = sym (null_agrees text at ∙ rw (eq-eqb _ _ e, eq-eqb _ _ f, eq-eqb _ _ g, eq-eqb _ _ h))

seen_null : Seen (ascii "null")
unfolding all ascii
seen_null = refl

literal_read : (l : List ℕ) (n : ℕ) → n ≡ agree (ascii "null") l → n ≡ 4 → literal_at (ascii "null") null l ≡ got null (drop n l)
unfolding literal_at ascii
literal_read l n e f = rw (same_is (ascii "null") l seen_null, ← e, f)

literal_refused : (l : List ℕ) (n : ℕ) → n ≡ agree (ascii "null") l → (n ≡ 4 → ⊥) → literal_at (ascii "null") null l ≡ stop not_json (drop n l)
unfolding literal_at ascii
literal_refused l n e f = rw (same_is (ascii "null") l seen_null, apart_is (ascii "null") l seen_null, ← e, ne_eqb n 4 f)

-- ---- a comment

module _ (text : List ℕ) (at : ℕ) where
  comment_is : (get_or text at 0 ≡ 0x6e → ⊥) → null_or string_there (drop at text) ≡ follow (string_there (drop at text)) (λ s rest. got (some s) rest)
  unfolding null_or
  comment_is e = rw (first_at text at, ne_eqb _ _ e)

  pub a_string_lem : {Is : List ℕ → Type 0} {Is' : Option (List ℕ) → Type 0} {code place : ℕ} → (get_or text at 0 ≡ 0x6e → ⊥) → ((s : List ℕ) → Is s → Is' (some s))
      → Tells text at Is (string_there (drop at text)) code place → Tells text at Is' (null_or string_there (drop at text)) code place
  a_string_lem e f t = rw (comment_is e) (put_in some f t)

  module _ (e : get_or text at 0 ≡ 0x6e) (n : ℕ) (en : n ≡ agree (ascii "null") (drop at text)) where
    pub null_on : at ≤ length text → at + n ≤ length text
    null_on h = omega (arith, agree_short (ascii "null") (drop at text) seen_null, length-drop at text)

    pub null_read : n ≡ 4 → null_or string_there (drop at text) ≡ got none (drop n (drop at text))
    unfolding null_or
    null_read f = rw (first_at text at, eq-eqb _ _ e, literal_read (drop at text) n en f)

    pub null_refused : (n ≡ 4 → ⊥) → null_or string_there (drop at text) ≡ stop not_json (drop n (drop at text))
    unfolding null_or
    null_refused f = rw (first_at text at, eq-eqb _ _ e, literal_refused (drop at text) n en f)
