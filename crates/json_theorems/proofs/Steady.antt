-- The form's reader stays within the text: what is behind a part is shorter than what the part begins with, and a fault is told by one of the numbers
-- of faults, at a place of the text. Assumes nothing.
use mathlib.Core.Path.{◌≡◌, refl, subst}
use mathlib.Core.Bool.{Bool, true, false, cond, ◌||◌}
use mathlib.Core.List.{List, [], ◌∷◌, ◌++◌}
use mathlib.Core.Option.{Option, none, some}
use Prim.Native.Nat.{ℕ, zero, suc, ◌+◌, ◌≤◌, ◌<◌}
use native.Mathlib.Omega.{arith}
use lib.Dec.{eqb}
use lib.ListN.{length, take, drop, length-drop}
use borrow.Author.Tests.{eqb-true, eqb-false}
use Rattle.definitions.specs.RuleSet.{one_of}
use Rattle.definitions.specs.Json.{ascii, quote, backslash, is_digit, null}
use Rattle.definitions.specs.JsonForm.{same, Filter}
use Rattle.definitions.specs.JsonReader.{Got, got, stop, not_json, follow, first, blanks, ended, unless, Piece, character, on_piece, characters, string_at, placed, bad_character, escape_bad, plain_bad, bad_number, bad_whole, bad_fraction, whole_count, fraction_count, exponent_sign, sign_count, number_count, key_at, fields, object_at, items, array_at, literal_at, apart}
use Rattle.definitions.specs.FormReader.{not_of_form, wrong, string_there, on_number, number_there, number_text, object_there, array_there, behind_key, Judges, Verdict, fine, begun, closing, answered, judged, put_in, null_or, either_there, filters_there, all_read, whole, read_filters}
use Rattle.json_theorems.proofs.Faith.{number_faithful}
use Rattle.json_theorems.proofs.Closed.{is_refusal, is_fault, eleven_refusal, Judged, Fair, Closed, filters_closed}
use Rattle.json_theorems.proofs.Sizes.{blanks_size, reader_one}

-- ---- what came of a part that began with l

pub data Within {A : Type 0} (l : List ℕ) : Got A → Type 0 where
  behind : (a : A) (rest : List ℕ) → length rest < length l → Within l (got a rest)
  faulty : (k : ℕ) (m : List ℕ) → length m ≤ length l → is_fault k ≡ true → Within l (stop k m)

pub within_longer : {A : Type 0} (l m : List ℕ) (g : Got A) → length l ≤ length m → Within l g → Within m g
within_longer l m _ h (behind a rest w) = behind a rest (omega arith)
within_longer l m _ h (faulty k n w f) = faulty k n (omega arith) f

within_follow : {A B : Type 0} (l : List ℕ) (g : Got A) (f : A → List ℕ → Got B) → Within l g → ((a : A) (m : List ℕ) → length m < length l → Within l (f a m)) → Within l (follow g f)
within_follow l _ f (behind a rest w) h = h a rest w
within_follow l _ f (faulty k n w t) h = faulty k n w t

within_cond : {A : Type 0} (l : List ℕ) (t : Bool) (g h : Got A) → (t ≡ true → Within l g) → Within l h → Within l (cond t g h)
within_cond l true g h a b = a refl
within_cond l false g h a b = b

ten_fault : is_fault not_json ≡ true
unfolding one_of
ten_fault = refl

refusal_fault : (k : ℕ) → is_refusal k ≡ true → is_fault k ≡ true
refusal_fault k e = go (eqb k not_json)
  where
    go : (t : Bool) → (t || is_refusal k) ≡ true
    go true = refl
    go false = e

wrong_fault : (l : List ℕ) → is_fault (wrong l) ≡ true
unfolding wrong
wrong_fault l = go (eqb (first l) quote || (eqb (first l) 0x7b || (eqb (first l) 0x5b || (eqb (first l) 0x2d || (is_digit (first l) || (eqb (first l) 0x6e || (eqb (first l) 0x74 || eqb (first l) 0x66)))))))
  where
    go : (t : Bool) → is_fault (cond t not_of_form not_json) ≡ true
    go true = refusal_fault not_of_form eleven_refusal
    go false = ten_fault

ten : {A : Type 0} (l : List ℕ) → Within {A = A} l (stop not_json l)
ten l = faulty not_json l (omega arith) ten_fault

-- a byte that stands here is passed
passes : (c : ℕ) (l : List ℕ) → 1 ≤ c → eqb (first l) c ≡ true → length (drop 1 l) < length l
passes c [] h e = absurd (let z = eqb-true 0 c e in omega arith)
passes c (b ∷ l) h e = omega arith

pub within_ended : {A : Type 0} (c : ℕ) → 1 ≤ c → (a : A) (l : List ℕ) → Within l (ended c a l)
within_ended c h a l = within_cond l (eqb (first l) c) (got a (drop 1 l)) (stop not_json l) (λ e. behind a (drop 1 l) (passes c l h e)) (ten l)

-- ---- strings and numbers

pub drop_size : (n : ℕ) (l : List ℕ) → length (drop n l) ≤ length l
drop_size n l = omega (arith, length-drop n l)

pub within_characters : (n : ℕ) (l : List ℕ) → Within l (characters n l)
unfolding characters
within_characters zero l = ten l
within_characters (suc n) l =
    within_cond l (eqb (first l) quote) (got [] (drop 1 l)) _ (λ e. behind [] (drop 1 l) (passes quote l (omega arith) e)) (piece (character l) (within_characters n))
  where
    piece : (o : Option Piece) → ((m : List ℕ) → Within m (characters n m)) → Within l (on_piece o l (λ p. follow (characters n (drop p.used l)) (λ s rest. got (p.meant ++ s) rest)))
    piece none ih = ten l
    piece (some p) ih = within_follow l (characters n (drop p.used l)) (λ s rest. got (p.meant ++ s) rest) (within_longer (drop p.used l) l (characters n (drop p.used l)) (drop_size p.used l) (ih (drop p.used l))) (λ s m h. behind (p.meant ++ s) m h)

pub within_placed : (l : List ℕ) (g : Got (List ℕ)) → Within l g → Within l (placed bad_character g)
unfolding bad_character
within_placed l _ (behind s rest w) = behind s rest w
within_placed l _ (faulty k m w f) =
    let n : ℕ = cond (eqb (first m) backslash) (escape_bad m) (plain_bad m) in
    faulty k (drop n m) (omega (arith, drop_size n m)) f

pub within_string : (l : List ℕ) → Within l (placed bad_character (string_at l))
unfolding string_at
within_string l = within_placed l (characters (length l) l) (within_characters (length l) l)

bad_number_lem : (l : List ℕ) → length (bad_number l) ≤ length l
unfolding bad_number
bad_number_lem l = go (whole_count (drop (sign_count l) l))
  where
    by : (n : ℕ) (o : Option ℕ) → length (bad_fraction n o l) ≤ length l
    by n none = drop_size (suc n) l
    by n (some f) = drop_size (n + f + suc (exponent_sign (drop (suc (n + f)) l))) l

    go : (o : Option ℕ) → length (bad_whole o l) ≤ length l
    go none = drop_size (sign_count l) l
    go (some w) = by (sign_count l + w) (fraction_count (drop (sign_count l + w) l))

-- ---- keys, members and values

within_unless : {A : Type 0} (k : ℕ) → Judged k → (l : List ℕ) (a : A) (rest : List ℕ) → length rest < length l → Within l (unless k l a rest)
within_unless k j l a rest h = go (eqb k 0) refl
  where
    go : (t : Bool) → eqb k 0 ≡ t → Within l (cond t (got a rest) (stop k l))
    go true e = behind a rest h
    go false e = faulty k l (omega arith) (refusal_fault k (j (eqb-false k 0 e)))

-- what begins behind blanks
pub within_blanks : {A : Type 0} (l : List ℕ) (g : Got A) → Within (blanks l) g → Within l g
within_blanks l g w = within_longer (blanks l) l g (blanks_size l) w

pub within_key : (judge : List ℕ → ℕ) → ((k : List ℕ) → Judged (judge k)) → (l : List ℕ) → Within l (key_at judge l)
unfolding key_at
within_key judge ok l =
    within_cond l (eqb (first l) quote) _ _ (λ e.
    within_follow l (placed bad_character (string_at (drop 1 l))) _ (within_longer (drop 1 l) l _ (drop_size 1 l) (within_string (drop 1 l))) (λ k rest h.
    within_follow l (unless (judge k) l k rest) _ (within_unless (judge k) (ok k) l k rest h) (λ known past h'.
    within_follow l (ended 0x3a known (blanks past)) _ (within_longer past l _ (omega arith) (within_blanks past _ (within_ended 0x3a (omega arith) known (blanks past)))) (λ key more h''.
    behind key (blanks more) (omega (arith, blanks_size more))))))
    (ten l)

-- a part, and a comma with which it goes on, or a bracket that ends it
within_turn : {P : Type 0} (l : List ℕ) (c : ℕ) → 1 ≤ c → (g : Got P) (go : P → List ℕ → Got P) → Within l g → ((q : P) (m : List ℕ) → Within m (go q m))
    → Within l (follow g (λ q rest. cond (eqb (first (blanks rest)) 0x2c) (go q (drop 1 (blanks rest))) (ended c q (blanks rest))))
within_turn l c pos g go w ih =
    within_follow l g _ w (λ q rest h. within_longer rest l _ (omega arith) (within_blanks rest _
    (within_cond (blanks rest) (eqb (first (blanks rest)) 0x2c) (go q (drop 1 (blanks rest))) (ended c q (blanks rest))
    (λ e. within_longer (drop 1 (blanks rest)) (blanks rest) _ (drop_size 1 (blanks rest)) (ih q (drop 1 (blanks rest)))) (within_ended c pos q (blanks rest)))))

module _ {P : Type 0} (judge : P → List ℕ → ℕ) (ok : (p : P) (k : List ℕ) → Judged (judge p k)) (step : P → List ℕ → List ℕ → Got P)
    (steady : (p : P) (k l : List ℕ) → Within l (step p k l)) where
  fields_next : (n : ℕ) (p : P) (l : List ℕ) → ((q : P) (m : List ℕ) → Within m (fields judge step n q m)) → Within (blanks l) (fields judge step (suc n) p l)
  unfolding fields
  fields_next n p l ih =
      within_follow (blanks l) (key_at (judge p) (blanks l)) _ (within_key (judge p) (ok p) (blanks l)) (λ k behind h.
      within_longer behind (blanks l) _ (omega arith) (within_turn behind 0x7d (omega arith) (step p k behind) (fields judge step n) (steady p k behind) ih))

  pub within_fields : (n : ℕ) (p : P) (l : List ℕ) → Within l (fields judge step n p l)
  unfolding fields
  within_fields zero p l = ten l
  within_fields (suc n) p l = within_blanks l (fields judge step (suc n) p l) (fields_next n p l (within_fields n))

  -- what stands in front of it is not looked at again
  pub object_next : (p : P) (b : ℕ) (l : List ℕ) → Within (blanks (b ∷ l)) (object_at judge step p (b ∷ l))
  unfolding object_at
  object_next p b l =
      within_cond (blanks (b ∷ l)) (eqb (first (blanks (b ∷ l))) 0x7d) _ _ (λ e. behind p (drop 1 (blanks (b ∷ l))) (passes 0x7d (blanks (b ∷ l)) (omega arith) e))
      (fields_next (length l) p (b ∷ l) (within_fields (length l)))

  pub within_object : (p : P) (l : List ℕ) → Within l (object_at judge step p l)
  unfolding object_at
  within_object p l =
      within_cond l (eqb (first (blanks l)) 0x7d) _ _ (λ e. behind p (drop 1 (blanks l)) (omega (arith, passes 0x7d (blanks l) (omega arith) e, blanks_size l))) (within_fields (length l) p l)

module _ {P : Type 0} (step : P → List ℕ → Got P) (steady : (p : P) (l : List ℕ) → Within l (step p l)) where
  items_next : (n : ℕ) (p : P) (l : List ℕ) → ((q : P) (m : List ℕ) → Within m (items step n q m)) → Within (blanks l) (items step (suc n) p l)
  unfolding items
  items_next n p l ih = within_turn (blanks l) 0x5d (omega arith) (step p (blanks l)) (items step n) (steady p (blanks l)) ih

  pub within_items : (n : ℕ) (p : P) (l : List ℕ) → Within l (items step n p l)
  unfolding items
  within_items zero p l = ten l
  within_items (suc n) p l = within_blanks l (items step (suc n) p l) (items_next n p l (within_items n))

  pub array_next : (p : P) (b : ℕ) (l : List ℕ) → Within (blanks (b ∷ l)) (array_at step p (b ∷ l))
  unfolding array_at
  array_next p b l =
      within_cond (blanks (b ∷ l)) (eqb (first (blanks (b ∷ l))) 0x5d) _ _ (λ e. behind p (drop 1 (blanks (b ∷ l))) (passes 0x5d (blanks (b ∷ l)) (omega arith) e))
      (items_next (length l) p (b ∷ l) (within_items (length l)))

  pub within_array : (p : P) (l : List ℕ) → Within l (array_at step p l)
  unfolding array_at
  within_array p l =
      within_cond l (eqb (first (blanks l)) 0x5d) _ _ (λ e. behind p (drop 1 (blanks l)) (omega (arith, passes 0x5d (blanks l) (omega arith) e, blanks_size l))) (within_items (length l) p l)

-- ---- readers of values

pub record Steady {A : Type 0} (r : List ℕ → Got A) : Type 0 where
  pub within : (l : List ℕ) → Within l (r l)

-- by the byte with which a value begins, or none begins so
begun_by : {A : Type 0} (t : Bool) (l : List ℕ) (g : Got A) → (t ≡ true → Within l g) → Within l (cond t g (stop (wrong l) l))
begun_by t l g w = within_cond l t g (stop (wrong l) l) w (faulty (wrong l) l (omega arith) (wrong_fault l))

pub steady_string : Steady string_there
unfolding string_there
steady_string = record { within = λ l. begun_by (eqb (first l) quote) l _ (λ e. within_longer (drop 1 l) l _ (drop_size 1 l) (within_string (drop 1 l))) }

pub steady_number : Steady number_there
unfolding number_there
steady_number = record { within = λ l. begun_by (eqb (first l) 0x2d || is_digit (first l)) l _ (λ e. on l (number_count l) (λ n is. some_digit l n e is)) }
  where
    some_digit : (l : List ℕ) (n : ℕ) → (eqb (first l) 0x2d || is_digit (first l)) ≡ true → number_count l ≡ some n → length (drop n l) < length l
    some_digit l n e is =
        let h = reader_one number_there number_text (number_faithful 0) l (take n l) (drop n l) (unfold number_there in rw (e, is)) in
        omega arith

    on : (l : List ℕ) (o : Option ℕ) → ((n : ℕ) → o ≡ some n → length (drop n l) < length l) → Within l (on_number o l)
    on l none h = faulty not_json (bad_number l) (bad_number_lem l) ten_fault
    on l (some n) h = behind (take n l) (drop n l) (h n refl)

module _ {A B : Type 0} (r : List ℕ → Got A) (steady : Steady r) where
  pub steady_judged : (g : A → Verdict B) → ((a : A) → Fair (g a)) → Steady (judged g r)
  unfolding judged
  steady_judged g fair = record { within = λ l. within_follow l (r l) _ (steady.within l) (λ a m h. say (g a) (fair a) l m h) }
    where
      say : (v : Verdict B) → Fair v → (l m : List ℕ) → length m < length l → Within l (answered v l m)
      say (fine b) f l m h = behind b m h
      say (begun k) f l m h = faulty k l (omega arith) (refusal_fault k f)
      say (closing k) f l m h = faulty k (0x7d ∷ m) (omega arith) (refusal_fault k f)

  pub steady_put : (add : A → B) → Steady (put_in add r)
  steady_put add = record { within = λ l. within_follow l (r l) _ (steady.within l) (λ a m h. behind (add a) m h) }

pub steady_none : {A : Type 0} → Steady (behind_key {P = A} none)
steady_none = record { within = λ l. faulty not_of_form l (omega arith) (refusal_fault not_of_form eleven_refusal) }

pub steady_object : {P : Type 0} (judge : P → List ℕ → ℕ) → ((p : P) (k : List ℕ) → Judged (judge p k)) → (step : P → List ℕ → List ℕ → Got P)
    → ((p : P) (k : List ℕ) → Steady (step p k)) → (p : P) → Steady (object_there judge step p)
unfolding object_there
steady_object judge ok step s p =
    record { within = λ l. begun_by (eqb (first l) 0x7b) l _ (λ e. within_longer (drop 1 l) l _ (drop_size 1 l) (within_object judge ok step (λ q k m. (s q k).within m) p (drop 1 l))) }

pub steady_array : {P : Type 0} (step : P → List ℕ → Got P) → ((p : P) → Steady (step p)) → (p : P) → Steady (array_there step p)
unfolding array_there
steady_array step s p =
    record { within = λ l. begun_by (eqb (first l) 0x5b) l _ (λ e. within_longer (drop 1 l) l _ (drop_size 1 l) (within_array step (λ q m. (s q).within m) p (drop 1 l))) }

pub apart_size : (word l : List ℕ) → length (apart word l) ≤ length l
unfolding apart
apart_size [] l = omega arith
apart_size (a ∷ word) [] = omega arith
apart_size (a ∷ word) (b ∷ l) = go (eqb a b) (apart_size word l)
  where
    go : (t : Bool) → length (apart word l) ≤ length l → length (cond t (apart word l) (b ∷ l)) ≤ suc (length l)
    go true h = omega arith
    go false h = omega arith

pub steady_null : {A : Type 0} (r : List ℕ → Got A) → Steady r → Steady (null_or r)
unfolding null_or literal_at ascii
steady_null {A} r s =
    record { within = λ l. within_cond l (eqb (first l) 0x6e) _ _ (λ e. within_follow l (literal_at (ascii "null") null l) _ (word l e) (λ v m h. behind none m h)) ((steady_put r s (λ a. some a)).within l) }
  where
    word : (l : List ℕ) → eqb (first l) 0x6e ≡ true → Within l (literal_at (ascii "null") null l)
    word l e =
        unfold literal_at ascii in
        within_cond l (same (take 4 l) (ascii "null")) _ _ (λ f. behind null (drop 4 l) (omega (arith, passes 0x6e l (omega arith) e, length-drop 4 l)))
        (faulty not_json (apart (ascii "null") l) (apart_size (ascii "null") l) ten_fault)

pub steady_either : {A : Type 0} (r s : List ℕ → Got A) → Steady r → Steady s → Steady (either_there r s)
unfolding either_there
steady_either r s a b = record { within = λ l. within_cond l (eqb (first l) quote) (r l) (s l) (λ e. a.within l) (b.within l) }

-- so every reader that is made of these is steady
pub steady_closed : Closed (λ A r. Steady r)
steady_closed = record {
  string = steady_string;
  number = steady_number;
  judge = λ r s g f. steady_judged r s g f;
  put = λ r s add. steady_put r s add;
  refused = steady_none;
  object = steady_object;
  array = steady_array;
  or_null = steady_null;
  either = steady_either;
}

pub steady_filters : (j : Judges) → Steady (filters_there j)
steady_filters = filters_closed (λ A r. Steady r) steady_closed

-- what is refused in a text is refused by the number of a fault
pub read_stops : (j : Judges) (t : List ℕ) (k : ℕ) (m : List ℕ) → read_filters j t ≡ stop k m → is_fault k ≡ true
unfolding read_filters whole
read_stops j t k m e = go (filters_there j (blanks t)) ((steady_filters j).within (blanks t)) e
  where
    rest : (a : List Filter) (l : List ℕ) → all_read a l ≡ stop k m → is_fault k ≡ true
    rest a [] x = absurd (let z : ◌≡◌ {A = ℕ} 0 1 = cc in omega arith)
    rest a (b ∷ l) x = let ek : not_json ≡ k = cc in subst (λ (i : ℕ). is_fault i ≡ true) ek ten_fault

    go : (g : Got (List Filter)) → Within (blanks t) g → follow g (λ a l. all_read a (blanks l)) ≡ stop k m → is_fault k ≡ true
    go _ (behind a l h) x = rest a (blanks l) x
    go _ (faulty i n h f) x = let ek : i ≡ k = cc in subst (λ (y : ℕ). is_fault y ≡ true) ek f
