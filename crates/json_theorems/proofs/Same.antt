-- The form's reader stops with 10 only where a reader of any JSON stops, at the same byte: 10 says that the text is not JSON, whatever the form.
-- Assumes nothing.
use mathlib.Core.Path.{◌≡◌, refl, ap, sym, ◌∙◌}
use mathlib.Core.Bool.{Bool, true, false, cond, not, ◌&&◌, ◌||◌}
use mathlib.Core.List.{List, [], ◌∷◌, ◌++◌}
use mathlib.Core.Option.{Option, none, some}
use Prim.Native.Nat.{ℕ, zero, suc, ◌+◌, ◌-◌, ◌^◌, ◌≤◌}
use native.Mathlib.Omega.{arith}
use lib.Dec.{eqb, leb}
use lib.ListN.{length, take, drop, length-append}
use borrow.Author.Tests.{eqb-true, ne_eqb}
use Rattle.definitions.specs.Format.{then, check}
use Rattle.definitions.specs.Json.{ascii, quote, all, is_digit, Json, null, number, string, array, object, Text, text}
use Rattle.definitions.specs.JsonForm.{same, decimal, Only, field_of, Key, condition_keys, line_keys, filter_keys, named, Filter}
use Rattle.definitions.specs.JsonReader.{Got, got, stop, not_json, follow, first, blanks, ended, unless, placed, bad_character, bad_number, string_at, key_at, any_key, fields, object_at, items, array_at, literal_at, digit_count, sign_count, whole_count, number_count, on_count, values_of, members_of, value_at}
use Rattle.definitions.specs.FormReader.{not_of_form, wrong, string_there, on_number, number_there, object_there, array_there, behind_key}
use Rattle.definitions.specs.FormReader.{equal_actions, empty_args, wrong_index, too_wide, given_twice, unknown_call, answered, judged, asked, made, ending, put_in, natural_there, word_there, list_there, null_or, either_there, held, or_refused, one_judge, one_step, one_end, one_there, typed, has_typed, value_of, field_judge, field_reader, keyed_there, action_there, operator_there, condition_from, condition_reads, condition_there, line_from, line_reads, line_there, filter_from, filter_reads, filter_there, filters_there, all_read, whole, read_filters, Judges, Verdict, Held, Typed, fine, begun, closing}
use Rattle.json_theorems.proofs.Parts.{blanks_complete}
use Rattle.json_theorems.proofs.Tests.{false_not_true, one_true, within_le}
use Rattle.json_theorems.proofs.Values.{written_begins, blank_rest, all_blank, value_faithful, Starts, by_minus, by_digit, starts_low, starts_not}

-- h goes as g goes: where g got something, so did h, with the same behind it; where g stopped with 10, so did h, at the same place
abbrev pub Goes : {A B : Type 0} → Got A → Got B → Type 0
Goes {A} {B} (got a rest) h = (b : B) × (h ≡ got b rest)
Goes (stop k m) h = k ≡ not_json → h ≡ stop not_json m

pub goes_follow : {A B C D : Type 0} (g : Got A) (h : Got B) (f : A → List ℕ → Got C) (f' : B → List ℕ → Got D) → Goes g h
    → ((a : A) (b : B) (rest : List ℕ) → Goes (f a rest) (f' b rest)) → Goes (follow g f) (follow h f')
goes_follow (got a rest) h f f' w t = rw w.1 (t a w.0 rest)
goes_follow (stop k m) h f f' w t = λ e. rw (w e)

goes_self : {A : Type 0} (g : Got A) → Goes g g
goes_self (got a rest) = (a, refl)
goes_self (stop k m) = λ e. rw e

goes_cond : {A B : Type 0} (t : Bool) (g g' : Got A) (h h' : Got B) → Goes g h → Goes g' h' → Goes (cond t g g') (cond t h h')
goes_cond true g g' h h' a b = a
goes_cond false g g' h h' a b = b

goes_ended : {A B : Type 0} (c : ℕ) (a : A) (b : B) (l : List ℕ) → Goes (ended c a l) (ended c b l)
goes_ended c a b l = goes_cond (eqb (first l) c) (got a (drop 1 l)) (stop not_json l) (got b (drop 1 l)) (stop not_json l) (b, refl) (λ e. refl)

-- a number that refuses is not 10
abbrev pub NotTen : ℕ → Type 0
NotTen k = k ≡ not_json → ⊥

goes_key : (judge : List ℕ → ℕ) → ((k : List ℕ) → NotTen (judge k)) → {P : Type 0} (p : P) (l : List ℕ) → Goes (key_at judge l) (key_at (any_key p) l)
unfolding key_at
goes_key judge ok p l =
    goes_cond (eqb (first l) quote) _ _ _ _
    (goes_follow (placed bad_character (string_at (drop 1 l))) (placed bad_character (string_at (drop 1 l))) _ _ (goes_self (placed bad_character (string_at (drop 1 l))))
    (λ k k' rest. goes_follow (unless (judge k) l k rest) (got k' rest) _ _ (let' (judge k) (ok k) k k' rest)
    (λ x x' past. goes_follow (ended 0x3a x (blanks past)) (ended 0x3a x' (blanks past)) _ _ (goes_ended 0x3a x x' (blanks past)) (λ y y' more. (y', refl)))))
    (λ e. refl)
  where
    let' : (c : ℕ) → NotTen c → (k k' rest : List ℕ) → Goes (unless c l k rest) (got k' rest)
    let' c n k k' rest = by (eqb c 0)
      where
        by : (t : Bool) → Goes (cond t (got k rest) (stop c l)) (got k' rest)
        by true = (k', refl)
        by false = λ e. absurd (n e)

module _ {P Q : Type 0} (judge : P → List ℕ → ℕ) (ok : (p : P) (k : List ℕ) → NotTen (judge p k)) (step : P → List ℕ → List ℕ → Got P) (step' : Q → List ℕ → List ℕ → Got Q)
    (goes : (p : P) (q : Q) (k k' l : List ℕ) → Goes (step p k l) (step' q k' l)) where
  goes_fields : (n : ℕ) (p : P) (q : Q) (l : List ℕ) → Goes (fields judge step n p l) (fields any_key step' n q l)
  unfolding fields
  goes_fields zero p q l = λ e. refl
  goes_fields (suc n) p q l =
      goes_follow (key_at (judge p) (blanks l)) (key_at (any_key q) (blanks l)) _ _ (goes_key (judge p) (ok p) q (blanks l))
      (λ k k' behind. goes_follow (step p k behind) (step' q k' behind) _ _ (goes p q k k' behind)
      (λ r s rest. goes_cond (eqb (first (blanks rest)) 0x2c) _ _ _ _ (goes_fields n r s (drop 1 (blanks rest))) (goes_ended 0x7d r s (blanks rest))))

  pub goes_object : (p : P) (q : Q) (l : List ℕ) → Goes (object_at judge step p l) (object_at any_key step' q l)
  unfolding object_at
  goes_object p q l = goes_cond (eqb (first (blanks l)) 0x7d) _ _ _ _ (q, refl) (goes_fields (length l) p q l)

module _ {P Q : Type 0} (step : P → List ℕ → Got P) (step' : Q → List ℕ → Got Q) (goes : (p : P) (q : Q) (l : List ℕ) → Goes (step p l) (step' q l)) where
  goes_items : (n : ℕ) (p : P) (q : Q) (l : List ℕ) → Goes (items step n p l) (items step' n q l)
  unfolding items
  goes_items zero p q l = λ e. refl
  goes_items (suc n) p q l =
      goes_follow (step p (blanks l)) (step' q (blanks l)) _ _ (goes p q (blanks l))
      (λ r s rest. goes_cond (eqb (first (blanks rest)) 0x2c) _ _ _ _ (goes_items n r s (drop 1 (blanks rest))) (goes_ended 0x5d r s (blanks rest)))

  pub goes_array : (p : P) (q : Q) (l : List ℕ) → Goes (array_at step p l) (array_at step' q l)
  unfolding array_at
  goes_array p q l = goes_cond (eqb (first (blanks l)) 0x5d) _ _ _ _ (q, refl) (goes_items (length l) p q l)

-- ---- the reader of any value, by the first byte

goes_wrap : {A B C : Type 0} (g : Got A) (h : Got B) (w : B → C) → Goes g h → Goes g (follow h (λ x rest. got (w x) rest))
goes_wrap (got a rest) h w e = (w e.0, rw e.1)
goes_wrap (stop k m) h w e = λ t. rw (e t)

or_off : (a b : Bool) → (a || b) ≡ false → (a ≡ false) × (b ≡ false)
or_off true b e = absurd (false_not_true (sym e))
or_off false b e = (refl, e)

wrong_off : (t : Bool) → cond t not_of_form not_json ≡ not_json → t ≡ false
wrong_off true e = absurd (omega arith)
wrong_off false e = refl

no_digit : (l : List ℕ) → is_digit (first l) ≡ false → digit_count l ≡ 0
unfolding digit_count
no_digit [] e = refl
no_digit (b ∷ l) e = rw e

not_nought : (d : ℕ) → is_digit d ≡ false → eqb d 0x30 ≡ false
not_nought d e = ne_eqb d 0x30 (λ s. false_not_true (sym (rw s at e)))

no_whole : (l : List ℕ) → eqb (first l) 0x2d ≡ false → is_digit (first l) ≡ false → whole_count (drop (sign_count l) l) ≡ none
no_whole l m d = rw (m, not_nought (first l) d, no_digit l d)

no_count : (l : List ℕ) → eqb (first l) 0x2d ≡ false → is_digit (first l) ≡ false → number_count l ≡ none
unfolding number_count
no_count l m d = rw (no_whole l m d)

bad_start : (l : List ℕ) → eqb (first l) 0x2d ≡ false → is_digit (first l) ≡ false → bad_number l ≡ l
unfolding bad_number
bad_start l m d = rw (no_whole l m d, m)

no_number : (l : List ℕ) → eqb (first l) 0x2d ≡ false → is_digit (first l) ≡ false → on_count (number_count l) l ≡ stop not_json l
no_number l m d = rw (no_count l m d, bad_start l m d)

-- where no value begins, the reader of any value stops
wrong_ten : (n : ℕ) (l : List ℕ) → wrong l ≡ not_json → value_at (suc n) l ≡ stop not_json l
unfolding wrong value_at
wrong_ten n l e =
    let whole = wrong_off (eqb (first l) quote || (eqb (first l) 0x7b || (eqb (first l) 0x5b || (eqb (first l) 0x2d || (is_digit (first l) || (eqb (first l) 0x6e || (eqb (first l) 0x74 || eqb (first l) 0x66))))))) e in
    let a = or_off (eqb (first l) quote) (eqb (first l) 0x7b || (eqb (first l) 0x5b || (eqb (first l) 0x2d || (is_digit (first l) || (eqb (first l) 0x6e || (eqb (first l) 0x74 || eqb (first l) 0x66)))))) whole in
    let b = or_off (eqb (first l) 0x7b) (eqb (first l) 0x5b || (eqb (first l) 0x2d || (is_digit (first l) || (eqb (first l) 0x6e || (eqb (first l) 0x74 || eqb (first l) 0x66))))) a.1 in
    let c = or_off (eqb (first l) 0x5b) (eqb (first l) 0x2d || (is_digit (first l) || (eqb (first l) 0x6e || (eqb (first l) 0x74 || eqb (first l) 0x66)))) b.1 in
    let d = or_off (eqb (first l) 0x2d) (is_digit (first l) || (eqb (first l) 0x6e || (eqb (first l) 0x74 || eqb (first l) 0x66))) c.1 in
    let f = or_off (is_digit (first l)) (eqb (first l) 0x6e || (eqb (first l) 0x74 || eqb (first l) 0x66)) d.1 in
    let g = or_off (eqb (first l) 0x6e) (eqb (first l) 0x74 || eqb (first l) 0x66) f.1 in
    let h = or_off (eqb (first l) 0x74) (eqb (first l) 0x66) g.1 in
    rw (a.0, b.0, c.0, g.0, h.0, h.1) (no_number l d.0 f.0)

value_string : (n : ℕ) (l : List ℕ) → eqb (first l) quote ≡ true → value_at (suc n) l ≡ follow (placed bad_character (string_at (drop 1 l))) (λ s rest. got (string s) rest)
unfolding value_at
value_string n l e = rw e

value_object : (n : ℕ) (l : List ℕ) → eqb (first l) 0x7b ≡ true
    → value_at (suc n) l
    ≡ follow (object_at any_key (λ ms k m. follow (value_at n m) (λ v rest. got (ms ++ (record { key = k; value = v } ∷ [])) rest)) [] (drop 1 l)) (λ ms rest. got (object (members_of ms)) rest)
unfolding value_at
value_object n l e = let x = eqb-true (first l) 0x7b e in rw x

value_array : (n : ℕ) (l : List ℕ) → eqb (first l) 0x5b ≡ true
    → value_at (suc n) l ≡ follow (array_at (λ vs m. follow (value_at n m) (λ v rest. got (vs ++ (v ∷ [])) rest)) [] (drop 1 l)) (λ vs rest. got (array (values_of vs)) rest)
unfolding value_at
value_array n l e = let x = eqb-true (first l) 0x5b e in rw x

value_null : (n : ℕ) (l : List ℕ) → eqb (first l) 0x6e ≡ true → value_at (suc n) l ≡ literal_at (ascii "null") null l
unfolding value_at
value_null n l e = let x = eqb-true (first l) 0x6e e in rw x

starts_of : (d : ℕ) → (eqb d 0x2d || is_digit d) ≡ true → Starts d
starts_of d e = one_true (eqb d 0x2d) (is_digit d) e (λ s. rw (eqb-true d 0x2d s) by_minus) (λ s. let r = within_le 0x30 0x39 d s in by_digit d r.0 r.1)

value_number : (n : ℕ) (l : List ℕ) → (eqb (first l) 0x2d || is_digit (first l)) ≡ true → value_at (suc n) l ≡ on_count (number_count l) l
unfolding value_at
value_number n l e =
    let s = starts_of (first l) e in
    rw (
      starts_low s quote (omega arith),
      starts_not s 0x7b (omega arith),
      starts_not s 0x5b (omega arith),
      starts_not s 0x6e (omega arith),
      starts_not s 0x74 (omega arith),
      starts_not s 0x66 (omega arith),
    )

-- ---- readers that go as the reader of any value goes, if that may nest d deep

pub record Sees {A : Type 0} (d : ℕ) (r : List ℕ → Got A) : Type 0 where
  pub goes : (n : ℕ) (l : List ℕ) → d ≤ n → Goes (r l) (value_at n l)

pub sees_string : Sees 1 string_there
unfolding string_there
sees_string = record { goes = go }
  where
    by : (n : ℕ) (l : List ℕ) (t : Bool) → eqb (first l) quote ≡ t → Goes (cond t (placed bad_character (string_at (drop 1 l))) (stop (wrong l) l)) (value_at (suc n) l)
    by n l true e = rw (value_string n l e) (goes_wrap (placed bad_character (string_at (drop 1 l))) (placed bad_character (string_at (drop 1 l))) (λ s. string s) (goes_self (placed bad_character (string_at (drop 1 l)))))
    by n l false e = λ w. wrong_ten n l w

    go : (n : ℕ) (l : List ℕ) → 1 ≤ n → Goes (cond (eqb (first l) quote) (placed bad_character (string_at (drop 1 l))) (stop (wrong l) l)) (value_at n l)
    go zero l h = absurd (omega arith)
    go (suc n) l h = by n l (eqb (first l) quote) refl

pub sees_number : Sees 1 number_there
unfolding number_there
sees_number = record { goes = go }
  where
    on : (o : Option ℕ) (l : List ℕ) → Goes (on_number o l) (on_count o l)
    on none l = λ e. refl
    on (some n) l = (number (take n l), refl)

    by : (n : ℕ) (l : List ℕ) (t : Bool) → (eqb (first l) 0x2d || is_digit (first l)) ≡ t → Goes (cond t (on_number (number_count l) l) (stop (wrong l) l)) (value_at (suc n) l)
    by n l true e = rw (value_number n l e) (on (number_count l) l)
    by n l false e = λ w. wrong_ten n l w

    go : (n : ℕ) (l : List ℕ) → 1 ≤ n → Goes (cond (eqb (first l) 0x2d || is_digit (first l)) (on_number (number_count l) l) (stop (wrong l) l)) (value_at n l)
    go zero l h = absurd (omega arith)
    go (suc n) l h = by n l (eqb (first l) 0x2d || is_digit (first l)) refl

abbrev pub Calm : {B : Type 0} → Verdict B → Type 0
Calm (fine b) = Unit {0}
Calm (begun k) = NotTen k
Calm (closing k) = NotTen k

module _ {A B : Type 0} (d : ℕ) (r : List ℕ → Got A) (sees : Sees d r) where
  pub sees_judged : (g : A → Verdict B) → ((a : A) → Calm (g a)) → Sees d (judged g r)
  unfolding judged
  sees_judged g calm = record { goes = λ n l h. by (r l) l (value_at n l) (sees.goes n l h) }
    where
      say : (v : Verdict B) → Calm v → (l rest : List ℕ) (h : Got Json) (x : Json) → h ≡ got x rest → Goes (answered v l rest) h
      say (fine b) c l rest h x e = (x, e)
      say (begun k) c l rest h x e = λ t. absurd (c t)
      say (closing k) c l rest h x e = λ t. absurd (c t)

      by : (o : Got A) (l : List ℕ) (h : Got Json) → Goes o h → Goes (follow o (λ a rest. answered (g a) l rest)) h
      by (got a rest) l h w = say (g a) (calm a) l rest h w.0 w.1
      by (stop k m) l h w = w

  pub sees_put : (add : A → B) → Sees d (put_in add r)
  sees_put add = record { goes = λ n l h. by (r l) (value_at n l) (sees.goes n l h) }
    where
      by : (o : Got A) (h : Got Json) → Goes o h → Goes (follow o (λ a rest. got (add a) rest)) h
      by (got a rest) h w = w
      by (stop k m) h w = w

pub sees_none : {A : Type 0} (d : ℕ) → Sees d (behind_key {P = A} none)
sees_none d = record { goes = λ n l h e. absurd (omega arith) }

pub sees_more : {A : Type 0} (d e : ℕ) (r : List ℕ → Got A) → d ≤ e → Sees d r → Sees e r
sees_more d e r h s = record { goes = λ n l t. s.goes n l (omega arith) }

pub sees_asked : {A : Type 0} (d : ℕ) (r : List ℕ → Got A) → Sees d r → (t : A → Bool) (k : ℕ) → NotTen k → Sees d (judged (λ a. asked (t a) k a) r)
sees_asked {A} d r s t k c = sees_judged d r s (λ a. asked (t a) k a) (λ a. by (t a) a)
  where
    by : (b : Bool) (a : A) → Calm (asked b k a)
    by true a = tt
    by false a = c

pub sees_made : {A B : Type 0} (d : ℕ) (r : List ℕ → Got A) → Sees d r → (g : A → Option B) → Sees d (judged (λ a. made (g a)) r)
sees_made {A} {B} d r s g = sees_judged d r s (λ a. made (g a)) (λ a. by (g a))
  where
    by : (o : Option B) → Calm (made o)
    by none = λ e. omega arith
    by (some b) = tt

pub sees_ending : {A B : Type 0} (d : ℕ) (r : List ℕ → Got A) → Sees d r → (g : A → Option B) → Sees d (judged (λ a. ending (g a)) r)
sees_ending {A} {B} d r s g = sees_judged d r s (λ a. ending (g a)) (λ a. by (g a))
  where
    by : (o : Option B) → Calm (ending o)
    by none = λ e. omega arith
    by (some b) = tt

module _ {P : Type 0} (d : ℕ) (judge : P → List ℕ → ℕ) (ok : (p : P) (k : List ℕ) → NotTen (judge p k)) (step : P → List ℕ → List ℕ → Got P)
    (sees : (p : P) (k : List ℕ) → Sees d (step p k)) (p : P) where
  pub sees_object : Sees (suc d) (object_there judge step p)
  unfolding object_there
  sees_object = record { goes = go }
    where
      by : (n : ℕ) (l : List ℕ) → d ≤ n → (t : Bool) → eqb (first l) 0x7b ≡ t → Goes (cond t (object_at judge step p (drop 1 l)) (stop (wrong l) l)) (value_at (suc n) l)
      by n l h true e =
          rw (value_object n l e)
          (goes_wrap (object_at judge step p (drop 1 l)) _ (λ ms. object (members_of ms))
          (goes_object judge ok step (λ (ms : List Only) k m. follow (value_at n m) (λ v rest. got (ms ++ (record { key = k; value = v } ∷ [])) rest))
          (λ q ms k k' m. goes_wrap (step q k m) (value_at n m) (λ v. ms ++ (record { key = k'; value = v } ∷ [])) ((sees q k).goes n m h)) p [] (drop 1 l)))
      by n l h false e = λ w. wrong_ten n l w

      go : (n : ℕ) (l : List ℕ) → suc d ≤ n → Goes (cond (eqb (first l) 0x7b) (object_at judge step p (drop 1 l)) (stop (wrong l) l)) (value_at n l)
      go zero l h = absurd (omega arith)
      go (suc n) l h = by n l (omega arith) (eqb (first l) 0x7b) refl

module _ {P : Type 0} (d : ℕ) (step : P → List ℕ → Got P) (sees : (p : P) → Sees d (step p)) (p : P) where
  pub sees_array : Sees (suc d) (array_there step p)
  unfolding array_there
  sees_array = record { goes = go }
    where
      by : (n : ℕ) (l : List ℕ) → d ≤ n → (t : Bool) → eqb (first l) 0x5b ≡ t → Goes (cond t (array_at step p (drop 1 l)) (stop (wrong l) l)) (value_at (suc n) l)
      by n l h true e =
          rw (value_array n l e)
          (goes_wrap (array_at step p (drop 1 l)) _ (λ vs. array (values_of vs))
          (goes_array step (λ (vs : List Json) m. follow (value_at n m) (λ v rest. got (vs ++ (v ∷ [])) rest))
          (λ q vs m. goes_wrap (step q m) (value_at n m) (λ v. vs ++ (v ∷ [])) ((sees q).goes n m h)) p [] (drop 1 l)))
      by n l h false e = λ w. wrong_ten n l w

      go : (n : ℕ) (l : List ℕ) → suc d ≤ n → Goes (cond (eqb (first l) 0x5b) (array_at step p (drop 1 l)) (stop (wrong l) l)) (value_at n l)
      go zero l h = absurd (omega arith)
      go (suc n) l h = by n l (omega arith) (eqb (first l) 0x5b) refl

pub sees_null : {A : Type 0} (d : ℕ) (r : List ℕ → Got A) → 1 ≤ d → Sees d r → Sees d (null_or r)
unfolding null_or
sees_null {A} d r pos s = record { goes = go }
  where
    by : (n : ℕ) (l : List ℕ) → d ≤ suc n → (t : Bool) → eqb (first l) 0x6e ≡ t
        → Goes (cond t (put_in (λ v. none) (literal_at (ascii "null") null) l) (put_in (λ a. some a) r l)) (value_at (suc n) l)
    by n l h true e = rw (value_null n l e) (lit (literal_at (ascii "null") null l))
      where
        lit : (o : Got Json) → Goes (follow {B = Option A} o (λ v rest. got none rest)) o
        lit (got v rest) = (v, refl)
        lit (stop k m) = λ t. rw t
    by n l h false e = (sees_put d r s (λ a. some a)).goes (suc n) l h

    go : (n : ℕ) (l : List ℕ) → d ≤ n → Goes (cond (eqb (first l) 0x6e) (put_in (λ v. none) (literal_at (ascii "null") null) l) (put_in (λ a. some a) r l)) (value_at n l)
    go zero l h = absurd (omega arith)
    go (suc n) l h = by n l h (eqb (first l) 0x6e) refl

pub sees_either : {A : Type 0} (d : ℕ) (r s : List ℕ → Got A) → Sees d r → Sees d s → Sees d (either_there r s)
unfolding either_there
sees_either d r s a b = record { goes = λ n l h. by (eqb (first l) quote) n l (a.goes n l h) (b.goes n l h) }
  where
    by : (t : Bool) (n : ℕ) (l : List ℕ) → Goes (r l) (value_at n l) → Goes (s l) (value_at n l) → Goes (cond t (r l) (s l)) (value_at n l)
    by true n l p q = p
    by false n l p q = q

-- ---- the form's readers

sees_natural : (most : ℕ) → Sees 1 (natural_there most)
unfolding natural_there
sees_natural most = sees_made 1 number_there sees_number (λ t. check (all is_digit t && leb (decimal 0 t) most) (some (decimal 0 t)))

sees_word : {A : Type 0} (g : List ℕ → Option A) → Sees 1 (word_there g)
unfolding word_there
sees_word g = sees_made 1 string_there sees_string g

sees_list : {A : Type 0} (d : ℕ) (r : List ℕ → Got A) → Sees d r → Sees (suc d) (list_there r)
unfolding list_there
sees_list {A} d r s = sees_array d _ (λ xs. sees_put d r s (λ a. xs ++ (a ∷ []))) []

sees_one : {A B : Type 0} (d : ℕ) (known : List ℕ → Option A) (reads : A → List ℕ → Got B) → ((w : A) → Sees d (reads w)) → Sees (suc d) (one_there known reads)
unfolding one_there
sees_one {A} {B} d known reads s = sees_ending (suc d) _ (sees_object d (one_judge known) ok (one_step known reads) step none) one_end
  where
    ok : (p : Option (Held B)) (k : List ℕ) → NotTen (one_judge known p k)
    ok none k = by (known k)
      where
        by : (o : Option A) → NotTen (or_refused o)
        by none = λ e. omega arith
        by (some a) = λ e. omega arith
    ok (some h) k = by (same h.key k)
      where
        by : (t : Bool) → NotTen (cond t given_twice not_of_form)
        by true = λ e. omega arith
        by false = λ e. omega arith

    step : (p : Option (Held B)) (k : List ℕ) → Sees d (one_step known reads p k)
    step (some h) k = sees_none d
    step none k = by (known k)
      where
        by : (o : Option A) → Sees d (behind_key (then o (λ w. some (put_in (λ b. some (held k b)) (reads w)))))
        by none = sees_none d
        by (some w) = sees_put d (reads w) (s w) (λ b. some (held k b))

sees_keyed : {A B : Type 0} (d : ℕ) (keys : List Key) (reads : ℕ → List ℕ → Got A) (whole : (ℕ → Option (Option A)) → Option B) → ((f : ℕ) → Sees d (reads f))
    → Sees (suc d) (keyed_there keys reads whole)
unfolding keyed_there
sees_keyed {A} d keys reads whole s =
    sees_ending (suc d) _ (sees_object d (λ ts k. field_judge ts (field_of keys k)) (λ ts k. ok ts (field_of keys k)) (λ ts k. behind_key (field_reader reads ts (field_of keys k))) (λ ts k. step ts (field_of keys k)) []) (λ ts. whole (λ f. some (value_of f ts)))
  where
    ok : (ts : List (Typed A)) (o : Option ℕ) → NotTen (field_judge ts o)
    ok ts none = λ e. omega arith
    ok ts (some f) = by (has_typed f ts)
      where
        by : (t : Bool) → NotTen (cond t given_twice 0)
        by true = λ e. omega arith
        by false = λ e. omega arith

    step : (ts : List (Typed A)) (o : Option ℕ) → Sees d (behind_key (field_reader reads ts o))
    step ts none = sees_none d
    step ts (some f) = by (has_typed f ts)
      where
        by : (t : Bool) → Sees d (behind_key (check (not t) (some (put_in (λ a. typed f a ∷ ts) (reads f)))))
        by true = sees_none d
        by false = sees_put d (reads f) (s f) (λ a. typed f a ∷ ts)

sees_action : Sees 2 action_there
unfolding action_there
sees_action = sees_either 2 _ _ (sees_more 1 2 _ (omega arith) (sees_word _)) (sees_one 1 _ _ (λ w. sees_put 1 _ (sees_natural (2 ^ 32 - 1)) _))

sees_operator : Sees 2 operator_there
unfolding operator_there
sees_operator = sees_either 2 _ _ (sees_more 1 2 _ (omega arith) (sees_word _)) (sees_one 1 _ _ (λ w. sees_put 1 _ (sees_natural (2 ^ 64 - 1)) _))

sees_comment : (d : ℕ) → 1 ≤ d → Sees d (null_or string_there)
sees_comment d h = sees_null d string_there h (sees_more 1 d _ h sees_string)

module _ (j : Judges) where
  sees_condition_reads : (f : ℕ) → Sees 2 (condition_reads j f)
  sees_condition_reads zero = sees_put 2 _ (sees_more 1 2 _ (omega arith) (sees_asked 1 _ (sees_natural 255) j.index wrong_index (λ e. omega arith))) _
  sees_condition_reads (suc zero) = sees_put 2 _ (sees_more 1 2 _ (omega arith) (sees_word _)) _
  sees_condition_reads (suc (suc zero)) = sees_put 2 _ sees_operator _
  sees_condition_reads (suc (suc (suc zero))) = sees_put 2 _ (sees_more 1 2 _ (omega arith) (sees_natural (2 ^ 64 - 1))) _
  sees_condition_reads (suc (suc (suc (suc zero)))) = sees_put 2 _ (sees_comment 2 (omega arith)) _
  sees_condition_reads (suc (suc (suc (suc (suc n))))) = sees_none 2

  sees_condition : Sees 3 (condition_there j)
  unfolding condition_there
  sees_condition = sees_asked 3 _ (sees_keyed 2 condition_keys (condition_reads j) condition_from sees_condition_reads) j.fits too_wide (λ e. omega arith)

  sees_line_reads : (f : ℕ) → Sees 4 (line_reads j f)
  sees_line_reads zero = sees_put 4 _ (sees_more 1 4 _ (omega arith) (sees_asked 1 _ sees_string j.known unknown_call (λ e. omega arith))) _
  sees_line_reads (suc zero) = sees_put 4 _ (sees_null 4 _ (omega arith) (sees_asked 4 _ (sees_list 3 (condition_there j) sees_condition) j.filled empty_args (λ e. omega arith))) _
  sees_line_reads (suc (suc zero)) = sees_put 4 _ (sees_comment 4 (omega arith)) _
  sees_line_reads (suc (suc (suc n))) = sees_none 4

  sees_line : Sees 5 (line_there j)
  unfolding line_there
  sees_line = sees_keyed 4 line_keys (line_reads j) line_from sees_line_reads

  sees_filter_reads : (f : ℕ) → Sees 6 (filter_reads j f)
  sees_filter_reads zero = sees_put 6 _ (sees_more 2 6 _ (omega arith) sees_action) _
  sees_filter_reads (suc zero) = sees_put 6 _ (sees_more 2 6 _ (omega arith) sees_action) _
  sees_filter_reads (suc (suc zero)) = sees_put 6 _ (sees_list 5 (line_there j) sees_line) _
  sees_filter_reads (suc (suc (suc n))) = sees_none 6

  sees_filter : (name : List ℕ) → Sees 7 (filter_there j name)
  unfolding filter_there
  sees_filter name = sees_asked 7 _ (sees_keyed 6 filter_keys (filter_reads j) (filter_from name) sees_filter_reads) (λ f. j.differ f.mismatch f.on_match) equal_actions (λ e. omega arith)

  pub sees_filters : Sees 8 (filters_there j)
  unfolding filters_there
  sees_filters =
      sees_object 7 (λ fs k. cond (named k fs) given_twice 0) (λ fs k. ok (named k fs)) (λ fs k. behind_key (check (not (named k fs)) (some (put_in (λ f. fs ++ (f ∷ [])) (filter_there j k)))))
      (λ fs k. step fs k (named k fs)) []
    where
      ok : (t : Bool) → NotTen (cond t given_twice 0)
      ok true = λ e. omega arith
      ok false = λ e. omega arith

      step : (fs : List Filter) (k : List ℕ) (t : Bool) → Sees 7 (behind_key (check (not t) (some (put_in (λ f. fs ++ (f ∷ [])) (filter_there j k)))))
      step fs k true = sees_none 7
      step fs k false = sees_put 7 _ (sees_filter k) (λ f. fs ++ (f ∷ []))

  -- ---- whole texts

  goes_all : {A B : Type 0} (a : A) (b : B) (l : List ℕ) → Goes (all_read a l) (all_read b l)
  goes_all a b [] = (b, refl)
  goes_all a b (c ∷ l) = λ e. refl

  -- 10 is where the reader of any JSON stops, and at the same byte
  pub ten_place : (t l : List ℕ) (n : ℕ) → 8 ≤ n → read_filters j t ≡ stop not_json l → whole (value_at n) t ≡ stop not_json l
  unfolding read_filters whole
  ten_place t l n h e =
      same_stop (follow (filters_there j (blanks t)) (λ a rest. all_read a (blanks rest))) (follow (value_at n (blanks t)) (λ a rest. all_read a (blanks rest)))
      (goes_follow (filters_there j (blanks t)) (value_at n (blanks t)) _ _ (sees_filters.goes n (blanks t) h) (λ a b rest. goes_all a b (blanks rest))) e
    where
      same_stop : {A B : Type 0} (g : Got A) (h : Got B) → Goes g h → g ≡ stop not_json l → h ≡ stop not_json l
      same_stop (got a rest) h w e = absurd (let z : ◌≡◌ {A = ℕ} 0 1 = cc in omega arith)
      same_stop (stop k m) h w e = let ek : k ≡ not_json = cc in let em : m ≡ l = cc in w ek ∙ ap (λ (x : List ℕ). stop not_json x) em

  any_complete : {t : List ℕ} {v : Json} → Text t v → (n : ℕ) → length t ≤ n → whole (value_at n) t ≡ got v []
  unfolding whole
  any_complete (text {w = w} {b = b} {x = x} {v = v} bw wr bx) n less =
      let h : length b ≤ n = omega (arith, simp length-append at less) in
      rw (
        blanks_complete w (b ++ x) bw (written_begins b v wr x),
        (value_faithful n).complete b v v x wr h refl (blank_rest x bx),
        all_blank x bx,
      )

  -- a text that is refused with 10 is no JSON text
  pub ten_sound : (t l : List ℕ) → read_filters j t ≡ stop not_json l → (v : Json) → Text t v → ⊥
  ten_sound t l e v w =
      let a = ten_place t l (8 + length t) (omega arith) e in
      let b = any_complete w (8 + length t) (omega arith) in
      (let z : ◌≡◌ {A = ℕ} 0 1 = cc in omega arith)
