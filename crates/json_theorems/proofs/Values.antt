-- Any value, and whole texts: the reader reads exactly the texts of RFC 8259, so that a text has at most one value. Assumes nothing.
use mathlib.Core.Path.{◌≡◌, refl, ap, sym, ◌∙◌}
use mathlib.Core.Bool.{Bool, true, false, cond}
use mathlib.Core.List.{List, [], ◌∷◌, ◌++◌, append_assoc, append-nil}
use mathlib.Core.Option.{Option, none, some}
use Prim.Native.Nat.{ℕ, zero, suc, ◌≤◌}
use native.Mathlib.Omega.{arith}
use lib.Dec.{eqb}
use lib.ListN.{length, take, drop, length-append, take-append-drop}
use lib.Seq.{take-append_seam, drop-append_seam}
use borrow.Author.Tests.{eqb-true, eq-eqb, ne_eqb}
use Rattle.definitions.specs.Format.{then}
use Rattle.definitions.specs.Json.{ascii, quote, is_blank, all, Blank, no_sign, minus, nought, positive, Number, spelled, Json, null, boolean, number, string, array, object, Values, no_values, value, Members, no_members, member, Written, a_null, a_true, a_false, a_number, a_string, an_empty_array, an_array, an_empty_object, an_object, WrittenValues, last_value, next_value, WrittenMembers, last_member, next_member, Text, text}
use Rattle.definitions.specs.JsonForm.{same, Only}
use Rattle.definitions.specs.JsonReader.{Got, got, stop, not_json, follow, first, blanks, placed, bad_character, string_at, fields, any_key, object_at, items, array_at, apart, literal_at, values_of, members_of, on_count, number_count, value_at, nothing_left, text_at}
use Rattle.json_theorems.proofs.Tests.{false_not_true, both_true, then_some, within_le}
use Rattle.json_theorems.proofs.Strings.{string_complete, string_sound}
use Rattle.json_theorems.proofs.Parts.{follow_got, placed_got, Skipped, blanks_sound, blanks_complete}
use Rattle.json_theorems.proofs.Numbers.{number_sound, number_complete}
use Rattle.json_theorems.proofs.Loops.{Ends, ValueThere, Faithful, Lets, fold_members, fold_values, Begins, blank_ends, fields_sound, fields_complete, items_sound, items_complete}

-- ---- what values begin with

-- the first byte of a number is a minus or a digit
pub data Starts : ℕ → Type 0 where
  by_minus : Starts 0x2d
  by_digit : (d : ℕ) → 0x30 ≤ d → d ≤ 0x39 → Starts d

pub number_starts : {b : List ℕ} → Number b → (rest : List ℕ) → Starts (first (b ++ rest))
number_starts (spelled minus w f x) rest = by_minus
number_starts (spelled no_sign nought f x) rest = by_digit 0x30 (omega arith) (omega arith)
number_starts (spelled no_sign (positive d ds is t) f x) rest = let r = within_le 0x31 0x39 d is in by_digit d (omega arith) r.1

pub starts_not : {d : ℕ} → Starts d → (k : ℕ) → 0x3a ≤ k → eqb d k ≡ false
starts_not by_minus k h = ne_eqb 0x2d k (λ s. omega arith)
starts_not (by_digit d l m) k h = ne_eqb d k (λ s. omega arith)

pub starts_low : {d : ℕ} → Starts d → (k : ℕ) → k ≤ 0x2c → eqb d k ≡ false
starts_low by_minus k h = ne_eqb 0x2d k (λ s. omega arith)
starts_low (by_digit d l m) k h = ne_eqb d k (λ s. omega arith)

starts_blank : {d : ℕ} → Starts d → is_blank d ≡ false
unfolding is_blank
starts_blank s = rw (starts_low s 0x20 (omega arith), starts_low s 0x09 (omega arith), starts_low s 0x0a (omega arith), starts_low s 0x0d (omega arith))

pub written_begins : (b : List ℕ) (v : Json) → Written b v → Begins b
unfolding ascii is_blank
written_begins _ _ a_null rest = refl
written_begins _ _ a_true rest = refl
written_begins _ _ a_false rest = refl
written_begins _ _ (a_number n) rest = starts_blank (number_starts n rest)
written_begins _ _ (a_string c) rest = refl
written_begins _ _ (an_empty_array w) rest = refl
written_begins _ _ (an_array w) rest = refl
written_begins _ _ (an_empty_object w) rest = refl
written_begins _ _ (an_object w) rest = refl

-- ---- members and values gathered as they come

abbrev add_member : List Only → List ℕ → Json → Option (List Only)
add_member ms k v = some (ms ++ (record { key = k; value = v } ∷ []))

abbrev add_value : List Json → Json → Option (List Json)
add_value vs v = some (vs ++ (v ∷ []))

abbrev listed : Members → List Only
listed no_members = []
listed (member k v ms) = record { key = k; value = v } ∷ listed ms

abbrev in_row : Values → List Json
in_row no_values = []
in_row (value v vs) = v ∷ in_row vs

fold_listed : (ms : Members) (p : List Only) → fold_members add_member p ms ≡ some (p ++ listed ms)
fold_listed no_members p = rw append-nil
fold_listed (member k v ms) p = fold_listed ms (p ++ (record { key = k; value = v } ∷ [])) ∙ rw append_assoc

fold_row : (vs : Values) (p : List Json) → fold_values add_value p vs ≡ some (p ++ in_row vs)
fold_row no_values p = rw append-nil
fold_row (value v vs) p = fold_row vs (p ++ (v ∷ [])) ∙ rw append_assoc

members_listed : (ms : Members) → members_of (listed ms) ≡ ms
members_listed no_members = refl
members_listed (member k v ms) = ap (λ (x : Members). member k v x) (members_listed ms)

values_row : (vs : Values) → values_of (in_row vs) ≡ vs
values_row no_values = refl
values_row (value v vs) = ap (λ (x : Values). value v x) (values_row vs)

some_same : {A : Type 0} {a b : A} → some a ≡ some b → a ≡ b
some_same e = cc

-- ---- a value added: as good as the value's reader

module _ {A P : Type 0} (n : ℕ) (r : List ℕ → Got A) (f : Json → Option A) (faith : Faithful n r f) (add : A → P) where
  pub adding : Faithful n (λ m. follow (r m) (λ v rest. got (add v) rest)) (λ v. then (f v) (λ a. some (add a)))
  adding = record {
    sound = λ l a rest e.
        let o = follow_got (r l) (λ v more. got (add v) more) a rest e in
        let v = faith.sound l o.part o.behind o.was in
        let g : got (add o.part) o.behind ≡ got a rest = o.gave in
        let ea : add o.part ≡ a = cc in
        let er : o.behind ≡ rest = cc in
        record { bytes = v.bytes; is = v.is; written = v.written; meant = lift v.is o.part a v.meant ea; here = v.here ∙ ap (λ (t : List ℕ). v.bytes ++ t) er };
    complete = λ b v a rest w less e h.
        let s = then_some (f v) (λ x. some (add x)) a e in
        back b v s.0 a rest (faith.complete b v s.0 rest w less s.1 h) (some_same s.2);
  }
    where
      lift : (v : Json) (x : A) (a : P) → f v ≡ some x → add x ≡ a → then (f v) (λ y. some (add y)) ≡ some a
      lift v x a e ea = rw (e, ea)

      back : (b : List ℕ) (v : Json) (x : A) (a : P) (rest : List ℕ) → r (b ++ rest) ≡ got x rest → add x ≡ a → follow (r (b ++ rest)) (λ y more. got (add y) more) ≡ got a rest
      back b v x a rest e ea = rw (e, ea)

-- ---- objects

pub record ObjectThere {P : Type 0} (set : P → List ℕ → Json → Option P) (p : P) (l : List ℕ) (q : P) (rest : List ℕ) : Type 0 where
  pub bytes : List ℕ
  pub are : Members
  pub written : Written (0x7b ∷ bytes) (object are)
  pub meant : fold_members set p are ≡ some q
  pub here : l ≡ bytes ++ rest

members_quote : {bs : List ℕ} {ms : Members} → WrittenMembers bs ms → (rest : List ℕ) → eqb (first (blanks (bs ++ rest))) 0x7d ≡ false
unfolding is_blank
members_quote (last_member {w = w} {kb = kb} {x = x} {y = y} {b = b} {z = z} bw cs bx by wr bz) rest =
    let e : (w ++ (quote ∷ (kb ++ (x ++ (0x3a ∷ (y ++ (b ++ (z ++ (0x7d ∷ []))))))))) ++ rest ≡ w ++ (quote ∷ ((kb ++ (x ++ (0x3a ∷ (y ++ (b ++ (z ++ (0x7d ∷ []))))))) ++ rest)) = append_assoc w _ rest in
    rw (e, blanks_complete w (quote ∷ ((kb ++ (x ++ (0x3a ∷ (y ++ (b ++ (z ++ (0x7d ∷ []))))))) ++ rest)) bw refl)
members_quote (next_member {w = w} {kb = kb} {x = x} {y = y} {b = b} {z = z} {bs = bs} bw cs bx by wr bz more) rest =
    let e : (w ++ (quote ∷ (kb ++ (x ++ (0x3a ∷ (y ++ (b ++ (z ++ (0x2c ∷ bs))))))))) ++ rest ≡ w ++ (quote ∷ ((kb ++ (x ++ (0x3a ∷ (y ++ (b ++ (z ++ (0x2c ∷ bs))))))) ++ rest)) = append_assoc w _ rest in
    rw (e, blanks_complete w (quote ∷ ((kb ++ (x ++ (0x3a ∷ (y ++ (b ++ (z ++ (0x2c ∷ bs))))))) ++ rest)) bw refl)

module _ {P : Type 0} (judge : P → List ℕ → ℕ) (step : P → List ℕ → List ℕ → Got P) (set : P → List ℕ → Json → Option P) (m : ℕ)
    (faithful : (p : P) (k : List ℕ) → Faithful m (step p k) (set p k)) (lets : Lets judge set) where
  pub object_sound : (p q : P) (l rest : List ℕ) → object_at judge step p l ≡ got q rest → ObjectThere set p l q rest
  unfolding object_at
  object_sound p q l rest e = let w = blanks_sound l in empty (blanks l) refl w e
    where
      many : fields judge step (length l) p l ≡ got q rest → ObjectThere set p l q rest
      many f =
          let t = fields_sound judge step set m faithful lets written_begins (length l) p q l rest f in
          record { bytes = t.bytes; are = t.are; written = an_object t.written; meant = t.meant; here = t.here }

      empty : (b : List ℕ) → blanks l ≡ b → Skipped l → cond (eqb (first (blanks l)) 0x7d) (got p (drop 1 (blanks l))) (fields judge step (length l) p l) ≡ got q rest
          → ObjectThere set p l q rest
      empty [] eb w f = many (rw eb at f)
      empty (x ∷ b) eb w f = by (eqb x 0x7d) refl (rw eb at f)
        where
          by : (t : Bool) → eqb x 0x7d ≡ t → cond t (got p b) (fields judge step (length l) p l) ≡ got q rest → ObjectThere set p l q rest
          by false is g = many g
          by true is g =
              let ep : p ≡ q = cc in
              let er : b ≡ rest = cc in
              let ex : x ≡ 0x7d = eqb-true x 0x7d is in
              record {
                bytes = w.skipped ++ (0x7d ∷ []);
                are = no_members;
                written = an_empty_object w.blank;
                meant = rw ep;
                here = w.here ∙ ap (λ (t : List ℕ). w.skipped ++ t) (eb ∙ ap (λ (t : List ℕ). x ∷ t) er ∙ ap (λ (t : ℕ). t ∷ rest) ex) ∙ sym (append_assoc w.skipped (0x7d ∷ []) rest);
              }

  pub object_complete : {bs : List ℕ} {ms : Members} → WrittenMembers bs ms → (p q : P) (rest : List ℕ) → length bs ≤ m → fold_members set p ms ≡ some q
      → object_at judge step p (bs ++ rest) ≡ got q rest
  unfolding object_at
  object_complete {bs = bs} w p q rest less e =
      rw (members_quote w rest) (fields_complete judge step set m faithful lets written_begins w p q rest (length (bs ++ rest)) (omega (arith, length-append bs rest)) less e)

  pub object_empty : {w : List ℕ} → Blank w → (p : P) (rest : List ℕ) → object_at judge step p ((w ++ (0x7d ∷ [])) ++ rest) ≡ got p rest
  unfolding object_at is_blank
  object_empty {w = w} b p rest = rw (append_assoc w (0x7d ∷ []) rest, blanks_complete w (0x7d ∷ rest) b refl)

-- ---- arrays

pub record ArrayThere {P : Type 0} (set : P → Json → Option P) (p : P) (l : List ℕ) (q : P) (rest : List ℕ) : Type 0 where
  pub bytes : List ℕ
  pub are : Values
  pub written : Written (0x5b ∷ bytes) (array are)
  pub meant : fold_values set p are ≡ some q
  pub here : l ≡ bytes ++ rest

written_not : {b : List ℕ} {v : Json} → Written b v → (rest : List ℕ) → eqb (first (b ++ rest)) 0x5d ≡ false
unfolding ascii
written_not a_null rest = refl
written_not a_true rest = refl
written_not a_false rest = refl
written_not (a_number n) rest = starts_not (number_starts n rest) 0x5d (omega arith)
written_not (a_string c) rest = refl
written_not (an_empty_array w) rest = refl
written_not (an_array w) rest = refl
written_not (an_empty_object w) rest = refl
written_not (an_object w) rest = refl

values_bracket : {bs : List ℕ} {vs : Values} → WrittenValues bs vs → (rest : List ℕ) → eqb (first (blanks (bs ++ rest))) 0x5d ≡ false
values_bracket (last_value {w = w} {b = b} {x = x} {v = v} bw wr bx) rest =
    let e : (w ++ (b ++ (x ++ (0x5d ∷ [])))) ++ rest ≡ w ++ (b ++ ((x ++ (0x5d ∷ [])) ++ rest)) = simp append_assoc in
    rw (e, blanks_complete w (b ++ ((x ++ (0x5d ∷ [])) ++ rest)) bw (written_begins b v wr _)) (written_not wr _)
values_bracket (next_value {w = w} {b = b} {x = x} {bs = bs} {v = v} bw wr bx more) rest =
    let e : (w ++ (b ++ (x ++ (0x2c ∷ bs)))) ++ rest ≡ w ++ (b ++ ((x ++ (0x2c ∷ bs)) ++ rest)) = simp append_assoc in
    rw (e, blanks_complete w (b ++ ((x ++ (0x2c ∷ bs)) ++ rest)) bw (written_begins b v wr _)) (written_not wr _)

module _ {P : Type 0} (step : P → List ℕ → Got P) (set : P → Json → Option P) (m : ℕ) (faithful : (p : P) → Faithful m (step p) (set p)) where
  pub array_sound : (p q : P) (l rest : List ℕ) → array_at step p l ≡ got q rest → ArrayThere set p l q rest
  unfolding array_at
  array_sound p q l rest e = let w = blanks_sound l in empty (blanks l) refl w e
    where
      many : items step (length l) p l ≡ got q rest → ArrayThere set p l q rest
      many f =
          let t = items_sound step set m faithful written_begins (length l) p q l rest f in
          record { bytes = t.bytes; are = t.are; written = an_array t.written; meant = t.meant; here = t.here }

      empty : (b : List ℕ) → blanks l ≡ b → Skipped l → cond (eqb (first (blanks l)) 0x5d) (got p (drop 1 (blanks l))) (items step (length l) p l) ≡ got q rest
          → ArrayThere set p l q rest
      empty [] eb w f = many (rw eb at f)
      empty (x ∷ b) eb w f = by (eqb x 0x5d) refl (rw eb at f)
        where
          by : (t : Bool) → eqb x 0x5d ≡ t → cond t (got p b) (items step (length l) p l) ≡ got q rest → ArrayThere set p l q rest
          by false is g = many g
          by true is g =
              let ep : p ≡ q = cc in
              let er : b ≡ rest = cc in
              let ex : x ≡ 0x5d = eqb-true x 0x5d is in
              record {
                bytes = w.skipped ++ (0x5d ∷ []);
                are = no_values;
                written = an_empty_array w.blank;
                meant = rw ep;
                here = w.here ∙ ap (λ (t : List ℕ). w.skipped ++ t) (eb ∙ ap (λ (t : List ℕ). x ∷ t) er ∙ ap (λ (t : ℕ). t ∷ rest) ex) ∙ sym (append_assoc w.skipped (0x5d ∷ []) rest);
              }

  pub array_complete : {bs : List ℕ} {vs : Values} → WrittenValues bs vs → (p q : P) (rest : List ℕ) → length bs ≤ m → fold_values set p vs ≡ some q
      → array_at step p (bs ++ rest) ≡ got q rest
  unfolding array_at
  array_complete {bs = bs} w p q rest less e =
      rw (values_bracket w rest) (items_complete step set m faithful written_begins w p q rest (length (bs ++ rest)) (omega (arith, length-append bs rest)) less e)

  pub array_empty : {w : List ℕ} → Blank w → (p : P) (rest : List ℕ) → array_at step p ((w ++ (0x5d ∷ [])) ++ rest) ≡ got p rest
  unfolding array_at is_blank
  array_empty {w = w} b p rest = rw (append_assoc w (0x5d ∷ []) rest, blanks_complete w (0x5d ∷ rest) b refl)

-- ---- any value

abbrev Any : List ℕ → Json → List ℕ → Type 0
Any l v rest = ValueThere (λ x. some x) l v rest

pub same_true : (a b : List ℕ) → same a b ≡ true → a ≡ b
unfolding same
same_true [] [] e = refl
same_true [] (x ∷ b) e = absurd (false_not_true e)
same_true (x ∷ a) [] e = absurd (false_not_true e)
same_true (x ∷ a) (y ∷ b) e =
    let p = both_true (eqb x y) (same a b) e in
    rw (eqb-true x y p.0, same_true a b p.1)

pub same_self : (a : List ℕ) → same a a ≡ true
unfolding same
same_self [] = refl
same_self (x ∷ a) = rw (eq-eqb x x refl, same_self a)

literal_sound : (word : List ℕ) (w v : Json) (l rest : List ℕ) → Written word w → literal_at word w l ≡ got v rest → Any l v rest
unfolding literal_at
literal_sound word w v l rest wr e = go (same (take (length word) l) word) refl e
  where
    go : (t : Bool) → same (take (length word) l) word ≡ t → cond t (got w (drop (length word) l)) (stop not_json (apart word l)) ≡ got v rest → Any l v rest
    go true is f =
        let ev : w ≡ v = cc in
        let er : drop (length word) l ≡ rest = cc in
        let et = same_true (take (length word) l) word is in
        record {
          bytes = word;
          is = w;
          written = wr;
          meant = ap some ev;
          here = sym (take-append-drop (length word) l) ∙ ap (λ (t : List ℕ). t ++ drop (length word) l) et ∙ ap (λ (t : List ℕ). word ++ t) er;
        }
    go false is f = absurd (let z : ◌≡◌ {A = ℕ} 0 1 = cc in omega arith)

number_there_lem : (l : List ℕ) (v : Json) (rest : List ℕ) → on_count (number_count l) l ≡ got v rest → Any l v rest
number_there_lem l v rest e = go (number_count l) refl e
  where
    go : (o : Option ℕ) → number_count l ≡ o → on_count o l ≡ got v rest → Any l v rest
    go none is f = absurd (let z : ◌≡◌ {A = ℕ} 0 1 = cc in omega arith)
    go (some n) is f =
        let ev : number (take n l) ≡ v = cc in
        let er : drop n l ≡ rest = cc in
        record {
          bytes = take n l;
          is = number (take n l);
          written = a_number (number_sound l n is);
          meant = ap some ev;
          here = sym (take-append-drop n l) ∙ ap (λ (t : List ℕ). take n l ++ t) er;
        }

string_there_lem : (l : List ℕ) (v : Json) (rest : List ℕ) → follow (placed bad_character (string_at l)) (λ s more. got (string s) more) ≡ got v rest → Any (quote ∷ l) v rest
string_there_lem l v rest e =
    let o = follow_got (placed bad_character (string_at l)) (λ s more. got (string s) more) v rest e in
    let s = string_sound l o.part o.behind (placed_got bad_character (string_at l) o.part o.behind o.was) in
    let g : got (string o.part) o.behind ≡ got v rest = o.gave in
    let ev : string o.part ≡ v = cc in
    let er : o.behind ≡ rest = cc in
    record {
      bytes = quote ∷ s.bytes;
      is = string o.part;
      written = a_string s.spelled;
      meant = ap some ev;
      here = ap (λ (t : List ℕ). quote ∷ t) (s.here ∙ ap (λ (t : List ℕ). s.bytes ++ t) er);
    }

pub written_long : {b : List ℕ} {v : Json} → Written b v → 1 ≤ length b
unfolding ascii
written_long a_null = omega arith
written_long a_true = omega arith
written_long a_false = omega arith
written_long (a_number {bs = []} n) = starts_zero (number_starts n [])
  where
    starts_zero : Starts 0 → 1 ≤ 0
    starts_zero s = absurd (false_not_true (sym (starts_low s 0 (omega arith))))
written_long (a_number {bs = x ∷ bs} n) = omega arith
written_long (a_string c) = omega arith
written_long (an_empty_array w) = omega arith
written_long (an_array w) = omega arith
written_long (an_empty_object w) = omega arith
written_long (an_object w) = omega arith

module _ (n : ℕ) (ih : Faithful n (value_at n) (λ v. some v)) where
  step_member : List Only → List ℕ → List ℕ → Got (List Only)
  step_member ms k m = follow (value_at n m) (λ v rest. got (ms ++ (record { key = k; value = v } ∷ [])) rest)

  step_value : List Json → List ℕ → Got (List Json)
  step_value vs m = follow (value_at n m) (λ v rest. got (vs ++ (v ∷ [])) rest)

  faith_member : (p : List Only) (k : List ℕ) → Faithful n (step_member p k) (add_member p k)
  unfolding step_member
  faith_member p k = adding n (value_at n) (λ v. some v) ih (λ v. p ++ (record { key = k; value = v } ∷ []))

  faith_value : (p : List Json) → Faithful n (step_value p) (add_value p)
  unfolding step_value
  faith_value p = adding n (value_at n) (λ v. some v) ih (λ v. p ++ (v ∷ []))

  object_there_lem : (l : List ℕ) (v : Json) (rest : List ℕ) → follow (object_at any_key step_member [] l) (λ ms more. got (object (members_of ms)) more) ≡ got v rest → Any (0x7b ∷ l) v rest
  object_there_lem l v rest e =
      let o = follow_got (object_at any_key step_member [] l) (λ ms more. got (object (members_of ms)) more) v rest e in
      let s = object_sound any_key step_member add_member n faith_member (λ p k v s e. refl) [] o.part l o.behind o.was in
      let g : got (object (members_of o.part)) o.behind ≡ got v rest = o.gave in
      let ev : object (members_of o.part) ≡ v = cc in
      let er : o.behind ≡ rest = cc in
      let el : listed s.are ≡ o.part = some_same (sym (fold_listed s.are []) ∙ s.meant) in
      record {
        bytes = 0x7b ∷ s.bytes;
        is = object s.are;
        written = s.written;
        meant = ap some (ap (λ (t : Members). object t) (sym (members_listed s.are)) ∙ ap (λ (t : List Only). object (members_of t)) el ∙ ev);
        here = ap (λ (t : List ℕ). 0x7b ∷ t) (s.here ∙ ap (λ (t : List ℕ). s.bytes ++ t) er);
      }

  array_there_lem : (l : List ℕ) (v : Json) (rest : List ℕ) → follow (array_at step_value [] l) (λ vs more. got (array (values_of vs)) more) ≡ got v rest → Any (0x5b ∷ l) v rest
  array_there_lem l v rest e =
      let o = follow_got (array_at step_value [] l) (λ vs more. got (array (values_of vs)) more) v rest e in
      let s = array_sound step_value add_value n faith_value [] o.part l o.behind o.was in
      let g : got (array (values_of o.part)) o.behind ≡ got v rest = o.gave in
      let ev : array (values_of o.part) ≡ v = cc in
      let er : o.behind ≡ rest = cc in
      let el : in_row s.are ≡ o.part = some_same (sym (fold_row s.are []) ∙ s.meant) in
      record {
        bytes = 0x5b ∷ s.bytes;
        is = array s.are;
        written = s.written;
        meant = ap some (ap (λ (t : Values). array t) (sym (values_row s.are)) ∙ ap (λ (t : List Json). array (values_of t)) el ∙ ev);
        here = ap (λ (t : List ℕ). 0x5b ∷ t) (s.here ∙ ap (λ (t : List ℕ). s.bytes ++ t) er);
      }

  value_sound : (l : List ℕ) (v : Json) (rest : List ℕ) → value_at (suc n) l ≡ got v rest → Any l v rest
  unfolding value_at step_member step_value
  value_sound [] v rest e = number_there_lem [] v rest e
  value_sound (x ∷ l) v rest e =
      go (eqb x quote) refl (eqb x 0x7b) refl (eqb x 0x5b) refl (eqb x 0x6e) (eqb x 0x74) (eqb x 0x66) e
    where
      go : (a : Bool) → eqb x quote ≡ a → (b : Bool) → eqb x 0x7b ≡ b → (c : Bool) → eqb x 0x5b ≡ c → (d f g : Bool)
          → cond a (follow (placed bad_character (string_at l)) (λ s more. got (string s) more))
          (cond b (follow (object_at any_key step_member [] l) (λ ms more. got (object (members_of ms)) more))
          (cond c (follow (array_at step_value [] l) (λ vs more. got (array (values_of vs)) more))
          (cond d (literal_at (ascii "null") null (x ∷ l))
          (cond f (literal_at (ascii "true") (boolean true) (x ∷ l))
          (cond g (literal_at (ascii "false") (boolean false) (x ∷ l))
          (on_count (number_count (x ∷ l)) (x ∷ l))))))) ≡ got v rest
          → Any (x ∷ l) v rest
      go true a b eb c ec d f g h = rw (eqb-true x quote a) (string_there_lem l v rest h)
      go false a true eb c ec d f g h = rw (eqb-true x 0x7b eb) (object_there_lem l v rest h)
      go false a false eb true ec d f g h = rw (eqb-true x 0x5b ec) (array_there_lem l v rest h)
      go false a false eb false ec true f g h = literal_sound _ null v (x ∷ l) rest a_null h
      go false a false eb false ec false true g h = literal_sound _ (boolean true) v (x ∷ l) rest a_true h
      go false a false eb false ec false false true h = literal_sound _ (boolean false) v (x ∷ l) rest a_false h
      go false a false eb false ec false false false h = number_there_lem (x ∷ l) v rest h

  value_complete : (b : List ℕ) (v : Json) (rest : List ℕ) → Written b v → length b ≤ suc n → Ends rest → value_at (suc n) (b ++ rest) ≡ got v rest
  unfolding value_at step_member step_value ascii literal_at same
  value_complete _ _ rest a_null less h = refl
  value_complete _ _ rest a_true less h = refl
  value_complete _ _ rest a_false less h = refl
  value_complete _ _ rest (a_number {bs = bs} k) less h =
      let s = number_starts k rest in
      rw (
        starts_low s quote (omega arith),
        starts_not s 0x7b (omega arith),
        starts_not s 0x5b (omega arith),
        starts_not s 0x6e (omega arith),
        starts_not s 0x74 (omega arith),
        starts_not s 0x66 (omega arith),
        number_complete k rest h,
        take-append_seam bs rest,
        drop-append_seam bs rest,
      )
  value_complete _ _ rest (a_string c) less h = rw (string_complete c rest)
  value_complete _ _ rest (an_empty_array w) less h = rw (array_empty step_value add_value n faith_value w [] rest)
  value_complete _ _ rest (an_array {vs = vs} w) less h =
      rw (array_complete step_value add_value n faith_value w [] (in_row vs) rest (omega arith) (fold_row vs []), values_row vs)
  value_complete _ _ rest (an_empty_object w) less h = rw (object_empty any_key step_member add_member n faith_member (λ p k v s e. refl) w [] rest)
  value_complete _ _ rest (an_object {ms = ms} w) less h =
      rw (object_complete any_key step_member add_member n faith_member (λ p k v s e. refl) w [] (listed ms) rest (omega arith) (fold_listed ms []), members_listed ms)

pub value_faithful : (n : ℕ) → Faithful n (value_at n) (λ v. some v)
unfolding value_at
value_faithful zero = record {
  sound = λ l a rest e. absurd (let z : ◌≡◌ {A = ℕ} 0 1 = cc in omega arith);
  complete = λ b v a rest w less e h. absurd (omega (arith, written_long w));
}
value_faithful (suc n) = record {
  sound = λ l a rest e. value_sound n (value_faithful n) l a rest e;
  complete = λ b v a rest w less e h. value_complete n (value_faithful n) b v rest w less h ∙ ap (λ (t : Json). got t rest) (some_same e);
}

-- ---- texts

pub blank_rest : (x : List ℕ) → Blank x → Ends x
unfolding all
blank_rest [] h = refl
blank_rest (c ∷ x) h = blank_ends c (both_true (is_blank c) (all is_blank x) h.blank).0

pub all_blank : (x : List ℕ) → Blank x → blanks x ≡ []
unfolding is_blank
all_blank x h = rw append-nil at (blanks_complete x [] h refl)

-- RFC 8259 is read: every text that it has
pub text_complete : {t : List ℕ} {v : Json} → Text t v → text_at t ≡ got v []
unfolding text_at
text_complete (text {w = w} {b = b} {x = x} {v = v} bw wr bx) =
    let less : length b ≤ suc (length (w ++ (b ++ x))) = simp length-append (omega arith) in
    rw (
      blanks_complete w (b ++ x) bw (written_begins b v wr x),
      (value_faithful (suc (length (w ++ (b ++ x))))).complete b v v x wr less refl (blank_rest x bx),
      all_blank x bx,
    )

-- and nothing else
pub text_sound : (t : List ℕ) (v : Json) (rest : List ℕ) → text_at t ≡ got v rest → Text t v
unfolding text_at
text_sound t v rest e =
    let o = follow_got (value_at (suc (length t)) (blanks t)) (λ u more. nothing_left u (blanks more)) v rest e in
    let s = (value_faithful (suc (length t))).sound (blanks t) o.part o.behind o.was in
    let w = blanks_sound t in
    let x = blanks_sound o.behind in
    last o.part (blanks o.behind) o.gave s.bytes s.is s.written (some_same s.meant) w.skipped w.blank x.skipped x.blank
    (w.here ∙ ap (λ (m : List ℕ). w.skipped ++ m) (s.here ∙ ap (λ (m : List ℕ). s.bytes ++ m) x.here))
  where
    retext : {a b : List ℕ} {u y : Json} → a ≡ b → u ≡ y → Text a u → Text b y
    retext p q k = rw (← p, ← q) k

    last : (u : Json) (more : List ℕ) → nothing_left u more ≡ got v rest → (b : List ℕ) (is : Json) → Written b is → is ≡ u → (w : List ℕ) → Blank w → (x : List ℕ) → Blank x
        → t ≡ w ++ (b ++ (x ++ more)) → Text t v
    last u [] g b is wr eu w bw x bx here =
        let ev : u ≡ v = cc in
        retext (ap (λ (m : List ℕ). w ++ (b ++ m)) (sym (append-nil x)) ∙ sym here) (eu ∙ ev) (text bw wr bx)
    last u (c ∷ more) g b is wr eu w bw x bx here = absurd (let z : ◌≡◌ {A = ℕ} 0 1 = cc in omega arith)

-- a text has at most one value
pub one_value : {t : List ℕ} {u v : Json} → Text t u → Text t v → u ≡ v
one_value a b = let p = text_complete a in let q = text_complete b in cc
