-- The parts of the front end's reader are faithful: strings, numbers, what is made of them, objects and arrays of faithful parts. Assumes nothing.
use mathlib.Core.Path.{◌≡◌, refl, ap, sym, ◌∙◌}
use mathlib.Core.Bool.{Bool, true, false, cond, not, ◌||◌}
use mathlib.Core.List.{List, [], ◌∷◌, ◌++◌}
use mathlib.Core.Option.{Option, none, some}
use Prim.Native.Nat.{ℕ, ◌≤◌}
use native.Mathlib.Omega.{arith}
use lib.Dec.{eqb}
use lib.ListN.{length, take, drop, take-append-drop}
use lib.Seq.{take-append_seam, drop-append_seam}
use borrow.Author.Tests.{eqb-true, le-leb}
use Rattle.definitions.specs.Format.{then}
use Rattle.definitions.specs.Json.{quote, is_digit, Json, number, string, array, object, Written, a_null, a_true, a_false, a_number, a_string, an_empty_array, an_array, an_empty_object, an_object}
use Rattle.definitions.specs.JsonForm.{string_of}
use Rattle.definitions.specs.JsonReader.{Got, got, stop, follow, first, string_at, placed, bad_character, number_count, object_at, array_at}
use Rattle.definitions.specs.FormReader.{wrong, string_there, on_number, number_there, or_stop, converted, object_there, array_there, behind_key, number_text, members_in, values_in}
use Rattle.json_theorems.proofs.Tests.{none_not_some, then_some}
use Rattle.json_theorems.proofs.Strings.{string_sound, string_complete}
use Rattle.json_theorems.proofs.Parts.{follow_got, placed_got}
use Rattle.json_theorems.proofs.Numbers.{number_sound, number_complete}
use Rattle.json_theorems.proofs.Loops.{Ends, ValueThere, Faithful, Lets, fold_members, fold_values}
use Rattle.json_theorems.proofs.Values.{Starts, by_minus, by_digit, number_starts, object_sound, object_complete, object_empty, array_sound, array_complete, array_empty}

or_true : (a : Bool) → (a || true) ≡ true
or_true true = refl
or_true false = refl

pub some_same : {A : Type 0} {a b : A} → some a ≡ some b → a ≡ b
some_same e = cc

pub stopped : {A B : Type 0} {k : ℕ} {l : List ℕ} {a : A} {rest : List ℕ} → stop k l ≡ got a rest → B
stopped e = absurd (let z : ◌≡◌ {A = ℕ} 0 1 = cc in omega arith)

-- ---- strings

string_there_lem : (l s rest : List ℕ) → string_there l ≡ got s rest → ValueThere string_of l s rest
unfolding string_there string_of
string_there_lem [] s rest e = stopped e
string_there_lem (x ∷ l) s rest e = go (eqb x quote) refl e
  where
    go : (t : Bool) → eqb x quote ≡ t → cond t (placed bad_character (string_at l)) (stop (wrong (x ∷ l)) (x ∷ l)) ≡ got s rest → ValueThere string_of (x ∷ l) s rest
    go true is f =
        let w = string_sound l s rest (placed_got bad_character (string_at l) s rest f) in
        record { bytes = quote ∷ w.bytes; is = string s; written = a_string w.spelled; meant = refl; here = ap (λ (t : ℕ). t ∷ l) (eqb-true x quote is) ∙ ap (λ (t : List ℕ). quote ∷ t) w.here }
    go false is f = stopped f

string_back : {b : List ℕ} {v : Json} → Written b v → (s rest : List ℕ) → string_of v ≡ some s → string_there (b ++ rest) ≡ got s rest
unfolding string_there string_of
string_back a_null s rest e = absurd (none_not_some e)
string_back a_true s rest e = absurd (none_not_some e)
string_back a_false s rest e = absurd (none_not_some e)
string_back (a_number n) s rest e = absurd (none_not_some e)
string_back (a_string c) s rest e = rw (string_complete c rest) (ap (λ (t : List ℕ). got t rest) (some_same e))
string_back (an_empty_array w) s rest e = absurd (none_not_some e)
string_back (an_array w) s rest e = absurd (none_not_some e)
string_back (an_empty_object w) s rest e = absurd (none_not_some e)
string_back (an_object w) s rest e = absurd (none_not_some e)

pub string_faithful : (m : ℕ) → Faithful m string_there string_of
string_faithful m = record { sound = λ l a rest e. string_there_lem l a rest e; complete = λ b v a rest w less e h. string_back w a rest e }

-- ---- numbers

number_there_lem : (l s rest : List ℕ) → number_there l ≡ got s rest → ValueThere number_text l s rest
unfolding number_there
number_there_lem l s rest e = begun (eqb (first l) 0x2d || is_digit (first l)) e
  where
    go : (o : Option ℕ) → number_count l ≡ o → on_number o l ≡ got s rest → ValueThere number_text l s rest
    go none is f = stopped f
    go (some n) is f =
        let es : take n l ≡ s = cc in
        let er : drop n l ≡ rest = cc in
        record { bytes = take n l; is = number (take n l); written = a_number (number_sound l n is); meant = ap some es; here = sym (take-append-drop n l) ∙ ap (λ (t : List ℕ). take n l ++ t) er }

    begun : (t : Bool) → cond t (on_number (number_count l) l) (stop (wrong l) l) ≡ got s rest → ValueThere number_text l s rest
    begun false f = stopped f
    begun true f = go (number_count l) refl f

starts_number : {d : ℕ} → Starts d → (eqb d 0x2d || is_digit d) ≡ true
starts_number by_minus = refl
starts_number (by_digit d l m) = rw (le-leb 0x30 d l, le-leb d 0x39 m) (or_true (eqb d 0x2d))

number_back : {b : List ℕ} {v : Json} → Written b v → (s rest : List ℕ) → Ends rest → number_text v ≡ some s → number_there (b ++ rest) ≡ got s rest
unfolding number_there
number_back a_null s rest h e = absurd (none_not_some e)
number_back a_true s rest h e = absurd (none_not_some e)
number_back a_false s rest h e = absurd (none_not_some e)
number_back (a_number {bs = bs} n) s rest h e =
    rw (starts_number (number_starts n rest), number_complete n rest h, take-append_seam bs rest, drop-append_seam bs rest) (ap (λ (t : List ℕ). got t rest) (some_same e))
number_back (a_string c) s rest h e = absurd (none_not_some e)
number_back (an_empty_array w) s rest h e = absurd (none_not_some e)
number_back (an_array w) s rest h e = absurd (none_not_some e)
number_back (an_empty_object w) s rest h e = absurd (none_not_some e)
number_back (an_object w) s rest h e = absurd (none_not_some e)

pub number_faithful : (m : ℕ) → Faithful m number_there number_text
number_faithful m = record { sound = λ l a rest e. number_there_lem l a rest e; complete = λ b v a rest w less e h. number_back w a rest h e }

-- ---- what is made of a value

module _ {A B : Type 0} (m : ℕ) (r : List ℕ → Got A) (f : Json → Option A) (faith : Faithful m r f) (g : A → Option B) where
  pub converted_faithful : Faithful m (converted g r) (λ v. then (f v) g)
  unfolding converted
  converted_faithful = record {
    sound = λ l b rest e.
        let o = follow_got (r l) (λ a more. or_stop (g a) l more) b rest e in
        let v = faith.sound l o.part o.behind o.was in
        back l b rest o.part o.behind v (g o.part) refl o.gave;
    complete = λ bs v b rest w less e h.
        let s = then_some (f v) g b e in
        forth bs v s.0 b rest (faith.complete bs v s.0 rest w less s.1 h) s.2;
  }
    where
      back : (l : List ℕ) (b : B) (rest : List ℕ) (a : A) (behind : List ℕ) → ValueThere f l a behind → (o : Option B) → g a ≡ o → or_stop o l behind ≡ got b rest
          → ValueThere (λ v. then (f v) g) l b rest
      back l b rest a behind v none eo e = stopped e
      back l b rest a behind v (some c) eo e =
          let ec : c ≡ b = cc in
          let er : behind ≡ rest = cc in
          record { bytes = v.bytes; is = v.is; written = v.written; meant = meant v.is v.meant ec; here = v.here ∙ ap (λ (t : List ℕ). v.bytes ++ t) er }
        where
          meant : (w : Json) → f w ≡ some a → c ≡ b → then (f w) g ≡ some b
          meant w e1 e2 = rw (e1, eo, e2)

      forth : (bs : List ℕ) (v : Json) (a : A) (b : B) (rest : List ℕ) → r (bs ++ rest) ≡ got a rest → g a ≡ some b
          → follow (r (bs ++ rest)) (λ x more. or_stop (g x) (bs ++ rest) more) ≡ got b rest
      forth bs v a b rest e1 e2 = rw (e1, e2)

-- ---- objects of faithful parts

module _ {P : Type 0} (m : ℕ) (judge : P → List ℕ → ℕ) (step : P → List ℕ → List ℕ → Got P) (set : P → List ℕ → Json → Option P) (faith : (p : P) (k : List ℕ) → Faithful m (step p k) (set p k)) (lets : Lets judge set) where
  object_there_lem : (p : P) (l : List ℕ) (q : P) (rest : List ℕ) → object_there judge step p l ≡ got q rest → ValueThere (members_in (fold_members set p)) l q rest
  unfolding object_there
  object_there_lem p [] q rest e = stopped e
  object_there_lem p (x ∷ l) q rest e = go (eqb x 0x7b) refl e
    where
      go : (t : Bool) → eqb x 0x7b ≡ t → cond t (object_at judge step p l) (stop (wrong (x ∷ l)) (x ∷ l)) ≡ got q rest → ValueThere (members_in (fold_members set p)) (x ∷ l) q rest
      go true is f =
          let w = object_sound judge step set m faith lets p q l rest f in
          record { bytes = 0x7b ∷ w.bytes; is = object w.are; written = w.written; meant = w.meant; here = ap (λ (t : ℕ). t ∷ l) (eqb-true x 0x7b is) ∙ ap (λ (t : List ℕ). 0x7b ∷ t) w.here }
      go false is f = stopped f

  object_back : {b : List ℕ} {v : Json} → Written b v → length b ≤ m → (p q : P) (rest : List ℕ) → members_in (fold_members set p) v ≡ some q → object_there judge step p (b ++ rest) ≡ got q rest
  unfolding object_there
  object_back a_null less p q rest e = absurd (none_not_some e)
  object_back a_true less p q rest e = absurd (none_not_some e)
  object_back a_false less p q rest e = absurd (none_not_some e)
  object_back (a_number n) less p q rest e = absurd (none_not_some e)
  object_back (a_string c) less p q rest e = absurd (none_not_some e)
  object_back (an_empty_array w) less p q rest e = absurd (none_not_some e)
  object_back (an_array w) less p q rest e = absurd (none_not_some e)
  object_back (an_empty_object w) less p q rest e = object_empty judge step set m faith lets w p rest ∙ ap (λ (t : P). got t rest) (some_same e)
  object_back (an_object w) less p q rest e = object_complete judge step set m faith lets w p q rest (omega arith) e

  pub object_faithful : (p : P) → Faithful m (object_there judge step p) (members_in (fold_members set p))
  object_faithful p = record { sound = λ l a rest e. object_there_lem p l a rest e; complete = λ b v a rest w less e h. object_back w less p a rest e }

-- ---- arrays of faithful parts

module _ {P : Type 0} (m : ℕ) (step : P → List ℕ → Got P) (set : P → Json → Option P) (faith : (p : P) → Faithful m (step p) (set p)) where
  array_there_lem : (p : P) (l : List ℕ) (q : P) (rest : List ℕ) → array_there step p l ≡ got q rest → ValueThere (values_in (fold_values set p)) l q rest
  unfolding array_there
  array_there_lem p [] q rest e = stopped e
  array_there_lem p (x ∷ l) q rest e = go (eqb x 0x5b) refl e
    where
      go : (t : Bool) → eqb x 0x5b ≡ t → cond t (array_at step p l) (stop (wrong (x ∷ l)) (x ∷ l)) ≡ got q rest → ValueThere (values_in (fold_values set p)) (x ∷ l) q rest
      go true is f =
          let w = array_sound step set m faith p q l rest f in
          record { bytes = 0x5b ∷ w.bytes; is = array w.are; written = w.written; meant = w.meant; here = ap (λ (t : ℕ). t ∷ l) (eqb-true x 0x5b is) ∙ ap (λ (t : List ℕ). 0x5b ∷ t) w.here }
      go false is f = stopped f

  array_back : {b : List ℕ} {v : Json} → Written b v → length b ≤ m → (p q : P) (rest : List ℕ) → values_in (fold_values set p) v ≡ some q → array_there step p (b ++ rest) ≡ got q rest
  unfolding array_there
  array_back a_null less p q rest e = absurd (none_not_some e)
  array_back a_true less p q rest e = absurd (none_not_some e)
  array_back a_false less p q rest e = absurd (none_not_some e)
  array_back (a_number n) less p q rest e = absurd (none_not_some e)
  array_back (a_string c) less p q rest e = absurd (none_not_some e)
  array_back (an_empty_array w) less p q rest e = array_empty step set m faith w p rest ∙ ap (λ (t : P). got t rest) (some_same e)
  array_back (an_array w) less p q rest e = array_complete step set m faith w p q rest (omega arith) e
  array_back (an_empty_object w) less p q rest e = absurd (none_not_some e)
  array_back (an_object w) less p q rest e = absurd (none_not_some e)

  pub array_faithful : (p : P) → Faithful m (array_there step p) (values_in (fold_values set p))
  array_faithful p = record { sound = λ l a rest e. array_there_lem p l a rest e; complete = λ b v a rest w less e h. array_back w less p a rest e }

-- ---- a key looked up: known and not given before, or a fault

pub key_faithful : {P : Type 0} (m : ℕ) (o : Option (List ℕ → Got P)) (s : Json → Option P) → ((r : List ℕ → Got P) → o ≡ some r → Faithful m r s) → (o ≡ none → (v : Json) → s v ≡ none)
    → Faithful m (behind_key o) s
key_faithful m none s known not = record {
  sound = λ l a rest e. stopped e;
  complete = λ b v a rest w less e h. absurd (none_not_some (sym (not refl v) ∙ e));
}
key_faithful m (some r) s known not = known r refl
