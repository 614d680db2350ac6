-- The form's reader is faithful, part by part: what is judged, numbers, words, lists, null, a word or an object, an object with one key, an object
-- by its keys. Assumes nothing.
use mathlib.Core.Path.{◌≡◌, refl, ap, sym, ◌∙◌}
use mathlib.Core.Bool.{Bool, true, false, cond, ◌&&◌}
use mathlib.Core.List.{List, [], ◌∷◌, ◌++◌, append_assoc, append-nil}
use mathlib.Core.Option.{Option, none, some}
use Prim.Native.Nat.{ℕ, suc, ◌≤◌, ◌<◌}
use native.Mathlib.Omega.{arith}
use lib.Dec.{eqb, leb}
use lib.ListN.{length, take, drop, take-append-drop}
use borrow.Author.Tests.{leb-true}
use Rattle.definitions.specs.Format.{then, check}
use Rattle.definitions.specs.Json.{ascii, quote, all, is_digit, Json, null, boolean, number, string, array, object, Values, no_values, value, no_members, member, Written, a_null, a_true, a_false, a_number, a_string, an_empty_array, an_array, an_empty_object, an_object}
use Rattle.definitions.specs.JsonForm.{same, decimal, natural, string_of, each_of, list_of, Key, field_of, fields_of, needed, optional, Only, only_of, either}
use Rattle.definitions.specs.JsonReader.{Got, got, stop, not_json, follow, first, apart, literal_at}
use Rattle.definitions.specs.FormReader.{string_there, number_there, behind_key, number_text, members_in, values_in}
use Rattle.definitions.specs.FormReader.{Verdict, fine, begun, closing, answered, judged, asked, made, ending, put_in, natural_there, word_there, list_there, null_or, either_there, Held, held, or_refused, one_judge, one_step, one_end, one_there, value_of, keyed_there}
use Rattle.json_theorems.proofs.Tests.{false_not_true, none_not_some, then_some, both_true}
use Rattle.json_theorems.proofs.Parts.{follow_got}
use Rattle.json_theorems.proofs.Loops.{Ends, ValueThere, Faithful, Lets, fold_members, fold_values}
use Rattle.json_theorems.proofs.Values.{number_starts, starts_not, starts_low, same_true, adding}
use Rattle.json_theorems.proofs.Faith.{some_same, stopped, string_faithful, number_faithful, object_faithful, array_faithful, key_faithful}
use Rattle.json_theorems.proofs.Typed.{slot_of, slots, taken, keyed_faithful, whole_same}

-- a reader that is faithful to a function is faithful to the same function, written otherwise
pub faithful_as : {A : Type 0} (m : ℕ) (r : List ℕ → Got A) (f g : Json → Option A) → ((v : Json) → f v ≡ g v) → Faithful m r f → Faithful m r g
faithful_as m r f g e faith = record {
  sound = λ l a rest h. let v = faith.sound l a rest h in record { bytes = v.bytes; is = v.is; written = v.written; meant = sym (e v.is) ∙ v.meant; here = v.here };
  complete = λ b v a rest w less h ends. faith.complete b v a rest w less (e v ∙ h) ends;
}

-- ---- what is judged

abbrev pub fine_of : {B : Type 0} → Verdict B → Option B
fine_of (fine b) = some b
fine_of (begun k) = none
fine_of (closing k) = none

module _ {A B : Type 0} (m : ℕ) (r : List ℕ → Got A) (f : Json → Option A) (faith : Faithful m r f) (g : A → Verdict B) where
  pub judged_faithful : Faithful m (judged g r) (λ v. then (f v) (λ a. fine_of (g a)))
  unfolding judged
  judged_faithful = record {
    sound = λ l b rest e.
        let o = follow_got (r l) (λ a more. answered (g a) l more) b rest e in
        let v = faith.sound l o.part o.behind o.was in
        back l b rest o.part o.behind v (g o.part) refl o.gave;
    complete = λ bs v b rest w less e h.
        let s = then_some (f v) (λ a. fine_of (g a)) b e in
        forth bs s.0 b rest (faith.complete bs v s.0 rest w less s.1 h) (g s.0) refl s.2;
  }
    where
      back : (l : List ℕ) (b : B) (rest : List ℕ) (a : A) (behind : List ℕ) → ValueThere f l a behind → (o : Verdict B) → g a ≡ o → answered o l behind ≡ got b rest
          → ValueThere (λ v. then (f v) (λ x. fine_of (g x))) l b rest
      back l b rest a behind v (begun k) eo e = stopped e
      back l b rest a behind v (closing k) eo e = stopped e
      back l b rest a behind v (fine c) eo e =
          let ec : c ≡ b = cc in
          let er : behind ≡ rest = cc in
          record { bytes = v.bytes; is = v.is; written = v.written; meant = meant v.is v.meant ec; here = v.here ∙ ap (λ (t : List ℕ). v.bytes ++ t) er }
        where
          meant : (w : Json) → f w ≡ some a → c ≡ b → then (f w) (λ x. fine_of (g x)) ≡ some b
          meant w e1 e2 = rw (e1, eo, e2)

      forth : (bs : List ℕ) (a : A) (b : B) (rest : List ℕ) → r (bs ++ rest) ≡ got a rest → (o : Verdict B) → g a ≡ o → fine_of o ≡ some b
          → follow (r (bs ++ rest)) (λ x more. answered (g x) (bs ++ rest) more) ≡ got b rest
      forth bs a b rest e1 (begun k) eo e2 = absurd (none_not_some e2)
      forth bs a b rest e1 (closing k) eo e2 = absurd (none_not_some e2)
      forth bs a b rest e1 (fine c) eo e2 = rw (e1, eo) (ap (λ (t : B). got t rest) (some_same e2))

pub then_same : {A B : Type 0} (o : Option A) (g h : A → Option B) → ((a : A) → g a ≡ h a) → then o g ≡ then o h
then_same none g h e = refl
then_same (some a) g h e = e a

asked_fine : {A : Type 0} (t : Bool) (k : ℕ) (a : A) → fine_of (asked t k a) ≡ check t (some a)
asked_fine true k a = refl
asked_fine false k a = refl

made_fine : {A : Type 0} (o : Option A) → fine_of (made o) ≡ o
made_fine none = refl
made_fine (some a) = refl

ending_fine : {A : Type 0} (o : Option A) → fine_of (ending o) ≡ o
ending_fine none = refl
ending_fine (some a) = refl

module _ {A : Type 0} (m : ℕ) (r : List ℕ → Got A) (f : Json → Option A) (faith : Faithful m r f) where
  pub asked_faithful : (t : A → Bool) (k : ℕ) → Faithful m (judged (λ a. asked (t a) k a) r) (λ v. then (f v) (λ a. check (t a) (some a)))
  asked_faithful t k =
      faithful_as m _ _ _ (λ v. then_same (f v) (λ a. fine_of (asked (t a) k a)) (λ a. check (t a) (some a)) (λ a. asked_fine (t a) k a)) (judged_faithful m r f faith (λ a. asked (t a) k a))

  pub made_faithful : {B : Type 0} (g : A → Option B) → Faithful m (judged (λ a. made (g a)) r) (λ v. then (f v) g)
  made_faithful g = faithful_as m _ _ _ (λ v. then_same (f v) (λ a. fine_of (made (g a))) g (λ a. made_fine (g a))) (judged_faithful m r f faith (λ a. made (g a)))

  pub ending_faithful : {B : Type 0} (g : A → Option B) → Faithful m (judged (λ a. ending (g a)) r) (λ v. then (f v) g)
  ending_faithful g = faithful_as m _ _ _ (λ v. then_same (f v) (λ a. fine_of (ending (g a))) g (λ a. ending_fine (g a))) (judged_faithful m r f faith (λ a. ending (g a)))

pub put_faithful : {A B : Type 0} (m : ℕ) (r : List ℕ → Got A) (f : Json → Option A) (add : A → B) → Faithful m r f → Faithful m (put_in add r) (λ v. then (f v) (λ a. some (add a)))
put_faithful m r f add faith = adding m r f faith add

pub none_faithful : {A : Type 0} (m : ℕ) → Faithful m (behind_key {P = A} none) (λ v. none)
none_faithful m = key_faithful m none _ (λ r e. absurd (none_not_some e)) (λ e v. refl)

-- ---- numbers and words

natural_as : (most : ℕ) (v : Json) → then (number_text v) (λ t. check (all is_digit t && leb (decimal 0 t) most) (some (decimal 0 t))) ≡ natural most v
unfolding natural
natural_as most null = refl
natural_as most (boolean b) = refl
natural_as most (number t) = refl
natural_as most (string s) = refl
natural_as most (array vs) = refl
natural_as most (object ms) = refl

pub natural_faithful : (m most : ℕ) → Faithful m (natural_there most) (natural most)
unfolding natural_there
natural_faithful m most =
    faithful_as m _ _ (natural most) (natural_as most) (made_faithful m number_there number_text (number_faithful m) (λ t. check (all is_digit t && leb (decimal 0 t) most) (some (decimal 0 t))))

pub word_faithful : {A : Type 0} (m : ℕ) (g : List ℕ → Option A) → Faithful m (word_there g) (λ v. then (string_of v) g)
unfolding word_there
word_faithful m g = made_faithful m string_there string_of (string_faithful m) g

-- ---- lists

module _ {A : Type 0} (m : ℕ) (r : List ℕ → Got A) (f : Json → Option A) (faith : Faithful m r f) where
  abbrev add_item : List A → Json → Option (List A)
  add_item xs v = then (f v) (λ a. some (xs ++ (a ∷ [])))

  fold_each : (vs : Values) (xs : List A) → fold_values add_item xs vs ≡ then (each_of f vs) (λ ys. some (xs ++ ys))
  unfolding each_of
  fold_each no_values xs = rw append-nil
  fold_each (value v vs) xs = go (f v) (λ a. fold_each vs (xs ++ (a ∷ [])))
    where
      more : (a : A) (o : Option (List A)) → then o (λ ys. some ((xs ++ (a ∷ [])) ++ ys)) ≡ then (then o (λ ys. some (a ∷ ys))) (λ ys. some (xs ++ ys))
      more a none = refl
      more a (some ys) = rw append_assoc

      go : (o : Option A) → ((a : A) → fold_values add_item (xs ++ (a ∷ [])) vs ≡ then (each_of f vs) (λ ys. some ((xs ++ (a ∷ [])) ++ ys)))
          → then (then o (λ a. some (xs ++ (a ∷ [])))) (λ q. fold_values add_item q vs) ≡ then (then o (λ a. then (each_of f vs) (λ ys. some (a ∷ ys)))) (λ ys. some (xs ++ ys))
      go none ih = refl
      go (some a) ih = ih a ∙ more a (each_of f vs)

  list_as : (v : Json) → values_in (fold_values add_item []) v ≡ list_of f v
  unfolding list_of
  list_as null = refl
  list_as (boolean b) = refl
  list_as (number t) = refl
  list_as (string s) = refl
  list_as (object ms) = refl
  list_as (array vs) = fold_each vs [] ∙ go (each_of f vs)
    where
      go : (o : Option (List A)) → then o (λ ys. some ys) ≡ o
      go none = refl
      go (some a) = refl

  pub list_faithful : Faithful m (list_there r) (list_of f)
  unfolding list_there
  list_faithful =
      faithful_as m _ _ (list_of f) list_as (array_faithful m (λ xs. put_in (λ a. xs ++ (a ∷ [])) r) add_item (λ xs. put_faithful m r f (λ a. xs ++ (a ∷ [])) faith) [])

-- ---- null for a missing value

abbrev pub or_null : {A : Type 0} → (Json → Option A) → Json → Option (Option A)
or_null f null = some none
or_null f (boolean b) = then (f (boolean b)) (λ a. some (some a))
or_null f (number t) = then (f (number t)) (λ a. some (some a))
or_null f (string s) = then (f (string s)) (λ a. some (some a))
or_null f (array vs) = then (f (array vs)) (λ a. some (some a))
or_null f (object ms) = then (f (object ms)) (λ a. some (some a))

literal_here : (word : List ℕ) (w v : Json) (l rest : List ℕ) → literal_at word w l ≡ got v rest → l ≡ word ++ rest
unfolding literal_at
literal_here word w v l rest e = go (same (take (length word) l) word) refl e
  where
    go : (t : Bool) → same (take (length word) l) word ≡ t → cond t (got w (drop (length word) l)) (stop not_json (apart word l)) ≡ got v rest → l ≡ word ++ rest
    go true is f =
        let er : drop (length word) l ≡ rest = cc in
        let et = same_true (take (length word) l) word is in
        sym (take-append-drop (length word) l) ∙ ap (λ (t : List ℕ). t ++ drop (length word) l) et ∙ ap (λ (t : List ℕ). word ++ t) er
    go false is f = stopped f

module _ {A : Type 0} (m : ℕ) (r : List ℕ → Got A) (f : Json → Option A) (faith : Faithful m r f) (no : f null ≡ none) where
  or_some : (v : Json) (a : A) → f v ≡ some a → or_null f v ≡ some (some a)
  or_some null a e = absurd (none_not_some (sym no ∙ e))
  or_some (boolean b) a e = rw e
  or_some (number t) a e = rw e
  or_some (string s) a e = rw e
  or_some (array vs) a e = rw e
  or_some (object ms) a e = rw e

  null_sound : (l : List ℕ) (a : Option A) (rest : List ℕ) → null_or r l ≡ got a rest → ValueThere (or_null f) l a rest
  unfolding null_or
  null_sound l a rest e = go (eqb (first l) 0x6e) e
    where
      go : (t : Bool) → cond t (put_in (λ v. none) (literal_at (ascii "null") null) l) (put_in (λ x. some x) r l) ≡ got a rest → ValueThere (or_null f) l a rest
      go true h =
          let o = follow_got (literal_at (ascii "null") null l) (λ v more. got none more) a rest h in
          let g : got none o.behind ≡ got a rest = o.gave in
          let ea : none ≡ a = cc in
          let er : o.behind ≡ rest = cc in
          record { bytes = ascii "null"; is = null; written = a_null; meant = ap some ea; here = literal_here (ascii "null") null o.part l o.behind o.was ∙ ap (λ (t : List ℕ). ascii "null" ++ t) er }
      go false h =
          let o = follow_got (r l) (λ x more. got (some x) more) a rest h in
          let v = faith.sound l o.part o.behind o.was in
          let g : got (some o.part) o.behind ≡ got a rest = o.gave in
          let ea : some o.part ≡ a = cc in
          let er : o.behind ≡ rest = cc in
          record { bytes = v.bytes; is = v.is; written = v.written; meant = or_some v.is o.part v.meant ∙ ap some ea; here = v.here ∙ ap (λ (t : List ℕ). v.bytes ++ t) er }

  plain_value : (b : List ℕ) (v : Json) (a : Option A) (rest : List ℕ) → eqb (first (b ++ rest)) 0x6e ≡ false → Written b v → length b ≤ m → Ends rest
      → then (f v) (λ x. some (some x)) ≡ some a → null_or r (b ++ rest) ≡ got a rest
  unfolding null_or
  plain_value b v a rest is w less h e =
      let s = then_some (f v) (λ x. some (some x)) a e in
      rw (is, faith.complete b v s.0 rest w less s.1 h) (ap (λ (t : Option A). got t rest) (some_same s.2))

  null_complete : {b : List ℕ} {v : Json} → Written b v → (a : Option A) (rest : List ℕ) → length b ≤ m → or_null f v ≡ some a → Ends rest → null_or r (b ++ rest) ≡ got a rest
  unfolding null_or ascii literal_at same
  null_complete a_null a rest less e h = ap (λ (t : Option A). got t rest) (some_same e)
  null_complete a_true a rest less e h = plain_value _ _ a rest refl a_true less h e
  null_complete a_false a rest less e h = plain_value _ _ a rest refl a_false less h e
  null_complete (a_number n) a rest less e h = plain_value _ _ a rest (starts_not (number_starts n rest) 0x6e (omega arith)) (a_number n) less h e
  null_complete (a_string c) a rest less e h = plain_value _ _ a rest refl (a_string c) less h e
  null_complete (an_empty_array w) a rest less e h = plain_value _ _ a rest refl (an_empty_array w) less h e
  null_complete (an_array w) a rest less e h = plain_value _ _ a rest refl (an_array w) less h e
  null_complete (an_empty_object w) a rest less e h = plain_value _ _ a rest refl (an_empty_object w) less h e
  null_complete (an_object w) a rest less e h = plain_value _ _ a rest refl (an_object w) less h e

  pub null_faithful : Faithful m (null_or r) (or_null f)
  null_faithful = record { sound = null_sound; complete = λ b v a rest w less e h. null_complete w a rest less e h }

-- ---- a word or an object

abbrev pub is_string : Json → Bool
is_string null = false
is_string (boolean b) = false
is_string (number t) = false
is_string (string s) = true
is_string (array vs) = false
is_string (object ms) = false

written_quote : {b : List ℕ} {v : Json} → Written b v → (rest : List ℕ) → eqb (first (b ++ rest)) quote ≡ is_string v
unfolding ascii
written_quote a_null rest = refl
written_quote a_true rest = refl
written_quote a_false rest = refl
written_quote (a_number n) rest = starts_low (number_starts n rest) quote (omega arith)
written_quote (a_string c) rest = refl
written_quote (an_empty_array w) rest = refl
written_quote (an_array w) rest = refl
written_quote (an_empty_object w) rest = refl
written_quote (an_object w) rest = refl

module _ {A : Type 0} (m : ℕ) (r s : List ℕ → Got A) (f g : Json → Option A) (word : Faithful m r f) (other : Faithful m s g)
    (words : (v : Json) (a : A) → f v ≡ some a → is_string v ≡ true) (others : (v : Json) (a : A) → g v ≡ some a → is_string v ≡ false) where
  pub either_faithful : Faithful m (either_there r s) (λ v. either (f v) (g v))
  unfolding either_there
  either_faithful = record {
    sound = λ l a rest e. there l a rest (eqb (first l) quote) e;
    complete = λ b v a rest w less e h. by b v a rest w less h (f v) refl e;
  }
    where
      left : (v : Json) (a : A) → f v ≡ some a → either (f v) (g v) ≡ some a
      left v a e = rw e

      right : (v : Json) (a : A) → g v ≡ some a → (o : Option A) → f v ≡ o → either o (g v) ≡ some a
      right v a e none is = e
      right v a e (some b) is = absurd (false_not_true (sym (others v a e) ∙ words v b is))

      there : (l : List ℕ) (a : A) (rest : List ℕ) (t : Bool) → cond t (r l) (s l) ≡ got a rest → ValueThere (λ v. either (f v) (g v)) l a rest
      there l a rest true e = let v = word.sound l a rest e in record { bytes = v.bytes; is = v.is; written = v.written; meant = left v.is a v.meant; here = v.here }
      there l a rest false e =
          let v = other.sound l a rest e in
          record { bytes = v.bytes; is = v.is; written = v.written; meant = right v.is a v.meant (f v.is) refl; here = v.here }

      by : (b : List ℕ) (v : Json) (a : A) (rest : List ℕ) → Written b v → length b ≤ m → Ends rest → (o : Option A) → f v ≡ o → either o (g v) ≡ some a
          → cond (eqb (first (b ++ rest)) quote) (r (b ++ rest)) (s (b ++ rest)) ≡ got a rest
      by b v a rest w less h (some x) is e =
          let t = written_quote w rest ∙ words v x is in
          rw t (word.complete b v a rest w less (is ∙ e) h)
      by b v a rest w less h none is e =
          let t = written_quote w rest ∙ others v a e in
          rw t (other.complete b v a rest w less e h)

-- ---- an object with one key

module _ {A B : Type 0} (m : ℕ) (known : List ℕ → Option A) (reads : A → List ℕ → Got B) (kind : A → Json → Option B) (faith : (w : A) → Faithful m (reads w) (kind w)) where
  abbrev one_set : Option (Held B) → List ℕ → Json → Option (Option (Held B))
  one_set none k v = then (known k) (λ w. then (kind w v) (λ b. some (some (held k b))))
  one_set (some h) k v = none

  one_step_lem : (p : Option (Held B)) (k : List ℕ) → Faithful m (one_step known reads p k) (one_set p k)
  one_step_lem (some h) k = none_faithful m
  one_step_lem none k = go (known k)
    where
      go : (o : Option A) → Faithful m (behind_key (then o (λ w. some (put_in (λ b. some (held k b)) (reads w))))) (λ v. then o (λ w. then (kind w v) (λ b. some (some (held k b)))))
      go none = none_faithful m
      go (some w) = put_faithful m (reads w) (kind w) (λ b. some (held k b)) (faith w)

  one_lets : Lets (one_judge {B = B} known) one_set
  one_lets (some h) k v s e = absurd (none_not_some e)
  one_lets none k v s e = go (known k) e
    where
      go : (o : Option A) → then o (λ w. then (kind w v) (λ b. some (some (held k b)))) ≡ some s → or_refused o ≡ 0
      go none h = absurd (none_not_some h)
      go (some w) h = refl

  abbrev pub only_by : Only → Option B
  only_by o = then (known o.key) (λ w. kind w o.value)

  one_as : (v : Json) → then (members_in (fold_members one_set none) v) one_end ≡ then (only_of v) only_by
  one_as null = refl
  one_as (boolean b) = refl
  one_as (number t) = refl
  one_as (string s) = refl
  one_as (array vs) = refl
  one_as (object no_members) = refl
  one_as (object (member k v no_members)) = go (known k)
    where
      by : (o : Option B) → then (then (then o (λ b. some (some (held k b)))) (λ q. some q)) one_end ≡ o
      by none = refl
      by (some b) = refl

      go : (o : Option A) → then (then (then o (λ w. then (kind w v) (λ b. some (some (held k b))))) (λ q. some q)) one_end ≡ then o (λ w. kind w v)
      go none = refl
      go (some w) = by (kind w v)
  one_as (object (member k v (member l u ms))) = go (known k)
    where
      by : (o : Option B) → then (then (then o (λ b. some (some (held k b)))) (λ q. fold_members one_set q (member l u ms))) one_end ≡ none
      by none = refl
      by (some b) = refl

      go : (o : Option A) → then (then (then o (λ w. then (kind w v) (λ b. some (some (held k b))))) (λ q. fold_members one_set q (member l u ms))) one_end ≡ none
      go none = refl
      go (some w) = by (kind w v)

  pub one_faithful : Faithful m (one_there known reads) (λ v. then (only_of v) only_by)
  unfolding one_there
  one_faithful = faithful_as m _ _ _ one_as (ending_faithful m _ _ (object_faithful m (one_judge known) (one_step known reads) one_set one_step_lem one_lets none) one_end)

-- ---- an object by its keys

abbrev pub keys_below : ℕ → List Key → Bool
keys_below n [] = true
keys_below n (k ∷ ks) = leb (suc k.field) n && keys_below n ks

pub keys_below_lem : (n : ℕ) (keys : List Key) → keys_below n keys ≡ true → (k : List ℕ) (f : ℕ) → field_of keys k ≡ some f → f < n
keys_below_lem n [] t k f e = absurd (none_not_some e)
keys_below_lem n (x ∷ keys) t k f e =
    let p = both_true (leb (suc x.field) n) (keys_below n keys) t in
    go (same (ascii x.word) k) e (leb-true _ _ p.0) (λ h. keys_below_lem n keys p.1 k f h)
  where
    go : (s : Bool) → cond s (some x.field) (field_of keys k) ≡ some f → x.field < n → (field_of keys k ≡ some f → f < n) → f < n
    go true h less ih = let z : x.field ≡ f = some_same h in omega arith
    go false h less ih = ih h

module _ {A B : Type 0} (m n : ℕ) (keys : List Key) (below : keys_below n keys ≡ true) (reads : ℕ → List ℕ → Got A) (kind : ℕ → Json → Option A)
    (faith : (f : ℕ) → Faithful m (reads f) (kind f)) (whole : (ℕ → Option (Option A)) → Option B)
    (strict : (s : ℕ → Option (Option A)) (b : B) → whole s ≡ some b → (f : ℕ) → f < n → (a : Option A) × (s f ≡ some a)) where
  keyed_as : (v : Json) → then (members_in (fold_members (taken keys kind) []) v) (λ ts. whole (λ f. some (value_of f ts))) ≡ then (fields_of keys v) (λ g. whole (slots keys kind g))
  unfolding fields_of
  keyed_as null = refl
  keyed_as (boolean b) = refl
  keyed_as (number t) = refl
  keyed_as (string s) = refl
  keyed_as (array vs) = refl
  keyed_as (object ms) = whole_same keys kind n (keys_below_lem n keys below) whole strict ms

  pub keyed_object : Faithful m (keyed_there keys reads whole) (λ v. then (fields_of keys v) (λ g. whole (slots keys kind g)))
  unfolding keyed_there
  keyed_object = faithful_as m _ _ _ keyed_as (ending_faithful m _ _ (keyed_faithful keys kind m reads faith) (λ ts. whole (λ f. some (value_of f ts))))

-- ---- fields of the schema as slots

pub needed_slot : {A X : Type 0} (k : Json → Option X) (add : X → A) (as' : Option A → Option X) → as' none ≡ none → ((x : X) → as' (some (add x)) ≡ some x) → (o : Option Json)
    → then (slot_of (λ v. then (k v) (λ x. some (add x))) o) as' ≡ needed k o
needed_slot k add as' miss give none = miss
needed_slot {A} {X} k add as' miss give (some v) = go (k v)
  where
    go : (o : Option X) → then (then (then o (λ x. some (add x))) (λ a. some (some a))) as' ≡ o
    go none = refl
    go (some x) = give x

optional_null : {X : Type 0} (k : Json → Option X) (v : Json) → optional k (some v) ≡ or_null k v
optional_null k null = refl
optional_null k (boolean b) = refl
optional_null k (number t) = refl
optional_null k (string s) = refl
optional_null k (array vs) = refl
optional_null k (object ms) = refl

pub optional_slot : {A X : Type 0} (k : Json → Option X) (add : Option X → A) (as' : Option A → Option (Option X)) → as' none ≡ some none
    → ((x : Option X) → as' (some (add x)) ≡ some x) → (o : Option Json) → then (slot_of (λ v. then (or_null k v) (λ x. some (add x))) o) as' ≡ optional k o
optional_slot k add as' miss give none = miss
optional_slot {A} {X} k add as' miss give (some v) = go (or_null k v) ∙ sym (optional_null k v)
  where
    go : (o : Option (Option X)) → then (then (then o (λ x. some (add x))) (λ a. some (some a))) as' ≡ o
    go none = refl
    go (some x) = give x
