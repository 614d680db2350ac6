-- Objects by their keys: to convert each value as it comes, which is what code does, gives what gathering the values and converting them afterwards
-- gives, which is what the schema says. With `object_faithful` this makes the reader of each kind of object. Assumes nothing.
use mathlib.Core.Path.{◌≡◌, refl, ap, sym, ◌∙◌}
use mathlib.Core.Bool.{Bool, true, false, cond, not, ◌||◌}
use mathlib.Core.List.{List, [], ◌∷◌}
use mathlib.Core.Option.{Option, none, some}
use Prim.Native.Nat.{ℕ, ◌<◌}
use borrow.Author.Tests.{eqb-true, eq-eqb, not-true}
use lib.Dec.{eqb}
use Rattle.definitions.specs.Format.{then, check}
use Rattle.definitions.specs.Json.{Json, Members, no_members, member}
use Rattle.definitions.specs.JsonForm.{Key, Given, field_of, has, gathered, given}
use Rattle.definitions.specs.JsonReader.{Got, got, follow}
use Rattle.definitions.specs.FormReader.{object_there, behind_key, members_in}
use Rattle.definitions.specs.FormReader.{given_twice, Typed, typed, has_typed, value_of, field_judge, field_reader}
use Rattle.json_theorems.proofs.Tests.{then_some, check_some, none_not_some, false_not_true}
use Rattle.json_theorems.proofs.Loops.{Faithful, Lets, fold_members}
use Rattle.json_theorems.proofs.Values.{adding}
use Rattle.json_theorems.proofs.Faith.{object_faithful, key_faithful}

-- a field converted, or missing
abbrev pub slot_of : {A : Type 0} → (Json → Option A) → Option Json → Option (Option A)
slot_of k none = some none
slot_of k (some v) = then (k v) (λ a. some (some a))

some_same : {A : Type 0} {a b : A} → some a ≡ some b → a ≡ b
some_same e = cc

module _ {A : Type 0} (keys : List Key) (kind : ℕ → Json → Option A) where
  -- one member, converted as it comes
  abbrev pub taken : List (Typed A) → List ℕ → Json → Option (List (Typed A))
  taken ts k v = then (field_of keys k) (λ f. check (not (has_typed f ts)) (then (kind f v) (λ a. some (typed f a ∷ ts))))

  -- all that was gathered, converted afterwards
  abbrev pub convert : List Given → Option (List (Typed A))
  convert [] = some []
  convert (g ∷ gs) = then (kind g.field g.value) (λ a. then (convert gs) (λ ts. some (typed g.field a ∷ ts)))

  has_same : (f : ℕ) (gs : List Given) (ts : List (Typed A)) → convert gs ≡ some ts → has f gs ≡ has_typed f ts
  has_same f [] ts e = let z : ◌≡◌ {A = List (Typed A)} [] ts = some_same e in ap (λ (l : List (Typed A)). has_typed f l) z
  has_same f (g ∷ gs) ts e =
      let a = then_some (kind g.field g.value) _ ts e in
      let b = then_some (convert gs) (λ us. some (typed g.field a.0 ∷ us)) ts a.2 in
      let z : typed g.field a.0 ∷ b.0 ≡ ts = some_same b.2 in
      ap (λ (t : Bool). eqb g.field f || t) (has_same f gs b.0 b.1) ∙ ap (λ (l : List (Typed A)). has_typed f l) z

  abbrev fold_maybe : Option (List (Typed A)) → Members → Option (List (Typed A))
  fold_maybe none ms = none
  fold_maybe (some ts) ms = fold_members taken ts ms

  module _ (gs : List Given) (ms : Members) (v : Json) where
    abbrev more : ℕ → List Given
    more f = record { field = f; value = v } ∷ gs

    unread : (f : ℕ) → convert gs ≡ none → convert (more f) ≡ none
    unread f e = go (kind f v)
      where
        go : (o : Option A) → then o (λ a. then (convert gs) (λ us. some (typed f a ∷ us))) ≡ none
        go none = refl
        go (some a) = rw e

    fresh : (f : ℕ) (ts : List (Typed A)) → convert gs ≡ some ts
        → then (then (kind f v) (λ a. some (typed f a ∷ ts))) (λ q. fold_members taken q ms) ≡ fold_maybe (convert (more f)) ms
    fresh f ts e = go (kind f v)
      where
        go : (o : Option A) → then (then o (λ a. some (typed f a ∷ ts))) (λ q. fold_members taken q ms)
            ≡ fold_maybe (then o (λ a. then (convert gs) (λ us. some (typed f a ∷ us)))) ms
        go none = refl
        go (some a) = rw e

    abbrev lhs : Option ℕ → Option (List (Typed A)) → Option (List (Typed A))
    lhs p none = none
    lhs p (some ts) = then (then p (λ f. check (not (has_typed f ts)) (then (kind f v) (λ a. some (typed f a ∷ ts))))) (λ q. fold_members taken q ms)

    turn : (p : Option ℕ) (o : Option (List (Typed A))) → convert gs ≡ o → ((f : ℕ) → fold_maybe (convert (more f)) ms ≡ then (gathered keys (more f) ms) convert)
        → lhs p o ≡ then (then p (λ f. check (not (has f gs)) (gathered keys (more f) ms))) convert
    turn none none e ih = refl
    turn none (some ts) e ih = refl
    turn (some f) none e ih = go (has f gs)
      where
        go : (d : Bool) → none ≡ then (check (not d) (gathered keys (more f) ms)) convert
        go true = refl
        go false = ap (λ (o : Option (List (Typed A))). fold_maybe o ms) (sym (unread f e)) ∙ ih f
    turn (some f) (some ts) e ih = rw (has_same f gs ts e) (go (has_typed f ts))
      where
        go : (d : Bool) → then (check (not d) (then (kind f v) (λ a. some (typed f a ∷ ts)))) (λ q. fold_members taken q ms) ≡ then (check (not d) (gathered keys (more f) ms)) convert
        go true = refl
        go false = fresh f ts e ∙ ih f

  -- converting as it comes is gathering and converting
  pub as_it_comes : (ms : Members) (gs : List Given) → fold_maybe (convert gs) ms ≡ then (gathered keys gs ms) convert
  unfolding gathered
  as_it_comes no_members gs = go (convert gs)
    where
      go : (o : Option (List (Typed A))) → fold_maybe o no_members ≡ o
      go none = refl
      go (some ts) = refl
  as_it_comes (member k v ms) gs = go (convert gs) refl (λ f. as_it_comes ms (record { field = f; value = v } ∷ gs))
    where
      go : (o : Option (List (Typed A))) → convert gs ≡ o
          → ((f : ℕ) → fold_maybe (convert (record { field = f; value = v } ∷ gs)) ms ≡ then (gathered keys (record { field = f; value = v } ∷ gs) ms) convert)
          → fold_maybe o (member k v ms) ≡ then (then (field_of keys k) (λ f. check (not (has f gs)) (gathered keys (record { field = f; value = v } ∷ gs) ms))) convert
      go none e ih = turn gs ms v (field_of keys k) none e ih
      go (some ts) e ih = turn gs ms v (field_of keys k) (some ts) e ih

  -- from the beginning: what the code's fold over the members of an object gives is what the schema's gathering gives, converted
  pub from_nothing : (ms : Members) → fold_members taken [] ms ≡ then (gathered keys [] ms) convert
  from_nothing ms = as_it_comes ms []

  -- ---- the reader of such an object: each value by the reader of its field

  module _ (m : ℕ) (reads : ℕ → List ℕ → Got A) (faith : (f : ℕ) → Faithful m (reads f) (kind f)) where
    step_faithful : (ts : List (Typed A)) (p : Option ℕ)
        → Faithful m (behind_key (field_reader reads ts p)) (λ v. then p (λ f. check (not (has_typed f ts)) (then (kind f v) (λ a. some (typed f a ∷ ts)))))
    step_faithful ts none = key_faithful m none _ (λ r e. absurd (none_not_some e)) (λ e v. refl)
    step_faithful ts (some f) = go (has_typed f ts)
      where
        go : (d : Bool) → Faithful m (behind_key (check (not d) (some (λ l. follow (reads f l) (λ a rest. got (typed f a ∷ ts) rest)))))
            (λ v. check (not d) (then (kind f v) (λ a. some (typed f a ∷ ts))))
        go true = key_faithful m none _ (λ r e. absurd (none_not_some e)) (λ e v. refl)
        go false = adding m (reads f) (kind f) (faith f) (λ a. typed f a ∷ ts)

    -- a key whose value is taken is not refused
    lets_field : Lets (λ ts k. field_judge ts (field_of keys k)) taken
    lets_field ts k v s e = go (field_of keys k) e
      where
        by : (d : Bool) (o : Option (List (Typed A))) → check (not d) o ≡ some s → cond d given_twice 0 ≡ 0
        by true o h = absurd (none_not_some h)
        by false o h = refl

        go : (p : Option ℕ) → then p (λ f. check (not (has_typed f ts)) (then (kind f v) (λ a. some (typed f a ∷ ts)))) ≡ some s → field_judge ts p ≡ 0
        go none h = absurd (none_not_some h)
        go (some f) h = by (has_typed f ts) _ h

    -- a keyed object is read exactly where the schema gathers its fields and converts each
    pub keyed_faithful : Faithful m (object_there (λ ts k. field_judge ts (field_of keys k)) (λ ts k. behind_key (field_reader reads ts (field_of keys k))) [])
        (members_in (fold_members taken []))
    keyed_faithful = object_faithful m _ _ taken (λ ts k. step_faithful ts (field_of keys k)) lets_field []

  -- ---- the fields that were gathered, each converted or missing

  abbrev pub slots : List Given → ℕ → Option (Option A)
  slots g f = slot_of (kind f) (given f g)

  eqb_same : (n : ℕ) → eqb n n ≡ true
  eqb_same n = eq-eqb n n refl

  -- converted, the slots are what was converted
  slots_are : (g : List Given) (ts : List (Typed A)) → convert g ≡ some ts → (f : ℕ) → slots g f ≡ some (value_of f ts)
  slots_are [] ts e f = let z : ◌≡◌ {A = List (Typed A)} [] ts = some_same e in rw (← z)
  slots_are (x ∷ g) ts e f =
      let a = then_some (kind x.field x.value) _ ts e in
      let b = then_some (convert g) (λ us. some (typed x.field a.0 ∷ us)) ts a.2 in
      let z : typed x.field a.0 ∷ b.0 ≡ ts = some_same b.2 in
      ap (λ (o : Option (Option A)). o) (go (eqb x.field f) refl a.0 a.1 b.0 (slots_are g b.0 b.1 f))
      ∙ ap (λ (l : List (Typed A)). some (value_of f l)) z
    where
      go : (t : Bool) → eqb x.field f ≡ t → (a : A) → kind x.field x.value ≡ some a → (us : List (Typed A)) → slot_of (kind f) (given f g) ≡ some (value_of f us)
          → slot_of (kind f) (cond t (some x.value) (given f g)) ≡ some (cond t (some a) (value_of f us))
      go true is a ea us ih = let ef : f ≡ x.field = sym (eqb-true x.field f is) in rw (ef, ea)
      go false is a ea us ih = ih

  -- no field twice, and each below n
  abbrev Once : ℕ → List Given → Type 0
  Once n [] = Unit {0}
  Once n (x ∷ g) = (has x.field g ≡ false) × (x.field < n) × Once n g

  gathered_once : (n : ℕ) → ((k : List ℕ) (f : ℕ) → field_of keys k ≡ some f → f < n) → (ms : Members) (gs g : List Given) → gathered keys gs ms ≡ some g → Once n gs → Once n g
  unfolding gathered
  gathered_once n below no_members gs g e o = let z : gs ≡ g = some_same e in rw z at o
  gathered_once n below (member k v ms) gs g e o =
      let a = then_some (field_of keys k) _ g e in
      let b = check_some (not (has a.0 gs)) _ g a.2 in
      gathered_once n below ms (record { field = a.0; value = v } ∷ gs) g b.1 (not-true (has a.0 gs) b.0, below k a.0 a.1, o)

  not_there : (f : ℕ) (g : List Given) → has f g ≡ false → given f g ≡ none
  not_there f [] e = refl
  not_there f (x ∷ g) e = go (eqb x.field f) e (λ h. not_there f g h)
    where
      go : (t : Bool) → (t || has f g) ≡ false → (has f g ≡ false → given f g ≡ none) → cond t (some x.value) (given f g) ≡ none
      go true h ih = absurd (false_not_true (sym h))
      go false h ih = ih h

  -- every slot is converted or missing: all that was gathered can be converted
  slots_convert : (n : ℕ) (g : List Given) → Once n g → ((f : ℕ) → f < n → (s : Option A) × (slots g f ≡ some s)) → (ts : List (Typed A)) × (convert g ≡ some ts)
  slots_convert n [] o h = ([], refl)
  slots_convert n (x ∷ g) o h =
      let s = h x.field o.1 in
      let e : then (kind x.field x.value) (λ a. some (some a)) ≡ some s.0 = rw (eqb_same x.field) at s.1 in
      let a = then_some (kind x.field x.value) (λ a. some (some a)) s.0 e in
      let t = slots_convert n g o.2 (λ f less. tail f (h f less)) in
      (typed x.field a.0 ∷ t.0, both a.0 a.1 t.0 t.1)
    where
      both : (a : A) → kind x.field x.value ≡ some a → (ts : List (Typed A)) → convert g ≡ some ts → convert (x ∷ g) ≡ some (typed x.field a ∷ ts)
      both a ea ts et = rw (ea, et)

      tail : (f : ℕ) → (s : Option A) × (slot_of (kind f) (given f (x ∷ g)) ≡ some s) → (s : Option A) × (slot_of (kind f) (given f g) ≡ some s)
      tail f s = go (eqb x.field f) refl s
        where
          go : (t : Bool) → eqb x.field f ≡ t → (s : Option A) × (slot_of (kind f) (cond t (some x.value) (given f g)) ≡ some s)
              → (s : Option A) × (slot_of (kind f) (given f g) ≡ some s)
          go true is u = let z : given f g ≡ none = rw (eqb-true x.field f is) at (not_there x.field g o.0) in (none, rw z)
          go false is u = u

  -- ---- the whole, made of the slots, is what the reader's fields make

  module _ {B : Type 0} (n : ℕ) (below : (k : List ℕ) (f : ℕ) → field_of keys k ≡ some f → f < n) (whole : (ℕ → Option (Option A)) → Option B)
      (strict : (s : ℕ → Option (Option A)) (b : B) → whole s ≡ some b → (f : ℕ) → f < n → (a : Option A) × (s f ≡ some a)) where
    pub whole_same : (ms : Members) → then (fold_members taken [] ms) (λ ts. whole (λ f. some (value_of f ts))) ≡ then (gathered keys [] ms) (λ g. whole (slots g))
    whole_same ms = ap (λ (o : Option (List (Typed A))). then o (λ ts. whole (λ f. some (value_of f ts)))) (from_nothing ms) ∙ go (gathered keys [] ms) refl
      where
        lost : (g : List Given) → Once n g → convert g ≡ none → (o : Option B) → whole (slots g) ≡ o → none ≡ o
        lost g once e none is = refl
        lost g once e (some b) is =
            let t = slots_convert n g once (λ f less. strict (slots g) b is f less) in
            absurd (none_not_some (sym e ∙ t.1))

        by : (g : List Given) → Once n g → (o : Option (List (Typed A))) → convert g ≡ o → then o (λ ts. whole (λ f. some (value_of f ts))) ≡ whole (slots g)
        by g once none e = lost g once e (whole (slots g)) refl
        by g once (some ts) e = ap whole (λ i f. sym (slots_are g ts e f) i)

        go : (o : Option (List Given)) → gathered keys [] ms ≡ o → then (then o convert) (λ ts. whole (λ f. some (value_of f ts))) ≡ then o (λ g. whole (slots g))
        go none e = refl
        go (some g) e = by g (gathered_once n below ms [] g e tt) (convert g) refl
