-- The loops over the members of an object and the values of an array: they read what RFC 8259 has, given that the reader of a value does.
-- This is what makes a reader for one kind of object after the other: each is these loops with a step of its own. Assumes nothing.
use mathlib.Core.Path.{◌≡◌, refl, ap, ◌∙◌}
use mathlib.Core.Bool.{Bool, true, false, cond, ◌||◌}
use mathlib.Core.List.{List, [], ◌∷◌, ◌++◌, append_assoc}
use mathlib.Core.Option.{Option, some}
use Prim.Native.Nat.{ℕ, zero, suc, ◌≤◌}
use native.Mathlib.Omega.{arith}
use lib.Dec.{eqb}
use lib.ListN.{length, drop, length-append}
use borrow.Author.Tests.{eqb-true}
use Rattle.definitions.specs.Format.{then}
use Rattle.definitions.specs.Json.{quote, is_blank, all, Blank, is_digit, Characters, Json, Values, no_values, value, Members, no_members, member, Written, WrittenValues, last_value, next_value, WrittenMembers, last_member, next_member}
use Rattle.definitions.specs.JsonReader.{Got, got, stop, not_json, first, blanks, ended, fields, items}
use Rattle.json_theorems.proofs.Tests.{both_true, one_true, then_some}
use Rattle.json_theorems.proofs.Parts.{follow_got, ended_got, blanks_sound, blanks_complete, KeyThere, key_sound, key_complete}

-- ---- what it is to read a value rightly

-- a byte that can stand behind a value: none that a number could go on with
abbrev pub goes_on : ℕ → Bool
goes_on b = is_digit b || (eqb b 0x2e || (eqb b 0x65 || eqb b 0x45))

abbrev pub Ends : List ℕ → Type 0
Ends rest = goes_on (first rest) ≡ false

-- a value stands at the front of l, and f makes a of it
pub record ValueThere {A : Type 0} (f : Json → Option A) (l : List ℕ) (a : A) (rest : List ℕ) : Type 0 where
  pub bytes : List ℕ
  pub is : Json
  pub written : Written bytes is
  pub meant : f is ≡ some a
  pub here : l ≡ bytes ++ rest

-- r reads exactly the values of which f makes something, those of more than m bytes left aside
pub record Faithful (m : ℕ) {A : Type 0} (r : List ℕ → Got A) (f : Json → Option A) : Type 0 where
  pub sound : (l : List ℕ) (a : A) (rest : List ℕ) → r l ≡ got a rest → ValueThere f l a rest
  pub complete : (b : List ℕ) (v : Json) (a : A) (rest : List ℕ) → Written b v → length b ≤ m → f v ≡ some a → Ends rest → r (b ++ rest) ≡ got a rest

-- ---- folding over members and values, from the first to the last

abbrev pub fold_members : {P : Type 0} → (P → List ℕ → Json → Option P) → P → Members → Option P
fold_members set p no_members = some p
fold_members set p (member k v ms) = then (set p k v) (λ q. fold_members set q ms)

abbrev pub fold_values : {P : Type 0} → (P → Json → Option P) → P → Values → Option P
fold_values set p no_values = some p
fold_values set p (value v vs) = then (set p v) (λ q. fold_values set q vs)

-- ---- bytes that begin things

-- a value begins with no blank
abbrev pub Begins : List ℕ → Type 0
Begins b = (rest : List ℕ) → is_blank (first (b ++ rest)) ≡ false

pub blank_ends : (c : ℕ) → is_blank c ≡ true → goes_on c ≡ false
unfolding is_blank
blank_ends c e =
    one_true (eqb c 0x20) _ e (λ s. outside 0x20 (eqb-true _ _ s) refl) (λ e1.
    one_true (eqb c 0x09) _ e1 (λ s. outside 0x09 (eqb-true _ _ s) refl) (λ e2.
    one_true (eqb c 0x0a) _ e2 (λ s. outside 0x0a (eqb-true _ _ s) refl) (λ s. outside 0x0d (eqb-true _ _ s) refl)))
  where
    outside : (k : ℕ) → c ≡ k → goes_on k ≡ false → goes_on c ≡ false
    outside k e f = rw e f

-- blanks, then a byte that is neither blank nor of a number
pub ends_behind : (x rest : List ℕ) (b : ℕ) → Blank x → goes_on b ≡ false → Ends (x ++ (b ∷ rest))
unfolding all
ends_behind [] rest b h g = g
ends_behind (c ∷ x) rest b h g = blank_ends c (both_true (is_blank c) (all is_blank x) h.blank).0

-- ---- members

pub record MembersThere {P : Type 0} (set : P → List ℕ → Json → Option P) (p : P) (l : List ℕ) (q : P) (rest : List ℕ) : Type 0 where
  pub bytes : List ℕ
  pub are : Members
  pub written : WrittenMembers bytes are
  pub meant : fold_members set p are ≡ some q
  pub here : l ≡ bytes ++ rest

-- a key with which a value is taken is not refused
abbrev pub Lets : {P : Type 0} → (P → List ℕ → ℕ) → (P → List ℕ → Json → Option P) → Type 0
Lets {P} judge set = (p : P) (k : List ℕ) (v : Json) (s : P) → set p k v ≡ some s → judge p k ≡ 0

module _ {P : Type 0} (judge : P → List ℕ → ℕ) (step : P → List ℕ → List ℕ → Got P) (set : P → List ℕ → Json → Option P) (m : ℕ)
    (faithful : (p : P) (k : List ℕ) → Faithful m (step p k) (set p k)) (lets : Lets judge set) (begins : (b : List ℕ) (v : Json) → Written b v → Begins b) where
  -- the last member, put together
  last_there : (p q : P) (l l1 l2 w k rest z : List ℕ) → Blank w → l ≡ w ++ l1 → KeyThere l1 k l2 → ValueThere (set p k) l2 q (z ++ (0x7d ∷ rest)) → Blank z
      → MembersThere set p l q rest
  last_there p q l l1 l2 w k rest z bw e key v bz =
      record {
        bytes = w ++ (quote ∷ (key.bytes ++ (key.before ++ (0x3a ∷ (key.behind ++ (v.bytes ++ (z ++ (0x7d ∷ []))))))));
        are = member k v.is no_members;
        written = last_member bw key.spelled key.blank_before key.blank_behind v.written bz;
        meant = rw v.meant;
        here = e ∙ ap (λ (t : List ℕ). w ++ t) (key.here ∙ ap (λ (t : List ℕ). quote ∷ (key.bytes ++ (key.before ++ (0x3a ∷ (key.behind ++ t))))) v.here) ∙ simp append_assoc;
      }

  next_there : (p q s : P) (l l1 l2 w k rest z more : List ℕ) → Blank w → l ≡ w ++ l1 → KeyThere l1 k l2 → ValueThere (set p k) l2 s (z ++ (0x2c ∷ more)) → Blank z
      → MembersThere set s more q rest → MembersThere set p l q rest
  next_there p q s l l1 l2 w k rest z more bw e key v bz ms =
      record {
        bytes = w ++ (quote ∷ (key.bytes ++ (key.before ++ (0x3a ∷ (key.behind ++ (v.bytes ++ (z ++ (0x2c ∷ ms.bytes))))))));
        are = member k v.is ms.are;
        written = next_member bw key.spelled key.blank_before key.blank_behind v.written bz ms.written;
        meant = rw (v.meant, ms.meant);
        here = e ∙ ap (λ (t : List ℕ). w ++ t) (key.here ∙ ap (λ (t : List ℕ). quote ∷ (key.bytes ++ (key.before ++ (0x3a ∷ (key.behind ++ t))))) (v.here ∙ ap (λ (t : List ℕ). v.bytes ++ (z ++ (0x2c ∷ t))) ms.here)) ∙ simp append_assoc;
      }

  pub fields_sound : (n : ℕ) (p q : P) (l rest : List ℕ) → fields judge step n p l ≡ got q rest → MembersThere set p l q rest
  unfolding fields
  fields_sound zero p q l rest e = absurd (let z : ◌≡◌ {A = ℕ} 0 1 = cc in omega arith)
  fields_sound (suc n) p q l rest e =
      let one = follow_got _ _ q rest e in
      let two = follow_got _ _ q rest one.gave in
      let w = blanks_sound l in
      let key = key_sound (judge p) (blanks l) one.part one.behind one.was in
      let v = (faithful p one.part).sound one.behind two.part two.behind two.was in
      let z = blanks_sound two.behind in
      turn p l (blanks l) one.behind w.skipped one.part w.blank w.here key two.part two.behind v z.skipped (blanks two.behind) z.blank z.here
      (λ more. fields judge step n two.part more) two.gave (λ more e'. fields_sound n two.part q more rest e')
    where
      turn : (p : P) (l l1 l2 w k : List ℕ) → Blank w → l ≡ w ++ l1 → KeyThere l1 k l2 → (s : P) (l3 : List ℕ) → ValueThere (set p k) l2 s l3 → (z l4 : List ℕ) → Blank z → l3 ≡ z ++ l4
          → (go : List ℕ → Got P) → cond (eqb (first l4) 0x2c) (go (drop 1 l4)) (ended 0x7d s l4) ≡ got q rest
          → ((more : List ℕ) → go more ≡ got q rest → MembersThere set s more q rest) → MembersThere set p l q rest
      turn p l l1 l2 w k bw e key s l3 v z [] bz e3 go x ih = absurd (let f : stop not_json [] ≡ got q rest = x in let y : ◌≡◌ {A = ℕ} 0 1 = cc in omega arith)
      turn p l l1 l2 w k bw e key s l3 v z (b ∷ l4) bz e3 go x ih = by (eqb b 0x2c) refl x
        where
          by : (t : Bool) → eqb b 0x2c ≡ t → cond t (go l4) (ended 0x7d s (b ∷ l4)) ≡ got q rest → MembersThere set p l q rest
          by true is y = next_there p q s l l1 l2 w k rest z l4 bw e key (rw (e3, eqb-true b 0x2c is) at v) bz (ih l4 y)
          by false is y =
              let c = ended_got 0x7d (omega arith) s q (b ∷ l4) rest y in
              last_there p q l l1 l2 w k rest z bw e key (rw (e3, c.0, c.1) at v) bz

  -- one turn, forwards
  turn_complete : (p s : P) (w kb k x y b z : List ℕ) (v : Json) (c : ℕ) (behind : List ℕ) (n : ℕ) → Blank w → Characters kb k → Blank x → Blank y → Written b v → Blank z
      → length b ≤ m → set p k v ≡ some s → goes_on c ≡ false → is_blank c ≡ false
      → fields judge step (suc n) p (w ++ (quote ∷ (kb ++ (x ++ (0x3a ∷ (y ++ (b ++ (z ++ (c ∷ behind)))))))))
      ≡ cond (eqb c 0x2c) (fields judge step n s behind) (ended 0x7d s (c ∷ behind))
  unfolding fields is_blank
  turn_complete p s w kb k x y b z v c behind n bw cs bx by wr bz less e out solid =
      rw (
        blanks_complete w (quote ∷ (kb ++ (x ++ (0x3a ∷ (y ++ (b ++ (z ++ (c ∷ behind)))))))) bw refl,
        key_complete (judge p) x y (b ++ (z ++ (c ∷ behind))) cs bx by (begins b v wr (z ++ (c ∷ behind))) (lets p k v s e),
        (faithful p k).complete b v s (z ++ (c ∷ behind)) wr less e (ends_behind z behind c bz out),
        blanks_complete z (c ∷ behind) bz solid,
      )

  pub fields_complete : {bs : List ℕ} {ms : Members} → WrittenMembers bs ms → (p q : P) (rest : List ℕ) (n : ℕ) → length bs ≤ n → length bs ≤ m
      → fold_members set p ms ≡ some q → fields judge step n p (bs ++ rest) ≡ got q rest
  unfolding is_blank
  fields_complete (last_member _ _ _ _ _ _) p q rest zero h hm e = absurd (omega (arith, simp length-append at h))
  fields_complete (next_member _ _ _ _ _ _ _) p q rest zero h hm e = absurd (omega (arith, simp length-append at h))
  fields_complete (last_member {w = w} {kb = kb} {k = k} {x = x} {y = y} {b = b} {z = z} {v = v} bw cs bx by wr bz) p q rest (suc n) h hm e =
      let f = then_some (set p k v) (λ s. some s) q e in
      let g : set p k v ≡ some q = f.1 ∙ f.2 in
      simp append_assoc
      (turn_complete p q w kb k x y b z v 0x7d rest n bw cs bx by wr bz (omega (arith, simp length-append at hm)) g refl refl)
  fields_complete (next_member {w = w} {kb = kb} {k = k} {x = x} {y = y} {b = b} {z = z} {bs = bs} {v = v} {ms = ms} bw cs bx by wr bz more) p q rest (suc n) h hm e =
      let f = then_some (set p k v) (λ s. fold_members set s ms) q e in
      simp append_assoc
      (turn_complete p f.0 w kb k x y b z v 0x2c (bs ++ rest) n bw cs bx by wr bz (omega (arith, simp length-append at hm)) f.1 refl refl
      ∙ fields_complete more f.0 q rest n (omega (arith, simp length-append at h)) (omega (arith, simp length-append at hm)) f.2)

-- ---- values of an array

pub record ValuesThere {P : Type 0} (set : P → Json → Option P) (p : P) (l : List ℕ) (q : P) (rest : List ℕ) : Type 0 where
  pub bytes : List ℕ
  pub are : Values
  pub written : WrittenValues bytes are
  pub meant : fold_values set p are ≡ some q
  pub here : l ≡ bytes ++ rest

module _ {P : Type 0} (step : P → List ℕ → Got P) (set : P → Json → Option P) (m : ℕ)
    (faithful : (p : P) → Faithful m (step p) (set p)) (begins : (b : List ℕ) (v : Json) → Written b v → Begins b) where
  last_item : (p q : P) (l l1 w rest z : List ℕ) → Blank w → l ≡ w ++ l1 → ValueThere (set p) l1 q (z ++ (0x5d ∷ rest)) → Blank z → ValuesThere set p l q rest
  last_item p q l l1 w rest z bw e v bz =
      record {
        bytes = w ++ (v.bytes ++ (z ++ (0x5d ∷ [])));
        are = value v.is no_values;
        written = last_value bw v.written bz;
        meant = rw v.meant;
        here = e ∙ ap (λ (t : List ℕ). w ++ t) v.here ∙ simp append_assoc;
      }

  next_item : (p q s : P) (l l1 w rest z more : List ℕ) → Blank w → l ≡ w ++ l1 → ValueThere (set p) l1 s (z ++ (0x2c ∷ more)) → Blank z
      → ValuesThere set s more q rest → ValuesThere set p l q rest
  next_item p q s l l1 w rest z more bw e v bz vs =
      record {
        bytes = w ++ (v.bytes ++ (z ++ (0x2c ∷ vs.bytes)));
        are = value v.is vs.are;
        written = next_value bw v.written bz vs.written;
        meant = rw (v.meant, vs.meant);
        here = e ∙ ap (λ (t : List ℕ). w ++ t) (v.here ∙ ap (λ (t : List ℕ). v.bytes ++ (z ++ (0x2c ∷ t))) vs.here) ∙ simp append_assoc;
      }

  pub items_sound : (n : ℕ) (p q : P) (l rest : List ℕ) → items step n p l ≡ got q rest → ValuesThere set p l q rest
  unfolding items
  items_sound zero p q l rest e = absurd (let z : ◌≡◌ {A = ℕ} 0 1 = cc in omega arith)
  items_sound (suc n) p q l rest e =
      let one = follow_got _ _ q rest e in
      let w = blanks_sound l in
      let v = (faithful p).sound (blanks l) one.part one.behind one.was in
      let z = blanks_sound one.behind in
      turn p l (blanks l) w.skipped w.blank w.here one.part one.behind v z.skipped (blanks one.behind) z.blank z.here
      (λ more. items step n one.part more) one.gave (λ more e'. items_sound n one.part q more rest e')
    where
      turn : (p : P) (l l1 w : List ℕ) → Blank w → l ≡ w ++ l1 → (s : P) (l3 : List ℕ) → ValueThere (set p) l1 s l3 → (z l4 : List ℕ) → Blank z → l3 ≡ z ++ l4
          → (go : List ℕ → Got P) → cond (eqb (first l4) 0x2c) (go (drop 1 l4)) (ended 0x5d s l4) ≡ got q rest
          → ((more : List ℕ) → go more ≡ got q rest → ValuesThere set s more q rest) → ValuesThere set p l q rest
      turn p l l1 w bw e s l3 v z [] bz e3 go x ih = absurd (let f : stop not_json [] ≡ got q rest = x in let y : ◌≡◌ {A = ℕ} 0 1 = cc in omega arith)
      turn p l l1 w bw e s l3 v z (b ∷ l4) bz e3 go x ih = by (eqb b 0x2c) refl x
        where
          by : (t : Bool) → eqb b 0x2c ≡ t → cond t (go l4) (ended 0x5d s (b ∷ l4)) ≡ got q rest → ValuesThere set p l q rest
          by true is y = next_item p q s l l1 w rest z l4 bw e (rw (e3, eqb-true b 0x2c is) at v) bz (ih l4 y)
          by false is y =
              let c = ended_got 0x5d (omega arith) s q (b ∷ l4) rest y in
              last_item p q l l1 w rest z bw e (rw (e3, c.0, c.1) at v) bz

  item_complete : (p s : P) (w b z : List ℕ) (v : Json) (c : ℕ) (behind : List ℕ) (n : ℕ) → Blank w → Written b v → Blank z
      → length b ≤ m → set p v ≡ some s → goes_on c ≡ false → is_blank c ≡ false
      → items step (suc n) p (w ++ (b ++ (z ++ (c ∷ behind)))) ≡ cond (eqb c 0x2c) (items step n s behind) (ended 0x5d s (c ∷ behind))
  unfolding items
  item_complete p s w b z v c behind n bw wr bz less e out solid =
      rw (
        blanks_complete w (b ++ (z ++ (c ∷ behind))) bw (begins b v wr (z ++ (c ∷ behind))),
        (faithful p).complete b v s (z ++ (c ∷ behind)) wr less e (ends_behind z behind c bz out),
        blanks_complete z (c ∷ behind) bz solid,
      )

  pub items_complete : {bs : List ℕ} {vs : Values} → WrittenValues bs vs → (p q : P) (rest : List ℕ) (n : ℕ) → length bs ≤ n → length bs ≤ m
      → fold_values set p vs ≡ some q → items step n p (bs ++ rest) ≡ got q rest
  unfolding is_blank
  items_complete (last_value _ _ _) p q rest zero h hm e = absurd (omega (arith, simp length-append at h))
  items_complete (next_value _ _ _ _) p q rest zero h hm e = absurd (omega (arith, simp length-append at h))
  items_complete (last_value {w = w} {b = b} {x = z} {v = v} bw wr bz) p q rest (suc n) h hm e =
      let f = then_some (set p v) (λ s. some s) q e in
      let g : set p v ≡ some q = f.1 ∙ f.2 in
      simp append_assoc (item_complete p q w b z v 0x5d rest n bw wr bz (omega (arith, simp length-append at hm)) g refl refl)
  items_complete (next_value {w = w} {b = b} {x = z} {bs = bs} {v = v} {vs = vs} bw wr bz more) p q rest (suc n) h hm e =
      let f = then_some (set p v) (λ s. fold_values set s vs) q e in
      simp append_assoc
      (item_complete p f.0 w b z v 0x2c (bs ++ rest) n bw wr bz (omega (arith, simp length-append at hm)) f.1 refl refl
      ∙ items_complete more f.0 q rest n (omega (arith, simp length-append at h)) (omega (arith, simp length-append at hm)) f.2)
