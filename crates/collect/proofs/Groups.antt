-- Collecting is sorting by key and putting together what then follows each other with one number, for every way to put rules together
-- that does not depend on how they are bracketed. Assumes nothing.
use mathlib.Core.Path.{◌≡◌, refl, ap, sym, ◌∙◌}
use mathlib.Core.Bool.{Bool, true, false, cond}
use mathlib.Core.List.{List, [], ◌∷◌, map, append-nil}
use Prim.Native.Nat.{ℕ, ◌+◌, ◌/◌, ◌%◌, ◌≤◌, ◌<◌}
use native.Mathlib.Omega.{arith}
use lib.Dec.{eqb, ltb, leb}
use lib.ListN.{length, length-append}
use borrow.Author.Tests.{ltb-true, ltb-false, leb-false, eqb-true, eqb-false, lt-ltb, le-ltb, eq-eqb, ne_eqb}
use Rattle.definitions.specs.RuleSet.{Rule, Entry}
use Rattle.definitions.specs.Format.{joined, encode_rule, encode_entry, Each}
use Rattle.definitions.specs.Collected.{insert, collected}
use Rattle.theorems.proofs.Forms.{length_entry}
use Rattle.sort.specs.Sorted.{put, sorted, Ascends}
use Rattle.sort.proofs.Insertion.{sorted_ascends}
use Rattle.collect.specs.Groups.{Join, both, grouped, groups}

three : {A : Type 0} (a b : ℕ) → (a < b → A) → (a ≡ b → A) → (b < a → A) → A
three {A} a b x y z = go (ltb a b) refl (eqb a b) refl
  where
    go : (p : Bool) → ltb a b ≡ p → (q : Bool) → eqb a b ≡ q → A
    go true e q r = x (ltb-true a b e)
    go false e true r = y (eqb-true a b r)
    go false e false r = z (let h = ltb-false a b e in let d = eqb-false a b r in omega arith)

-- a key's number is its high part
abbrev pub Numbered : (ℕ → Entry) → ℕ → Type 0
Numbered f k = (f k).number ≡ k / 4294967296

-- a key's place is its low part
abbrev pub Before : ℕ → ℕ → Type 0
Before k l = k % 4294967296 ≤ l % 4294967296

-- the places of keys in the order of the text
abbrev pub InOrder : List ℕ → Type 0
InOrder [] = Unit {0}
InOrder (k ∷ l) = Each (Before k) l × InOrder l

-- numbers that do not fall
abbrev NotAbove : Entry → List Entry → Type 0
NotAbove e [] = Unit {0}
NotAbove e (f ∷ fs) = e.number ≤ f.number

abbrev Climbing : List Entry → Type 0
Climbing [] = Unit {0}
Climbing (e ∷ es) = NotAbove e es × Climbing es

module _ (join : Join) where
  pub group_alike : (e f : Entry) (fs : List Entry) → e.number ≡ f.number → grouped join e (f ∷ fs) ≡ grouped join (both join e f) fs
  unfolding grouped
  group_alike e f fs h = rw (eq-eqb e.number f.number h)

  pub group_apart : (e f : Entry) (fs : List Entry) → (e.number ≡ f.number → ⊥) → grouped join e (f ∷ fs) ≡ e ∷ grouped join f fs
  unfolding grouped
  group_apart e f fs h = rw (ne_eqb e.number f.number h)

  pub group_one : (e : Entry) → grouped join e [] ≡ e ∷ []
  unfolding grouped
  group_one e = refl

  -- ---- inserting, by how the numbers compare

  insert_none : (e : Entry) → insert join e [] ≡ e ∷ []
  unfolding insert
  insert_none e = refl

  insert_first : (e f : Entry) (fs : List Entry) → e.number < f.number → insert join e (f ∷ fs) ≡ e ∷ (f ∷ fs)
  unfolding insert
  insert_first e f fs h = rw (lt-ltb e.number f.number h)

  insert_with : (e f : Entry) (fs : List Entry) → e.number ≡ f.number → insert join e (f ∷ fs) ≡ both join e f ∷ fs
  unfolding insert
  insert_with e f fs h = rw (le-ltb e.number f.number (omega arith), eq-eqb e.number f.number h)

  insert_past : (e f : Entry) (fs : List Entry) → f.number < e.number → insert join e (f ∷ fs) ≡ f ∷ insert join e fs
  unfolding insert
  insert_past e f fs h = rw (le-ltb e.number f.number (omega arith), ne_eqb e.number f.number (λ p. omega arith))

  -- entries of two numbers are inserted in either order
  swap_less : (e f : Entry) (gs : List Entry) → e.number < f.number → insert join e (insert join f gs) ≡ insert join f (insert join e gs)
  swap_less e f [] h = rw (insert_none f, insert_none e, insert_first e f [] h, insert_past f e [] h, insert_none f)
  swap_less e f (g ∷ gs) h =
      three e.number g.number
      (λ p. three f.number g.number
      (λ q. rw (insert_first f g gs q, insert_first e g gs p, insert_first e f (g ∷ gs) h, insert_past f e (g ∷ gs) h, insert_first f g gs q))
      (λ q. rw (insert_with f g gs q, insert_first e g gs p, insert_first e (both join f g) gs h, insert_past f e (g ∷ gs) h, insert_with f g gs q))
      (λ q. rw (insert_past f g gs q, insert_first e g gs p, insert_first e g (insert join f gs) p, insert_past f e (g ∷ gs) h, insert_past f g gs q)))
      (λ p. rw (insert_past f g gs (omega arith), insert_with e g gs p, insert_with e g (insert join f gs) p, insert_past f (both join e g) gs h))
      (λ p. rw (insert_past f g gs (omega arith), insert_past e g gs p, insert_past e g (insert join f gs) p, insert_past f g (insert join e gs) (omega arith), swap_less e f gs h))

  swap_inserts : (e f : Entry) (gs : List Entry) → (e.number ≡ f.number → ⊥) → insert join e (insert join f gs) ≡ insert join f (insert join e gs)
  swap_inserts e f gs d =
      three e.number f.number (swap_less e f gs) (λ p. absurd (d p)) (λ p. sym (swap_less f e gs p))

-- what holds of each key holds of each sorted key
put_each : (P : ℕ → Type 0) (k : ℕ) (l : List ℕ) → P k → Each P l → Each P (put k l)
unfolding put
put_each P k [] p q = (p, tt)
put_each P k (y ∷ l) p q = go (leb k y) (put_each P k l p q.1)
  where
    go : (t : Bool) → Each P (put k l) → Each P (cond t (k ∷ (y ∷ l)) (y ∷ put k l))
    go true ih = (p, q)
    go false ih = (q.0, ih)

pub sorted_each : (P : ℕ → Type 0) (l : List ℕ) → Each P l → Each P (sorted l)
sorted_each P [] h = tt
sorted_each P (k ∷ l) h = put_each P k (sorted l) h.0 (sorted_each P l h.1)

module _ (join : Join) where
  -- ---- sorted by key, entries are collected to the same

  module _ (f : ℕ → Entry) where
    -- a key that has a place below those of the others
    put_collected : (k : ℕ) (l : List ℕ) → Numbered f k → Each (Numbered f) l → Each (Before k) l
        → collected join (map f (put k l)) ≡ insert join (f k) (collected join (map f l))
    unfolding put collected
    put_collected k [] nk nl low = refl
    put_collected k (y ∷ l) nk nl low = go (leb k y) refl (put_collected k l nk nl.1 low.1)
      where
        go : (t : Bool) → leb k y ≡ t → collected join (map f (put k l)) ≡ insert join (f k) (collected join (map f l))
            → collected join (map f (cond t (k ∷ (y ∷ l)) (y ∷ put k l))) ≡ insert join (f k) (insert join (f y) (collected join (map f l)))
        go true e ih = refl
        go false e ih =
            let less = leb-false k y e in
            let low1 = low.0 in
            let ny = nl.0 in
            ap (λ (m : List Entry). insert join (f y) m) ih
            ∙ swap_inserts join (f y) (f k) (collected join (map f l)) (λ p. omega arith)

    sorted_collected : (l : List ℕ) → Each (Numbered f) l → InOrder l → collected join (map f (sorted l)) ≡ collected join (map f l)
    unfolding collected
    sorted_collected [] n o = refl
    sorted_collected (k ∷ l) n o =
        put_collected k (sorted l) n.0 (sorted_each (Numbered f) l n.1) (sorted_each (Before k) l o.0)
        ∙ ap (λ (m : List Entry). insert join (f k) m) (sorted_collected l n.1 o.1)

    ascending_climbs : (l : List ℕ) → Ascends l → Each (Numbered f) l → Climbing (map f l)
    ascending_climbs [] a n = tt
    ascending_climbs (k ∷ []) a n = (tt, tt)
    ascending_climbs (k ∷ (x ∷ l)) a n =
        let less = a.0 in
        let first = n.0 in
        let second = n.1.0 in
        (omega arith, ascending_climbs (x ∷ l) a.1 n.1)

  -- ---- entries whose numbers do not fall are collected from the front

  module _ (bracketed : (a b c : List Rule) → join (join a b) c ≡ join a (join b c)) where
    insert_both : (e f : Entry) (gs : List Entry) → e.number ≡ f.number → insert join e (insert join f gs) ≡ insert join (both join e f) gs
    insert_both e f [] h = rw (insert_none join f, insert_with join e f [] h, insert_none join (both join e f))
    insert_both e f (g ∷ gs) h =
        three f.number g.number
        (λ p. rw (insert_first join f g gs p, insert_with join e f (g ∷ gs) h, insert_first join (both join e f) g gs (omega arith)))
        (λ p. rw (insert_with join f g gs p, insert_with join e (both join f g) gs h, insert_with join (both join e f) g gs (h ∙ p), bracketed e.rules f.rules g.rules))
        (λ p. rw (insert_past join f g gs p, insert_past join e g (insert join f gs) (omega arith), insert_past join (both join e f) g gs (omega arith), insert_both e f gs h))

    insert_lowest : (e f : Entry) (fs : List Entry) → e.number < f.number → insert join e (grouped join f fs) ≡ e ∷ grouped join f fs
    unfolding grouped
    insert_lowest e f [] h = insert_first join e f [] h
    insert_lowest e f (g ∷ fs) h = go (insert_lowest e (both join f g) fs h) (eqb f.number g.number)
      where
        go : insert join e (grouped join (both join f g) fs) ≡ e ∷ grouped join (both join f g) fs
            → (t : Bool) → insert join e (cond t (grouped join (both join f g) fs) (f ∷ grouped join g fs)) ≡ e ∷ cond t (grouped join (both join f g) fs) (f ∷ grouped join g fs)
        go ih true = ih
        go ih false = insert_first join e f (grouped join g fs) h

    lower_first : (e f : Entry) (fs : List Entry) → e.number ≤ f.number → NotAbove f fs → NotAbove e fs
    lower_first e f [] h n = tt
    lower_first e f (g ∷ fs) h n = omega arith

    grouped_collected : (e : Entry) (fs : List Entry) → Climbing (e ∷ fs) → grouped join e fs ≡ collected join (e ∷ fs)
    unfolding grouped collected
    grouped_collected e [] c = sym (insert_none join e)
    grouped_collected e (f ∷ fs) c = go (grouped_collected (both join e f) fs) (grouped_collected f fs c.1) (eqb e.number f.number) refl
      where
        go : (Climbing (both join e f ∷ fs) → grouped join (both join e f) fs ≡ insert join (both join e f) (collected join fs))
            → grouped join f fs ≡ insert join f (collected join fs) → (t : Bool) → eqb e.number f.number ≡ t
            → cond t (grouped join (both join e f) fs) (e ∷ grouped join f fs) ≡ insert join e (insert join f (collected join fs))
        go with_first behind true p =
            let same = eqb-true e.number f.number p in
            with_first (lower_first (both join e f) f fs (omega arith) c.1.0, c.1.1)
            ∙ sym (insert_both e f (collected join fs) same)
        go with_first behind false p =
            let apart = eqb-false e.number f.number p in
            let less = c.0 in
            sym (insert_lowest e f fs (omega arith)) ∙ ap (λ (m : List Entry). insert join e m) behind

    groups_collected : (es : List Entry) → Climbing es → groups join es ≡ collected join es
    unfolding collected
    groups_collected [] c = refl
    groups_collected (e ∷ es) c = grouped_collected e es c

    pub sorted_groups : (f : ℕ → Entry) (l : List ℕ) → Each (Numbered f) l → InOrder l → groups join (map f (sorted l)) ≡ collected join (map f l)
    sorted_groups f l n o =
        groups_collected (map f (sorted l)) (ascending_climbs f (sorted l) (sorted_ascends l) (sorted_each (Numbered f) l n))
        ∙ sorted_collected f l n o

-- ---- collecting makes nothing longer where putting rules together does not

module _ (join : Join) (short : (a b : List Rule) → length (joined encode_rule (join a b)) ≤ length (joined encode_rule a) + length (joined encode_rule b)) where
  insert_shorter : (e : Entry) (es : List Entry) → length (joined encode_entry (insert join e es)) ≤ length (encode_entry e) + length (joined encode_entry es)
  insert_shorter e [] = rw (insert_none join e, append-nil) (omega arith)
  insert_shorter e (f ∷ fs) =
      let behind = length-append (encode_entry f) (joined encode_entry fs) in
      three e.number f.number
      (λ p. rw (insert_first join e f fs p, length-append) (omega arith))
      (λ p. rw (insert_with join e f fs p, length-append)
      (omega (arith, length_entry (both join e f), length_entry e, length_entry f, short e.rules f.rules)))
      (λ p. rw (insert_past join e f fs p, length-append (encode_entry f) (joined encode_entry (insert join e fs))) (omega (arith, insert_shorter e fs)))

  pub shorter : (es : List Entry) → length (joined encode_entry (collected join es)) ≤ length (joined encode_entry es)
  unfolding collected
  shorter [] = omega arith
  shorter (e ∷ es) =
      let both_long = length-append (encode_entry e) (joined encode_entry es) in
      omega (arith, insert_shorter e (collected join es), shorter es)
