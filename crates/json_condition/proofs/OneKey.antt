-- An object with one key, by the steps that the code takes: up to its value, the value, and what stands behind it.
use mathlib.Core.Path.{◌≡◌, refl, ap, ◌∙◌}
use mathlib.Core.Bool.{Bool, true, false, cond}
use mathlib.Core.List.{List, [], ◌∷◌}
use mathlib.Core.Option.{Option, none, some}
use Prim.Native.Nat.{ℕ, zero, suc, ◌-◌, ◌≤◌, ◌<◌}
use native.Mathlib.Omega.{arith}
use lib.Dec.{eqb}
use lib.ListN.{length, drop, length-drop}
use borrow.Author.Tests.{eqb-true}
use Rattle.definitions.specs.Json.{quote, is_blank}
use Rattle.definitions.specs.JsonForm.{same}
use Rattle.definitions.specs.JsonReader.{Got, got, stop, not_json, follow, first, blanks, ended, string_at, placed, bad_character, unless, key_at, fields, object_at}
use Rattle.definitions.specs.FormReader.{not_of_form, given_twice, wrong, or_stop, judged, answered, ending, Held, held, or_refused, one_judge, one_step, one_end, one_there, object_there}
use Rattle.json_theorems.specs.Turns.{open_there, colon_there, more_there}
use Rattle.json_theorems.proofs.Turns.{onward, onward_is}
use Rattle.json_theorems.specs.Turns.{key_string}
use Rattle.json_condition.specs.Words.{one_begins, one_ends}

-- ---- blanks

pub record Suffix (l m : List ℕ) : Type 0 where
  pub count : ℕ
  pub inside : count ≤ length l
  pub same : m ≡ drop count l

pub blanks_suffix : (l : List ℕ) → Suffix l (blanks l)
unfolding blanks
blanks_suffix [] = record { count = 0; inside = omega arith; same = refl }
blanks_suffix (b ∷ bs) = go (is_blank b) (blanks_suffix bs)
  where
    go : (t : Bool) → Suffix bs (blanks bs) → Suffix (b ∷ bs) (cond t (blanks bs) (b ∷ bs))
    go true s = record { count = suc s.count; inside = omega (arith, s.inside); same = s.same }
    go false s = record { count = 0; inside = omega arith; same = refl }

-- the next byte that is no blank is not before
pub blanks_on : (text : List ℕ) (a b : ℕ) → a ≤ length text → b ≤ length text → drop b text ≡ blanks (drop a text) → a ≤ b
blanks_on text a b h i e =
    let s = blanks_suffix (drop a text) in
    let l : length (drop b text) ≡ length (drop s.count (drop a text)) = ap length (e ∙ s.same) in
    omega (arith, length-drop b text, length-drop s.count (drop a text), length-drop a text)

-- a byte that stands at the front
pub front : (l : List ℕ) (b : ℕ) → 0 < b → eqb (first l) b ≡ true → l ≡ b ∷ drop 1 l
front [] b h e = absurd (let z = eqb-true (first []) b e in omega arith)
front (x ∷ xs) b h e = ap (λ (y : ℕ). y ∷ xs) (eqb-true x b e)

-- what stands behind a comma or a bracket is shorter
pub more_shorter : (bracket : ℕ) (l next : List ℕ) (more : Bool) → more_there bracket l ≡ got more next → length next ≤ length l
unfolding more_there
more_shorter bracket l next more e = go (eqb (first (blanks l)) 0x2c) (eqb (first (blanks l)) bracket) e
  where
    shorter : length (drop 1 (blanks l)) ≤ length l
    shorter = let s = blanks_suffix l in rw s.same (omega (arith, length-drop 1 (drop s.count l), length-drop s.count l))

    go : (a b : Bool) → cond a (got true (drop 1 (blanks l))) (cond b (got false (drop 1 (blanks l))) (stop not_json (blanks l))) ≡ got more next → length next ≤ length l
    go true b d = let z : drop 1 (blanks l) ≡ next = cc in rw (← z) shorter
    go false true d = let z : drop 1 (blanks l) ≡ next = cc in rw (← z) shorter
    go false false d = absurd (let z : ◌≡◌ {A = ℕ} 0 1 = cc in omega arith)

-- ---- one turn of an object's reader

module _ {P : Type 0} (judge : P → List ℕ → ℕ) (step : P → List ℕ → List ℕ → Got P) where
  abbrev pub keyed : ℕ → P → List ℕ → List ℕ → List ℕ → Got P
  keyed n p l k past =
      follow (unless (judge p k) l 0 past) (λ (z : ℕ) known. follow (colon_there known) (λ y behind. follow (step p k behind) (λ q rest. onward 0x7d (fields judge step n) q rest)))

  some_turn : (n : ℕ) (p : P) (l : List ℕ) → fields judge step (suc n) p l ≡ follow (key_string (blanks l)) (λ k past. keyed n p (blanks l) k past)
  unfolding fields key_at key_string colon_there
  some_turn n p l = quoted (eqb (first (blanks l)) quote) (placed bad_character (string_at (drop 1 (blanks l))))
    where
      further : P → List ℕ → Got P
      further q rest =
          let more : Got P = fields judge step n q (drop 1 (blanks rest)) in
          cond (eqb (first (blanks rest)) 0x2c) more (ended 0x7d q (blanks rest))

      colon : List ℕ → List ℕ → Got (List ℕ)
      colon k past = follow (ended 0x3a k (blanks past)) (λ key more. got key (blanks more))

      read : (g : Got P) → follow g further ≡ follow g (λ q rest. onward 0x7d (fields judge step n) q rest)
      read (got q rest) = onward_is 0x7d (fields judge step n) q rest
      read (stop k m) = refl

      behind_colon : (k past : List ℕ) (b : Bool)
          → follow (follow (cond b (got k (drop 1 (blanks past))) (stop not_json (blanks past))) (λ key more. got key (blanks more))) (λ key behind. follow (step p key behind) further)
          ≡ follow (follow {A = ℕ} (cond b (got 0 (drop 1 (blanks past))) (stop not_json (blanks past))) (λ z more. got z (blanks more)))
          (λ y behind. follow (step p k behind) (λ q rest. onward 0x7d (fields judge step n) q rest))
      behind_colon k past true = read (step p k (blanks (drop 1 (blanks past))))
      behind_colon k past false = refl

      known : (k past : List ℕ) (b : Bool) (code : ℕ)
          → follow (follow (cond b (got k past) (stop code (blanks l))) colon) (λ key behind. follow (step p key behind) further)
          ≡ follow (cond b (got 0 past) (stop code (blanks l)))
          (λ (z : ℕ) rest. follow (follow {A = ℕ} (ended 0x3a 0 (blanks rest)) (λ y more. got y (blanks more))) (λ y behind. follow (step p k behind) (λ q after. onward 0x7d (fields judge step n) q after)))
      known k past true code = behind_colon k past (eqb (first (blanks past)) 0x3a)
      known k past false code = refl

      quoted : (q : Bool) (g : Got (List ℕ))
          → follow (cond q (follow g (λ k rest. follow (unless (judge p k) (blanks l) k rest) colon)) (stop not_json (blanks l))) (λ key behind. follow (step p key behind) further)
          ≡ follow (cond q g (stop not_json (blanks l)))
          (λ k past. follow (unless (judge p k) (blanks l) 0 past) (λ (z : ℕ) rest. follow (follow {A = ℕ} (ended 0x3a 0 (blanks rest)) (λ y more. got y (blanks more))) (λ y behind. follow (step p k behind) (λ q after. onward 0x7d (fields judge step n) q after))))
      quoted true (got k rest) = known k rest (eqb (judge p k) 0) (judge p k)
      quoted true (stop k m) = refl
      quoted false g = refl

  -- where no turn is left nothing is left of the text, and there is no key
  pub any_turn : (n : ℕ) (p : P) (l : List ℕ) → length l ≤ n → fields judge step n p l ≡ follow (key_string (blanks l)) (λ k past. keyed (n - 1) p (blanks l) k past)
  unfolding fields key_string blanks
  any_turn zero p [] h = refl
  any_turn zero p (b ∷ l) h = absurd (omega arith)
  any_turn (suc n) p l h = let e : suc n - 1 ≡ n = omega arith in rw e (some_turn n p l)

-- ---- an object with one key

module _ {B : Type 0} (known : List ℕ → Option ℕ) (reads : ℕ → List ℕ → Got B) (meant : ℕ → List ℕ) (named : (k : List ℕ) (n : ℕ) → known k ≡ some n → k ≡ meant n) where
  -- behind its value
  abbrev one_later : ℕ → List ℕ → List ℕ → B → List ℕ → Got B
  one_later turns l key b rest = follow (onward 0x7d (fields (one_judge known) (one_step known reads) turns) (some (held key b)) rest) (λ h next. answered (ending (one_end h)) l next)

  pub one_turn : (l : List ℕ) → one_there known reads l
      ≡ follow (one_begins known l) (λ n behind. follow (reads n behind) (λ b rest. one_later (length (drop 1 l) - 1) l (meant n) b rest))
  unfolding one_there judged object_there object_at one_begins open_there
  one_turn l = opened (eqb (first l) 0x7b) (eqb (first (blanks m)) 0x7d) refl
    where
      m : List ℕ
      m = drop 1 l

      value : (k behind : List ℕ) (n : ℕ) (g : Got B) → k ≡ meant n
          → follow (follow (follow g (λ b rest. got (some (held k b)) rest)) (λ q rest. onward 0x7d (fields (one_judge known) (one_step known reads) (length m - 1)) q rest)) (λ h next. answered (ending (one_end h)) l next)
          ≡ follow g (λ b rest. one_later (length m - 1) l (meant n) b rest)
      value k behind n (got b rest) e = rw (← e)
      value k behind n (stop c r) e = refl

      colon : (k : List ℕ) (n : ℕ) (g : Got ℕ) → known k ≡ some n
          → follow (follow g (λ y behind. follow (one_step known reads none k behind) (λ q rest. onward 0x7d (fields (one_judge known) (one_step known reads) (length m - 1)) q rest))) (λ h next. answered (ending (one_end h)) l next)
          ≡ follow (follow g (λ y behind. got n behind)) (λ w behind. follow (reads w behind) (λ b rest. one_later (length m - 1) l (meant w) b rest))
      colon k n (got y behind) e = rw e (value k behind n (reads n behind) (named k n e))
      colon k n (stop c r) e = refl

      first_key : (k past : List ℕ) (o : Option ℕ) → known k ≡ o
          → follow (follow (unless (or_refused o) (blanks m) 0 past) (λ (z : ℕ) rest. follow (colon_there rest) (λ y behind. follow (one_step known reads none k behind) (λ q after. onward 0x7d (fields (one_judge known) (one_step known reads) (length m - 1)) q after)))) (λ h next. answered (ending (one_end h)) l next)
          ≡ follow (follow (or_stop o (blanks m) past) (λ n rest. follow (colon_there rest) (λ y behind. got n behind))) (λ w behind. follow (reads w behind) (λ b rest. one_later (length m - 1) l (meant w) b rest))
      first_key k past none e = refl
      first_key k past (some n) e = colon k n (colon_there past) e

      keys : (g : Got (List ℕ))
          → follow (follow g (λ k past. keyed (one_judge known) (one_step known reads) (length m - 1) none (blanks m) k past)) (λ h next. answered (ending (one_end h)) l next)
          ≡ follow (follow g (λ k past. follow (or_stop (known k) (blanks m) past) (λ n rest. follow (colon_there rest) (λ y behind. got n behind)))) (λ w behind. follow (reads w behind) (λ b rest. one_later (length m - 1) l (meant w) b rest))
      keys (got k past) = first_key k past (known k) refl
      keys (stop c r) = refl

      opened : (a b : Bool) → eqb (first (blanks m)) 0x7d ≡ b
          → follow (cond a (cond b (got none (drop 1 (blanks m))) (fields (one_judge known) (one_step known reads) (length m) none m)) (stop (wrong l) l)) (λ h next. answered (ending (one_end h)) l next)
          ≡ follow (follow {A = ℕ} (cond a (got 0 m) (stop (wrong l) l)) (λ z rest. cond (eqb (first (blanks rest)) 0x7d) (stop not_of_form (blanks rest))
          (follow (key_string (blanks rest)) (λ k past. follow (or_stop (known k) (blanks rest) past) (λ n behind. follow (colon_there behind) (λ y value. got n value))))))
          (λ w behind. follow (reads w behind) (λ b rest. one_later (length m - 1) l (meant w) b rest))
      opened false b e = refl
      opened true true e = rw (e, ← front (blanks m) 0x7d (omega arith) e)
      opened true false e = rw (e, any_turn (one_judge known) (one_step known reads) (length m) none m (omega arith)) (keys (key_string (blanks m)))

  -- a second key is refused, whatever it is
  second_key : (turns : ℕ) (key next : List ℕ) (b : B) → length next ≤ turns
      → fields (one_judge known) (one_step known reads) turns (some (held key b)) next
      ≡ follow (key_string (blanks next)) (λ k past. stop (cond (same key k) given_twice not_of_form) (blanks next))
  second_key turns key next b h = any_turn (one_judge known) (one_step known reads) turns (some (held key b)) next h ∙ keys (key_string (blanks next))
    where
      refused : (k past : List ℕ) (t : Bool) (f : ℕ → List ℕ → Got (Option (Held B))) → follow (unless (cond t given_twice not_of_form) (blanks next) 0 past) f ≡ stop (cond t given_twice not_of_form) (blanks next)
      refused k past true f = refl
      refused k past false f = refl

      keys : (g : Got (List ℕ)) → follow g (λ k past. keyed (one_judge known) (one_step known reads) (turns - 1) (some (held key b)) (blanks next) k past)
          ≡ follow g (λ k past. stop (cond (same key k) given_twice not_of_form) (blanks next))
      keys (got k past) = refused k past (same key k) _
      keys (stop c r) = refl

  one_later_lem : (turns : ℕ) (l key rest : List ℕ) (b : B) → length rest ≤ turns → one_later turns l key b rest ≡ follow (one_ends key rest) (λ z next. got b next)
  unfolding one_ends
  one_later_lem turns l key rest b h = go (more_there 0x7d rest) refl
    where
      again : (next : List ℕ) (g : Got (List ℕ))
          → follow (follow {B = Option (Held B)} g (λ k past. stop (cond (same key k) given_twice not_of_form) (blanks next))) (λ h next. answered (ending (one_end h)) l next)
          ≡ follow (follow {B = ℕ} g (λ k past. stop (cond (same key k) given_twice not_of_form) (blanks next))) (λ z next. got b next)
      again next (got k past) = refl
      again next (stop c r) = refl

      go : (g : Got Bool) → more_there 0x7d rest ≡ g
          → follow (follow g (λ more next. cond more (fields (one_judge known) (one_step known reads) turns (some (held key b)) next) (got (some (held key b)) next))) (λ h next. answered (ending (one_end h)) l next)
          ≡ follow {A = ℕ} (follow g (λ more next. cond more (follow (key_string (blanks next)) (λ k past. stop (cond (same key k) given_twice not_of_form) (blanks next))) (got 0 next))) (λ z next. got b next)
      go (got true next) e = rw (second_key turns key next b (omega (arith, more_shorter 0x7d rest next true e))) (again next (key_string (blanks next)))
      go (got false next) e = refl
      go (stop c r) e = refl

  -- the three ways that it goes
  module _ (l : List ℕ) where
    pub one_stops : {k : ℕ} {r : List ℕ} → one_begins known l ≡ stop k r → one_there known reads l ≡ stop k r
    one_stops e = one_turn l ∙ rw e

    pub one_value_stops : {n k : ℕ} {behind r : List ℕ} → one_begins known l ≡ got n behind → reads n behind ≡ stop k r → one_there known reads l ≡ stop k r
    one_value_stops e d = one_turn l ∙ rw (e, d)

    module _ {n m : ℕ} {b : B} {behind rest : List ℕ} (e : one_begins known l ≡ got n behind) (d : reads n behind ≡ got b rest) (h : length rest ≤ length (drop 1 l) - 1) (q : m ≡ n) where
      one_goes : one_there known reads l ≡ follow (one_ends (meant m) rest) (λ z next. got b next)
      one_goes = rw q (one_turn l ∙ rw (e, d) (one_later_lem (length (drop 1 l) - 1) l (meant n) rest b h))

      pub one_end_stops : {k : ℕ} {r : List ℕ} → one_ends (meant m) rest ≡ stop k r → one_there known reads l ≡ stop k r
      one_end_stops f = one_goes ∙ rw f

      pub one_fine : {z : ℕ} {next : List ℕ} → one_ends (meant m) rest ≡ got z next → one_there known reads l ≡ got b next
      one_fine f = one_goes ∙ rw f

-- there are turns enough behind a value that begins further on
pub room : (text : List ℕ) (at a b : ℕ) → at < a → a < b → length (drop b text) ≤ length (drop 1 (drop at text)) - 1
room text at a b h i = rw (length-drop b text, length-drop 1 (drop at text), length-drop at text) (omega arith)

-- ---- its two halves, return by return

module _ (known : List ℕ → Option ℕ) (l : List ℕ) where
  pub begins_stops : (k : ℕ) (m : List ℕ) → open_there 0x7b l ≡ stop k m → one_begins known l ≡ stop k m
  unfolding one_begins
  begins_stops k m e = rw e

  module _ (z : ℕ) (rest b : List ℕ) (e : open_there 0x7b l ≡ got z rest) (f : blanks rest ≡ b) where
    pub begins_empty : eqb (first b) 0x7d ≡ true → one_begins known l ≡ stop not_of_form b
    unfolding one_begins
    begins_empty t = rw (e, f, t)

    module _ (t : eqb (first b) 0x7d ≡ false) where
      pub begins_key_stops : (k : ℕ) (m : List ℕ) → key_string b ≡ stop k m → one_begins known l ≡ stop k m
      unfolding one_begins
      begins_key_stops k m g = rw (e, f, t, g)

      module _ (k past : List ℕ) (g : key_string b ≡ got k past) where
        pub begins_unknown : known k ≡ none → one_begins known l ≡ stop not_of_form b
        unfolding one_begins
        begins_unknown n = rw (e, f, t, g, n)

        pub begins_colon_stops : (n c : ℕ) (m : List ℕ) → known k ≡ some n → colon_there past ≡ stop c m → one_begins known l ≡ stop c m
        unfolding one_begins
        begins_colon_stops n c m o d = rw (e, f, t, g, o, d)

        pub begins_value : (n y : ℕ) (value : List ℕ) → known k ≡ some n → colon_there past ≡ got y value → one_begins known l ≡ got n value
        unfolding one_begins
        begins_value n y value o d = rw (e, f, t, g, o, d)

module _ (key l : List ℕ) where
  pub ends_stops : (k : ℕ) (m : List ℕ) → more_there 0x7d l ≡ stop k m → one_ends key l ≡ stop k m
  unfolding one_ends
  ends_stops k m e = rw e

  module _ (more : Bool) (next : List ℕ) (e : more_there 0x7d l ≡ got more next) where
    pub ends_there : more ≡ false → one_ends key l ≡ got 0 next
    unfolding one_ends
    ends_there t = rw (e, t)

    module _ (b : List ℕ) (t : more ≡ true) (f : blanks next ≡ b) where
      pub ends_key_stops : (k : ℕ) (m : List ℕ) → key_string b ≡ stop k m → one_ends key l ≡ stop k m
      unfolding one_ends
      ends_key_stops k m g = rw (e, t, f, g)

      pub ends_again : (k past : List ℕ) → key_string b ≡ got k past → same key k ≡ true → one_ends key l ≡ stop given_twice b
      unfolding one_ends
      ends_again k past g s = rw (e, t, f, g, s)

      pub ends_other : (k past : List ℕ) → key_string b ≡ got k past → same key k ≡ false → one_ends key l ≡ stop not_of_form b
      unfolding one_ends
      ends_other k past g s = rw (e, t, f, g, s)
