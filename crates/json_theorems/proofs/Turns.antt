-- The loops of the form's reader, one turn each, by the steps that the code takes.
use mathlib.Core.Path.{◌≡◌, refl, ◌∙◌}
use mathlib.Core.Bool.{Bool, true, false, cond}
use mathlib.Core.List.{List, [], ◌∷◌, ◌++◌}
use mathlib.Core.Option.{Option, none, some}
use Prim.Native.Nat.{ℕ, suc}
use lib.Dec.{eqb}
use lib.ListN.{drop, length}
use Rattle.definitions.specs.Json.{quote}
use Rattle.definitions.specs.JsonForm.{Key, field_of}
use Rattle.definitions.specs.JsonReader.{Got, got, stop, not_json, follow, first, blanks, ended, string_at, placed, bad_character, unless, key_at, fields, object_at, items, array_at}
use Rattle.definitions.specs.FormReader.{given_twice, wrong, or_stop, behind_key, put_in, Typed, typed, has_typed, field_judge, field_reader, object_there, array_there, list_there}
use Rattle.json_theorems.specs.Turns.{open_there, field_there, colon_there, more_there, Turned, turned, turned_there, field_turn}

-- what comes behind a value that was read: the turns that are left, or the end
abbrev pub onward : {P : Type 0} → ℕ → (P → List ℕ → Got P) → P → List ℕ → Got P
onward bracket turns p rest = follow (more_there bracket rest) (λ more next. cond more (turns p next) (got p next))

pub onward_is : {P : Type 0} (bracket : ℕ) (turns : P → List ℕ → Got P) (p : P) (rest : List ℕ)
    → cond (eqb (first (blanks rest)) 0x2c) (turns p (drop 1 (blanks rest))) (ended bracket p (blanks rest)) ≡ onward bracket turns p rest
unfolding more_there
onward_is bracket turns p rest = go (eqb (first (blanks rest)) 0x2c) (eqb (first (blanks rest)) bracket)
  where
    go : (a b : Bool)
        → cond a (turns p (drop 1 (blanks rest))) (cond b (got p (drop 1 (blanks rest))) (stop not_json (blanks rest)))
        ≡ follow (cond a (got true (drop 1 (blanks rest))) (cond b (got false (drop 1 (blanks rest))) (stop not_json (blanks rest))))
        (λ more next. cond more (turns p next) (got p next))
    go true b = refl
    go false true = refl
    go false false = refl

-- ---- an object by its keys

abbrev pub key_judge : {A : Type 0} → List Key → List (Typed A) → List ℕ → ℕ
key_judge keys ts k = field_judge ts (field_of keys k)

abbrev pub key_step : {A : Type 0} → List Key → (ℕ → List ℕ → Got A) → List (Typed A) → List ℕ → List ℕ → Got (List (Typed A))
key_step keys reads ts k = behind_key (field_reader reads ts (field_of keys k))

-- the turns of an object's reader, n of them at most
abbrev pub field_turns : {A : Type 0} → List Key → (ℕ → List ℕ → Got A) → ℕ → List (Typed A) → List ℕ → Got (List (Typed A))
field_turns keys reads n ts l = fields (key_judge keys) (key_step keys reads) n ts l

-- a field's value, behind its key
abbrev pub value_turn : {A : Type 0} → List Key → (ℕ → List ℕ → Got A) → ℕ → List (Typed A) → ℕ → List ℕ → Got (List (Typed A))
value_turn keys reads n ts f past =
    follow (colon_there past) (λ z behind. follow (reads f behind) (λ a rest. onward 0x7d (field_turns keys reads n) (typed f a ∷ ts) rest))

pub field_turn_lem : {A : Type 0} (keys : List Key) (reads : ℕ → List ℕ → Got A) (n : ℕ) (ts : List (Typed A)) (l : List ℕ)
    → field_turns keys reads (suc n) ts l
    ≡ follow (field_there keys (blanks l)) (λ f past. cond (has_typed f ts) (stop given_twice (blanks l)) (value_turn keys reads n ts f past))
unfolding fields key_at field_there colon_there
field_turn_lem {A = A} keys reads n ts l = quoted (eqb (first (blanks l)) quote) (placed bad_character (string_at (drop 1 (blanks l))))
  where
    -- behind a value, as the reader has it
    further : List (Typed A) → List ℕ → Got (List (Typed A))
    further us rest =
        let more : Got (List (Typed A)) = field_turns keys reads n us (drop 1 (blanks rest)) in
        cond (eqb (first (blanks rest)) 0x2c) more (ended 0x7d us (blanks rest))

    colon : List ℕ → List ℕ → Got (List ℕ)
    colon k past = follow (ended 0x3a k (blanks past)) (λ key more. got key (blanks more))

    read : (f : ℕ) (g : Got A)
        → follow (follow g (λ a rest. got (typed f a ∷ ts) rest)) further ≡ follow g (λ a rest. onward 0x7d (field_turns keys reads n) (typed f a ∷ ts) rest)
    read f (got a rest) = onward_is 0x7d (field_turns keys reads n) (typed f a ∷ ts) rest
    read f (stop k m) = refl

    step : (f : ℕ) (past k : List ℕ) (b : Bool) → field_of keys k ≡ some f → has_typed f ts ≡ false
        → follow (follow (cond b (got k (drop 1 (blanks past))) (stop not_json (blanks past))) (λ key more. got key (blanks more)))
        (λ key behind. follow (key_step keys reads ts key behind) further)
        ≡ follow (follow {A = ℕ} (cond b (got 0 (drop 1 (blanks past))) (stop not_json (blanks past))) (λ z rest. got z (blanks rest)))
        (λ z behind. follow (reads f behind) (λ a rest. onward 0x7d (field_turns keys reads n) (typed f a ∷ ts) rest))
    step f past k true e h = rw (e, h) (read f (reads f (blanks (drop 1 (blanks past)))))
    step f past k false e h = refl

    known : (k past : List ℕ) (o : Option ℕ) → field_of keys k ≡ o
        → follow (follow (unless (field_judge ts o) (blanks l) k past) colon) (λ key behind. follow (key_step keys reads ts key behind) further)
        ≡ follow (or_stop o (blanks l) past) (λ f rest. cond (has_typed f ts) (stop given_twice (blanks l)) (value_turn keys reads n ts f rest))
    known k past none e = refl
    known k past (some f) e = new (has_typed f ts) refl
      where
        new : (b : Bool) → has_typed f ts ≡ b
            → follow (follow (unless (cond b given_twice 0) (blanks l) k past) colon) (λ key behind. follow (key_step keys reads ts key behind) further)
            ≡ cond b (stop given_twice (blanks l)) (value_turn keys reads n ts f past)
        new true h = refl
        new false h = step f past k (eqb (first (blanks past)) 0x3a) e h

    quoted : (q : Bool) (g : Got (List ℕ))
        → follow (cond q (follow g (λ k rest. follow (unless (key_judge keys ts k) (blanks l) k rest) colon)) (stop not_json (blanks l)))
        (λ key behind. follow (key_step keys reads ts key behind) further)
        ≡ follow (cond q (follow g (λ k rest. or_stop (field_of keys k) (blanks l) rest)) (stop not_json (blanks l)))
        (λ f past. cond (has_typed f ts) (stop given_twice (blanks l)) (value_turn keys reads n ts f past))
    quoted true (got k rest) = known k rest (field_of keys k) refl
    quoted true (stop k m) = refl
    quoted false g = refl

-- the turns that are left behind one
abbrev pub turns_on : {P : Type 0} → (P → List ℕ → Got P) → Got (Turned P) → Got P
turns_on turns g = follow g (λ u next. cond u.more (turns u.gathered next) (got u.gathered next))

turned_onward : {P : Type 0} (bracket : ℕ) (turns : P → List ℕ → Got P) (p : P) (rest : List ℕ)
    → onward bracket turns p rest ≡ turns_on turns (turned_there bracket p rest)
unfolding turned_there
turned_onward bracket turns p rest = go (more_there bracket rest)
  where
    go : (g : Got Bool) → follow g (λ more next. cond more (turns p next) (got p next)) ≡ turns_on turns (follow g (λ more next. got (turned p more) next))
    go (got more next) = refl
    go (stop k l) = refl

pub field_turns_lem : {A : Type 0} (keys : List Key) (reads : ℕ → List ℕ → Got A) (n : ℕ) (ts : List (Typed A)) (l : List ℕ)
    → field_turns keys reads (suc n) ts l ≡ turns_on (field_turns keys reads n) (field_turn keys reads ts l)
unfolding field_turn
field_turns_lem {A = A} keys reads n ts l = field_turn_lem keys reads n ts l ∙ known (field_there keys (blanks l))
  where
    turns : List (Typed A) → List ℕ → Got (List (Typed A))
    turns = field_turns keys reads n

    one : ℕ → A → List ℕ → Got (Turned (List (Typed A)))
    one f a rest = turned_there 0x7d (typed f a ∷ ts) rest

    read : (f : ℕ) (g : Got A) → follow g (λ a rest. onward 0x7d turns (typed f a ∷ ts) rest) ≡ turns_on turns (follow g (one f))
    read f (got a rest) = turned_onward 0x7d turns (typed f a ∷ ts) rest
    read f (stop k m) = refl

    valued : (f : ℕ) (g : Got ℕ)
        → follow g (λ z behind. follow (reads f behind) (λ a rest. onward 0x7d turns (typed f a ∷ ts) rest)) ≡ turns_on turns (follow g (λ z behind. follow (reads f behind) (one f)))
    valued f (got z behind) = read f (reads f behind)
    valued f (stop k m) = refl

    new : (f : ℕ) (past : List ℕ) (b : Bool)
        → cond b (stop given_twice (blanks l)) (value_turn keys reads n ts f past)
        ≡ turns_on turns (cond b (stop given_twice (blanks l)) (follow (colon_there past) (λ z behind. follow (reads f behind) (one f))))
    new f past true = refl
    new f past false = valued f (colon_there past)

    known : (g : Got ℕ)
        → follow g (λ f past. cond (has_typed f ts) (stop given_twice (blanks l)) (value_turn keys reads n ts f past))
        ≡ turns_on turns (follow g (λ f past. cond (has_typed f ts) (stop given_twice (blanks l)) (follow (colon_there past) (λ z behind. follow (reads f behind) (one f)))))
    known (got f past) = new f past (has_typed f ts)
    known (stop k m) = refl

-- where nothing is left, a turn stops as the reader does
pub nothing_turns : {A : Type 0} (keys : List Key) (reads : ℕ → List ℕ → Got A) (ts : List (Typed A)) → field_turn keys reads ts [] ≡ stop not_json []
unfolding field_turn field_there blanks
nothing_turns keys reads ts = refl

-- an object: empty, or its turns
pub object_begins : {A : Type 0} (keys : List Key) (reads : ℕ → List ℕ → Got A) (l : List ℕ)
    → object_there (key_judge keys) (key_step keys reads) [] l
    ≡ follow (open_there 0x7b l) (λ z rest. cond (eqb (first (blanks rest)) 0x7d) (got [] (drop 1 (blanks rest))) (field_turns keys reads (length rest) [] rest))
unfolding object_there object_at open_there
object_begins keys reads l = go (eqb (first l) 0x7b)
  where
    go : (b : Bool)
        → cond b (cond (eqb (first (blanks (drop 1 l))) 0x7d) (got [] (drop 1 (blanks (drop 1 l)))) (field_turns keys reads (length (drop 1 l)) [] (drop 1 l))) (stop (wrong l) l)
        ≡ follow {A = ℕ} (cond b (got 0 (drop 1 l)) (stop (wrong l) l))
        (λ z rest. cond (eqb (first (blanks rest)) 0x7d) (got [] (drop 1 (blanks rest))) (field_turns keys reads (length rest) [] rest))
    go true = refl
    go false = refl

-- ---- a list

abbrev pub list_step : {A : Type 0} → (List ℕ → Got A) → List A → List ℕ → Got (List A)
list_step r xs = put_in (λ a. xs ++ (a ∷ [])) r

abbrev pub list_turns : {A : Type 0} → (List ℕ → Got A) → ℕ → List A → List ℕ → Got (List A)
list_turns r n xs l = items (list_step r) n xs l

pub list_turn : {A : Type 0} (r : List ℕ → Got A) (n : ℕ) (xs : List A) (l : List ℕ)
    → list_turns r (suc n) xs l ≡ follow (r (blanks l)) (λ a rest. onward 0x5d (list_turns r n) (xs ++ (a ∷ [])) rest)
unfolding items
list_turn {A = A} r n xs l = go (r (blanks l))
  where
    further : List A → List ℕ → Got (List A)
    further us rest =
        let more : Got (List A) = list_turns r n us (drop 1 (blanks rest)) in
        cond (eqb (first (blanks rest)) 0x2c) more (ended 0x5d us (blanks rest))

    go : (g : Got A) → follow (follow g (λ a rest. got (xs ++ (a ∷ [])) rest)) further ≡ follow g (λ a rest. onward 0x5d (list_turns r n) (xs ++ (a ∷ [])) rest)
    go (got a rest) = onward_is 0x5d (list_turns r n) (xs ++ (a ∷ [])) rest
    go (stop k m) = refl

pub list_begins : {A : Type 0} (r : List ℕ → Got A) (l : List ℕ)
    → list_there r l
    ≡ follow (open_there 0x5b l) (λ z rest. cond (eqb (first (blanks rest)) 0x5d) (got [] (drop 1 (blanks rest))) (list_turns r (length rest) [] rest))
unfolding list_there array_there array_at open_there
list_begins r l = go (eqb (first l) 0x5b)
  where
    go : (b : Bool)
        → cond b (cond (eqb (first (blanks (drop 1 l))) 0x5d) (got [] (drop 1 (blanks (drop 1 l)))) (list_turns r (length (drop 1 l)) [] (drop 1 l))) (stop (wrong l) l)
        ≡ follow {A = ℕ} (cond b (got 0 (drop 1 l)) (stop (wrong l) l))
        (λ z rest. cond (eqb (first (blanks rest)) 0x5d) (got [] (drop 1 (blanks rest))) (list_turns r (length rest) [] rest))
    go true = refl
    go false = refl
