-- The loop of the reader of all filters, one turn each, by the steps that the code takes. Assumes nothing.
use mathlib.Core.Path.{◌≡◌, refl}
use mathlib.Core.Bool.{Bool, true, false, cond, not}
use mathlib.Core.List.{List, [], ◌∷◌, ◌++◌}
use mathlib.Core.Option.{some}
use Prim.Native.Nat.{ℕ, zero, suc}
use lib.Dec.{eqb}
use lib.ListN.{drop, length}
use Rattle.definitions.specs.Format.{check}
use Rattle.definitions.specs.Json.{quote}
use Rattle.definitions.specs.JsonForm.{Filter, named}
use Rattle.definitions.specs.JsonReader.{Got, got, stop, not_json, follow, first, blanks, ended, string_at, placed, bad_character, unless, key_at, fields, object_at}
use Rattle.definitions.specs.FormReader.{Judges, given_twice, wrong, behind_key, put_in, object_there, filter_there, filters_there}
use Rattle.json_theorems.specs.Turns.{open_there, key_string, colon_there, more_there, Turned, turned, turned_there}
use Rattle.json_theorems.proofs.Turns.{turns_on}
use Rattle.json_texts.specs.Named.{new_name, filter_behind, filter_turn, filter_turns}

-- behind a filter, as the reader has it
further_is : (turns : List Filter → List ℕ → Got (List Filter)) (fs : List Filter) (rest : List ℕ)
    → cond (eqb (first (blanks rest)) 0x2c) (turns fs (drop 1 (blanks rest))) (ended 0x7d fs (blanks rest)) ≡ turns_on turns (turned_there 0x7d fs rest)
unfolding turned_there more_there
further_is turns fs rest = go (eqb (first (blanks rest)) 0x2c) (eqb (first (blanks rest)) 0x7d)
  where
    go : (a b : Bool)
        → cond a (turns fs (drop 1 (blanks rest))) (cond b (got fs (drop 1 (blanks rest))) (stop not_json (blanks rest)))
        ≡ turns_on turns (follow (cond a (got true (drop 1 (blanks rest))) (cond b (got false (drop 1 (blanks rest))) (stop not_json (blanks rest)))) (λ more next. got (turned fs more) next))
    go true b = refl
    go false true = refl
    go false false = refl

pub filter_turns_lem : (j : Judges) (n : ℕ) (fs : List Filter) (l : List ℕ) → filter_turns j (suc n) fs l ≡ turns_on (filter_turns j n) (filter_turn j fs l)
unfolding fields key_at filter_turn new_name key_string filter_behind colon_there
filter_turns_lem j n fs l = quoted (eqb (first (blanks l)) quote) (placed bad_character (string_at (drop 1 (blanks l))))
  where
    turns : List Filter → List ℕ → Got (List Filter)
    turns = filter_turns j n

    further : List Filter → List ℕ → Got (List Filter)
    further us rest = cond (eqb (first (blanks rest)) 0x2c) (turns us (drop 1 (blanks rest))) (ended 0x7d us (blanks rest))

    colon : List ℕ → List ℕ → Got (List ℕ)
    colon k past = follow (ended 0x3a k (blanks past)) (λ key more. got key (blanks more))

    step : List ℕ → List ℕ → Got (List Filter)
    step k = behind_key (check (not (named k fs)) (some (put_in (λ f. fs ++ (f ∷ [])) (filter_there j k))))

    added : List ℕ → List ℕ → Got (Turned (List Filter))
    added k past =
        follow (follow (follow {A = ℕ} (ended 0x3a 0 (blanks past)) (λ z rest. got z (blanks rest))) (λ z behind. filter_there j k behind))
        (λ f rest. turned_there 0x7d (fs ++ (f ∷ [])) rest)

    read : (g : Got Filter)
        → follow (follow g (λ f rest. got (fs ++ (f ∷ [])) rest)) further ≡ turns_on turns (follow g (λ f rest. turned_there 0x7d (fs ++ (f ∷ [])) rest))
    read (got f rest) = further_is turns (fs ++ (f ∷ [])) rest
    read (stop k m) = refl

    behind : (k past : List ℕ) (b : Bool) → named k fs ≡ false
        → follow (follow (cond b (got k (drop 1 (blanks past))) (stop not_json (blanks past))) (λ key more. got key (blanks more))) (λ key rest. follow (step key rest) further)
        ≡ turns_on turns (follow (follow (follow {A = ℕ} (cond b (got 0 (drop 1 (blanks past))) (stop not_json (blanks past))) (λ z rest. got z (blanks rest))) (λ z rest. filter_there j k rest))
        (λ f rest. turned_there 0x7d (fs ++ (f ∷ [])) rest))
    behind k past true h = rw h (read (filter_there j k (blanks (drop 1 (blanks past)))))
    behind k past false h = refl

    new : (k past : List ℕ) (b : Bool) → named k fs ≡ b
        → follow (follow (unless (cond b given_twice 0) (blanks l) k past) colon) (λ key rest. follow (step key rest) further)
        ≡ turns_on turns (follow (cond b (stop given_twice (blanks l)) (got k past)) added)
    new k past true h = refl
    new k past false h = behind k past (eqb (first (blanks past)) 0x3a) h

    quoted : (q : Bool) (g : Got (List ℕ))
        → follow (cond q (follow g (λ k rest. follow (unless (cond (named k fs) given_twice 0) (blanks l) k rest) colon)) (stop not_json (blanks l))) (λ key rest. follow (step key rest) further)
        ≡ turns_on turns (follow (follow (cond q g (stop not_json (blanks l))) (λ k past. cond (named k fs) (stop given_twice (blanks l)) (got k past))) added)
    quoted true (got k rest) = new k rest (named k fs) refl
    quoted true (stop k m) = refl
    quoted false g = refl

-- where nothing is left, a turn stops as the reader does
pub nothing_turns : (j : Judges) (fs : List Filter) → filter_turn j fs [] ≡ stop not_json []
unfolding filter_turn new_name key_string blanks
nothing_turns j fs = refl

pub no_turns : (j : Judges) (fs : List Filter) (l : List ℕ) → filter_turns j zero fs l ≡ stop not_json l
unfolding fields
no_turns j fs l = refl

-- the object: empty, or its turns
pub filters_begin : (j : Judges) (l : List ℕ)
    → filters_there j l
    ≡ follow (open_there 0x7b l) (λ z rest. cond (eqb (first (blanks rest)) 0x7d) (got [] (drop 1 (blanks rest))) (filter_turns j (length rest) [] rest))
unfolding filters_there object_there object_at open_there
filters_begin j l = go (eqb (first l) 0x7b)
  where
    go : (b : Bool)
        → cond b (cond (eqb (first (blanks (drop 1 l))) 0x7d) (got [] (drop 1 (blanks (drop 1 l)))) (filter_turns j (length (drop 1 l)) [] (drop 1 l))) (stop (wrong l) l)
        ≡ follow {A = ℕ} (cond b (got 0 (drop 1 l)) (stop (wrong l) l))
        (λ z rest. cond (eqb (first (blanks rest)) 0x7d) (got [] (drop 1 (blanks rest))) (filter_turns j (length rest) [] rest))
    go true = refl
    go false = refl
