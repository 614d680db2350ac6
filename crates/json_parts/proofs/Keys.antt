-- Keys: the field that a key gives, by the key's numbers. Assumes nothing.
use mathlib.Core.Path.{◌≡◌, refl, ◌∙◌}
use mathlib.Core.Bool.{Bool, true, false, cond}
use mathlib.Core.List.{List}
use mathlib.Core.Option.{Option, none, some}
use Prim.Native.Nat.{ℕ}
use lib.Dec.{eqb}
use lib.ListN.{drop}
use Rattle.definitions.specs.Json.{quote}
use Rattle.definitions.specs.JsonForm.{Key, field_of}
use Rattle.definitions.specs.JsonReader.{stop, not_json, follow, first, string_at, placed, bad_character}
use Rattle.definitions.specs.FormReader.{not_of_form, or_stop}
use Rattle.json_theorems.specs.Turns.{field_there}
use Rattle.std.specs.Prelude.{Some, None}
use Rattle.json_scan.specs.Scan.{Tells}
use Rattle.json_scan.proofs.Scanning.{option_none, option_some}
use Rattle.json_scan.proofs.Telling.{Came, came, handed_on}
use Rattle.json_parts.specs.declared.Word.{Word}
use Rattle.json_parts.specs.declared.Object.{Object}
use Rattle.json_parts.specs.Kinds.{keys_of}
use Rattle.json_parts.specs.Words.{Packs, field_in}
use Rattle.json_theorems.specs.Turns.{key_string}
use Rattle.json_parts.proofs.Places.{tells_got}
use Rattle.json_parts.proofs.Words.{field_in_lem, kinds_fit}

-- ---- a key's field

field_is : (keys : List Key) (l : List ℕ) → field_there keys l ≡ follow (key_string l) (λ k rest. or_stop (field_of keys k) l rest)
unfolding field_there key_string
field_is keys l = go (eqb (first l) quote)
  where
    go : (t : Bool)
        → cond t (follow (placed bad_character (string_at (drop 1 l))) (λ k rest. or_stop (field_of keys k) l rest)) (stop not_json l)
        ≡ follow (cond t (placed bad_character (string_at (drop 1 l))) (stop not_json l)) (λ k rest. or_stop (field_of keys k) l rest)
    go true = refl
    go false = refl

module _ (text : List ℕ) (at : ℕ) (object : Object) where
  pub no_key_there : {Is : List ℕ → Type 0} {Is' : ℕ → Type 0} {code place : ℕ} → Tells text at Is (key_string (drop at text)) code place → (code ≡ 0 → ⊥)
      → Tells text at Is' (field_there (keys_of object) (drop at text)) code place
  no_key_there t h = rw (field_is (keys_of object) (drop at text)) (handed_on (λ k rest. or_stop (field_of (keys_of object) k) (drop at text) rest) t h)

  module _ (w : Word) (place : ℕ) (t : Tells text at (λ s. Packs s w) (key_string (drop at text)) 0 place) where
    read : Came text at (λ s. Packs s w) (key_string (drop at text)) place
    read = came t refl

    gives : (o : Option ℕ) → field_of (keys_of object) read.part ≡ o → field_there (keys_of object) (drop at text) ≡ or_stop o (drop at text) read.rest
    gives o e = field_is (keys_of object) (drop at text) ∙ rw (read.got_it, e)

    pub unknown_key : None ≡ field_in (keys_of object) w → field_there (keys_of object) (drop at text) ≡ stop not_of_form (drop at text)
    unknown_key e = gives none (option_none (e ∙ field_in_lem (keys_of object) read.part w (kinds_fit object) read.value))

    pub known_key : (f : ℕ) → Some f ≡ field_in (keys_of object) w → Tells text at (λ x. f ≡ x) (field_there (keys_of object) (drop at text)) 0 place
    known_key f e = tells_got (gives (some f) (option_some (e ∙ field_in_lem (keys_of object) read.part w (kinds_fit object) read.value))) refl read.on read.place refl
