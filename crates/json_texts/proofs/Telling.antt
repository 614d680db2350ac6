-- How what is told of one part goes on to what is told of the next. Assumes nothing.
use mathlib.Core.Path.{◌≡◌, refl, subst, sym, ◌∙◌}
use mathlib.Core.List.{List}
use Prim.Native.Nat.{ℕ, ◌<◌}
use native.Mathlib.Omega.{arith}
use lib.ListN.{drop}
use Rattle.definitions.specs.JsonReader.{Got, got, stop, follow}
use Rattle.json_scan.specs.Scan.{Either, Tells}
use Rattle.json_scan.proofs.Telling.{told_earlier}

-- a fault is the same whatever would have been said of the part
pub fault_of : {A : Type 0} {text : List ℕ} {from from' code at : ℕ} {Is Is' : A → Type 0} {g : Got A} → Tells text from Is g code at → (code ≡ 0 → ⊥) → Tells text from' Is' g code at
fault_of {text = text} {from} {from'} {code} {at} {Is} {Is'} {g} t h = record { tells = go g t.tells }
  where
    go : (g' : Got _) → Either text from Is g' code at → Either text from' Is' g' code at
    go (got a rest) s = absurd (h s.fine)
    go (stop k rest) s = s

-- something else is said of the part
pub mapped : {A : Type 0} {text : List ℕ} {from code at : ℕ} {Is Is' : A → Type 0} {g : Got A} → ((a : A) → Is a → Is' a) → Tells text from Is g code at → Tells text from Is' g code at
mapped {text = text} {from} {code} {at} {Is} {Is'} {g} h t = record { tells = go g t.tells }
  where
    go : (g' : Got _) → Either text from Is g' code at → Either text from Is' g' code at
    go (got a rest) s = record { fine = s.fine; on = s.on; place = s.place; value = h a s.value }
    go (stop k rest) s = s

-- what is known of a part that was read is said with it
pub knowing : {A : Type 0} {text : List ℕ} {from code at : ℕ} {Is Is' : A → Type 0} {g : Got A} → Tells text from Is g code at
    → ((a : A) (rest : List ℕ) → g ≡ got a rest → from < at → Is' a) → Tells text from (λ a. Is a × Is' a) g code at
knowing {text = text} {from} {code} {at} {Is} {Is'} {g} t h = record { tells = go g refl t.tells }
  where
    go : (x : Got _) → g ≡ x → Either text from Is x code at → Either text from (λ a. Is a × Is' a) x code at
    go (got a rest) e s = record { fine = s.fine; on = s.on; place = s.place; value = (s.value, h a rest e s.on) }
    go (stop k rest) e s = s

-- a part was read, and what comes behind it is told from there
pub followed : {A B : Type 0} {text : List ℕ} {from code at code' at' : ℕ} {Is : A → Type 0} {Is' : B → Type 0} {g : Got A} (f : A → List ℕ → Got B)
    → Tells text from Is g code at → code ≡ 0 → ((a : A) → Is a → Tells text at Is' (f a (drop at text)) code' at') → Tells text from Is' (follow g f) code' at'
followed {text = text} {from} {code} {at} {code'} {at'} {Is} {Is'} {g} f t e h = record { tells = go g t.tells }
  where
    go : (g' : Got _) → Either text from Is g' code at → Either text from Is' (follow g' f) code' at'
    go (got a rest) s =
        let o = s.on in
        (subst (λ (l : List ℕ). Tells text from Is' (f a l) code' at') s.place.behind (told_earlier {from = at} (omega arith) (h a s.value))).tells
    go (stop k rest) s = absurd (let p = s.some in let d = sym s.told ∙ e in omega arith)
