-- What a caller has of a function that tells what a reader of a part gives.
use mathlib.Core.Path.{◌≡◌, refl, sym, ◌∙◌}
use mathlib.Core.List.{List}
use Prim.Native.Nat.{ℕ, ◌≤◌, ◌<◌}
use native.Mathlib.Omega.{arith}
use lib.ListN.{length}
use Rattle.definitions.specs.JsonReader.{Got, got, stop, follow}
use Rattle.json_scan.specs.Scan.{At, Either, Tells}
use Rattle.json_scan.specs.Telling.{code_of}
use Rattle.json_scan.specs.declared.Refusal.{Refusal}
use Rattle.json_scan.specs.declared.Refusal.TheVariants.{SameActions, NoConditions, NoArgument, TooWide, NotJson, NotOfForm, GivenTwice, NotNamed}

-- a part that was read
pub record Came {A : Type 0} (text : List ℕ) (from : ℕ) (Is : A → Type 0) (g : Got A) (at : ℕ) : Type 0 where
  pub part : A
  pub rest : List ℕ
  pub got_it : g ≡ got part rest
  pub on : from < at
  pub place : At text rest at
  pub value : Is part

pub came : {A : Type 0} {text : List ℕ} {from code at : ℕ} {Is : A → Type 0} {g : Got A} → Tells text from Is g code at → code ≡ 0 → Came text from Is g at
came {text = text} {from} {code} {at} {Is} {g} t e = go g t.tells
  where
    go : (h : Got _) → Either text from Is h code at → Came text from Is h at
    go (got a rest) s = record { part = a; rest = rest; got_it = refl; on = s.on; place = s.place; value = s.value }
    go (stop k rest) s = absurd (let h = s.some in let d = sym s.told ∙ e in omega arith)

-- a refusal has a number
pub refused : (w : Refusal) → code_of w ≡ 0 → ⊥
refused SameActions e = cc
refused NoConditions e = cc
refused NoArgument e = cc
refused TooWide e = cc
refused NotJson e = cc
refused NotOfForm e = cc
refused GivenTwice e = cc
refused NotNamed e = cc

-- a fault is handed on, whatever would have been read behind it
pub handed_on : {A B : Type 0} {text : List ℕ} {from from' code at : ℕ} {Is : A → Type 0} {Is' : B → Type 0} {g : Got A} (f : A → List ℕ → Got B)
    → Tells text from Is g code at → (code ≡ 0 → ⊥) → Tells text from' Is' (follow g f) code at
handed_on {text = text} {from} {from'} {code} {at} {Is} {Is'} {g} f t h = record { tells = go g t.tells }
  where
    go : (g' : Got _) → Either text from Is g' code at → Either text from' Is' (follow g' f) code at
    go (got a rest) s = absurd (h s.fine)
    go (stop k rest) s = s

-- what was read is made into something else
pub made_into : {A B : Type 0} {text : List ℕ} {from code at : ℕ} {Is : A → Type 0} {Is' : B → Type 0} {g : Got A} (add : A → B)
    → Tells text from Is g code at → ((a : A) → Is a → Is' (add a)) → Tells text from Is' (follow g (λ a rest. got (add a) rest)) code at
made_into {text = text} {from} {code} {at} {Is} {Is'} {g} add t h = record { tells = go g t.tells }
  where
    go : (g' : Got _) → Either text from Is g' code at → Either text from Is' (follow g' (λ a rest. got (add a) rest)) code at
    go (got a rest) s = record { fine = s.fine; on = s.on; place = s.place; value = h a s.value }
    go (stop k rest) s = s

-- the place that is told lies in the text
pub told_inside : {A : Type 0} {text : List ℕ} {from code at : ℕ} {Is : A → Type 0} {g : Got A} → Tells text from Is g code at → at ≤ length text
told_inside {text = text} {from} {code} {at} {Is} {g} t = go g t.tells
  where
    go : (h : Got _) → Either text from Is h code at → at ≤ length text
    go (got a rest) s = s.place.inside
    go (stop k rest) s = s.place.inside

-- what is told from a place on is told from one in front of it
pub told_earlier : {A : Type 0} {text : List ℕ} {from from' code at : ℕ} {Is : A → Type 0} {g : Got A} → from' ≤ from → Tells text from Is g code at → Tells text from' Is g code at
told_earlier {text = text} {from} {from'} {code} {at} {Is} {g} h t = record { tells = go g t.tells }
  where
    go : (g' : Got _) → Either text from Is g' code at → Either text from' Is g' code at
    go (got a rest) s = record { fine = s.fine; on = omega (arith, s.on); place = s.place; value = s.value }
    go (stop k rest) s = s
