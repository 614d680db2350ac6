-- What a function of the code answers that reads a part of a text from a place on, told by the number of the fault, 0 for none, and a place: behind
-- the part, or of the fault. Needs no belief.
use Rattle.std.specs.Prelude.{ℕ, List, Result, Ok, Err, IfOk}
use Rattle.definitions.specs.JsonReader.{Got}
use Rattle.json_scan.specs.Scan.{Tells}
use Rattle.json_scan.specs.declared.Misread.{Misread}
use Rattle.json_scan.specs.declared.Read.{Read}
use Rattle.json_scan.specs.declared.Refusal.{Refusal}
use Rattle.json_scan.specs.declared.Refusal.TheVariants.{SameActions, NoConditions, NoArgument, TooWide, NotJson, NotOfForm, GivenTwice, NotNamed}

-- the number of a refusal
abbrev pub code_of : Refusal → ℕ
code_of SameActions = 3
code_of NoConditions = 4
code_of NoArgument = 5
code_of TooWide = 8
code_of NotJson = 10
code_of NotOfForm = 11
code_of GivenTwice = 12
code_of NotNamed = 13

abbrev pub code_in : {V : Type 0} → Result V Misread → ℕ
code_in (Ok r) = 0
code_in (Err e) = code_of e.why

abbrev pub place_in : {V : Type 0} → Result (Read V) Misread → ℕ
place_in (Ok r) = r.at
place_in (Err e) = e.at

-- the part was read, with a value that is what the definition's stands for; or its first fault is told
abbrev pub Reads : {A V : Type 0} → List ℕ → ℕ → (A → V → Type 0) → Got A → Result (Read V) Misread → Type 0
Reads text from Is g r = Tells text from (λ a. IfOk r (λ x. Is a x.value)) g (code_in r) (place_in r)
