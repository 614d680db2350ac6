-- Code of parts that stand one behind the other: how long it is, and what it keeps of the code behind it.
use mathlib.Core.Path.{◌≡◌, refl}
use mathlib.Core.List.{List, [], ◌∷◌, ◌++◌, append_assoc}
use Prim.Native.Nat.{ℕ}
use lib.ListN.{length, length-append}
use Rattle.definitions.specs.declared.Instruction.{Instruction}
use Rattle.definitions.specs.Format.{Each}
use Rattle.definitions.specs.Emitted.{sequence}
use Rattle.theorems.specs.Length.{sum}

pub length_sequence : {A : Type 0} (f : A → List Instruction) (g : A → ℕ) → ((x : A) → length (f x) ≡ g x) → (xs : List A) → length (sequence f xs) ≡ sum g xs
length_sequence f g one [] = refl
length_sequence f g one (x ∷ xs) = rw (length-append, one x, length_sequence f g one xs)

pub sequence_keeps : {A : Type 0} {P : A → Type 0} (Q : List Instruction → Type 0) (f : A → List Instruction)
    → ((x : A) (rest : List Instruction) → P x → Q rest → Q (f x ++ rest))
    → (xs : List A) (rest : List Instruction) → Each P xs → Q rest → Q (sequence f xs ++ rest)
sequence_keeps Q f one [] rest g h = h
sequence_keeps Q f one (x ∷ xs) rest g h = rw append_assoc (one x (sequence f xs ++ rest) g.0 (sequence_keeps Q f one xs rest g.1 h))
