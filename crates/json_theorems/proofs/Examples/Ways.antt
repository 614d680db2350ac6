-- A line without args beside one with args, both ways of collecting: as upstream does, it adds nothing; as it is written, the call always matches.
use Prim.Native.Nat.{ℕ}
use mathlib.Core.Path.{◌≡◌, refl}
use mathlib.Core.List.{List, [], ◌∷◌}
use Rattle.definitions.specs.declared.Operator.TheVariants.{Eq}
use Rattle.definitions.specs.declared.Width.TheVariants.{Dword}
use Rattle.definitions.specs.RuleSet.{Rule, Entry}
use Rattle.definitions.specs.Collected.{insert, collected, in_turn, together}

abbrev rule : ℕ → Rule
rule x = record { index = 0; width = Dword; operator = Eq; value = x; mask = 0 } ∷ []

abbrev entry : ℕ → List Rule → Entry
entry n rs = record { number = n; rules = rs }

plain_first : collected in_turn (entry 0 [] ∷ entry 0 (rule 1 ∷ []) ∷ []) ≡ entry 0 (rule 1 ∷ []) ∷ []
unfolding collected insert
plain_first = refl

plain_last : collected in_turn (entry 0 (rule 1 ∷ []) ∷ entry 0 [] ∷ []) ≡ entry 0 (rule 1 ∷ []) ∷ []
unfolding collected insert
plain_last = refl

twice_plain : collected in_turn (entry 3 [] ∷ entry 0 (rule 1 ∷ []) ∷ entry 3 [] ∷ entry 0 (rule 2 ∷ []) ∷ []) ≡ entry 0 (rule 1 ∷ rule 2 ∷ []) ∷ entry 3 [] ∷ []
unfolding collected insert
twice_plain = refl

mended : collected together (entry 0 (rule 1 ∷ []) ∷ entry 0 [] ∷ []) ≡ entry 0 [] ∷ []
unfolding collected insert
mended = refl
