-- How an operator is written down. Four facts of each are all that the code asks for; that they give what is emitted is proved in
-- proofs/Shapes.antt.
use Rattle.std.specs.Prelude.{ℕ, ◌+◌, Bool, true, false, List, [], ◌∷◌}
use Rattle.definitions.specs.declared.Operator.{Operator}
use Rattle.definitions.specs.declared.Operator.TheVariants.{Eq, Ge, Gt, Le, Lt, MaskedEq, Ne}
use Rattle.definitions.specs.declared.Instruction.{Instruction}
use Rattle.definitions.specs.Emitted.{if_equal, if_greater}

-- whether both words are masked first
unfoldable pub masked : Operator → Bool
masked Eq = false
masked Ge = false
masked Gt = false
masked Le = false
masked Lt = false
masked MaskedEq = true
masked Ne = false

-- whether the order of the high words can decide
unfoldable pub ordered : Operator → Bool
ordered Eq = false
ordered Ge = true
ordered Gt = true
ordered Le = true
ordered Lt = true
ordered MaskedEq = false
ordered Ne = false

-- whether the comparison fails where the jump on the low words is taken
unfoldable pub turned : Operator → Bool
turned Eq = false
turned Ge = false
turned Gt = false
turned Le = true
turned Lt = true
turned MaskedEq = false
turned Ne = true

-- the code of that jump
unfoldable pub jump_code : Operator → ℕ
jump_code Eq = 0x15
jump_code Ge = 0x35
jump_code Gt = 0x25
jump_code Le = 0x25
jump_code Lt = 0x35
jump_code MaskedEq = 0x15
jump_code Ne = 0x15

-- the high words compared: by their order, where it may decide, and whether they are equal
unfoldable pub high_code : Instruction → ℕ → Bool → ℕ → ℕ → List Instruction
high_code load v true t f = load ∷ if_greater v (t + 3) 0 ∷ if_equal v 0 (f + 2) ∷ []
high_code load v false t f = load ∷ if_equal v 0 (f + 2) ∷ []
