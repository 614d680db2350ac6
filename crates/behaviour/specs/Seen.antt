-- What of a call a rule set looks at.
use Rattle.std.specs.Prelude.{ℕ, ◌≡◌, List}
use Rattle.definitions.specs.declared.Width.{Width}
use Rattle.definitions.specs.declared.Width.TheVariants.{Dword, Qword}
use Rattle.definitions.specs.declared.Condition.{Condition}
use Rattle.definitions.specs.Word.{low, high}
use Rattle.definitions.specs.Machine.{Call}
use Rattle.definitions.specs.RuleSet.{Rule, RuleSet, argument, rules_of}
use Rattle.definitions.specs.Format.{Each}

-- two numbers are the same to a condition: in the low half, and for a qword in the high half too
abbrev pub SameHalves : Width → ℕ → ℕ → Type 0
SameHalves Dword x y = low x ≡ low y
SameHalves Qword x y = (low x ≡ low y) × (high x ≡ high y)

-- two calls are the same to every condition of these rules
abbrev pub SameArguments : Call → Call → List Rule → Type 0
SameArguments c d rs = Each (λ (r : Rule). Each (λ (q : Condition). SameHalves q.width (argument q.index c) (argument q.index d)) r) rs

-- they are the same in all that a rule set looks at: the architecture word, the number, and what the conditions of that number look at
pub record SeenAlike (rs : RuleSet) (c d : Call) : Type 0 where
  pub architecture : d.architecture ≡ c.architecture
  pub number : d.number ≡ c.number
  pub arguments : SameArguments c d (rules_of c.number rs.entries)

-- the same call from another instruction
abbrev pub from : ℕ → Call → Call
from pointer c = record {
  number = c.number;
  architecture = c.architecture;
  pointer = pointer;
  argument0 = c.argument0;
  argument1 = c.argument1;
  argument2 = c.argument2;
  argument3 = c.argument3;
  argument4 = c.argument4;
  argument5 = c.argument5;
}
