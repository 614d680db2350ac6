-- How a form of output has its rules: behind their two jumps, or as bodies alone.
use Rattle.std.specs.Prelude.{ℕ, Bool, true, false, List}
use Rattle.definitions.specs.declared.Instruction.{Instruction}
use Rattle.definitions.specs.RuleSet.{Rule}
use Rattle.definitions.specs.Emitted.{rule_body, rule_code, sequence}

-- with jumps or without, match action m
abbrev pub rule_with : Bool → ℕ → Rule → List Instruction
rule_with true = rule_code
rule_with false = rule_body

abbrev pub rules_with : Bool → ℕ → List Rule → List Instruction
rules_with jumps m rs = sequence (rule_with jumps m) rs
