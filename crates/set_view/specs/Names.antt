-- What the numbers in a rule set's bytes name, as total functions: they say nothing of whether a number is one that is known.
use Rattle.std.specs.Prelude.{ℕ, Bool, cond, ◌&&◌, eqb}
use Rattle.definitions.specs.declared.Operator.{Operator}
use Rattle.definitions.specs.declared.Operator.TheVariants.{Eq, Ge, Gt, Le, Lt, MaskedEq, Ne}
use Rattle.definitions.specs.declared.Width.{Width}
use Rattle.definitions.specs.declared.Width.TheVariants.{Dword, Qword}
use Rattle.definitions.specs.RuleSet.{Architecture, x86_64, aarch64, riscv64, has_second_table}
use Rattle.definitions.specs.Format.{native_of, unflagged}

unfoldable pub named_architecture : ℕ → Architecture
named_architecture n = cond (eqb (unflagged n) 1) x86_64 (cond (eqb (unflagged n) 2) aarch64 riscv64)

-- whether a head's first number asks for a guard
unfoldable pub guards_by : ℕ → Bool
guards_by n = native_of n && has_second_table (named_architecture n)

unfoldable pub named_width : ℕ → Width
named_width b = cond (eqb b 4) Dword Qword

unfoldable pub named_operator : ℕ → Operator
named_operator b =
    cond (eqb b 0) Eq (cond (eqb b 1) Ge (cond (eqb b 2) Gt (cond (eqb b 3) Le (cond (eqb b 4) Lt (cond (eqb b 5) MaskedEq Ne)))))
