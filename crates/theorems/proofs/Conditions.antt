-- A condition's code goes on behind itself where the condition holds, and f instructions further where it does not.
use mathlib.Core.Path.{◌≡◌, refl}
use mathlib.Core.Bool.{Bool, true, false, cond, not, ◌&&◌, ◌||◌}
use mathlib.Core.List.{List, ◌++◌}
use Prim.Native.Nat.{ℕ, ◌≤◌}
use lib.Bits.{and_mod}
use Rattle.definitions.specs.declared.Instruction.{Instruction}
use Rattle.definitions.specs.declared.Operator.{Operator}
use Rattle.definitions.specs.declared.Operator.TheVariants.{Eq, Ge, Gt, Le, Lt, MaskedEq, Ne}
use Rattle.definitions.specs.declared.Width.{Width}
use Rattle.definitions.specs.declared.Width.TheVariants.{Dword, Qword}
use Rattle.definitions.specs.declared.Condition.{Condition}
use Rattle.definitions.specs.Word.{low}
use Rattle.definitions.specs.Machine.{Call, State, Result, run}
use Rattle.definitions.specs.RuleSet.{argument, cut, test, holds}
use Rattle.definitions.specs.Emitted.{high_tests, low_tests, high_part, low_part, condition_code}
use Rattle.theorems.proofs.Halves.{eqb_halves, leb_halves, ltb_halves, leb_not, ltb_not, masked_halves}
use Rattle.theorems.proofs.Steps.{run_low, run_high, run_mask, run_equal, run_greater, run_at_least, skip2, skip3, skip_two, skip_three}

-- from n instructions into p, in whatever state, call c gets result r
abbrev pub Goes : ℕ → List Instruction → Call → Result → Type 0
Goes n p c r = (s : State) → run n p s c ≡ r

module _ {A : Type 0} (x y : A) where
  pub cond_and : (a b : Bool) → cond (a && b) x y ≡ cond a (cond b x y) y
  cond_and true b = refl
  cond_and false b = refl

  pub cond_or : (a b : Bool) → cond (a || b) x y ≡ cond a x (cond b x y)
  cond_or true b = refl
  cond_or false b = refl

  pub cond_not : (a : Bool) → cond (not a) x y ≡ cond a y x
  cond_not true = refl
  cond_not false = refl

ruleset stepping = (run_low, run_high, run_mask, run_equal, run_greater, run_at_least, skip2, skip3, skip_two, skip_three, cond_and, cond_or, cond_not)

abbrev pub compared : Operator → Width → ℕ → ℕ → ℕ → Condition
compared o w i v m = record { index = i; width = w; operator = o; value = v; mask = m }

as_parts : (o : Operator) (w : Width) (i v m f : ℕ) (rest : List Instruction) (c : Call) {yes-result no_result : Result}
    → i ≤ 5 → Goes 0 rest c yes-result → Goes f rest c no_result
    → Goes 0 (condition_code (compared o w i v m) f ++ rest) c (cond (test o (cut w (argument i c)) (cut w v) (cut w m)) yes-result no_result)
unfolding condition_code high_part low_part high_tests low_tests test
as_parts Eq Dword i v m f rest c h y n s = simp (stepping, y, n)
as_parts Eq Qword i v m f rest c h y n s = simp (stepping, y, n, eqb_halves (argument i c) v)
as_parts Ge Dword i v m f rest c h y n s = simp (stepping, y, n)
as_parts Ge Qword i v m f rest c h y n s = simp (stepping, y, n, leb_halves (argument i c) v)
as_parts Gt Dword i v m f rest c h y n s = simp (stepping, y, n)
as_parts Gt Qword i v m f rest c h y n s = simp (stepping, y, n, ltb_halves (argument i c) v)
as_parts Le Dword i v m f rest c h y n s = simp (stepping, y, n, leb_not (low (argument i c)) (low v))
as_parts Le Qword i v m f rest c h y n s = simp (stepping, y, n, leb_not (argument i c) v, ltb_halves (argument i c) v)
as_parts Lt Dword i v m f rest c h y n s = simp (stepping, y, n, ltb_not (low (argument i c)) (low v))
as_parts Lt Qword i v m f rest c h y n s = simp (stepping, y, n, ltb_not (argument i c) v, leb_halves (argument i c) v)
as_parts MaskedEq Dword i v m f rest c h y n s = simp (stepping, y, n, and_mod v m 32)
as_parts MaskedEq Qword i v m f rest c h y n s = simp (stepping, y, n, masked_halves (argument i c) v m)
as_parts Ne Dword i v m f rest c h y n s = simp (stepping, y, n)
as_parts Ne Qword i v m f rest c h y n s = simp (stepping, y, n, eqb_halves (argument i c) v)

pub condition_right : (q : Condition) (f : ℕ) (rest : List Instruction) (c : Call) {yes-result no_result : Result}
    → q.index ≤ 5 → Goes 0 rest c yes-result → Goes f rest c no_result
    → Goes 0 (condition_code q f ++ rest) c (cond (holds c q) yes-result no_result)
unfolding holds
condition_right q f rest c h y n = as_parts q.operator q.width q.index q.value q.mask f rest c h y n
