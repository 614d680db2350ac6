-- Which calls are taken: the tests of the code, and what a call that is taken knows.
use mathlib.Core.Path.{◌≡◌, refl}
use mathlib.Core.Bool.{Bool, true, false, cond, not, ◌&&◌}
use Prim.Native.Nat.{ℕ, ◌+◌, ◌≤◌, ◌<◌}
use native.Mathlib.Omega.{arith}
use lib.Dec.{leb}
use borrow.Author.Tests.{leb-true}
use Rattle.definitions.specs.declared.Writer.{Writer}
use Rattle.definitions.specs.Writers.{state_fits, code_for}
use Rattle.theorems.proofs.Tests.{both_true}

-- what holds of a call that is taken
pub record Taken (g o : Bool) (more size : ℕ) (w : Writer) : Type 0 where
  pub good : g ≡ true
  pub ordered : o ≡ true
  pub room : w.end + more ≤ size
  pub small : w.end + more ≤ 1048576
  pub head : 16 ≤ w.end
  pub entry : w.entry + 8 ≤ w.end
  pub rule : w.rule + 4 ≤ w.end

refusal : {P : Type 0} (n : ℕ) → 0 < n → n ≡ 0 → P
refusal n h e = absurd (omega arith)

pub code_zero : {good ordered : Bool} {more size : ℕ} {w : Writer} → code_for good ordered more size w ≡ 0 → Taken good ordered more size w
unfolding code_for state_fits
code_zero {good} {ordered} {more} {size} {w} h = go good ordered (leb (w.end + more) size) (leb (w.end + more) 1048576) (state_fits w) refl refl refl refl refl h
  where
    go : (a b c d e : Bool) → good ≡ a → ordered ≡ b → leb (w.end + more) size ≡ c → leb (w.end + more) 1048576 ≡ d → state_fits w ≡ e
        → ◌≡◌ {A = ℕ} (cond (not a) 1 (cond (not b) 2 (cond (not c) 3 (cond (not d) 4 (cond e 0 5))))) 0 → Taken good ordered more size w
    go false b c d e p q r s t x = refusal 1 (omega arith) x
    go true false c d e p q r s t x = refusal 2 (omega arith) x
    go true true false d e p q r s t x = refusal 3 (omega arith) x
    go true true true false e p q r s t x = refusal 4 (omega arith) x
    go true true true true false p q r s t x = refusal 5 (omega arith) x
    go true true true true true p q r s t x =
        let head = both_true (leb 16 w.end) (leb (w.entry + 8) w.end && leb (w.rule + 4) w.end) t in
        let rest = both_true (leb (w.entry + 8) w.end) (leb (w.rule + 4) w.end) head.1 in
        record {
          good = p;
          ordered = q;
          room = leb-true (w.end + more) size r;
          small = leb-true (w.end + more) 1048576 s;
          head = leb-true 16 w.end head.0;
          entry = leb-true (w.entry + 8) w.end rest.0;
          rule = leb-true (w.rule + 4) w.end rest.1;
        }
