-- Laws of the head: what is put is the head, by whether there is a guard and whether something is listed; and what the first number of a
-- set says of it.
use mathlib.Core.Path.{◌≡◌, refl}
use mathlib.Core.Bool.{Bool, true, false}
use mathlib.Core.List.{List, [], ◌∷◌, ◌++◌}
use Prim.Native.Nat.{ℕ, zero, suc, ◌≤◌}
use native.Mathlib.Omega.{arith}
use lib.ListN.{length}
use Rattle.definitions.specs.declared.Instruction.{Instruction}
use Rattle.definitions.specs.Machine.{instruction_bytes, filter_bytes}
use Rattle.definitions.specs.RuleSet.{Architecture, architecture_word, kill_process}
use Rattle.definitions.specs.Emitted.{load, if_equal, return, guard, number_code, head_code}
use Rattle.bpf.specs.Place.{place}
use Rattle.bpf.proofs.Buffer.{put_first, puts_append}

-- the test of the architecture
abbrev pub tested : Architecture → List Instruction
tested a = load 4 ∷ if_equal (architecture_word a) 1 0 ∷ return kill_process ∷ []

module _ (a : Architecture) (guards : Bool) (n : ℕ) where
  pub head_guarded : guards ≡ true → head_code a guards n ≡ tested a ++ (load 0 ∷ []) ++ guard
  unfolding head_code number_code
  head_guarded g = rw g

  pub head_none : guards ≡ false → n ≡ 0 → head_code a guards n ≡ tested a
  unfolding head_code number_code
  head_none g e = rw (g, e)

  pub head_some : guards ≡ false → (n ≡ 0 → ⊥) → head_code a guards n ≡ tested a ++ (load 0 ∷ [])
  head_some g h = go n h
    where
      go : (k : ℕ) → (k ≡ 0 → ⊥) → head_code a guards k ≡ tested a ++ (load 0 ∷ [])
      go zero h = absurd (h refl)
      go (suc k) h = unfold head_code number_code in rw g

pub head_least : (a : Architecture) (guards : Bool) (n : ℕ) → 3 ≤ length (head_code a guards n)
unfolding head_code
head_least a guards n = omega arith

-- the load of the number behind the test, and the guard behind that
pub put_load : (l : List ℕ) (a : Architecture) → 32 ≤ length l
    → place (place l 0 (filter_bytes (tested a))) 24 (instruction_bytes (load 0)) ≡ place l 0 (filter_bytes (tested a ++ (load 0 ∷ [])))
put_load l a h = rw (put_first (place l 0 (filter_bytes (tested a))) 24 (load 0)) (puts_append l 0 24 (tested a) (load 0 ∷ []) refl (omega arith))

pub put_guarded : (l : List ℕ) (a : Architecture) → 56 ≤ length l
    → place (place (place l 0 (filter_bytes (tested a))) 24 (instruction_bytes (load 0))) 32 (filter_bytes guard)
    ≡ place l 0 (filter_bytes (tested a ++ (load 0 ∷ []) ++ guard))
put_guarded l a h = rw (put_load l a (omega arith)) (puts_append l 0 32 (tested a ++ (load 0 ∷ [])) guard refl (omega arith))
