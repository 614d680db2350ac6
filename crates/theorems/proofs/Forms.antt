-- The byte forms of a rule set's parts: how long they are, that a list of parts is no longer than its bytes, and what stands in the 24
-- bytes of a condition.
use mathlib.Core.Path.{◌≡◌, refl}
use mathlib.Core.List.{List, [], ◌∷◌, ◌++◌}
use Prim.Native.Nat.{ℕ, ◌+◌, ◌≤◌}
use native.Mathlib.Omega.{arith}
use lib.ListN.{length, length-append}
use Rattle.definitions.specs.declared.Condition.{Condition}
use Rattle.definitions.specs.Word.{bytes_of, number_of, number_at}
use Rattle.definitions.specs.RuleSet.{Rule, Entry}
use Rattle.definitions.specs.Format.{joined, encode_condition, encode_rule, encode_entry, ConditionInRange}
use Rattle.theorems.proofs.Words.{length_bytes, number_bytes}
use Rattle.theorems.proofs.Names.{mask_back}

pub length_condition : (q : Condition) → length (encode_condition q) ≡ 24
unfolding encode_condition bytes_of
length_condition q = refl

pub length_rule : (r : Rule) → length (encode_rule r) ≡ 4 + length (joined encode_condition r)
unfolding encode_rule
length_rule r = rw (length-append, length_bytes)

pub length_entry : (e : Entry) → length (encode_entry e) ≡ 8 + length (joined encode_rule e.rules)
unfolding encode_entry
length_entry e = simp (length-append, length_bytes) (omega arith)

pub short_count : {A : Type 0} (enc : A → List ℕ) → ((x : A) → 1 ≤ length (enc x)) → (xs : List A) → length xs ≤ length (joined enc xs)
short_count enc some_byte [] = omega arith
short_count enc some_byte (x ∷ xs) =
    let l = length-append (enc x) (joined enc xs) in
    omega (arith, some_byte x, short_count enc some_byte xs)

-- what stands in the 24 bytes of a condition
module _ (q : Condition) (g : ConditionInRange q) (t : List ℕ) where
  pub zeros_front : number_at 5 (encode_condition q ++ t) 3 ≡ 0
  unfolding encode_condition number_at number_of
  zeros_front = refl

  pub value_front : number_at 8 (encode_condition q ++ t) 8 ≡ q.value
  unfolding encode_condition bytes_of number_at
  value_front = number_bytes 8 q.value g.value

  pub mask_front : number_at 8 (encode_condition q ++ t) 16 ≡ q.mask
  unfolding encode_condition bytes_of number_at
  mask_front = number_bytes 8 q.mask (mask_back q.operator q.mask g.mask).1
