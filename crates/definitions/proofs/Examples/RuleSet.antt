-- Examples of RuleSet, by computation: each operator and width at values around the edges of a word.
use mathlib.Core.Path.{◌≡◌, refl}
use mathlib.Core.Bool.{Bool, true, false, not, ◌&&◌}
use mathlib.Core.List.{List, [], ◌∷◌}
use Prim.Native.Nat.{ℕ, ◌+◌, ◌-◌, ◌^◌}
use lib.Dec.{eqb}
use Rattle.definitions.specs.declared.Operator.{Operator}
use Rattle.definitions.specs.declared.Operator.TheVariants.{Eq, Ge, Gt, Le, Lt, MaskedEq, Ne}
use Rattle.definitions.specs.declared.Width.{Width}
use Rattle.definitions.specs.declared.Width.TheVariants.{Dword, Qword}
use Rattle.definitions.specs.declared.Condition.{Condition}
use Rattle.definitions.specs.Machine.{Call}
use Rattle.definitions.specs.RuleSet.{Architecture, Entry, x86_64, aarch64, riscv64, kill_process, architecture_word, Rule, RuleSet, one_of, is_action, test, holds, all_hold, any_holds, matches, listed, meaning, span_count, rules_of, guarded, has_second_table, in_second_table}
use Rattle.definitions.specs.Answer.{all}

abbrev pub compared : Operator → Width → ℕ → ℕ → ℕ → Condition
compared o w i v m = record { index = i; width = w; operator = o; value = v; mask = m }

abbrev pub allow : ℕ
allow = 0x7fff0000

abbrev pub errno : ℕ → ℕ
errno n = 0x00050000 + n

-- a call: architecture, number, first three arguments
abbrev pub call_on : ℕ → ℕ → ℕ → ℕ → ℕ → Call
call_on w n a b c = record {
  number = n;
  architecture = w;
  pointer = 0;
  argument0 = a;
  argument1 = b;
  argument2 = c;
  argument3 = 0;
  argument4 = 0;
  argument5 = 0;
}

-- on x86-64
abbrev pub call : ℕ → ℕ → ℕ → ℕ → Call
call = call_on 0xc000003e

-- ---- does an operator hold below, at and above a value

abbrev same : Bool → Bool → Bool
same true b = b
same false b = not b

record Row : Type 0 where
  operator : Operator
  below : Bool
  at : Bool
  above : Bool

abbrev row : Operator → Bool → Bool → Bool → Row
row o a b c = record { operator = o; below = a; at = b; above = c }

abbrev orders : List Row
orders =
    row Eq false true false ∷ row Ge false true true ∷ row Gt false false true
    ∷ row Le true true false ∷ row Lt true false false ∷ row Ne true false true ∷ []

abbrev row_holds : Width → ℕ → Row → Bool
row_holds w v r =
    same r.below (holds (call 0 (v - 1) 0 0) (compared r.operator w 0 v 0))
    && same r.at (holds (call 0 v 0 0) (compared r.operator w 0 v 0))
    && same r.above (holds (call 0 (v + 1) 0 0) (compared r.operator w 0 v 0))

orders_hold : (all (λ (v : ℕ). all (row_holds Qword v) orders) (1 ∷ (2 ^ 31) ∷ (2 ^ 32) ∷ (2 ^ 32 + 1) ∷ (2 ^ 63) ∷ (2 ^ 64 - 2) ∷ []) ≡ true)
    × (all (λ (v : ℕ). all (row_holds Dword v) orders) (1 ∷ (2 ^ 31) ∷ (2 ^ 32 - 2) ∷ []) ≡ true)
unfolding holds test
orders_hold = (refl, refl)

-- a dword looks at the low half of argument and value only
low_half : all (holds (call 0 (2 ^ 32 + 5) 0 0)) (compared Eq Dword 0 5 0 ∷ compared Eq Dword 0 (2 ^ 33 + 5) 0 ∷ compared Lt Dword 0 6 0 ∷ []) ≡ true
unfolding holds test
low_half = refl

-- masked eq looks at the masked bits of both
masked_bits : (all (holds (call 0 44 0 0)) (compared MaskedEq Qword 0 36 4 ∷ compared MaskedEq Dword 0 4 4 ∷ compared MaskedEq Qword 0 0 3 ∷ []) ≡ true)
    × (holds (call 0 44 0 0) (compared MaskedEq Qword 0 36 12) ≡ false)
unfolding holds test
masked_bits = (refl, refl)

-- the argument is the one at the index
indexed : (holds (call 0 1 2 3) (compared Eq Qword 2 3 0) ≡ true) × (holds (call 0 1 2 3) (compared Eq Qword 1 3 0) ≡ false)
unfolding holds test
indexed = (refl, refl)

-- ---- why theorem `grows` asks for a number that has rules: a rule added to one without takes matches away

abbrev one : List Rule → RuleSet
one rs = record { architecture = x86_64; native_only = false; mismatch = errno 1; on_match = allow; entries = record { number = 1; rules = rs } ∷ [] }

unruled_shrinks : (meaning (one []) (call 1 2 0 0) ≡ allow) × (meaning (one ((compared Eq Dword 0 1 0 ∷ []) ∷ [])) (call 1 2 0 0) ≡ errno 1)
unfolding meaning guarded has_second_table in_second_table listed matches any_holds all_hold holds test architecture_word
unruled_shrinks = (refl, refl)

-- ---- numbers of the second table: those with bit 30, but for the last

second_table_lem : (all in_second_table ((2 ^ 30) ∷ (2 ^ 30 + 1) ∷ (2 ^ 31 - 1) ∷ (2 ^ 31 + 2 ^ 30) ∷ (2 ^ 32 - 2) ∷ []) ≡ true)
    × (all (λ (n : ℕ). not (in_second_table n)) (0 ∷ (2 ^ 30 - 1) ∷ (2 ^ 31) ∷ (2 ^ 31 + 2 ^ 30 - 1) ∷ (2 ^ 32 - 1) ∷ []) ≡ true)
unfolding in_second_table
second_table_lem = (refl, refl)

-- a set that allows whatever it does not list, and lists a number of either table
abbrev serving : Architecture → Bool → RuleSet
serving a native = record {
  architecture = a;
  native_only = native;
  mismatch = allow;
  on_match = errno 1;
  entries = record { number = 1; rules = [] } ∷ record { number = 2 ^ 30 + 1; rules = [] } ∷ [];
}

-- number, and what is meant without the flag and with it
record Served : Type 0 where
  number : ℕ
  without : ℕ
  under : ℕ

abbrev served : ℕ → ℕ → ℕ → Served
served n a b = record { number = n; without = a; under = b }

-- a listed number of the second table is dead under the flag; a cancelled call, and bit 31, are as without
abbrev servings : List Served
servings =
    served 1 (errno 1) (errno 1) ∷ served 2 allow allow ∷ served (2 ^ 30) allow kill_process ∷ served (2 ^ 30 + 1) (errno 1) kill_process
    ∷ served (2 ^ 31) allow allow ∷ served (2 ^ 31 + 2 ^ 30) allow kill_process ∷ served (2 ^ 32 - 1) allow allow ∷ []

abbrev means : Architecture → ℕ → Served → Bool
means a w s = eqb (meaning (serving a false) (call_on w s.number 0 0 0)) s.without && eqb (meaning (serving a true) (call_on w s.number 0 0 0)) s.under

-- on the others it changes nothing
abbrev unmoved : Architecture → ℕ → Served → Bool
unmoved a w s = eqb (meaning (serving a true) (call_on w s.number 0 0 0)) s.without

native_only_lem : (all (means x86_64 0xc000003e) servings ≡ true) × (all (unmoved aarch64 0xc00000b7) servings ≡ true)
    × (all (unmoved riscv64 0xc00000f3) servings ≡ true)
unfolding meaning guarded has_second_table in_second_table listed matches architecture_word
native_only_lem = (refl, refl, refl)

-- ---- action words

actions : (all is_action (0x80000000 ∷ 0 ∷ 0x00030000 ∷ 0x00050000 ∷ 0x0005ffff ∷ 0x7ff00000 ∷ 0x7ff0ffff ∷ 0x7fc00000 ∷ 0x7ffc0000 ∷ 0x7fff0000 ∷ []) ≡ true)
    × (all (λ (w : ℕ). not (is_action w)) (1 ∷ 0x00030001 ∷ 0x00040000 ∷ 0x00060000 ∷ 0x7fc00001 ∷ 0x7fc0ffff ∷ 0x7ffc0001 ∷ 0x7fff0001 ∷ 0x80000001 ∷ []) ≡ true)
unfolding is_action one_of
actions = (refl, refl)

-- ---- how the listed numbers lie

abbrev lone : ℕ → Entry
lone n = record { number = n; rules = [] }

abbrev checked : ℕ → Entry
checked n = record { number = n; rules = (compared Eq Dword 0 1 0 ∷ []) ∷ [] }

-- 1 to 3, 5, 6 with its rule, 7, 8 to 9 with rules each
spans : (span_count (lone 1 ∷ lone 2 ∷ lone 3 ∷ lone 5 ∷ checked 6 ∷ lone 7 ∷ checked 8 ∷ checked 9 ∷ []) ≡ 6) × (span_count [] ≡ 0)
unfolding span_count
spans = (refl, refl)

rules_found : (rules_of 6 (lone 5 ∷ checked 6 ∷ []) ≡ (compared Eq Dword 0 1 0 ∷ []) ∷ []) × (rules_of 5 (lone 5 ∷ checked 6 ∷ []) ≡ [])
unfolding rules_of
rules_found = (refl, refl)
