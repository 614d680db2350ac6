-- The table of call names that is lent: slots of 32 bytes, a name of 1 to 28 bytes, filled up with zeros to 28, and the call's number in 4,
-- lowest byte first. The names ascend strictly, compared byte by byte, so that no name is there twice.
use Rattle.std.specs.Prelude.{ℕ, zero, suc, ◌+◌, ◌-◌, ◌/◌, ◌^◌, ◌≡◌, Bool, true, false, cond, ◌&&◌, ◌||◌, List, [], ◌∷◌, ◌++◌, eqb, leb, ltb, length, replicate, take, drop}
use Rattle.std.proofs.Math.Option.{Option, none, some}
use Rattle.definitions.specs.Word.{bytes_of, number_at}
use Rattle.definitions.specs.Format.{joined}
use Rattle.definitions.specs.Json.{all}
use Rattle.definitions.specs.JsonForm.{same}

pub record Slot : Type 0 where
  pub name : List ℕ
  pub number : ℕ

unfoldable pub encode_slot : Slot → List ℕ
encode_slot s = s.name ++ (replicate (28 - length s.name) 0 ++ bytes_of 4 s.number)

-- the order of words in a dictionary, by bytes
unfoldable pub before : List ℕ → List ℕ → Bool
before a [] = false
before [] (b ∷ bs) = true
before (a ∷ xs) (b ∷ bs) = ltb a b || (eqb a b && before xs bs)

unfoldable pub in_order : List Slot → Bool
in_order [] = true
in_order (s ∷ []) = true
in_order (s ∷ (t ∷ ts)) = before s.name t.name && in_order (t ∷ ts)

abbrev pub slot_taken : Slot → Bool
slot_taken s = leb 1 (length s.name) && (leb (length s.name) 28 && (all (λ b. leb 1 b && leb b 255) s.name && ltb s.number (2 ^ 32)))

unfoldable pub slots_taken : List Slot → Bool
slots_taken [] = true
slots_taken (s ∷ ss) = slot_taken s && slots_taken ss

-- bytes that are a table
pub record TableOf (slots : List Slot) (bytes : List ℕ) : Type 0 where
  pub taken : slots_taken slots ≡ true
  pub ordered : in_order slots ≡ true
  pub spelled : joined encode_slot slots ≡ bytes

-- the number of a name
unfoldable pub number_for : List Slot → List ℕ → Option ℕ
number_for [] k = none
number_for (s ∷ ss) k = cond (same s.name k) (some s.number) (number_for ss k)

-- ---- the same by places: where bytes go wrong as a table, and what its slots are where they do not

abbrev pub is_zero : ℕ → Bool
is_zero b = eqb b 0

-- the bytes in front of the first zero
unfoldable pub until_zero : List ℕ → List ℕ
until_zero [] = []
until_zero (b ∷ bs) = let more : List ℕ = b ∷ until_zero bs in cond (is_zero b) [] more

-- the name of the slot at the front of bytes
unfoldable pub name_in : List ℕ → List ℕ
name_in l = until_zero (take 28 l)

unfoldable pub slot_in : List ℕ → Slot
slot_in l = record { name = name_in l; number = number_at 4 l 28 }

unfoldable pub slots_in : ℕ → List ℕ → List Slot
slots_in zero l = []
slots_in (suc n) l = slot_in l ∷ slots_in n (drop 32 l)

-- a name of at least one byte, and zeros behind it
unfoldable pub is_named : List ℕ → Bool
is_named l = leb 1 (length (name_in l)) && all is_zero (drop (length (name_in l)) (take 28 l))

-- how many bytes of n slots are in front of the first one that has no name, or one that is not behind the name before it (p for the first)
unfoldable pub bad_at : ℕ → List ℕ → List ℕ → ℕ
bad_at zero p l = 0
bad_at (suc n) p l = let more : ℕ = 32 + bad_at n (name_in l) (drop 32 l) in cond (is_named l && before p (name_in l)) more 0

abbrev pub slot_count : List ℕ → ℕ
slot_count table = length table / 32

-- where the first bad slot begins; the table's length where none does
abbrev pub first_bad : List ℕ → ℕ
first_bad table = bad_at (slot_count table) [] table
