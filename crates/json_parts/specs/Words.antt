-- Strings kept as numbers: the first 16 bytes, filled up with zeros, as two numbers of eight bytes, lowest byte first, and how many bytes
-- there are. By them a word is compared at once. Needs no belief: `Words` in proofs says that they tell words apart.
use Rattle.std.specs.Prelude.{ℕ, ◌≡◌, Bool, true, cond, ◌&&◌, List, [], ◌∷◌, ◌++◌, eqb, leb, length, take, replicate, Option, Some, None}
use Rattle.definitions.specs.Word.{number_at, AreBytes}
use Rattle.definitions.specs.Json.{ascii, all}
use Rattle.definitions.specs.JsonForm.{Key}
use Rattle.json_parts.specs.declared.Word.{Word}

-- the first 16 bytes, filled up with zeros
abbrev pub filled : List ℕ → List ℕ
filled s = take 16 (s ++ replicate 16 0)

abbrev pub low_of : List ℕ → ℕ
low_of s = number_at 8 (filled s) 0

abbrev pub high_of : List ℕ → ℕ
high_of s = number_at 8 (filled s) 8

pub record Packs (s : List ℕ) (r : Word) : Type 0 where
  pub counted : r.count ≡ length s
  pub low : r.low ≡ low_of s
  pub high : r.high ≡ high_of s
  pub bytes : AreBytes (filled s)

-- the word that 16 bytes keep
pub record Keeps (kept : List ℕ) (count : ℕ) (r : Word) : Type 0 where
  pub counted : r.count ≡ count
  pub low : r.low ≡ number_at 8 kept 0
  pub high : r.high ≡ number_at 8 kept 8
  pub bytes : AreBytes kept

-- whether a string that is kept so is a word
abbrev pub is_word : List ℕ → Word → Bool
is_word w r = eqb r.count (length w) && (eqb r.low (low_of w) && eqb r.high (high_of w))

-- a word that can be told so: 16 bytes at most
unfoldable pub fits : List ℕ → Bool
fits w = leb (length w) 16 && all (λ b. leb b 255) (filled w)

unfoldable pub keys_fit : List Key → Bool
keys_fit [] = true
keys_fit (x ∷ xs) = fits (ascii x.word) && keys_fit xs

-- the field of a key that is kept so
abbrev pub field_in : List Key → Word → Option ℕ
field_in [] r = None
field_in (x ∷ xs) r = cond (is_word (ascii x.word) r) (Some x.field) (field_in xs r)
