-- Numbers as bytes, lowest byte first, and the two halves of a 64-bit number. Everything that the kernel hands a filter, and
-- everything that we read and write, is laid out so (seccomp(2), linux/filter.h, on machines that store the lowest byte first).
use Rattle.std.specs.Prelude.{ℕ, zero, suc, ◌+◌, ◌*◌, ◌/◌, ◌%◌, ◌^◌, ◌<◌, List, [], ◌∷◌, get_or, take, drop}

-- the low 32 bits of a number, and what is above them
abbrev pub low : ℕ → ℕ
low x = x % 2 ^ 32

abbrev pub high : ℕ → ℕ
high x = x / 2 ^ 32

-- the lowest n bytes of a number
unfoldable pub bytes_of : ℕ → ℕ → List ℕ
bytes_of zero x = []
bytes_of (suc n) x = (x % 256) ∷ bytes_of n (x / 256)

-- the number that bytes write
unfoldable pub number_of : List ℕ → ℕ
number_of [] = 0
number_of (b ∷ bs) = b + 256 * number_of bs

-- the number in the n bytes at a place of a byte string
unfoldable pub number_at : ℕ → List ℕ → ℕ → ℕ
number_at n bs at = number_of (take n (drop at bs))

-- every element is a byte
abbrev pub AreBytes : List ℕ → Type 0
AreBytes bs = (i : ℕ) → get_or bs i 0 < 256
