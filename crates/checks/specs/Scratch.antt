-- The kernel's pass over the scratch words, one instruction at a time, and the masks by which the code keeps sets of words.
use Rattle.std.specs.Prelude.{ℕ, ◌+◌, ◌/◌, ◌%◌, ◌^◌, ◌<◌, ◌≡◌, Bool, true, ◌&&◌, List, eqb, ltb, get_or}
use Rattle.definitions.specs.Kernel.{Effect, plain, reads, writes, jumps, branches, leaves, Words, every_word, with_word, narrowed}

-- bit k of a mask stands for word k
abbrev pub words_of : ℕ → Words
words_of m k = eqb (m / 2 ^ k % 2) 1

-- of the masks for all places: what the jumps leave for each place from p on
abbrev pub ahead_of : List ℕ → ℕ → ℕ → Words
ahead_of ms p d = words_of (get_or ms (p + d) 0)

-- the same of the sixteen words that there are
abbrev pub Same : Words → Words → Type 0
Same v w = (k : ℕ) → k < 16 → v k ≡ w k

-- an effect on a word that there is
abbrev pub word_there : Effect → Bool
word_there plain = true
word_there (reads k) = ltb k 16
word_there (writes k) = ltb k 16
word_there (jumps d) = true
word_there (branches d e) = true
word_there leaves = true

-- a jump from place `at` to one of n places
abbrev pub jump_there : ℕ → ℕ → Effect → Bool
jump_there at n plain = true
jump_there at n (reads k) = true
jump_there at n (writes k) = true
jump_there at n (jumps d) = ltb (at + 1 + d) n
jump_there at n (branches d e) = ltb (at + 1 + d) n && ltb (at + 1 + e) n
jump_there at n leaves = true

-- whether an instruction reads only what is written here
abbrev pub readable_in : Effect → Words → Bool
readable_in plain here = true
readable_in (reads k) here = here k
readable_in (writes k) here = true
readable_in (jumps d) here = true
readable_in (branches d e) here = true
readable_in leaves here = true

-- what is written where the pass walks on
abbrev pub behind_of : Effect → Words → Words
behind_of plain here = here
behind_of (reads k) here = here
behind_of (writes k) here = with_word k here
behind_of (jumps d) here = every_word
behind_of (branches d e) here = every_word
behind_of leaves here = here

-- what is left for each place beyond
abbrev pub beyond_of : Effect → Words → (ℕ → Words) → ℕ → Words
beyond_of plain here beyond = beyond
beyond_of (reads k) here beyond = beyond
beyond_of (writes k) here beyond = beyond
beyond_of (jumps d) here beyond = narrowed here d beyond
beyond_of (branches d e) here beyond = narrowed here d (narrowed here e beyond)
beyond_of leaves here beyond = beyond
