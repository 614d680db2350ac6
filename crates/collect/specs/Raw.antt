-- What a buffer holds when lines of a filter are collected, and what it then holds. Three parts of t bytes: what is being written, the
-- lines as entries in the order of the text, and room for their keys.
use Rattle.std.specs.Prelude.{◌≡◌, cond, List, [], ◌∷◌, ◌++◌, map, ℕ, ◌+◌, ◌-◌, ◌*◌, ◌%◌, ◌^◌, ◌≤◌, ◌<◌, eqb, length, take, drop}
use Rattle.definitions.specs.Word.{bytes_of, number_at}
use Rattle.definitions.specs.RuleSet.{Entry}
use Rattle.definitions.specs.Format.{joined, encode_entry, Each}
use Rattle.definitions.specs.Collected as how
use Rattle.bpf.specs.Place.{place}
use Rattle.sort.specs.Keys.{keys_in}
use Rattle.collect.specs.Groups.{grouped, groups}
use Rattle.collect.specs.declared.Last.{Last}

-- bytes that stand at a place
abbrev pub Stands : List ℕ → ℕ → List ℕ → Type 0
Stands s at bs = take (length bs) (drop at s) ≡ bs

-- the entry of one line has no rules or one
pub record OfLine (e : Entry) : Type 0 where
  pub number : e.number < 2 ^ 32
  pub single : length e.rules ≤ 1

-- n lines, and room for as many bytes as they have from a place on
pub record Raw (s : List ℕ) (t n at : ℕ) : Type 0 where
  pub entries : List Entry
  pub there : Stands s t (joined encode_entry entries)
  pub many : n ≡ length entries
  pub lines : Each OfLine entries
  pub long : 3 * t ≤ length s
  pub small : t ≤ 1048576
  pub room : at + length (joined encode_entry entries) ≤ t

-- entries collected to a place: what stands in front of their end, their end, and how many they are
pub record Collects (es : List Entry) (s₀ s : List ℕ) (at end count : ℕ) : Type 0 where
  pub bytes : take end s ≡ take at s₀ ++ joined encode_entry (how.collected (how.now).join es)
  pub ends : end ≡ at + length (joined encode_entry (how.collected (how.now).join es))
  pub counts : count ≡ length (how.collected (how.now).join es)
  pub inside : end ≤ at + length (joined encode_entry es)

-- ---- the keys of lines, and the lines of keys

-- the n keys in the third part
unfoldable pub keys_at : List ℕ → ℕ → ℕ → List ℕ
keys_at s t n = keys_in (take (8 * n) (drop (2 * t) s))

-- a key has the number of a line above its place, so that lines with one number keep their order
abbrev pub keys_of : ℕ → List Entry → List ℕ
keys_of p [] = []
keys_of p (e ∷ es) = (e.number * 4294967296 + p) ∷ keys_of (p + length (encode_entry e)) es

-- where the entry of one line ends
unfoldable pub past_entry : List ℕ → ℕ → ℕ
past_entry s at = cond (eqb (number_at 4 s (at + 4)) 0) (at + 8) (at + 12 + 24 * number_at 4 s (at + 8))

pub record Listed (es : List Entry) (s₀ s : List ℕ) (t n : ℕ) : Type 0 where
  pub keys : keys_at s t n ≡ keys_of t es
  pub kept : take (2 * t) s ≡ take (2 * t) s₀

-- what stands at the place of a key
pub record LineAt (s : List ℕ) (t k : ℕ) (e : Entry) : Type 0 where
  pub there : Stands s (k % 4294967296) (encode_entry e)
  pub above : t ≤ k % 4294967296
  pub inside : k % 4294967296 + length (encode_entry e) ≤ 2 * t
  pub line : OfLine e

-- ---- writing them, one behind the other

-- room for one more entry, behind the last one
pub record Reaches (s : List ℕ) (from end : ℕ) : Type 0 where
  pub near : from ≤ 4194304
  pub head : from + 12 ≤ length s
  pub size : from + 8 ≤ past_entry s from
  pub inside : past_entry s from ≤ length s
  pub room : end + (past_entry s from - from) ≤ from

-- an entry written as it stands
abbrev pub begun : List ℕ → ℕ → ℕ → List ℕ
begun s from end = place s end (take (past_entry s from - from) (drop from s))

-- its rules written behind those of the last entry, whose count is raised
abbrev pub extended : List ℕ → ℕ → ℕ → ℕ → List ℕ
extended s from entry end =
    place (place s (entry + 4) (bytes_of 4 (number_at 4 s (entry + 4) + number_at 4 s (from + 4)))) end
    (take (past_entry s from - (from + 8)) (drop (from + 8) s))

pub record Begun (s : List ℕ) (from : ℕ) (w : Last) (out : List ℕ) (r : Last) : Type 0 where
  pub bytes : out ≡ begun s from w.end
  pub last : r ≡ record { entry = w.end; end = w.end + (past_entry s from - from); count = w.count + 1 }

pub record Extended (s : List ℕ) (from : ℕ) (w : Last) (out : List ℕ) (r : Last) : Type 0 where
  pub bytes : out ≡ extended s from w.entry w.end
  pub last : r ≡ record { entry = w.entry; end = w.end + (past_entry s from - (from + 8)); count = w.count }

pub record Added (s : List ℕ) (from : ℕ) (w : Last) (out : List ℕ) (r : Last) : Type 0 where
  pub alike : number_at 4 s from ≡ number_at 4 s w.entry → Extended s from w out r
  pub apart : (number_at 4 s from ≡ number_at 4 s w.entry → ⊥) → Begun s from w out r

-- keys in order, each with its line
pub record Keyed (s : List ℕ) (t n at : ℕ) : Type 0 where
  pub line : ℕ → Entry
  pub lines : Each (λ k. LineAt s t k (line k)) (keys_at s t n)
  pub first : 1 ≤ n
  pub few : 8 * n ≤ t
  pub long : 3 * t ≤ length s
  pub small : t ≤ 1048576
  pub room : at + length (joined encode_entry (map line (keys_at s t n))) ≤ t

-- lines written up to the i-th: what stands in front of the last entry, with what the last entry and the lines that are left come to, is the whole
pub record Writing (line : ℕ → Entry) (s₀ s : List ℕ) (t n at : ℕ) (w : Last) (i : ℕ) : Type 0 where
  pub last : Entry
  pub there : Stands s w.entry (encode_entry last)
  pub number : last.number < 2 ^ 32
  pub ends : w.end ≡ w.entry + length (encode_entry last)
  pub bytes : take w.entry s ++ joined encode_entry (grouped (how.now).join last (map line (drop i (keys_at s₀ t n))))
      ≡ take at s₀ ++ joined encode_entry (groups (how.now).join (map line (keys_at s₀ t n)))
  pub counts : w.count + length (grouped (how.now).join last (map line (drop i (keys_at s₀ t n)))) ≡ 1 + length (groups (how.now).join (map line (keys_at s₀ t n)))
  pub few : w.count ≤ i
  pub room : w.end + length (joined encode_entry (map line (drop i (keys_at s₀ t n)))) ≤ t
  pub kept : drop t s ≡ drop t s₀
  pub long : length s ≡ length s₀

-- the first line written
pub record FirstWritten (s : List ℕ) (t n : ℕ) (w : Last) : Type 0 where
  pub before : List ℕ
  pub at : ℕ
  pub keyed : Keyed before t n at
  pub writing : Writing keyed.line before s t n at w 1

pub record Grouped (es : List Entry) (s₀ s : List ℕ) (at end count : ℕ) : Type 0 where
  pub bytes : take end s ≡ take at s₀ ++ joined encode_entry (groups (how.now).join es)
  pub ends : end ≡ at + length (joined encode_entry (groups (how.now).join es))
  pub counts : count ≡ length (groups (how.now).join es)
