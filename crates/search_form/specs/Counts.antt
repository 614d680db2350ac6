-- What a search is measured by: the instructions that finding a number takes at most.
use Rattle.std.specs.Prelude.{ℕ, ◌+◌, max}

-- With at most 2 ^ k spans, a search takes so many instructions at most, those that load and the check of the architecture included:
-- 12 with 64 spans, 18 with 512. Up to 64 spans it is one more for each doubling, then two, since a half may be too far for a comparison.
-- A guard comes on top.
abbrev pub search_most : ℕ → ℕ
search_most k = k + max 6 k
