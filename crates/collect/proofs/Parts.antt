-- The part of the buffer that holds the keys, lent and come back; and bytes copied. Assumes nothing.
use mathlib.Core.Path.{◌≡◌, ap, sym, ◌∙◌}
use mathlib.Core.List.{List, ◌++◌}
use Prim.Native.Nat.{ℕ, ◌+◌, ◌-◌, ◌*◌, ◌≤◌}
use native.Mathlib.Omega.{arith}
use lib.ListN.{length, take, drop, length-take, length-drop}
use lib.Seq.{take_at, drop_at}
use Rattle.std.specs.List.{copy_within}
use Rattle.definitions.specs.Word.{bytes_of, number_at}
use Rattle.theorems.proofs.Words.{length_bytes}
use Rattle.bpf.specs.Place.{place}
use Rattle.bpf.proofs.Buffer.{drop_place}
use Rattle.sort.specs.Keys.{keys_in}
use Rattle.sort.proofs.Keys.{length_keys}
use Rattle.collect.specs.Raw.{keys_at, past_entry, extended}

module _ (s : List ℕ) (t n : ℕ) (room : 2 * t + 8 * n ≤ length s) where
  -- what is lent, as many bytes as the code counts
  abbrev span : ℕ
  span = 2 * t + 8 * n - 2 * t

  pub part_keys : keys_in (take span (drop (2 * t) s)) ≡ keys_at s t n
  unfolding keys_at
  part_keys = let e : span ≡ 8 * n = omega arith in rw e

  part_long : length (take span (drop (2 * t) s)) ≡ 8 * n
  part_long = simp (length-take, length-drop) (omega arith)

  pub length_keys_at : length (keys_at s t n) ≡ n
  length_keys_at = ap length (sym part_keys) ∙ length_keys (take span (drop (2 * t) s)) ∙ (let l = part_long in omega arith)

  module _ (ys : List ℕ) (long : length ys ≡ length (take span (drop (2 * t) s))) where
    front : length (take (2 * t) s) ≡ 2 * t
    front = simp length-take (omega arith)

    pub back_keys : keys_at (take (2 * t) s ++ (ys ++ drop span (drop (2 * t) s))) t n ≡ keys_in ys
    unfolding keys_at
    back_keys =
        rw (drop_at (take (2 * t) s) (ys ++ drop span (drop (2 * t) s)) (2 * t) front, take_at ys (drop span (drop (2 * t) s)) (8 * n) (long ∙ part_long))

    pub back_front : take (2 * t) (take (2 * t) s ++ (ys ++ drop span (drop (2 * t) s))) ≡ take (2 * t) s
    back_front = take_at (take (2 * t) s) (ys ++ drop span (drop (2 * t) s)) (2 * t) front

-- ---- copying

pub copied : (s : List ℕ) (from past to : ℕ) → past ≤ length s → copy_within s from past to ≡ place s to (take (past - from) (drop from s))
unfolding place
copied s from past to h =
    let many : length (take (past - from) (drop from s)) ≡ past - from = simp (length-take, length-drop) (omega arith) in
    rw many

-- a count raised in front of bytes leaves them as they were
pub extend_done : (s mid out : List ℕ) (from entry end past a b : ℕ) → entry ≤ from → from + 8 ≤ length s → past ≡ past_entry s from
    → a ≡ number_at 4 s (entry + 4) → b ≡ number_at 4 s (from + 4) → mid ≡ place s (entry + 4) (bytes_of 4 (a + b))
    → out ≡ place mid end (take (past - (from + 8)) (drop (from + 8) mid)) → out ≡ extended s from entry end
extend_done s mid out from entry end past a b h k ep ea eb em eo =
    let same : drop (from + 8) mid ≡ drop (from + 8) s =
    ap (λ (l : List ℕ). drop (from + 8) l) em ∙ drop_place s (entry + 4) (from + 8) (bytes_of 4 (a + b)) (rw length_bytes (omega arith)) k in
    eo ∙ rw (same, em, ep, ea, eb)
