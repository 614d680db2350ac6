-- The loop that lists the keys: those listed, with those of the lines that are left, are the keys of all lines. Assumes nothing.
use mathlib.Core.Path.{◌≡◌, refl, ap, sym, ◌∙◌}
use mathlib.Core.List.{List, [], ◌∷◌, ◌++◌, append_assoc, append-nil}
use Prim.Native.Nat.{ℕ, ◌+◌, ◌*◌, ◌≤◌, ◌<◌}
use native.Mathlib.Omega.{arith}
use native.Mathlib.Numerals.{add-one}
use lib.ListN.{length, take, set, length-append}
use lib.Seq.{take-suc-set, take_all}
use Rattle.definitions.specs.Word.{number_at}
use Rattle.definitions.specs.RuleSet.{Entry}
use Rattle.definitions.specs.Format.{joined, encode_entry, Each}
use Rattle.theorems.proofs.Named.{eight}
use Rattle.collect.specs.Raw.{Stands, OfLine, Raw, Listed, keys_at, keys_of, past_entry}
use Rattle.collect.proofs.Lines.{stands_front, stands_behind, stands_before, entry_number, entry_past_lem}
use Rattle.collect.proofs.Parts.{length_keys_at}

pub record Listing (es : List Entry) (s₀ s : List ℕ) (t n p i : ℕ) : Type 0 where
  pub left : List Entry
  pub there : Stands s₀ p (joined encode_entry left)
  pub keys : take i (keys_at s t n) ++ keys_of p left ≡ keys_of t es
  pub many : i + length left ≡ n
  pub lines : Each OfLine left
  pub inside : p + length (joined encode_entry left) ≤ 2 * t
  pub kept : take (2 * t) s ≡ take (2 * t) s₀
  pub long : length s ≡ length s₀

-- what the numbers of raw entries allow
pub record Sizes (s : List ℕ) (t n : ℕ) : Type 0 where
  pub few : 8 * n ≤ t
  pub long : 3 * t ≤ length s
  pub small : t ≤ 1048576

pub raw_sizes : {s : List ℕ} {t n at : ℕ} → Raw s t n at → Sizes s t n
raw_sizes h = record { few = let e = eight h.entries in omega (arith, h.many, h.room); long = h.long; small = h.small }

pub listing_start : {s : List ℕ} {t n : ℕ} (h : Raw s t n 0) → Listing h.entries s s t n t 0
listing_start {s} {t} {n} h = record {
  left = h.entries;
  there = h.there;
  keys = refl;
  many = omega (arith, h.many);
  lines = h.lines;
  inside = omega (arith, h.room);
  kept = refl;
  long = refl;
}

module _ {es : List Entry} {s₀ s : List ℕ} {t n p i : ℕ} (sizes : Sizes s₀ t n) (l : Listing es s₀ s t n p i) (more : i < n) where
  pub listing_room : p + 8 ≤ 2 * t
  listing_room = let e = eight l.left in omega (arith, l.many, l.inside)

  pub listing_turn : (out : List ℕ) (v : ℕ) → v ≡ number_at 4 s p → keys_at out t n ≡ set (keys_at s t n) i (v * 4294967296 + p)
      → take (2 * t) out ≡ take (2 * t) s → length out ≡ length s → Listing es s₀ out t n (past_entry out p) (i + 1)
  listing_turn out v ev ek et el = go l.left l.there l.keys l.many l.lines l.inside
    where
      go : (left : List Entry) → Stands s₀ p (joined encode_entry left) → take i (keys_at s t n) ++ keys_of p left ≡ keys_of t es → i + length left ≡ n → Each OfLine left
          → p + length (joined encode_entry left) ≤ 2 * t → Listing es s₀ out t n (past_entry out p) (i + 1)
      go [] st k m ls ins = absurd (omega arith)
      go (e ∷ left) st k m ls ins =
          let length_both = length-append (encode_entry e) (joined encode_entry left) in
          let a = sizes.small in
          let b = sizes.long in
          let c = sizes.few in
          let d = l.long in
          let first : Stands s₀ p (encode_entry e) = stands_front s₀ (encode_entry e) (joined encode_entry left) p st in
          let now_there : Stands s p (encode_entry e) = stands_before s₀ s (encode_entry e) p (2 * t) l.kept (omega arith) first in
          let out_there : Stands out p (encode_entry e) = stands_before s out (encode_entry e) p (2 * t) et (omega arith) now_there in
          let number : v ≡ e.number = ev ∙ entry_number s p e now_there (omega arith) ls.0.number in
          let past : past_entry out p ≡ p + length (encode_entry e) = entry_past_lem out p e out_there (omega arith) ls.0.single in
          let there_keys : i < length (keys_at s t n) = (let q = length_keys_at s t n (omega arith) in omega arith) in
          let key : take (i + 1) (keys_at out t n) ≡ take i (keys_at s t n) ++ ((e.number * 4294967296 + p) ∷ []) =
          ap (λ (x : List ℕ). take (i + 1) x) ek ∙ rw (add-one, number) (take-suc-set (keys_at s t n) i (e.number * 4294967296 + p) there_keys) in
          rw past record {
            left = left;
            there = stands_behind s₀ (encode_entry e) (joined encode_entry left) p (length (encode_entry e)) refl st;
            keys = rw (key, append_assoc) k;
            many = omega arith;
            lines = ls.1;
            inside = omega arith;
            kept = et ∙ l.kept;
            long = el ∙ l.long;
          }

pub listing_end : {es : List Entry} {s₀ s : List ℕ} {t n p i : ℕ} → Sizes s₀ t n → Listing es s₀ s t n p i → n ≤ i → Listed es s₀ s t n
listing_end {es} {s₀} {s} {t} {n} {p} {i} sizes l h = go l.left l.keys l.many
  where
    go : (left : List Entry) → take i (keys_at s t n) ++ keys_of p left ≡ keys_of t es → i + length left ≡ n → Listed es s₀ s t n
    go (e ∷ left) k m = absurd (omega arith)
    go [] k m =
        let a = sizes.long in
        let b = sizes.few in
        let c = l.long in
        let q = length_keys_at s t n (omega arith) in
        record { keys = sym (take_all i (keys_at s t n) (omega arith)) ∙ sym (append-nil (take i (keys_at s t n))) ∙ k; kept = l.kept }
