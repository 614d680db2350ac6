-- The loop that writes the lines in the order of their keys: what stands in front of the last entry, with what the last entry and the lines
-- that are left come to, is the whole. How rules of one number are put together is known to `extended_is` and
-- its length alone. Assumes nothing.
use mathlib.Core.Path.{◌≡◌, refl, ap, sym, ◌∙◌}
use mathlib.Core.Bool.{Bool, true, false}
use mathlib.Core.List.{List, [], ◌∷◌, ◌++◌, map, append_assoc, append-nil}
use Prim.Native.Nat.{ℕ, zero, suc, ◌+◌, ◌-◌, ◌*◌, ◌%◌, ◌≤◌, ◌<◌}
use native.Mathlib.Omega.{arith}
use native.Mathlib.Numerals.{add-one}
use lib.Dec.{eqb}
use lib.ListN.{drop_of_length-le, length, take, drop, get_or, length-append, length-take}
use lib.Seq.{drop-cons, drop-drop, take-add}
use borrow.Author.Tests.{eqb-true, eqb-false}
use Rattle.definitions.specs.Word.{bytes_of, number_at}
use Rattle.definitions.specs.RuleSet.{Entry}
use Rattle.definitions.specs.Format.{joined, encode_rule, encode_entry, Each}
use Rattle.definitions.specs.Collected as how
use Rattle.theorems.proofs.Words.{length_bytes}
use Rattle.theorems.proofs.Forms.{length_entry}
use Rattle.bpf.specs.Place.{place}
use Rattle.bpf.proofs.Buffer.{length_place, place_next, place_before_lem, drop_place}
use Rattle.bpf.proofs.Parts.{take_place, place_there, there_placed}
use Rattle.collect.specs.declared.Last.{Last}
use Rattle.collect.specs.Groups.{both, grouped, groups}
use Rattle.collect.specs.Raw.{Stands, LineAt, keys_at, past_entry, Reaches, begun, extended, Begun, Extended, Added, Keyed, Writing, Grouped}
use Rattle.collect.proofs.Groups.{group_alike, group_apart, group_one}
use Rattle.collect.proofs.Lines.{joined_append, stands_front, stands_behind, stands_before, stands_after, entry_number, entry_count, entry_rules, entry_past_lem}
use Rattle.collect.proofs.Parts.{length_keys_at}

-- bytes that replace as many inside others that stand there
place_inside : (l a b c d : List ℕ) (at next : ℕ) → next ≡ at + length a → length d ≡ length b → next + (length b + length c) ≤ length l
    → Stands l at (a ++ (b ++ c)) → place l next d ≡ place l at (a ++ (d ++ c))
place_inside l a b c d at next e same room st =
    let behind : Stands l next (b ++ c) = rw (← e) at (stands_behind l a (b ++ c) at (length a) refl st) in
    let last : Stands l (next + length d) c = stands_behind l b c next (length d) (sym same) behind in
    let long = length-append d c in
    let front : Stands (place l next (d ++ c)) at a =
    stands_before l (place l next (d ++ c)) a at next (take_place l next next (d ++ c) (omega arith) (omega arith)) (omega arith) (stands_front l a (b ++ c) at st) in
    ap (λ (m : List ℕ). place m next d) (sym (place_there l (next + length d) c last))
    ∙ place_before_lem l next (next + length d) d c refl (omega arith)
    ∙ sym (place_there (place l next (d ++ c)) at a front)
    ∙ place_before_lem l at next a (d ++ c) e (omega arith)

module _ (s : List ℕ) (from entry end : ℕ) (last e : Entry) (there : Stands s entry (encode_entry last)) (here : Stands s from (encode_entry e))
    (small : length (encode_entry last) ≤ 4194304) (small' : length (encode_entry e) ≤ 4194304) (single : length e.rules ≤ 1)
    (ends : end ≡ entry + length (encode_entry last)) (room : end + length (encode_entry e) ≤ length s) where
  rules_copied : take (past_entry s from - (from + 8)) (drop (from + 8) s) ≡ joined encode_rule e.rules
  rules_copied =
      let l = length_entry e in
      let p = entry_past_lem s from e here small' single in
      let n : past_entry s from - (from + 8) ≡ length (joined encode_rule e.rules) = omega arith in
      rw n (entry_rules s from e here small')

  length_extended : length (encode_entry (both (how.now).join last e)) ≡ length (encode_entry last) + length (joined encode_rule e.rules)
  length_extended =
      length_entry (both (how.now).join last e)
      ∙ (let j = ap length (joined_append encode_rule last.rules e.rules) in
      let a = length-append (joined encode_rule last.rules) (joined encode_rule e.rules) in
      let l = length_entry last in
      omega arith)

  extended_is : extended s from entry end ≡ place s entry (encode_entry (both (how.now).join last e))
  unfolding encode_entry
  extended_is =
      let number : List ℕ = bytes_of 4 last.number in
      let count : List ℕ = bytes_of 4 (length last.rules) in
      let raised : List ℕ = bytes_of 4 (length (last.rules ++ e.rules)) in
      let rules : List ℕ = joined encode_rule last.rules in
      let added : List ℕ = joined encode_rule e.rules in
      let n4 = length_bytes 4 last.number in
      let c4 = length_bytes 4 (length last.rules) in
      let r4 = length_bytes 4 (length (last.rules ++ e.rules)) in
      let long = length_entry last in
      let more = length_entry e in
      let inner : length (raised ++ rules) ≡ 4 + length rules = length-append raised rules ∙ (omega arith) in
      let outer : length (number ++ (raised ++ rules)) ≡ 8 + length rules = length-append number (raised ++ rules) ∙ (omega arith) in
      let first : place s (entry + 4) raised ≡ place s entry (number ++ (raised ++ rules)) =
      place_inside s number count rules raised entry (entry + 4) (omega arith) (omega arith) (omega arith) there in
      let second : place (place s entry (number ++ (raised ++ rules))) end added ≡ place s entry ((number ++ (raised ++ rules)) ++ added) =
      place_next s entry end (number ++ (raised ++ rules)) added (omega arith) (omega arith) in
      rw (entry_count s entry last there small, entry_count s from e here small', ← length-append last.rules e.rules, rules_copied, first, second, joined_append encode_rule last.rules e.rules)
      (simp append_assoc)

-- ---- the loop

each_at : (P : ℕ → Type 0) (l : List ℕ) (i : ℕ) → Each P l → i < length l → P (get_or l i 0)
each_at P [] i e h = absurd (omega arith)
each_at P (x ∷ l) zero e h = e.0
each_at P (x ∷ l) (suc i) e h = each_at P l i e.1 (omega arith)

-- keys stay where what is behind the first part stays
pub keys_kept : (s s₀ : List ℕ) (t n : ℕ) → drop t s ≡ drop t s₀ → keys_at s t n ≡ keys_at s₀ t n
unfolding keys_at
keys_kept s s₀ t n e =
    let twice : 2 * t ≡ t + t = omega arith in
    let same : drop (2 * t) s ≡ drop (2 * t) s₀ = rw twice (sym (drop-drop t t s) ∙ ap (λ (l : List ℕ). drop t l) e ∙ drop-drop t t s₀) in
    rw same

module _ {s₀ : List ℕ} {t n at : ℕ} (h : Keyed s₀ t n at) where
  keys_many : length (keys_at s₀ t n) ≡ n
  keys_many = length_keys_at s₀ t n (omega (arith, h.few, h.long))

  -- the line of the i-th key, and those behind it
  abbrev line_of : ℕ → Entry
  line_of i = h.line (get_or (keys_at s₀ t n) i 0)

  abbrev lines_on : ℕ → List Entry
  lines_on i = map h.line (drop i (keys_at s₀ t n))

  module _ (i : ℕ) (more : i < n) where
    line_at : LineAt s₀ t (get_or (keys_at s₀ t n) i 0) (line_of i)
    line_at = each_at (λ k. LineAt s₀ t k (h.line k)) (keys_at s₀ t n) i h.lines (let m = keys_many in omega arith)

    lines_from : lines_on i ≡ line_of i ∷ lines_on (i + 1)
    lines_from = rw add-one (ap (λ (l : List ℕ). map h.line l) (drop-cons (keys_at s₀ t n) i 0 (let m = keys_many in omega arith)))

    bytes_from : length (joined encode_entry (lines_on i)) ≡ length (encode_entry (line_of i)) + length (joined encode_entry (lines_on (i + 1)))
    bytes_from = ap (λ (es : List Entry). length (joined encode_entry es)) lines_from ∙ length-append (encode_entry (line_of i)) (joined encode_entry (lines_on (i + 1)))

    -- what is known of it in a buffer that is the same behind the first part
    module _ (s : List ℕ) (kept : drop t s ≡ drop t s₀) (long : length s ≡ length s₀) (from : ℕ) (spot : from ≡ get_or (keys_at s₀ t n) i 0 % 4294967296) where
      line_there_lem : Stands s from (encode_entry (line_of i))
      line_there_lem = rw spot (stands_after s₀ s (encode_entry (line_of i)) (get_or (keys_at s₀ t n) i 0 % 4294967296) t kept line_at.above line_at.there)

      line_small : length (encode_entry (line_of i)) ≤ 4194304
      line_small = omega (arith, line_at.inside, h.small)

      line_past : past_entry s from ≡ from + length (encode_entry (line_of i))
      line_past = entry_past_lem s from (line_of i) line_there_lem line_small line_at.line.single

      pub line_reaches : (end : ℕ) → end + length (joined encode_entry (lines_on i)) ≤ t → Reaches s from end
      line_reaches end room =
          let p = line_past in
          let l = length_entry (line_of i) in
          let m = bytes_from in
          let a = line_at.above in
          let b = line_at.inside in
          let c = h.small in
          let d = h.long in
          let f = h.few in
          let g = h.first in
          record { near = omega arith; head = omega arith; size = omega arith; inside = omega arith; room = omega arith }

      -- it is written as it stands
      module _ (end : ℕ) (room : end + length (encode_entry (line_of i)) ≤ t) (out : List ℕ) (wrote : out ≡ begun s from end) where
        fits : end + length (encode_entry (line_of i)) ≤ length s
        fits = omega (arith, h.long, long)

        out_is : out ≡ place s end (encode_entry (line_of i))
        out_is =
            let p = line_past in
            let l : past_entry s from - from ≡ length (encode_entry (line_of i)) = omega arith in
            wrote ∙ rw (l, line_there_lem)

        begun_there : Stands out end (encode_entry (line_of i))
        begun_there = rw out_is (there_placed s end (encode_entry (line_of i)) (let f = fits in omega arith))

        begun_front : take end out ≡ take end s
        begun_front = rw out_is (take_place s end end (encode_entry (line_of i)) (omega arith) (let f = fits in omega arith))

        begun_kept : drop t out ≡ drop t s₀
        begun_kept = rw out_is (drop_place s end t (encode_entry (line_of i)) room (omega (arith, h.long, long))) ∙ kept

        begun_long : length out ≡ length s₀
        begun_long = rw out_is (length_place s end (encode_entry (line_of i)) fits) ∙ long

  pub writing_start : (first : ℕ) (out : List ℕ) (next : ℕ) → first ≡ get_or (keys_at s₀ t n) 0 0 % 4294967296 → out ≡ begun s₀ first at → next ≡ at + (past_entry s₀ first - first)
      → Writing h.line s₀ out t n at (record { entry = at; end = next; count = 1 }) 1
  writing_start first out next spot wrote ends =
      let more : 0 < n = omega (arith, h.first) in
      let sizes = bytes_from 0 more in
      let past = line_past 0 more s₀ refl refl first spot in
      let room : at + length (encode_entry (line_of 0)) ≤ t = omega (arith, h.room) in
      let all : map h.line (keys_at s₀ t n) ≡ line_of 0 ∷ lines_on 1 = lines_from 0 more in
      record {
        last = line_of 0;
        there = begun_there 0 more s₀ refl refl first spot at room out wrote;
        number = (line_at 0 more).line.number;
        ends = omega arith;
        bytes = rw (begun_front 0 more s₀ refl refl first spot at room out wrote, all);
        counts = rw all;
        few = omega arith;
        room = omega (arith, h.room);
        kept = begun_kept 0 more s₀ refl refl first spot at room out wrote;
        long = begun_long 0 more s₀ refl refl first spot at room out wrote;
      }

  module _ {s : List ℕ} {w : Last} {i : ℕ} (l : Writing h.line s₀ s t n at w i) where
    last_small : length (encode_entry l.last) ≤ 4194304
    last_small = omega (arith, l.ends, l.room, h.small)

    -- what is written up to the end of the last entry
    front_is : take w.end s ≡ take w.entry s ++ encode_entry l.last
    front_is = ap (λ (k : ℕ). take k s) l.ends ∙ take-add w.entry (length (encode_entry l.last)) s ∙ ap (λ (bs : List ℕ). take w.entry s ++ bs) l.there

    module _ (more : i < n) (from : ℕ) (spot : from ≡ get_or (keys_at s₀ t n) i 0 % 4294967296) where
      pub writing_reaches : Reaches s from w.end × (w.entry + 8 ≤ w.end) × (w.count ≤ 4194304)
      writing_reaches =
          let k = length_entry l.last in
          (line_reaches i more s l.kept l.long from spot w.end l.room, omega (arith, l.ends), omega (arith, l.few, h.few, h.small))

      here : Stands s from (encode_entry (line_of i))
      here = line_there_lem i more s l.kept l.long from spot

      small : length (encode_entry (line_of i)) ≤ 4194304
      small = line_small i more s l.kept l.long from spot

      past : past_entry s from ≡ from + length (encode_entry (line_of i))
      past = line_past i more s l.kept l.long from spot

      room_one : w.end + length (encode_entry (line_of i)) ≤ t
      room_one = let b = bytes_from i more in omega (arith, l.room)

      module _ (out : List ℕ) (r : Last) where
        apart_turn : (l.last.number ≡ (line_of i).number → ⊥) → Begun s from w out r → Writing h.line s₀ out t n at r (i + 1)
        apart_turn d b =
            let p = past in
            let q = bytes_from i more in
            let left : grouped (how.now).join l.last (lines_on i) ≡ l.last ∷ grouped (how.now).join (line_of i) (lines_on (i + 1)) =
            ap (λ (es : List Entry). grouped (how.now).join l.last es) (lines_from i more) ∙ group_apart (how.now).join l.last (line_of i) (lines_on (i + 1)) d in
            let bytes : take w.entry s ++ (encode_entry l.last ++ joined encode_entry (grouped (how.now).join (line_of i) (lines_on (i + 1))))
            ≡ take at s₀ ++ joined encode_entry (groups (how.now).join (map h.line (keys_at s₀ t n))) = rw left at l.bytes in
            let counts = rw left at l.counts in
            rw b.last record {
              last = line_of i;
              there = begun_there i more s l.kept l.long from spot w.end room_one out b.bytes;
              number = (line_at i more).line.number;
              ends = omega arith;
              bytes = rw (begun_front i more s l.kept l.long from spot w.end room_one out b.bytes, front_is, append_assoc) bytes;
              counts = omega arith;
              few = omega (arith, l.few);
              room = omega (arith, l.room);
              kept = begun_kept i more s l.kept l.long from spot w.end room_one out b.bytes;
              long = begun_long i more s l.kept l.long from spot w.end room_one out b.bytes;
            }

        alike_turn : l.last.number ≡ (line_of i).number → Extended s from w out r → Writing h.line s₀ out t n at r (i + 1)
        alike_turn same x =
            let p = past in
            let q = bytes_from i more in
            let e : Entry = both (how.now).join l.last (line_of i) in
            let fits : w.end + length (encode_entry (line_of i)) ≤ length s = (let f = room_one in omega (arith, h.long, l.long)) in
            let long : length (encode_entry e) ≡ length (encode_entry l.last) + length (joined encode_rule (line_of i).rules) =
            length_extended s from w.entry w.end l.last (line_of i) l.there here last_small small (line_at i more).line.single l.ends fits in
            let size = length_entry (line_of i) in
            let wrote : out ≡ place s w.entry (encode_entry e) =
            x.bytes ∙ extended_is s from w.entry w.end l.last (line_of i) l.there here last_small small (line_at i more).line.single l.ends fits in
            let left : grouped (how.now).join l.last (lines_on i) ≡ grouped (how.now).join e (lines_on (i + 1)) =
            ap (λ (es : List Entry). grouped (how.now).join l.last es) (lines_from i more) ∙ group_alike (how.now).join l.last (line_of i) (lines_on (i + 1)) same in
            let f1 : w.entry + length (encode_entry e) ≤ t = (let f = room_one in omega (arith, l.ends)) in
            let f2 : w.entry + length (encode_entry e) ≤ length s = omega (arith, h.long, l.long) in
            rw x.last record {
              last = e;
              there = rw wrote (there_placed s w.entry (encode_entry e) (omega arith));
              number = l.number;
              ends = omega (arith, l.ends);
              bytes = rw (wrote, take_place s w.entry w.entry (encode_entry e) (omega arith) (omega arith)) (rw left at l.bytes);
              counts = rw left at l.counts;
              few = omega (arith, l.few);
              room = omega (arith, l.room);
              kept = rw wrote (drop_place s w.entry t (encode_entry e) f1 (omega (arith, h.long, l.long))) ∙ l.kept;
              long = rw wrote (length_place s w.entry (encode_entry e) f2) ∙ l.long;
            }

        pub writing_turn : Added s from w out r → Writing h.line s₀ out t n at r (i + 1)
        writing_turn a = go (eqb l.last.number (line_of i).number) refl
          where
            first : number_at 4 s from ≡ (line_of i).number
            first = entry_number s from (line_of i) here small (line_at i more).line.number

            second : number_at 4 s w.entry ≡ l.last.number
            second = entry_number s w.entry l.last l.there last_small l.number

            go : (b : Bool) → eqb l.last.number (line_of i).number ≡ b → Writing h.line s₀ out t n at r (i + 1)
            go true e = let same = eqb-true l.last.number (line_of i).number e in alike_turn same (a.alike (first ∙ sym same ∙ sym second))
            go false e = let d = eqb-false l.last.number (line_of i).number e in apart_turn d (a.apart (λ q. d (sym second ∙ sym q ∙ first)))

    pub writing_end : n ≤ i → Grouped (map h.line (keys_at s₀ t n)) s₀ s at w.end w.count
    writing_end done =
        let none : drop i (keys_at s₀ t n) ≡ [] = drop_of_length-le (keys_at s₀ t n) {i = i} (let m = keys_many in omega arith) in
        let one : grouped (how.now).join l.last (lines_on i) ≡ l.last ∷ [] =
        ap (λ (ks : List ℕ). grouped (how.now).join l.last (map h.line ks)) none ∙ group_one (how.now).join l.last in
        let bytes : take w.entry s ++ (encode_entry l.last ++ []) ≡ take at s₀ ++ joined encode_entry (groups (how.now).join (map h.line (keys_at s₀ t n))) = rw one at l.bytes in
        let counts = rw one at l.counts in
        let whole : take w.end s ≡ take at s₀ ++ joined encode_entry (groups (how.now).join (map h.line (keys_at s₀ t n))) =
        front_is ∙ ap (λ (bs : List ℕ). take w.entry s ++ bs) (sym (append-nil (encode_entry l.last))) ∙ bytes in
        let long = length-append (take at s₀) (joined encode_entry (groups (how.now).join (map h.line (keys_at s₀ t n)))) in
        let total = ap length whole in
        let left : length (take w.end s) ≡ w.end = simp length-take (omega (arith, l.room, l.long, h.long)) in
        let right : length (take at s₀) ≡ at = simp length-take (omega (arith, h.room, h.long)) in
        record { bytes = whole; ends = omega arith; counts = omega arith }
