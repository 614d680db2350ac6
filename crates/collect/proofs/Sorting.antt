-- The keys of lines, put in order: each stands for its line, and what is written in their order is the lines, collected. Assumes nothing.
use mathlib.Core.Path.{◌≡◌, refl, ap, ap₂, sym, ◌∙◌}
use mathlib.Core.Bool.{Bool, true, false, cond}
use mathlib.Core.List.{List, [], ◌∷◌, ◌++◌, map, append_assoc, append-nil}
use Prim.Native.Nat.{ℕ, ◌+◌, ◌*◌, ◌/◌, ◌%◌, ◌≤◌, ◌<◌}
use native.Mathlib.Omega.{arith}
use lib.Dec.{eqb, leb}
use lib.ListN.{length, take, length-append}
use lib.Seq.{take-take}
use borrow.Author.Tests.{eq-eqb, ne_eqb}
use Rattle.definitions.specs.RuleSet.{Rule, Entry}
use Rattle.definitions.specs.Format.{joined, encode_rule, encode_entry, Each}
use Rattle.definitions.specs.Collected as how
use Rattle.theorems.proofs.Forms.{length_entry}
use Rattle.theorems.proofs.Tests.{each_both}
use Rattle.sort.specs.Sorted.{put, sorted}
use Rattle.collect.specs.Groups.{groups}
use Rattle.collect.specs.Raw.{Stands, OfLine, Raw, Collects, keys_at, keys_of, Listed, LineAt, Keyed, Grouped}
use Rattle.collect.proofs.Groups.{Before, InOrder, sorted_each, sorted_groups, shorter}
use Rattle.collect.proofs.Lines.{joined_append, stands_front, stands_behind, stands_before}
use Rattle.collect.proofs.Listing.{raw_sizes}

-- the line at a place, of lines one behind the other
line_at : ℕ → List Entry → ℕ → Entry
line_at p [] q = record { number = 0; rules = [] }
line_at p (e ∷ es) q = cond (eqb p q) e (line_at (p + length (encode_entry e)) es q)

abbrev line_of : ℕ → List Entry → ℕ → Entry
line_of p es k = line_at p es (k % 4294967296)

-- of each line with its key
abbrev Lines : (ℕ → Entry → Type 0) → ℕ → List Entry → Type 0
Lines Q p [] = Unit {0}
Lines Q p (e ∷ es) = Q (e.number * 4294967296 + p) e × Lines Q (p + length (encode_entry e)) es

each_to : {P : ℕ → Type 0} (Q : ℕ → Type 0) (l : List ℕ) → ((k : ℕ) → P k → Q k) → Each P l → Each Q l
each_to Q [] f h = tt
each_to Q (k ∷ l) f h = (f k h.0, each_to Q l f h.1)

line_first : (p : ℕ) (e : Entry) (es : List Entry) (q : ℕ) → p ≡ q → line_at p (e ∷ es) q ≡ e
unfolding line_at
line_first p e es q h = rw (eq-eqb p q h)

line_later : (p : ℕ) (e : Entry) (es : List Entry) (q : ℕ) → p + length (encode_entry e) ≤ q → line_at p (e ∷ es) q ≡ line_at (p + length (encode_entry e)) es q
unfolding line_at
line_later p e es q h = let l = length_entry e in rw (ne_eqb p q (λ x. omega arith))

map_each : {A : Type 0} (f g : ℕ → A) (l : List ℕ) → Each (λ k. f k ≡ g k) l → map f l ≡ map g l
map_each f g [] h = refl
map_each f g (k ∷ l) h = ap₂ (λ x xs. x ∷ xs) h.0 (map_each f g l h.1)

keys_above : (p : ℕ) (es : List Entry) → p + length (joined encode_entry es) < 4294967296 → Each (λ k. p ≤ k % 4294967296) (keys_of p es)
keys_above p [] h = tt
keys_above p (e ∷ es) h =
    let l = length-append (encode_entry e) (joined encode_entry es) in
    let m = length_entry e in
    (omega arith, each_to (λ k. p ≤ k % 4294967296) (keys_of (p + length (encode_entry e)) es) (λ k x. omega arith) (keys_above (p + length (encode_entry e)) es (omega arith)))

keys_in_order : (p : ℕ) (es : List Entry) → p + length (joined encode_entry es) < 4294967296 → InOrder (keys_of p es)
keys_in_order p [] h = tt
keys_in_order p (e ∷ es) h =
    let l = length-append (encode_entry e) (joined encode_entry es) in
    let m = length_entry e in
    let next : ℕ = p + length (encode_entry e) in
    (each_to (Before (e.number * 4294967296 + p)) (keys_of next es) (λ k x. omega arith) (keys_above next es (omega arith)), keys_in_order next es (omega arith))

-- what holds of each line with its key holds of each key with the line at its place
lines_each : (Q : ℕ → Entry → Type 0) (p : ℕ) (es : List Entry) → p + length (joined encode_entry es) < 4294967296 → Lines Q p es
    → Each (λ k. Q k (line_of p es k)) (keys_of p es)
lines_each Q p [] h q = tt
lines_each Q p (e ∷ es) h q =
    let l = length-append (encode_entry e) (joined encode_entry es) in
    let next : ℕ = p + length (encode_entry e) in
    let key : ℕ = e.number * 4294967296 + p in
    let first : line_of p (e ∷ es) key ≡ e = line_first p e es (key % 4294967296) (omega arith) in (
      rw first q.0,
      each_both {R = λ k. Q k (line_of p (e ∷ es) k)} (λ k a b. rw (line_later p e es (k % 4294967296) a) b) (keys_of next es) (keys_above next es (omega arith)) (lines_each Q next es (omega arith) q.1),
    )

lines_back : (p : ℕ) (es : List Entry) → p + length (joined encode_entry es) < 4294967296 → map (line_of p es) (keys_of p es) ≡ es
lines_back p [] h = refl
lines_back p (e ∷ es) h =
    let l = length-append (encode_entry e) (joined encode_entry es) in
    let next : ℕ = p + length (encode_entry e) in
    let key : ℕ = e.number * 4294967296 + p in
    ap₂ (λ (x : Entry) (xs : List Entry). x ∷ xs) (line_first p e es (key % 4294967296) (omega arith))
    (map_each (line_of p (e ∷ es)) (line_of next es) (keys_of next es)
    (each_to (λ k. line_of p (e ∷ es) k ≡ line_of next es k) (keys_of next es) (λ k a. line_later p e es (k % 4294967296) a) (keys_above next es (omega arith)))
    ∙ lines_back next es (omega arith))

numbers_there : (p : ℕ) (es : List Entry) → p + length (joined encode_entry es) < 4294967296 → Lines (λ k e. e.number ≡ k / 4294967296) p es
numbers_there p [] h = tt
numbers_there p (e ∷ es) h =
    let l = length-append (encode_entry e) (joined encode_entry es) in
    (omega arith, numbers_there (p + length (encode_entry e)) es (omega arith))

lines_there : (s : List ℕ) (t p : ℕ) (es : List Entry) → t ≤ p → p + length (joined encode_entry es) ≤ 2 * t → 2 * t < 4294967296
    → Each OfLine es → Stands s p (joined encode_entry es) → Lines (LineAt s t) p es
lines_there s t p [] a i small o st = tt
lines_there s t p (e ∷ es) a i small o st =
    let l = length-append (encode_entry e) (joined encode_entry es) in
    let place : p ≡ (e.number * 4294967296 + p) % 4294967296 = omega arith in
    let first : Stands s p (encode_entry e) = stands_front s (encode_entry e) (joined encode_entry es) p st in (
      record { there = rw (← place) first; above = omega arith; inside = omega arith; line = o.0 },
      lines_there s t (p + length (encode_entry e)) es (omega arith) (omega arith) small o.1 (stands_behind s (encode_entry e) (joined encode_entry es) p (length (encode_entry e)) refl st),
    )

-- ---- sorted keys have the bytes of all keys

put_bytes : (f : ℕ → Entry) (k : ℕ) (l : List ℕ) → length (joined encode_entry (map f (put k l))) ≡ length (encode_entry (f k)) + length (joined encode_entry (map f l))
unfolding put
put_bytes f k [] = length-append (encode_entry (f k)) []
put_bytes f k (y ∷ l) = go (leb k y) (put_bytes f k l)
  where
    go : (b : Bool) → length (joined encode_entry (map f (put k l))) ≡ length (encode_entry (f k)) + length (joined encode_entry (map f l))
        → length (joined encode_entry (map f (cond b (k ∷ (y ∷ l)) (y ∷ put k l)))) ≡ length (encode_entry (f k)) + length (encode_entry (f y) ++ joined encode_entry (map f l))
    go true ih = length-append (encode_entry (f k)) (encode_entry (f y) ++ joined encode_entry (map f l))
    go false ih = length-append (encode_entry (f y)) (joined encode_entry (map f (put k l))) ∙ (let l = length-append (encode_entry (f y)) (joined encode_entry (map f l)) in omega arith)

sorted_bytes : (f : ℕ → Entry) (l : List ℕ) → length (joined encode_entry (map f (sorted l))) ≡ length (joined encode_entry (map f l))
sorted_bytes f [] = refl
sorted_bytes f (k ∷ l) =
    put_bytes f k (sorted l) ∙ (let a = length-append (encode_entry (f k)) (joined encode_entry (map f l)) in let b = sorted_bytes f l in omega arith)

-- ---- collecting

abbrev pub raw_first : {s : List ℕ} {t n at : ℕ} → Raw s t n at → Raw s t n 0
raw_first h = record { entries = h.entries; there = h.there; many = h.many; lines = h.lines; long = h.long; small = h.small; room = omega (arith, h.room) }

-- how rules are put together does not depend on how they are bracketed
bracketed : (a b c : List Rule) → (how.now).join ((how.now).join a b) c ≡ (how.now).join a ((how.now).join b c)
bracketed a b c = append_assoc a b c

pub collected_shorter : (es : List Entry) → length (joined encode_entry (how.collected (how.now).join es)) ≤ length (joined encode_entry es)
collected_shorter es = shorter (how.now).join (λ a b. rw (joined_append encode_rule a b, length-append) (omega arith)) es

module _ {s : List ℕ} {t n at : ℕ} (h : Raw s t n at) (mid sorted-mid : List ℕ) (listed : Listed h.entries s mid t n)
    (order : keys_at sorted-mid t n ≡ sorted (keys_at mid t n)) (kept : take (2 * t) sorted-mid ≡ take (2 * t) mid) (long : length sorted-mid ≡ length s) where
  the_keys : keys_at sorted-mid t n ≡ sorted (keys_of t h.entries)
  the_keys = order ∙ ap sorted listed.keys

  raw_kept : take (2 * t) sorted-mid ≡ take (2 * t) s
  raw_kept = kept ∙ listed.kept

  few_bytes : t + length (joined encode_entry h.entries) < 4294967296
  few_bytes = omega (arith, h.small, h.room)

  all_lines : map (line_of t h.entries) (keys_of t h.entries) ≡ h.entries
  all_lines = lines_back t h.entries few_bytes

  pub raw_keyed : 1 ≤ n → Keyed sorted-mid t n at
  raw_keyed first =
      let st : Stands sorted-mid t (joined encode_entry h.entries) =
      stands_before s sorted-mid (joined encode_entry h.entries) t (2 * t) raw_kept (omega (arith, h.room)) h.there in
      let there = lines_there sorted-mid t t h.entries (omega arith) (omega (arith, h.room)) (omega (arith, h.small)) h.lines st in
      let bytes : length (joined encode_entry (map (line_of t h.entries) (keys_at sorted-mid t n))) ≡ length (joined encode_entry h.entries) =
      ap (λ (l : List ℕ). length (joined encode_entry (map (line_of t h.entries) l))) the_keys ∙ sorted_bytes (line_of t h.entries) (keys_of t h.entries)
      ∙ ap (λ (es : List Entry). length (joined encode_entry es)) all_lines in
      record {
        line = line_of t h.entries;
        lines = rw the_keys (sorted_each (λ k. LineAt sorted-mid t k (line_of t h.entries k)) (keys_of t h.entries) (lines_each (LineAt sorted-mid t) t h.entries few_bytes there));
        first = first;
        few = (raw_sizes h).few;
        long = omega (arith, h.long);
        small = h.small;
        room = omega (arith, h.room);
      }

  pub raw_collected : (first : 1 ≤ n) (out : List ℕ) (end count : ℕ) → Grouped (map (raw_keyed first).line (keys_at sorted-mid t n)) sorted-mid out at end count
      → Collects h.entries s out at end count
  unfolding raw_keyed
  raw_collected first out end count g =
      let same : groups (how.now).join (map (line_of t h.entries) (keys_at sorted-mid t n)) ≡ how.collected (how.now).join h.entries =
      ap (λ (l : List ℕ). groups (how.now).join (map (line_of t h.entries) l)) the_keys
      ∙ sorted_groups (how.now).join bracketed (line_of t h.entries) (keys_of t h.entries)
      (lines_each (λ k e. e.number ≡ k / 4294967296) t h.entries few_bytes (numbers_there t h.entries few_bytes)) (keys_in_order t h.entries few_bytes)
      ∙ ap (λ (es : List Entry). how.collected (how.now).join es) all_lines in
      let front : take at sorted-mid ≡ take at s =
      sym (take-take at (2 * t) sorted-mid (omega (arith, h.room))) ∙ ap (λ (l : List ℕ). take at l) raw_kept ∙ take-take at (2 * t) s (omega (arith, h.room)) in
      record { bytes = g.bytes ∙ rw (front, same); ends = g.ends ∙ rw same; counts = g.counts ∙ rw same; inside = let l = collected_shorter h.entries in rw (g.ends, same) (omega arith) }

-- no lines at all
pub raw_none : {s : List ℕ} {t n at : ℕ} (h : Raw s t n at) → n ≡ 0 → Collects h.entries s s at at 0
unfolding how.collected
raw_none {s} {t} {n} {at} h none = go h.entries h.many
  where
    go : (es : List Entry) → n ≡ length es → Collects es s s at at 0
    go [] m = record { bytes = sym (append-nil (take at s)); ends = omega arith; counts = refl; inside = omega arith }
    go (e ∷ es) m = absurd (omega arith)
