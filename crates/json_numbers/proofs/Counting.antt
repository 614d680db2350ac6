-- Numbers by places. Assumes nothing.
use mathlib.Core.Path.{◌≡◌, refl, ap, sym, ◌∙◌}
use mathlib.Core.Bool.{Bool, true, false, cond, ◌&&◌, ◌||◌}
use mathlib.Core.List.{List, [], ◌∷◌}
use mathlib.Core.Option.{Option, none, some}
use Prim.Native.Nat.{ℕ, suc, ◌+◌, ◌-◌, ◌*◌, ◌≤◌, ◌<◌}
use native.Mathlib.Omega.{arith}
use native.Mathlib.Numerals.{add-one}
use lib.Dec.{eqb, leb}
use lib.ListN.{length, drop, get_or, drop_of_length-le}
use lib.Seq.{drop-cons, drop-drop}
use borrow.Author.Tests.{eqb-true, le-leb, lt-leb, eq-eqb, ne_eqb}
use Rattle.std.specs.List.{prefix_len}
use Rattle.std.specs.Prelude.{Result, Ok, Err}
use Rattle.definitions.specs.Format.{then, check}
use Rattle.definitions.specs.Json.{all, is_digit, number}
use Rattle.definitions.specs.JsonForm.{decimal, natural}
use Rattle.definitions.specs.JsonReader.{digit_count, sign_count, whole_count, fraction_count, exponent_sign, exponent_count, number_count}
pub use Rattle.json_scan.proofs.Scanning.{first_at, inside}
use Rattle.json_numbers.specs.Counts.{some_digits, Went, stuck_exponent, stuck_at, Ended, natural_from}

-- ---- digits

pub digits_prefix : (l : List ℕ) → prefix_len is_digit l ≡ digit_count l
unfolding digit_count
digits_prefix [] = refl
digits_prefix (b ∷ bs) = let e : 1 + digit_count bs ≡ suc (digit_count bs) = omega arith in rw (digits_prefix bs, e)

pub digits_inside : (l : List ℕ) → digit_count l ≤ length l
unfolding digit_count
digits_inside [] = omega arith
digits_inside (b ∷ bs) = go (is_digit b) (digits_inside bs)
  where
    go : (t : Bool) → digit_count bs ≤ length bs → cond t (suc (digit_count bs)) 0 ≤ length (b ∷ bs)
    go true h = omega arith
    go false h = omega arith

-- ---- the parts

module _ (text : List ℕ) (at : ℕ) where
  pub sign_there : get_or text at 0 ≡ 0x2d → 1 ≡ sign_count (drop at text)
  sign_there e = rw (first_at text at, eq-eqb _ _ e)

  pub sign_none : (get_or text at 0 ≡ 0x2d → ⊥) → 0 ≡ sign_count (drop at text)
  sign_none e = rw (first_at text at, ne_eqb _ _ e)

  pub digits_missing : 0 ≡ digit_count (drop at text) → Went (some_digits (drop at text)) at at (Err at)
  digits_missing d = rw (← d)

  pub digits_there : (m : ℕ) → m ≡ digit_count (drop at text) → (m ≡ 0 → ⊥) → Went (some_digits (drop at text)) at at (Ok (at + m))
  digits_there m d z = rw (← d, le-leb 1 m (omega (arith, z)))

  pub whole_nought : get_or text at 0 ≡ 0x30 → Went (whole_count (drop at text)) at at (Ok (at + 1))
  whole_nought e = rw (first_at text at, eq-eqb _ _ e)

  pub whole_digits : (r : Result ℕ ℕ) → (get_or text at 0 ≡ 0x30 → ⊥) → Went (some_digits (drop at text)) at at r → Went (whole_count (drop at text)) at at r
  whole_digits r e w = rw (first_at text at, ne_eqb _ _ e) w

  pub fraction_none : (get_or text at 0 ≡ 0x2e → ⊥) → Went (fraction_count (drop at text)) at (at + 1) (Ok at)
  fraction_none e = rw (first_at text at, ne_eqb _ _ e) (ap Ok (omega arith))

  pub fraction_digits : (r : Result ℕ ℕ) → get_or text at 0 ≡ 0x2e → Went (some_digits (drop (at + 1) text)) (at + 1) (at + 1) r → Went (fraction_count (drop at text)) at (at + 1) r
  fraction_digits r e w = rw (first_at text at, eq-eqb _ _ e, drop-drop 1 at text) (go (leb 1 (digit_count (drop (at + 1) text))) w)
    where
      go : (t : Bool) → Went (check t (some (digit_count (drop (at + 1) text)))) (at + 1) (at + 1) r → Went (check t (some (suc (digit_count (drop (at + 1) text))))) at (at + 1) r
      go true h = h ∙ ap Ok (omega arith)
      go false h = h

  pub exponent_none : (k : ℕ) → (eqb (get_or text at 0) 0x65 || eqb (get_or text at 0) 0x45) ≡ false → Went (exponent_count (drop at text)) at k (Ok at)
  exponent_none k e = rw (first_at text at, e) (ap Ok (omega arith))

  pub exponent_digits : (r : Result ℕ ℕ) (s : ℕ) → (eqb (get_or text at 0) 0x65 || eqb (get_or text at 0) 0x45) ≡ true → s ≡ exponent_sign (drop (at + 1) text)
      → Went (some_digits (drop (at + 1 + s) text)) (at + 1 + s) (at + 1 + s) r → Went (exponent_count (drop at text)) at (at + suc (exponent_sign (drop 1 (drop at text)))) r
  exponent_digits r s is es w = rw (first_at text at, is, drop-drop 1 at text, ← es, further) (go (leb 1 (digit_count (drop (at + 1 + s) text))) w)
    where
      further : drop (suc s) (drop at text) ≡ drop (at + 1 + s) text
      further = let e : at + suc s ≡ at + 1 + s = omega arith in rw (drop-drop (suc s) at text, e)

      go : (t : Bool) → Went (check t (some (digit_count (drop (at + 1 + s) text)))) (at + 1 + s) (at + 1 + s) r
          → Went (check t (some (suc s + digit_count (drop (at + 1 + s) text)))) at (at + suc s) r
      go true h = h ∙ ap Ok (omega arith)
      go false h = h ∙ ap Err (omega arith)

pub sign_is : (text : List ℕ) (at b : ℕ) → b ≡ get_or text at 0 → (eqb b 0x2b || eqb b 0x2d) ≡ true → 1 ≡ exponent_sign (drop at text)
sign_is text at b e s = rw (first_at text at, ← e, s)

pub sign_is_not : (text : List ℕ) (at b : ℕ) → b ≡ get_or text at 0 → (eqb b 0x2b || eqb b 0x2d) ≡ false → 0 ≡ exponent_sign (drop at text)
sign_is_not text at b e s = rw (first_at text at, ← e, s)

-- ---- all parts

pub record Further (o : Option ℕ) (at next : ℕ) : Type 0 where
  pub count : ℕ
  pub is : o ≡ some count
  pub place : next ≡ at + count

pub went_ok : (o : Option ℕ) (at stuck next : ℕ) → Went o at stuck (Ok next) → Further o at next
went_ok none at stuck next w = cc
went_ok (some n) at stuck next w = record { count = n; is = refl; place = cc }

record Gone (o : Option ℕ) (stuck place : ℕ) : Type 0 where
  is : o ≡ none
  far : place ≡ stuck

went_err : (o : Option ℕ) (at stuck place : ℕ) → Went o at stuck (Err place) → Gone o stuck place
went_err none at stuck place w = record { is = refl; far = cc }
went_err (some n) at stuck place w = cc

module _ (text : List ℕ) (from s : ℕ) (es : s ≡ sign_count (drop from text)) where
  whole_at : (x : Option ℕ) → whole_count (drop (from + s) text) ≡ x → whole_count (drop (sign_count (drop from text)) (drop from text)) ≡ x
  whole_at x e = rw (← es, drop-drop s from text) e

  pub number_no_whole : (place : ℕ) → Went (whole_count (drop (from + s) text)) (from + s) (from + s) (Err place) → Ended (number_count (drop from text)) (drop from text) from (Err place)
  unfolding number_count stuck_at
  number_no_whole place w =
      let g = went_err _ (from + s) (from + s) place w in
      let n : number_count (drop from text) ≡ none = rw (whole_at none g.is) in
      let k : stuck_at (drop from text) ≡ s = rw (whole_at none g.is, ← es) in
      rw (n, k) (ap Err g.far)

  module _ (a w : ℕ) (ea : a ≡ from + s + w) (ew : whole_count (drop (from + s) text) ≡ some w) where
    whole_is : whole_count (drop (sign_count (drop from text)) (drop from text)) ≡ some w
    whole_is = whole_at (some w) ew

    fraction_at : (x : Option ℕ) → fraction_count (drop a text) ≡ x → fraction_count (drop (s + w) (drop from text)) ≡ x
    fraction_at x e = let k : from + (s + w) ≡ a = omega arith in rw (drop-drop (s + w) from text, k) e

    pub number_no_fraction : (place : ℕ) → Went (fraction_count (drop a text)) a (a + 1) (Err place) → Ended (number_count (drop from text)) (drop from text) from (Err place)
    unfolding number_count stuck_at
    number_no_fraction place f =
        let g = went_err _ a (a + 1) place f in
        let h = g.far in
        let n : number_count (drop from text) ≡ none = rw (whole_is, ← es, fraction_at none g.is) in
        let k : stuck_at (drop from text) ≡ s + w + 1 = rw (whole_is, ← es, fraction_at none g.is) in
        rw (n, k) (ap Err (omega arith))

    module _ (b f : ℕ) (eb : b ≡ a + f) (ef : fraction_count (drop a text) ≡ some f) where
      there : drop (s + w + f) (drop from text) ≡ drop b text
      there = let k : from + (s + w + f) ≡ b = omega arith in rw (drop-drop (s + w + f) from text, k)

      pub number_ended : (r : Result ℕ ℕ) → Went (exponent_count (drop b text)) b (b + suc (exponent_sign (drop 1 (drop b text)))) r → Ended (number_count (drop from text)) (drop from text) from r
      unfolding number_count stuck_at
      number_ended r e =
          let n : number_count (drop from text) ≡ then (exponent_count (drop b text)) (λ x. some (s + w + f + x)) = rw (whole_is, ← es, fraction_at (some f) ef, there) in
          let k : stuck_at (drop from text) ≡ stuck_exponent (exponent_count (drop b text)) (s + w + f) (drop from text) = rw (whole_is, ← es, fraction_at (some f) ef, there) in
          go (exponent_count (drop b text)) e n k
        where
          go : (o : Option ℕ) → Went o b (b + suc (exponent_sign (drop 1 (drop b text)))) r
              → number_count (drop from text) ≡ then o (λ x. some (s + w + f + x)) → stuck_at (drop from text) ≡ stuck_exponent o (s + w + f) (drop from text)
              → Ended (number_count (drop from text)) (drop from text) from r
          go none h n k =
              let k' : stuck_at (drop from text) ≡ s + w + f + suc (exponent_sign (drop 1 (drop b text))) = rw there at k in
              rw (n, k') (h ∙ ap Err (omega arith))
          go (some x) h n k = rw n (h ∙ ap Ok (omega arith))

-- ---- digits alone

more : (n : ℕ) (ds : List ℕ) → n ≤ decimal n ds
unfolding decimal
more n [] = omega arith
more n (d ∷ ds) = let h = more (10 * n + (d - 0x30)) ds in omega arith

pub natural_start : (most : ℕ) (t : List ℕ) → natural most (number t) ≡ natural_from most 0 t
unfolding natural natural_from
natural_start most t = refl

pub record Reading (ds : List ℕ) (most i v : ℕ) : Type 0 where
  pub small : v ≤ most
  pub left : natural most (number ds) ≡ natural_from most v (drop i ds)

module _ (ds : List ℕ) (most i v : ℕ) (h : i < length ds) (r : Reading ds most i v) where
  next_digit : drop i ds ≡ get_or ds i 0 ∷ drop (i + 1) ds
  next_digit = rw (drop-cons ds i 0 h, add-one)

  pub not_digit : is_digit (get_or ds i 0) ≡ false → natural most (number ds) ≡ none
  unfolding natural_from all
  not_digit e = r.left ∙ rw (next_digit, e)

  pub too_large : most < 10 * v + (get_or ds i 0 - 0x30) → natural most (number ds) ≡ none
  unfolding natural_from all decimal
  too_large e =
      r.left ∙ rw (
        next_digit,
        lt-leb (decimal (10 * v + (get_or ds i 0 - 0x30)) (drop (i + 1) ds)) most (let g = more (10 * v + (get_or ds i 0 - 0x30)) (drop (i + 1) ds) in omega arith),
      )
      (go (some (decimal (10 * v + (get_or ds i 0 - 0x30)) (drop (i + 1) ds))) (is_digit (get_or ds i 0) && all is_digit (drop (i + 1) ds)))
    where
      go : (x : Option ℕ) (t : Bool) → check (t && false) x ≡ none
      go x true = refl
      go x false = refl

  pub reading_turn : is_digit (get_or ds i 0) ≡ true → 10 * v + (get_or ds i 0 - 0x30) ≤ most → Reading ds most (i + 1) (10 * v + (get_or ds i 0 - 0x30))
  unfolding natural_from all decimal
  reading_turn e small = record { small = small; left = r.left ∙ rw (next_digit, e) }

pub reading_end : (ds : List ℕ) (most i v : ℕ) → length ds ≤ i → Reading ds most i v → natural most (number ds) ≡ some v
unfolding natural_from all decimal
reading_end ds most i v h r = let s = r.small in r.left ∙ rw (drop_of_length-le ds h, le-leb v most s)

pub exponent_inside : (text : List ℕ) (at b : ℕ) → b ≡ get_or text at 0 → (eqb b 0x65 || eqb b 0x45) ≡ true → at < length text
exponent_inside text at b e h = go (eqb b 0x65) refl h
  where
    go : (t : Bool) → eqb b 0x65 ≡ t → (t || eqb b 0x45) ≡ true → at < length text
    go true f g = inside text at 0x65 (sym e ∙ eqb-true b 0x65 f) (omega arith)
    go false f g = inside text at 0x45 (sym e ∙ eqb-true b 0x45 g) (omega arith)
