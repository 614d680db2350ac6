-- Numbers that are digits alone, told by places. Assumes nothing.
use mathlib.Core.Path.{◌≡◌, refl, sym, ◌∙◌}
use mathlib.Core.Bool.{Bool, true, false, ◌||◌}
use mathlib.Core.List.{List, ◌++◌}
use mathlib.Core.Option.{Option, none, some}
use Prim.Native.Nat.{ℕ, ◌+◌, ◌-◌, ◌≤◌}
use native.Mathlib.Omega.{arith}
use native.Mathlib.Numerals.{add-one}
use lib.Dec.{eqb}
use lib.ListN.{length, take, drop, get_or, length-append, length-take}
use lib.Seq.{drop-drop}
use Rattle.definitions.specs.Format.{then}
use Rattle.definitions.specs.Json.{is_digit, number, Number, spelled, Whole, nought, positive}
use Rattle.definitions.specs.JsonForm.{natural}
use Rattle.definitions.specs.JsonReader.{got, stop, not_json, sign_count, whole_count, fraction_count, exponent_count, number_count, bad_exponent, bad_fraction, bad_whole, bad_number}
use Rattle.definitions.specs.FormReader.{not_of_form, wrong, number_there, made, answered, judged, natural_there}
use Rattle.json_theorems.proofs.Tests.{none_not_some}
use Rattle.json_theorems.proofs.Numbers.{number_sound}
use Rattle.std.specs.Prelude.{Some, None, Ok, Err}
use Rattle.json_scan.specs.Scan.{At, option_of}
use Rattle.json_scan.proofs.Scanning.{option_none, option_some}
use Rattle.json_numbers.specs.Counts.{stuck_exponent, stuck_fraction, stuck_whole, stuck_at, Ended}
use Rattle.json_numbers.proofs.Counting.{first_at}
use Rattle.json_parts.proofs.Places.{further}

-- ---- where a number goes wrong

stuck_is : (l : List ℕ) → number_count l ≡ none → bad_number l ≡ drop (stuck_at l) l
unfolding number_count bad_number stuck_at
stuck_is l e = whole (whole_count (drop (sign_count l) l)) e
  where
    exponent : (b : ℕ) (o : Option ℕ) → then o (λ x. some (b + x)) ≡ none → bad_exponent b l ≡ drop (stuck_exponent o b l) l
    exponent b none f = rw (drop-drop 1 b l, add-one b)
    exponent b (some x) f = absurd (none_not_some (sym f))

    fraction : (a : ℕ) (o : Option ℕ) → then o (λ f. then (exponent_count (drop (a + f) l)) (λ x. some (a + f + x))) ≡ none → bad_fraction a o l ≡ drop (stuck_fraction o a l) l
    fraction a none f = rw (add-one a)
    fraction a (some x) f = exponent (a + x) (exponent_count (drop (a + x) l)) f

    whole : (o : Option ℕ)
        → then o (λ w. then (fraction_count (drop (sign_count l + w) l)) (λ f. then (exponent_count (drop (sign_count l + w + f) l)) (λ x. some (sign_count l + w + f + x)))) ≡ none
        → bad_whole o l ≡ drop (stuck_whole o (sign_count l) l) l
    whole none f = refl
    whole (some w) f = fraction (sign_count l + w) (fraction_count (drop (sign_count l + w) l)) f

whole_long : {bs : List ℕ} → Whole bs → 1 ≤ length bs
whole_long nought = omega arith
whole_long (positive d ds x y) = omega arith

number_long : {bs : List ℕ} → Number bs → 1 ≤ length bs
number_long (spelled {sign = sign} {whole = whole} {fraction = fraction} {exponent = exponent} s w f e) =
    let h = whole_long w in
    rw (length-append sign (whole ++ (fraction ++ exponent)), length-append whole (fraction ++ exponent)) (omega arith)

count_long : (l : List ℕ) (n : ℕ) → number_count l ≡ some n → 1 ≤ n
count_long l n e = let h = number_long (number_sound l n e) in let t = length-take n l in omega arith

-- ---- what skip_number tells

pub record Counted (l : List ℕ) (from at : ℕ) : Type 0 where
  pub count : ℕ
  pub is : number_count l ≡ some count
  pub long : 1 ≤ count
  pub place : at ≡ from + count

pub counted : (l : List ℕ) (from at : ℕ) → Ended (number_count l) l from (Ok at) → Counted l from at
counted l from at e = go (number_count l) refl e
  where
    go : (o : Option ℕ) → number_count l ≡ o → Ended o l from (Ok at) → Counted l from at
    go none f t = cc
    go (some n) f t = record { count = n; is = f; long = count_long l n f; place = cc }

pub record Stuck (l : List ℕ) (from at : ℕ) : Type 0 where
  pub is : number_count l ≡ none
  pub place : at ≡ from + stuck_at l

pub stuck : (l : List ℕ) (from at : ℕ) → Ended (number_count l) l from (Err at) → Stuck l from at
stuck l from at e = go (number_count l) refl e
  where
    go : (o : Option ℕ) → number_count l ≡ o → Ended o l from (Err at) → Stuck l from at
    go none f t = record { is = f; place = cc }
    go (some n) f t = cc

pub bad_place_lem : (text : List ℕ) (from at : ℕ) → Stuck (drop from text) from at → at ≤ length text → At text (bad_number (drop from text)) at
bad_place_lem text from at s h = rw (stuck_is (drop from text) s.is, s.place) (further text from (stuck_at (drop from text)) (let e = s.place in omega arith))

-- ---- a number that is asked for

abbrev pub numeric : ℕ → Bool
numeric b = eqb b 0x2d || is_digit b

pub past_place : (text : List ℕ) (at past : ℕ) → Counted (drop at text) at past → past ≤ length text → At text (drop (past - at) (drop at text)) past
past_place text at past s h =
    let e : at + (past - at) ≡ past = (let p = s.place in omega arith) in
    rw e at (further text at (past - at) (omega arith))

module _ (most : ℕ) (text : List ℕ) (at : ℕ) where
  pub natural_missing : numeric (get_or text at 0) ≡ false → natural_there most (drop at text) ≡ stop (wrong (drop at text)) (drop at text)
  unfolding natural_there judged number_there
  natural_missing e = rw (first_at text at, e)

  pub natural_stuck : numeric (get_or text at 0) ≡ true → number_count (drop at text) ≡ none → natural_there most (drop at text) ≡ stop not_json (bad_number (drop at text))
  unfolding natural_there judged number_there
  natural_stuck e n = rw (first_at text at, e, n)

  module _ (e : numeric (get_or text at 0) ≡ true) (past : ℕ) (s : Counted (drop at text) at past) where
    taken : past - at ≡ s.count
    taken = let p = s.place in omega arith

    natural_is : natural_there most (drop at text) ≡ answered (made (natural most (number (take (past - at) (drop at text))))) (drop at text) (drop (past - at) (drop at text))
    unfolding natural_there judged number_there natural
    natural_is = rw (first_at text at, e, s.is, taken)

    pub natural_refused : None ≡ option_of (natural most (number (take (past - at) (drop at text)))) → natural_there most (drop at text) ≡ stop not_of_form (drop at text)
    natural_refused r = natural_is ∙ rw (option_none r)

    pub natural_read : (v : ℕ) → Some v ≡ option_of (natural most (number (take (past - at) (drop at text)))) → natural_there most (drop at text) ≡ got v (drop (past - at) (drop at text))
    natural_read v r = natural_is ∙ rw (option_some r)
