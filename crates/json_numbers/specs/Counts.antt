-- What the scanners of numbers say by places: they agree with the reader. Needs no belief.
use Rattle.std.specs.Prelude.{ℕ, suc, ◌+◌, ◌≡◌, ◌&&◌, List, leb, drop, Result, Ok, Err, ◌≤◌, length, MatchResult}
use Rattle.std.proofs.Math.Option.{Option, none, some}
use Rattle.definitions.specs.Format.{check}
use Rattle.definitions.specs.Json.{all, is_digit}
use Rattle.definitions.specs.JsonForm.{decimal}
use Rattle.definitions.specs.JsonReader.{digit_count, sign_count, whole_count, fraction_count, exponent_sign, exponent_count}

-- how many digits stand here, one at least
abbrev pub some_digits : List ℕ → Option ℕ
some_digits l = check (leb 1 (digit_count l)) (some (digit_count l))

-- the place behind a part of a number, or where one that is begun is not of the form
abbrev pub Went : Option ℕ → ℕ → ℕ → Result ℕ ℕ → Type 0
Went none at stuck r = r ≡ Err stuck
Went (some n) at stuck r = r ≡ Ok (at + n)

-- the place that is told, either way, lies in the text
abbrev pub Within : List ℕ → Result ℕ ℕ → Type 0
Within text r = MatchResult r (λ at. at ≤ length text) (λ at. at ≤ length text)

-- how many bytes of what is no number could begin one
abbrev pub stuck_exponent : Option ℕ → ℕ → List ℕ → ℕ
stuck_exponent none b l = b + suc (exponent_sign (drop 1 (drop b l)))
stuck_exponent (some e) b l = b + e

abbrev pub stuck_fraction : Option ℕ → ℕ → List ℕ → ℕ
stuck_fraction none a l = a + 1
stuck_fraction (some f) a l = stuck_exponent (exponent_count (drop (a + f) l)) (a + f) l

abbrev pub stuck_whole : Option ℕ → ℕ → List ℕ → ℕ
stuck_whole none s l = s
stuck_whole (some w) s l = stuck_fraction (fraction_count (drop (s + w) l)) (s + w) l

unfoldable pub stuck_at : List ℕ → ℕ
stuck_at l = stuck_whole (whole_count (drop (sign_count l) l)) (sign_count l) l

-- where a number ends, or where it is seen that none stands there
abbrev pub Ended : Option ℕ → List ℕ → ℕ → Result ℕ ℕ → Type 0
Ended none l from r = r ≡ Err (from + stuck_at l)
Ended (some n) l from r = r ≡ Ok (from + n)

-- the number that digits write behind those that wrote n
unfoldable pub natural_from : ℕ → ℕ → List ℕ → Option ℕ
natural_from most n ds = check (all is_digit ds && leb (decimal n ds) most) (some (decimal n ds))
