-- Where a fault is: the number of a value of another kind, and the byte with which a character goes wrong. Assumes nothing.
use mathlib.Core.Path.{◌≡◌, refl}
use native.Mathlib.Omega.{arith}
use borrow.Author.Tests.{eq-eqb, ne_eqb, le-leb, lt-leb, leb-true, leb-false}
use mathlib.Core.Bool.{Bool, true, false, cond, not, ◌&&◌, ◌||◌}
use mathlib.Core.List.{List}
use mathlib.Core.Option.{Option}
use mathlib.Core.Logic.{◌⊎◌}
use Prim.Native.Nat.{ℕ, ◌≤◌, ◌<◌, ◌+◌, ◌-◌, min}
use lib.Dec.{eqb, leb}
use lib.ListN.{length, drop, get_or}
use lib.Seq.{get_or-drop}
use Rattle.definitions.specs.Json.{quote, backslash, within, is_digit, hex_digit}
use Rattle.definitions.specs.JsonReader.{hex_value, escape_bad, plain_bad, bad_character}
use Rattle.definitions.specs.FormReader.{wrong}
use Rattle.json_numbers.proofs.Counting.{first_at}
use Rattle.std.specs.Prelude.{Some, None, is_some, IfSome}
use Rattle.std.specs.Prelude as code
use Rattle.std.specs.Option.{option_eq}
use Rattle.std.proofs.lemmas.Bool.Decides.{nat_tests}
use Rattle.json_scan.specs.Scan.{At}
use Rattle.json_parts.proofs.Places.{further, at_end}
use Rattle.json_scan.specs.Scan.{option_of}
use Rattle.json_scan.proofs.Scanning.{option_none, option_some}

pub wrong_is : (text : List ℕ) (at b : ℕ) (t : Bool) → b ≡ get_or text at 0
    → t ≡ (eqb b quote || (eqb b 0x7b || (eqb b 0x5b || (eqb b 0x2d || (is_digit b || (eqb b 0x6e || (eqb b 0x74 || eqb b 0x66)))))))
    → cond t 11 10 ≡ wrong (drop at text)
unfolding wrong
wrong_is text at b t eb et = rw (first_at text at, ← eb, ← et)

-- the digits that an escape is told wrong by
module _ (o : Option ℕ) where
  pub digit_none : None ≡ option_of o → leb 16 (hex_value o) ≡ true
  digit_none e = rw (option_none e)

  pub digit_some : (d : ℕ) → Some d ≡ option_of o → d ≤ 15 → leb 16 (hex_value o) ≡ false
  digit_some d e h = rw (option_some e) (lt-leb 16 d (omega arith))

  pub digit_is : (d : ℕ) → Some d ≡ option_of o → hex_value o ≡ d
  digit_is d e = rw (option_some e)

  pub low_none : None ≡ option_of o → within 12 15 (hex_value o) ≡ false
  low_none e = rw (option_none e)

  pub low_less : (d : ℕ) → Some d ≡ option_of o → d < 12 → within 12 15 (hex_value o) ≡ false
  low_less d e h = rw (option_some e, lt-leb 12 d h)

  pub low_more : (d : ℕ) → Some d ≡ option_of o → 12 ≤ d → d ≤ 15 → within 12 15 (hex_value o) ≡ true
  low_more d e g h = rw (option_some e, le-leb 12 d g, le-leb d 15 h)

pub digit_missing : (o : Option ℕ) (r : code.Option ℕ) → r ≡ option_of o → is_some r ≡ false → leb 16 (hex_value o) ≡ true
digit_missing o None e f = digit_none o e
digit_missing o (Some d) e f = cc

pub digit_there : (o : Option ℕ) (r : code.Option ℕ) → r ≡ option_of o → IfSome r (λ d. d ≤ 15) → is_some r ≡ true → leb 16 (hex_value o) ≡ false
digit_there o None e h f = cc
digit_there o (Some d) e h f = digit_some o d e h

pub digit_thirteen : (o : Option ℕ) (r : code.Option ℕ) → r ≡ option_of o → option_eq eqb r (Some 13) ≡ eqb (hex_value o) 13
digit_thirteen o None e = rw (option_none e)
digit_thirteen o (Some d) e = rw (option_some e)

-- the first half of a pair is below de00: its second digit is below 12, where the first is 13
pub no_half : (a b : ℕ) → ((a ≡ 13) × (b < 12)) ⊎ (a ≡ 13 → ⊥) → (eqb a 13 && leb 12 b) ≡ false
no_half a b h = grind (arith, nat_tests)

-- by the bytes and the digits behind the backslash
pub escape_is : (text : List ℕ) (at : ℕ)
    → escape_bad (drop at text)
    ≡ (let h : ℕ → ℕ = λ i. hex_value (hex_digit (get_or text (at + i) 0)) in
    cond (not (eqb (get_or text (at + 1) 0) 0x75)) 1 (cond (leb 16 (h 2)) 2 (cond (leb 16 (h 3) || (eqb (h 2) 13 && leb 12 (h 3))) 3 (cond (leb 16 (h 4)) 4 (cond (leb 16 (h 5)) 5
    (cond (not (eqb (get_or text (at + 6) 0) backslash)) 6 (cond (not (eqb (get_or text (at + 7) 0) 0x75)) 7 (cond (not (eqb (h 8) 13)) 8
    (cond (not (within 12 15 (h 9))) 9 (cond (leb 16 (h 10)) 10 11))))))))))
unfolding escape_bad
escape_is text at =
    rw (
      get_or-drop at text 1 0,
      get_or-drop at text 2 0,
      get_or-drop at text 3 0,
      get_or-drop at text 4 0,
      get_or-drop at text 5 0,
      get_or-drop at text 6 0,
      get_or-drop at text 7 0,
      get_or-drop at text 8 0,
      get_or-drop at text 9 0,
      get_or-drop at text 10 0,
    )

module _ (text : List ℕ) (at n : ℕ) where
  pub bad_escape : get_or text at 0 ≡ backslash → n ≡ escape_bad (drop at text) → bad_character (drop at text) ≡ drop n (drop at text)
  unfolding bad_character
  bad_escape e m = rw (first_at text at, eq-eqb _ _ e, ← m)

  pub bad_plain : (get_or text at 0 ≡ backslash → ⊥) → n ≡ plain_bad (drop at text) → bad_character (drop at text) ≡ drop n (drop at text)
  unfolding bad_character
  bad_plain e m = rw (first_at text at, ne_eqb _ _ e, ← m)

-- n bytes on, or at the end where there are fewer
pub bad_place : (text : List ℕ) (at n : ℕ) → at ≤ length text → bad_character (drop at text) ≡ drop n (drop at text) → At text (bad_character (drop at text)) (at + min n (length text - at))
bad_place text at n h e = rw e (go (leb n (length text - at)) refl)
  where
    go : (t : Bool) → leb n (length text - at) ≡ t → At text (drop n (drop at text)) (at + min n (length text - at))
    go true f = let i = leb-true _ _ f in let m : min n (length text - at) ≡ n = omega arith in rw m (further text at n (omega arith))
    go false f = let i = leb-false _ _ f in let m : at + min n (length text - at) ≡ length text = omega arith in rw m (at_end text at n (omega arith))
