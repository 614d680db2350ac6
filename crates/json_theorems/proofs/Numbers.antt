-- Numbers: the reader gives a number exactly where RFC 8259 has one, as long as it goes. Assumes nothing.
use mathlib.Core.Path.{◌≡◌, refl, sym, ◌∙◌}
use mathlib.Core.Bool.{Bool, true, false, cond, ◌&&◌, ◌||◌}
use mathlib.Core.List.{List, [], ◌∷◌, ◌++◌, append_assoc}
use mathlib.Core.Option.{none, some}
use Prim.Native.Nat.{ℕ, suc, ◌+◌, ◌≤◌}
use native.Mathlib.Nat.{add_assoc}
use native.Mathlib.Omega.{arith}
use lib.Dec.{eqb, leb}
use lib.ListN.{length, take, drop, length-append}
use lib.Seq.{take-add, drop-append-add, drop-append_seam}
use borrow.Author.Tests.{leb-true, eqb-true, eqb-false, le-leb, ne_eqb}
use Rattle.definitions.specs.Format.{check}
use Rattle.definitions.specs.Json.{within, all, is_digit, Digits, digits, Sign, no_sign, minus, Whole, nought, positive, Fraction, no_fraction, fraction, Exponent, no_exponent, exponent, Number, spelled}
use Rattle.definitions.specs.JsonReader.{first, digit_count, sign_count, whole_count, fraction_count, exponent_sign, exponent_count, number_count}
use Rattle.json_theorems.proofs.Tests.{false_not_true, none_not_some, both_true, one_true, check_some, then_some, within_le}
use Rattle.json_theorems.proofs.Loops.{goes_on, Ends}

some_same : {A : Type 0} {a b : A} → some a ≡ some b → a ≡ b
some_same e = cc

within_is : (lo hi b : ℕ) → lo ≤ b → b ≤ hi → within lo hi b ≡ true
within_is lo hi b p q = rw (le-leb lo b p, le-leb b hi q)

-- ---- digits in a row

digits_complete : (ds rest : List ℕ) → all is_digit ds ≡ true → is_digit (first rest) ≡ false → digit_count (ds ++ rest) ≡ length ds
unfolding digit_count all
digits_complete [] [] h f = refl
digits_complete [] (b ∷ rest) h f = rw f
digits_complete (d ∷ ds) rest h f =
    let p = both_true (is_digit d) (all is_digit ds) h in
    rw (p.0, digits_complete ds rest p.1 f)

digits_sound : (l : List ℕ) → all is_digit (take (digit_count l) l) ≡ true
unfolding digit_count all
digits_sound [] = refl
digits_sound (b ∷ l) = go (is_digit b) refl (digits_sound l)
  where
    go : (t : Bool) → is_digit b ≡ t → all is_digit (take (digit_count l) l) ≡ true → all is_digit (take (cond t (suc (digit_count l)) 0) (b ∷ l)) ≡ true
    go true e ih = rw (e, ih)
    go false e ih = refl

some_digits : (l : List ℕ) → 1 ≤ digit_count l → Digits (take (digit_count l) l)
unfolding digit_count all
some_digits [] h = absurd (omega arith)
some_digits (b ∷ l) h = go (is_digit b) refl h
  where
    go : (t : Bool) → is_digit b ≡ t → 1 ≤ cond t (suc (digit_count l)) 0 → Digits (take (cond t (suc (digit_count l)) 0) (b ∷ l))
    go true e p = digits b (take (digit_count l) l) e (digits_sound l)
    go false e p = absurd (omega arith)

-- ---- the four parts, sound

sign_sound : (l : List ℕ) → Sign (take (sign_count l) l)
sign_sound [] = no_sign
sign_sound (b ∷ l) = go (eqb b 0x2d) refl
  where
    go : (t : Bool) → eqb b 0x2d ≡ t → Sign (take (cond t 1 0) (b ∷ l))
    go true e = rw (eqb-true b 0x2d e) minus
    go false e = no_sign

whole_digits : (l : List ℕ) → (first l ≡ 0x30 → ⊥) → 1 ≤ digit_count l → Whole (take (digit_count l) l)
unfolding digit_count all
whole_digits [] n h = absurd (omega arith)
whole_digits (b ∷ l) n h = go (is_digit b) refl h
  where
    go : (t : Bool) → is_digit b ≡ t → 1 ≤ cond t (suc (digit_count l)) 0 → Whole (take (cond t (suc (digit_count l)) 0) (b ∷ l))
    go true e p =
        let r = within_le 0x30 0x39 b e in
        let x : 0x31 ≤ b = omega (arith, n) in
        positive b (take (digit_count l) l) (within_is 0x31 0x39 b x r.1) (digits_sound l)
    go false e p = absurd (omega arith)

no_digits : none ≡ whole_count []
unfolding digit_count
no_digits = refl

whole_sound : (l : List ℕ) (w : ℕ) → whole_count l ≡ some w → Whole (take w l)
whole_sound [] w e = absurd (none_not_some (no_digits ∙ e))
whole_sound (b ∷ l) w e = go (eqb b 0x30) refl e
  where
    go : (t : Bool) → eqb b 0x30 ≡ t → cond t (some 1) (check (leb 1 (digit_count (b ∷ l))) (some (digit_count (b ∷ l)))) ≡ some w → Whole (take w (b ∷ l))
    go true is f = let s : 1 ≡ w = some_same f in rw (← s, eqb-true b 0x30 is) nought
    go false is f =
        let c = check_some (leb 1 (digit_count (b ∷ l))) (some (digit_count (b ∷ l))) w f in
        let s : digit_count (b ∷ l) ≡ w = some_same c.1 in
        rw (← s) (whole_digits (b ∷ l) (eqb-false b 0x30 is) (leb-true _ _ c.0))

fraction_sound : (l : List ℕ) (w : ℕ) → fraction_count l ≡ some w → Fraction (take w l)
fraction_sound [] w e = let s : 0 ≡ w = some_same e in rw (← s) no_fraction
fraction_sound (b ∷ l) w e = go (eqb b 0x2e) refl e
  where
    go : (t : Bool) → eqb b 0x2e ≡ t → cond t (check (leb 1 (digit_count l)) (some (suc (digit_count l)))) (some 0) ≡ some w → Fraction (take w (b ∷ l))
    go true is f =
        let c = check_some (leb 1 (digit_count l)) (some (suc (digit_count l))) w f in
        let s : suc (digit_count l) ≡ w = some_same c.1 in
        rw (← s, eqb-true b 0x2e is) (fraction (take (digit_count l) l) (some_digits l (leb-true _ _ c.0)))
    go false is f = let s : 0 ≡ w = some_same f in rw (← s) no_fraction

sign_take : (l : List ℕ) → (all (λ b. eqb b 0x2b || eqb b 0x2d) (take (exponent_sign l) l) && leb (length (take (exponent_sign l) l)) 1) ≡ true
unfolding all
sign_take [] = refl
sign_take (b ∷ l) = go (eqb b 0x2b || eqb b 0x2d) refl
  where
    go : (t : Bool) → (eqb b 0x2b || eqb b 0x2d) ≡ t → (all (λ x. eqb x 0x2b || eqb x 0x2d) (take (cond t 1 0) (b ∷ l)) && leb (length (take (cond t 1 0) (b ∷ l))) 1) ≡ true
    go true e = rw e
    go false e = refl

exponent_sound : (l : List ℕ) (w : ℕ) → exponent_count l ≡ some w → Exponent (take w l)
exponent_sound [] w e = let s : 0 ≡ w = some_same e in rw (← s) no_exponent
exponent_sound (b ∷ l) w e = go (eqb b 0x65 || eqb b 0x45) refl e
  where
    g : ℕ
    g = exponent_sign l

    go : (t : Bool) → (eqb b 0x65 || eqb b 0x45) ≡ t
        → cond t (check (leb 1 (digit_count (drop (exponent_sign l) l))) (some (suc (exponent_sign l) + digit_count (drop (exponent_sign l) l)))) (some 0) ≡ some w
        → Exponent (take w (b ∷ l))
    go true is f =
        let c = check_some (leb 1 (digit_count (drop (exponent_sign l) l))) (some (suc (exponent_sign l) + digit_count (drop (exponent_sign l) l))) w f in
        let s0 : suc (exponent_sign l) + digit_count (drop (exponent_sign l) l) ≡ w = some_same c.1 in
        let s : suc (exponent_sign l + digit_count (drop (exponent_sign l) l)) ≡ w = omega arith in
        rw (← s, take-add (exponent_sign l) (digit_count (drop (exponent_sign l) l)) l)
        (exponent b (take (exponent_sign l) l) (take (digit_count (drop (exponent_sign l) l)) (drop (exponent_sign l) l)) is (sign_take l)
        (some_digits (drop (exponent_sign l) l) (leb-true _ _ c.0)))
    go false is f = let s : 0 ≡ w = some_same f in rw (← s) no_exponent

pub number_sound : (l : List ℕ) (n : ℕ) → number_count l ≡ some n → Number (take n l)
unfolding number_count
number_sound l n e =
    let w = then_some (whole_count (drop (sign_count l) l)) _ n e in
    let f = then_some (fraction_count (drop (sign_count l + w.0) l)) _ n w.2 in
    let x = then_some (exponent_count (drop (sign_count l + w.0 + f.0) l)) (λ k. some (sign_count l + w.0 + f.0 + k)) n f.2 in
    parts w.0 f.0 x.0 (some_same x.2) w.1 f.1 x.1
  where
    parts : (w f x : ℕ) → sign_count l + w + f + x ≡ n → whole_count (drop (sign_count l) l) ≡ some w → fraction_count (drop (sign_count l + w) l) ≡ some f
        → exponent_count (drop (sign_count l + w + f) l) ≡ some x → Number (take n l)
    parts w f x s ew ef ex =
        rw (← s, take-add (sign_count l + w + f) x l, take-add (sign_count l + w) f l, take-add (sign_count l) w l)
        (simp append_assoc (spelled (sign_sound l) (whole_sound (drop (sign_count l) l) w ew) (fraction_sound (drop (sign_count l + w) l) f ef) (exponent_sound (drop (sign_count l + w + f) l) x ex)))

-- ---- complete

-- a byte that is not of a number is no digit, point or exponent
ends_digit : (b : ℕ) → goes_on b ≡ false → is_digit b ≡ false
ends_digit b e = go (is_digit b) refl e
  where
    go : (t : Bool) → is_digit b ≡ t → (t || (eqb b 0x2e || (eqb b 0x65 || eqb b 0x45))) ≡ false → is_digit b ≡ false
    go true is f = absurd (false_not_true (sym f))
    go false is f = is

ends_point : (b : ℕ) → goes_on b ≡ false → eqb b 0x2e ≡ false
ends_point b e = go (is_digit b) (eqb b 0x2e) refl e
  where
    go : (s t : Bool) → eqb b 0x2e ≡ t → (s || (t || (eqb b 0x65 || eqb b 0x45))) ≡ false → eqb b 0x2e ≡ false
    go true t is f = absurd (false_not_true (sym f))
    go false true is f = absurd (false_not_true (sym f))
    go false false is f = is

ends_e : (b : ℕ) → goes_on b ≡ false → (eqb b 0x65 || eqb b 0x45) ≡ false
ends_e b e = go (is_digit b) (eqb b 0x2e) e
  where
    go : (s t : Bool) → (s || (t || (eqb b 0x65 || eqb b 0x45))) ≡ false → (eqb b 0x65 || eqb b 0x45) ≡ false
    go true t f = absurd (false_not_true (sym f))
    go false true f = absurd (false_not_true (sym f))
    go false false f = f

-- an exponent's letter
letter : (e : ℕ) → (eqb e 0x65 || eqb e 0x45) ≡ true → (is_digit e ≡ false) × (eqb e 0x2e ≡ false)
letter e h = one_true (eqb e 0x65) _ h (λ s. let x = eqb-true e 0x65 s in (rw x, rw x)) (λ s. let x = eqb-true e 0x45 s in (rw x, rw x))

-- what an exponent, or nothing, begins with
behind_fraction : {x : List ℕ} → Exponent x → (rest : List ℕ) → Ends rest → (is_digit (first (x ++ rest)) ≡ false) × (eqb (first (x ++ rest)) 0x2e ≡ false)
behind_fraction no_exponent rest h = (ends_digit (first rest) h, ends_point (first rest) h)
behind_fraction (exponent e sign ds is p d) rest h = letter e is

behind_whole : {f x : List ℕ} → Fraction f → Exponent x → (rest : List ℕ) → Ends rest → is_digit (first (f ++ (x ++ rest))) ≡ false
behind_whole no_fraction x rest h = (behind_fraction x rest h).0
behind_whole (fraction ds d) x rest h = refl

digits_long : {ds : List ℕ} → Digits ds → (1 ≤ length ds) × (all is_digit ds ≡ true)
unfolding all
digits_long (digits d ds h t) = (omega arith, rw (h, t))

whole_complete : {w : List ℕ} → Whole w → (u : List ℕ) → is_digit (first u) ≡ false → whole_count (w ++ u) ≡ some (length w)
unfolding all
whole_complete nought u h = refl
whole_complete (positive d ds is t) u h =
    let r = within_le 0x31 0x39 d is in
    let c : digit_count (d ∷ (ds ++ u)) ≡ suc (length ds) = digits_complete (d ∷ ds) u (rw (within_is 0x30 0x39 d (omega arith) r.1, t)) h in
    rw (ne_eqb d 0x30 (λ s. omega arith), c, le-leb 1 (suc (length ds)) (omega arith))

fraction_complete : {f : List ℕ} → Fraction f → (u : List ℕ) → is_digit (first u) ≡ false → eqb (first u) 0x2e ≡ false → fraction_count (f ++ u) ≡ some (length f)
fraction_complete no_fraction u h p = rw p
fraction_complete (fraction ds d) u h p =
    let l = digits_long d in
    rw (digits_complete ds u l.1 h, le-leb 1 (length ds) l.0)

sign_first : (sign ds u : List ℕ) → (all (λ b. eqb b 0x2b || eqb b 0x2d) sign && leb (length sign) 1) ≡ true → Digits ds → exponent_sign (sign ++ (ds ++ u)) ≡ length sign
unfolding all
sign_first [] _ u h (digits d ds is t) =
    let r = within_le 0x30 0x39 d is in
    rw (ne_eqb d 0x2b (λ s. omega arith), ne_eqb d 0x2d (λ s. omega arith))
sign_first (b ∷ []) ds u h d =
    let p = both_true (eqb b 0x2b || eqb b 0x2d) true (both_true _ (leb 1 1) h).0 in
    rw p.0
sign_first (b ∷ (c ∷ s)) ds u h d =
    absurd (omega (arith, leb-true (length (b ∷ (c ∷ s))) 1 (both_true (all (λ x. eqb x 0x2b || eqb x 0x2d) (b ∷ (c ∷ s))) (leb (length (b ∷ (c ∷ s))) 1) h).1))

exponent_complete : {x : List ℕ} → Exponent x → (u : List ℕ) → Ends u → exponent_count (x ++ u) ≡ some (length x)
exponent_complete no_exponent u h = rw (ends_e (first u) h)
exponent_complete (exponent e sign ds is p d) u h =
    let l = digits_long d in
    let a : (sign ++ ds) ++ u ≡ sign ++ (ds ++ u) = append_assoc sign ds u in
    let s = sign_first sign ds u p d in
    let n : suc (length sign) + length ds ≡ suc (length (sign ++ ds)) = omega (arith, length-append sign ds) in
    rw (is, a, s, drop-append_seam sign (ds ++ u), digits_complete ds u l.1 (ends_digit (first u) h), le-leb 1 (length ds) l.0, n)

sign_complete : {s w : List ℕ} → Sign s → Whole w → (u : List ℕ) → sign_count (s ++ (w ++ u)) ≡ length s
sign_complete minus w u = refl
sign_complete no_sign nought u = refl
sign_complete no_sign (positive d ds is t) u = let r = within_le 0x31 0x39 d is in rw (ne_eqb d 0x2d (λ s. omega arith))

pub number_complete : {bs : List ℕ} → Number bs → (rest : List ℕ) → Ends rest → number_count (bs ++ rest) ≡ some (length bs)
unfolding number_count
number_complete (spelled {sign = s} {whole = w} {fraction = f} {exponent = x} es ew ef ex) rest h =
    let e : (s ++ (w ++ (f ++ x))) ++ rest ≡ s ++ (w ++ (f ++ (x ++ rest))) = simp append_assoc in
    let es' = sign_complete es ew (f ++ (x ++ rest)) in
    let ew' = whole_complete ew (f ++ (x ++ rest)) (behind_whole ef ex rest h) in
    let b = behind_fraction ex rest h in
    let ef' = fraction_complete ef (x ++ rest) b.0 b.1 in
    let ex' = exponent_complete ex rest h in
    let d1 : drop (length s) (s ++ (w ++ (f ++ (x ++ rest)))) ≡ w ++ (f ++ (x ++ rest)) = drop-append_seam s _ in
    let d2 : drop (length s + length w) (s ++ (w ++ (f ++ (x ++ rest)))) ≡ f ++ (x ++ rest) = drop-append-add s _ (length w) ∙ drop-append_seam w _ in
    let d3 : drop (length s + length w + length f) (s ++ (w ++ (f ++ (x ++ rest)))) ≡ x ++ rest =
    rw add_assoc (drop-append-add s _ (length w + length f) ∙ drop-append-add w _ (length f) ∙ drop-append_seam f _) in
    let n : length s + length w + length f + length x ≡ length (s ++ (w ++ (f ++ x))) = simp length-append (omega arith) in
    rw (e, es', d1, ew', d2, ef', d3, ex', n)
