-- Where a character goes wrong depends on nothing behind that place: two texts that are alike up to it and with it go wrong there both.
-- Assumes nothing.
use mathlib.Core.Path.{◌≡◌, refl, ap, sym, ◌∙◌}
use mathlib.Core.Bool.{Bool, true, false, cond, not, ◌&&◌, ◌||◌}
use mathlib.Core.List.{List, [], ◌∷◌, ◌++◌, append_assoc}
use mathlib.Core.Option.{Option, none, some}
use Prim.Native.Nat.{ℕ, zero, suc, ◌+◌, ◌-◌, ◌*◌, ◌≤◌, ◌<◌}
use native.Mathlib.Omega.{arith}
use lib.Dec.{eqb, leb}
use lib.ListN.{length, take, drop, get_or, length-take, take-append-drop}
use lib.Seq.{take_at, drop_at}
use borrow.Author.Tests.{leb-true, eqb-true, le-leb, lt-leb, eq-eqb, ne_eqb}
use Rattle.definitions.specs.Json.{within, backslash, is_tail, is_unescaped, hex_digit, digit, hex4, is_high, is_low, Character, unescaped, escaped, unit, pair}
use Rattle.definitions.specs.JsonReader.{first, Piece, piece, character, hex_value, is_second, plain_bad, escape_bad}
use Rattle.json_theorems.proofs.Tests.{false_not_true, none_not_some, both_true, one_true, within_le}
use Rattle.json_theorems.proofs.Strings.{unescaped_lead, character_reads, character_sound}

-- ---- a row of tests: the place of the first that comes out true

abbrev chain : ℕ → List Bool → ℕ
chain i [] = i
chain i (t ∷ ts) = cond t i (chain (suc i) ts)

chain_least : (i : ℕ) (ts : List Bool) → i ≤ chain i ts
chain_least i [] = omega arith
chain_least i (true ∷ ts) = omega arith
chain_least i (false ∷ ts) = omega (arith, chain_least (suc i) ts)

-- the tests up to the m-th come out alike
abbrev Agree : ℕ → ℕ → List Bool → List Bool → Type 0
Agree i m [] [] = Unit {0}
Agree i m [] (u ∷ us) = ⊥
Agree i m (t ∷ ts) [] = ⊥
Agree i m (t ∷ ts) (u ∷ us) = (i ≤ m → t ≡ u) × Agree (suc i) m ts us

chain_same : (i m : ℕ) (ts us : List Bool) → Agree i m ts us → chain i ts ≡ m → chain i us ≡ m
chain_same i m [] [] a e = e
chain_same i m [] (u ∷ us) a e = absurd a
chain_same i m (t ∷ ts) [] a e = absurd a
chain_same i m (t ∷ ts) (u ∷ us) a e = go t u (a.0 (omega (arith, chain_least i (t ∷ ts)))) e (λ f. chain_same (suc i) m ts us a.1 f)
  where
    go : (x y : Bool) → x ≡ y → cond x i (chain (suc i) ts) ≡ m → (chain (suc i) ts ≡ m → chain (suc i) us ≡ m) → cond y i (chain (suc i) us) ≡ m
    go true true s f ih = f
    go true false s f ih = absurd (false_not_true (sym s))
    go false true s f ih = absurd (false_not_true s)
    go false false s f ih = ih f

-- ---- the tests of a character

abbrev hex_of : ℕ → ℕ
hex_of b = hex_value (hex_digit b)

abbrev escape_tests : List ℕ → List Bool
escape_tests l =
    not (eqb (get_or l 1 0) 0x75) ∷ leb 16 (hex_of (get_or l 2 0)) ∷ (leb 16 (hex_of (get_or l 3 0)) || (eqb (hex_of (get_or l 2 0)) 13 && leb 12 (hex_of (get_or l 3 0))))
    ∷ leb 16 (hex_of (get_or l 4 0)) ∷ leb 16 (hex_of (get_or l 5 0)) ∷ not (eqb (get_or l 6 0) backslash) ∷ not (eqb (get_or l 7 0) 0x75)
    ∷ not (eqb (hex_of (get_or l 8 0)) 13) ∷ not (within 12 15 (hex_of (get_or l 9 0))) ∷ leb 16 (hex_of (get_or l 10 0)) ∷ []

abbrev plain_tests : List ℕ → List Bool
plain_tests l = not (within 0xc2 0xf4 (first l)) ∷ not (is_second (first l) (get_or l 1 0)) ∷ not (within 0x80 0xbf (get_or l 2 0)) ∷ []

escape_chain : (l : List ℕ) → escape_bad l ≡ chain 1 (escape_tests l)
unfolding escape_bad
escape_chain l = refl

plain_chain : (l : List ℕ) → plain_bad l ≡ chain 0 (plain_tests l)
unfolding plain_bad
plain_chain l = refl

abbrev pub bad_place : List ℕ → ℕ
bad_place l = cond (eqb (first l) backslash) (escape_bad l) (plain_bad l)

abbrev SameUpTo : ℕ → List ℕ → List ℕ → Type 0
SameUpTo m l l' = (j : ℕ) → j ≤ m → get_or l j 0 ≡ get_or l' j 0

escape_alike : (m : ℕ) (l l' : List ℕ) → SameUpTo m l l' → escape_bad l ≡ m → escape_bad l' ≡ m
escape_alike m l l' a e =
    escape_chain l'
    ∙ chain_same 1 m (escape_tests l) (escape_tests l') (
      (λ h. ap (λ (x : ℕ). not (eqb x 0x75)) (a 1 h)),
      (
        (λ h. ap (λ (x : ℕ). leb 16 (hex_of x)) (a 2 h)),
        (
          (λ h. two (get_or l 2 0) (get_or l' 2 0) (get_or l 3 0) (get_or l' 3 0) (a 2 (omega arith)) (a 3 h)),
          (
            (λ h. ap (λ (x : ℕ). leb 16 (hex_of x)) (a 4 h)),
            (
              (λ h. ap (λ (x : ℕ). leb 16 (hex_of x)) (a 5 h)),
              (
                (λ h. ap (λ (x : ℕ). not (eqb x backslash)) (a 6 h)),
                (
                  (λ h. ap (λ (x : ℕ). not (eqb x 0x75)) (a 7 h)),
                  ((λ h. ap (λ (x : ℕ). not (eqb (hex_of x) 13)) (a 8 h)), ((λ h. ap (λ (x : ℕ). not (within 12 15 (hex_of x))) (a 9 h)), ((λ h. ap (λ (x : ℕ). leb 16 (hex_of x)) (a 10 h)), tt))),
                ),
              ),
            ),
          ),
        ),
      ),
    )
    (sym (escape_chain l) ∙ e)
  where
    two : (x x' y y' : ℕ) → x ≡ x' → y ≡ y' → (leb 16 (hex_of y) || (eqb (hex_of x) 13 && leb 12 (hex_of y))) ≡ (leb 16 (hex_of y') || (eqb (hex_of x') 13 && leb 12 (hex_of y')))
    two x x' y y' p q = rw (p, q)

plain_alike : (m : ℕ) (l l' : List ℕ) → SameUpTo m l l' → plain_bad l ≡ m → plain_bad l' ≡ m
plain_alike m l l' a e =
    plain_chain l'
    ∙ chain_same 0 m (plain_tests l) (plain_tests l') (
      (λ h. ap (λ (x : ℕ). not (within 0xc2 0xf4 x)) (a 0 h)),
      (
        (λ h. two (get_or l 0 0) (get_or l' 0 0) (get_or l 1 0) (get_or l' 1 0) (a 0 (omega arith)) (a 1 h)),
        ((λ h. ap (λ (x : ℕ). not (within 0x80 0xbf x)) (a 2 h)), tt),
      ),
    )
    (sym (plain_chain l) ∙ e)
  where
    two : (x x' y y' : ℕ) → x ≡ x' → y ≡ y' → not (is_second x y) ≡ not (is_second x' y')
    two x x' y y' p q = rw (p, q)

-- two texts that are alike up to where one goes wrong go wrong at one place
pub bad_alike : (l l' : List ℕ) → SameUpTo (bad_place l) l l' → bad_place l' ≡ bad_place l
bad_alike l l' a = go (eqb (first l) backslash) refl
  where
    go : (t : Bool) → eqb (first l) backslash ≡ t → bad_place l' ≡ bad_place l
    go true e =
        let e' : eqb (first l') backslash ≡ true = rw (a 0 (omega arith)) at e in
        let b : bad_place l ≡ escape_bad l = rw e in
        rw e' (escape_alike (bad_place l) l l' a (sym b))
    go false e =
        let e' : eqb (first l') backslash ≡ false = rw (a 0 (omega arith)) at e in
        let b : bad_place l ≡ plain_bad l = rw e in
        rw e' (plain_alike (bad_place l) l l' a (sym b))

-- ---- a character that is one goes wrong at its last byte, or not at all

record Hex (b : ℕ) (d : ℕ) : Type 0 where
  value : hex_of b ≡ d
  small : d < 16

hex_digit_lem : (b d : ℕ) → hex_digit b ≡ some d → Hex b d
unfolding hex_digit
hex_digit_lem b d e = go (within 0x30 0x39 b) refl (within 0x41 0x46 b) refl (within 0x61 0x66 b) refl
  where
    is : (n lo hi : ℕ) → within lo hi b ≡ true → hi - n < 16 → n ≤ lo → hex_digit b ≡ some (b - n) → Hex b d
    is n lo hi w h k f =
        let r = within_le lo hi b w in
        let z : b - n ≡ d = (let g = sym f ∙ e in cc) in
        record { value = rw f z; small = omega (arith, r.0, r.1) }

    go : (t : Bool) → within 0x30 0x39 b ≡ t → (u : Bool) → within 0x41 0x46 b ≡ u → (w : Bool) → within 0x61 0x66 b ≡ w → Hex b d
    go true et u eu w ew = is 0x30 0x30 0x39 et (omega arith) (omega arith) (unfold hex_digit in rw et)
    go false et true eu w ew = is 0x37 0x41 0x46 eu (omega arith) (omega arith) (unfold hex_digit in rw (et, eu))
    go false et false eu true ew = is 0x57 0x61 0x66 ew (omega arith) (omega arith) (unfold hex_digit in rw (et, eu, ew))
    go false et false eu false ew = absurd (none_not_some (sym (unfold hex_digit in rw (et, eu, ew)) ∙ e))

digit_some : (x y : Option ℕ) (w : ℕ) → digit x y ≡ some w → (u : ℕ) × (d : ℕ) × (x ≡ some u) × (y ≡ some d) × (16 * u + d ≡ w)
digit_some none y w e = absurd (none_not_some e)
digit_some (some u) none w e = absurd (none_not_some e)
digit_some (some u) (some d) w e = (u, d, refl, refl, cc)

record Hexes (p q r s u : ℕ) : Type 0 where
  a : ℕ
  b : ℕ
  c : ℕ
  d : ℕ
  is_a : Hex p a
  is_b : Hex q b
  is_c : Hex r c
  is_d : Hex s d
  sum : 16 * (16 * (16 * a + b) + c) + d ≡ u

hexes : (p q r s u : ℕ) → hex4 p q r s ≡ some u → Hexes p q r s u
unfolding hex4
hexes p q r s u e =
    let x = digit_some (digit (digit (hex_digit p) (hex_digit q)) (hex_digit r)) (hex_digit s) u e in
    let y = digit_some (digit (hex_digit p) (hex_digit q)) (hex_digit r) x.0 x.2 in
    let z = digit_some (hex_digit p) (hex_digit q) y.0 y.2 in
    record {
      a = z.0;
      b = z.1;
      c = y.1;
      d = x.1;
      is_a = hex_digit_lem p z.0 z.2;
      is_b = hex_digit_lem q z.1 z.3;
      is_c = hex_digit_lem r y.1 y.3;
      is_d = hex_digit_lem s x.1 x.3;
      sum = omega (arith, x.4, y.4, z.4);
    }

-- the first two digits of a code unit that is no second half
not_second : (a b : ℕ) → b < 16 → (a ≡ 13 → 12 ≤ b → ⊥) → (leb 16 b || (eqb a 13 && leb 12 b)) ≡ false
not_second a b small h = rw (lt-leb 16 b small) (go (eqb a 13) refl (leb 12 b) refl)
  where
    go : (t : Bool) → eqb a 13 ≡ t → (u : Bool) → leb 12 b ≡ u → (t && u) ≡ false
    go true et true eu = absurd (h (eqb-true _ _ et) (leb-true _ _ eu))
    go true et false eu = refl
    go false et u eu = refl

outside : (lo hi b : ℕ) → within lo hi b ≡ false → lo ≤ b → b ≤ hi → ⊥
outside lo hi b e p q = false_not_true (sym e ∙ rw (le-leb lo b p, le-leb b hi q))

unit_late : (p q r s u : ℕ) (rest : List ℕ) → hex4 p q r s ≡ some u → is_low u ≡ false → 6 ≤ escape_bad (backslash ∷ 0x75 ∷ p ∷ q ∷ r ∷ s ∷ rest)
unfolding escape_bad
unit_late p q r s u rest e low =
    let h = hexes p q r s u e in
    let s2 = h.is_a.small in
    let s3 = h.is_b.small in
    let s4 = h.is_c.small in
    let s5 = h.is_d.small in
    let z = h.sum in
    let two = not_second h.a h.b s3 (λ x y. outside 0xdc00 0xdfff u low (omega arith) (omega arith)) in
    rw (h.is_a.value, h.is_b.value, h.is_c.value, h.is_d.value, lt-leb 16 h.a s2, two, lt-leb 16 h.c s4, lt-leb 16 h.d s5)
    (chain_least 6 (not (eqb (get_or rest 0 0) backslash) ∷ not (eqb (get_or rest 1 0) 0x75) ∷ not (eqb (hex_of (get_or rest 2 0)) 13) ∷ not (within 12 15 (hex_of (get_or rest 3 0))) ∷ leb 16 (hex_of (get_or rest 4 0)) ∷ []))

pair_late : (p q r s h p' q' r' s' l : ℕ) (rest : List ℕ) → hex4 p q r s ≡ some h → hex4 p' q' r' s' ≡ some l → is_high h ≡ true → is_low l ≡ true
    → 11 ≤ escape_bad (backslash ∷ 0x75 ∷ p ∷ q ∷ r ∷ s ∷ backslash ∷ 0x75 ∷ p' ∷ q' ∷ r' ∷ s' ∷ rest)
unfolding escape_bad
pair_late p q r s h p' q' r' s' l rest e e' high low =
    let x = hexes p q r s h e in
    let y = hexes p' q' r' s' l e' in
    let hi = within_le 0xd800 0xdbff h high in
    let lo = within_le 0xdc00 0xdfff l low in
    let s2 = x.is_a.small in
    let s3 = x.is_b.small in
    let s4 = x.is_c.small in
    let s5 = x.is_d.small in
    let s8 = y.is_a.small in
    let s9 = y.is_b.small in
    let s10 = y.is_c.small in
    let s11 = y.is_d.small in
    let z = x.sum in
    let z' = y.sum in
    let two = not_second x.a x.b s3 (λ u v. omega (arith, hi.0, hi.1)) in
    let first' : y.a ≡ 13 = omega (arith, lo.0, lo.1) in
    let second : 12 ≤ y.b = omega (arith, lo.0, lo.1) in
    rw (
      x.is_a.value,
      x.is_b.value,
      x.is_c.value,
      x.is_d.value,
      lt-leb 16 x.a s2,
      two,
      lt-leb 16 x.c s4,
      lt-leb 16 x.d s5,
      y.is_a.value,
      y.is_b.value,
      y.is_c.value,
      eq-eqb y.a 13 first',
      le-leb 12 y.b second,
      le-leb y.b 15 (omega arith),
      lt-leb 16 y.c s10,
    )
    (omega arith)

second_plain : (a b : ℕ) → (a ≡ 0xe0 → ⊥) → (a ≡ 0xed → ⊥) → (a ≡ 0xf0 → ⊥) → (a ≡ 0xf4 → ⊥) → is_tail b ≡ true → is_second a b ≡ true
unfolding is_second
second_plain a b n0 n1 n2 n3 t = rw (ne_eqb a 0xe0 n0, ne_eqb a 0xed n1, ne_eqb a 0xf0 n2, ne_eqb a 0xf4 n3) t

second_by : (k a b : ℕ) (t : Bool) → is_second k b ≡ t → (eqb a k && t) ≡ true → is_second a b ≡ true
second_by k a b t is e =
    let p = both_true (eqb a k) t e in
    ap (λ (x : ℕ). is_second x b) (eqb-true a k p.0) ∙ is ∙ p.1

second_within : (lo hi a b : ℕ) → (within lo hi a && is_tail b) ≡ true → ((lo ≤ a) × (a ≤ hi)) × (is_tail b ≡ true)
second_within lo hi a b e = let p = both_true (within lo hi a) (is_tail b) e in (within_le lo hi a p.0, p.1)

plain_second : (l : List ℕ) → within 0xc2 0xf4 (first l) ≡ true → is_second (first l) (get_or l 1 0) ≡ true → 2 ≤ plain_bad l
unfolding plain_bad
plain_second l e f = rw (e, f) (chain_least 2 (not (within 0x80 0xbf (get_or l 2 0)) ∷ []))

within_is : (lo hi a : ℕ) → lo ≤ a → a ≤ hi → within lo hi a ≡ true
within_is lo hi a p q = rw (le-leb lo a p, le-leb a hi q)

plain_first : (l : List ℕ) → within 0xc2 0xf4 (first l) ≡ true → 1 ≤ plain_bad l
unfolding plain_bad
plain_first l e = rw e (chain_least 1 (not (is_second (first l) (get_or l 1 0)) ∷ not (within 0x80 0xbf (get_or l 2 0)) ∷ []))

plain_third : (l : List ℕ) → within 0xc2 0xf4 (first l) ≡ true → is_second (first l) (get_or l 1 0) ≡ true → is_tail (get_or l 2 0) ≡ true → 3 ≤ plain_bad l
unfolding plain_bad
plain_third l e f g = rw (e, f, g) (omega arith)

lead : (a k : ℕ) (t : Bool) → (eqb a k && t) ≡ true → within 0xc2 0xf4 k ≡ true → within 0xc2 0xf4 a ≡ true
lead a k t y w = rw (eqb-true a k (both_true (eqb a k) t y).0) w

-- first bytes of which the second one is any tail
inside : (a b lo hi : ℕ) → 0xc2 ≤ lo → hi ≤ 0xf4 → (a ≡ 0xe0 → (lo ≤ a) × (a ≤ hi) → ⊥) → (a ≡ 0xed → (lo ≤ a) × (a ≤ hi) → ⊥) → (a ≡ 0xf0 → (lo ≤ a) × (a ≤ hi) → ⊥)
    → (a ≡ 0xf4 → (lo ≤ a) × (a ≤ hi) → ⊥) → (within lo hi a && is_tail b) ≡ true → (within 0xc2 0xf4 a ≡ true) × (is_second a b ≡ true)
inside a b lo hi p q n0 n1 n2 n3 y =
    let w = second_within lo hi a b y in
    (within_is 0xc2 0xf4 a (omega (arith, w.0.0)) (omega (arith, w.0.1)), second_plain a b (λ s. n0 s w.0) (λ s. n1 s w.0) (λ s. n2 s w.0) (λ s. n3 s w.0) w.1)

three_second : (a b : ℕ) (x : Bool)
    → (((eqb a 0xe0 && within 0xa0 0xbf b) || ((within 0xe1 0xec a && is_tail b) || ((eqb a 0xed && within 0x80 0x9f b) || (within 0xee 0xef a && is_tail b)))) && x) ≡ true
    → (within 0xc2 0xf4 a ≡ true) × (is_second a b ≡ true)
unfolding is_second
three_second a b x e =
    let p = both_true ((eqb a 0xe0 && within 0xa0 0xbf b) || ((within 0xe1 0xec a && is_tail b) || ((eqb a 0xed && within 0x80 0x9f b) || (within 0xee 0xef a && is_tail b)))) x e in
    one_true (eqb a 0xe0 && within 0xa0 0xbf b) _ p.0 (λ y. (lead a 0xe0 _ y refl, second_by 0xe0 a b (within 0xa0 0xbf b) refl y)) (λ p1.
    one_true (within 0xe1 0xec a && is_tail b) _ p1 (inside a b 0xe1 0xec (omega arith) (omega arith) (λ s h. omega (arith, h.0)) (λ s h. omega (arith, h.1)) (λ s h. omega (arith, h.1)) (λ s h. omega (arith, h.1))) (λ p2.
    one_true (eqb a 0xed && within 0x80 0x9f b) _ p2 (λ y. (lead a 0xed _ y refl, second_by 0xed a b (within 0x80 0x9f b) refl y))
    (inside a b 0xee 0xef (omega arith) (omega arith) (λ s h. omega (arith, h.0)) (λ s h. omega (arith, h.0)) (λ s h. omega (arith, h.1)) (λ s h. omega (arith, h.1)))))

four_second : (a b : ℕ) (x : Bool) → (((eqb a 0xf0 && within 0x90 0xbf b) || ((within 0xf1 0xf3 a && is_tail b) || (eqb a 0xf4 && within 0x80 0x8f b))) && x) ≡ true
    → (within 0xc2 0xf4 a ≡ true) × (is_second a b ≡ true)
unfolding is_second
four_second a b x e =
    let p = both_true ((eqb a 0xf0 && within 0x90 0xbf b) || ((within 0xf1 0xf3 a && is_tail b) || (eqb a 0xf4 && within 0x80 0x8f b))) x e in
    one_true (eqb a 0xf0 && within 0x90 0xbf b) _ p.0 (λ y. (lead a 0xf0 _ y refl, second_by 0xf0 a b (within 0x90 0xbf b) refl y)) (λ p1.
    one_true (within 0xf1 0xf3 a && is_tail b) _ p1 (inside a b 0xf1 0xf3 (omega arith) (omega arith) (λ s h. omega (arith, h.0)) (λ s h. omega (arith, h.0)) (λ s h. omega (arith, h.0)) (λ s h. omega (arith, h.1)))
    (λ y. (lead a 0xf4 _ y refl, second_by 0xf4 a b (within 0x80 0x8f b) refl y)))

unescaped_late : (c rest : List ℕ) → is_unescaped c ≡ true → length c ≤ suc (plain_bad (c ++ rest))
unfolding is_unescaped
unescaped_late [] rest e = omega arith
unescaped_late (a ∷ []) rest e = omega arith
unescaped_late (a ∷ (b ∷ [])) rest e =
    let w = second_within 0xc2 0xdf a b e in
    let late = plain_first (a ∷ (b ∷ rest)) (within_is 0xc2 0xf4 a w.0.0 (omega (arith, w.0.1))) in
    omega arith
unescaped_late (a ∷ (b ∷ (c ∷ []))) rest e =
    let w = three_second a b (is_tail c) e in
    let late = plain_second (a ∷ (b ∷ (c ∷ rest))) w.0 w.1 in
    omega arith
unescaped_late (a ∷ (b ∷ (c ∷ (d ∷ [])))) rest e =
    let w = four_second a b (is_tail c && is_tail d) e in
    let t = both_true ((eqb a 0xf0 && within 0x90 0xbf b) || ((within 0xf1 0xf3 a && is_tail b) || (eqb a 0xf4 && within 0x80 0x8f b))) (is_tail c && is_tail d) e in
    let late = plain_third (a ∷ (b ∷ (c ∷ (d ∷ rest)))) w.0 w.1 (both_true (is_tail c) (is_tail d) t.1).0 in
    omega arith
unescaped_late (a ∷ (b ∷ (c ∷ (d ∷ (f ∷ cs))))) rest e = absurd (false_not_true e)

-- a character that is one goes wrong at its last byte, or behind it
pub late : {c a : List ℕ} → Character c a → (rest : List ℕ) → length c ≤ suc (bad_place (c ++ rest))
unfolding is_unescaped escape_bad
late (unescaped c e) rest =
    let d = unescaped_lead c e in
    rw (first_is c rest e, d.not_backslash) (unescaped_late c rest e)
  where
    first_is : (c rest : List ℕ) → is_unescaped c ≡ true → first (c ++ rest) ≡ first c
    first_is [] rest e = absurd (false_not_true (unfold is_unescaped in e))
    first_is (x ∷ c) rest e = refl
late (escaped e b h) rest = omega (arith, chain_least 1 (escape_tests (backslash ∷ (e ∷ rest))))
late (unit p q r s u h x y) rest = omega (arith, unit_late p q r s u rest h y)
late (pair p q r s h p' q' r' s' l e e' x y) rest = omega (arith, pair_late p q r s h p' q' r' s' l rest e e' x y)

-- ---- two texts with the same beginning

get_d_append : (s q q' : List ℕ) (j : ℕ) → j < length s → get_or (s ++ q) j 0 ≡ get_or (s ++ q') j 0
get_d_append [] q q' j h = absurd (omega arith)
get_d_append (x ∷ s) q q' zero h = refl
get_d_append (x ∷ s) q q' (suc j) h = get_d_append s q q' j (omega arith)

cut : (n : ℕ) (s q : List ℕ) → n ≤ length s → s ++ q ≡ take n s ++ (drop n s ++ q)
cut n s q h = ap (λ (x : List ℕ). x ++ q) (sym (take-append-drop n s)) ∙ append_assoc (take n s) (drop n s) q

take_front : (n : ℕ) (s q : List ℕ) → n ≤ length s → take n (s ++ q) ≡ take n s
take_front n s q h = ap (λ (x : List ℕ). take n x) (cut n s q h) ∙ take_at (take n s) (drop n s ++ q) n (omega (arith, length-take n s))

pub drop_front : (n : ℕ) (s q : List ℕ) → n ≤ length s → drop n (s ++ q) ≡ drop n s ++ q
drop_front n s q h = ap (λ (x : List ℕ). drop n x) (cut n s q h) ∙ drop_at (take n s) (drop n s ++ q) n (omega (arith, length-take n s))

-- a character that stands in what they share is read in both
read_in : (s q q' : List ℕ) {c a : List ℕ} → Character c a → (rest : List ℕ) → c ++ rest ≡ s ++ q → length c ≤ length s → character (s ++ q') ≡ some (piece a (length c))
read_in s q q' {c} {a} k rest e h =
    let is : take (length c) s ≡ c = sym (take_front (length c) s q h) ∙ ap (λ (x : List ℕ). take (length c) x) (sym e) ∙ take_at c rest (length c) refl in
    ap character (cut (length c) s q' h ∙ ap (λ (x : List ℕ). x ++ (drop (length c) s ++ q')) is) ∙ (character_reads k (drop (length c) s ++ q')).char

pub piece_alike : (s q q' : List ℕ) (p : Piece) → p.used ≤ length s → character (s ++ q) ≡ some p → character (s ++ q') ≡ some p
piece_alike s q q' p h e =
    let n : ℕ = p.used in
    let is = take_front n s q h in
    let long : length (take n (s ++ q)) ≡ n = ap length is ∙ (omega (arith, length-take n s)) in
    read_in s q q' (character_sound (s ++ q) p e) (drop n (s ++ q)) (take-append-drop n (s ++ q)) (omega arith) ∙ ap (λ (x : ℕ). some (piece p.meant x)) long

-- where one goes wrong in what they share, the other does, at the same place
pub wrong_alike : (s q q' : List ℕ) → character (s ++ q) ≡ none → bad_place (s ++ q) < length s
    → (character (s ++ q') ≡ none) × (bad_place (s ++ q') ≡ bad_place (s ++ q))
wrong_alike s q q' e h =
    let same = bad_alike (s ++ q) (s ++ q') (λ j less. get_d_append s q q' j (omega arith)) in
    (go (character (s ++ q')) refl same, same)
  where
    go : (o : Option Piece) → character (s ++ q') ≡ o → bad_place (s ++ q') ≡ bad_place (s ++ q) → o ≡ none
    go none f same = refl
    go (some p) f same =
        let said = character_sound (s ++ q') p f in
        let whole = take-append-drop p.used (s ++ q') in
        let short = late said (drop p.used (s ++ q')) in
        let place : bad_place (take p.used (s ++ q') ++ drop p.used (s ++ q')) ≡ bad_place (s ++ q) = ap bad_place whole ∙ same in
        absurd (none_not_some (sym e ∙ read_in s q' q said (drop p.used (s ++ q')) whole (omega arith)))
