-- Strings: the reader gives a string exactly where RFC 8259 has one, with its characters in UTF-8 and the text behind it. Assumes nothing.
use mathlib.Core.Path.{◌≡◌, refl, sym, ◌∙◌}
use mathlib.Core.Bool.{Bool, true, false, cond, not, ◌&&◌, ◌||◌}
use mathlib.Core.List.{List, [], ◌∷◌, ◌++◌, append_assoc}
use mathlib.Core.Option.{Option, none, some}
use Prim.Native.Nat.{ℕ, zero, suc, ◌+◌, ◌≤◌, ◌<◌}
use native.Mathlib.Omega.{arith}
use lib.Dec.{eqb, leb}
use lib.ListN.{length, take, drop, get_or, length-append, take-append-drop, get_or-eq_default}
use lib.Seq.{take_at, drop-append_seam}
use borrow.Author.Tests.{leb-true, leb-false, eqb-true, not-true, le-leb, lt-leb, eq-eqb, ne_eqb}
use Rattle.definitions.specs.Format.{then, check}
use Rattle.definitions.specs.Json.{within, quote, backslash, is_tail, is_unescaped, short_escape, hex_digit, digit, hex4, is_high, is_low, utf8, pair_of, Character, unescaped, escaped, unit, pair, Characters, closed, another}
use Rattle.definitions.specs.JsonReader.{Got, got, stop, follow, first, Piece, piece, byte_count, plain_piece, hex_at, pair_piece, unit_or, escape_piece, character, on_piece, characters, string_at}
use Rattle.json_theorems.proofs.Tests.{false_not_true, none_not_some, both_true, one_true, check_some, then_some, within_le, take_cons}

-- ---- complete: a character as it is written is read

-- c, written in front of anything, is read as a, and does not look like the end
pub record Reads (c a rest : List ℕ) : Type 0 where
  pub char : character (c ++ rest) ≡ some (piece a (length c))
  pub going : eqb (first (c ++ rest)) quote ≡ false

pub count_1 : (a : ℕ) → a ≤ 0x7f → byte_count a ≡ 1
unfolding byte_count
count_1 a h = rw (le-leb a 0x7f h)

pub count_2 : (a : ℕ) → 0xc2 ≤ a → a ≤ 0xdf → byte_count a ≡ 2
unfolding byte_count
count_2 a l h = rw (lt-leb a 0x7f (omega arith), le-leb a 0xdf h)

pub count_3 : (a : ℕ) → 0xe0 ≤ a → a ≤ 0xef → byte_count a ≡ 3
unfolding byte_count
count_3 a l h = rw (lt-leb a 0x7f (omega arith), lt-leb a 0xdf (omega arith), le-leb a 0xef h)

pub count_4 : (a : ℕ) → 0xf0 ≤ a → byte_count a ≡ 4
unfolding byte_count
count_4 a l = rw (lt-leb a 0x7f (omega arith), lt-leb a 0xdf (omega arith), lt-leb a 0xef (omega arith))

-- what a first test says of the first byte
lead : (lo hi a : ℕ) (t : Bool) → (within lo hi a && t) ≡ true → (lo ≤ a) × (a ≤ hi)
lead lo hi a t e = within_le lo hi a (both_true (within lo hi a) t e).0

lead_is : (lo hi k a : ℕ) (t : Bool) → lo ≤ k → k ≤ hi → (eqb a k && t) ≡ true → (lo ≤ a) × (a ≤ hi)
lead_is lo hi k a t p q e = let s = eqb-true a k (both_true (eqb a k) t e).0 in (omega arith, omega arith)

wider : {lo hi a l h : ℕ} → lo ≤ l → h ≤ hi → (l ≤ a) × (a ≤ h) → (lo ≤ a) × (a ≤ hi)
wider p q r = (omega arith, omega arith)

-- what an unescaped character's first byte says
pub record Lead (c : List ℕ) : Type 0 where
  pub not_quote : eqb (first c) quote ≡ false
  pub not_backslash : eqb (first c) backslash ≡ false
  pub long : byte_count (first c) ≡ length c

leads : (a : ℕ) (cs : List ℕ) → (a ≡ quote → ⊥) → (a ≡ backslash → ⊥) → byte_count a ≡ length (a ∷ cs) → Lead (a ∷ cs)
leads a cs p q n = record { not_quote = ne_eqb a quote p; not_backslash = ne_eqb a backslash q; long = n }

pub unescaped_lead : (c : List ℕ) → is_unescaped c ≡ true → Lead c
unfolding is_unescaped
unescaped_lead [] e = absurd (false_not_true e)
unescaped_lead (a ∷ []) e =
    let p = both_true (within 0x20 0x7f a) (not (eqb a quote) && not (eqb a backslash)) e in
    let r = within_le 0x20 0x7f a p.0 in
    let q = both_true (not (eqb a quote)) (not (eqb a backslash)) p.1 in
    leads a [] (apart a quote (not-true (eqb a quote) q.0)) (apart a backslash (not-true (eqb a backslash) q.1)) (count_1 a r.1)
  where
    apart : (x k : ℕ) → eqb x k ≡ false → x ≡ k → ⊥
    apart x k f s = false_not_true (sym f ∙ eq-eqb x k s)
unescaped_lead (a ∷ (b ∷ [])) e =
    let r = lead 0xc2 0xdf a (is_tail b) e in
    leads a (b ∷ []) (λ s. omega arith) (λ s. omega arith) (count_2 a r.0 r.1)
unescaped_lead (a ∷ (b ∷ (c ∷ []))) e =
    let p = both_true ((eqb a 0xe0 && within 0xa0 0xbf b) || ((within 0xe1 0xec a && is_tail b) || ((eqb a 0xed && within 0x80 0x9f b) || (within 0xee 0xef a && is_tail b)))) (is_tail c) e in
    let r : (0xe0 ≤ a) × (a ≤ 0xef) =
    one_true (eqb a 0xe0 && within 0xa0 0xbf b) _ p.0 (lead_is 0xe0 0xef 0xe0 a _ (omega arith) (omega arith)) (λ p1.
    one_true (within 0xe1 0xec a && is_tail b) _ p1 (λ x. wider (omega arith) (omega arith) (lead 0xe1 0xec a _ x)) (λ p2.
    one_true (eqb a 0xed && within 0x80 0x9f b) _ p2 (lead_is 0xe0 0xef 0xed a _ (omega arith) (omega arith)) (λ p3.
    wider (omega arith) (omega arith) (lead 0xee 0xef a _ p3)))) in
    leads a (b ∷ (c ∷ [])) (λ s. omega arith) (λ s. omega arith) (count_3 a r.0 r.1)
unescaped_lead (a ∷ (b ∷ (c ∷ (d ∷ [])))) e =
    let p = both_true ((eqb a 0xf0 && within 0x90 0xbf b) || ((within 0xf1 0xf3 a && is_tail b) || (eqb a 0xf4 && within 0x80 0x8f b))) (is_tail c && is_tail d) e in
    let r : (0xf0 ≤ a) × (a ≤ 0xf4) =
    one_true (eqb a 0xf0 && within 0x90 0xbf b) _ p.0 (lead_is 0xf0 0xf4 0xf0 a _ (omega arith) (omega arith)) (λ p1.
    one_true (within 0xf1 0xf3 a && is_tail b) _ p1 (λ x. wider (omega arith) (omega arith) (lead 0xf1 0xf3 a _ x))
    (lead_is 0xf0 0xf4 0xf4 a _ (omega arith) (omega arith))) in
    leads a (b ∷ (c ∷ (d ∷ []))) (λ s. omega arith) (λ s. omega arith) (count_4 a r.0)
unescaped_lead (a ∷ (b ∷ (c ∷ (d ∷ (f ∷ cs))))) e = absurd (false_not_true e)

first_append : (c rest : List ℕ) → 1 ≤ length c → first (c ++ rest) ≡ first c
first_append [] rest h = absurd (omega arith)
first_append (a ∷ c) rest h = refl

unescaped_long : (c : List ℕ) → is_unescaped c ≡ true → 1 ≤ length c
unfolding is_unescaped
unescaped_long [] e = absurd (false_not_true e)
unescaped_long (a ∷ c) e = omega arith

unescaped_reads : (c rest : List ℕ) → is_unescaped c ≡ true → Reads c c rest
unfolding character plain_piece
unescaped_reads c rest e =
    let d = unescaped_lead c e in
    let f = first_append c rest (unescaped_long c e) in
    record { char = rw (f, d.not_backslash, d.long, take_at c rest (length c) refl, e); going = rw f d.not_quote }

not_u : (e b : ℕ) → short_escape e ≡ some b → eqb e 0x75 ≡ false
unfolding short_escape
not_u e b h = ne_eqb e 0x75 (λ s. none_not_some (rw s at h))

escaped_reads : (e b : ℕ) (rest : List ℕ) → short_escape e ≡ some b → Reads (backslash ∷ e ∷ []) (b ∷ []) rest
unfolding character escape_piece
escaped_reads e b rest h = record { char = rw (not_u e b h, h); going = refl }

unit_reads : (p q r s u : ℕ) (rest : List ℕ) → hex4 p q r s ≡ some u → is_high u ≡ false → is_low u ≡ false
    → Reads (backslash ∷ 0x75 ∷ p ∷ q ∷ r ∷ s ∷ []) (utf8 u) rest
unfolding character escape_piece
unit_reads p q r s u rest h notHigh not_low = record { char = rw (h, notHigh, not_low); going = refl }

pair_reads : (p q r s h p' q' r' s' l : ℕ) (rest : List ℕ) → hex4 p q r s ≡ some h → hex4 p' q' r' s' ≡ some l → is_high h ≡ true → is_low l ≡ true
    → Reads (backslash ∷ 0x75 ∷ p ∷ q ∷ r ∷ s ∷ backslash ∷ 0x75 ∷ p' ∷ q' ∷ r' ∷ s' ∷ []) (utf8 (pair_of h l)) rest
unfolding character escape_piece pair_piece
pair_reads p q r s h p' q' r' s' l rest e e' high low = record { char = rw (e, high, e', low); going = refl }

pub character_reads : {c a : List ℕ} → Character c a → (rest : List ℕ) → Reads c a rest
character_reads (unescaped c e) rest = unescaped_reads c rest e
character_reads (escaped e b h) rest = escaped_reads e b rest h
character_reads (unit p q r s u h x y) rest = unit_reads p q r s u rest h x y
character_reads (pair p q r s h p' q' r' s' l e e' x y) rest = pair_reads p q r s h p' q' r' s' l rest e e' x y

pub character_long : {c a : List ℕ} → Character c a → 1 ≤ length c
unfolding is_unescaped
character_long (unescaped [] e) = absurd (false_not_true e)
character_long (unescaped (x ∷ c) e) = omega arith
character_long (escaped e b h) = omega arith
character_long (unit p q r s u h x y) = omega arith
character_long (pair p q r s h p' q' r' s' l e e' x y) = omega arith

-- a string as it is written is read, whatever stands behind it
pub characters_complete : {bs s : List ℕ} → Characters bs s → (rest : List ℕ) (n : ℕ) → length bs ≤ n → characters n (bs ++ rest) ≡ got s rest
unfolding characters
characters_complete closed rest zero h = absurd (omega arith)
characters_complete closed rest (suc n) h = refl
characters_complete (another c cs) rest zero h = absurd (omega (arith, character_long c, simp length-append at h))
characters_complete (another {c = c} {a = a} {bs = bs} {s = s} ch cs) rest (suc n) h =
    let r = character_reads ch (bs ++ rest) in
    let less : length bs ≤ n = omega (arith, character_long ch, simp length-append at h) in
    rw (append_assoc c bs rest, r.going, r.char, drop-append_seam c (bs ++ rest), characters_complete cs rest n less)

pub string_complete : {bs s : List ℕ} → Characters bs s → (rest : List ℕ) → string_at (bs ++ rest) ≡ got s rest
unfolding string_at
string_complete {bs = bs} cs rest = characters_complete cs rest (length (bs ++ rest)) (rw length-append (omega arith))

-- ---- sound: what is read is written so

-- the next n bytes, one by one
abbrev pub by_one : List ℕ → ℕ → ℕ → List ℕ
by_one l i zero = []
by_one l i (suc n) = get_or l i 0 ∷ by_one l (suc i) n

pub next : (n i : ℕ) (l : List ℕ) → i + n ≤ length l → take n (drop i l) ≡ by_one l i n
next zero i l h = refl
next (suc n) i l h = rw (take_cons l i n (omega arith), next n (suc i) l (omega arith))

pub digit_none : (x : Option ℕ) → digit x none ≡ none
digit_none none = refl
digit_none (some u) = refl

pub hex_long : (l : List ℕ) (i u : ℕ) → hex_at l i ≡ some u → 3 + i < length l
unfolding hex4 hex_digit
hex_long l i u h = go (leb (length l) (3 + i)) refl
  where
    go : (t : Bool) → leb (length l) (3 + i) ≡ t → 3 + i < length l
    go false e = leb-false _ _ e
    go true e =
        let z : get_or l (3 + i) 0 ≡ 0 = get_or-eq_default l 0 (leb-true _ _ e) in
        absurd (none_not_some (rw (z, digit_none) at h))

short_long : (l : List ℕ) (b : ℕ) → short_escape (get_or l 1 0) ≡ some b → 1 < length l
unfolding short_escape
short_long l b h = go (leb (length l) 1) refl
  where
    go : (t : Bool) → leb (length l) 1 ≡ t → 1 < length l
    go false e = leb-false _ _ e
    go true e =
        let z : get_or l 1 0 ≡ 0 = get_or-eq_default l 0 (leb-true _ _ e) in
        absurd (none_not_some (rw z at h))

-- what a piece says of a text
abbrev Said : List ℕ → Piece → Type 0
Said l p = Character (take p.used l) p.meant

same_piece : (l : List ℕ) {p q : Piece} → some p ≡ some q → Said l p → Said l q
same_piece l {p} {q} e s = let d : p ≡ q = cc in rw d at s

plain_said : (l : List ℕ) (p : Piece) → plain_piece l ≡ some p → Said l p
unfolding plain_piece
plain_said l p e = let s = check_some _ _ p e in same_piece l s.1 (unescaped _ s.0)

short_said : (l : List ℕ) (p : Piece) → first l ≡ backslash → then (short_escape (get_or l 1 0)) (λ b. some (piece (b ∷ []) 2)) ≡ some p → Said l p
short_said l p at0 e =
    let s = then_some (short_escape (get_or l 1 0)) (λ b. some (piece (b ∷ []) 2)) p e in
    let w : take 2 l ≡ get_or l 0 0 ∷ get_or l 1 0 ∷ [] = next 2 0 l (short_long l s.0 s.1) in
    same_piece l s.2 (rw (w, at0) (escaped (get_or l 1 0) s.0 s.1))

pair_at : (l : List ℕ) (u v : ℕ) → first l ≡ backslash → get_or l 1 0 ≡ 0x75 → get_or l 6 0 ≡ backslash → get_or l 7 0 ≡ 0x75
    → hex_at l 2 ≡ some u → hex_at l 8 ≡ some v → is_high u ≡ true → is_low v ≡ true → Character (take 12 l) (utf8 (pair_of u v))
pair_at l u v at0 at1 at6 at7 h h' high low =
    let w : take 12 l ≡ by_one l 0 12 = next 12 0 l (hex_long l 8 v h') in
    rw (w, at0, at1, at6, at7) (pair _ _ _ _ u _ _ _ _ v h h' high low)

pair_said : (l : List ℕ) (p : Piece) (u : ℕ) → first l ≡ backslash → get_or l 1 0 ≡ 0x75 → hex_at l 2 ≡ some u → is_high u ≡ true → pair_piece u l ≡ some p → Said l p
unfolding pair_piece
pair_said l p u at0 at1 h high e =
    let a = check_some _ _ p e in
    let b = both_true (eqb (get_or l 6 0) backslash) (eqb (get_or l 7 0) 0x75) a.0 in
    let c = then_some (hex_at l 8) (λ x. check (is_low x) (some (piece (utf8 (pair_of u x)) 12))) p a.1 in
    let d = check_some (is_low c.0) (some (piece (utf8 (pair_of u c.0)) 12)) p c.2 in
    same_piece l d.1 (pair_at l u c.0 at0 at1 (eqb-true _ _ b.0) (eqb-true _ _ b.1) h c.1 high d.0)

unit_said : (l : List ℕ) (p : Piece) (u : ℕ) → first l ≡ backslash → get_or l 1 0 ≡ 0x75 → hex_at l 2 ≡ some u → unit_or u l ≡ some p → Said l p
unit_said l p u at0 at1 h e = go (is_high u) refl e
  where
    go : (t : Bool) → is_high u ≡ t → cond t (pair_piece u l) (check (not (is_low u)) (some (piece (utf8 u) 6))) ≡ some p → Said l p
    go true high x = pair_said l p u at0 at1 h high x
    go false low x =
        let d = check_some (not (is_low u)) (some (piece (utf8 u) 6)) p x in
        let w : take 6 l ≡ by_one l 0 6 = next 6 0 l (hex_long l 2 u h) in
        same_piece l d.1 (rw (w, at0, at1) (unit _ _ _ _ u h low (not-true _ d.0)))

escape_said : (l : List ℕ) (p : Piece) → first l ≡ backslash → escape_piece l ≡ some p → Said l p
unfolding escape_piece
escape_said l p at0 e = go (eqb (get_or l 1 0) 0x75) refl e
  where
    go : (t : Bool) → eqb (get_or l 1 0) 0x75 ≡ t
        → cond t (then (hex_at l 2) (λ u. unit_or u l)) (then (short_escape (get_or l 1 0)) (λ b. some (piece (b ∷ []) 2))) ≡ some p → Said l p
    go true isU x =
        let s = then_some (hex_at l 2) (λ u. unit_or u l) p x in
        unit_said l p s.0 at0 (eqb-true _ _ isU) s.1 s.2
    go false notU x = short_said l p at0 x

pub character_sound : (l : List ℕ) (p : Piece) → character l ≡ some p → Said l p
unfolding character
character_sound l p e = go (eqb (first l) backslash) refl e
  where
    go : (t : Bool) → eqb (first l) backslash ≡ t → cond t (escape_piece l) (plain_piece l) ≡ some p → Said l p
    go true at0 x = escape_said l p (eqb-true _ _ at0) x
    go false _ x = plain_said l p x

-- what was read, as it is written
pub record StringThere (l s rest : List ℕ) : Type 0 where
  pub bytes : List ℕ
  pub spelled : Characters bytes s
  pub here : l ≡ bytes ++ rest

pub no_character : character [] ≡ none
unfolding character plain_piece byte_count is_unescaped
no_character = refl

pub characters_sound : (n : ℕ) (l s rest : List ℕ) → characters n l ≡ got s rest → StringThere l s rest
unfolding characters
characters_sound zero l s rest e = absurd (let z : ◌≡◌ {A = ℕ} 0 1 = cc in omega arith)
characters_sound (suc n) [] s rest e = absurd (let x = rw no_character at e in let z : ◌≡◌ {A = ℕ} 0 1 = cc in omega arith)
characters_sound (suc n) (b ∷ l) s rest e =
    go (eqb b quote) refl (character (b ∷ l)) refl e (characters_sound n)
  where
    Rest : Option Piece → Got (List ℕ)
    Rest o = on_piece o (b ∷ l) (λ p. follow (characters n (drop p.used (b ∷ l))) (λ t more. got (p.meant ++ t) more))

    after : (p : Piece) → character (b ∷ l) ≡ some p → (g : Got (List ℕ)) → characters n (drop p.used (b ∷ l)) ≡ g
        → follow g (λ t more. got (p.meant ++ t) more) ≡ got s rest
        → ((m t more : List ℕ) → characters n m ≡ got t more → StringThere m t more) → StringThere (b ∷ l) s rest
    after p is (stop k m) eq x ih = absurd (let z : ◌≡◌ {A = ℕ} 0 1 = cc in omega arith)
    after p is (got t more) eq x ih =
        let i = ih (drop p.used (b ∷ l)) t more eq in
        let es : p.meant ++ t ≡ s = cc in
        let er : more ≡ rest = cc in
        let whole : take p.used (b ∷ l) ++ drop p.used (b ∷ l) ≡ b ∷ l = take-append-drop p.used (b ∷ l) in
        record {
          bytes = take p.used (b ∷ l) ++ i.bytes;
          spelled = rw (← es) (another (character_sound (b ∷ l) p is) i.spelled);
          here = rw (append_assoc, ← er, ← i.here) (sym whole);
        }

    go : (t : Bool) → eqb b quote ≡ t → (o : Option Piece) → character (b ∷ l) ≡ o → cond t (got [] l) (Rest (character (b ∷ l))) ≡ got s rest
        → ((m t more : List ℕ) → characters n m ≡ got t more → StringThere m t more) → StringThere (b ∷ l) s rest
    go true isQuote o eo x ih =
        let eb = eqb-true b quote isQuote in
        let es : ◌≡◌ {A = List ℕ} [] s = cc in
        let er : l ≡ rest = cc in
        record { bytes = quote ∷ []; spelled = rw (← es) closed; here = rw (eb, er) }
    go false not_quote none eo x ih = absurd (let z : ◌≡◌ {A = ℕ} 0 1 = cc in omega arith)
    go false not_quote (some p) eo x ih = after p eo (characters n (drop p.used (b ∷ l))) refl (rw eo at x) ih

pub string_sound : (l s rest : List ℕ) → string_at l ≡ got s rest → StringThere l s rest
unfolding string_at
string_sound l s rest e = characters_sound (length l) l s rest e
