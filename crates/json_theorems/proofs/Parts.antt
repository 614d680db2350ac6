-- Blanks, keys, and the loops over members and values: they read what RFC 8259 has, given that the reader of a value does. Assumes nothing.
use mathlib.Core.Path.{◌≡◌, refl, ap, ◌∙◌}
use mathlib.Core.Bool.{Bool, true, false, cond}
use mathlib.Core.List.{List, [], ◌∷◌, ◌++◌}
use Prim.Native.Nat.{ℕ, ◌≤◌}
use native.Mathlib.Omega.{arith}
use lib.Dec.{eqb}
use lib.ListN.{length}
use borrow.Author.Tests.{eqb-true, ne_eqb}
use Rattle.definitions.specs.Json.{quote, is_blank, all, Blank, Characters}
use Rattle.definitions.specs.JsonReader.{Got, got, stop, not_json, follow, first, blanks, ended, unless, placed, bad_character, string_at, characters, key_at}
use Rattle.json_theorems.proofs.Tests.{both_true}
use Rattle.json_theorems.proofs.Strings.{characters_sound, string_complete}

-- ---- what came of parts one after the other

pub record Followed {A B : Type 0} (g : Got A) (f : A → List ℕ → Got B) (b : B) (r : List ℕ) : Type 0 where
  pub part : A
  pub behind : List ℕ
  pub was : g ≡ got part behind
  pub gave : f part behind ≡ got b r

pub follow_got : {A B : Type 0} (g : Got A) (f : A → List ℕ → Got B) (b : B) (r : List ℕ) → follow g f ≡ got b r → Followed g f b r
follow_got (got a m) f b r e = record { part = a; behind = m; was = refl; gave = e }
follow_got (stop k m) f b r e = absurd (let z : ◌≡◌ {A = ℕ} 0 1 = cc in omega arith)

pub ended_got : {A : Type 0} (b : ℕ) → 1 ≤ b → (a q : A) (l r : List ℕ) → ended b a l ≡ got q r → (l ≡ b ∷ r) × (a ≡ q)
ended_got b pos a q [] r e =
    absurd (let f = rw (ne_eqb 0 b (λ s. omega arith)) at e in let z : ◌≡◌ {A = ℕ} 0 1 = cc in omega arith)
ended_got {A} b pos a q (x ∷ l) r e = go (eqb x b) refl e
  where
    go : (t : Bool) → eqb x b ≡ t → cond t (got a l) (stop not_json (x ∷ l)) ≡ got q r → (x ∷ l ≡ b ∷ r) × (a ≡ q)
    go true is f = let s = eqb-true x b is in let er : l ≡ r = cc in (rw (s, er), cc)
    go false is f = absurd (let z : ◌≡◌ {A = ℕ} 0 1 = cc in omega arith)

-- ---- blanks

pub record Skipped (l : List ℕ) : Type 0 where
  pub skipped : List ℕ
  pub blank : Blank skipped
  pub here : l ≡ skipped ++ blanks l

pub blanks_sound : (l : List ℕ) → Skipped l
unfolding blanks all
blanks_sound [] = record { skipped = []; blank = record { blank = refl }; here = refl }
blanks_sound (b ∷ l) = go (is_blank b) refl (blanks_sound l)
  where
    go : (t : Bool) → is_blank b ≡ t → Skipped l → Skipped (b ∷ l)
    go true is s = record {
      skipped = b ∷ s.skipped;
      blank = record { blank = rw (is, s.blank.blank) };
      here = rw is (ap (λ (m : List ℕ). b ∷ m) s.here);
    }
    go false is s = record { skipped = []; blank = record { blank = refl }; here = rw is }

pub blanks_complete : (w r : List ℕ) → Blank w → is_blank (first r) ≡ false → blanks (w ++ r) ≡ r
unfolding blanks all
blanks_complete [] [] h f = refl
blanks_complete [] (b ∷ r) h f = rw f
blanks_complete (x ∷ w) r h f =
    let p = both_true (is_blank x) (all is_blank w) h.blank in
    rw p.0 (blanks_complete w r (record { blank = p.1 }) f)

-- ---- keys

pub record KeyThere (l k rest : List ℕ) : Type 0 where
  pub bytes : List ℕ
  pub before : List ℕ
  pub behind : List ℕ
  pub spelled : Characters bytes k
  pub blank_before : Blank before
  pub blank_behind : Blank behind
  pub here : l ≡ quote ∷ (bytes ++ (before ++ (0x3a ∷ (behind ++ rest))))

pub respelled : {bs s t : List ℕ} → s ≡ t → Characters bs s → Characters bs t
respelled e c = rw e at c

pub placed_got : {A : Type 0} (f : List ℕ → List ℕ) (g : Got A) (a : A) (rest : List ℕ) → placed f g ≡ got a rest → g ≡ got a rest
placed_got f (got b m) a rest e = e
placed_got f (stop k m) a rest e = absurd (let z : ◌≡◌ {A = ℕ} 0 1 = cc in omega arith)

unless_got : {A : Type 0} (code : ℕ) (l : List ℕ) (a b : A) (rest past : List ℕ) → unless code l a rest ≡ got b past → (a ≡ b) × (rest ≡ past)
unless_got code l a b rest past e = go (eqb code 0) e
  where
    go : (t : Bool) → cond t (got a rest) (stop code l) ≡ got b past → (a ≡ b) × (rest ≡ past)
    go true f = (cc, cc)
    go false f = absurd (let z : ◌≡◌ {A = ℕ} 0 1 = cc in omega arith)

pub key_sound : (judge : List ℕ → ℕ) (l k rest : List ℕ) → key_at judge l ≡ got k rest → KeyThere l k rest
unfolding key_at string_at
key_sound judge [] k rest e = absurd (let z : ◌≡◌ {A = ℕ} 0 1 = cc in omega arith)
key_sound judge (b ∷ l) k rest e = go (eqb b quote) refl e
  where
    go : (t : Bool) → eqb b quote ≡ t
        → cond t (follow (placed bad_character (characters (length l) l)) (λ s r. follow (unless (judge s) (b ∷ l) s r) (λ known past. follow (ended 0x3a known (blanks past)) (λ key more. got key (blanks more))))) (stop not_json (b ∷ l)) ≡ got k rest
        → KeyThere (b ∷ l) k rest
    go false is f = absurd (let z : ◌≡◌ {A = ℕ} 0 1 = cc in omega arith)
    go true is f =
        let one = follow_got _ _ k rest f in
        let s = characters_sound (length l) l one.part one.behind (placed_got bad_character (characters (length l) l) one.part one.behind one.was) in
        let half = follow_got _ _ k rest one.gave in
        let u = unless_got (judge one.part) (b ∷ l) one.part half.part one.behind half.behind half.was in
        let two = follow_got _ _ k rest half.gave in
        let c = ended_got 0x3a (omega arith) half.part two.part (blanks half.behind) two.behind two.was in
        let x = blanks_sound half.behind in
        let y = blanks_sound two.behind in
        let ek : two.part ≡ k = (let g : got two.part (blanks two.behind) ≡ got k rest = two.gave in cc) in
        let er : blanks two.behind ≡ rest = (let g : got two.part (blanks two.behind) ≡ got k rest = two.gave in cc) in
        let e1 : two.behind ≡ y.skipped ++ rest = y.here ∙ ap (λ (m : List ℕ). y.skipped ++ m) er in
        let e2 : one.behind ≡ x.skipped ++ (0x3a ∷ (y.skipped ++ rest)) = u.1 ∙ x.here ∙ ap (λ (m : List ℕ). x.skipped ++ m) (c.0 ∙ ap (λ (m : List ℕ). 0x3a ∷ m) e1) in
        record {
          bytes = s.bytes;
          before = x.skipped;
          behind = y.skipped;
          spelled = respelled (u.0 ∙ c.1 ∙ ek) s.spelled;
          blank_before = x.blank;
          blank_behind = y.blank;
          here = (let eb = eqb-true b quote is in let el = s.here in cc);
        }

pub key_complete : {kb k : List ℕ} (judge : List ℕ → ℕ) (x y r : List ℕ) → Characters kb k → Blank x → Blank y → is_blank (first r) ≡ false → judge k ≡ 0
    → key_at judge (quote ∷ (kb ++ (x ++ (0x3a ∷ (y ++ r))))) ≡ got k r
unfolding key_at is_blank
key_complete judge x y r cs bx by f j =
    rw (string_complete cs (x ++ (0x3a ∷ (y ++ r))), j, blanks_complete x (0x3a ∷ (y ++ r)) bx refl, blanks_complete y r by f)
