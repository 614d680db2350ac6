-- A number is read part by part: a sign, an integer, a fraction, an exponent, each from where the one before it ends. Assumes nothing.
use mathlib.Core.Path.{◌≡◌, refl, ap, sym, ◌∙◌}
use mathlib.Core.Bool.{Bool, true, false, cond, ◌||◌}
use mathlib.Core.List.{List, ◌++◌}
use mathlib.Core.Option.{Option, none, some}
use Prim.Native.Nat.{ℕ, suc, ◌+◌}
use native.Mathlib.Omega.{arith}
use lib.Dec.{eqb, leb}
use lib.ListN.{take, drop, take-append-drop}
use lib.Seq.{drop-drop}
use Rattle.definitions.specs.Format.{then, check}
use Rattle.definitions.specs.JsonReader.{Got, got, stop, not_json, follow, first, digit_count, sign_count, whole_count, fraction_count, exponent_sign, exponent_count, number_count, bad_number, bad_whole, bad_fraction, bad_exponent}
use Rattle.definitions.specs.FormReader.{on_number}
use Rattle.json_theorems.proofs.Faith.{stopped}

-- n bytes of l, or a fault at `bad`
abbrev pub on_part : Option ℕ → List ℕ → List ℕ → Got ℕ
on_part none bad l = stop not_json bad
on_part (some n) bad l = got n (drop n l)

-- ---- the parts

abbrev pub byte_read : (ℕ → Bool) → List ℕ → Got ℕ
byte_read t l = cond (t (first l)) (got 1 (drop 1 l)) (got 0 l)

abbrev pub digits_read : List ℕ → Got ℕ
digits_read l = cond (leb 1 (digit_count l)) (got (digit_count l) (drop (digit_count l) l)) (stop not_json l)

abbrev pub whole_read : List ℕ → Got ℕ
whole_read l = cond (eqb (first l) 0x30) (got 1 (drop 1 l)) (digits_read l)

abbrev pub fraction_read : List ℕ → Got ℕ
fraction_read l = cond (eqb (first l) 0x2e) (follow (digits_read (drop 1 l)) (λ d m. got (suc d) m)) (got 0 l)

abbrev pub is_sign : ℕ → Bool
is_sign b = eqb b 0x2b || eqb b 0x2d

abbrev pub exponent_read : List ℕ → Got ℕ
exponent_read l =
    cond (eqb (first l) 0x65 || eqb (first l) 0x45) (follow (byte_read is_sign (drop 1 l)) (λ s m. follow (digits_read m) (λ d k. got (suc s + d) k))) (got 0 l)

abbrev pub is_minus : ℕ → Bool
is_minus b = eqb b 0x2d

unfoldable pub number_read : List ℕ → Got ℕ
number_read l =
    follow (byte_read is_minus l) (λ a l1. follow (whole_read l1) (λ w l2. follow (fraction_read l2) (λ f l3. follow (exponent_read l3) (λ e l4. got (a + w + f + e) l4))))

-- ---- they are what is counted

drop_one : (k : ℕ) (l : List ℕ) → drop k (drop 1 l) ≡ drop (suc k) l
drop_one k l = let e : 1 + k ≡ suc k = omega arith in drop-drop k 1 l ∙ ap (λ (n : ℕ). drop n l) e

byte_is : (t : ℕ → Bool) (l : List ℕ) → byte_read t l ≡ got (cond {A = ℕ} (t (first l)) 1 0) (drop (cond {A = ℕ} (t (first l)) 1 0) l)
byte_is t l = go (t (first l))
  where
    go : (b : Bool) → cond b (got 1 (drop 1 l)) (got 0 l) ≡ got (cond {A = ℕ} b 1 0) (drop (cond {A = ℕ} b 1 0) l)
    go true = refl
    go false = refl

pub digits_is : (l : List ℕ) → digits_read l ≡ on_part (check (leb 1 (digit_count l)) (some (digit_count l))) l l
digits_is l = go (leb 1 (digit_count l))
  where
    go : (b : Bool) → cond b (got (digit_count l) (drop (digit_count l) l)) (stop not_json l) ≡ on_part (check b (some (digit_count l))) l l
    go true = refl
    go false = refl

pub whole_is : (l : List ℕ) → whole_read l ≡ on_part (whole_count l) l l
whole_is l = go (eqb (first l) 0x30)
  where
    go : (b : Bool) → cond b (got 1 (drop 1 l)) (digits_read l) ≡ on_part (cond b (some 1) (check (leb 1 (digit_count l)) (some (digit_count l)))) l l
    go true = refl
    go false = digits_is l

pub fraction_is : (l : List ℕ) → fraction_read l ≡ on_part (fraction_count l) (drop 1 l) l
fraction_is l = go (eqb (first l) 0x2e)
  where
    by : (b : Bool) (n : ℕ) → follow (cond b (got n (drop n (drop 1 l))) (stop not_json (drop 1 l))) (λ d m. got (suc d) m) ≡ on_part (check b (some (suc n))) (drop 1 l) l
    by true n = rw (drop_one n l)
    by false n = refl

    go : (b : Bool) → cond b (follow (digits_read (drop 1 l)) (λ d m. got (suc d) m)) (got 0 l)
        ≡ on_part (cond b (check (leb 1 (digit_count (drop 1 l))) (some (suc (digit_count (drop 1 l))))) (some 0)) (drop 1 l) l
    go true = by (leb 1 (digit_count (drop 1 l))) (digit_count (drop 1 l))
    go false = refl

pub exponent_is : (l : List ℕ) → exponent_read l ≡ on_part (exponent_count l) (drop (suc (exponent_sign (drop 1 l))) l) l
exponent_is l = go (eqb (first l) 0x65 || eqb (first l) 0x45)
  where
    by : (b : Bool) (k : ℕ) → follow (cond b (got k (drop k (drop (suc (exponent_sign (drop 1 l))) l))) (stop not_json (drop (suc (exponent_sign (drop 1 l))) l))) (λ d m. got (suc (exponent_sign (drop 1 l)) + d) m)
        ≡ on_part (check b (some (suc (exponent_sign (drop 1 l)) + k))) (drop (suc (exponent_sign (drop 1 l))) l) l
    by true k = rw (drop-drop k (suc (exponent_sign (drop 1 l))) l)
    by false k = refl

    all' : follow (byte_read is_sign (drop 1 l)) (λ s m. follow (digits_read m) (λ d k. got (suc s + d) k))
        ≡ on_part (check (leb 1 (digit_count (drop (suc (exponent_sign (drop 1 l))) l))) (some (suc (exponent_sign (drop 1 l)) + digit_count (drop (suc (exponent_sign (drop 1 l))) l)))) (drop (suc (exponent_sign (drop 1 l))) l) l
    all' =
        ap (λ (g : Got ℕ). follow g (λ s m. follow (digits_read m) (λ d k. got (suc s + d) k))) (byte_is is_sign (drop 1 l))
        ∙ ap (λ (m : List ℕ). follow (digits_read m) (λ d k. got (suc (exponent_sign (drop 1 l)) + d) k)) (drop_one (exponent_sign (drop 1 l)) l)
        ∙ by (leb 1 (digit_count (drop (suc (exponent_sign (drop 1 l))) l))) (digit_count (drop (suc (exponent_sign (drop 1 l))) l))

    go : (b : Bool) → cond b (follow (byte_read is_sign (drop 1 l)) (λ s m. follow (digits_read m) (λ d k. got (suc s + d) k))) (got 0 l)
        ≡ on_part (cond b (check (leb 1 (digit_count (drop (suc (exponent_sign (drop 1 l))) l))) (some (suc (exponent_sign (drop 1 l)) + digit_count (drop (suc (exponent_sign (drop 1 l))) l)))) (some 0)) (drop (suc (exponent_sign (drop 1 l))) l) l
    go true = all'
    go false = refl

-- ---- the number, from its last part to its first

abbrev on_bytes : Option ℕ → List ℕ → List ℕ → Got (List ℕ)
on_bytes none bad l = stop not_json bad
on_bytes (some n) bad l = got (take n l) (drop n l)

module _ (l : List ℕ) where
  abbrev taken : Got ℕ → Got (List ℕ)
  taken g = follow g (λ n rest. got (take n l) rest)

  drop_next : (n : ℕ) → drop 1 (drop n l) ≡ drop (suc n) l
  drop_next n = let e : n + 1 ≡ suc n = omega arith in drop-drop 1 n l ∙ ap (λ (k : ℕ). drop k l) e

  by_exponent : (n : ℕ) → on_bytes (then (exponent_count (drop n l)) (λ e. some (n + e))) (bad_exponent n l) l ≡ taken (follow (exponent_read (drop n l)) (λ e m. got (n + e) m))
  by_exponent n = go (exponent_count (drop n l)) ∙ ap (λ (g : Got ℕ). taken (follow g (λ e m. got (n + e) m))) (sym (exponent_is (drop n l)))
    where
      go : (o : Option ℕ) → on_bytes (then o (λ e. some (n + e))) (bad_exponent n l) l ≡ taken (follow (on_part o (drop (suc (exponent_sign (drop 1 (drop n l)))) (drop n l)) (drop n l)) (λ e m. got (n + e) m))
      go none =
          ap (λ (m : List ℕ). stop not_json m)
          (ap (λ (m : List ℕ). drop (n + suc (exponent_sign m)) l) (sym (drop_next n)) ∙ sym (drop-drop (suc (exponent_sign (drop 1 (drop n l)))) n l))
      go (some e) = ap (λ (m : List ℕ). got (take (n + e) l) m) (sym (drop-drop e n l))

  by_fraction : (n : ℕ) → on_bytes (then (fraction_count (drop n l)) (λ f. then (exponent_count (drop (n + f) l)) (λ e. some (n + f + e)))) (bad_fraction n (fraction_count (drop n l)) l) l
      ≡ taken (follow (fraction_read (drop n l)) (λ f m. follow (exponent_read m) (λ e k. got (n + f + e) k)))
  by_fraction n = go (fraction_count (drop n l)) ∙ ap (λ (g : Got ℕ). taken (follow g (λ f m. follow (exponent_read m) (λ e k. got (n + f + e) k)))) (sym (fraction_is (drop n l)))
    where
      go : (o : Option ℕ) → on_bytes (then o (λ f. then (exponent_count (drop (n + f) l)) (λ e. some (n + f + e)))) (bad_fraction n o l) l
          ≡ taken (follow (on_part o (drop 1 (drop n l)) (drop n l)) (λ f m. follow (exponent_read m) (λ e k. got (n + f + e) k)))
      go none = ap (λ (m : List ℕ). stop not_json m) (sym (drop_next n))
      go (some f) = by_exponent (n + f) ∙ ap (λ (m : List ℕ). taken (follow (exponent_read m) (λ e k. got (n + f + e) k))) (sym (drop-drop f n l))

  by_whole : (a : ℕ) → a ≡ sign_count l
      → on_bytes (then (whole_count (drop a l)) (λ w. then (fraction_count (drop (a + w) l)) (λ f. then (exponent_count (drop (a + w + f) l)) (λ e. some (a + w + f + e))))) (bad_whole (whole_count (drop a l)) l) l
      ≡ taken (follow (whole_read (drop a l)) (λ w m. follow (fraction_read m) (λ f j. follow (exponent_read j) (λ e k. got (a + w + f + e) k))))
  by_whole a is = go (whole_count (drop a l)) ∙ ap (λ (g : Got ℕ). taken (follow g (λ w m. follow (fraction_read m) (λ f j. follow (exponent_read j) (λ e k. got (a + w + f + e) k))))) (sym (whole_is (drop a l)))
    where
      go : (o : Option ℕ) → on_bytes (then o (λ w. then (fraction_count (drop (a + w) l)) (λ f. then (exponent_count (drop (a + w + f) l)) (λ e. some (a + w + f + e))))) (bad_whole o l) l
          ≡ taken (follow (on_part o (drop a l) (drop a l)) (λ w m. follow (fraction_read m) (λ f j. follow (exponent_read j) (λ e k. got (a + w + f + e) k))))
      go none = ap (λ (k : ℕ). stop not_json (drop k l)) (sym is)
      go (some w) =
          ap (λ (k : ℕ). on_bytes (then (fraction_count (drop (a + w) l)) (λ f. then (exponent_count (drop (a + w + f) l)) (λ e. some (a + w + f + e)))) (bad_fraction (k + w) (fraction_count (drop (k + w) l)) l) l) (sym is)
          ∙ by_fraction (a + w) ∙ ap (λ (m : List ℕ). taken (follow (fraction_read m) (λ f j. follow (exponent_read j) (λ e k. got (a + w + f + e) k)))) (sym (drop-drop w a l))

  on_bytes_lem : (o : Option ℕ) → on_number o l ≡ on_bytes o (bad_number l) l
  on_bytes_lem none = refl
  on_bytes_lem (some n) = refl

  pub number_is : on_number (number_count l) l ≡ taken (number_read l)
  unfolding number_count bad_number number_read
  number_is = on_bytes_lem (number_count l) ∙ by_whole (sign_count l) refl ∙ ap (λ (g : Got ℕ). taken (follow g (λ a m. follow (whole_read m) (λ w k. follow (fraction_read k) (λ f j. follow (exponent_read j) (λ e i. got (a + w + f + e) i)))))) (sym (byte_is is_minus l))

  -- what was read is what stands in front of the rest
  pub number_rest : (n : ℕ) (m : List ℕ) → number_read l ≡ got n m → take n l ++ m ≡ l
  number_rest n m e = go (number_count l) (number_is ∙ ap taken e)
    where
      go : (o : Option ℕ) → on_number o l ≡ got (take n l) m → take n l ++ m ≡ l
      go none x = stopped x
      go (some k) x =
          let et : take k l ≡ take n l = cc in
          let er : drop k l ≡ m = cc in
          ap (λ (t : List ℕ). t ++ m) (sym et) ∙ ap (λ (t : List ℕ). take k l ++ t) (sym er) ∙ take-append-drop k l
