-- The entry of one line in the buffer: what its bytes say, and that they stay where other bytes are written. Assumes nothing.
use mathlib.Core.Path.{◌≡◌, refl, ap, sym, ◌∙◌}
use mathlib.Core.Bool.{cond}
use mathlib.Core.List.{List, [], ◌∷◌, ◌++◌, append_assoc}
use Prim.Native.Nat.{ℕ, zero, suc, ◌+◌, ◌-◌, ◌*◌, ◌^◌, ◌≤◌, ◌<◌}
use native.Mathlib.Nat.{zero-add, suc-add}
use native.Mathlib.Omega.{arith}
use lib.ListN.{length, take, drop, length-append, take-append-drop}
use lib.Seq.{take-nil, take_at, drop_at, take-take, drop-drop}
use lib.Dec.{eqb}
use borrow.Author.Tests.{eq-eqb, ne_eqb}
use Rattle.definitions.specs.Word.{bytes_of, number_at}
use Rattle.definitions.specs.RuleSet.{Rule, Entry}
use Rattle.definitions.specs.Format.{joined, encode_condition, encode_rule, encode_entry}
use Rattle.theorems.proofs.Words.{length_bytes, number_front}
use Rattle.theorems.proofs.Forms.{length_condition, length_rule, length_entry, short_count}
use Rattle.sort.proofs.Keys.{number_dropped}
use Rattle.collect.specs.Raw.{Stands, past_entry}

-- ---- bytes that stand at a place

stands_whole : (s bs : List ℕ) (at : ℕ) → Stands s at bs → drop at s ≡ bs ++ drop (length bs) (drop at s)
stands_whole s bs at h = sym (take-append-drop (length bs) (drop at s)) ∙ ap (λ (m : List ℕ). m ++ drop (length bs) (drop at s)) h

pub stands_front : (s a b : List ℕ) (at : ℕ) → Stands s at (a ++ b) → Stands s at a
stands_front s a b at h = ap (λ (m : List ℕ). take (length a) m) (stands_whole s (a ++ b) at h ∙ append_assoc a b _) ∙ take_at a _ (length a) refl

pub stands_behind : (s a b : List ℕ) (at i : ℕ) → length a ≡ i → Stands s at (a ++ b) → Stands s (at + i) b
stands_behind s a b at i e h =
    ap (λ (m : List ℕ). take (length b) m) (sym (drop-drop i at s) ∙ ap (λ (m : List ℕ). drop i m) (stands_whole s (a ++ b) at h ∙ append_assoc a b _) ∙ drop_at a _ i e)
    ∙ take_at b _ (length b) refl

stands_number : (w x : ℕ) (s a b : List ℕ) (at i : ℕ) → length a ≡ i → x < 256 ^ w → Stands s at (a ++ (bytes_of w x ++ b)) → number_at w s (at + i) ≡ x
stands_number w x s a b at i e small h =
    let rest : List ℕ = drop (length (bytes_of w x ++ b)) (drop (at + i) s) in
    let whole : drop (at + i) s ≡ bytes_of w x ++ (b ++ rest) = stands_whole s (bytes_of w x ++ b) (at + i) (stands_behind s a (bytes_of w x ++ b) at i e h) ∙ append_assoc (bytes_of w x) b rest in
    let zero_on : at + i ≡ at + i + 0 = omega arith in
    ap (λ (k : ℕ). number_at w s k) zero_on ∙ sym (number_dropped w s (at + i) 0) ∙ ap (λ (m : List ℕ). number_at w m 0) whole ∙ number_front w x (b ++ rest) small

drop_take : {A : Type 0} (a n : ℕ) (l : List A) → drop a (take (a + n) l) ≡ take n (drop a l)
drop_take zero n l = rw zero-add
drop_take {A} (suc a) n [] = rw (suc-add, take-nil) refl
drop_take (suc a) n (x ∷ l) = rw suc-add (drop_take a n l)

-- they stay where what is in front of a place stays
pub stands_before : (s t bs : List ℕ) (at m : ℕ) → take m t ≡ take m s → at + length bs ≤ m → Stands s at bs → Stands t at bs
stands_before s t bs at m e h st =
    let same : take (at + length bs) t ≡ take (at + length bs) s =
    sym (take-take (at + length bs) m t h) ∙ ap (λ (l : List ℕ). take (at + length bs) l) e ∙ take-take (at + length bs) m s h in
    sym (drop_take at (length bs) t) ∙ ap (λ (l : List ℕ). drop at l) same ∙ drop_take at (length bs) s ∙ st

-- they stay where what is behind a place stays
pub stands_after : (s t bs : List ℕ) (at m : ℕ) → drop m t ≡ drop m s → m ≤ at → Stands s at bs → Stands t at bs
stands_after s t bs at m e h st =
    let far : m + (at - m) ≡ at = omega arith in
    let same : drop at t ≡ drop at s =
    ap (λ (k : ℕ). drop k t) (sym far) ∙ sym (drop-drop (at - m) m t) ∙ ap (λ (l : List ℕ). drop (at - m) l) e ∙ drop-drop (at - m) m s ∙ ap (λ (k : ℕ). drop k s) far in
    ap (λ (l : List ℕ). take (length bs) l) same ∙ st

-- ---- what the bytes of an entry say

pub joined_append : {A : Type 0} (enc : A → List ℕ) (xs ys : List A) → joined enc (xs ++ ys) ≡ joined enc xs ++ joined enc ys
joined_append enc [] ys = refl
joined_append enc (x ∷ xs) ys = rw (joined_append enc xs ys, append_assoc)

length_conditions : (r : Rule) → length (joined encode_condition r) ≡ 24 * length r
length_conditions [] = refl
length_conditions (q ∷ r) = length-append (encode_condition q) (joined encode_condition r) ∙ (let l = length_condition q in let m = length_conditions r in omega arith)

some_rule_byte : (r : Rule) → 1 ≤ length (encode_rule r)
some_rule_byte r = let l = length_rule r in omega arith

rule_count : (s : List ℕ) (at : ℕ) (r : Rule) → Stands s at (encode_rule r) → length r < 2 ^ 32 → number_at 4 s at ≡ length r
unfolding encode_rule
rule_count s at r st h =
    let n : at ≡ at + 0 = omega arith in
    ap (λ (k : ℕ). number_at 4 s k) n ∙ stands_number 4 (length r) s [] (joined encode_condition r) at 0 refl h st

module _ (s : List ℕ) (at : ℕ) (e : Entry) (st : Stands s at (encode_entry e)) (small : length (encode_entry e) ≤ 4194304) where
  few_rules : length e.rules < 4194304
  few_rules = let l = length_entry e in let m = short_count encode_rule some_rule_byte e.rules in omega arith

  pub entry_number : e.number < 2 ^ 32 → number_at 4 s at ≡ e.number
  unfolding encode_entry
  entry_number h =
      let n : at ≡ at + 0 = omega arith in
      ap (λ (k : ℕ). number_at 4 s k) n ∙ stands_number 4 e.number s [] (bytes_of 4 (length e.rules) ++ joined encode_rule e.rules) at 0 refl h st

  pub entry_count : number_at 4 s (at + 4) ≡ length e.rules
  unfolding encode_entry
  entry_count = stands_number 4 (length e.rules) s (bytes_of 4 e.number) (joined encode_rule e.rules) at 4 (length_bytes 4 e.number) (let f = few_rules in omega arith) st

  pub entry_rules : Stands s (at + 8) (joined encode_rule e.rules)
  unfolding encode_entry
  entry_rules =
      stands_behind s (bytes_of 4 e.number ++ bytes_of 4 (length e.rules)) (joined encode_rule e.rules) at 8
      (simp (length-append, length_bytes)) (rw append_assoc st)

  pub entry_past_lem : length e.rules ≤ 1 → past_entry s at ≡ at + length (encode_entry e)
  unfolding past_entry
  entry_past_lem h = go e.rules refl
    where
      go : (rs : List Rule) → e.rules ≡ rs → cond (eqb (number_at 4 s (at + 4)) 0) (at + 8) (at + 12 + 24 * number_at 4 s (at + 8)) ≡ at + length (encode_entry e)
      go [] p =
          let none : number_at 4 s (at + 4) ≡ 0 = entry_count ∙ ap length p in
          let long : length (encode_entry e) ≡ 8 = length_entry e ∙ ap (λ (rs : List Rule). 8 + length (joined encode_rule rs)) p in
          rw (eq-eqb (number_at 4 s (at + 4)) 0 none) (omega arith)
      go (r ∷ []) p =
          let one : number_at 4 s (at + 4) ≡ 1 = entry_count ∙ ap length p in
          let long : length (encode_entry e) ≡ 8 + length (encode_rule r ++ []) = length_entry e ∙ ap (λ (rs : List Rule). 8 + length (joined encode_rule rs)) p in
          let l = length-append (encode_rule r) [] in
          let m = length_rule r in
          let k = length_conditions r in
          let there : Stands s (at + 8) (encode_rule r ++ []) = rw p at entry_rules in
          let count : number_at 4 s (at + 8) ≡ length r = rule_count s (at + 8) r (stands_front s (encode_rule r) [] (at + 8) there) (omega arith) in
          rw (ne_eqb (number_at 4 s (at + 4)) 0 (λ q. omega arith)) (omega arith)
      go (r ∷ (q ∷ rs)) p = absurd (let l = ap length p in omega arith)
