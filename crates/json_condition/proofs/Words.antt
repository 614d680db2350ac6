-- Words are told by two numbers: what a word means is found by comparing them.
use mathlib.Core.Path.{◌≡◌, refl, sym}
use mathlib.Core.Bool.{Bool, true, false, cond}
use mathlib.Core.List.{List, [], ◌∷◌}
use mathlib.Core.Option.{Option, none, some}
use Rattle.std.specs.Prelude as code
use Prim.Native.Nat.{ℕ, ◌≤◌}
use native.Mathlib.Omega.{arith}
use borrow.Author.Tests.{eq-eqb, ne_eqb}
use Rattle.definitions.specs.Json.{ascii, all}
use Rattle.definitions.specs.JsonForm.{same, Word, word_of, action_words, width_words, operator_words, numbered_words}
use Rattle.definitions.specs.Format.{check}
use Rattle.json_theorems.proofs.Values.{same_true}
use Rattle.json_theorems.proofs.Tests.{none_not_some}
use Rattle.json_parts.specs.declared.Word.{Word as Packed}
use Rattle.json_parts.specs.Words.{Packs, fits, is_word}
use Rattle.json_parts.proofs.Words.{is_word_lem}
use Rattle.json_scan.specs.Scan.{option_of}
use Rattle.json_condition.specs.Words.{key_known, key_meant}

-- ---- what may be there, as the code has it

pub there_is : {A : Type 0} (o : Option A) (a : A) → code.Some a ≡ option_of o → o ≡ some a
there_is none a e = cc
there_is (some b) a e = cc

pub there_is_none : {A : Type 0} (o : Option A) → code.None ≡ option_of o → o ≡ none
there_is_none none e = refl
there_is_none (some b) e = cc

-- ---- a list of words

abbrev pub chosen : {A : Type 0} → List (Word A) → Packed → code.Option A
chosen [] r = code.None
chosen (x ∷ xs) r = cond (is_word (ascii x.word) r) (code.Some x.meant) (chosen xs r)

abbrev AllFit : {A : Type 0} → List (Word A) → Type 0
AllFit [] = Unit {0}
AllFit (x ∷ xs) = (fits (ascii x.word) ≡ true) × AllFit xs

chosen_is : {A : Type 0} (ws : List (Word A)) (s : List ℕ) (r : Packed) → AllFit ws → Packs s r → chosen ws r ≡ option_of (word_of ws s)
chosen_is [] s r h p = refl
chosen_is (x ∷ xs) s r h p = rw (is_word_lem x.word s r h.0 p) (go (is_word (ascii x.word) r) (chosen_is xs s r h.1 p))
  where
    go : (b : Bool) → chosen xs r ≡ option_of (word_of xs s) → cond b (code.Some x.meant) (chosen xs r) ≡ option_of (cond b (some x.meant) (word_of xs s))
    go true e = refl
    go false e = e

-- ---- the lists of the form

pub action_chosen : (s : List ℕ) (r : Packed) → Packs s r → chosen action_words r ≡ option_of (word_of action_words s)
unfolding fits ascii all
action_chosen s r p = chosen_is action_words s r (refl, (refl, (refl, (refl, (refl, (refl, tt)))))) p

pub width_chosen : (s : List ℕ) (r : Packed) → Packs s r → chosen width_words r ≡ option_of (word_of width_words s)
unfolding fits ascii all
width_chosen s r p = chosen_is width_words s r (refl, (refl, tt)) p

pub operator_chosen : (s : List ℕ) (r : Packed) → Packs s r → chosen operator_words r ≡ option_of (word_of operator_words s)
unfolding fits ascii all
operator_chosen s r p = chosen_is operator_words s r (refl, (refl, (refl, (refl, (refl, (refl, tt)))))) p

-- ---- the only key of an object

pub numbered_chosen : (s : List ℕ) (r : Packed) → Packs s r → chosen numbered_words r ≡ option_of (key_known false s)
unfolding fits ascii all
numbered_chosen s r p = chosen_is numbered_words s r (refl, (refl, tt)) p

masked_is : (s : List ℕ) (r : Packed) → Packs s r → same (ascii "masked_eq") s ≡ is_word (ascii "masked_eq") r
unfolding fits ascii all
masked_is s r p = is_word_lem "masked_eq" s r refl p

pub masked_chosen : (s : List ℕ) (r : Packed) → Packs s r → cond {A = code.Option ℕ} (is_word (ascii "masked_eq") r) (code.Some 0) code.None ≡ option_of (key_known true s)
masked_chosen s r p = rw (masked_is s r p) (go (is_word (ascii "masked_eq") r))
  where
    go : (b : Bool) → cond {A = code.Option ℕ} b (code.Some 0) code.None ≡ option_of (check b (some 0))
    go true = refl
    go false = refl

-- a key is told by what it stands for, which is small
pub record Named (k : List ℕ) (n : ℕ) : Type 0 where
  pub key : k ≡ key_meant n
  pub small : n ≤ 2147483648

pub key_named : (masked : Bool) (k : List ℕ) (n : ℕ) → key_known masked k ≡ some n → Named k n
unfolding key_meant
key_named true k n e = go (same (ascii "masked_eq") k) refl e
  where
    go : (b : Bool) → same (ascii "masked_eq") k ≡ b → check b (some 0) ≡ some n → Named k n
    go true h d = let z : 0 ≡ n = cc in rw (← z) (record { key = sym (same_true _ _ h); small = omega arith })
    go false h d = absurd (none_not_some d)
key_named false k n e = go (same (ascii "errno") k) (same (ascii "trace") k) refl refl e
  where
    go : (a b : Bool) → same (ascii "errno") k ≡ a → same (ascii "trace") k ≡ b → cond a (some 0x50000) (cond b (some 0x7ff00000) none) ≡ some n → Named k n
    go true b h i d = let z : 0x50000 ≡ n = cc in rw (← z) (record { key = sym (same_true _ _ h); small = omega arith })
    go false true h i d = let z : 0x7ff00000 ≡ n = cc in rw (← z) (record { key = sym (same_true _ _ i); small = omega arith })
    go false false h i d = absurd (none_not_some d)

-- ---- a second key

module _ (n : ℕ) (s : List ℕ) (r : Packed) (p : Packs s r) where
  pub again_errno : n ≡ 0x50000 → is_word (ascii "errno") r ≡ same (key_meant n) s
  unfolding key_meant fits ascii all
  again_errno e = rw (eq-eqb n 0x50000 e) (sym (is_word_lem "errno" s r refl p))

  pub again_trace : (n ≡ 0x50000 → ⊥) → n ≡ 0x7ff00000 → is_word (ascii "trace") r ≡ same (key_meant n) s
  unfolding key_meant fits ascii all
  again_trace h e = rw (ne_eqb n 0x50000 h, eq-eqb n 0x7ff00000 e) (sym (is_word_lem "trace" s r refl p))

  pub again_masked : (n ≡ 0x50000 → ⊥) → (n ≡ 0x7ff00000 → ⊥) → is_word (ascii "masked_eq") r ≡ same (key_meant n) s
  unfolding key_meant
  again_masked h e = rw (ne_eqb n 0x50000 h, ne_eqb n 0x7ff00000 e) (sym (masked_is s r p))
