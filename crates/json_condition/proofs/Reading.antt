-- What is told of a part, by places alone: the text behind it, or from the fault on, is the text from the place that is told.
use mathlib.Core.Path.{◌≡◌, refl, ap, sym, ◌∙◌}
use mathlib.Core.Bool.{true, false}
use mathlib.Core.List.{List}
use mathlib.Core.Option.{Option, none, some}
use Prim.Native.Nat.{ℕ, ◌+◌, ◌-◌, ◌%◌, ◌^◌, ◌≤◌, ◌<◌}
use lib.Dec.{eqb, leb}
use lib.ListN.{length, drop}
use borrow.Author.Tests.{le-leb, lt-leb}
use Rattle.definitions.specs.declared.Operator.TheVariants.{MaskedEq}
use Rattle.definitions.specs.Format.{then, check}
use Rattle.definitions.specs.Json.{quote, ascii}
use Rattle.definitions.specs.JsonForm.{same, word_of, action_words, numbered_words, operator_words}
use Rattle.definitions.specs.JsonReader.{Got, got, stop, follow, first}
use Rattle.definitions.specs.FormReader.{not_of_form, wrong_index, judged, asked, put_in, word_there, one_there, string_there, either_there, natural_there, action_there, operator_there}
use Rattle.std.specs.Prelude.{Result, Ok, Err, IsErrAnd}
use Rattle.json_scan.specs.Scan.{Either, Tells}
use Rattle.json_scan.specs.Telling.{code_of, code_in, place_in}
use Rattle.json_scan.specs.declared.Misread.{Misread}
use Rattle.json_scan.specs.declared.Read.{Read as Read_of}
use Rattle.json_scan.proofs.Telling.{came, refused}

pub record Read {A : Type 0} (text : List ℕ) (from : ℕ) (Is : A → Type 0) (g : Got A) (at : ℕ) : Type 0 where
  pub part : A
  pub same : g ≡ got part (drop at text)
  pub on : from < at
  pub inside : at ≤ length text
  pub value : Is part

pub record Faulty {A : Type 0} (text : List ℕ) (g : Got A) (code at : ℕ) : Type 0 where
  pub same : g ≡ stop code (drop at text)
  pub fault : 0 < code
  pub inside : at ≤ length text

module _ {A : Type 0} {text : List ℕ} {from code at : ℕ} {Is : A → Type 0} {g : Got A} where
  pub read : Tells text from Is g code at → code ≡ 0 → Read text from Is g at
  read t e =
      let c = came t e in
      record { part = c.part; same = c.got_it ∙ ap (λ (l : List ℕ). got c.part l) (sym c.place.behind); on = c.on; inside = c.place.inside; value = c.value }

  pub faulty : Tells text from Is g code at → (code ≡ 0 → ⊥) → Faulty text g code at
  faulty t n = go g t.tells
    where
      go : (h : Got A) → Either text from Is h code at → Faulty text h code at
      go (got a rest) s = absurd (n s.fine)
      go (stop k rest) s = record { same = cc (s.told, s.place.behind); fault = rw s.told s.some; inside = s.place.inside }

  pub tell_read : (a : A) → code ≡ 0 → g ≡ got a (drop at text) → from < at → at ≤ length text → Is a → Tells text from Is g code at
  tell_read a c e o i v = record { tells = rw e (record { fine = c; on = o; place = record { inside = i; behind = refl }; value = v }) }

  pub tell_fault : Faulty text g code at → Tells text from Is g code at
  tell_fault f = record { tells = rw f.same (record { told = refl; some = f.fault; place = record { inside = f.inside; behind = refl } }) }

-- another reader stops where this one does
pub stopped : {A B : Type 0} {text : List ℕ} {from : ℕ} {Is : A → Type 0} {g : Got A} {h : Got B} (e : Misread)
    → Tells text from Is g (code_of e.why) e.at → (g ≡ stop (code_of e.why) (drop e.at text) → h ≡ stop (code_of e.why) (drop e.at text)) → Faulty text h (code_of e.why) e.at
stopped e t law = let f = faulty t (refused e.why) in record { same = law f.same; fault = f.fault; inside = f.inside }

-- a fault is handed on by `?`
pub handed : {A V : Type 0} {text : List ℕ} {from : ℕ} {Is : A → Type 0} {g : Got A} (r : Result (Read_of V) Misread) (e : Misread)
    → IsErrAnd r (λ y. y ≡ e) → Faulty text g (code_of e.why) e.at → Tells text from Is g (code_in r) (place_in r)
handed (Ok x) e i f = absurd i
handed (Err y) e i f = rw i (tell_fault f)

-- ---- a value that was read and made into something else

pub got_number : {g : Got ℕ} {m n : ℕ} {rest : List ℕ} → g ≡ got n rest → m ≡ n → g ≡ got m rest
got_number e f = rw f e

pub put_got : {A B : Type 0} {g : Got A} {a : A} {rest : List ℕ} (add : A → B) → g ≡ got a rest → follow g (λ x more. got (add x) more) ≡ got (add a) rest
put_got add e = rw e

pub sum : {a b x y : ℕ} → a ≡ b → x ≡ y → a + x % 65536 ≡ b + y % 2 ^ 16
sum e f = rw (e, f)

pub then_none : {A B : Type 0} {o : Option A} (f : A → Option B) → o ≡ none → then o f ≡ none
then_none f e = rw e

pub then_known : {A B : Type 0} {o : Option A} {a : A} (f : A → Option B) → o ≡ some a → then o f ≡ f a
then_known f e = rw e

-- ---- words

module _ {A : Type 0} (g : List ℕ → Option A) (l : List ℕ) where
  pub word_stops : (k : ℕ) (m : List ℕ) → string_there l ≡ stop k m → word_there g l ≡ stop k m
  unfolding word_there judged
  word_stops k m e = rw e

  pub word_unknown : (s rest : List ℕ) → string_there l ≡ got s rest → g s ≡ none → word_there g l ≡ stop not_of_form l
  unfolding word_there judged
  word_unknown s rest e n = rw (e, n)

  pub word_known : (s rest : List ℕ) (a : A) → string_there l ≡ got s rest → g s ≡ some a → word_there g l ≡ got a rest
  unfolding word_there judged
  word_known s rest a e n = rw (e, n)

-- ---- what is told by a reader that is the same

pub tell_same : {A : Type 0} {text : List ℕ} {from : ℕ} {Is : A → Type 0} {g h : Got A} {code at : ℕ} → g ≡ h → Tells text from Is h code at → Tells text from Is g code at
tell_same e t = rw e t

-- ---- an index

module _ (l : List ℕ) where
  pub index_stops : (k : ℕ) (m : List ℕ) → natural_there 255 l ≡ stop k m → judged (λ i. asked (leb i 5) wrong_index i) (natural_there 255) l ≡ stop k m
  unfolding judged
  index_stops k m e = rw e

  module _ (i : ℕ) (rest : List ℕ) (e : natural_there 255 l ≡ got i rest) where
    pub index_high : 5 < i → judged (λ i. asked (leb i 5) wrong_index i) (natural_there 255) l ≡ stop wrong_index l
    unfolding judged
    index_high h = rw (e, lt-leb i 5 h)

    pub index_fine : i ≤ 5 → judged (λ i. asked (leb i 5) wrong_index i) (natural_there 255) l ≡ got i rest
    unfolding judged
    index_fine h = rw (e, le-leb i 5 h)

-- ---- actions and operators: a word or an object

module _ (l : List ℕ) where
  pub action_word : eqb (first l) quote ≡ true → action_there l ≡ word_there (word_of action_words) l
  unfolding action_there either_there
  action_word e = rw e

  pub action_object : eqb (first l) quote ≡ false → action_there l ≡ one_there (word_of numbered_words) (λ w. put_in (λ n. w + n % 2 ^ 16) (natural_there (2 ^ 32 - 1))) l
  unfolding action_there either_there
  action_object e = rw e

  pub operator_word : eqb (first l) quote ≡ true → operator_there l ≡ word_there (λ s. then (word_of operator_words s) (λ o. some (record { operator = o; mask = 0 }))) l
  unfolding operator_there either_there
  operator_word e = rw e

  pub operator_object : eqb (first l) quote ≡ false
      → operator_there l ≡ one_there {A = ℕ} (λ k. check (same (ascii "masked_eq") k) (some 0)) (λ w. put_in (λ m. record { operator = MaskedEq; mask = m }) (natural_there (2 ^ 64 - 1))) l
  unfolding operator_there either_there
  operator_object e = rw e
