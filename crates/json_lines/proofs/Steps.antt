-- What is told of a part that is read in steps, and of a loop of the reader: one turn of it, by what is told of the turn's steps. Assumes nothing.
use mathlib.Core.Path.{◌≡◌, refl, ap, sym, subst, ◌∙◌}
use mathlib.Core.Bool.{Bool, true, false, cond}
use mathlib.Core.List.{List, [], ◌∷◌, ◌++◌}
use Prim.Native.Nat.{ℕ, zero, suc, ◌+◌, ◌-◌, ◌≤◌, ◌<◌}
use native.Mathlib.Nat.{add-zero}
use native.Mathlib.Numerals.{add-one}
use native.Mathlib.Omega.{arith}
use lib.Dec.{eqb, ltb}
use lib.ListN.{length, drop, get_or, length-drop, drop_of_length-le}
use lib.Seq.{get_or-drop, drop-drop, drop-cons}
use borrow.Author.Tests.{eqb-true, ltb-true, ltb-false}
use Rattle.definitions.specs.JsonReader.{Got, got, stop, not_json, follow, first, blanks, items}
use Rattle.definitions.specs.FormReader.{list_there}
use Rattle.json_theorems.specs.Turns.{open_there, more_there}
use Rattle.json_theorems.proofs.Turns.{onward, list_turns, list_turn, list_begins}
use Rattle.json_theorems.proofs.Sizes.{blanks_size}
use Rattle.std.specs.Prelude.{Result, Ok, Err, IfOk, IsErrAnd}
use Rattle.json_scan.specs.Scan.{At, Either, Tells}
use Rattle.json_scan.specs.Telling.{code_of, code_in, place_in}
use Rattle.json_scan.specs.declared.Misread.{Misread}
use Rattle.json_scan.specs.declared.Read.{Read}
use Rattle.json_scan.proofs.Telling.{Came, came, handed_on}
use Rattle.json_lines.specs.Lines.{begin_there}

pub tells_got : {A : Type 0} {text : List ℕ} {from code at : ℕ} {Is : A → Type 0} {g : Got A} {a : A} {rest : List ℕ}
    → g ≡ got a rest → code ≡ 0 → from < at → At text rest at → Is a → Tells text from Is g code at
tells_got e z on p v = rw e (record { tells = record { fine = z; on = on; place = p; value = v } })

pub tells_stop : {A : Type 0} {text : List ℕ} {from code at : ℕ} {Is : A → Type 0} {g : Got A} {k : ℕ} {rest : List ℕ}
    → g ≡ stop k rest → code ≡ k → 0 < k → At text rest at → Tells text from Is g code at
tells_stop e z s p = rw e (record { tells = record { told = z; some = s; place = p } })

-- what was read, made into something else
pub tells_map : {A B : Type 0} {text : List ℕ} {from code at : ℕ} {Is : A → Type 0} {Is' : B → Type 0} {g : Got A} (f : A → B)
    → ((a : A) → Is a → Is' (f a)) → Tells text from Is g code at → Tells text from Is' (follow g (λ a rest. got (f a) rest)) code at
tells_map {text = text} {from} {code} {at} {Is} {Is'} {g} f is t = record { tells = go g t.tells }
  where
    go : (h : Got _) → Either text from Is h code at → Either text from Is' (follow h (λ a rest. got (f a) rest)) code at
    go (got a rest) s = record { fine = s.fine; on = s.on; place = s.place; value = is a s.value }
    go (stop k rest) s = s

-- the same, told from a place in front
pub tells_before : {A : Type 0} {text : List ℕ} {from before code at : ℕ} {Is Is' : A → Type 0} {g : Got A}
    → before ≤ from → ((a : A) → Is a → Is' a) → Tells text from Is g code at → Tells text before Is' g code at
tells_before {text = text} {from} {before} {code} {at} {Is} {Is'} {g} h is t = record { tells = go g t.tells }
  where
    go : (x : Got _) → Either text from Is x code at → Either text before Is' x code at
    go (got a rest) s = record { fine = s.fine; on = (let o = s.on in omega arith); place = s.place; value = is a s.value }
    go (stop k rest) s = s

-- a fault that `?` hands on
pub handed : {A V : Type 0} {text : List ℕ} {from : ℕ} {Is : A → Type 0} {g : Got A} (r : Result (Read V) Misread) (e : Misread)
    → IsErrAnd r (λ y. y ≡ e) → Tells text from Is g (code_of e.why) e.at → Tells text from Is g (code_in r) (place_in r)
handed (Ok x) e i t = absurd i
handed (Err y) e i t = rw i t

pub no_value : {V : Type 0} (P : Read V → Type 0) (r : Result (Read V) Misread) (e : Misread) → IsErrAnd r (λ y. y ≡ e) → IfOk r P
no_value P (Ok x) e i = absurd i
no_value P (Err y) e i = tt

-- blanks go forth
pub blanks_on : (text : List ℕ) (at start : ℕ) → at ≤ length text → At text (blanks (drop at text)) start → at ≤ start
blanks_on text at start h p =
    let e = ap length p.behind in
    let i = p.inside in
    omega (arith, length-drop start text, length-drop at text, blanks_size (drop at text))

-- what is read behind blanks
pub from_blanks : {A : Type 0} {text : List ℕ} {at start code past : ℕ} {Is : A → Type 0} (r : List ℕ → Got A) → at ≤ length text
    → At text (blanks (drop at text)) start → Tells text start Is (r (drop start text)) code past → Tells text at Is (r (blanks (drop at text))) code past
from_blanks {text = text} {at} {start} r h p t = rw (← p.behind) (tells_before (blanks_on text at start h p) (λ a x. x) t)

-- ---- the bytes at a place

pub first_there : (text : List ℕ) (at : ℕ) → get_or text at 0 ≡ first (drop at text)
first_there text at = sym (get_or-drop at text 0 0 ∙ rw add-zero)

pub first_inside : (text : List ℕ) (at b : ℕ) → first (drop at text) ≡ b → 0 < b → at < length text
first_inside text at b e k = go (ltb at (length text)) refl
  where
    go : (t : Bool) → ltb at (length text) ≡ t → at < length text
    go true h = ltb-true at (length text) h
    go false h = absurd (let d : first (drop at text) ≡ 0 = rw (drop_of_length-le text {i = at} (ltb-false at (length text) h)) in omega arith)

-- ---- a bracket that begins

module _ {text : List ℕ} {at code past : ℕ} {Is₀ : ℕ → Type 0} (opening closing : ℕ) (told : Tells text at Is₀ (open_there opening (drop at text)) code past) where
  pub begin_no : {Is : Bool → Type 0} → (code ≡ 0 → ⊥) → Tells text at Is (begin_there opening closing (drop at text)) code past
  unfolding begin_there
  begin_no h = handed_on _ told h

  module _ (z : code ≡ 0) {next : ℕ} (p : At text (blanks (drop past text)) next) where
    begin_test : (b : Bool) → b ≡ eqb (first (drop next text)) closing
        → begin_there opening closing (drop at text) ≡ cond b (got false (drop 1 (drop next text))) (got true (drop past text))
    unfolding begin_there
    begin_test b e = let c = came told z in rw (c.got_it, ← c.place.behind, ← p.behind, ← e)

    pub begin_empty : true ≡ eqb (first (drop next text)) closing → 0 < closing → Tells text at (λ more. false ≡ more) (begin_there opening closing (drop at text)) 0 (next + 1)
    begin_empty e k =
        let c = came told z in
        let i = first_inside text next closing (eqb-true _ _ (sym e)) k in
        let o = blanks_on text past next c.place.inside p in
        tells_got (begin_test true e) refl (omega (arith, c.on)) (record { inside = omega arith; behind = sym (drop-drop 1 next text) }) refl

    pub begin_filled : false ≡ eqb (first (drop next text)) closing → Tells text at (λ more. true ≡ more) (begin_there opening closing (drop at text)) 0 past
    begin_filled e = let c = came told z in tells_got (begin_test false e) refl c.on (record { inside = c.place.inside; behind = refl }) refl

-- a bracket in front of a place
pub begin_closed : {text l : List ℕ} {next closing : ℕ} → At text l next → true ≡ eqb (first (drop next text)) closing → 0 < closing
    → At text (closing ∷ drop (next + 1) text) (next + 1 - 1)
begin_closed {text} {l} {next} {closing} p e k =
    let f = eqb-true (first (drop next text)) closing (sym e) in
    let same : next + 1 - 1 ≡ next = omega arith in
    rw same (record { inside = p.inside; behind = drop-cons text next 0 (first_inside text next closing f k) ∙ rw (first_there text next, f, add-one) })

-- ---- loops

-- the reader from here on, with what was gathered: its turns, or the end
pub record Turning {P : Type 0} (text : List ℕ) (turns : ℕ → P → List ℕ → Got P) (whole : Got P) (from at : ℕ) (more : Bool) (p : P) : Type 0 where
  pub left : ℕ
  pub on : from < at
  pub inside : at ≤ length text
  pub enough : length text ≤ at + left
  pub same : whole ≡ cond more (turns left p (drop at text)) (got p (drop at text))

begin_is : {P : Type 0} (opening closing : ℕ) (turns : ℕ → P → List ℕ → Got P) (p : P) (l : List ℕ)
    → follow (open_there opening l) (λ z rest. cond (eqb (first (blanks rest)) closing) (got p (drop 1 (blanks rest))) (turns (length rest) p rest))
    ≡ follow (begin_there opening closing l) (λ more rest. cond more (turns (length rest) p rest) (got p rest))
unfolding begin_there
begin_is {P = P} opening closing turns p l = go (open_there opening l)
  where
    test : (rest : List ℕ) (b : Bool)
        → cond b (got p (drop 1 (blanks rest))) (turns (length rest) p rest)
        ≡ follow (cond b (got false (drop 1 (blanks rest))) (got true rest)) (λ more rest. cond more (turns (length rest) p rest) (got p rest))
    test rest true = refl
    test rest false = refl

    go : (g : Got ℕ)
        → follow g (λ z rest. cond (eqb (first (blanks rest)) closing) (got p (drop 1 (blanks rest))) (turns (length rest) p rest))
        ≡ follow (follow g (λ z rest. cond (eqb (first (blanks rest)) closing) (got false (drop 1 (blanks rest))) (got true rest)))
        (λ more rest. cond more (turns (length rest) p rest) (got p rest))
    go (got z rest) = test rest (eqb (first (blanks rest)) closing)
    go (stop k rest) = refl

-- what comes behind a step that tells whether there is more
go_on : {P : Type 0} (turns end : List ℕ → Got P) (g : Got Bool) (part more : Bool) (rest l : List ℕ) → g ≡ got part rest → more ≡ part → l ≡ rest
    → follow g (λ b next. cond b (turns next) (end next)) ≡ cond more (turns l) (end l)
go_on turns end g part more rest l e m d = rw (e, m, d)

-- a reader that begins with a bracket
pub record Begins {P : Type 0} (opening closing : ℕ) (turns : ℕ → P → List ℕ → Got P) (p : P) (whole : Got P) (l : List ℕ) : Type 0 where
  pub is : whole ≡ follow (open_there opening l) (λ z rest. cond (eqb (first (blanks rest)) closing) (got p (drop 1 (blanks rest))) (turns (length rest) p rest))

module _ {P : Type 0} {text : List ℕ} {turns : ℕ → P → List ℕ → Got P} {whole : Got P} {from opening closing code at : ℕ} {p : P}
    (b : Begins opening closing turns p whole (drop from text)) where
  pub begin_stopped : {Is₀ : Bool → Type 0} → Tells text from Is₀ (begin_there opening closing (drop from text)) code at
      → {before : ℕ} {Is : P → Type 0} → (code ≡ 0 → ⊥) → Tells text before Is whole code at
  begin_stopped told h = rw (b.is, begin_is opening closing turns p (drop from text)) (handed_on _ told h)

  pub begin_turning : {more : Bool} → Tells text from (λ b. more ≡ b) (begin_there opening closing (drop from text)) code at → code ≡ 0 → Turning text turns whole from at more p
  begin_turning told z =
      let c = came told z in
      record {
        left = length (drop at text);
        on = c.on;
        inside = c.place.inside;
        enough = omega (arith, length-drop at text);
        same = b.is ∙ begin_is opening closing turns p (drop from text) ∙ go_on _ _ _ _ _ _ _ c.got_it c.value c.place.behind;
      }

-- a loop that reads an item, adds it, and goes on behind a comma
pub record Loop {P A : Type 0} (turns : ℕ → P → List ℕ → Got P) (item : P → List ℕ → Got A) (bracket : ℕ) (add : P → A → P) : Type 0 where
  pub turn : (n : ℕ) (p : P) (l : List ℕ) → turns (suc n) p l ≡ follow (item p l) (λ a rest. onward bracket (turns n) (add p a) rest)
  pub last : (p : P) → turns zero p [] ≡ stop not_json []
  pub nothing : (p : P) → item p [] ≡ stop not_json []

record Next {P A : Type 0} (text : List ℕ) (turns : ℕ → P → List ℕ → Got P) (item : P → List ℕ → Got A) (bracket : ℕ) (add : P → A → P) (whole : Got P) (at : ℕ) (p : P) : Type 0 where
  left : ℕ
  enough : length text ≤ at + suc left
  same : whole ≡ follow (item p (drop at text)) (λ a rest. onward bracket (turns left) (add p a) rest)

module _ {P A : Type 0} {turns : ℕ → P → List ℕ → Got P} {item : P → List ℕ → Got A} {bracket : ℕ} {add : P → A → P} (loop : Loop turns item bracket add)
    {text : List ℕ} {whole : Got P} {from at : ℕ} {p : P} (t : Turning text turns whole from at true p) where
  next : Next text turns item bracket add whole at p
  next = go t.left t.enough t.same
    where
      go : (n : ℕ) → length text ≤ at + n → whole ≡ turns n p (drop at text) → Next text turns item bracket add whole at p
      go zero h e =
          let d : drop at text ≡ [] = drop_of_length-le text {i = at} (omega arith) in
          record { left = 0; enough = omega arith; same = e ∙ rw (d, loop.last p, loop.nothing p) }
      go (suc m) h e = record { left = m; enough = h; same = e ∙ loop.turn m p (drop at text) }

  pub item_stopped : {before code past : ℕ} {Is : A → Type 0} {Is' : P → Type 0} → Tells text at Is (item p (drop at text)) code past
      → (code ≡ 0 → ⊥) → Tells text before Is' whole code past
  item_stopped told h = rw next.same (handed_on _ told h)

  module _ {past : ℕ} {Is : A → Type 0} (c : Came text at Is (item p (drop at text)) past) where
    behind : whole ≡ onward bracket (turns next.left) (add p c.part) (drop past text)
    behind = next.same ∙ rw (c.got_it, c.place.behind)

    pub more_stopped : {code end : ℕ} {Is₀ : Bool → Type 0} → Tells text past Is₀ (more_there bracket (drop past text)) code end
        → {before : ℕ} {Is' : P → Type 0} → (code ≡ 0 → ⊥) → Tells text before Is' whole code end
    more_stopped told h = rw behind (handed_on _ told h)

    pub turning : {code end : ℕ} {more : Bool} → Tells text past (λ b. more ≡ b) (more_there bracket (drop past text)) code end → code ≡ 0 → Turning text turns whole from end more (add p c.part)
    turning told z =
        let d = came told z in
        let n = next.enough in
        record {
          left = next.left;
          on = omega (arith, t.on, c.on, d.on);
          inside = d.place.inside;
          enough = omega (arith, c.on, d.on);
          same = behind ∙ go_on _ _ _ _ _ _ _ d.got_it d.value d.place.behind;
        }

pub still : {P : Type 0} {text : List ℕ} {turns : ℕ → P → List ℕ → Got P} {whole : Got P} {from at : ℕ} {more b : Bool} {p : P} → more ≡ b
    → Turning text turns whole from at more p → Turning text turns whole from at b p
still {text = text} {turns} {whole} {from} {at} {p = p} e t = subst (λ (m : Bool). Turning text turns whole from at m p) e t

-- the loop is over: what was gathered is what the reader gives
pub gathered : {P : Type 0} {text : List ℕ} {turns : ℕ → P → List ℕ → Got P} {whole : Got P} {from at : ℕ} {p : P} {Is : P → Type 0} → Turning text turns whole from at false p
    → Is p → Tells text from Is whole 0 at
gathered t is = tells_got t.same refl t.on (record { inside = t.inside; behind = refl }) is

-- ---- lists

pub list_loop : {A : Type 0} (r : List ℕ → Got A) → r [] ≡ stop not_json [] → Loop (list_turns r) (λ xs l. r (blanks l)) 0x5d (λ xs a. xs ++ (a ∷ []))
unfolding items blanks
list_loop r h = record { turn = list_turn r; last = λ xs. refl; nothing = λ xs. h }

pub list_begin : {A : Type 0} (r : List ℕ → Got A) (l : List ℕ) → Begins 0x5b 0x5d (list_turns r) [] (list_there r l) l
list_begin r l = record { is = list_begins r l }
