-- Places of the text: how a part that was read, or a fault, is told by them. Assumes nothing.
use mathlib.Core.Path.{◌≡◌, refl, ap, sym, ◌∙◌}
use mathlib.Core.Bool.{Bool, true, false, cond}
use mathlib.Core.List.{List, [], ◌++◌}
use mathlib.Core.Option.{Option, none, some}
use Prim.Native.Nat.{ℕ, zero, suc, ◌+◌, ◌≤◌, ◌<◌}
use native.Mathlib.Omega.{arith}
use lib.Dec.{eqb}
use lib.ListN.{length, drop, get_or, length-append, length-drop, drop_of_length-le}
use lib.Seq.{drop-drop, drop-length}
use borrow.Author.Tests.{eq-eqb, ne_eqb}
use Rattle.definitions.specs.Json.{quote, Characters, closed, another}
use Rattle.definitions.specs.JsonReader.{Got, got, stop, not_json, follow, first, blanks, Piece, character, on_piece, characters, string_at, placed, bad_character}
use Rattle.definitions.specs.FormReader.{wrong, string_there}
use Rattle.json_theorems.specs.Turns.{open_there, colon_there, more_there}
use Rattle.json_theorems.proofs.Strings.{string_sound}
use Rattle.json_theorems.proofs.Parts.{blanks_sound}
use Rattle.json_numbers.proofs.Counting.{first_at}
use Rattle.json_scan.specs.Scan.{At, Either, Tells}
use Rattle.json_scan.specs.Telling.{code_of}
use Rattle.json_scan.specs.declared.Refusal.{Refusal}
use Rattle.json_scan.proofs.Telling.{refused, told_earlier}
use Rattle.json_theorems.specs.Turns.{key_string}

-- ---- what is told

pub tells_got : {A : Type 0} {text : List ℕ} {from code at : ℕ} {Is : A → Type 0} {g : Got A} {a : A} {rest : List ℕ}
    → g ≡ got a rest → code ≡ 0 → from < at → At text rest at → Is a → Tells text from Is g code at
tells_got {text = text} {from} {code} {at} {Is} {g} {a} {rest} e c f p v = record { tells = rw e (record { fine = c; on = f; place = p; value = v }) }

pub tells_stop : {A : Type 0} {text : List ℕ} {from code at k : ℕ} {Is : A → Type 0} {g : Got A} {rest : List ℕ}
    → g ≡ stop k rest → code ≡ k → 0 < code → At text rest at → Tells text from Is g code at
tells_stop {text = text} {from} {code} {at} {k} {Is} {g} {rest} e c f p = record { tells = rw e (record { told = c; some = (omega arith); place = p }) }

-- a fault by its refusal
pub tells_refused : {A : Type 0} {text : List ℕ} {from at k : ℕ} {Is : A → Type 0} {g : Got A} {rest : List ℕ} (w : Refusal)
    → g ≡ stop k rest → code_of w ≡ k → At text rest at → Tells text from Is g (code_of w) at
tells_refused w e c p = tells_stop e c (omega (arith, refused w)) p

-- what was read is put into something else
pub put_in : {A B : Type 0} {text : List ℕ} {from code at : ℕ} {Is : A → Type 0} {Is' : B → Type 0} (add : A → B) {g : Got A}
    → ((a : A) → Is a → Is' (add a)) → Tells text from Is g code at → Tells text from Is' (follow g (λ a rest. got (add a) rest)) code at
put_in {text = text} {from} {code} {at} {Is} {Is'} add {g} f t = record { tells = go g t.tells }
  where
    go : (g' : Got _) → Either text from Is g' code at → Either text from Is' (follow g' (λ a rest. got (add a) rest)) code at
    go (got a rest) s = record { fine = s.fine; on = s.on; place = s.place; value = f a s.value }
    go (stop k rest) s = s

-- ---- places

pub here : (text : List ℕ) (at : ℕ) → at ≤ length text → At text (drop at text) at
here text at h = record { inside = h; behind = refl }

-- how far a place is from the end
pub at_length : {text rest : List ℕ} {at : ℕ} → At text rest at → at + length rest ≡ length text
at_length {text = text} {rest} {at} p = let i = p.inside in rw (← p.behind) (omega (arith, length-drop at text))

-- n bytes on, or the end where there are fewer
pub further : (text : List ℕ) (at n : ℕ) → at + n ≤ length text → At text (drop n (drop at text)) (at + n)
further text at n h = record { inside = h; behind = sym (drop-drop n at text) }

pub at_end : (text : List ℕ) (at n : ℕ) → length text ≤ at + n → At text (drop n (drop at text)) (length text)
at_end text at n h = record { inside = omega arith; behind = drop-length text ∙ sym (drop-drop n at text ∙ drop_of_length-le text h) }

-- ---- blanks

blanks_short : (l : List ℕ) → length (blanks l) ≤ length l
blanks_short l = let s = blanks_sound l in let e = ap length s.here ∙ length-append s.skipped (blanks l) in omega arith

pub blanks_on : (text : List ℕ) (at next : ℕ) → at ≤ length text → At text (blanks (drop at text)) next → at ≤ next
blanks_on text at next h p = omega (arith, at_length p, blanks_short (drop at text), length-drop at text)

-- ---- brackets, colons, commas

pub open_here : (text : List ℕ) (at bracket : ℕ) → get_or text at 0 ≡ bracket → open_there bracket (drop at text) ≡ got 0 (drop 1 (drop at text))
unfolding open_there
open_here text at bracket e = rw (first_at text at, eq-eqb _ _ e)

pub open_missing : (text : List ℕ) (at bracket : ℕ) → (get_or text at 0 ≡ bracket → ⊥) → open_there bracket (drop at text) ≡ stop (wrong (drop at text)) (drop at text)
unfolding open_there
open_missing text at bracket e = rw (first_at text at, ne_eqb _ _ e)

module _ (text : List ℕ) (at next : ℕ) (p : At text (blanks (drop at text)) next) where
  pub colon_here : get_or text next 0 ≡ 0x3a → colon_there (drop at text) ≡ got 0 (blanks (drop (next + 1) text))
  unfolding colon_there
  colon_here e = rw (← p.behind, first_at text next, eq-eqb _ _ e, drop-drop 1 next text)

  pub colon_missing : (get_or text next 0 ≡ 0x3a → ⊥) → colon_there (drop at text) ≡ stop not_json (drop next text)
  unfolding colon_there
  colon_missing e = rw (← p.behind, first_at text next, ne_eqb _ _ e)

  pub comma_here : (bracket : ℕ) → get_or text next 0 ≡ 0x2c → more_there bracket (drop at text) ≡ got true (drop 1 (drop next text))
  unfolding more_there
  comma_here bracket e = rw (← p.behind, first_at text next, eq-eqb _ _ e)

  pub end_here : (bracket : ℕ) → (get_or text next 0 ≡ 0x2c → ⊥) → get_or text next 0 ≡ bracket → more_there bracket (drop at text) ≡ got false (drop 1 (drop next text))
  unfolding more_there
  end_here bracket n e = rw (← p.behind, first_at text next, ne_eqb _ _ n, eq-eqb _ _ e)

  pub end_missing : (bracket : ℕ) → (get_or text next 0 ≡ 0x2c → ⊥) → (get_or text next 0 ≡ bracket → ⊥) → more_there bracket (drop at text) ≡ stop not_json (drop next text)
  unfolding more_there
  end_missing bracket n e = rw (← p.behind, first_at text next, ne_eqb _ _ n, ne_eqb _ _ e)

-- ---- strings

characters_long : {bs s : List ℕ} → Characters bs s → 1 ≤ length bs
characters_long closed = omega arith
characters_long (another {c = c} {bs = bs} x y) = let h = characters_long y in rw (length-append c bs) (omega arith)

string_on : (l s rest : List ℕ) → string_at l ≡ got s rest → length rest < length l
string_on l s rest e =
    let t = string_sound l s rest e in
    let h = characters_long t.spelled in
    let n = ap length t.here ∙ length-append t.bytes rest in
    omega arith

-- a string is refused with one number only
stopped_with : (n : ℕ) (l : List ℕ) (k : ℕ) (rest : List ℕ) → characters n l ≡ stop k rest → k ≡ not_json
unfolding characters
stopped_with zero l k rest e = number_of e
  where
    number_of : {m m' : List ℕ} → ◌≡◌ {A = Got (List ℕ)} (stop not_json m) (stop k m') → k ≡ not_json
    number_of f = cc
stopped_with (suc n) l k rest e = go (λ m j r. stopped_with n m j r) (eqb (first l) quote) (character l) refl e
  where
    after : ((m : List ℕ) (j : ℕ) (r : List ℕ) → characters n m ≡ stop j r → j ≡ not_json) → (p : Piece) (g : Got (List ℕ)) → characters n (drop p.used l) ≡ g
        → follow g (λ s m. got (p.meant ++ s) m) ≡ stop k rest → k ≡ not_json
    after ih p (got s m) f h = absurd (let z : ◌≡◌ {A = ℕ} 0 1 = cc in omega arith)
    after ih p (stop j m) f h = (let z : j ≡ k = cc in sym z) ∙ ih (drop p.used l) j m f

    go : ((m : List ℕ) (j : ℕ) (r : List ℕ) → characters n m ≡ stop j r → j ≡ not_json) → (q : Bool) (o : Option Piece) → character l ≡ o
        → cond q (got [] (drop 1 l)) (on_piece o l (λ p. follow (characters n (drop p.used l)) (λ s m. got (p.meant ++ s) m))) ≡ stop k rest → k ≡ not_json
    go ih true o f h = absurd (let z : ◌≡◌ {A = ℕ} 0 1 = cc in omega arith)
    go ih false none f h = cc
    go ih false (some p) f h = after ih p (characters n (drop p.used l)) refl h

refused_with : (l : List ℕ) (k : ℕ) (rest : List ℕ) → string_at l ≡ stop k rest → k ≡ not_json
unfolding string_at
refused_with l k rest e = stopped_with (length l) l k rest e

-- a string behind its quotation mark: read, or refused at the byte that is wrong
pub string_read : {text : List ℕ} {from code at : ℕ} {Is : List ℕ → Type 0} {s rest : List ℕ}
    → string_at (drop from text) ≡ got s rest → code ≡ 0 → from ≤ length text → At text rest at → Is s → Tells text from Is (placed bad_character (string_at (drop from text))) code at
string_read {text = text} {from} {code} {at} {Is} {s} {rest} e c h p v =
    tells_got (ap (λ (g : Got (List ℕ)). placed bad_character g) e) c (omega (arith, string_on (drop from text) s rest e, length-drop from text, at_length p)) p v

pub string_refused : {text : List ℕ} {from code at bad k : ℕ} {Is : List ℕ → Type 0} {rest : List ℕ}
    → string_at (drop from text) ≡ stop k rest → code ≡ 10 → At text rest at → At text (bad_character (drop at text)) bad
    → Tells text from Is (placed bad_character (string_at (drop from text))) code bad
string_refused {text = text} {from} {code} {at} {bad} {k} {Is} {rest} e c p b =
    tells_stop {k = not_json} (ap (λ (g : Got (List ℕ)). placed bad_character g) (e ∙ ap (λ (j : ℕ). stop j rest) (refused_with (drop from text) k rest e))) c (omega arith)
    (rw p.behind at b)

module _ (text : List ℕ) (at : ℕ) where
  string_is : get_or text at 0 ≡ quote → string_there (drop at text) ≡ placed bad_character (string_at (drop (at + 1) text))
  unfolding string_there
  string_is e = rw (first_at text at, eq-eqb _ _ e, drop-drop 1 at text)

  key_is : get_or text at 0 ≡ quote → key_string (drop at text) ≡ placed bad_character (string_at (drop (at + 1) text))
  unfolding key_string
  key_is e = rw (first_at text at, eq-eqb _ _ e, drop-drop 1 at text)

  string_missing : (get_or text at 0 ≡ quote → ⊥) → string_there (drop at text) ≡ stop (wrong (drop at text)) (drop at text)
  unfolding string_there
  string_missing e = rw (first_at text at, ne_eqb _ _ e)

  key_missing : (get_or text at 0 ≡ quote → ⊥) → key_string (drop at text) ≡ stop not_json (drop at text)
  unfolding key_string
  key_missing e = rw (first_at text at, ne_eqb _ _ e)

  module _ {Is : List ℕ → Type 0} {code place : ℕ} where
    pub string_there_lem : get_or text at 0 ≡ quote → Tells text (at + 1) Is (placed bad_character (string_at (drop (at + 1) text))) code place → Tells text at Is (string_there (drop at text)) code place
    string_there_lem e t = told_earlier {from = at + 1} (omega arith) (rw (string_is e) t)

    pub key_there : get_or text at 0 ≡ quote → Tells text (at + 1) Is (placed bad_character (string_at (drop (at + 1) text))) code place → Tells text at Is (key_string (drop at text)) code place
    key_there e t = told_earlier {from = at + 1} (omega arith) (rw (key_is e) t)

    pub no_string : (get_or text at 0 ≡ quote → ⊥) → at ≤ length text → code ≡ wrong (drop at text) → 0 < code → place ≡ at → Tells text at Is (string_there (drop at text)) code place
    no_string e h c pos p = tells_stop (string_missing e) c pos (rw p (here text at h))

    pub no_key : (get_or text at 0 ≡ quote → ⊥) → at ≤ length text → code ≡ not_json → place ≡ at → Tells text at Is (key_string (drop at text)) code place
    no_key e h c p = tells_stop (key_missing e) c (omega arith) (rw p (here text at h))
