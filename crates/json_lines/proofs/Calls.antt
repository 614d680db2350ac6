-- A call's name: a string that the table has, decoded and looked up. Assumes nothing.
use mathlib.Core.Path.{◌≡◌, refl, ap, sym, subst, ◌∙◌}
use mathlib.Core.Bool.{true, false}
use mathlib.Core.List.{List}
use mathlib.Core.Option.{Option, none, some}
use Rattle.std.specs.Prelude.{None, Some, Result, Ok, Err, is_err}
use Rattle.std.specs.Prelude as given
use Prim.Native.Nat.{ℕ, ◌+◌, ◌<◌}
use native.Mathlib.Omega.{arith}
use lib.Dec.{eqb}
use lib.ListN.{length, drop, replicate, length-drop}
use lib.Seq.{drop-drop}
use borrow.Author.Tests.{eqb-true}
use Rattle.definitions.specs.Json.{quote}
use Rattle.definitions.specs.JsonReader.{Got, got, stop, follow, first, string_at, placed, bad_character}
use Rattle.definitions.specs.FormReader.{wrong, string_there, judged, answered, asked, is_some, unknown_call}
use Rattle.definitions.specs.CallNames.{Slot, number_for, slot_count, slots_in}
use Rattle.call_names.specs.Slots.{told, Answers}
use Rattle.json_theorems.proofs.Sizes.{string_size}
use Rattle.json_scan.specs.Scan.{At, Stopped, Tells}
use Rattle.json_scan.specs.Telling.{code_of, code_in, place_in}
use Rattle.json_scan.specs.declared.Misread.{Misread}
use Rattle.json_scan.specs.declared.Read.{Read}
use Rattle.json_strings.specs.declared.Decoded.{Decoded}
use Rattle.json_strings.specs.Decoding.{Stored}
use Rattle.json_strings.proofs.Storing.{kept_zeros}
use Rattle.json_lines.specs.Lines.{call_there}
use Rattle.json_lines.proofs.Steps.{tells_got, tells_stop, first_inside}

abbrev pub slots_of : List ℕ → List Slot
slots_of table = slots_in (slot_count table) table

-- no string stands at a place
pub record NoString (text : List ℕ) (at : ℕ) : Type 0 where
  pub fault : ℕ
  pub rest : List ℕ
  pub is : string_there (drop at text) ≡ stop fault rest

-- that is told, and no name stands there either
module _ {text : List ℕ} {at : ℕ} (n : NoString text at) {V : Type 0} {Is : List ℕ → Type 0} where
  pub fault_told : (r : Result (Read V) Misread) → Tells text at Is (string_there (drop at text)) (code_in r) (place_in r) → is_err r ≡ true
  fault_told (Ok r) t = absurd (let s = (subst (λ (g : Got (List ℕ)). Tells text at Is g 0 r.at) n.is t).tells in let h = s.some in let d = s.told in omega arith)
  fault_told (Err e) t = refl

  pub fault_is : (r : Result (Read V) Misread) {e : Misread} → r ≡ Err e → Tells text at Is (string_there (drop at text)) (code_in r) (place_in r) → Stopped text n.fault n.rest (code_of e.why) e.at
  fault_is r {e} is t =
      (subst (λ (g : Got (List ℕ)). Tells text at Is g (code_of e.why) e.at) n.is (subst (λ (x : Result (Read V) Misread). Tells text at Is (string_there (drop at text)) (code_in x) (place_in x)) is t)).tells

  pub no_name : (slots : List Slot) {Is' : List ℕ → Type 0} (r : Result (Read V) Misread) {e : Misread} → r ≡ Err e → Tells text at Is (string_there (drop at text)) (code_in r) (place_in r)
      → Tells text at Is' (call_there slots (drop at text)) (code_of e.why) e.at
  unfolding call_there judged
  no_name slots r is t =
      let s = fault_is r is t in
      tells_stop (ap (λ (g : Got (List ℕ)). follow g (λ s rest. answered (asked (is_some (number_for slots s)) unknown_call s) (drop at text) rest)) n.is) s.told s.some s.place

unquoted : (l : List ℕ) → false ≡ eqb (first l) quote → string_there l ≡ stop (wrong l) l
unfolding string_there
unquoted l e = rw (← e)

quoted : (l : List ℕ) → true ≡ eqb (first l) quote → string_there l ≡ placed bad_character (string_at (drop 1 l))
unfolding string_there
quoted l e = rw (← e)

pub call_unquoted : (text : List ℕ) (at : ℕ) → false ≡ eqb (first (drop at text)) quote → NoString text at
call_unquoted text at e = record { fault = wrong (drop at text); rest = drop at text; is = unquoted (drop at text) e }

-- a string that was decoded and looked up
record Decoding (text : List ℕ) (at : ℕ) (table : List ℕ) (d : Decoded) (r : given.Option ℕ) : Type 0 where
  string : List ℕ
  rest : List ℕ
  is : string_there (drop at text) ≡ got string rest
  on : at < d.at
  place : At text rest d.at
  answer : r ≡ told (number_for (slots_of table) string)

module _ (text : List ℕ) (at : ℕ) (q : true ≡ eqb (first (drop at text)) quote) where
  pub string_inside : at < length text
  string_inside = first_inside text at quote (eqb-true _ _ (sym q)) (omega arith)

  string_is : string_there (drop at text) ≡ placed bad_character (string_at (drop (at + 1) text))
  string_is = quoted (drop at text) q ∙ ap (λ (l : List ℕ). placed bad_character (string_at l)) (drop-drop 1 at text)

  -- a string that cannot be decoded is none
  pub call_undecoded : (before : List ℕ) (start : ℕ) (name : List ℕ) (place : ℕ) → Stored text before start (string_at (drop (at + 1) text)) name (Err place) → NoString text at
  call_undecoded before start name place stored = go (string_at (drop (at + 1) text)) refl stored
    where
      go : (g : Got (List ℕ)) → string_at (drop (at + 1) text) ≡ g → Stored text before start g name (Err place) → NoString text at
      go (got s rest) e r = absurd r
      go (stop k m) e r = record { fault = k; rest = bad_character m; is = string_is ∙ ap (λ (g : Got (List ℕ)). placed bad_character g) e }

  module _ (name : List ℕ) where
    module _ (table : List ℕ) (d : Decoded) (stored : Stored text (replicate 32 0) 0 (string_at (drop (at + 1) text)) name (Ok d)) {r : given.Option ℕ} (answers : Answers table name d.count r) where
      read : Decoding text at table d r
      read = go (string_at (drop (at + 1) text)) refl stored
        where
          go : (g : Got (List ℕ)) → string_at (drop (at + 1) text) ≡ g → Stored text (replicate 32 0) 0 g name (Ok d) → Decoding text at table d r
          go (got s rest) e w = record {
            string = s;
            rest = rest;
            is = string_is ∙ ap (λ (g : Got (List ℕ)). placed bad_character g) e;
            on = (let h = string_inside in let i = w.place.inside in let l = ap length w.place.behind in omega (arith, string_size (drop (at + 1) text) s rest e, length-drop (at + 1) text, length-drop d.at text));
            place = w.place;
            answer = answers s (record { counted = sym w.counted; bytes = sym (w.stored ∙ kept_zeros 32 s) });
          }
          go (stop k m) e w = absurd w

      call_is : call_there (slots_of table) (drop at text) ≡ answered (asked (is_some (number_for (slots_of table) read.string)) unknown_call read.string) (drop at text) read.rest
      unfolding call_there judged
      call_is = ap (λ (g : Got (List ℕ)). follow g (λ s rest. answered (asked (is_some (number_for (slots_of table) s)) unknown_call s) (drop at text) rest)) read.is

      pub call_unknown : r ≡ None → {Is : List ℕ → Type 0} → Tells text at Is (call_there (slots_of table) (drop at text)) 13 at
      call_unknown h {Is} = go (number_for (slots_of table) read.string) refl
        where
          go : (o : Option ℕ) → number_for (slots_of table) read.string ≡ o → Tells text at Is (call_there (slots_of table) (drop at text)) 13 at
          go none e = tells_stop (call_is ∙ rw e) refl (omega arith) (record { inside = (let i = string_inside in omega arith); behind = refl })
          go (some n) e = absurd (let z : None ≡ Some n = sym h ∙ read.answer ∙ ap told e in cc)

      pub call_known : {n : ℕ} → r ≡ Some n → Tells text at (λ s. number_for (slots_of table) s ≡ some n) (call_there (slots_of table) (drop at text)) 0 d.at
      call_known {n} h = go (number_for (slots_of table) read.string) refl
        where
          go : (o : Option ℕ) → number_for (slots_of table) read.string ≡ o → Tells text at (λ s. number_for (slots_of table) s ≡ some n) (call_there (slots_of table) (drop at text)) 0 d.at
          go none e = absurd (let z : Some n ≡ None = sym h ∙ read.answer ∙ ap told e in cc)
          go (some m) e = tells_got (call_is ∙ rw e) refl read.on read.place (let z : Some n ≡ Some m = sym h ∙ read.answer ∙ ap told e in let w : m ≡ n = cc in e ∙ ap (λ (x : ℕ). some x) w)
