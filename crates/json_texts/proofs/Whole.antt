-- The object of all filters, and the whole text around it. Assumes nothing.
use mathlib.Core.Path.{◌≡◌, refl, ap, sym, ◌∙◌}
use mathlib.Core.Bool.{cond}
use mathlib.Core.List.{List, [], ◌∷◌}
use Prim.Native.Nat.{ℕ, ◌+◌, ◌≤◌, ◌<◌}
use native.Mathlib.Omega.{arith}
use lib.Dec.{eqb}
use lib.ListN.{length, drop, get_or, length-drop, drop_of_length-le}
use borrow.Author.Tests.{eq-eqb, ne_eqb}
use Rattle.definitions.specs.JsonForm.{Filter}
use Rattle.definitions.specs.CallNames.{Slot}
use Rattle.definitions.specs.JsonReader.{Got, got, stop, not_json, follow, first, blanks}
use Rattle.definitions.specs.FormReader.{Judges, filters_there, all_read, whole, read_filters}
use Rattle.json_theorems.specs.Turns.{open_there}
use Rattle.json_scan.specs.Scan.{At, Tells}
use Rattle.json_scan.proofs.Telling.{came, handed_on, told_inside, told_earlier}
use Rattle.json_numbers.proofs.Counting.{first_at, inside}
use Rattle.json_parts.proofs.Places.{tells_got, tells_stop, here, further, blanks_on}
use Rattle.json_filters.specs.Filters.{Known}
use Rattle.json_texts.specs.Named.{filter_turns, AllMade}
use Rattle.json_texts.proofs.Turns.{filters_begin}
use Rattle.json_texts.proofs.Telling.{followed}
use Rattle.json_texts.proofs.Named.{nothing_written}

module _ {text : List ℕ} {at behind code : ℕ} {Is : ℕ → Type 0} (j : Judges) (opened : Tells text at Is (open_there 0x7b (drop at text)) code behind) where
  pub open_stops : {Is' : List Filter → Type 0} → (code ≡ 0 → ⊥) → Tells text at Is' (filters_there j (drop at text)) code behind
  open_stops h = rw (filters_begin j (drop at text)) (handed_on _ opened h)

  module _ (e : code ≡ 0) (next : ℕ) (s : At text (blanks (drop behind text)) next) where
    pub empty_object : {slots : List Slot} {architecture : ℕ} (scratch : List ℕ) → get_or text next 0 ≡ 0x7d → Known architecture
        → Tells text at (AllMade slots architecture 0 0 (next + 1) scratch) (filters_there j (drop at text)) 0 (next + 1)
    empty_object scratch m k =
        rw (filters_begin j (drop at text)) (followed _ opened e (λ z v.
        let n = blanks_on text behind next (told_inside opened) s in
        let q : cond (eqb (first (blanks (drop behind text))) 0x7d) (got [] (drop 1 (blanks (drop behind text)))) (filter_turns j (length (drop behind text)) [] (drop behind text)) ≡ got [] (drop 1 (drop next text)) =
        rw (← s.behind, first_at text next, eq-eqb _ _ m) refl in
        tells_got q refl (omega arith) (further text next 1 (omega (arith, inside text next 0x7d m (omega arith))))
        (record { written = nothing_written scratch k; few = omega arith; less = omega arith })))

    pub filled_object : {Is' : List Filter → Type 0} {code' place : ℕ} → (get_or text next 0 ≡ 0x7d → ⊥)
        → Tells text behind Is' (filter_turns j (length (drop behind text)) [] (drop behind text)) code' place → Tells text at Is' (filters_there j (drop at text)) code' place
    filled_object m t =
        rw (filters_begin j (drop at text)) (followed _ opened e (λ z v. rw (← s.behind, first_at text next, ne_eqb _ _ m) t))

-- ---- the text

rest_left : {A : Type 0} (a : A) (l : List ℕ) → 0 < length l → all_read a l ≡ stop not_json l
rest_left a [] h = absurd (omega arith)
rest_left a (b ∷ l) h = refl

module _ {text : List ℕ} {start place code : ℕ} {Is : List Filter → Type 0} (j : Judges) (s : At text (blanks (drop 0 text)) start)
    (t : Tells text start Is (filters_there j (drop start text)) code place) where
  begins : blanks text ≡ drop start text
  begins = sym s.behind

  pub text_stops : {Is' : List Filter → Type 0} → (code ≡ 0 → ⊥) → Tells text 0 Is' (read_filters j text) code place
  unfolding read_filters whole
  text_stops h = rw begins (handed_on _ t h)

  module _ (e : code ≡ 0) (past : ℕ) (p : At text (blanks (drop place text)) past) where
    pub text_goes_on : {Is' : List Filter → Type 0} → past < length text → Tells text 0 Is' (read_filters j text) not_json past
    unfolding read_filters whole
    text_goes_on h =
        rw begins (told_earlier {from = start} (omega arith) (followed _ t e (λ fs v. rw (← p.behind) (tells_stop (rest_left fs (drop past text) (omega (arith, length-drop past text))) refl (omega arith) (here text past p.inside)))))

    pub text_ends : {Is' : List Filter → Type 0} → length text ≤ past → ((fs : List Filter) → Is fs → place ≤ past → Is' fs) → Tells text 0 Is' (read_filters j text) 0 past
    unfolding read_filters whole
    text_ends h is =
        let c = came t e in
        let nothing : drop past text ≡ [] = drop_of_length-le text {i = past} h in
        let n = blanks_on text place past c.place.inside p in
        let o = c.on in
        rw begins (tells_got
        (ap (λ (g : Got (List Filter)). follow g (λ a rest. all_read a (blanks rest))) c.got_it ∙ ap (λ (l : List ℕ). all_read c.part (blanks l)) (sym c.place.behind)
        ∙ ap (λ (l : List ℕ). all_read c.part l) (sym p.behind ∙ nothing))
        refl (omega arith) (record { inside = p.inside; behind = nothing }) (is c.part c.value n))
