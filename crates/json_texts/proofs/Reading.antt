-- The loop over the filters: from each turn on the reader comes to what it comes to from the start. Assumes nothing.
use mathlib.Core.Path.{◌≡◌, refl, ap, sym, ◌∙◌}
use mathlib.Core.Bool.{Bool, true, false, cond}
use mathlib.Core.List.{List, []}
use Prim.Native.Nat.{ℕ, zero, suc, ◌+◌, ◌≤◌, ◌<◌}
use native.Mathlib.Omega.{arith}
use lib.ListN.{length, take, drop, length-drop, drop_of_length-le}
use Rattle.definitions.specs.JsonForm.{Filter}
use Rattle.definitions.specs.JsonReader.{Got, got}
use Rattle.definitions.specs.FormReader.{Judges, judges_of}
use Rattle.json_theorems.specs.Turns.{Turned}
use Rattle.json_theorems.proofs.Turns.{turns_on}
use Rattle.json_scan.specs.Scan.{Tells}
use Rattle.json_scan.proofs.Telling.{Came, came, handed_on}
use Rattle.json_parts.proofs.Places.{tells_got, here}
use Rattle.json_filters.specs.Filters.{table_slots, Known}
use Rattle.json_texts.specs.Named.{filter_turn, filter_turns, Written, Made, AllMade}
use Rattle.json_texts.proofs.Named.{nothing_written}
use Rattle.json_texts.proofs.Turns.{filter_turns_lem, nothing_turns, no_turns}

abbrev judges : List ℕ → Judges
judges table = judges_of (table_slots table)

-- what the reader gives from behind the brace
abbrev pub all_turns : List ℕ → List ℕ → ℕ → Got (List Filter)
all_turns text table from = filter_turns (judges_of (table_slots table)) (length (drop from text)) [] (drop from text)

pub record Reading (text table before scratch : List ℕ) (architecture from at end count : ℕ) : Type 0 where
  pub left : ℕ
  pub fs : List Filter
  pub inside : at ≤ length text
  pub later : from ≤ at
  pub enough : length text ≤ at + left
  pub behind : end < at
  pub few : count ≤ end
  pub long : length scratch ≡ length before
  pub written : Written (table_slots table) architecture fs count (take end scratch)
  pub whole : all_turns text table from ≡ filter_turns (judges_of (table_slots table)) left fs (drop at text)

pub begin : (text table scratch : List ℕ) {architecture : ℕ} (from : ℕ) → from ≤ length text → 0 < from → Known architecture → Reading text table scratch scratch architecture from from 0 0
begin text table scratch from h pos k = record {
  left = length (drop from text);
  fs = [];
  inside = h;
  later = omega arith;
  enough = omega (arith, length-drop from text);
  behind = pos;
  few = omega arith;
  long = refl;
  written = nothing_written scratch k;
  whole = refl;
}

module _ {text table before scratch : List ℕ} {architecture from at end count : ℕ}
    (r : Reading text table before scratch architecture from at end count) where
  pub turn_stops : {code place : ℕ} {Is₀ : Turned (List Filter) → Type 0} → Tells text at Is₀ (filter_turn (judges table) r.fs (drop at text)) code place
      → {Is : List Filter → Type 0} → (code ≡ 0 → ⊥) → Tells text from Is (all_turns text table from) code place
  turn_stops {code} {place} t {Is} h = rw r.whole (go r.left r.enough)
    where
      go : (n : ℕ) → length text ≤ at + n → Tells text from Is (filter_turns (judges table) n r.fs (drop at text)) code place
      go zero e =
          let nothing : drop at text ≡ [] = drop_of_length-le text {i = at} (omega arith) in
          rw (no_turns (judges table) r.fs (drop at text), nothing) (handed_on {Is' = Is} (λ u rest. got u.gathered rest) (rw (nothing, nothing_turns (judges table) r.fs) at t) h)
      go (suc n) e = rw (filter_turns_lem (judges table) n r.fs (drop at text)) (handed_on _ t h)

  module _ {after : List ℕ} {code place spot : ℕ} {more : Bool}
      (t : Tells text at (Made (table_slots table) architecture count end spot place after more) (filter_turn (judges table) r.fs (drop at text)) code place) (e : code ≡ 0) where
    done : Came text at (Made (table_slots table) architecture count end spot place after more) (filter_turn (judges table) r.fs (drop at text)) place
    done = came t e

    record Next : Type 0 where
      pub fewer : ℕ
      pub one_less : r.left ≡ fewer + 1
      pub comes : all_turns text table from
          ≡ cond done.part.more (filter_turns (judges table) fewer done.part.gathered (drop place text)) (got done.part.gathered (drop place text))

    next : Next
    next = go r.left refl
      where
        go : (n : ℕ) → r.left ≡ n → Next
        go zero l = absurd (omega (arith, r.enough, done.on, done.place.inside))
        go (suc n) l = record {
          fewer = n;
          one_less = omega arith;
          comes =
              r.whole ∙ ap (λ (m : ℕ). filter_turns (judges table) m r.fs (drop at text)) l ∙ filter_turns_lem (judges table) n r.fs (drop at text)
              ∙ ap (λ (g : Got (Turned (List Filter))). turns_on (filter_turns (judges table) n) g) done.got_it
              ∙ ap (λ (rest : List ℕ). cond done.part.more (filter_turns (judges table) n done.part.gathered rest) (got done.part.gathered rest)) (sym done.place.behind);
        }

    comes_by : (b : Bool) → more ≡ b → all_turns text table from ≡ cond b (filter_turns (judges table) next.fewer done.part.gathered (drop place text)) (got done.part.gathered (drop place text))
    comes_by b h =
        next.comes
        ∙ ap (λ (x : Bool). cond x (filter_turns (judges table) next.fewer done.part.gathered (drop place text)) (got done.part.gathered (drop place text))) (sym done.value.same_more ∙ h)

    pub turn_on : at < place
    turn_on = done.on

    pub turn_more : more ≡ true → length after ≡ length scratch → Reading text table before after architecture from place spot (count + 1)
    turn_more h l =
        let o = done.on in
        let f = r.few in
        let v = done.value in
        let g = v.longer in
        record {
          left = next.fewer;
          fs = done.part.gathered;
          inside = done.place.inside;
          later = omega (arith, r.later);
          enough = omega (arith, r.enough, next.one_less);
          behind = v.less;
          few = omega arith;
          long = l ∙ r.long;
          written = v.written;
          whole = comes_by true h;
        }

    pub turn_last : more ≡ false
        → Tells text from (AllMade (table_slots table) architecture (count + 1) spot place after) (all_turns text table from) 0 place
    turn_last h =
        let f = r.few in
        let v = done.value in
        let g = v.longer in
        tells_got (comes_by false h) refl (omega (arith, r.later, done.on)) (here text place done.place.inside) (record { written = v.written; few = omega arith; less = v.less })
