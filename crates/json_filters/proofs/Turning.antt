-- The loop over a filter's fields, and the object that it is in.
use mathlib.Core.Path.{◌≡◌, refl, ap, sym, subst, ◌∙◌}
use mathlib.Core.Bool.{Bool, true, false, cond}
use mathlib.Core.List.{List, [], ◌∷◌}
use Prim.Native.Nat.{ℕ, zero, suc, ◌+◌, ◌-◌, ◌≤◌, ◌<◌}
use Rattle.std.specs.Prelude.{None}
use native.Mathlib.Omega.{arith}
use native.Mathlib.Numerals.{add-one}
use lib.Dec.{eqb, leb}
use lib.ListN.{length, drop, get_or, length-drop, drop_of_length-le, get_or-eq_default}
use lib.Seq.{drop-cons, get_or-drop}
use borrow.Author.Tests.{ne_eqb, leb-true, leb-false}
use Rattle.definitions.specs.CallNames.{Slot}
use Rattle.definitions.specs.JsonForm.{Key, filter_keys}
use Rattle.definitions.specs.JsonReader.{Got, got, stop, follow, not_json, first, blanks, fields}
use Rattle.definitions.specs.FormReader.{Typed, FilterPart, filter_reads, object_there, judges_of}
use Rattle.json_theorems.specs.Turns.{open_there, more_there, Turned, turned_there, field_turn}
use Rattle.json_theorems.proofs.Turns.{key_judge, key_step, field_turns, turns_on, field_turns_lem, nothing_turns, object_begins}
use Rattle.json_theorems.proofs.Tests.{false_not_true}
use Rattle.json_theorems.proofs.Sizes.{blanks_size}
use Rattle.json_scan.specs.Scan.{At, Tells}
use Rattle.json_scan.proofs.Telling.{Came, came, handed_on, told_earlier}
use Rattle.json_scan.proofs.Fields.{ColonCame}
use Rattle.json_condition.proofs.Gathering.{bracket_before}
use Rattle.json_filters.specs.declared.Parts.{Parts}
use Rattle.json_filters.specs.declared.Turn.{Turn}
use Rattle.json_filters.specs.Filters.{Lent, Untouched, Gathered, Closed, TurnHeld, AllGathered}
use Rattle.json_filters.proofs.Gathering.{gathered_none}

-- the brace behind the last value
pub closed_behind : {text : List ℕ} {place at : ℕ} {more : Bool} → Tells text place (λ b. more ≡ b) (more_there 0x7d (drop place text)) 0 at → more ≡ false → Closed text at
closed_behind {text = text} {place} {at = at} t f =
    let c = came t refl in
    let last : more_there 0x7d (drop place text) ≡ got false (drop at text) =
    c.got_it ∙ ap (λ b. got b c.rest) (sym c.value ∙ f) ∙ ap (λ l. got false l) (sym c.place.behind) in
    record { some = omega (arith, c.on); inside = c.place.inside; brace = bracket_before 0x7d text place at (omega arith) c.place.inside last }

-- neither a comma nor the brace stands behind a value
pub more_stops : {A : Type 0} {keys : List Key} (reads : ℕ → List ℕ → Got A) {ts : List (Typed A)} {text : List ℕ} {at field behind place code' place' : ℕ} {Is : A → Type 0} {Is₀ : Bool → Type 0} {Is' : Turned (List (Typed A)) → Type 0}
    → ColonCame keys ts text at field behind → Tells text behind Is (reads field (drop behind text)) 0 place
    → Tells text place Is₀ (more_there 0x7d (drop place text)) code' place' → (code' ≡ 0 → ⊥)
    → Tells text at Is' (field_turn keys reads ts (drop at text)) code' place'
unfolding field_turn turned_there
more_stops reads k t m h = let c = came t refl in rw (k.key, k.new, k.colon, c.got_it, ← c.place.behind) (handed_on _ m h)

-- ---- what is lent stays

pub still_lent : {text table s s' : List ℕ} {t : ℕ} → Lent text table s → Untouched t s s' → Lent text table s'
still_lent l u = record { short = l.short; good = l.good; room = omega (arith, l.room, u.whole) }

pub touched_no_more : {t : ℕ} {a b c : List ℕ} → Untouched t a b → Untouched t b c → Untouched t a c
touched_no_more u v = record { front = v.front ∙ u.front; whole = v.whole ∙ u.whole }

-- ---- the loop

abbrev turns : List Slot → ℕ → List (Typed FilterPart) → List ℕ → Got (List (Typed FilterPart))
turns slots n ts l = field_turns filter_keys (filter_reads (judges_of slots)) n ts l

abbrev turn : List Slot → List (Typed FilterPart) → List ℕ → Got (Turned (List (Typed FilterPart)))
turn slots ts l = field_turn filter_keys (filter_reads (judges_of slots)) ts l

abbrev whole : List Slot → List ℕ → ℕ → Got (List (Typed FilterPart))
whole slots text from = turns slots (length (drop from text)) [] (drop from text)

no_turns : (slots : List Slot) (us : List (Typed FilterPart)) → turns slots zero us [] ≡ stop not_json []
unfolding fields
no_turns slots us = refl

-- the turns that are left, or what the last one left, are all of them
pub record Turning (slots : List Slot) (text : List ℕ) (from : ℕ) (scratch : List ℕ) (p : Parts) (next : ℕ) (more : Bool) : Type 0 where
  pub ts : List (Typed FilterPart)
  pub fuel : ℕ
  pub gathered : Gathered slots (length text) scratch p ts
  pub enough : length text ≤ next + fuel
  pub inside : next ≤ length text
  pub on : from ≤ next
  pub same : cond more (turns slots fuel ts (drop next text)) (got ts (drop next text)) ≡ whole slots text from
  pub closed : more ≡ false → Closed text next
  pub passed : more ≡ false → from < next

pub turning_begins : (slots : List Slot) (text : List ℕ) (from : ℕ) (scratch : List ℕ) → from ≤ length text
    → Turning slots text from scratch (record { mismatch = None; on_match = None; lines = None }) from true
turning_begins slots text from scratch h = record {
  ts = [];
  fuel = length (drop from text);
  gathered = gathered_none slots (length text) scratch;
  enough = omega (arith, length-drop from text);
  inside = h;
  on = omega arith;
  same = refl;
  closed = λ f. absurd (false_not_true (sym f));
  passed = λ f. absurd (false_not_true (sym f));
}

-- those that are left, where there are more
left : {slots : List Slot} {text : List ℕ} {from : ℕ} {scratch : List ℕ} {p : Parts} {next : ℕ} {more : Bool} (t : Turning slots text from scratch p next more) → more ≡ true
    → turns slots t.fuel t.ts (drop next text) ≡ whole slots text from
left {slots = slots} {text} {next = next} t m = ap (λ b. cond b (turns slots t.fuel t.ts (drop next text)) (got t.ts (drop next text))) (sym m) ∙ t.same

pub turning_stops : {slots : List Slot} {text : List ℕ} {from : ℕ} {scratch : List ℕ} {p : Parts} {next code at : ℕ} {more : Bool} {Is : Turned (List (Typed FilterPart)) → Type 0} {Is' : List (Typed FilterPart) → Type 0}
    (t : Turning slots text from scratch p next more) → more ≡ true → Tells text next Is (turn slots t.ts (drop next text)) code at → (code ≡ 0 → ⊥)
    → Tells text from Is' (whole slots text from) code at
turning_stops {slots = slots} {text} {from} {next = next} {code} {at} {Is = Is} {Is'} t m s h = go t.fuel t.enough (left t m)
  where
    go : (n : ℕ) → length text ≤ next + n → turns slots n t.ts (drop next text) ≡ whole slots text from → Tells text from Is' (whole slots text from) code at
    go zero e q =
        let nothing : drop next text ≡ [] = drop_of_length-le text {i = next} (omega arith) in
        let r : Tells text next Is (stop not_json []) code at =
        subst (λ g. Tells text next Is g code at) (ap (turn slots t.ts) nothing ∙ nothing_turns filter_keys (filter_reads (judges_of slots)) t.ts) s in
        let last : stop not_json [] ≡ whole slots text from = sym (ap (turns slots zero t.ts) nothing ∙ no_turns slots t.ts) ∙ q in
        subst (λ g. Tells text from Is' g code at) last (handed_on {A = Turned (List (Typed FilterPart))} (λ u l. got u.gathered l) r h)
    go (suc n) e q =
        subst (λ g. Tells text from Is' g code at) (sym (field_turns_lem filter_keys (filter_reads (judges_of slots)) n t.ts (drop next text)) ∙ q) (handed_on _ s h)

pub turning_goes : {slots : List Slot} {text : List ℕ} {from : ℕ} {scratch scratch' : List ℕ} {p : Parts} {next past : ℕ} {more : Bool} (r : Turn) (t : Turning slots text from scratch p next more) → more ≡ true
    → Tells text next (λ u. (r.more ≡ u.more) × TurnHeld slots text scratch' past r u.gathered) (turn slots t.ts (drop next text)) 0 past
    → Turning slots text from scratch' r.parts past r.more
turning_goes {slots = slots} {text} {from} {scratch' = scratch'} {next = next} {past} r t m s = go t.fuel t.enough (left t m) (came s refl)
  where
    go : (n : ℕ) → length text ≤ next + n → turns slots n t.ts (drop next text) ≡ whole slots text from
        → Came text next (λ (u : Turned (List (Typed FilterPart))). (r.more ≡ u.more) × TurnHeld slots text scratch' past r u.gathered) (turn slots t.ts (drop next text)) past
        → Turning slots text from scratch' r.parts past r.more
    go zero enough q k = absurd (omega (arith, k.on, k.place.inside))
    go (suc n) enough q k =
        let us : List (Typed FilterPart) = k.part.gathered in
        let one : turns slots (suc n) t.ts (drop next text) ≡ cond k.part.more (turns slots n us k.rest) (got us k.rest) =
        field_turns_lem filter_keys (filter_reads (judges_of slots)) n t.ts (drop next text) ∙ ap (turns_on (turns slots n)) k.got_it in
        record {
          ts = us;
          fuel = n;
          gathered = k.value.1.gathered;
          enough = omega (arith, k.on);
          inside = k.place.inside;
          on = omega (arith, k.on, t.on);
          same = ap (λ b. cond b (turns slots n us (drop past text)) (got us (drop past text))) k.value.0 ∙ ap (λ l. cond k.part.more (turns slots n us l) (got us l)) k.place.behind ∙ sym one ∙ q;
          closed = k.value.1.closed;
          passed = λ f. omega (arith, k.on, t.on);
        }

pub turning_ends : {slots : List Slot} {text : List ℕ} {from : ℕ} {scratch : List ℕ} {p : Parts} {next : ℕ} {more : Bool} → Turning slots text from scratch p next more → more ≡ false
    → Tells text from (AllGathered slots text scratch next p) (whole slots text from) 0 next
turning_ends {slots = slots} {text} {from} {scratch} {p} {next} t m =
    subst (λ g. Tells text from (AllGathered slots text scratch next p) g 0 next)
    (ap (λ b. cond b (turns slots t.fuel t.ts (drop next text)) (got t.ts (drop next text))) (sym m) ∙ t.same)
    (record { tells = record { fine = refl; on = t.passed m; place = record { inside = t.inside; behind = refl }; value = record { gathered = t.gathered; closed = t.closed m } } })

-- ---- the object

abbrev pub object : List Slot → List ℕ → Got (List (Typed FilterPart))
object slots l = object_there (key_judge filter_keys) (key_step filter_keys (filter_reads (judges_of slots))) [] l

abbrev behind_brace : List Slot → List ℕ → Got (List (Typed FilterPart))
behind_brace slots rest = cond (eqb (first (blanks rest)) 0x7d) (got [] (drop 1 (blanks rest))) (turns slots (length rest) [] rest)

pub object_stops : (slots : List Slot) {text : List ℕ} {from code at : ℕ} {Is : ℕ → Type 0} {Is' : List (Typed FilterPart) → Type 0} → Tells text from Is (open_there 0x7b (drop from text)) code at → (code ≡ 0 → ⊥)
    → Tells text from Is' (object slots (drop from text)) code at
object_stops slots {text} {from} {code} {at} {Is' = Is'} t h =
    subst (λ g. Tells text from Is' g code at) (sym (object_begins filter_keys (filter_reads (judges_of slots)) (drop from text))) (handed_on _ t h)

opened : (slots : List Slot) {text : List ℕ} {from at : ℕ} {Is : ℕ → Type 0} (c : Came text from Is (open_there 0x7b (drop from text)) at) → object slots (drop from text) ≡ behind_brace slots (drop at text)
opened slots {text} {from} c =
    object_begins filter_keys (filter_reads (judges_of slots)) (drop from text) ∙ ap (λ g. follow g (λ z rest. behind_brace slots rest)) c.got_it ∙ ap (behind_brace slots) (sym c.place.behind)

-- no byte behind the end is a brace
there : (text : List ℕ) (at : ℕ) → get_or text at 0 ≡ 0x7d → at < length text
there text at e = go (leb (suc at) (length text)) refl
  where
    go : (b : Bool) → leb (suc at) (length text) ≡ b → at < length text
    go true h = leb-true (suc at) (length text) h
    go false h = absurd (let z = leb-false (suc at) (length text) h in let n : get_or text at 0 ≡ 0 = get_or-eq_default text 0 (omega arith) in omega arith)

byte_first : (text : List ℕ) (n : ℕ) → first (drop n text) ≡ get_or text n 0
byte_first text n = get_or-drop n text 0 0 ∙ ap (λ i. get_or text i 0) (let z : n + 0 ≡ n = omega arith in z)

pub object_empty : (slots : List Slot) (scratch : List ℕ) {text : List ℕ} {from code at start : ℕ} {Is : ℕ → Type 0} → Tells text from Is (open_there 0x7b (drop from text)) code at → code ≡ 0
    → At text (blanks (drop at text)) start → get_or text start 0 ≡ 0x7d
    → Tells text from (AllGathered slots text scratch (start + 1) (record { mismatch = None; on_match = None; lines = None })) (object slots (drop from text)) 0 (start + 1)
object_empty slots scratch {text} {from} {at = at} {start} t e s b =
    let c = came t e in
    let inside = there text start b in
    let here : drop start text ≡ 0x7d ∷ drop (start + 1) text = drop-cons text start 0 inside ∙ rw (b, add-one) in
    let on : at ≤ start = omega (arith, blanks_size (drop at text), ap length s.behind, length-drop at text, length-drop start text, s.inside, c.place.inside) in
    let less : start + 1 - 1 ≡ start = omega arith in
    let is : got [] (drop (start + 1) text) ≡ object slots (drop from text) =
    sym (opened slots c ∙ ap (λ l. cond (eqb (first l) 0x7d) (got [] (drop 1 l)) (turns slots (length (drop at text)) [] (drop at text))) (sym s.behind ∙ here)) in
    subst (λ g. Tells text from (AllGathered slots text scratch (start + 1) (record { mismatch = None; on_match = None; lines = None })) g 0 (start + 1)) is
    (record {
      tells = record {
        fine = refl;
        on = omega (arith, c.on, on);
        place = record { inside = omega arith; behind = refl };
        value = record { gathered = gathered_none slots (length text) scratch; closed = record { some = omega arith; inside = omega arith; brace = ap (λ n. drop n text) less ∙ here } };
      };
    })

pub object_turns : (slots : List Slot) {text : List ℕ} {from code at start code' at' : ℕ} {Is : ℕ → Type 0} {Is' : List (Typed FilterPart) → Type 0} → Tells text from Is (open_there 0x7b (drop from text)) code at → code ≡ 0
    → At text (blanks (drop at text)) start → (get_or text start 0 ≡ 0x7d → ⊥) → Tells text at Is' (whole slots text at) code' at' → Tells text from Is' (object slots (drop from text)) code' at'
object_turns slots {text} {from} {at = at} {start} {code'} {at'} {Is' = Is'} t e s b w =
    let c = came t e in
    let other : eqb (first (blanks (drop at text))) 0x7d ≡ false = ne_eqb (first (blanks (drop at text))) 0x7d (λ x. b (sym (byte_first text start) ∙ ap first s.behind ∙ x)) in
    let is : whole slots text at ≡ object slots (drop from text) =
    sym (opened slots c ∙ ap (λ b. cond b (got [] (drop 1 (blanks (drop at text)))) (turns slots (length (drop at text)) [] (drop at text))) other) in
    subst (λ g. Tells text from Is' g code' at') is (told_earlier (omega (arith, c.on)) w)
