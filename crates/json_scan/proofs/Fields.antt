-- One turn of an object's reader, told step by step: a key, its colon, its value, and what stands behind it. Whoever reads an object goes by these.
use mathlib.Core.Path.{◌≡◌, refl, ap, sym, ◌∙◌}
use mathlib.Core.Bool.{Bool, true, false, cond}
use mathlib.Core.List.{List, [], ◌∷◌}
use Prim.Native.Nat.{ℕ, ◌≤◌, ◌<◌}
use native.Mathlib.Omega.{arith}
use lib.ListN.{length, drop, length-drop}
use Rattle.definitions.specs.Json.{is_blank}
use Rattle.definitions.specs.JsonForm.{Key}
use Rattle.definitions.specs.JsonReader.{Got, got, stop, follow, blanks}
use Rattle.definitions.specs.FormReader.{given_twice, Typed, typed, has_typed}
use Rattle.json_theorems.specs.Turns.{field_there, colon_there, more_there, Turned, turned, turned_there, field_turn}
use Rattle.json_scan.specs.Scan.{At, Either, Tells}
use Rattle.json_scan.proofs.Telling.{came, handed_on}

-- the blanks in front of a key are skipped
pub record Skipped (text : List ℕ) (at from : ℕ) : Type 0 where
  pub same : blanks (drop at text) ≡ drop from text
  pub inside : from ≤ length text
  pub on : at ≤ from

shorter : (l : List ℕ) → length (blanks l) ≤ length l
unfolding blanks
shorter [] = omega arith
shorter (b ∷ bs) = go (is_blank b) (shorter bs)
  where
    go : (t : Bool) → length (blanks bs) ≤ length bs → length (cond t (blanks bs) (b ∷ bs)) ≤ length (b ∷ bs)
    go true h = omega arith
    go false h = omega arith

pub skipped : {text : List ℕ} {at from : ℕ} → at ≤ length text → At text (blanks (drop at text)) from → Skipped text at from
skipped {text = text} {at} {from} h s =
    record { same = sym s.behind; inside = s.inside; on = omega (arith, shorter (drop at text), ap length s.behind, length-drop at text, length-drop from text, s.inside, h) }

-- a key that was not given before
pub record KeyCame {A : Type 0} (keys : List Key) (ts : List (Typed A)) (text : List ℕ) (at field place : ℕ) : Type 0 where
  pub past : List ℕ
  pub key : field_there keys (blanks (drop at text)) ≡ got field past
  pub new : has_typed field ts ≡ false
  pub on : at < place
  pub same : drop place text ≡ past

pub record ColonCame {A : Type 0} (keys : List Key) (ts : List (Typed A)) (text : List ℕ) (at field place : ℕ) : Type 0 where
  pub past : List ℕ
  pub key : field_there keys (blanks (drop at text)) ≡ got field past
  pub new : has_typed field ts ≡ false
  pub sign : ℕ
  pub colon : colon_there past ≡ got sign (drop place text)
  pub on : at < place

pub key_stops : {A : Type 0} (keys : List Key) (reads : ℕ → List ℕ → Got A) (ts : List (Typed A)) {text : List ℕ} {at from code place : ℕ} {Is : ℕ → Type 0} {Is' : Turned (List (Typed A)) → Type 0}
    → Skipped text at from → Tells text from Is (field_there keys (drop from text)) code place → (code ≡ 0 → ⊥)
    → Tells text at Is' (field_turn keys reads ts (drop at text)) code place
unfolding field_turn
key_stops keys reads ts s t h = rw s.same (handed_on _ t h)

pub key_twice : {A : Type 0} (keys : List Key) (reads : ℕ → List ℕ → Got A) (ts : List (Typed A)) {text : List ℕ} {at from code place field : ℕ} {Is' : Turned (List (Typed A)) → Type 0}
    → Skipped text at from → Tells text from (λ f. field ≡ f) (field_there keys (drop from text)) code place → code ≡ 0 → has_typed field ts ≡ true
    → Tells text at Is' (field_turn keys reads ts (drop at text)) given_twice from
unfolding field_turn
key_twice keys reads ts s t e h =
    let k = came t e in
    let twice : has_typed k.part ts ≡ true = ap (λ f. has_typed f ts) (sym k.value) ∙ h in
    record { tells = rw (s.same, k.got_it, twice) (record { told = refl; some = omega arith; place = record { inside = s.inside; behind = refl } }) }

pub key_came : {A : Type 0} {keys : List Key} (ts : List (Typed A)) {text : List ℕ} {at from code place field : ℕ}
    → Skipped text at from → Tells text from (λ f. field ≡ f) (field_there keys (drop from text)) code place → code ≡ 0 → has_typed field ts ≡ false
    → KeyCame keys ts text at field place
key_came ts s t e h =
    let k = came t e in
    record { past = k.rest; key = ap (field_there _) s.same ∙ k.got_it ∙ ap (λ f. got f k.rest) (sym k.value); new = h; on = omega (arith, k.on, s.on); same = k.place.behind }

pub colon_stops : {A : Type 0} {keys : List Key} (reads : ℕ → List ℕ → Got A) {ts : List (Typed A)} {text : List ℕ} {at field behind code place : ℕ} {Is : ℕ → Type 0} {Is' : Turned (List (Typed A)) → Type 0}
    → KeyCame keys ts text at field behind → Tells text behind Is (colon_there (drop behind text)) code place → (code ≡ 0 → ⊥)
    → Tells text at Is' (field_turn keys reads ts (drop at text)) code place
unfolding field_turn
colon_stops reads k t h = rw (k.key, k.new, ← k.same) (handed_on _ t h)

pub colon_came : {A : Type 0} {keys : List Key} {ts : List (Typed A)} {text : List ℕ} {at field behind code place : ℕ} {Is : ℕ → Type 0}
    → KeyCame keys ts text at field behind → Tells text behind Is (colon_there (drop behind text)) code place → code ≡ 0
    → ColonCame keys ts text at field place
colon_came k t e =
    let c = came t e in
    record {
      past = k.past;
      key = k.key;
      new = k.new;
      sign = c.part;
      colon = ap colon_there (sym k.same) ∙ c.got_it ∙ ap (λ l. got c.part l) (sym c.place.behind);
      on = omega (arith, k.on, c.on);
    }

pub value_stops : {A : Type 0} {keys : List Key} (reads : ℕ → List ℕ → Got A) {ts : List (Typed A)} {text : List ℕ} {at field behind code place : ℕ} {Is : A → Type 0} {Is' : Turned (List (Typed A)) → Type 0}
    → ColonCame keys ts text at field behind → Tells text behind Is (reads field (drop behind text)) code place → (code ≡ 0 → ⊥)
    → Tells text at Is' (field_turn keys reads ts (drop at text)) code place
unfolding field_turn
value_stops reads k t h = rw (k.key, k.new, k.colon) (handed_on _ t h)

-- the value was read, and what stands behind it is told
pub turn_told : {A : Type 0} {keys : List Key} (reads : ℕ → List ℕ → Got A) {ts : List (Typed A)} {text : List ℕ} {at field behind code place code' place' : ℕ} {Is : A → Type 0} {more : Bool}
    → ColonCame keys ts text at field behind → Tells text behind Is (reads field (drop behind text)) code place → code ≡ 0
    → Tells text place (λ b. more ≡ b) (more_there 0x7d (drop place text)) code' place'
    → (Held : List (Typed A) → Type 0) → ((a : A) → Is a → Held (typed field a ∷ ts))
    → Tells text at (λ u. (more ≡ u.more) × Held u.gathered) (field_turn keys reads ts (drop at text)) code' place'
unfolding field_turn turned_there
turn_told reads {ts = ts} {text} {at} {field} {behind} {code} {place} {code'} {place'} {more = more} k t e m Held held =
    let c = came t e in
    rw (k.key, k.new, k.colon, c.got_it) (go (more_there 0x7d c.rest) (rw (← c.place.behind) m.tells) c.on (held c.part c.value))
  where
    go : {us : List (Typed _)} (g : Got Bool) → Either text place (λ b. more ≡ b) g code' place' → behind < place → Held us
        → Tells text at (λ u. (more ≡ u.more) × Held u.gathered) (follow g (λ b next. got (turned us b) next)) code' place'
    go (got b next) s on h = record { tells = record { fine = s.fine; on = omega (arith, s.on, on, k.on); place = s.place; value = (s.value, h) } }
    go (stop k' l) s on h = record { tells = s }
