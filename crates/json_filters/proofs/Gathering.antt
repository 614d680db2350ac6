-- What is gathered of a filter, field by field.
use mathlib.Core.Path.{◌≡◌, refl, ap, sym, ◌∙◌}
use mathlib.Core.Bool.{Bool, true, false, cond, ◌||◌}
use mathlib.Core.List.{List, [], ◌∷◌, ◌++◌, append-nil}
use mathlib.Core.Option.{Option, none, some}
use Rattle.std.specs.Prelude.{None, Some, is_some, Result, Ok, IsErrAnd}
use Rattle.std.specs.Prelude as given
use Prim.Native.Nat.{ℕ, zero, suc, ◌+◌, ◌-◌, ◌≤◌}
use native.Mathlib.Omega.{arith}
use lib.Dec.{eqb}
use lib.ListN.{length, take, drop, length-append, length-drop, drop_of_length-le}
use lib.Seq.{take_at, drop_at, length-take-le}
use Rattle.definitions.specs.Json.{quote}
use Rattle.definitions.specs.JsonForm.{field_of, filter_keys, Line}
use Rattle.definitions.specs.Format.{is_there, joined, encode_entry}
use Rattle.definitions.specs.JsonReader.{Got, got, stop, follow, not_json, first, string_at, placed, bad_character}
use Rattle.definitions.specs.FormReader.{Typed, has_typed, value_of, FilterPart, the_action, the_lines, or_stop, action_there, line_there, list_there, judges_of}
use Rattle.definitions.specs.CallNames.{Slot}
use Rattle.json_theorems.proofs.Tests.{false_not_true}
use Rattle.json_theorems.proofs.Faith.{stopped}
use Rattle.json_theorems.proofs.Form.{keys_below_lem}
use Rattle.json_theorems.specs.Turns.{field_there}
use Rattle.json_scan.specs.Scan.{Tells}
use Rattle.json_scan.specs.Telling.{code_of}
use Rattle.json_scan.specs.declared.Misread.{Misread}
use Rattle.json_scan.specs.declared.Read.{Read}
use Rattle.json_scan.proofs.Telling.{came, made_into, told_inside}
use Rattle.json_lines.specs.declared.Lines.{Lines}
use Rattle.json_lines.specs.Lines.{Entries}
use Rattle.json_lines.proofs.Steps.{handed, no_value}
use Rattle.json_filters.specs.declared.Parts.{Parts}
use Rattle.json_filters.specs.Filters.{table_slots, Untouched, ActionHeld, LinesWritten, LinesHeld, is_given, Gathered, GathersOn}

-- ---- fields by their numbers

abbrev number_in : Got ℕ → ℕ
number_in (got n rest) = n
number_in (stop k l) = 0

-- the keys of a filter have the fields 0 to 2
pub filter_field : (l : List ℕ) (f : ℕ) (rest : List ℕ) → field_there filter_keys l ≡ got f rest → f ≤ 2
unfolding field_there
filter_field l f rest e = quoted (eqb (first l) quote) (placed bad_character (string_at (drop 1 l))) e
  where
    known : (k m : List ℕ) (o : Option ℕ) → field_of filter_keys k ≡ o → or_stop o l m ≡ got f rest → f ≤ 2
    known k m none e h = stopped h
    known k m (some g) e h = let z : g ≡ f = ap number_in h in let b = keys_below_lem 3 filter_keys refl k g e in omega arith

    quoted : (q : Bool) (g : Got (List ℕ)) → cond q (follow g (λ k m. or_stop (field_of filter_keys k) l m)) (stop not_json l) ≡ got f rest → f ≤ 2
    quoted true (got k m) h = known k m (field_of filter_keys k) refl h
    quoted true (stop k m) h = stopped h
    quoted false g h = stopped h

pub has_value : {A : Type 0} (f : ℕ) (ts : List (Typed A)) → has_typed f ts ≡ is_there (value_of f ts)
has_value f [] = refl
has_value f (t ∷ ts) = go (eqb t.field f) (has_value f ts)
  where
    go : (b : Bool) → has_typed f ts ≡ is_there (value_of f ts) → (b || has_typed f ts) ≡ is_there (cond b (some t.value) (value_of f ts))
    go true ih = refl
    go false ih = ih

pub not_held : {A : Type 0} (f : ℕ) (ts : List (Typed A)) → has_typed f ts ≡ false → value_of f ts ≡ none
not_held {A = A} f ts h = go (value_of f ts) (sym (has_value f ts) ∙ h)
  where
    go : (o : Option A) → is_there o ≡ false → o ≡ none
    go none e = refl
    go (some a) e = absurd (false_not_true (sym e))

-- ---- what the code knows of them

action_given : (o : Option FilterPart) (v : given.Option ℕ) → ActionHeld o v → is_there o ≡ is_some v
action_given none v h = rw h
action_given (some (the_action a)) v h = rw h
action_given (some (the_lines ls)) v h = absurd h

lines_given_lem : (slots : List Slot) (t : ℕ) (s : List ℕ) (o : Option FilterPart) (n : given.Option ℕ) → LinesHeld slots t s o n → is_there o ≡ is_some n
lines_given_lem slots t s none n h = rw h
lines_given_lem slots t s (some (the_action a)) n h = absurd h
lines_given_lem slots t s (some (the_lines ls)) None h = absurd h
lines_given_lem slots t s (some (the_lines ls)) (Some n) h = refl

pub given_is : {slots : List Slot} {t : ℕ} {s : List ℕ} {p : Parts} {ts : List (Typed FilterPart)} → Gathered slots t s p ts → (f : ℕ) → f ≤ 2 → has_typed f ts ≡ is_given p f
unfolding is_given
given_is {ts = ts} g zero h = has_value 0 ts ∙ action_given (value_of 0 ts) _ g.mismatch
given_is {ts = ts} g (suc zero) h = has_value 1 ts ∙ action_given (value_of 1 ts) _ g.on_match
given_is {slots = slots} {t} {s} {ts = ts} g (suc (suc zero)) h = has_value 2 ts ∙ lines_given_lem slots t s (value_of 2 ts) _ g.lines
given_is g (suc (suc (suc f))) h = absurd (omega arith)

-- nothing is gathered of no fields
pub gathered_none : (slots : List Slot) (t : ℕ) (s : List ℕ) → Gathered slots t s (record { mismatch = None; on_match = None; lines = None }) []
gathered_none slots t s = record { mismatch = refl; on_match = refl; lines = refl }

-- ---- the value of a field

pub itself : (l : List ℕ) → l ≡ l
itself l = refl

lines_stand : {slots : List Slot} (before : List ℕ) {after raw : List ℕ} (t k : ℕ) {r : Lines} {ls : List Line} → after ≡ take t before ++ (raw ++ drop k (drop t before))
    → t ≤ length before → t + k ≡ length before → Entries slots raw r ls → LinesWritten slots t after r.count ls
lines_stand before {after} {raw} t k e room all h =
    let nothing : drop k (drop t before) ≡ [] = drop_of_length-le (drop t before) {i = k} (omega (arith, length-drop t before)) in
    let there : drop t after ≡ raw = ap (drop t) e ∙ drop_at (take t before) (raw ++ drop k (drop t before)) t (length-take-le t before room) ∙ ap (λ x. raw ++ x) nothing ∙ append-nil raw in
    record { entries = h.entries; made = h.made; written = ap (take (length (joined encode_entry h.entries))) there ∙ ap (λ n. take n raw) (sym h.end) ∙ h.written; many = h.count }

pub untouched : (t : ℕ) (s : List ℕ) → Untouched t s s
untouched t s = record { front = refl; whole = refl }

-- what the lines write stays behind the first part
pub front_kept : {before after : List ℕ} (raw : List ℕ) (t : ℕ) → length raw ≡ length (take (length before - t) (drop t before)) → t ≤ length before
    → after ≡ take t before ++ (raw ++ drop (length before - t) (drop t before)) → Untouched t before after
front_kept {before} {after} raw t long room e =
    let k : ℕ = length before - t in
    let all : t + k ≡ length before = omega arith in
    let long' : length raw ≡ k = long ∙ length-take-le k (drop t before) (omega (arith, length-drop t before)) in
    record {
      front = ap (take t) e ∙ take_at (take t before) _ t (length-take-le t before room);
      whole =
          omega (
            arith,
            ap length e,
            length-append (take t before) (raw ++ drop k (drop t before)),
            length-append raw (drop k (drop t before)),
            length-take-le t before room,
            length-drop k (drop t before),
            length-drop t before,
            long',
            all,
            room,
          );
    }

module _ {text table : List ℕ} {at field : ℕ} {p : Parts} where
  pub lines_value : {before after raw : List ℕ} {past : ℕ} {r : Lines} → field ≡ 2
      → Tells text at (Entries (table_slots table) raw r) (list_there (line_there (judges_of (table_slots table))) (drop at text)) 0 past → length text ≤ length before
      → after ≡ take (length text) before ++ (raw ++ drop (length before - length text) (drop (length text) before))
      → GathersOn text at table before after field p (Ok (record { at = past; value = record { mismatch = p.mismatch; on_match = p.on_match; lines = Some r.count } }))
  lines_value {before} f t room e =
      let all : length text + (length before - length text) ≡ length before = omega arith in
      rw f (record {
        on = λ ts g h. made_into (λ ls. the_lines ls) t (λ ls s. record { mismatch = g.mismatch; on_match = g.on_match; lines = lines_stand before (length text) (length before - length text) e room all s });
        inside = told_inside t;
      })

  pub mismatch_value : {before : List ℕ} {past v : ℕ} → field ≡ 0 → Tells text at (λ a. v ≡ a) (action_there (drop at text)) 0 past
      → GathersOn text at table before before field p (Ok (record { at = past; value = record { mismatch = Some v; on_match = p.on_match; lines = p.lines } }))
  mismatch_value e t = rw e (record { on = λ ts g h. made_into (λ a. the_action a) t (λ a s. record { mismatch = ap (λ x. Some x) s; on_match = g.on_match; lines = g.lines }); inside = told_inside t })

  pub match_value : {before : List ℕ} {past v : ℕ} → field ≡ 1 → Tells text at (λ a. v ≡ a) (action_there (drop at text)) 0 past
      → GathersOn text at table before before field p (Ok (record { at = past; value = record { mismatch = p.mismatch; on_match = Some v; lines = p.lines } }))
  match_value e t = rw e (record { on = λ ts g h. made_into (λ a. the_action a) t (λ a s. record { mismatch = g.mismatch; on_match = ap (λ x. Some x) s; lines = g.lines }); inside = told_inside t })

  -- a value that was not read
  pub lines_stop : {before after : List ℕ} {r : Result (Read Parts) Misread} (e : Misread) {Is : List Line → Type 0} → field ≡ 2 → IsErrAnd r (λ y. y ≡ e)
      → Tells text at Is (list_there (line_there (judges_of (table_slots table))) (drop at text)) (code_of e.why) e.at → GathersOn text at table before after field p r
  lines_stop e f i t = let u = handed _ _ i t in rw f (record { on = λ ts g h. made_into (λ ls. the_lines ls) u (λ ls s. no_value _ _ _ i); inside = told_inside u })

  pub mismatch_stop : {before : List ℕ} {r : Result (Read Parts) Misread} (e : Misread) {Is : ℕ → Type 0} → field ≡ 0 → IsErrAnd r (λ y. y ≡ e)
      → Tells text at Is (action_there (drop at text)) (code_of e.why) e.at → GathersOn text at table before before field p r
  mismatch_stop e f i t = let u = handed _ _ i t in rw f (record { on = λ ts g h. made_into (λ a. the_action a) u (λ a s. no_value _ _ _ i); inside = told_inside u })

  pub match_stop : {before : List ℕ} {r : Result (Read Parts) Misread} (e : Misread) {Is : ℕ → Type 0} → field ≡ 1 → IsErrAnd r (λ y. y ≡ e)
      → Tells text at Is (action_there (drop at text)) (code_of e.why) e.at → GathersOn text at table before before field p r
  match_stop e f i t = let u = handed _ _ i t in rw f (record { on = λ ts g h. made_into (λ a. the_action a) u (λ a s. no_value _ _ _ i); inside = told_inside u })

-- ---- a turn

pub field_small : {text : List ℕ} {from code at v : ℕ} → Tells text from (λ f. v ≡ f) (field_there filter_keys (drop from text)) code at → code ≡ 0 → v ≤ 2
field_small {text = text} {from} t e = let k = came t e in let h = filter_field (drop from text) k.part k.rest k.got_it in omega (arith, k.value, h)
