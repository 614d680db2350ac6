-- A filter whose fields are gathered: what is missing, what is equal, and what is written of it.
use mathlib.Core.Path.{◌≡◌, refl, ap, sym, ◌∙◌, subst}
use mathlib.Core.Bool.{Bool, true, false, not}
use mathlib.Core.List.{List, [], ◌∷◌, ◌++◌}
use mathlib.Core.Option.{Option, none, some}
use Rattle.std.specs.Prelude.{None, Some}
use Prim.Native.Nat.{ℕ, ◌+◌, ◌-◌, ◌≤◌}
use native.Mathlib.Omega.{arith}
use lib.Dec.{eqb}
use lib.ListN.{length, take, drop, length-drop}
use lib.Seq.{take-take}
use borrow.Author.Tests.{eq-eqb, ne_eqb}
use Rattle.definitions.specs.Word.{AreBytes}
use Rattle.definitions.specs.RuleSet.{Architecture, Rule, Entry, RuleSet}
use Rattle.definitions.specs.Format.{then, check, Each, encode, architecture_of, native_of}
use Rattle.definitions.specs.CallNames.{Slot, slots_taken, number_for}
use Rattle.definitions.specs.JsonForm.{Line, Filter, filter_of}
use Rattle.definitions.specs.JsonReader.{Got, got, follow}
use Rattle.definitions.specs.FormReader.{not_of_form, equal_actions, Typed, value_of, FilterPart, the_action, the_lines, as_action, as_lines, filter_from, filter_there, keyed_there, judged, answered, asked, ending, is_some, judges_of}
use Rattle.definitions.specs.Collected.{rules_of_args, numbered, collected, now, set_with, taken, set_of}
use Rattle.theorems.proofs.Names.{head_forth}
use Rattle.json_theorems.proofs.Tests.{false_not_true, then_some}
use Rattle.json_theorems.proofs.Faith.{some_same}
use Rattle.json_theorems.proofs.Objects.{ok_filter, only, filter_faithful, filter_only}
use Rattle.json_theorems.proofs.Sets.{filter_taken}
use Rattle.json_theorems.proofs.Sizes.{filter_size_lem, length_set}
use Rattle.json_theorems.proofs.Ranges.{number_range}
use Rattle.json_scan.specs.Scan.{Tells}
use Rattle.json_scan.proofs.Telling.{Came, handed_on}
use Rattle.call_names.proofs.Tables.{good_table}
use Rattle.collect.specs.Raw.{OfLine, Raw}
use Rattle.collect.proofs.Sorting.{collected_shorter}
use Rattle.json_filters.specs.declared.Parts.{Parts}
use Rattle.json_filters.specs.Filters.{table_slots, Lent, Untouched, ActionHeld, LinesWritten, LinesHeld, Gathered, AllGathered, set_bytes, Behind, SetWritten}
use Rattle.json_filters.proofs.Turning.{object}

-- ---- its fields

abbrev filter_with : List ℕ → ℕ → ℕ → List Line → Filter
filter_with name mismatch on_match ls = record { name = name; mismatch = mismatch; on_match = on_match; lines = ls }

-- all fields are there, and make this filter
pub record WholeFilter (slots : List Slot) (t : ℕ) (scratch : List ℕ) (mismatch on_match count : ℕ) (ts : List (Typed FilterPart)) : Type 0 where
  pub lines : List Line
  pub made : (name : List ℕ) → filter_from name (λ f. some (value_of f ts)) ≡ some (filter_with name mismatch on_match lines)
  pub written : LinesWritten slots t scratch count lines

abbrev made_from : List ℕ → Option ℕ → Option ℕ → Option (List Line) → Option Filter
made_from name a b c = then a (λ d. then b (λ m. then c (λ ls. some (record { name = name; mismatch = d; on_match = m; lines = ls }))))

action_held : (o : Option FilterPart) (v : ℕ) → ActionHeld o (Some v) → as_action o ≡ some v
action_held none v h = cc
action_held (some (the_action a)) v h = let e : v ≡ a = cc in ap (λ x. some x) (sym e)
action_held (some (the_lines ls)) v h = absurd h

action_missing : (o : Option FilterPart) → ActionHeld o None → as_action o ≡ none
action_missing none h = refl
action_missing (some (the_action a)) h = cc
action_missing (some (the_lines ls)) h = absurd h

module _ (slots : List Slot) (t : ℕ) (s : List ℕ) where
  lines_held : (o : Option FilterPart) (n : ℕ) → LinesHeld slots t s o (Some n) → (ls : List Line) × (as_lines o ≡ some ls) × LinesWritten slots t s n ls
  lines_held none n h = cc
  lines_held (some (the_action a)) n h = absurd h
  lines_held (some (the_lines ls)) n h = (ls, refl, h)

  lines_missing : (o : Option FilterPart) → LinesHeld slots t s o None → as_lines o ≡ none
  lines_missing none h = refl
  lines_missing (some (the_action a)) h = absurd h
  lines_missing (some (the_lines ls)) h = absurd h

module _ {slots : List Slot} {t : ℕ} {s : List ℕ} {p : Parts} {ts : List (Typed FilterPart)} (g : Gathered slots t s p ts) where
  pub whole_filter : {d m n : ℕ} → p.mismatch ≡ Some d → p.on_match ≡ Some m → p.lines ≡ Some n → WholeFilter slots t s d m n ts
  whole_filter {d} {m} {n} x y z =
      let a = action_held (value_of 0 ts) d (rw x at g.mismatch) in
      let b = action_held (value_of 1 ts) m (rw y at g.on_match) in
      let c = lines_held slots t s (value_of 2 ts) n (rw z at g.lines) in
      record { lines = c.0; made = λ name. rw (a, b, c.1); written = c.2 }

  -- one of them is missing
  pub no_mismatch : p.mismatch ≡ None → (name : List ℕ) → filter_from name (λ f. some (value_of f ts)) ≡ none
  no_mismatch x name = rw (action_missing (value_of 0 ts) (rw x at g.mismatch))

  pub no_match : p.on_match ≡ None → (name : List ℕ) → filter_from name (λ f. some (value_of f ts)) ≡ none
  no_match y name = go (as_action (value_of 0 ts)) (as_action (value_of 1 ts)) (as_lines (value_of 2 ts)) (action_missing (value_of 1 ts) (rw y at g.on_match))
    where
      go : (a b : Option ℕ) (c : Option (List Line)) → b ≡ none → made_from name a b c ≡ none
      go none b c e = refl
      go (some d) b c e = rw e

  pub no_lines : p.lines ≡ None → (name : List ℕ) → filter_from name (λ f. some (value_of f ts)) ≡ none
  no_lines z name = go (as_action (value_of 0 ts)) (as_action (value_of 1 ts)) (as_lines (value_of 2 ts)) (lines_missing slots t s (value_of 2 ts) (rw z at g.lines))
    where
      go : (a b : Option ℕ) (c : Option (List Line)) → c ≡ none → made_from name a b c ≡ none
      go none b c e = refl
      go (some d) none c e = refl
      go (some d) (some m) c e = rw e

-- ---- the reader's filter

abbrev filter : List Slot → List ℕ → List ℕ → Got Filter
filter slots name l = filter_there (judges_of slots) name l

-- what is made of the fields
abbrev made_of : List ℕ → List ℕ → List (Typed FilterPart) → List ℕ → Got Filter
made_of name l ts rest = answered (ending (filter_from name (λ f. some (value_of f ts)))) l rest

abbrev judged_filter : List ℕ → Filter → List ℕ → Got Filter
judged_filter l f rest = answered (asked (not (eqb f.mismatch f.on_match)) equal_actions f) l rest

filter_is_lem : (slots : List Slot) (name l : List ℕ) → follow (follow (object slots l) (made_of name l)) (judged_filter l) ≡ filter slots name l
unfolding filter_there keyed_there judged
filter_is_lem slots name l = refl

pub filter_stops : (slots : List Slot) (name : List ℕ) {text : List ℕ} {from code at : ℕ} {Is : List (Typed FilterPart) → Type 0} {Is' : Filter → Type 0} → Tells text from Is (object slots (drop from text)) code at → (code ≡ 0 → ⊥)
    → Tells text from Is' (filter slots name (drop from text)) code at
filter_stops slots name {text} {from} {code} {at} {Is' = Is'} t h =
    subst (λ g. Tells text from Is' g code at) (filter_is_lem slots name (drop from text))
    (handed_on {from = from} {Is = λ (f : Filter). Unit {0}} (judged_filter (drop from text)) (handed_on {from' = from} {Is' = λ (f : Filter). Unit {0}} (made_of name (drop from text)) t h) h)

-- what becomes of the fields that came
came_to : (slots : List Slot) (name : List ℕ) {text : List ℕ} {from at : ℕ} {Is : List (Typed FilterPart) → Type 0} (c : Came text from Is (object slots (drop from text)) at) (o : Option Filter)
    → filter_from name (λ f. some (value_of f c.part)) ≡ o → follow (answered (ending o) (drop from text) c.rest) (judged_filter (drop from text)) ≡ filter slots name (drop from text)
came_to slots name {text} {from} c o e =
    ap (λ x. follow (answered (ending x) (drop from text) c.rest) (judged_filter (drop from text))) (sym e)
    ∙ ap (λ g. follow (follow g (made_of name (drop from text))) (judged_filter (drop from text))) (sym c.got_it) ∙ filter_is_lem slots name (drop from text)

pub filter_missing : (slots : List Slot) (name : List ℕ) {text scratch : List ℕ} {from at : ℕ} {p : Parts} {Is' : Filter → Type 0}
    → (c : Came text from (AllGathered slots text scratch at p) (object slots (drop from text)) at) → filter_from name (λ f. some (value_of f c.part)) ≡ none
    → Tells text from Is' (filter slots name (drop from text)) not_of_form (at - 1)
filter_missing slots name {text} {from = from} {at} {Is' = Is'} c e =
    let k = c.value.closed in
    let brace : drop (at - 1) text ≡ 0x7d ∷ c.rest = k.brace ∙ ap (λ l. 0x7d ∷ l) c.place.behind in
    subst (λ g. Tells text from Is' g not_of_form (at - 1)) (came_to slots name c none e)
    (record { tells = record { told = refl; some = omega arith; place = record { inside = omega (arith, c.place.inside); behind = brace } } })

module _ (slots : List Slot) (name : List ℕ) {text scratch : List ℕ} {from at : ℕ} {p : Parts} {d m n : ℕ} (c : Came text from (AllGathered slots text scratch at p) (object slots (drop from text)) at)
    (w : WholeFilter slots (length text) scratch d m n c.part) where
  pub filter_equal : {Is' : Filter → Type 0} → from ≤ length text → d ≡ m → Tells text from Is' (filter slots name (drop from text)) equal_actions from
  filter_equal {Is'} h e =
      subst (λ g. Tells text from Is' g equal_actions from)
      (ap (λ b. answered (asked (not b) equal_actions (filter_with name d m w.lines)) (drop from text) c.rest) (sym (eq-eqb _ _ e)) ∙ came_to slots name c (some (filter_with name d m w.lines)) (w.made name))
      (record { tells = record { told = refl; some = omega arith; place = record { inside = h; behind = refl } } })

  pub filter_read : (d ≡ m → ⊥) → filter slots name (drop from text) ≡ got (filter_with name d m w.lines) c.rest
  filter_read e =
      sym (came_to slots name c (some (filter_with name d m w.lines)) (w.made name))
      ∙ ap (λ b. answered (asked (not b) equal_actions (filter_with name d m w.lines)) (drop from text) c.rest) (ne_eqb _ _ e)

-- ---- its lines, collected

of_lines : (slots : List Slot) → slots_taken slots ≡ true → (ls : List Line) (es : List Entry) → numbered slots ls ≡ some es → Each OfLine es
unfolding numbered
of_lines slots t [] es e = subst (Each OfLine) (some_same e) tt
of_lines slots t (l ∷ ls) es e =
    let n = then_some (number_for slots l.call) _ es e in
    let r = then_some (numbered slots ls) _ es n.2 in
    subst (Each OfLine) (some_same r.2) (record { number = number_range slots t l.call n.0 n.1; single = one l.args }, of_lines slots t ls r.0 r.1)
  where
    one : (a : Option Rule) → length (rules_of_args a) ≤ 1
    one none = omega arith
    one (some r) = omega arith

-- these entries stand in the second part of scratch, with room in the first
pub record RawLines (s : List ℕ) (t n at : ℕ) (es : List Entry) : Type 0 where
  pub raw : Raw s t n at
  pub same : raw.entries ≡ es

pub raw_lines : {text : List ℕ} (table : List ℕ) {before after : List ℕ} {from at place : ℕ} {p : Parts} {d m n : ℕ} → AreBytes table → Lent text table before → Untouched (length text) before after → place ≤ from + 5
    → (c : Came text from (AllGathered (table_slots table) text after at p) (object (table_slots table) (drop from text)) at) (w : WholeFilter (table_slots table) (length text) after d m n c.part) → (d ≡ m → ⊥)
    → RawLines after (length text) n (place + 16) w.written.entries
raw_lines {text = text} table {from = from} {at} {place} {d = d} {m} bytes l u near c w e =
    let size = filter_size_lem (judges_of (table_slots table)) (table_slots table) [] (drop from text) (filter_with [] d m w.lines) c.rest (filter_read (table_slots table) [] c w e) w.written.entries w.written.made in
    record {
      raw = record {
        entries = w.written.entries;
        there = w.written.written;
        many = w.written.many;
        lines = of_lines (table_slots table) (good_table table bytes l.good).taken w.lines w.written.entries w.written.made;
        long = omega (arith, l.room, u.whole);
        small = l.short;
        room = omega (arith, size, near, length-drop from text, ap length c.place.behind, length-drop at text, c.on, c.place.inside);
      };
      same = refl;
    }

-- ---- its set

filter_ok : (slots : List Slot) (name l : List ℕ) (f : Filter) (rest : List ℕ) → filter slots name l ≡ got f rest → ok_filter (judges_of slots) f ≡ true
filter_ok slots name l f rest e =
    let v = (filter_faithful 0 (judges_of slots) name).sound l f rest e in
    go (ok_filter (judges_of slots)) (filter_of name v.is) (sym (filter_only (judges_of slots) name v.is) ∙ v.meant)
  where
    tested : (b : Bool) (g : Filter) → check b (some g) ≡ some f → (b ≡ true) × (g ≡ f)
    tested true g h = (refl, some_same h)
    tested false g h = absurd (false_not_true (ap is_some h))

    go : (ok : Filter → Bool) (o : Option Filter) → only ok o ≡ some f → ok f ≡ true
    go ok none h = absurd (false_not_true (ap is_some h))
    go ok (some g) h = let k = tested (ok g) g h in ap ok (sym k.1) ∙ k.0

set_made : (slots : List Slot) (a : Architecture) (native : Bool) (f : Filter) (es : List Entry) → ok_filter (judges_of slots) f ≡ true → numbered slots f.lines ≡ some es
    → set_of now.join slots a native f ≡ some (set_with a native f (collected now.join es))
unfolding set_of
set_made slots a native f es ok e = rw e (go (taken (set_with a native f es)) (ap is_some (ap (λ o. then o (λ x. check (taken (set_with a native f x)) (some (set_with a native f (collected now.join x))))) (sym e)) ∙ sym (filter_taken now.join slots a native f) ∙ ok))
  where
    go : (b : Bool) → is_some (check b (some (set_with a native f (collected now.join es)))) ≡ true → check b (some (set_with a native f (collected now.join es))) ≡ some (set_with a native f (collected now.join es))
    go true h = refl
    go false h = absurd (false_not_true h)

encoded : (architecture : ℕ) (a : Architecture) → architecture_of architecture ≡ some a → (f : Filter) (es : List Entry)
    → set_bytes architecture f.mismatch f.on_match es ≡ encode (set_with a (native_of architecture) f es)
unfolding set_bytes encode
encoded architecture a e f es = rw (head_forth architecture a e)

pub filter_written : (name : List ℕ) {text : List ℕ} (table : List ℕ) {before mid after : List ℕ} {architecture from at place end : ℕ} {p : Parts} {d m n : ℕ} (a : Architecture) → architecture_of architecture ≡ some a → place ≤ from + 5
    → Untouched (length text) before mid
    → (c : Came text from (AllGathered (table_slots table) text mid at p) (object (table_slots table) (drop from text)) at) (w : WholeFilter (table_slots table) (length text) mid d m n c.part) → (d ≡ m → ⊥)
    → (raw : Raw mid (length text) n (place + 16)) → raw.entries ≡ w.written.entries
    → Behind place mid after (set_bytes architecture d m (collected now.join raw.entries)) end
    → Tells text from (SetWritten (table_slots table) architecture place before after end at) (filter (table_slots table) name (drop from text)) 0 at
filter_written name {text} table {before} {mid} {after} {architecture} {from} {at} {place} {end} {d = d} {m} a known near u c w e raw same b =
    let slots : List Slot = table_slots table in
    let f : Filter = filter_with name d m w.lines in
    let es : List Entry = w.written.entries in
    let rs : RuleSet = set_with a (native_of architecture) f (collected now.join es) in
    let read : filter slots name (drop from text) ≡ got f c.rest = filter_read slots name c w e in
    let size = filter_size_lem (judges_of slots) slots name (drop from text) f c.rest read es w.written.made in
    let bytes : set_bytes architecture d m (collected now.join raw.entries) ≡ encode rs =
    ap (λ x. set_bytes architecture d m (collected now.join x)) same ∙ encoded architecture a known f (collected now.join es) in
    let front : take place mid ≡ take place before =
    sym (take-take place (length text) mid (omega (arith, raw.room))) ∙ ap (take place) u.front ∙ take-take place (length text) before (omega (arith, raw.room)) in
    let spot : end ≡ place + length (encode rs) = b.spot ∙ ap (λ x. place + length x) bytes in
    subst (λ g. Tells text from (SetWritten slots architecture place before after end at) g 0 at) (sym read)
    (record {
      tells = record {
        fine = refl;
        on = c.on;
        place = c.place;
        value = record {
          known = a;
          named = known;
          set = rs;
          made = set_made slots a (native_of architecture) f es (filter_ok slots name (drop from text) f c.rest read) w.written.made;
          behind = record { spot = spot; written = b.written ∙ ap (λ x. x ++ set_bytes architecture d m (collected now.join raw.entries)) front ∙ ap (λ x. take place before ++ x) bytes; whole = b.whole ∙ u.whole };
          short = omega (arith, spot, length_set rs, collected_shorter es, size, near, length-drop from text, ap length c.place.behind, length-drop at text, c.place.inside, c.on);
        };
      };
    })
