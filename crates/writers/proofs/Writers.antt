-- What each writer's stores make of a buffer that holds a rule set: one that holds the set with the part added.
use mathlib.Core.Path.{◌≡◌, refl, ap, sym, ◌∙◌}
use mathlib.Core.Bool.{Bool, true, not, ◌&&◌}
use mathlib.Core.List.{List, [], ◌∷◌, ◌++◌, append-nil}
use mathlib.Core.Option.{Option, some}
use Prim.Native.Nat.{ℕ, ◌+◌, ◌^◌, ◌≤◌, ◌<◌}
use native.Mathlib.Omega.{arith}
use lib.Dec.{eqb}
use lib.ListN.{length, length-append}
use borrow.Author.Tests.{eq-eqb, le-leb}
use Rattle.definitions.specs.declared.Condition.{Condition}
use Rattle.definitions.specs.declared.Writer.{Writer}
use Rattle.definitions.specs.Word.{bytes_of}
use Rattle.definitions.specs.RuleSet.{Architecture, Rule, Entry, RuleSet, is_action}
use Rattle.definitions.specs.Format.{native_of, architecture_of, joined, encode_condition, encode_rule, encode_entry, encode, Each, ConditionInRange, EntryInRange, InRange}
use Rattle.definitions.specs.Format.{is_there}
use Rattle.definitions.specs.Parts.{on_last, on_rules, started, with_entry, with_rule, with_condition, condition_of, condition_part}
use Rattle.definitions.specs.Writers.{no_rule, last_rule, EntryAt, no_entry, last_entry, Holds, code_for, head_good, start_code, Started, Added}
use Rattle.theorems.proofs.Words.{length_bytes}
use Rattle.theorems.proofs.Tests.{some_same, then_some, both_true}
use Rattle.theorems.proofs.Names.{head_forth}
use Rattle.theorems.proofs.Forms.{length_condition, length_rule, length_entry, short_count}
use Rattle.bpf.specs.Place.{place}
use Rattle.bpf.proofs.Buffer.{length_place, drop_place}
use Rattle.readers.specs.Tests.{condition_good}
use Rattle.writers.specs.Bytes.{head_bytes, condition_bytes}
use Rattle.writers.proofs.Stores.{raised, length_added, kept_behind, take_front}
use Rattle.writers.proofs.Codes.{Taken, code_zero}
use Rattle.writers.proofs.Names.{condition_named, length_numbers, part_there}
use Rattle.writers.proofs.Sets.{on_last_lem, length_last, joined_last, each_last, last_each, heading, lead, track, length_lead, length_track, encode_entries, encode_rules, encode_conditions, ended, form_added}

-- a refusal
pub refused : {part : Option (RuleSet → RuleSet)} {ordered : Bool} {more : ℕ} {before : List ℕ} {w : Writer} {code : ℕ} {r : Writer}
    → code ≡ code_for (is_there part) ordered more (length before) w → (code ≡ 0 → ⊥)
    → r ≡ record { code = code; end = w.end; entry = w.entry; rule = w.rule } → Added part ordered more before before w r
refused {w = w} {code = code} {r = r} e bad told =
    let same : r.code ≡ code = ap (λ (x : Writer). x.code) told in
    record {
      code = same ∙ e;
      refused = λ h. (refl, told ∙ ap (λ (n : ℕ). record { code = n; end = w.end; entry = w.entry; rule = w.rule }) (sym same));
      taken = λ z. absurd (bad (sym same ∙ z));
      kept = refl;
    }

some_rule_byte : (r : Rule) → 1 ≤ length (encode_rule r)
some_rule_byte r = omega (arith, length_rule r)

some_entry_byte : (e : Entry) → 1 ≤ length (encode_entry e)
some_entry_byte e = omega (arith, length_entry e)

some_condition_byte : (q : Condition) → 1 ≤ length (encode_condition q)
some_condition_byte q = omega (arith, length_condition q)

-- ---- a number listed

abbrev bare_entry : ℕ → Entry
bare_entry n = record { number = n; rules = [] }

abbrev part_entry : ℕ → List ℕ
part_entry n = bytes_of 4 n ++ bytes_of 4 0

module _ (rs : RuleSet) (out : List ℕ) (w : Writer) (n : ℕ) (small : n < 2 ^ 32) (t : Taken true true 8 (length out) w) (h : Holds rs out w) where
  entry_long : length (part_entry n) ≡ 8
  entry_long = simp (length-append, length_bytes)

  entry_new : encode (with_entry n rs) ≡ heading rs ++ (bytes_of 4 (length rs.entries + 1) ++ (joined encode_entry rs.entries ++ (part_entry n)))
  unfolding encode_entry
  entry_new = encode_entries (with_entry n rs) ∙ rw (length_last rs.entries (bare_entry n), joined_last encode_entry rs.entries (bare_entry n)) (simp append-nil)

  holds_entry : Holds (with_entry n rs) (raised (place out w.end (part_entry n)) 12) (record { code = 0; end = w.end + 8; entry = w.end; rule = 0 })
  holds_entry =
      let es = rs.entries in
      let add : List Entry → List Entry = λ l. l ++ (bare_entry n ∷ []) in
      let spot : length (heading rs) ≡ 12 = simp (length-append, length_bytes) in
      let good : Each EntryInRange es → Each EntryInRange (add es) = λ g. each_last EntryInRange es (bare_entry n) g (record { number = small; rules = tt }) in
      let count = short_count encode_entry some_entry_byte es in
      let end = ended rs add out w.end 12 (length es) 8 (heading rs) (joined encode_entry es) (part_entry n) (encode_entries rs) entry_new entry_long spot count t.room t.small good h.form in
      record {
        form = form_added rs add out w.end 12 (length es) 8 (heading rs) (joined encode_entry es) (part_entry n) (encode_entries rs) entry_new entry_long spot count t.room t.small good h.form;
        fits = omega (arith, length_added out w.end 12 (part_entry n) (rw entry_long t.room) (omega (arith, t.room, t.head)), t.room);
        places = last_entry es (bare_entry n) refl (omega (arith, spot)) (no_rule refl refl);
      }

pub listed : {before after : List ℕ} {w : Writer} {n : ℕ} → n < 2 ^ 32 → code_for true true 8 (length before) w ≡ 0
    → after ≡ raised (place before w.end (bytes_of 4 n ++ bytes_of 4 0)) 12
    → Added (some (with_entry n)) true 8 before after w (record { code = 0; end = w.end + 8; entry = w.end; rule = 0 })
listed {before} {after} {w} {n} small e put =
    record {
      code = sym e;
      refused = λ bad. absurd (bad refl);
      taken = λ z add same rs h. rw (← some_same same, put) (holds_entry rs before w n small (code_zero e) h);
      kept =
          let t = code_zero e in
          let long : length (part_entry n) ≡ 8 = simp (length-append, length_bytes) in
          rw put (kept_behind before w.end 12 (w.end + 8) (part_entry n) (rw long) t.room (omega (arith, t.head)));
    }

-- ---- a rule begun

abbrev add_rule : Entry → Entry
add_rule = on_rules (λ rules. rules ++ ([] ∷ []))

module _ (rs : RuleSet) (out : List ℕ) (w : Writer) (t : Taken true true 4 (length out) w) (h : Holds rs out w)
    (front : List Entry) (e : Entry) (split : rs.entries ≡ front ++ (e ∷ [])) (spot : w.entry ≡ 16 + length (joined encode_entry front)) where
  rule_split : on_last add_rule rs.entries ≡ front ++ (add_rule e ∷ [])
  rule_split = rw split (on_last_lem add_rule front e)

  rule_new : encode (with_rule rs) ≡ lead rs front e.number ++ (bytes_of 4 (length e.rules + 1) ++ (joined encode_rule e.rules ++ bytes_of 4 0))
  unfolding encode_rule
  rule_new = encode_rules (with_rule rs) front (add_rule e) rule_split ∙ rw (length_last e.rules [], joined_last encode_rule e.rules []) (simp append-nil)

  rule_good : Each EntryInRange rs.entries → Each EntryInRange (on_last add_rule rs.entries)
  rule_good g =
      let l = last_each EntryInRange front e (rw split at g) in
      rw rule_split
      (each_last EntryInRange front (add_rule e) l.0 (record { number = l.1.number; rules = each_last (Each ConditionInRange) e.rules [] l.1.rules tt }))

  holds_rule_in : Holds (with_rule rs) (raised (place out w.end (bytes_of 4 0)) (w.entry + 4)) (record { code = 0; end = w.end + 4; entry = w.entry; rule = w.end })
  holds_rule_in =
      let p = lead rs front e.number in
      let q = joined encode_rule e.rules in
      let k = length e.rules in
      let old = encode_rules rs front e split in
      let long = length_bytes 4 0 in
      let at : length p ≡ w.entry + 4 = length_lead rs front e.number ∙ rw spot in
      let count = short_count encode_rule some_rule_byte e.rules in
      let end = ended rs (on_last add_rule) out w.end (w.entry + 4) k 4 p q (bytes_of 4 0) old rule_new long at count t.room t.small rule_good h.form in
      record {
        form = form_added rs (on_last add_rule) out w.end (w.entry + 4) k 4 p q (bytes_of 4 0) old rule_new long at count t.room t.small rule_good h.form;
        fits = omega (arith, length_added out w.end (w.entry + 4) (bytes_of 4 0) (rw long t.room) (omega (arith, t.room, t.entry)), t.room);
        places = last_entry front (add_rule e) rule_split spot (last_rule e.rules [] refl (omega (arith, at, end)));
      }

holds_rule : (rs : RuleSet) (out : List ℕ) (w : Writer) → Taken true (not (eqb w.entry 0)) 4 (length out) w → Holds rs out w
    → Holds (with_rule rs) (raised (place out w.end (bytes_of 4 0)) (w.entry + 4)) (record { code = 0; end = w.end + 4; entry = w.entry; rule = w.end })
holds_rule rs out w t h = go h.places
  where
    go : EntryAt rs.entries w
        → Holds (with_rule rs) (raised (place out w.end (bytes_of 4 0)) (w.entry + 4)) (record { code = 0; end = w.end + 4; entry = w.entry; rule = w.end })
    go (no_entry a b d) = absurd (let x = eq-eqb w.entry 0 b in let y = t.ordered in let z : ◌≡◌ {A = ℕ} 0 1 = cc in omega arith)
    go (last_entry front e split spot rule) = holds_rule_in rs out w (rw t.ordered at t) h front e split spot

pub begun : {before after : List ℕ} {w : Writer} → code_for true (not (eqb w.entry 0)) 4 (length before) w ≡ 0
    → after ≡ raised (place before w.end (bytes_of 4 0)) (w.entry + 4)
    → Added (some with_rule) (not (eqb w.entry 0)) 4 before after w (record { code = 0; end = w.end + 4; entry = w.entry; rule = w.end })
begun {before} {after} {w} e put =
    record {
      code = sym e;
      refused = λ bad. absurd (bad refl);
      taken = λ z add same rs h. rw (← some_same same, put) (holds_rule rs before w (code_zero e) h);
      kept =
          let t = code_zero e in
          rw put (kept_behind before w.end (w.entry + 4) (w.end + 4) (bytes_of 4 0) (rw length_bytes) t.room (omega (arith, t.entry)));
    }

-- ---- a condition added

abbrev add_to : Condition → Rule → Rule
add_to q rule = rule ++ (q ∷ [])

abbrev add_condition : Condition → Entry → Entry
add_condition q = on_rules (on_last (add_to q))

module _ (rs : RuleSet) (out : List ℕ) (w : Writer) (q : Condition) (ranged : ConditionInRange q)
    (t : Taken true true 24 (length out) w) (h : Holds rs out w)
    (front : List Entry) (e : Entry) (split : rs.entries ≡ front ++ (e ∷ [])) (spot : w.entry ≡ 16 + length (joined encode_entry front))
    (rules : List Rule) (r : Rule) (cut : e.rules ≡ rules ++ (r ∷ [])) (place_of : w.rule ≡ w.entry + 8 + length (joined encode_rule rules)) where
  condition_split : on_last (add_condition q) rs.entries ≡ front ++ (add_condition q e ∷ [])
  condition_split = rw split (on_last_lem (add_condition q) front e)

  condition_cut : on_last (add_to q) e.rules ≡ rules ++ (add_to q r ∷ [])
  condition_cut = rw cut (on_last_lem (add_to q) rules r)

  condition_new : encode (with_condition q rs)
      ≡ track rs front e.number rules ++ (bytes_of 4 (length r + 1) ++ (joined encode_condition r ++ encode_condition q))
  condition_new =
      encode_conditions (with_condition q rs) front (add_condition q e) rules (add_to q r) condition_split condition_cut
      ∙ rw (length_last r q, joined_last encode_condition r q)

  condition_ranged : Each EntryInRange rs.entries → Each EntryInRange (on_last (add_condition q) rs.entries)
  condition_ranged g =
      let l = last_each EntryInRange front e (rw split at g) in
      let m = last_each (Each ConditionInRange) rules r (rw cut at l.1.rules) in
      let new : Each (Each ConditionInRange) (on_last (add_to q) e.rules) =
      rw condition_cut (each_last (Each ConditionInRange) rules (add_to q r) m.0 (each_last ConditionInRange r q m.1 ranged)) in
      rw condition_split (each_last EntryInRange front (add_condition q e) l.0 (record { number = l.1.number; rules = new }))

  holds_condition_in : Holds (with_condition q rs) (raised (place out w.end (encode_condition q)) w.rule) (record { code = 0; end = w.end + 24; entry = w.entry; rule = w.rule })
  holds_condition_in =
      let p = track rs front e.number rules in
      let old = encode_conditions rs front e rules r split cut in
      let at : length p ≡ w.rule = length_track rs front e.number rules ∙ rw (place_of, spot) in
      let count = short_count encode_condition some_condition_byte r in
      record {
        form = form_added rs (on_last (add_condition q)) out w.end w.rule (length r) 24 p (joined encode_condition r) (encode_condition q) old condition_new (length_condition q) at count t.room t.small condition_ranged h.form;
        fits = omega (arith, length_added out w.end w.rule (encode_condition q) (rw length_condition t.room) (omega (arith, t.room, t.rule)), t.room);
        places = last_entry front (add_condition q e) condition_split spot (last_rule rules (add_to q r) condition_cut place_of);
      }

holds_condition : (rs : RuleSet) (out : List ℕ) (w : Writer) (q : Condition) → ConditionInRange q
    → Taken true (not (eqb w.rule 0)) 24 (length out) w → Holds rs out w
    → Holds (with_condition q rs) (raised (place out w.end (encode_condition q)) w.rule) (record { code = 0; end = w.end + 24; entry = w.entry; rule = w.rule })
holds_condition rs out w q ranged t h = go h.places
  where
    none_open : {P : Type 0} → w.rule ≡ 0 → P
    none_open b = absurd (let x = eq-eqb w.rule 0 b in let y = t.ordered in let z : ◌≡◌ {A = ℕ} 0 1 = cc in omega arith)

    go : EntryAt rs.entries w
        → Holds (with_condition q rs) (raised (place out w.end (encode_condition q)) w.rule) (record { code = 0; end = w.end + 24; entry = w.entry; rule = w.rule })
    go (no_entry a b d) = none_open d
    go (last_entry front e split spot (no_rule a b)) = none_open b
    go (last_entry front e split spot (last_rule rules r cut place_of)) =
        holds_condition_in rs out w q ranged (rw t.ordered at t) h front e split spot rules r cut place_of

-- the code that was found with the tests of the code
pub coded : (index width operator value mask : ℕ) {good : Bool} (ordered : Bool) (more size : ℕ) {code : ℕ} (w : Writer)
    → code ≡ code_for good ordered more size w → good ≡ condition_good width operator mask
    → code ≡ code_for (is_there (condition_part index width operator value mask)) ordered more size w
coded index width operator value mask ordered more size w e g = rw (part_there index width operator value mask, ← g) e

pub added : {before after : List ℕ} {w : Writer} (index width operator value mask : ℕ) → index < 2 ^ 8 → value < 2 ^ 64 → mask < 2 ^ 64
    → code_for (is_there (condition_part index width operator value mask)) (not (eqb w.rule 0)) 24 (length before) w ≡ 0
    → after ≡ raised (place before w.end (condition_bytes index width operator value mask)) w.rule
    → Added (condition_part index width operator value mask) (not (eqb w.rule 0)) 24 before after w
    (record { code = 0; end = w.end + 24; entry = w.entry; rule = w.rule })
added {before} {after} {w} index width operator value mask i v m e put =
    record {
      code = sym e;
      refused = λ bad. absurd (bad refl);
      taken = λ z add same rs h.
          let x = then_some (condition_of index width operator value mask) _ same in
          let q = x.0 in
          let named = condition_named index width operator value mask q i v m x.1 in
          let t = code_zero e in
          rw (← some_same x.2, put, ← named.1) (holds_condition rs before w q named.0 (rw t.good at t) h);
      kept =
          let t = code_zero e in
          rw put (kept_behind before w.end w.rule (w.end + 24) (condition_bytes index width operator value mask) (rw length_numbers) t.room (omega (arith, t.rule)));
    }

-- ---- a set started

pub begin_refused : {a d m : ℕ} {before : List ℕ} (code : ℕ) → (code ≡ 0 → ⊥) → code ≡ start_code a d m (length before)
    → Started a d m before before (record { code = code; end = 0; entry = 0; rule = 0 })
begin_refused code bad e = record { code = e; refused = λ h. (refl, refl); taken = λ z. absurd (bad z); kept = refl }

length_head : (a d m : ℕ) → length (head_bytes a d m) ≡ 16
unfolding head_bytes
length_head a d m = simp (length-append, length_bytes)

module _ (a d m : ℕ) (known : Architecture) (named : architecture_of a ≡ some known) (good : head_good a d m ≡ true) where
  head_form : encode (started known (native_of a) d m) ≡ head_bytes a d m
  unfolding encode head_bytes
  head_form = rw (head_forth a known named) (simp append-nil)

  head_ranged : InRange (started known (native_of a) d m)
  unfolding head_good
  head_ranged =
      let x = both_true (is_there (architecture_of a)) (is_action d && is_action m) good in
      let y = both_true (is_action d) (is_action m) x.1 in
      record { mismatch = y.0; on_match = y.1; entries = tt; size = rw (head_form, length_head) (omega arith) }

pub begun_set : {a d m : ℕ} {before after : List ℕ} → head_good a d m ≡ true → 16 ≤ length before → after ≡ place before 0 (head_bytes a d m)
    → Started a d m before after (record { code = 0; end = 16; entry = 0; rule = 0 })
unfolding start_code
begun_set {a} {d} {m} {before} {after} good room put =
    let long = length_head a d m in
    record {
      code = rw (good, le-leb 16 (length before) room);
      refused = λ bad. absurd (bad refl);
      taken = λ z known named. record {
        form = record { ranged = head_ranged a d m known named good; spelled = rw (put, take_front before (head_bytes a d m) 16 long) (head_form a d m known named good) };
        fits = rw (put, length_place before 0 (head_bytes a d m) (rw long room)) room;
        places = no_entry refl refl refl;
      };
      kept = rw put (drop_place before 0 16 (head_bytes a d m) (rw long (omega arith)) room);
    }
