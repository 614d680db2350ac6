-- The contract of reading JSON, from what code that reads it has to show: that it answers as is defined, that with 0 the sets' bytes stand in the
-- buffer, in front of what stood there, and that else nothing is written. Assumes nothing.
use mathlib.Core.Path.{◌≡◌, refl, ap, subst, sym, ◌∙◌}
use mathlib.Core.Bool.{Bool, true, false, cond, not}
use mathlib.Core.List.{List, ◌++◌}
use mathlib.Core.Option.{Option, none, some}
use Prim.Native.Nat.{ℕ, ◌-◌, ◌%◌, ◌^◌, ◌≤◌, ◌<◌}
use native.Mathlib.Omega.{arith}
use lib.Dec.{eqb, leb, ltb}
use lib.ListN.{length, take, drop, length-append, length-drop}
use lib.Seq.{take_at, drop_at}
use borrow.Author.Tests.{eqb-true, eqb-false, leb-true, leb-false, ltb-true, ltb-false}
use Rattle.definitions.specs.declared.JsonAnswer.{JsonAnswer}
use Rattle.definitions.specs.RuleSet.{Architecture, one_of}
use Rattle.definitions.specs.Format.{Each, joined, native_of, architecture_of}
use Rattle.definitions.specs.JsonForm.{Filter}
use Rattle.definitions.specs.CallNames.{Slot, TableOf, slots_in, slot_count, first_bad}
use Rattle.definitions.specs.Collected.{NamedSet, encode_named, sets_of, now}
use Rattle.definitions.specs.JsonReader.{Got, got, stop}
use Rattle.definitions.specs.FormReader.{judges_of, read_filters}
use Rattle.definitions.specs.FromJson.{Means, Compiles, most_text, scratch_for, refused_at, too_short, wrote, sets_answer, read_answer, known_answer, json_answer, bytes_written, Wrote, FromJson}
use Rattle.json_theorems.proofs.Tests.{false_not_true, none_not_some}
use Rattle.json_theorems.proofs.Faith.{stopped}
use Rattle.json_theorems.proofs.Whole.{front_sound}
use Rattle.json_theorems.proofs.Sets.{sets_sound, sets_complete}
use Rattle.json_theorems.proofs.Passes.{Adds, adds_upstream}
use Rattle.json_theorems.proofs.Sizes.{Shrinks, shrinks_upstream, meant_size}
use Rattle.json_theorems.proofs.Ranges.{meant_compile}
use Rattle.json_theorems.proofs.Closed.{is_fault}
use Rattle.json_theorems.proofs.Steady.{read_stops}

-- rules are put together as upstream does
now_adds : Adds now.join
now_adds = adds_upstream

now_shrinks : Shrinks now.join
now_shrinks = shrinks_upstream

-- bytes are a table exactly if no slot is bad, and then of the slots by places (crate call_names)
pub record Tables (table : List ℕ) : Type 0 where
  pub good : first_bad table ≡ length table → TableOf (slots_in (slot_count table) table) table
  pub only : (slots : List Slot) → TableOf slots table → (first_bad table ≡ length table) × (slots_in (slot_count table) table ≡ slots)

module _ (text table : List ℕ) (architecture : ℕ) where
  abbrev slots : List Slot
  slots = slots_in (slot_count table) table

  -- the text was read, and these are its sets
  pub record Has (known : Architecture) (sets : List NamedSet) : Type 0 where
    pub filters : List Filter
    pub rest : List ℕ
    pub named : architecture_of architecture ≡ some known
    pub good : first_bad table ≡ length table
    pub short : length text ≤ most_text
    pub read : read_filters (judges_of slots) text ≡ got filters rest
    pub made : sets_of now.join slots known (native_of architecture) filters ≡ some sets

  not_fault : (k : ℕ) (m : List ℕ) → read_filters (judges_of slots) text ≡ stop k m → (n : ℕ) → is_fault n ≡ false → k ≡ n → ⊥
  not_fault k m e n f is = false_not_true (sym f ∙ ap is_fault (sym is) ∙ read_stops (judges_of slots) text k m e)

  module _ (tables : Tables table) where
    means : (known : Architecture) (sets : List NamedSet) → Has known sets → Means text table architecture sets
    means known sets h =
        let f = front_sound (judges_of slots) text h.filters h.rest h.read in
        record { value = f.is; filters = h.filters; slots = slots; known = known; written = f.written; form = f.form; tabled = tables.good h.good; named = h.named; made = h.made }

    compile : (known : Architecture) (sets : List NamedSet) → Has known sets → Each (λ s. Compiles s.set) sets
    compile known sets h =
        let f = front_sound (judges_of slots) text h.filters h.rest h.read in
        meant_compile now.join now_adds slots (tables.good h.good).taken known (native_of architecture) now_shrinks f.written h.short h.filters sets f.form h.made

  fits : (known : Architecture) (sets : List NamedSet) → Has known sets → length (joined encode_named sets) ≤ length text
  fits known sets h =
      let f = front_sound (judges_of slots) text h.filters h.rest h.read in
      meant_size now.join now_shrinks slots known (native_of architecture) f.written h.filters sets f.form h.made

  -- ---- the answer, in buffers of these lengths

  module _ (scratch room : ℕ) where
    -- the ways in which an answer comes
    data Comes : JsonAnswer → Type 0 where
      unknown : architecture_of architecture ≡ none → Comes (refused_at 1 0)
      bad_table : (at : ℕ) → (first_bad table ≡ length table → ⊥) → Comes (refused_at 14 at)
      long_text : Comes (refused_at 15 0)
      short_scratch : scratch < scratch_for text → Comes (too_short 1 (scratch_for text))
      fault_at : (k : ℕ) (m : List ℕ) → read_filters (judges_of slots) text ≡ stop k m → Comes (refused_at k (length text - length m))
      short_room : (known : Architecture) (sets : List NamedSet) → Has known sets → room < length (joined encode_named sets) → Comes (too_short 2 (length (joined encode_named sets)))
      done : (known : Architecture) (sets : List NamedSet) → Has known sets → length (joined encode_named sets) ≤ room
          → Comes (record { code = 0; at = 0; count = length sets; end = length (joined encode_named sets) })

    comes_wrote : (known : Architecture) (sets : List NamedSet) → Has known sets → Comes (wrote room (length sets) (length (joined encode_named sets)))
    comes_wrote known sets h = go (leb (length (joined encode_named sets)) room) refl
      where
        go : (t : Bool) → leb (length (joined encode_named sets)) room ≡ t
            → Comes (cond t (record { code = 0; at = 0; count = length sets; end = length (joined encode_named sets) }) (too_short 2 (length (joined encode_named sets))))
        go true e = done known sets h (leb-true _ _ e)
        go false e = short_room known sets h (leb-false _ _ e)

    comes_read : (known : Architecture) → architecture_of architecture ≡ some known → first_bad table ≡ length table → length text ≤ most_text
        → (g : Got (List Filter)) → read_filters (judges_of slots) text ≡ g → Comes (read_answer text (sets_of now.join slots known (native_of architecture)) room g)
    comes_read known en good short (stop k m) e = fault_at k m e
    comes_read known en good short (got fs rest) e =
        let s = sets_sound now.join slots known (native_of architecture) text fs rest e in
        subst (λ (o : Option (List NamedSet)). Comes (sets_answer room o)) (sym s.1.made)
        (comes_wrote known s.0 (record { filters = fs; rest = rest; named = en; good = good; short = short; read = e; made = s.1.made }))

    comes : Comes (json_answer text table architecture scratch room)
    unfolding json_answer
    comes = go (architecture_of architecture) refl
      where
        by : (known : Architecture) → architecture_of architecture ≡ some known → (t u w : Bool) → eqb (first_bad table) (length table) ≡ t → ltb most_text (length text) ≡ u → ltb scratch (scratch_for text) ≡ w
            → Comes (cond (not t) (refused_at 14 (first_bad table % 2 ^ 32)) (cond u (refused_at 15 0) (cond w (too_short 1 (scratch_for text))
            (read_answer text (sets_of now.join slots known (native_of architecture)) room (read_filters (judges_of slots) text)))))
        by known en false u w et eu ew = bad_table (first_bad table % 2 ^ 32) (eqb-false _ _ et)
        by known en true true w et eu ew = long_text
        by known en true false true et eu ew = short_scratch (ltb-true _ _ ew)
        by known en true false false et eu ew = comes_read known en (eqb-true _ _ et) (ltb-false _ _ eu) (read_filters (judges_of slots) text) refl

        go : (o : Option Architecture) → architecture_of architecture ≡ o → Comes (known_answer text table (native_of architecture) scratch room o)
        go none e = unknown e
        go (some known) e =
            by known e (eqb (first_bad table) (length table)) (ltb most_text (length text)) (ltb scratch (scratch_for text)) refl refl refl

    -- ---- what each way comes to

    roomy : (r : JsonAnswer) → Comes r → length text ≤ room → scratch_for text ≤ scratch → r.code ≡ 7 → ⊥
    unfolding one_of
    roomy _ (unknown e) h s c = omega arith
    roomy _ (bad_table at e) h s c = omega arith
    roomy _ long_text h s c = omega arith
    roomy _ (short_scratch e) h s c = omega arith
    roomy _ (fault_at k m e) h s c = not_fault k m e 7 refl c
    roomy _ (short_room known sets x e) h s c = omega (arith, fits known sets x)
    roomy _ (done known sets x e) h s c = omega arith

    refused : Tables table → (r : JsonAnswer) → Comes r → (r.code ≡ 0 → ⊥) → (r.code ≡ 7 → ⊥) → (r.code ≡ 15 → ⊥) → (sets : List NamedSet) → Means text table architecture sets → ⊥
    refused tables _ (unknown e) n0 n7 n15 sets m = none_not_some (sym e ∙ m.named)
    refused tables _ (bad_table at e) n0 n7 n15 sets m = e (tables.only m.slots m.tabled).0
    refused tables _ long_text n0 n7 n15 sets m = n15 refl
    refused tables _ (short_scratch e) n0 n7 n15 sets m = n7 refl
    refused tables _ (fault_at k l e) n0 n7 n15 sets m =
        let same = (tables.only m.slots m.tabled).1 in
        let back = sets_complete now.join m.slots m.known (native_of architecture) text m.filters sets (record { is = m.value; written = m.written; form = m.form; made = m.made }) in
        stopped (sym e ∙ ap (λ (s : List Slot). read_filters (judges_of s) text) same ∙ back)
    refused tables _ (short_room known s x e) n0 n7 n15 sets m = n7 refl
    refused tables _ (done known s x e) n0 n7 n15 sets m = n0 refl

    module _ (tables : Tables table) (before after : List ℕ) (long : length before ≡ room) where
      meant : (r : JsonAnswer) → Comes r → (r.code ≡ 0 → (known : Architecture) (sets : List NamedSet) → Has known sets → after ≡ joined encode_named sets ++ drop r.end before)
          → r.code ≡ 0 → Wrote text table architecture after r
      unfolding one_of
      meant _ (unknown e) w c = absurd (omega arith)
      meant _ (bad_table at e) w c = absurd (omega arith)
      meant _ long_text w c = absurd (omega arith)
      meant _ (short_scratch e) w c = absurd (omega arith)
      meant _ (fault_at k m e) w c = absurd (not_fault k m e 0 refl c)
      meant _ (short_room known sets x e) w c = absurd (omega arith)
      meant _ (done known sets x e) w c = record {
        sets = sets;
        means = means tables known sets x;
        bytes = ap (λ (l : List ℕ). take (length (joined encode_named sets)) l) (w refl known sets x) ∙ take_at (joined encode_named sets) _ _ refl;
        many = refl;
        compile = compile tables known sets x;
      }

      same : (r : JsonAnswer) → after ≡ before → (drop (bytes_written r) after ≡ drop (bytes_written r) before) × (length after ≡ length before)
      same r e = (ap (λ (m : List ℕ). drop (bytes_written r) m) e, ap length e)

      -- what is behind the sets, and the buffer's length, are as they were
      settled : (r : JsonAnswer) → Comes r → (r.code ≡ 0 → (known : Architecture) (sets : List NamedSet) → Has known sets → after ≡ joined encode_named sets ++ drop r.end before)
          → ((r.code ≡ 0 → ⊥) → after ≡ before) → (drop (bytes_written r) after ≡ drop (bytes_written r) before) × (length after ≡ length before)
      unfolding one_of
      settled r (unknown e) w u = same r (u (λ c. omega arith))
      settled r (bad_table at e) w u = same r (u (λ c. omega arith))
      settled r long_text w u = same r (u (λ c. omega arith))
      settled r (short_scratch e) w u = same r (u (λ c. omega arith))
      settled r (fault_at k m e) w u = same r (u (not_fault k m e 0 refl))
      settled r (short_room known sets x e) w u = same r (u (λ c. omega arith))
      settled _ (done known sets x e) w u =
          let bytes : List ℕ = joined encode_named sets in
          let is = w refl known sets x in
          let l = ap length is ∙ length-append bytes (drop (length bytes) before) in
          (ap (λ (m : List ℕ). drop (length bytes) m) is ∙ drop_at bytes (drop (length bytes) before) (length bytes) refl, omega (arith, length-drop (length bytes) before))

-- The whole contract. The code that reads shows its answer, and what stands in the buffer in the two cases.
pub from_json : (text table : List ℕ) (architecture scratch : ℕ) (before after : List ℕ) (r : JsonAnswer) → Tables table
    → r ≡ json_answer text table architecture scratch (length before)
    → (r.code ≡ 0 → (known : Architecture) (sets : List NamedSet) → Has text table architecture known sets → after ≡ joined encode_named sets ++ drop r.end before)
    → ((r.code ≡ 0 → ⊥) → after ≡ before)
    → FromJson text table architecture scratch before after r
from_json text table architecture scratch before after r tables e w u =
    let c = subst (Comes text table architecture scratch (length before)) (sym e) (comes text table architecture scratch (length before)) in
    let s = settled text table architecture scratch (length before) tables before after refl r c w u in
    record {
      answer = e;
      kept = s.0;
      long = s.1;
      meant = meant text table architecture scratch (length before) tables before after refl r c w;
      refused = refused text table architecture scratch (length before) tables r c;
      roomy = roomy text table architecture scratch (length before) r c;
    }
