-- The answer of reading a text, by the tests that the code makes in turn. Assumes nothing.
use mathlib.Core.Path.{◌≡◌, refl, ap, sym, ◌∙◌}
use mathlib.Core.Bool.{true, false}
use mathlib.Core.List.{List, ◌++◌}
use mathlib.Core.Option.{Option, none, some}
use Prim.Native.Nat.{ℕ, ◌-◌, ◌%◌, ◌^◌, ◌≤◌, ◌<◌}
use native.Mathlib.Omega.{arith}
use lib.ListN.{length, take, drop}
use lib.Seq.{length-take-le}
use borrow.Author.Tests.{eq-eqb, ne_eqb, lt-ltb, le-ltb, le-leb, lt-leb}
use Rattle.definitions.specs.declared.JsonAnswer.{JsonAnswer}
use Rattle.definitions.specs.RuleSet.{Architecture}
use Rattle.definitions.specs.Format.{joined, is_there, native_of, architecture_of}
use Rattle.definitions.specs.JsonForm.{Filter}
use Rattle.definitions.specs.CallNames.{first_bad}
use Rattle.definitions.specs.Collected.{NamedSet, encode_named, sets_of, now}
use Rattle.definitions.specs.JsonReader.{Got, got, stop}
use Rattle.definitions.specs.FormReader.{judges_of, read_filters}
use Rattle.definitions.specs.FromJson.{most_text, scratch_for, refused_at, too_short, wrote, sets_answer, read_answer, known_answer, json_answer, FromJson}
use Rattle.theorems.proofs.Tests.{some_same}
use Rattle.json_theorems.proofs.Tests.{false_not_true}
use Rattle.json_theorems.proofs.FromJson.{Tables, from_json}
use Rattle.json_scan.specs.Scan.{Either, Tells}
use Rattle.json_scan.proofs.Telling.{Came, came}
use Rattle.json_parts.proofs.Places.{at_length}
use Rattle.json_filters.specs.Filters.{table_slots, Known}
use Rattle.json_texts.specs.Named.{AllMade}
use Rattle.json_texts.proofs.Filters.{got_same}

pub known_of : {architecture : ℕ} → is_there (architecture_of architecture) ≡ true → Known architecture
known_of {architecture = architecture} h = go (architecture_of architecture) refl h
  where
    go : (o : Option Architecture) → architecture_of architecture ≡ o → is_there o ≡ true → Known architecture
    go none e t = absurd (false_not_true t)
    go (some a) e t = record { known = a; named = e }

module _ (text table : List ℕ) (architecture scratch : ℕ) (before : List ℕ) where
  abbrev answer : JsonAnswer
  answer = json_answer text table architecture scratch (length before)

  -- refused, and nothing is written
  pub refuse : {r a : JsonAnswer} → Tables table → r ≡ a → (a.code ≡ 0 → ⊥) → a ≡ answer → FromJson text table architecture scratch before before r
  refuse {r = r} {a} tables d n e = from_json text table architecture scratch before before r tables (d ∙ e) (λ z. absurd (n (sym (ap (λ (x : JsonAnswer). x.code) d) ∙ z))) (λ z. refl)

  pub no_architecture : is_there (architecture_of architecture) ≡ false → refused_at 1 0 ≡ answer
  unfolding json_answer
  no_architecture h = go (architecture_of architecture) h
    where
      go : (o : Option Architecture) → is_there o ≡ false → refused_at 1 0 ≡ known_answer text table (native_of architecture) scratch (length before) o
      go none e = refl
      go (some a) e = absurd (false_not_true (sym e))

  module _ (k : Known architecture) where
    pub bad_table_lem : (bad : ℕ) → bad ≡ first_bad table → (bad ≡ length table → ⊥) → refused_at 14 (bad % 2 ^ 32) ≡ answer
    unfolding json_answer
    bad_table_lem bad e h = rw (e, k.named, ne_eqb (first_bad table) (length table) (λ f. h (e ∙ f))) refl

    module _ (good : first_bad table ≡ length table) where
      pub long_text_lem : most_text < length text → refused_at 15 0 ≡ answer
      unfolding json_answer
      long_text_lem h = rw (k.named, eq-eqb _ _ good, lt-ltb _ _ h) refl

      module _ (short : length text ≤ most_text) where
        pub short_scratch_lem : scratch < scratch_for text → too_short 1 (scratch_for text) ≡ answer
        unfolding json_answer
        short_scratch_lem h = rw (k.named, eq-eqb _ _ good, le-ltb _ _ short, lt-ltb _ _ h) refl

        module _ (room : scratch_for text ≤ scratch) where
          read_answer_lem : read_answer text (sets_of now.join (table_slots table) k.known (native_of architecture)) (length before) (read_filters (judges_of (table_slots table)) text) ≡ answer
          unfolding json_answer
          read_answer_lem = rw (k.named, eq-eqb _ _ good, le-ltb _ _ short, le-ltb _ _ room) refl

          pub fault_told : {code at : ℕ} {Is : List Filter → Type 0} → Tells text 0 Is (read_filters (judges_of (table_slots table)) text) code at → (code ≡ 0 → ⊥) → refused_at code at ≡ answer
          fault_told {code = code} {at} {Is} t h = go (read_filters (judges_of (table_slots table)) text) t.tells ∙ read_answer_lem
            where
              go : (g : Got (List Filter)) → Either text 0 Is g code at
                  → refused_at code at ≡ read_answer text (sets_of now.join (table_slots table) k.known (native_of architecture)) (length before) g
              go (got fs rest) s = absurd (h s.fine)
              go (stop c rest) s =
                  let e : at ≡ length text - length rest = omega (arith, at_length s.place) in
                  ap (λ (n : ℕ). refused_at n at) s.told ∙ ap (λ (n : ℕ). refused_at c n) e

          module _ {code at count end : ℕ} {after : List ℕ} (t : Tells text 0 (AllMade (table_slots table) architecture count end at after) (read_filters (judges_of (table_slots table)) text) code at)
              (e : code ≡ 0) (long : length after ≡ scratch) where
            read : Came text 0 (AllMade (table_slots table) architecture count end at after) (read_filters (judges_of (table_slots table)) text) at
            read = came t e

            pub small : end ≤ length text
            small = let l = read.value.less in let i = read.place.inside in omega arith

            pub few : count ≤ end
            few = read.value.few

            same_sets : (known : Architecture) (sets : List NamedSet) (fs : List Filter) → architecture_of architecture ≡ some known → fs ≡ read.part
                → sets_of now.join (table_slots table) known (native_of architecture) fs ≡ some sets → sets ≡ read.value.written.sets
            same_sets known sets fs n f m =
                let w = read.value.written in
                some_same (sym m ∙ ap (λ (a : Architecture). sets_of now.join (table_slots table) a (native_of architecture) fs) (some_same (sym n ∙ w.is_known))
                ∙ ap (λ (x : List Filter). sets_of now.join (table_slots table) w.known (native_of architecture) x) f ∙ w.made)

            bytes : length (joined encode_named read.value.written.sets) ≡ end
            bytes = ap length (sym read.value.written.spelled) ∙ length-take-le end after (let s = small in omega arith)

            wrote_is : wrote (length before) count end ≡ answer
            wrote_is =
                let w = read.value.written in
                let made : sets_of now.join (table_slots table) k.known (native_of architecture) read.part ≡ some w.sets =
                ap (λ (a : Architecture). sets_of now.join (table_slots table) a (native_of architecture) read.part) (some_same (sym k.named ∙ w.is_known)) ∙ w.made in
                ap (λ (n : ℕ). wrote (length before) n end) w.many ∙ ap (λ (n : ℕ). wrote (length before) (length w.sets) n) (sym bytes)
                ∙ ap (λ (o : Option (List NamedSet)). sets_answer (length before) o) (sym made)
                ∙ ap (λ (g : Got (List Filter)). read_answer text (sets_of now.join (table_slots table) k.known (native_of architecture)) (length before) g) (sym read.got_it) ∙ read_answer_lem

            pub no_room : length before < end → too_short 2 end ≡ answer
            no_room h = rw (lt-leb _ _ h) at wrote_is

            pub finished : {out : List ℕ} {r : JsonAnswer} → Tables table → end ≤ length before → out ≡ take end after ++ drop end before
                → r ≡ record { code = 0; at = 0; count = count; end = end } → FromJson text table architecture scratch before out r
            finished {out = out} {r} tables h o d =
                let is : record { code = 0; at = 0; count = count; end = end } ≡ answer = rw (le-leb _ _ h) at wrote_is in
                from_json text table architecture scratch before out r tables (d ∙ is)
                (λ z known sets has. o ∙ ap (λ (l : List ℕ). l ++ drop end before) (read.value.written.spelled
                ∙ ap (λ (s : List NamedSet). joined encode_named s) (sym (same_sets known sets has.filters has.named (got_same (sym has.read ∙ read.got_it)) has.made)))
                ∙ ap (λ (x : JsonAnswer). joined encode_named sets ++ drop x.end before) (sym d))
                (λ n. absurd (n (ap (λ (x : JsonAnswer). x.code) d)))
