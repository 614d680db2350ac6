-- A line that is read is written as its entry, and lines one behind the other: there is room, since an entry is never longer than its line. Assumes nothing.
use mathlib.Core.Path.{◌≡◌, refl, ap, sym, subst, ◌∙◌}
use mathlib.Core.Bool.{Bool, true}
use mathlib.Core.List.{List, [], ◌∷◌, ◌++◌}
use mathlib.Core.Option.{Option, none, some}
use Rattle.std.specs.Prelude.{None, Some}
use Rattle.std.specs.Prelude as given
use Rattle.std.specs.Option.{option_flatten}
use Prim.Native.Nat.{ℕ, ◌+◌, ◌-◌, ◌≤◌, ◌<◌}
use native.Mathlib.Omega.{arith}
use lib.ListN.{length, take, drop, length-append, length-drop}
use Rattle.definitions.specs.RuleSet.{Rule, Entry}
use Rattle.definitions.specs.Format.{then, joined, encode_entry}
use Rattle.definitions.specs.JsonForm.{Line}
use Rattle.definitions.specs.JsonReader.{Got, got, stop, not_json, follow, blanks}
use Rattle.definitions.specs.FormReader.{wrong, judged, answered, ending, keyed_there, object_there, judges_of, Typed, value_of, LinePart, the_call, the_args, the_remark, as_call, as_args, as_remark, line_from, line_there, list_there}
use Rattle.definitions.specs.CallNames.{Slot, number_for}
use Rattle.definitions.specs.Collected.{numbered}
use Rattle.json_theorems.specs.Turns.{more_there}
use Rattle.json_theorems.proofs.Turns.{list_turns}
use Rattle.theorems.proofs.Tests.{some_same}
use Rattle.json_theorems.proofs.Tests.{then_some}
use Rattle.json_theorems.proofs.Sizes.{line_size_lem}
use Rattle.json_scan.specs.Scan.{At, Tells}
use Rattle.json_scan.proofs.Telling.{Came, came, handed_on}
use Rattle.bpf.specs.Place.{place}
use Rattle.writers.proofs.Sets.{length_last, joined_last}
use Rattle.json_lines.specs.declared.LineRead.{LineRead}
use Rattle.json_lines.specs.Lines.{begin_there, fields_there, CallIs, RuleIs, ArgsAre, RemarkIs, Known, head_bytes, entry_size, Written}
use Rattle.json_lines.proofs.Steps.{tells_got, tells_stop, blanks_on, from_blanks, Turning, Loop, begin_turning, still, turning, item_stopped, more_stopped, list_loop, list_begin}
use Rattle.json_lines.proofs.Heads.{entry_of, entry_long, entry_taken}

-- ---- a line

line_is_lem : (slots : List Slot) (l : List ℕ)
    → line_there (judges_of slots) l ≡ follow (fields_there (judges_of slots) l) (λ ts rest. answered (ending (line_from (λ f. some (value_of f ts)))) l rest)
unfolding line_there keyed_there judged fields_there
line_is_lem slots l = refl

no_call : (slots : List Slot) (o : Option LinePart) → CallIs slots None o → as_call o ≡ none
no_call slots none h = refl
no_call slots (some (the_call s)) h = absurd h
no_call slots (some (the_args r)) h = absurd h
no_call slots (some (the_remark c)) h = absurd h

the_call_lem : (slots : List Slot) (number : ℕ) (o : Option LinePart) → CallIs slots (Some number) o
    → (s : List ℕ) × (as_call o ≡ some s) × (number_for slots s ≡ some number)
the_call_lem slots number none h = cc
the_call_lem slots number (some (the_call s)) h = (s, refl, h)
the_call_lem slots number (some (the_args r)) h = absurd h
the_call_lem slots number (some (the_remark c)) h = absurd h

the_args_lem : (raw : List ℕ) (spot : ℕ) (args : given.Option (given.Option ℕ)) (o : Option LinePart) → ArgsAre raw spot args o
    → (r : Option Rule) × (as_args o ≡ some r) × RuleIs raw spot (option_flatten args) r
the_args_lem raw spot args none h = (none, refl, rw h)
the_args_lem raw spot args (some (the_call s)) h = absurd h
the_args_lem raw spot None (some (the_args r)) h = absurd h
the_args_lem raw spot (Some conditions) (some (the_args r)) h = (r, refl, h)
the_args_lem raw spot args (some (the_remark c)) h = absurd h

the_remark_lem : (commented : Bool) (o : Option LinePart) → RemarkIs commented o → (c : Option (List ℕ)) × (as_remark o ≡ some c)
the_remark_lem commented none h = (none, refl)
the_remark_lem commented (some (the_call s)) h = absurd h
the_remark_lem commented (some (the_args r)) h = absurd h
the_remark_lem commented (some (the_remark c)) h = (c, refl)

line_none : (a : Option (List ℕ)) (b : Option (Option Rule)) (d : Option (Option (List ℕ))) → a ≡ none
    → then {B = Line} a (λ name. then b (λ args. then d (λ c. some (record { call = name; args = args })))) ≡ none
line_none a b d e = rw e

line_made : (a : Option (List ℕ)) (b : Option (Option Rule)) (d : Option (Option (List ℕ))) (s : List ℕ) (r : Option Rule) (c : Option (List ℕ)) → a ≡ some s → b ≡ some r → d ≡ some c
    → then {B = Line} a (λ name. then b (λ args. then d (λ c. some (record { call = name; args = args })))) ≡ some (record { call = s; args = r })
line_made a b d s r c x y z = rw (x, y, z)

module _ {text : List ℕ} {at code past : ℕ} where
  pub line_stopped : (slots : List Slot) {Is : List (Typed LinePart) → Type 0} → Tells text at Is (fields_there (judges_of slots) (drop at text)) code past
      → {Is' : Line → Type 0} → (code ≡ 0 → ⊥) → Tells text at Is' (line_there (judges_of slots) (drop at text)) code past
  line_stopped slots told h = rw (line_is_lem slots (drop at text)) (handed_on _ told h)

  module _ {slots : List Slot} {raw₀ raw : List ℕ} {spot : ℕ} {line : LineRead} (told : Tells text at (Known slots text raw₀ raw spot past line) (fields_there (judges_of slots) (drop at text)) code past)
      (z : code ≡ 0) where
    read : Came text at (Known slots text raw₀ raw spot past line) (fields_there (judges_of slots) (drop at text)) past
    read = came told z

    line_from_lem : (o : Option Line) → line_from (λ f. some (value_of f read.part)) ≡ o → line_there (judges_of slots) (drop at text) ≡ answered (ending o) (drop at text) read.rest
    line_from_lem o e =
        line_is_lem slots (drop at text)
        ∙ ap (λ (g : Got (List (Typed LinePart))). follow g (λ ts rest. answered (ending (line_from (λ f. some (value_of f ts)))) (drop at text) rest)) read.got_it
        ∙ ap (λ (x : Option Line). answered (ending x) (drop at text) read.rest) e

    pub line_begun : 0 < past
    line_begun = let o = read.on in omega arith

    pub line_missing : line.number ≡ None → {Is : Line → Type 0} → Tells text at Is (line_there (judges_of slots) (drop at text)) 11 (past - 1)
    line_missing e =
        let h = read.value.holds in
        let n = no_call slots (value_of 0 read.part) (subst (λ (x : given.Option ℕ). CallIs slots x (value_of 0 read.part)) e h.call) in
        tells_stop (line_from_lem none (line_none _ (as_args (value_of 1 read.part)) (as_remark (value_of 2 read.part)) n)) refl (omega arith)
        (subst (λ (rest : List ℕ). At text (0x7d ∷ rest) (past - 1)) read.place.behind read.value.brace)

    module _ {number : ℕ} (e : line.number ≡ Some number) where
      call_of_lem : (s : List ℕ) × (as_call (value_of 0 read.part) ≡ some s) × (number_for slots s ≡ some number)
      call_of_lem = the_call_lem slots number (value_of 0 read.part) (subst (λ (x : given.Option ℕ). CallIs slots x (value_of 0 read.part)) e read.value.holds.call)

      args_of : (r : Option Rule) × (as_args (value_of 1 read.part) ≡ some r) × RuleIs raw spot (option_flatten line.args) r
      args_of = the_args_lem raw spot line.args (value_of 1 read.part) read.value.holds.args

      line_got : line_there (judges_of slots) (drop at text) ≡ got (record { call = call_of_lem.0; args = args_of.0 }) read.rest
      line_got =
          let c = the_remark_lem line.commented (value_of 2 read.part) read.value.holds.remark in
          line_from_lem (some (record { call = call_of_lem.0; args = args_of.0 })) (line_made _ _ _ call_of_lem.0 args_of.0 c.0 call_of_lem.1 args_of.1 c.1)

      module _ {conditions : given.Option ℕ} (same : conditions ≡ option_flatten line.args) (inside : at ≤ length text) (h : spot ≤ at) where
        rule : RuleIs raw spot conditions args_of.0
        rule = rw same args_of.2

        -- the entry fits: it is no longer than the line
        pub line_room : (spot + entry_size conditions ≤ past) × (past ≤ length text)
        line_room =
            let s = line_size_lem (judges_of slots) (drop at text) (record { call = call_of_lem.0; args = args_of.0 }) read.rest line_got number in
            let n = entry_long raw spot conditions number args_of.0 rule in
            let d = ap length read.place.behind in
            let i = read.place.inside in
            (omega (arith, length-drop at text, length-drop past text), i)

        pub line_written : {raw' : List ℕ} {end : ℕ} → length text ≤ length raw
            → raw' ≡ place raw spot (head_bytes number conditions) → end ≡ spot + entry_size conditions
            → Tells text at (Written slots raw₀ raw' spot end) (line_there (judges_of slots) (drop at text)) 0 past
        line_written {raw'} {end} fits wrote ends =
            let n = entry_long raw spot conditions number args_of.0 rule in
            let m = line_room in
            tells_got line_got refl read.on read.place (record {
              number = number;
              named = call_of_lem.2;
              end = ends ∙ ap (λ (k : ℕ). spot + k) (sym n);
              written = rw (ends, wrote) (entry_taken raw spot conditions number args_of.0 rule (omega arith) ∙ rw read.value.holds.front);
            })

-- ---- lines

line_nothing : (slots : List Slot) → line_there (judges_of slots) [] ≡ stop not_json []
unfolding line_there keyed_there judged object_there wrong
line_nothing slots = refl

numbered_more : {o : Option ℕ} {m : Option (List Entry)} {n : ℕ} {es entries : List Entry} (l : Line) (x : Entry) → o ≡ some n → m ≡ some (es ++ (x ∷ [])) → entry_of n l.args ∷ es ≡ entries
    → then o (λ k. then m (λ fs. some (entry_of k l.args ∷ fs))) ≡ some (entries ++ (x ∷ []))
numbered_more l x a b c = rw (a, b, ← c)

numbered_last : (slots : List Slot) (lines : List Line) (entries : List Entry) (line : Line) (number : ℕ) → numbered slots lines ≡ some entries → number_for slots line.call ≡ some number
    → numbered slots (lines ++ (line ∷ [])) ≡ some (entries ++ (entry_of number line.args ∷ []))
unfolding numbered
numbered_last slots [] entries line number e h = let q : [] ≡ entries = some_same e in rw (h, ← q)
numbered_last slots (l ∷ ls) entries line number e h =
    let a = then_some (number_for slots l.call) _ entries e in
    let b = then_some (numbered slots ls) _ entries a.2 in
    numbered_more l (entry_of number line.args) a.1 (numbered_last slots ls b.0 line number b.1 h) (some_same b.2)

pub record Listing (slots : List Slot) (text : List ℕ) (from : ℕ) (raw₀ raw : List ℕ) (at : ℕ) (more : Bool) (count end : ℕ) : Type 0 where
  pub done : List Line
  pub entries : List Entry
  pub turning : Turning text (list_turns (line_there (judges_of slots))) (list_there (line_there (judges_of slots)) (drop from text)) from at more done
  pub made : numbered slots done ≡ some entries
  pub written : take end raw ≡ joined encode_entry entries
  pub size : end ≡ length (joined encode_entry entries)
  pub counted : count ≡ length entries
  pub room : end ≤ at
  pub few : count ≤ at
  pub long : length raw ≡ length raw₀

pub listing_start : (slots : List Slot) {text : List ℕ} {from code at : ℕ} {more : Bool} (raw : List ℕ)
    → Tells text from (λ b. more ≡ b) (begin_there 0x5b 0x5d (drop from text)) code at → code ≡ 0 → Listing slots text from raw raw at more 0 0
unfolding numbered
listing_start slots {text} {from} raw told z = record {
  done = [];
  entries = [];
  turning = begin_turning (list_begin (line_there (judges_of slots)) (drop from text)) told z;
  made = refl;
  written = refl;
  size = refl;
  counted = refl;
  room = omega arith;
  few = omega arith;
  long = refl;
}

module _ {slots : List Slot} {text : List ℕ} {from : ℕ} {raw₀ raw : List ℕ} {at : ℕ} {more : Bool} {count end : ℕ}
    (f : Listing slots text from raw₀ raw at more count end) (e : more ≡ true) {start : ℕ} (p : At text (blanks (drop at text)) start) where
  loop : Loop (list_turns (line_there (judges_of slots))) (λ xs l. line_there (judges_of slots) (blanks l)) 0x5d (λ xs a. xs ++ (a ∷ []))
  loop = list_loop (line_there (judges_of slots)) (line_nothing slots)

  item : {code past : ℕ} {Is : Line → Type 0} → Tells text start Is (line_there (judges_of slots) (drop start text)) code past
      → Tells text at Is (line_there (judges_of slots) (blanks (drop at text))) code past
  item told = from_blanks (line_there (judges_of slots)) f.turning.inside p told

  pub entry_stopped : {code past : ℕ} {Is : Line → Type 0} → Tells text start Is (line_there (judges_of slots) (drop start text)) code past
      → {before : ℕ} {Is' : List Line → Type 0} → (code ≡ 0 → ⊥) → Tells text before Is' (list_there (line_there (judges_of slots)) (drop from text)) code past
  entry_stopped told h = item_stopped loop (still e f.turning) (item told) h

  module _ {code past : ℕ} {raw' : List ℕ} {past' : ℕ} (told : Tells text start (Written slots raw raw' end past') (line_there (judges_of slots) (drop start text)) code past) (z : code ≡ 0)
    where
      pub entry_behind : {code' next_at : ℕ} {Is : Bool → Type 0} → Tells text past Is (more_there 0x5d (drop past text)) code' next_at
          → {before : ℕ} {Is' : List Line → Type 0} → (code' ≡ 0 → ⊥) → Tells text before Is' (list_there (line_there (judges_of slots)) (drop from text)) code' next_at
      entry_behind behind h = more_stopped loop (still e f.turning) (came (item told) z) behind h

      pub entry_on : {code' next_at : ℕ} {Is : Bool → Type 0} → Tells text past Is (more_there 0x5d (drop past text)) code' next_at → code' ≡ 0 → (at < next_at) × (next_at ≤ length text)
      entry_on behind y = let i = came (item told) z in let d = came behind y in (omega (arith, i.on, d.on), d.place.inside)

      pub listing_again : {code' next_at : ℕ} {next : Bool} → Tells text past (λ b. next ≡ b) (more_there 0x5d (drop past text)) code' next_at
          → length raw' ≡ length raw → code' ≡ 0 → Listing slots text from raw₀ raw' next_at next (count + 1) past'
      listing_again behind long y =
          let i = came (item told) z in
          let d = came behind y in
          let w = i.value in
          let x = entry_of w.number i.part.args in
          let c = came told z in
          let s = line_size_lem (judges_of slots) (drop start text) c.part c.rest c.got_it c.value.number in
          let b = ap length c.place.behind in
          let o = blanks_on text at start f.turning.inside p in
          let q = c.value.end in
          record {
            done = f.done ++ (i.part ∷ []);
            entries = f.entries ++ (x ∷ []);
            turning = turning loop (still e f.turning) i behind y;
            made = numbered_last slots f.done f.entries i.part w.number f.made w.named;
            written = w.written ∙ ap (λ (bs : List ℕ). bs ++ encode_entry x) f.written ∙ sym (joined_last encode_entry f.entries x);
            size = w.end ∙ ap (λ (n : ℕ). n + length (encode_entry x)) f.size ∙ sym (length-append (joined encode_entry f.entries) (encode_entry x)) ∙ ap length (sym (joined_last encode_entry f.entries x));
            counted = ap (λ (n : ℕ). n + 1) f.counted ∙ sym (length_last f.entries x);
            room = omega (arith, length-drop start text, length-drop past text, f.room, p.inside, c.place.inside, d.on);
            few = omega (arith, f.few, i.on, d.on);
            long = long ∙ f.long;
          }
