-- A line's fields: what is known of a line with one more of them, and the loop that reads them. Assumes nothing.
use mathlib.Core.Path.{◌≡◌, refl, ap, sym, ◌∙◌}
use mathlib.Core.Bool.{Bool, true, false, cond, ◌||◌}
use mathlib.Core.List.{List, [], ◌∷◌, ◌++◌}
use mathlib.Core.Option.{Option, none, some}
use Rattle.std.specs.Prelude.{None, Some}
use Rattle.std.specs.Prelude as given
use Prim.Native.Nat.{ℕ, zero, suc, ◌+◌, ◌-◌, ◌*◌, ◌≤◌, ◌<◌}
use native.Mathlib.Omega.{arith}
use lib.Dec.{eqb}
use lib.ListN.{length, take, drop, length-take, length-drop, length-append, take-append-drop}
use lib.Seq.{take-take, drop_at, take_at, take-append-add, drop-drop}
use Rattle.definitions.specs.RuleSet.{Rule}
use Rattle.definitions.specs.Format.{joined, encode_condition}
use Rattle.definitions.specs.JsonForm.{line_keys}
use Rattle.definitions.specs.JsonReader.{Got, got, stop, follow, first, blanks, ended, fields}
use Rattle.definitions.specs.FormReader.{given_twice, judges_of, null_or, string_there, Typed, typed, has_typed, value_of, LinePart, the_call, the_args, the_remark, line_reads, is_some}
use Rattle.definitions.specs.CallNames.{Slot, number_for}
use Rattle.json_theorems.specs.Turns.{field_there, colon_there, more_there}
use Rattle.json_theorems.proofs.Turns.{onward, field_turns, value_turn, field_turn_lem, object_begins}
use Rattle.json_theorems.proofs.Tests.{false_not_true}
use Rattle.json_theorems.proofs.Parts.{blanks_sound, ended_got}
use Rattle.json_scan.specs.Scan.{At, Tells}
use Rattle.json_scan.proofs.Telling.{Came, came, handed_on}
use Rattle.json_lines.specs.declared.LineRead.{LineRead}
use Rattle.json_lines.specs.Lines.{begin_there, call_there, args_there, fresh_there, fields_there, seen_in, ArgsOf, CallIs, ArgsAre, RemarkIs, Holds, Known}
use Rattle.json_lines.proofs.Steps.{tells_got, tells_map, tells_before, Turning, Loop, Begins, begin_turning, still, turning, item_stopped, more_stopped}
use Rattle.json_lines.proofs.Keys.{fresh_same, fresh_small, fresh_new}

-- ---- one field more

-- bytes up to a place, and n behind it
split_take : (l : List ℕ) (p n : ℕ) → p ≤ length l → take (p + n) l ≡ take p l ++ take n (drop p l)
split_take l p n h =
    let e : length (take p l) ≡ p = simp length-take (omega arith) in
    ap (λ (x : List ℕ). take (p + n) x) (sym (take-append-drop p l)) ∙ ap (λ (k : ℕ). take (k + n) (take p l ++ drop p l)) (sym e) ∙ take-append-add (take p l) (drop p l) n

-- what stands behind a place is taken from there
standing : (raw₀ raw cs : List ℕ) (p n : ℕ) → take (p + n) raw ≡ take p raw₀ ++ cs → p ≤ length raw₀ → (take n (drop p raw) ≡ cs) × (take p raw ≡ take p raw₀)
standing raw₀ raw cs p n e h =
    let a : length (take p raw₀) ≡ p = simp length-take (omega arith) in
    let m : p ≤ length raw = (let x = simp (length-take, length-append) at (ap length e) in omega arith) in
    let b : length (take p raw) ≡ p = simp length-take (omega arith) in
    let same = sym (split_take raw p n m) ∙ e in (
      sym (drop_at (take p raw) (take n (drop p raw)) p b) ∙ ap (λ (x : List ℕ). drop p x) same ∙ drop_at (take p raw₀) cs p a,
      sym (take_at (take p raw) (take n (drop p raw)) p b) ∙ ap (λ (x : List ℕ). take p x) same ∙ take_at (take p raw₀) cs p a,
    )

front_less : (raw₀ raw : List ℕ) (spot : ℕ) → take (spot + 12) raw ≡ take (spot + 12) raw₀ → take spot raw ≡ take spot raw₀
front_less raw₀ raw spot e = sym (take-take spot (spot + 12) raw (omega arith)) ∙ ap (λ (x : List ℕ). take spot x) e ∙ take-take spot (spot + 12) raw₀ (omega arith)

module _ {slots : List Slot} {raw₀ raw : List ℕ} {spot : ℕ} {line : LineRead} {ts : List (Typed LinePart)} (h : Holds slots raw₀ raw spot line ts)
    {text : List ℕ} {at code past : ℕ} where
  pub with_call : {field number : ℕ} → field ≡ 0 → Tells text at (λ s. number_for slots s ≡ some number) (call_there slots (drop at text)) code past
      → Tells text at (λ part. Holds slots raw₀ raw spot (record { number = Some number; args = line.args; commented = line.commented }) (typed field part ∷ ts))
      (line_reads (judges_of slots) field (drop at text)) code past
  unfolding call_there
  with_call z told = rw z (tells_map (λ s. the_call s) (λ s e. record { call = e; args = h.args; remark = h.remark; front = h.front }) told)

  pub with_comment : {field : ℕ} → field ≡ 2 → {Is₀ : Option (List ℕ) → Type 0} → Tells text at Is₀ (null_or string_there (drop at text)) code past
      → Tells text at (λ part. Holds slots raw₀ raw spot (record { number = line.number; args = line.args; commented = true }) (typed field part ∷ ts))
      (line_reads (judges_of slots) field (drop at text)) code past
  with_comment z told = rw z (tells_map (λ c. the_remark c) (λ c e. record { call = h.call; args = h.args; remark = refl; front = h.front }) told)

  pub with_args : {field : ℕ} {conditions : given.Option ℕ} {raw' : List ℕ} → field ≡ 1
      → Tells text at (ArgsOf raw raw' (spot + 12) conditions) (args_there (judges_of slots) (drop at text)) code past
      → Tells text at (λ part. Holds slots raw₀ raw' spot (record { number = line.number; args = Some conditions; commented = line.commented }) (typed field part ∷ ts))
      (line_reads (judges_of slots) field (drop at text)) code past
  unfolding args_there
  with_args {conditions = conditions} {raw'} z told = rw z (tells_map (λ r. the_args r) (added conditions) told)
    where
      added : (n : given.Option ℕ) (o : Option Rule) → ArgsOf raw raw' (spot + 12) n o
          → Holds slots raw₀ raw' spot (record { number = line.number; args = Some n; commented = line.commented }) (typed 1 (the_args o) ∷ ts)
      added n none a = record { call = h.call; args = a.0; remark = h.remark; front = front_less raw raw' spot a.1 ∙ h.front }
      added None (some q) a = absurd a
      added (Some count) (some q) a =
          let s = standing raw raw' (joined encode_condition q) (spot + 12) (24 * count) a.1.written (omega (arith, a.1.fits a.0)) in
          record { call = h.call; args = record { counted = a.1.counted; written = s.0 }; remark = h.remark; front = front_less raw raw' spot s.1 ∙ h.front }

-- a value that was not read
module _ (slots : List Slot) {text : List ℕ} {at field code past : ℕ} {Is : LinePart → Type 0} where
  pub call_stopped : field ≡ 0 → {Is₀ : List ℕ → Type 0} → Tells text at Is₀ (call_there slots (drop at text)) code past → (code ≡ 0 → ⊥)
      → Tells text at Is (line_reads (judges_of slots) field (drop at text)) code past
  unfolding call_there
  call_stopped z told h = rw z (handed_on _ told h)

  pub args_stopped : field ≡ 1 → {Is₀ : Option Rule → Type 0} → Tells text at Is₀ (args_there (judges_of slots) (drop at text)) code past → (code ≡ 0 → ⊥)
      → Tells text at Is (line_reads (judges_of slots) field (drop at text)) code past
  unfolding args_there
  args_stopped z told h = rw z (handed_on _ told h)

  pub comment_stopped : field ≡ 2 → {Is₀ : Option (List ℕ) → Type 0} → Tells text at Is₀ (null_or string_there (drop at text)) code past → (code ≡ 0 → ⊥)
      → Tells text at Is (line_reads (judges_of slots) field (drop at text)) code past
  comment_stopped z told h = rw z (handed_on _ told h)

-- ---- which fields were seen

typed_there : {A : Type 0} (f : ℕ) (ts : List (Typed A)) → is_some (value_of f ts) ≡ has_typed f ts
typed_there f [] = refl
typed_there f (t ∷ ts) = go (eqb t.field f) (typed_there f ts)
  where
    go : (b : Bool) → is_some (value_of f ts) ≡ has_typed f ts → is_some (cond b (some t.value) (value_of f ts)) ≡ b || has_typed f ts
    go true h = refl
    go false h = h

call_seen : (slots : List Slot) (number : given.Option ℕ) (o : Option LinePart) → CallIs slots number o → given.is_some number ≡ is_some o
call_seen slots number none h = rw h
call_seen slots None (some (the_call s)) h = absurd h
call_seen slots (Some n) (some (the_call s)) h = refl
call_seen slots number (some (the_args r)) h = absurd h
call_seen slots number (some (the_remark c)) h = absurd h

args_seen : (raw : List ℕ) (spot : ℕ) (args : given.Option (given.Option ℕ)) (o : Option LinePart) → ArgsAre raw spot args o → given.is_some args ≡ is_some o
args_seen raw spot args none h = rw h
args_seen raw spot args (some (the_call s)) h = absurd h
args_seen raw spot None (some (the_args r)) h = absurd h
args_seen raw spot (Some conditions) (some (the_args r)) h = refl
args_seen raw spot args (some (the_remark c)) h = absurd h

remark_seen : (commented : Bool) (o : Option LinePart) → RemarkIs commented o → commented ≡ is_some o
remark_seen commented none h = h
remark_seen commented (some (the_call s)) h = absurd h
remark_seen commented (some (the_args r)) h = absurd h
remark_seen commented (some (the_remark c)) h = h

holds_seen : {slots : List Slot} {raw₀ raw : List ℕ} {spot : ℕ} {line : LineRead} {ts : List (Typed LinePart)} → Holds slots raw₀ raw spot line ts
    → (f : ℕ) → f < 3 → seen_in line f ≡ has_typed f ts
unfolding seen_in
holds_seen {slots} {raw₀} {raw} {spot} {line} {ts} h zero l = call_seen slots line.number (value_of 0 ts) h.call ∙ typed_there 0 ts
holds_seen {slots} {raw₀} {raw} {spot} {line} {ts} h (suc zero) l = args_seen raw spot line.args (value_of 1 ts) h.args ∙ typed_there 1 ts
holds_seen {slots} {raw₀} {raw} {spot} {line} {ts} h (suc (suc zero)) l = remark_seen line.commented (value_of 2 ts) h.remark ∙ typed_there 2 ts
holds_seen h (suc (suc (suc n))) l = absurd (omega arith)

-- ---- the loop

abbrev field_item : List Slot → List (Typed LinePart) → List ℕ → Got (Typed LinePart)
field_item slots ts l = follow (fresh_there (λ f. has_typed f ts) l) (λ f behind. follow (line_reads (judges_of slots) f behind) (λ a rest. got (typed f a) rest))

fields_loop : (slots : List Slot) → Loop (field_turns line_keys (line_reads (judges_of slots))) (field_item slots) 0x7d (λ ts t. t ∷ ts)
unfolding fields fresh_there field_there blanks
fields_loop slots = record { turn = λ n ts l. field_turn_lem line_keys reads n ts l ∙ key n ts l (field_there line_keys (blanks l)); last = λ ts. refl; nothing = λ ts. refl }
  where
    reads : ℕ → List ℕ → Got LinePart
    reads = line_reads (judges_of slots)

    value : (n : ℕ) (ts : List (Typed LinePart)) (f : ℕ) (g : Got LinePart)
        → follow g (λ a rest. onward 0x7d (field_turns line_keys reads n) (typed f a ∷ ts) rest)
        ≡ follow (follow g (λ a rest. got (typed f a) rest)) (λ t rest. onward 0x7d (field_turns line_keys reads n) (t ∷ ts) rest)
    value n ts f (got a rest) = refl
    value n ts f (stop k m) = refl

    colon : (n : ℕ) (ts : List (Typed LinePart)) (f : ℕ) (g : Got ℕ)
        → follow g (λ z behind. follow (reads f behind) (λ a rest. onward 0x7d (field_turns line_keys reads n) (typed f a ∷ ts) rest))
        ≡ follow (follow (follow g (λ z behind. got f behind)) (λ f behind. follow (reads f behind) (λ a rest. got (typed f a) rest))) (λ t rest. onward 0x7d (field_turns line_keys reads n) (t ∷ ts) rest)
    colon n ts f (got z behind) = value n ts f (reads f behind)
    colon n ts f (stop k m) = refl

    test : (n : ℕ) (ts : List (Typed LinePart)) (l : List ℕ) (f : ℕ) (past : List ℕ) (b : Bool)
        → cond b (stop given_twice (blanks l)) (value_turn line_keys reads n ts f past)
        ≡ follow (follow (cond b (stop given_twice (blanks l)) (follow (colon_there past) (λ z behind. got f behind))) (λ f behind. follow (reads f behind) (λ a rest. got (typed f a) rest))) (λ t rest. onward 0x7d (field_turns line_keys reads n) (t ∷ ts) rest)
    test n ts l f past true = refl
    test n ts l f past false = colon n ts f (colon_there past)

    key : (n : ℕ) (ts : List (Typed LinePart)) (l : List ℕ) (g : Got ℕ)
        → follow g (λ f past. cond (has_typed f ts) (stop given_twice (blanks l)) (value_turn line_keys reads n ts f past))
        ≡ follow (follow (follow g (λ f past. cond (has_typed f ts) (stop given_twice (blanks l)) (follow (colon_there past) (λ z behind. got f behind)))) (λ f behind. follow (reads f behind) (λ a rest. got (typed f a) rest))) (λ t rest. onward 0x7d (field_turns line_keys reads n) (t ∷ ts) rest)
    key n ts l (got f past) = test n ts l f past (has_typed f ts)
    key n ts l (stop k m) = refl

pub fields_begin : (slots : List Slot) (l : List ℕ) → Begins 0x7b 0x7d (field_turns line_keys (line_reads (judges_of slots))) [] (fields_there (judges_of slots) l) l
unfolding fields_there
fields_begin slots l = record { is = object_begins line_keys (line_reads (judges_of slots)) l }

-- the brace in front of the place where an object ends
more_closed : (b : ℕ) (l rest : List ℕ) → more_there b l ≡ got false rest → 1 ≤ b → blanks l ≡ b ∷ rest
unfolding more_there
more_closed b l rest e h = go (eqb (first (blanks l)) 0x2c) e
  where
    go : (t : Bool) → cond t (got true (drop 1 (blanks l))) (ended b false (blanks l)) ≡ got false rest → blanks l ≡ b ∷ rest
    go true f = absurd (let q : true ≡ false = cc in false_not_true (sym q))
    go false f = (ended_got b h false false (blanks l) rest f).0

brace_there : (text rest : List ℕ) (past end b : ℕ) → past ≤ length text → blanks (drop past text) ≡ b ∷ rest → At text rest end → At text (b ∷ drop end text) (end - 1)
brace_there text rest past end b h e p =
    let s = blanks_sound (drop past text) in
    let x : drop past text ≡ s.skipped ++ (b ∷ rest) = s.here ∙ ap (λ (m : List ℕ). s.skipped ++ m) e in
    let n = simp (length-append, length-drop) at (ap length x) in
    let r = simp length-drop at (ap length p.behind) in
    let i = p.inside in
    let q : end - 1 ≡ past + length s.skipped = omega arith in
    record {
      inside = omega arith;
      behind = rw q (sym (drop-drop (length s.skipped) past text) ∙ ap (λ (m : List ℕ). drop (length s.skipped) m) x ∙ drop_at s.skipped (b ∷ rest) (length s.skipped) refl ∙ ap (λ (m : List ℕ). b ∷ m) (sym p.behind));
    }

pub record Reading (slots : List Slot) (text : List ℕ) (from : ℕ) (raw₀ : List ℕ) (spot : ℕ) (raw : List ℕ) (at : ℕ) (line : LineRead) (more : Bool) : Type 0 where
  pub done : List (Typed LinePart)
  pub turning : Turning text (field_turns line_keys (line_reads (judges_of slots))) (fields_there (judges_of slots) (drop from text)) from at more done
  pub holds : Holds slots raw₀ raw spot line done
  pub long : length raw ≡ length raw₀
  pub brace : more ≡ false → At text (0x7d ∷ drop at text) (at - 1)

pub reading_start : (slots : List Slot) {text : List ℕ} {from code at : ℕ} {more : Bool} (raw : List ℕ) (spot : ℕ)
    → Tells text from (λ b. more ≡ b) (begin_there 0x7b 0x7d (drop from text)) code at → (more ≡ false → At text (0x7d ∷ drop at text) (at - 1)) → code ≡ 0
    → Reading slots text from raw spot raw at (record { number = None; args = None; commented = false }) more
reading_start slots {text} {from} raw spot told closed z = record {
  done = [];
  turning = begin_turning (fields_begin slots (drop from text)) told z;
  holds = record { call = refl; args = refl; remark = refl; front = refl };
  long = refl;
  brace = closed;
}

-- the loop is over
pub reading_end : {slots : List Slot} {text : List ℕ} {from : ℕ} {raw₀ : List ℕ} {spot : ℕ} {raw : List ℕ} {at : ℕ} {line : LineRead} {more : Bool}
    → Reading slots text from raw₀ spot raw at line more → more ≡ false → Tells text from (Known slots text raw₀ raw spot at line) (fields_there (judges_of slots) (drop from text)) 0 at
reading_end r e =
    let t = still e r.turning in
    tells_got t.same refl t.on (record { inside = t.inside; behind = refl }) (record { holds = r.holds; brace = r.brace e })

item_is : (slots : List Slot) (g : Got ℕ) (f value : ℕ) (rest behind : List ℕ) → g ≡ got f rest → value ≡ f → behind ≡ rest
    → follow g (λ f behind. follow (line_reads (judges_of slots) f behind) (λ a rest. got (typed f a) rest)) ≡ follow (line_reads (judges_of slots) value behind) (λ a rest. got (typed value a) rest)
item_is slots g f value rest behind e v b = rw (e, v, b)

module _ {slots : List Slot} {text : List ℕ} {from : ℕ} {raw₀ : List ℕ} {spot : ℕ} {raw : List ℕ} {at : ℕ} {line : LineRead} {more : Bool}
    (r : Reading slots text from raw₀ spot raw at line more) (e : more ≡ true) where
  fresh : {code past : ℕ} {Is : ℕ → Type 0} → Tells text at Is (fresh_there (seen_in line) (drop at text)) code past → Tells text at Is (fresh_there (λ f. has_typed f r.done) (drop at text)) code past
  fresh key = rw (← fresh_same (seen_in line) (λ f. has_typed f r.done) (drop at text) (holds_seen r.holds)) key

  pub key_stopped : {code past : ℕ} {Is : ℕ → Type 0} → Tells text at Is (fresh_there (seen_in line) (drop at text)) code past
      → {before : ℕ} {Is' : List (Typed LinePart) → Type 0} → (code ≡ 0 → ⊥) → Tells text before Is' (fields_there (judges_of slots) (drop from text)) code past
  key_stopped key h = item_stopped (fields_loop slots) (still e r.turning) (handed_on {Is' = λ t. Unit {0}} _ (fresh key) h) h

  module _ {value code past : ℕ} (key : Tells text at (λ f. value ≡ f) (fresh_there (seen_in line) (drop at text)) code past) (z : code ≡ 0) where
    pub key_known_lem : value < 3
    key_known_lem = let c = came (fresh key) z in let v = c.value in let s = fresh_small _ (drop at text) c.part c.rest c.got_it in omega arith

    pub key_new : has_typed value r.done ≡ false
    key_new = let c = came (fresh key) z in ap (λ (f : ℕ). has_typed f r.done) c.value ∙ fresh_new (λ f. has_typed f r.done) (drop at text) c.part c.rest c.got_it

    module _ {code' past' : ℕ} where
      item : {Is : LinePart → Type 0} {Is' : Typed LinePart → Type 0} → ((part : LinePart) → Is part → Is' (typed value part))
          → Tells text past Is (line_reads (judges_of slots) value (drop past text)) code' past' → Tells text at Is' (field_item slots r.done (drop at text)) code' past'
      item is told =
          let c = came (fresh key) z in
          rw (item_is slots _ _ value _ (drop past text) c.got_it c.value c.place.behind)
          (tells_before (omega (arith, c.on)) (λ a x. x) (tells_map (λ a. typed value a) is told))

      pub value_stopped : {Is : LinePart → Type 0} → Tells text past Is (line_reads (judges_of slots) value (drop past text)) code' past'
          → {before : ℕ} {Is' : List (Typed LinePart) → Type 0} → (code' ≡ 0 → ⊥) → Tells text before Is' (fields_there (judges_of slots) (drop from text)) code' past'
      value_stopped told h = item_stopped (fields_loop slots) (still e r.turning) (item {Is' = λ t. Unit {0}} (λ part x. tt) told) h

      module _ {raw' : List ℕ} {next : LineRead} (told : Tells text past (λ part. Holds slots raw₀ raw' spot next (typed value part ∷ r.done)) (line_reads (judges_of slots) value (drop past text)) code' past')
          (y : code' ≡ 0) where
        read : Came text at (λ t. Holds slots raw₀ raw' spot next (t ∷ r.done)) (field_item slots r.done (drop at text)) past'
        read = came (item (λ part x. x) told) y

        pub value_behind : {code'' end : ℕ} {Is : Bool → Type 0} → Tells text past' Is (more_there 0x7d (drop past' text)) code'' end
            → {before : ℕ} {Is' : List (Typed LinePart) → Type 0} → (code'' ≡ 0 → ⊥) → Tells text before Is' (fields_there (judges_of slots) (drop from text)) code'' end
        value_behind behind h = more_stopped (fields_loop slots) (still e r.turning) read behind h

        pub reading_again : {code'' end : ℕ} {on : Bool} → Tells text past' (λ b. on ≡ b) (more_there 0x7d (drop past' text)) code'' end
            → length raw' ≡ length raw → code'' ≡ 0 → Reading slots text from raw₀ spot raw' end next on
        reading_again {end = end} behind long w =
            let d = came behind w in
            record {
              done = read.part ∷ r.done;
              turning = turning (fields_loop slots) (still e r.turning) read behind w;
              holds = read.value;
              long = long ∙ r.long;
              brace = λ f. brace_there text d.rest past' end 0x7d read.place.inside (more_closed 0x7d (drop past' text) d.rest (d.got_it ∙ ap (λ (b : Bool). got b d.rest) (sym d.value ∙ f)) (omega arith)) d.place;
            }
