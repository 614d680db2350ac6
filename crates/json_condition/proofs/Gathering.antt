-- How the reader of a condition's object goes on, turn by turn, from where the code stands.
use mathlib.Core.Path.{◌≡◌, refl, ap, sym, ◌∙◌}
use mathlib.Core.Bool.{Bool, true, false, cond}
use mathlib.Core.List.{List, [], ◌∷◌}
use Prim.Native.Nat.{ℕ, zero, suc, ◌+◌, ◌-◌, ◌≤◌, ◌<◌}
use native.Mathlib.Omega.{arith}
use lib.Dec.{eqb}
use lib.ListN.{length, drop, length-drop}
use lib.Seq.{drop-drop}
use Rattle.definitions.specs.CallNames.{Slot}
use Rattle.definitions.specs.JsonForm.{condition_keys}
use Rattle.definitions.specs.JsonReader.{Got, got, stop, not_json, follow, first, blanks, fields}
use Rattle.definitions.specs.FormReader.{given_twice, has_typed, typed, ConditionPart, condition_reads, judges_of}
use Rattle.json_theorems.specs.Turns.{open_there, field_there, colon_there, more_there}
use Rattle.json_theorems.proofs.Turns.{value_turn, field_turn_lem, object_begins}
use Rattle.json_theorems.proofs.Tests.{false_not_true}
use Rattle.std.specs.Prelude.{None, Result, Ok, Err, IsErrAnd}
use Rattle.json_scan.specs.Telling.{code_of}
use Rattle.json_scan.specs.declared.Misread.{Misread}
use Rattle.json_scan.specs.declared.Read.{Read}
use Rattle.json_condition.specs.declared.Gathered.{Gathered}
use Rattle.json_condition.specs.declared.Turn.{Turn}
use Rattle.json_condition.specs.Gathering.{Parts, Kept, Further, Ended, Onward, Left, further, ended, condition_object, condition_turns}
use Rattle.json_condition.proofs.Reading.{Faulty, tell_fault}
use Rattle.json_condition.proofs.OneKey.{Suffix, blanks_suffix, blanks_on, front}

-- ---- places

-- a byte that is there is inside the text
pub stands_inside : (text : List ℕ) (at byte : ℕ) → 0 < byte → eqb (first (drop at text)) byte ≡ true → at < length text
stands_inside text at byte p e = let l = ap length (front (drop at text) byte p e) in omega (arith, length-drop at text)

-- as many turns are left as there are bytes
pub turns_enough : (text : List ℕ) (at n : ℕ) → length text ≤ at + n → length (drop at text) ≤ n
turns_enough text at n h = rw (length-drop at text) (omega arith)

-- a bracket that was read stands before the place behind it
pub bracket_before : (bracket : ℕ) (text : List ℕ) (a b : ℕ) → 0 < bracket → b ≤ length text → more_there bracket (drop a text) ≡ got false (drop b text)
    → drop (b - 1) text ≡ bracket ∷ drop b text
unfolding more_there
bracket_before bracket text a b p h e = go (eqb (first m) 0x2c) (eqb (first m) bracket) refl e
  where
    m : List ℕ
    m = blanks (drop a text)

    there : (j : ℕ) → j ≤ length text → drop j text ≡ bracket ∷ drop b text → drop (b - 1) text ≡ bracket ∷ drop b text
    there j i d =
        let l = ap length d in
        let q : b - 1 ≡ j = omega (arith, length-drop j text, length-drop b text) in
        rw q d

    go : (c d : Bool) → eqb (first m) bracket ≡ d → cond c (got true (drop 1 m)) (cond d (got false (drop 1 m)) (stop not_json m)) ≡ got false (drop b text)
        → drop (b - 1) text ≡ bracket ∷ drop b text
    go true d t f = absurd (false_not_true (let z : true ≡ false = cc in sym z))
    go false true t f =
        let s = blanks_suffix (drop a text) in
        let z : drop 1 m ≡ drop b text = cc in
        let y : m ≡ bracket ∷ drop b text = front m bracket p t ∙ ap (λ (x : List ℕ). bracket ∷ x) z in
        nth s y
      where
        nth : (s : Suffix (drop a text) m) → m ≡ bracket ∷ drop b text → drop (b - 1) text ≡ bracket ∷ drop b text
        nth s y = there (a + s.count) (whole s y) (sym (drop-drop s.count a text) ∙ sym s.same ∙ y)
          where
            whole : (s : Suffix (drop a text) m) → m ≡ bracket ∷ drop b text → a + s.count ≤ length text
            whole s y = let l = ap length (sym s.same ∙ y) in omega (arith, s.inside, length-drop a text, length-drop s.count (drop a text))
    go false false t f = absurd (let z : ◌≡◌ {A = ℕ} 0 1 = cc in omega arith)

-- ---- what the code has where it stops, and where it begins

pub left_handed : (slots : List Slot) {text : List ℕ} (from : ℕ) {result : Got Parts} (r : Result (Read Turn) Misread) (e : Misread)
    → IsErrAnd r (λ y. y ≡ e) → Faulty text result (code_of e.why) e.at → Left slots text from result r
left_handed slots from (Ok x) e i f = absurd i
left_handed slots from (Err y) e i f = rw i (tell_fault f)

-- nothing was given yet
pub kept_nothing : (g : Gathered) → (g.index ≡ None) × ((g.width ≡ None) × ((g.comparison ≡ None) × ((g.value ≡ None) × (g.commented ≡ false)))) → Kept [] g
kept_nothing g h = record {
  index = h.0;
  width = h.1.0;
  comparison = h.1.1.0;
  value = h.1.1.1.0;
  comment = refl;
  indexed = rw h.0;
  sized = rw h.1.0;
  compared = rw h.1.1.0;
  valued = rw h.1.1.1.0;
  commented = h.1.1.1.1;
  other = λ f l. refl;
}

-- ---- the object begins

module _ (slots : List Slot) (l : List ℕ) where
  pub object_stops : (k : ℕ) (m : List ℕ) → open_there 0x7b l ≡ stop k m → condition_object slots l ≡ stop k m
  object_stops k m e = object_begins condition_keys (condition_reads (judges_of slots)) l ∙ rw e

  module _ (z : ℕ) (rest b : List ℕ) (e : open_there 0x7b l ≡ got z rest) (f : blanks rest ≡ b) where
    pub object_empty : eqb (first b) 0x7d ≡ true → condition_object slots l ≡ got [] (drop 1 b)
    object_empty t = object_begins condition_keys (condition_reads (judges_of slots)) l ∙ rw (e, f, t)

    pub object_turns : eqb (first b) 0x7d ≡ false → condition_object slots l ≡ condition_turns slots (length rest) [] rest
    object_turns t = object_begins condition_keys (condition_reads (judges_of slots)) l ∙ rw (e, f, t)

-- it is empty
pub begins_ended : (slots : List Slot) (text : List ℕ) (at a start z : ℕ) (g : Gathered) → Kept [] g → open_there 0x7b (drop at text) ≡ got z (drop a text) → at < a → a ≤ length text → start ≤ length text
    → drop start text ≡ blanks (drop a text) → eqb (first (drop start text)) 0x7d ≡ true
    → Onward slots text at (condition_object slots (drop at text)) (record { at = start + 1; value = record { gathered = g; more = false } })
begins_ended slots text at a start z g k e on i j f t =
    let s = stands_inside text start 0x7d (omega arith) t in
    let o = blanks_on text a start i j f in
    let w : (start + 1) - 1 ≡ start = omega arith in
    ended refl (record {
      parts = [];
      kept = k;
      on = omega arith;
      inside = omega arith;
      brace = rw (w, ← drop-drop 1 start text) (front (drop start text) 0x7d (omega arith) t);
      same = rw (← drop-drop 1 start text) (object_empty slots (drop at text) z (drop a text) (drop start text) e (sym f) t);
    })

-- it has a key
pub begins_further : (slots : List Slot) (text : List ℕ) (at a start z : ℕ) (g : Gathered) → Kept [] g → open_there 0x7b (drop at text) ≡ got z (drop a text) → at < a → a ≤ length text
    → drop start text ≡ blanks (drop a text) → eqb (first (drop start text)) 0x7d ≡ false
    → Onward slots text at (condition_object slots (drop at text)) (record { at = a; value = record { gathered = g; more = true } })
begins_further slots text at a start z g k e on i f t =
    further refl (record {
      parts = [];
      turns = length (drop a text);
      kept = k;
      on = on;
      inside = i;
      enough = omega (arith, length-drop a text);
      same = object_turns slots (drop at text) z (drop a text) (drop start text) e (sym f) t;
    })

-- ---- a turn

module _ (slots : List Slot) where
  abbrev reads_of : ℕ → List ℕ → Got ConditionPart
  reads_of = condition_reads (judges_of slots)

  -- where no turn is left nothing is left of the text, and there is no key
  any_turn : (n : ℕ) (ts : Parts) (l : List ℕ) → length l ≤ n
      → condition_turns slots n ts l
      ≡ follow (field_there condition_keys (blanks l)) (λ f past. cond (has_typed f ts) (stop given_twice (blanks l)) (value_turn condition_keys reads_of (n - 1) ts f past))
  unfolding fields field_there blanks
  any_turn zero ts [] h = refl
  any_turn zero ts (b ∷ l) h = absurd (omega arith)
  any_turn (suc n) ts l h = let e : suc n - 1 ≡ n = omega arith in rw e (field_turn_lem condition_keys reads_of n ts l)

  module _ (n : ℕ) (ts : Parts) (l b : List ℕ) (h : length l ≤ n) (d : blanks l ≡ b) where
    turn : condition_turns slots n ts l
        ≡ follow (field_there condition_keys b) (λ f past. cond (has_typed f ts) (stop given_twice b) (value_turn condition_keys reads_of (n - 1) ts f past))
    turn = any_turn n ts l h ∙ rw d

    pub turn_key_stops : (k : ℕ) (m : List ℕ) → field_there condition_keys b ≡ stop k m → condition_turns slots n ts l ≡ stop k m
    turn_key_stops k m e = turn ∙ rw e

    module _ (f : ℕ) (past : List ℕ) (e : field_there condition_keys b ≡ got f past) where
      pub turn_twice : has_typed f ts ≡ true → condition_turns slots n ts l ≡ stop given_twice b
      turn_twice t = turn ∙ rw (e, t)

      module _ (t : has_typed f ts ≡ false) where
        pub turn_colon_stops : (k : ℕ) (m : List ℕ) → colon_there past ≡ stop k m → condition_turns slots n ts l ≡ stop k m
        turn_colon_stops k m c = turn ∙ rw (e, t, c)

        module _ (z : ℕ) (behind : List ℕ) (c : colon_there past ≡ got z behind) where
          pub turn_part_stops : (k : ℕ) (m : List ℕ) → reads_of f behind ≡ stop k m → condition_turns slots n ts l ≡ stop k m
          turn_part_stops k m p = turn ∙ rw (e, t, c, p)

          module _ (a : ConditionPart) (rest : List ℕ) (p : reads_of f behind ≡ got a rest) where
            pub turn_more_stops : (k : ℕ) (m : List ℕ) → more_there 0x7d rest ≡ stop k m → condition_turns slots n ts l ≡ stop k m
            turn_more_stops k m q = turn ∙ rw (e, t, c, p, q)

            pub turn_whole : (more : Bool) (next : List ℕ) → more_there 0x7d rest ≡ got more next
                → condition_turns slots n ts l ≡ cond more (condition_turns slots (n - 1) (typed f a ∷ ts) next) (got (typed f a ∷ ts) next)
            turn_whole more next q = turn ∙ rw (e, t, c, p, q)

-- what a whole turn leaves
pub turn_left : (slots : List Slot) (text : List ℕ) (from n behind at : ℕ) (ts : Parts) (result : Got Parts) (g : Gathered) (more : Bool)
    → result ≡ cond more (condition_turns slots (n - 1) ts (drop at text)) (got ts (drop at text)) → more_there 0x7d (drop behind text) ≡ got more (drop at text)
    → length text ≤ from + n → from < at → at ≤ length text → Kept ts g → Onward slots text from result (record { at = at; value = record { gathered = g; more = more } })
turn_left slots text from n behind at ts result g true e m l o i k =
    further refl (record { parts = ts; turns = n - 1; kept = k; on = o; inside = i; enough = omega arith; same = e })
turn_left slots text from n behind at ts result g false e m l o i k =
    ended refl (record { parts = ts; kept = k; on = o; inside = i; brace = bracket_before 0x7d text behind at (omega arith) i m; same = e })

-- ---- the loop

module _ {slots : List Slot} {text : List ℕ} {from : ℕ} {result : Got Parts} where
  pub goes_on : {t : Read Turn} → Onward slots text from result t → t.value.more ≡ true → Further slots text from result t.at t.value.gathered
  goes_on (further m f) e = f
  goes_on (ended m f) e = absurd (false_not_true (sym m ∙ e))

  pub is_over : {t : Read Turn} → Onward slots text from result t → t.value.more ≡ false → Ended text from result t.at t.value.gathered
  is_over (further m f) e = absurd (false_not_true (sym e ∙ m))
  is_over (ended m f) e = f

-- how much is to come
abbrev pub to_come : List ℕ → Read Turn → ℕ
to_come text t = cond t.value.more (suc (length text - t.at)) 0

pub comes_less : {slots : List Slot} {text : List ℕ} {result : Got Parts} {u : Read Turn} (t : Read Turn) → Onward slots text t.at result u → t.value.more ≡ true → to_come text u < to_come text t
comes_less t (further m f) e = rw (m, e) (omega (arith, f.on, f.inside))
comes_less t (ended m f) e = rw (m, e) (omega arith)
