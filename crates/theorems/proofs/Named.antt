-- NAMED: where an answer names a part, it is the first that has the fault.
use mathlib.Core.Path.{◌≡◌, refl, ap, sym, ◌∙◌}
use mathlib.Core.Bool.{Bool, true, false, cond, not, ◌&&◌, and-true, and_assoc}
use mathlib.Core.List.{List, [], ◌∷◌, ◌++◌, append_assoc, append-nil}
use mathlib.Core.Option.{Option, none, some}
use Prim.Native.Nat.{ℕ, zero, suc, ◌+◌, ◌*◌, ◌^◌, ◌≤◌, ◌<◌}
use native.Mathlib.Numerals.{add-one}
use native.Mathlib.Omega.{arith}
use lib.Dec.{eqb, leb, ltb}
use lib.ListN.{length, take, get_or, length-append}
use lib.Seq.{take_all, take-append-le}
use native.Mathlib.Nat.{add-zero, zero-add}
use borrow.Author.Tests.{eq-eqb, eqb-true, not-true, leb-true, leb-false, le-leb, lt-ltb}
use Rattle.definitions.specs.declared.Condition.{Condition}
use Rattle.definitions.specs.declared.Fault.{Fault}
use Rattle.definitions.specs.RuleSet.{Rule, Entry, RuleSet, with_entries, guarded, one_of}
use Rattle.definitions.specs.Emitted.{emitted}
use Rattle.definitions.specs.Format.{joined, encode_entry, encode, InRange, read}
use Rattle.definitions.specs.Answer as answers
use Rattle.definitions.specs.Answer.{all, has_conditions, too_many, fault, nowhere, no_fault, unless, set_faults, filter_faults, first_with, short_with, emitted_size, too_long, halved, turns_long, least_of, refusal, answer, answer_by, answer_of}
use Rattle.definitions.specs.Machine.{Call, call_of}
use Rattle.definitions.specs.Outcome.{decided, decided_read, decided_of}
use Rattle.theorems.specs.Named.{FirstFailing, TurnsWith, FirstWith, no_entry, RuleNamed, rule_of, NamedIn, Nowhere, refused_by, Named, TurnsNamed, placeless, Unnamed, undecided_by, DecidedNamed, undecided, DecidedUnnamed}
use Rattle.theorems.specs.Length.{filter_length}
use Rattle.theorems.proofs.Tests.{either_true}
use Rattle.theorems.proofs.Forms.{length_entry}
use Rattle.theorems.proofs.Words.{length_bytes}
use Rattle.theorems.proofs.RoundTrip.{read_written}
use Rattle.theorems.proofs.Heads.{head_few}
use Rattle.theorems.proofs.Lengths.{length_emitted}
use Rattle.theorems.proofs.Faults.{lacks, has, first_of, has_append, first_append, among_unless, own_had, own_first, other_had, other_first, alone_first, first_failing, first_below, spotted_in, spotted_rule, RuleRow, index_row, width_row, rule_row, empty_row, order_faults, order_place, rule_faults_lem, rule_place}
use Rattle.theorems.proofs.Answers.{filter_codes, set_lacks, entries_lack, answered_by, none_refused, never_refused, answered_none, answered_not_one}

-- ---- of lists

first_failing_lem : {A : Type 0} (f : A → Bool) (nothing : A) (parts : List A) → all f parts ≡ false → FirstFailing f nothing parts (first_failing f parts)
unfolding first_failing
first_failing_lem f nothing [] h = absurd (let z : ◌≡◌ {A = ℕ} 0 1 = cc in omega arith)
first_failing_lem f nothing (x ∷ xs) h = go (f x) refl (λ e. first_failing_lem f nothing xs e)
  where
    earlier : f x ≡ true → ((k : ℕ) → k < first_failing f xs → f (get_or xs k nothing) ≡ true)
        → (k : ℕ) → k < suc (first_failing f xs) → f (get_or (x ∷ xs) k nothing) ≡ true
    earlier e b zero l = e
    earlier e b (suc k) l = b k (omega arith)

    go : (t : Bool) → f x ≡ t → (all f xs ≡ false → FirstFailing f nothing xs (first_failing f xs))
        → FirstFailing f nothing (x ∷ xs) (cond (f x) (suc (first_failing f xs)) 0)
    go true e rest =
        let more = rest (rw e at h) in
        rw e (record { there = omega (arith, more.there); fails = more.fails; before = earlier e more.before })
    go false e rest = rw e (record { there = omega arith; fails = e; before = λ k l. absurd (omega arith) })

-- with the entries that were seen all pass, and with all of them they do not
first_with_lem : (f : List Entry → Bool) (seen es : List Entry) → f (seen ++ es) ≡ false
    → ((k : ℕ) → k ≤ length seen → f (take k (seen ++ es)) ≡ true) → FirstWith f (seen ++ es) (length seen + first_with f seen es)
unfolding first_with
first_with_lem f seen [] h b =
    absurd (let w = b (length seen) (omega arith) in
    let all_of : take (length seen) (seen ++ []) ≡ seen ++ [] = take_all (length seen) (seen ++ []) (rw append-nil (omega arith)) in
    let z : ◌≡◌ {A = ℕ} 0 1 = cc in omega arith)
first_with_lem f seen (e ∷ es) h b =
    go (f (seen ++ (e ∷ []))) refl (λ h' b'. first_with_lem f (seen ++ (e ∷ [])) es h' b')
  where
    now : List Entry
    now = seen ++ (e ∷ [])

    same : now ++ es ≡ seen ++ (e ∷ es)
    same = append_assoc seen (e ∷ []) es

    long : length now ≡ length seen + 1
    long = length-append seen (e ∷ [])

    this : take (suc (length seen)) (seen ++ (e ∷ es)) ≡ now
    this = rw (← same, take-append-le (suc (length seen)) now es (omega (arith, long))) (take_all (suc (length seen)) now (omega (arith, long)))

    shorter : f now ≡ true → (k : ℕ) → k ≤ length now → f (take k (now ++ es)) ≡ true
    shorter g k l = rw same (split (leb k (length seen)) refl)
      where
        split : (t : Bool) → leb k (length seen) ≡ t → f (take k (seen ++ (e ∷ es))) ≡ true
        split true p = b k (leb-true k (length seen) p)
        split false p = let q : k ≡ suc (length seen) = omega (arith, leb-false k (length seen) p, long) in rw (q, this) g

    go : (t : Bool) → f now ≡ t
        → (f (now ++ es) ≡ false → ((k : ℕ) → k ≤ length now → f (take k (now ++ es)) ≡ true) → FirstWith f (now ++ es) (length now + first_with f now es))
        → FirstWith f (seen ++ (e ∷ es)) (length seen + cond (f now) (suc (first_with f now es)) 0)
    go true p rest =
        let w = rest (rw same h) (shorter p) in
        let n : length now + first_with f now es ≡ length seen + suc (first_with f now es) = omega (arith, long) in
        rw (p, ← n, ← same) w
    go false p rest =
        rw (p, add-zero (length seen))
        (record { turns = record { there = rw length-append (omega arith); passes = b (length seen) (omega arith); fails = rw this p }; before = λ k l. b k (omega arith) })

-- by numbers: what comes next must be above the last
ascending_more : (es : List Entry) (e f : Entry)
    → answers.ascending ((es ++ (e ∷ [])) ++ (f ∷ [])) ≡ (answers.ascending (es ++ (e ∷ [])) && leb (e.number + 1) f.number)
unfolding answers.ascending
ascending_more [] e f = rw (add-one e.number) (and-true (ltb e.number f.number))
ascending_more (x ∷ []) e f =
    rw (add-one e.number, and-true (ltb e.number f.number), and-true (ltb x.number e.number))
ascending_more (x ∷ (y ∷ es)) e f =
    rw (ascending_more (y ∷ es) e f) (sym (and_assoc (ltb x.number y.number) (answers.ascending ((y ∷ es) ++ (e ∷ []))) (leb (e.number + 1) f.number)))

first_below_lem : (least : ℕ) (seen es : List Entry) → ((e : Entry) → answers.ascending (seen ++ (e ∷ [])) ≡ leb least e.number)
    → first_with answers.ascending seen es ≡ first_below least es
unfolding first_with first_below
first_below_lem least seen [] next = refl
first_below_lem least seen (e ∷ es) next =
    rw (next e)
    (go (leb least e.number) (λ h. first_below_lem (e.number + 1) (seen ++ (e ∷ [])) es (λ f. rw (ascending_more seen e f, next e, h))))
  where
    go : (t : Bool) → (t ≡ true → first_with answers.ascending (seen ++ (e ∷ [])) es ≡ first_below (e.number + 1) es)
        → cond t (suc (first_with answers.ascending (seen ++ (e ∷ [])) es)) 0 ≡ cond t (suc (first_below (e.number + 1) es)) 0
    go true behind = ap suc (behind refl)
    go false behind = refl

-- ---- the parts that are named

entry_named : (f : List Entry → Bool) (es : List Entry) → f [] ≡ true → f es ≡ false → FirstWith f es (first_with f [] es)
entry_named f es empty h =
    rw zero-add at (first_with_lem f [] es h (λ k l. let z : k ≡ 0 = omega arith in rw z empty))

module _ (rs : RuleSet) (n long room : ℕ) where
  abbrev least : Fault
  least = least_of (refusal rs) (filter_faults n long room)

  -- a number of the set's own
  from_set : (k : ℕ) → one_of (6 ∷ 7 ∷ []) k ≡ false → (0 ≡ k → ⊥) → least.code ≡ k → (has k (set_faults rs) ≡ true) × (least ≡ first_of k (set_faults rs))
  from_set k other positive e =
      let w = answered_by n long rs room k e positive in
      let absent = lacks (6 ∷ 7 ∷ []) (filter_faults n long room) k other (filter_codes n long room) in
      let either = rw (has_append k (set_faults rs) (filter_faults n long room), absent) at w.0 in
      let there : has k (set_faults rs) ≡ true = either_true (has k (set_faults rs)) false (λ p. p) (λ p. cc) either in
      (there, w.1 ∙ rw (first_append k (set_faults rs) (filter_faults n long room), there))

  -- a number of the filter's
  from_filter : (k : ℕ) → has k (set_faults rs) ≡ false → (0 ≡ k → ⊥) → least.code ≡ k
      → (has k (filter_faults n long room) ≡ true) × (least ≡ first_of k (filter_faults n long room))
  from_filter k lacking positive e =
      let w = answered_by n long rs room k e positive in (
        rw (has_append k (set_faults rs) (filter_faults n long room), lacking) at w.0,
        w.1 ∙ rw (first_append k (set_faults rs) (filter_faults n long room), lacking),
      )

  abbrev failing : (Rule → Bool) → ℕ
  failing test = first_failing (λ (x : Entry). all test x.rules) rs.entries

  -- a number of rules
  module _ {k : ℕ} {test : Rule → Bool} {spot : ℕ → ℕ → Rule → Fault} (row : RuleRow k test spot) (two : eqb 2 k ≡ false) (three : eqb 3 k ≡ false)
      (other : one_of (6 ∷ 7 ∷ []) k ≡ false) (positive : 0 ≡ k → ⊥) (e : least.code ≡ k) where
    fails : all (λ (x : Entry). all test x.rules) rs.entries ≡ false
    fails = not-true _ (sym (rule_faults_lem rs row two three) ∙ (from_set k other positive e).0)

    place_is : least ≡ spotted_rule test spot (failing test) (get_or rs.entries (failing test) no_entry)
    place_is = (from_set k other positive e).1 ∙ rule_place rs row two three no_entry fails

  rule_named : (test : Rule → Bool) (k c : ℕ) → all (λ (x : Entry). all test x.rules) rs.entries ≡ false
      → RuleNamed test rs (fault k (failing test) (first_failing test (get_or rs.entries (failing test) no_entry).rules) c)
  rule_named test k c h =
      let entry = first_failing_lem (λ (x : Entry). all test x.rules) no_entry rs.entries h in
      record { entry = entry; rule = first_failing_lem test [] (get_or rs.entries (failing test) no_entry).rules entry.fails }

  -- of a condition
  module _ {k : ℕ} {test : Condition → Bool} (row : RuleRow k (all test) (spotted_in k test)) (two : eqb 2 k ≡ false) (three : eqb 3 k ≡ false)
      (other : one_of (6 ∷ 7 ∷ []) k ≡ false) (positive : 0 ≡ k → ⊥) (e : least.code ≡ k) where
    condition_named : RuleNamed (all test) rs least
        × ((q : Condition) → FirstFailing test q (rule_of rs least) least.condition)
    condition_named =
        rw (place_is row two three other positive e)
        (let named = rule_named (all test) k (first_failing test (get_or (get_or rs.entries (failing (all test)) no_entry).rules (first_failing (all test) (get_or rs.entries (failing (all test)) no_entry).rules) [])) (fails row two three other positive e) in
        (named, λ q. first_failing_lem test q _ named.rule.fails))

  order_named : least.code ≡ 2 → FirstWith answers.ascending rs.entries least.entry × (least.rule ≡ nowhere) × (least.condition ≡ nowhere)
  unfolding answers.ascending one_of
  order_named e =
      let w = from_set 2 refl (λ z. omega arith) e in
      let down = not-true _ (sym (order_faults rs) ∙ w.0) in
      let same = first_below_lem 0 [] rs.entries (λ f. sym (le-leb 0 f.number (omega arith))) in
      rw (w.1, order_place rs down, ← same) (entry_named answers.ascending rs.entries refl down, refl, refl)

  empty_named : least.code ≡ 4 → RuleNamed has_conditions rs least × (least.condition ≡ nowhere)
  unfolding one_of
  empty_named e =
      rw (place_is empty_row refl refl refl (λ z. omega arith) e)
      (rule_named has_conditions 4 nowhere (fails empty_row refl refl refl (λ z. omega arith) e), refl)

  long_place : least.code ≡ 6 → (ltb n too_many ≡ false) × (least ≡ fault 6 long nowhere nowhere)
  unfolding one_of filter_faults
  long_place e =
      let w = from_filter 6 (set_lacks rs 6 refl) (λ z. omega arith) e in
      let absent = lacks (7 ∷ []) (unless (leb (8 * n) room) (answers.placeless 7)) 6 refl (among_unless (7 ∷ []) (leb (8 * n) room) (answers.placeless 7) refl) in
      let long = not-true _ (sym (own_had 6 (ltb n too_many) (fault 6 long nowhere nowhere) _ refl absent) ∙ w.0) in
      (long, w.1 ∙ own_first 6 (ltb n too_many) _ _ refl long)

  room_place : least.code ≡ 7 → least ≡ answers.placeless 7
  unfolding one_of filter_faults
  room_place e =
      let w = from_filter 7 (set_lacks rs 7 refl) (λ z. omega arith) e in
      let six = fault 6 long nowhere nowhere in
      let short = sym (other_had 7 (ltb n too_many) six (unless (leb (8 * n) room) (answers.placeless 7)) refl) ∙ w.0 in
      w.1 ∙ other_first 7 (ltb n too_many) six (unless (leb (8 * n) room) (answers.placeless 7)) refl ∙ alone_first (leb (8 * n) room) (answers.placeless 7) short

  actions_place : least.code ≡ 3 → least ≡ answers.placeless 3
  unfolding one_of set_faults
  actions_place e =
      let w = from_set 3 refl (λ z. omega arith) e in
      let differ = not (eqb rs.mismatch rs.on_match) in
      let same = not-true differ (sym (own_had 3 differ (answers.placeless 3) _ refl (entries_lack 3 refl rs.entries)) ∙ w.0) in
      w.1 ∙ own_first 3 differ _ _ refl same

-- `Long` holds of the entry that is told where n instructions are too many
named_in : (Long : ℕ → Type 0) (rs : RuleSet) (n long room : ℕ) → (ltb n too_many ≡ false → Long long) → NamedIn Long rs (least rs n long room)
unfolding one_of
named_in Long rs n long room told = record {
  ascending = order_named rs n long room;
  empty = empty_named rs n long room;
  index = condition_named rs n long room (rule_row index_row refl) refl refl refl (λ z. omega arith);
  long = λ e.
      let w = long_place rs n long room e in
      rw w.1 (told w.0, refl, refl);
  wide = condition_named rs n long room (rule_row width_row refl) refl refl refl (λ z. omega arith);
}

pub short_without : (rs : RuleSet) → short_with emitted_size rs [] ≡ true
unfolding filter_length
short_without rs =
    let none : RuleSet = with_entries rs [] in
    lt-ltb (length (emitted none)) too_many (omega (arith, length_emitted none, head_few (guarded none) 0))

pub named : Named
unfolding answer_of answer
named set room rs e =
    rw e (named_in (FirstWith (short_with emitted_size rs) rs.entries) rs (emitted_size rs) (too_long rs) room (entry_named (short_with emitted_size rs) rs.entries (short_without rs)))

-- ---- by halves

turns_by : (f : ℕ → Bool) (k n : ℕ) → f n ≡ true → f (n + 2 ^ k) ≡ false → (f (halved f k n) ≡ true) × (f (suc (halved f k n)) ≡ false)
unfolding halved
turns_by f zero n p q = (p, rw (← add-one n) q)
turns_by f (suc k) n p q = go (f (n + 2 ^ k)) refl (turns_by f k (n + 2 ^ k)) (turns_by f k n p)
  where
    twice : n + 2 ^ suc k ≡ n + 2 ^ k + 2 ^ k
    twice = omega arith

    go : (t : Bool) → f (n + 2 ^ k) ≡ t
        → (f (n + 2 ^ k) ≡ true → f (n + 2 ^ k + 2 ^ k) ≡ false → (f (halved f k (n + 2 ^ k)) ≡ true) × (f (suc (halved f k (n + 2 ^ k))) ≡ false))
        → (f (n + 2 ^ k) ≡ false → (f (halved f k n) ≡ true) × (f (suc (halved f k n)) ≡ false))
        → (f (halved f k (cond t (n + 2 ^ k) n)) ≡ true) × (f (suc (halved f k (cond t (n + 2 ^ k) n))) ≡ false)
    go true e upper lower = upper e (rw (← twice) q)
    go false e upper lower = lower e

-- where it turns there is an entry: behind all of them nothing changes
turns_there : (f : List Entry → Bool) (es : List Entry) (n : ℕ) → f (take n es) ≡ true → f (take (suc n) es) ≡ false → TurnsWith f es n
turns_there f es n p q = record { there = go (leb (length es) n) refl; passes = p; fails = q }
  where
    go : (t : Bool) → leb (length es) n ≡ t → n < length es
    go true e =
        absurd (let l = leb-true (length es) n e in
        let these : take n es ≡ es = take_all n es (omega arith) in
        let those : take (suc n) es ≡ es = take_all (suc n) es (omega arith) in
        let z : ◌≡◌ {A = ℕ} 0 1 = cc in omega arith)
    go false e = omega (arith, leb-false (length es) n e)

turned : (f : List Entry → Bool) (es : List Entry) → length es ≤ 2 ^ 17 → f [] ≡ true → f es ≡ false
    → TurnsWith f es (halved (λ n. f (take n es)) 17 0)
turned f es few empty h =
    let w = turns_by (λ n. f (take n es)) 17 0 empty (rw (take_all (2 ^ 17) es few) h) in
    turns_there f es _ w.0 w.1

-- an entry has eight bytes at least
pub eight : (es : List Entry) → 8 * length es ≤ length (joined encode_entry es)
eight [] = omega arith
eight (e ∷ es) = let l = length-append (encode_entry e) (joined encode_entry es) in omega (arith, length_entry e, eight es)

few_entries : (rs : RuleSet) → InRange rs → length rs.entries ≤ 2 ^ 17
unfolding encode
few_entries rs g =
    let long : length (encode rs) ≡ 16 + length (joined encode_entry rs.entries) = simp (length-append, length_bytes) (omega arith) in
    omega (arith, g.size, eight rs.entries)

pub turns_named : (size : RuleSet → ℕ) → ((rs : RuleSet) → short_with size rs [] ≡ true) → TurnsNamed size
unfolding answer
turns_named size empty set room rs bytes e =
    rw e (named_in (TurnsWith (short_with size rs) rs.entries) rs (size rs) (turns_long size rs) room
    (turned (short_with size rs) rs.entries (few_entries rs (read_written set bytes rs e).0) (empty rs)))

-- ---- the answers that name nothing

nowhere_too : (f g : Fault) → f ≡ g → Nowhere g → Nowhere f
nowhere_too f g e h = rw e h

nowhere_by : (f : Fault) (k : ℕ) → f ≡ answers.placeless k → Nowhere f
nowhere_by f k e = nowhere_too f (answers.placeless k) e (refl, refl, refl)

unnamed_in : (rs : RuleSet) (n long room code : ℕ) → one_of placeless code ≡ true → (least rs n long room).code ≡ code → Nowhere (least rs n long room)
unfolding one_of
unnamed_in rs n long room code h e =
    either_true (eqb code 0) _ (λ p. nowhere_by _ 0 (answered_none n long rs room (e ∙ eqb-true code 0 p)))
    (either_true (eqb code 1) _ (λ p. absurd (answered_not_one n long rs room (e ∙ eqb-true code 1 p)))
    (either_true (eqb code 3) _ (λ p. nowhere_by _ 3 (actions_place rs n long room (e ∙ eqb-true code 3 p)))
    (either_true (eqb code 7) _ (λ p. nowhere_by _ 7 (room_place rs n long room (e ∙ eqb-true code 7 p))) (λ q. absurd (let z : ◌≡◌ {A = ℕ} 0 1 = cc in omega arith))))) h

unnamed_by : (size long : RuleSet → ℕ) (x : Option RuleSet) (room code : ℕ) → one_of placeless code ≡ true → (answer_by size long x room).code ≡ code
    → Nowhere (refused_by (answer_by size long x room))
unfolding answer
unnamed_by size long none room code h e = (refl, refl, refl)
unnamed_by size long (some rs) room code h e = unnamed_in rs (size rs) (long rs) room code h e

pub unnamed : Unnamed
unnamed size long set room code h e = unnamed_by size long (read set) room code h e

-- ---- deciding: as compiling into no instructions, which are never too many, nor too many for a buffer

abbrev fault_code : Fault → ℕ
fault_code f = f.code

no_filter : (rs : RuleSet) → least rs 0 0 0 ≡ refusal rs
unfolding filter_faults unless least_of
no_filter rs = refl

decided_in : (rs : RuleSet) (c : Call) → undecided_by (decided_read (some rs) c) ≡ least rs 0 0 0
decided_in rs c = rw (no_filter rs) (go _ (eqb (refusal rs).code 0) refl)
  where
    -- whatever is decided
    go : (action : ℕ) (t : Bool) → eqb (refusal rs).code 0 ≡ t → undecided_by (cond t (decided no_fault action) (decided (refusal rs) 0)) ≡ refusal rs
    go action true e = sym (none_refused rs (eqb-true (refusal rs).code 0 e))
    go action false e = refl

pub decided_named : DecidedNamed
unfolding decided_of
decided_named set call rs size e =
    rw (eq-eqb (length call) 64 size, e, decided_in rs (call_of call)) (named_in (λ n. ⊥) rs 0 0 0 (λ f. let z : ◌≡◌ {A = ℕ} 0 1 = cc in omega arith))

undecided_by_lem : (x : Option RuleSet) (c : Call) (code : ℕ) → one_of undecided code ≡ true → (decided_read x c).code ≡ code → Nowhere (undecided_by (decided_read x c))
unfolding one_of
undecided_by_lem none c code h e = (refl, refl, refl)
undecided_by_lem (some rs) c code h e =
    let same : (least rs 0 0 0).code ≡ code = sym (ap fault_code (decided_in rs c)) ∙ e in
    let none : (k : ℕ) → one_of placeless k ≡ true → eqb code k ≡ true → Nowhere (least rs 0 0 0) = λ k o p. unnamed_in rs 0 0 0 k o (same ∙ eqb-true code k p) in
    nowhere_too _ _ (decided_in rs c)
    (either_true (eqb code 0) _ (none 0 refl)
    (either_true (eqb code 1) _ (none 1 refl)
    (either_true (eqb code 3) _ (none 3 refl)
    (either_true (eqb code 9) _ (λ p. absurd (never_refused rs 9 refl (λ z. omega arith) (sym (ap fault_code (no_filter rs)) ∙ same ∙ eqb-true code 9 p))) (λ q. absurd (let z : ◌≡◌ {A = ℕ} 0 1 = cc in omega arith))))) h)

pub decided_unnamed : DecidedUnnamed
unfolding decided_of
decided_unnamed set call code h e = go (eqb (length call) 64) e
  where
    go : (t : Bool) → (cond t (decided_read (read set) (call_of call)) (decided (answers.placeless 9) 0)).code ≡ code
        → Nowhere (undecided_by (cond t (decided_read (read set) (call_of call)) (decided (answers.placeless 9) 0)))
    go true e = undecided_by_lem (read set) (call_of call) code h e
    go false e = (refl, refl, refl)
