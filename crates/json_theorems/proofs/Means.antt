-- A collected rule set means what the lines of the filter mean: a call matches if one of its lines matches, and a line without args always does.
-- Its numbers ascend strictly, and what passes line by line passes when collected. Assumes nothing.
use mathlib.Core.Path.{◌≡◌, refl, ap, sym, ◌∙◌}
use mathlib.Core.Bool.{Bool, true, false, cond, ◌&&◌, ◌||◌}
use mathlib.Core.List.{List, [], ◌∷◌, ◌++◌, append_assoc, append-nil}
use mathlib.Core.Option.{Option, none, some}
use Prim.Native.Nat.{ℕ, ◌<◌}
use native.Mathlib.Omega.{arith}
use lib.Dec.{eqb, ltb}
use borrow.Author.Tests.{ltb-true, ltb-false, lt-ltb, eqb-true, eqb-false, ne_eqb}
use Rattle.definitions.specs.Machine.{Call}
use Rattle.definitions.specs.RuleSet.{Architecture, Rule, Entry, all_hold, any_holds, matches, listed, guarded, meaning}
use Rattle.definitions.specs.JsonForm.{Line, Filter}
use Rattle.definitions.specs.CallNames.{Slot, number_for}
use Rattle.definitions.specs.Answer.{ascending}
use Rattle.definitions.specs.Collected.{rules_of_args, numbered, together, insert, collected, set_with, line_holds, is_number, some_line, args_for, is_named, none_or, lines_together, in_turn, as_upstream, as_written, filter_meaning}
use Rattle.json_theorems.proofs.Tests.{then_some}

-- whether some entry for the call's number matches
abbrev pub some_matches : Call → List Entry → Bool
some_matches c [] = false
some_matches c (e ∷ es) = (eqb c.number e.number && matches c e.rules) || some_matches c es

or_assoc : (a b c : Bool) → ((a || b) || c) ≡ (a || (b || c))
or_assoc true b c = refl
or_assoc false b c = refl

or_swap : (a b c : Bool) → (a || (b || c)) ≡ (b || (a || c))
or_swap true true c = refl
or_swap true false c = refl
or_swap false b c = refl

and_or : (a b c : Bool) → ((a && b) || (a && c)) ≡ (a && (b || c))
and_or true b c = refl
and_or false b c = refl

any_append : (c : Call) (r s : List Rule) → any_holds c (r ++ s) ≡ (any_holds c r || any_holds c s)
unfolding any_holds
any_append c [] s = refl
any_append c (x ∷ r) s = rw (any_append c r s) (sym (or_assoc (all_hold c x) (any_holds c r) (any_holds c s)))

or_true : (a : Bool) → (a || true) ≡ true
or_true true = refl
or_true false = refl

-- two lists of rules, put together: the one or the other matches
matches_together : (c : Call) (r s : List Rule) → matches c (together r s) ≡ (matches c r || matches c s)
unfolding matches
matches_together c [] s = refl
matches_together c (x ∷ r) [] = sym (or_true (any_holds c (x ∷ r)))
matches_together c (x ∷ r) (y ∷ s) = any_append c (x ∷ r) (y ∷ s)

insert_means : (c : Call) (e : Entry) (es : List Entry) → some_matches c (insert together e es) ≡ some_matches c (e ∷ es)
unfolding insert
insert_means c e [] = refl
insert_means c e (f ∷ fs) = go (ltb e.number f.number) (eqb e.number f.number) refl (insert_means c e fs)
  where
    m : Entry → Bool
    m x = eqb c.number x.number && matches c x.rules

    go : (a b : Bool) → eqb e.number f.number ≡ b → some_matches c (insert together e fs) ≡ some_matches c (e ∷ fs)
        → some_matches c (cond a (e ∷ (f ∷ fs)) (cond b (record { number = e.number; rules = together e.rules f.rules } ∷ fs) (f ∷ insert together e fs)))
        ≡ some_matches c (e ∷ (f ∷ fs))
    go true b eb ih = refl
    go false true eb ih =
        let s = eqb-true e.number f.number eb in
        rw (matches_together c e.rules f.rules, ← s, ← or_assoc (eqb c.number e.number && matches c e.rules) (eqb c.number e.number && matches c f.rules) (some_matches c fs), and_or)
    go false false eb ih = rw ih (or_swap (eqb c.number f.number && matches c f.rules) (eqb c.number e.number && matches c e.rules) (some_matches c fs))

pub collected_means : (c : Call) (es : List Entry) → some_matches c (collected together es) ≡ some_matches c es
unfolding collected
collected_means c [] = refl
collected_means c (e ∷ es) = insert_means c e (collected together es) ∙ ap (λ (b : Bool). (eqb c.number e.number && matches c e.rules) || b) (collected_means c es)

-- ---- collected numbers ascend

-- every number is above n
abbrev Above : ℕ → List Entry → Type 0
Above n [] = Unit {0}
Above n (e ∷ es) = (n < e.number) × Above n es

-- each is above those in front of it
abbrev Rising : List Entry → Type 0
Rising [] = Unit {0}
Rising (e ∷ es) = Above e.number es × Rising es

above_lower : (m n : ℕ) (es : List Entry) → m < n → Above n es → Above m es
above_lower m n [] h a = tt
above_lower m n (e ∷ es) h a = (omega (arith, a.0), above_lower m n es h a.1)

above_insert : (join : List Rule → List Rule → List Rule) (n : ℕ) (e : Entry) (es : List Entry) → n < e.number → Above n es → Above n (insert join e es)
unfolding insert
above_insert join n e [] h a = (h, tt)
above_insert join n e (f ∷ fs) h a = go (ltb e.number f.number) (eqb e.number f.number) (above_insert join n e fs h a.1)
  where
    go : (x y : Bool) → Above n (insert join e fs)
        → Above n (cond x (e ∷ (f ∷ fs)) (cond y (record { number = e.number; rules = join e.rules f.rules } ∷ fs) (f ∷ insert join e fs)))
    go true y ih = (h, a)
    go false true ih = (h, a.1)
    go false false ih = (a.0, ih)

rising_insert : (join : List Rule → List Rule → List Rule) (e : Entry) (es : List Entry) → Rising es → Rising (insert join e es)
unfolding insert
rising_insert join e [] r = (tt, tt)
rising_insert join e (f ∷ fs) r = go (ltb e.number f.number) refl (eqb e.number f.number) refl (rising_insert join e fs r.1)
  where
    go : (x : Bool) → ltb e.number f.number ≡ x → (y : Bool) → eqb e.number f.number ≡ y → Rising (insert join e fs)
        → Rising (cond x (e ∷ (f ∷ fs)) (cond y (record { number = e.number; rules = join e.rules f.rules } ∷ fs) (f ∷ insert join e fs)))
    go true ex y ey ih = let h = ltb-true _ _ ex in ((h, above_lower e.number f.number fs h r.0), r)
    go false ex true ey ih = let s = eqb-true e.number f.number ey in (rw s r.0, r.1)
    go false ex false ey ih =
        let h : f.number < e.number = omega (arith, ltb-false e.number f.number ex, eqb-false e.number f.number ey) in
        (above_insert join f.number e fs h r.0, ih)

pub rising_collected : (join : List Rule → List Rule → List Rule) (es : List Entry) → Rising (collected join es)
unfolding collected
rising_collected join [] = tt
rising_collected join (e ∷ es) = rising_insert join e (collected join es) (rising_collected join es)

rising_ascending : (es : List Entry) → Rising es → ascending es ≡ true
unfolding ascending
rising_ascending [] r = refl
rising_ascending (e ∷ []) r = refl
rising_ascending (e ∷ (f ∷ es)) r = rw (lt-ltb _ _ r.0.0) (rising_ascending (f ∷ es) r.1)

pub collected_ascending : (join : List Rule → List Rule → List Rule) (es : List Entry) → ascending (collected join es) ≡ true
collected_ascending join es = rising_ascending (collected join es) (rising_collected join es)

-- ---- what the entries of a set whose numbers ascend say of a call

above_none : (c : Call) (n : ℕ) (es : List Entry) → Above n es → c.number ≡ n → some_matches c es ≡ false
above_none c n [] a e = refl
above_none c n (f ∷ es) a e = rw (ne_eqb c.number f.number (λ s. omega (arith, a.0))) (above_none c n es a.1 e)

listed_means : (c : Call) (m d : ℕ) (es : List Entry) → Rising es → listed c m d es ≡ cond (some_matches c es) m d
unfolding listed
listed_means c m d [] r = refl
listed_means c m d (e ∷ es) r = go (eqb c.number e.number) refl (matches c e.rules) (listed_means c m d es r.1)
  where
    go : (x : Bool) → eqb c.number e.number ≡ x → (y : Bool) → listed c m d es ≡ cond (some_matches c es) m d
        → cond x (cond y m d) (listed c m d es) ≡ cond ((x && y) || some_matches c es) m d
    go true ex true ih = refl
    go true ex false ih = rw (above_none c e.number es r.0 (eqb-true _ _ ex))
    go false ex y ih = ih

pub listed_collected : (c : Call) (m d : ℕ) (es : List Entry) → listed c m d (collected together es) ≡ cond (some_matches c es) m d
listed_collected c m d es = listed_means c m d (collected together es) (rising_collected together es) ∙ ap (λ (b : Bool). cond b m d) (collected_means c es)

-- ---- from the lines of a filter to what its rule set means

or_false : (a : Bool) → (a || false) ≡ a
or_false true = refl
or_false false = refl

args_match : (c : Call) (args : Option Rule) → matches c (rules_of_args args) ≡ line_holds c args
unfolding matches any_holds
args_match c none = refl
args_match c (some r) = or_false (all_hold c r)

lines_match : (table : List Slot) (c : Call) (lines : List Line) (es : List Entry) → numbered table lines ≡ some es → some_matches c es ≡ some_line table c lines
unfolding numbered some_line
lines_match table c [] es e = let s : ◌≡◌ {A = List Entry} [] es = cc in rw (← s)
lines_match table c (l ∷ ls) es e =
    let n = then_some (number_for table l.call) _ es e in
    let r = then_some (numbered table ls) _ es n.2 in
    let s : record { number = n.0; rules = rules_of_args l.args } ∷ r.0 ≡ es = (let x = r.2 in cc) in
    ap (λ (q : List Entry). some_matches c q) (sym s) ∙ step n.0 n.1 r.0 (lines_match table c ls r.0 r.1)
  where
    step : (k : ℕ) → number_for table l.call ≡ some k → (rest : List Entry) → some_matches c rest ≡ some_line table c ls
        → ((eqb c.number k && matches c (rules_of_args l.args)) || some_matches c rest)
        ≡ ((is_number c.number (number_for table l.call) && line_holds c l.args) || some_line table c ls)
    step k ek rest ih = rw (ek, args_match c l.args, ih)

-- S4 with S6: the rule set of a filter, its lines collected, means what its lines mean, for every call
pub filter_means : (table : List Slot) (a : Architecture) (native : Bool) (f : Filter) (es : List Entry) → numbered table f.lines ≡ some es
    → (c : Call) → meaning (set_with a native f (collected together es)) c ≡ filter_meaning as_written table a native f c
unfolding meaning filter_meaning guarded
filter_means table a native f es e c =
    rw (listed_collected c f.on_match f.mismatch es, lines_match table c f.lines es e)

-- ---- S4 before S6: rules in turn

-- the rules of a number, and whether it is listed
abbrev rules_for : ℕ → List Entry → List Rule
rules_for n [] = []
rules_for n (e ∷ es) = cond (eqb n e.number) (e.rules ++ rules_for n es) (rules_for n es)

abbrev is_listed : ℕ → List Entry → Bool
is_listed n [] = false
is_listed n (e ∷ es) = eqb n e.number || is_listed n es

insert_rules : (n : ℕ) (e : Entry) (es : List Entry) → rules_for n (insert in_turn e es) ≡ rules_for n (e ∷ es)
unfolding insert
insert_rules n e [] = refl
insert_rules n e (f ∷ fs) = go (ltb e.number f.number) (eqb e.number f.number) refl (insert_rules n e fs)
  where
    go : (a b : Bool) → eqb e.number f.number ≡ b → rules_for n (insert in_turn e fs) ≡ rules_for n (e ∷ fs)
        → rules_for n (cond a (e ∷ (f ∷ fs)) (cond b (record { number = e.number; rules = in_turn e.rules f.rules } ∷ fs) (f ∷ insert in_turn e fs))) ≡ rules_for n (e ∷ (f ∷ fs))
    go true b eb ih = refl
    go false true eb ih = rw (← (eqb-true e.number f.number eb)) (by (eqb n e.number))
      where
        by : (t : Bool) → cond t ((e.rules ++ f.rules) ++ rules_for n fs) (rules_for n fs) ≡ cond t (e.rules ++ cond t (f.rules ++ rules_for n fs) (rules_for n fs)) (cond t (f.rules ++ rules_for n fs) (rules_for n fs))
        by true = rw append_assoc
        by false = refl
    go false false eb ih = rw ih (by (eqb n e.number) refl (eqb n f.number) refl)
      where
        by : (t : Bool) → eqb n e.number ≡ t → (u : Bool) → eqb n f.number ≡ u
            → cond u (f.rules ++ cond t (e.rules ++ rules_for n fs) (rules_for n fs)) (cond t (e.rules ++ rules_for n fs) (rules_for n fs))
            ≡ cond t (e.rules ++ cond u (f.rules ++ rules_for n fs) (rules_for n fs)) (cond u (f.rules ++ rules_for n fs) (rules_for n fs))
        by true et true eu = absurd (eqb-false e.number f.number eb (sym (eqb-true n e.number et) ∙ eqb-true n f.number eu))
        by true et false eu = refl
        by false et true eu = refl
        by false et false eu = refl

insert_listed : (n : ℕ) (e : Entry) (es : List Entry) → is_listed n (insert in_turn e es) ≡ is_listed n (e ∷ es)
unfolding insert
insert_listed n e [] = refl
insert_listed n e (f ∷ fs) = go (ltb e.number f.number) (eqb e.number f.number) refl (insert_listed n e fs)
  where
    go : (a b : Bool) → eqb e.number f.number ≡ b → is_listed n (insert in_turn e fs) ≡ is_listed n (e ∷ fs)
        → is_listed n (cond a (e ∷ (f ∷ fs)) (cond b (record { number = e.number; rules = in_turn e.rules f.rules } ∷ fs) (f ∷ insert in_turn e fs))) ≡ is_listed n (e ∷ (f ∷ fs))
    go true b eb ih = refl
    go false true eb ih = rw (← (eqb-true e.number f.number eb)) (by (eqb n e.number))
      where
        by : (t : Bool) → (t || is_listed n fs) ≡ (t || (t || is_listed n fs))
        by true = refl
        by false = refl
    go false false eb ih = rw ih (or_swap (eqb n f.number) (eqb n e.number) (is_listed n fs))

collected_rules : (n : ℕ) (es : List Entry) → rules_for n (collected in_turn es) ≡ rules_for n es
unfolding collected
collected_rules n [] = refl
collected_rules n (e ∷ es) = insert_rules n e (collected in_turn es) ∙ rw (collected_rules n es)

collected_listed : (n : ℕ) (es : List Entry) → is_listed n (collected in_turn es) ≡ is_listed n es
unfolding collected
collected_listed n [] = refl
collected_listed n (e ∷ es) = insert_listed n e (collected in_turn es) ∙ rw (collected_listed n es)

none_above : (n : ℕ) (es : List Entry) → Above n es → (rules_for n es ≡ []) × (is_listed n es ≡ false)
none_above n [] a = (refl, refl)
none_above n (e ∷ es) a =
    let h = ne_eqb n e.number (λ s. omega (arith, a.0)) in
    let r = none_above n es a.1 in
    (rw (h) r.0, rw (h) r.1)

none_or_lem : (c : Call) (r : List Rule) → matches c r ≡ none_or c r
unfolding matches
none_or_lem c [] = refl
none_or_lem c (x ∷ r) = refl

-- of entries whose numbers ascend, the one of the call's number says whether it matches
rising_says : (c : Call) (es : List Entry) → Rising es → some_matches c es ≡ (is_listed c.number es && none_or c (rules_for c.number es))
rising_says c [] r = refl
rising_says c (e ∷ es) r = go (eqb c.number e.number) refl (rising_says c es r.1)
  where
    go : (t : Bool) → eqb c.number e.number ≡ t → some_matches c es ≡ (is_listed c.number es && none_or c (rules_for c.number es))
        → ((t && matches c e.rules) || some_matches c es) ≡ ((t || is_listed c.number es) && none_or c (cond t (e.rules ++ rules_for c.number es) (rules_for c.number es)))
    go false is ih = ih
    go true is ih =
        let s = eqb-true c.number e.number is in
        let a : Above c.number es = rw s r.0 in
        let n = none_above c.number es a in
        rw (above_none c e.number es r.0 s, n.0, append-nil) (or_false (matches c e.rules) ∙ none_or_lem c e.rules)

lines_rules : (table : List Slot) (n : ℕ) (lines : List Line) (es : List Entry) → numbered table lines ≡ some es
    → (rules_for n es ≡ args_for table n lines) × (is_listed n es ≡ is_named table n lines)
unfolding numbered args_for is_named
lines_rules table n [] es e = let s : ◌≡◌ {A = List Entry} [] es = cc in (rw (← s), rw (← s))
lines_rules table n (l ∷ ls) es e =
    let k = then_some (number_for table l.call) _ es e in
    let r = then_some (numbered table ls) _ es k.2 in
    let s : record { number = k.0; rules = rules_of_args l.args } ∷ r.0 ≡ es = (let x = r.2 in cc) in
    let ih = lines_rules table n ls r.0 r.1 in
    (ap (λ (q : List Entry). rules_for n q) (sym s) ∙ rules k.0 k.1 r.0 ih.0, ap (λ (q : List Entry). is_listed n q) (sym s) ∙ names k.0 k.1 r.0 ih.1)
  where
    rules : (k : ℕ) → number_for table l.call ≡ some k → (rest : List Entry) → rules_for n rest ≡ args_for table n ls
        → cond (eqb n k) (rules_of_args l.args ++ rules_for n rest) (rules_for n rest) ≡ cond (is_number n (number_for table l.call)) (rules_of_args l.args ++ args_for table n ls) (args_for table n ls)
    rules k ek rest ih = rw (ek, ih)

    names : (k : ℕ) → number_for table l.call ≡ some k → (rest : List Entry) → is_listed n rest ≡ is_named table n ls
        → (eqb n k || is_listed n rest) ≡ (is_number n (number_for table l.call) || is_named table n ls)
    names k ek rest ih = rw (ek, ih)

in_turn_says : (table : List Slot) (c : Call) (lines : List Line) (es : List Entry) → numbered table lines ≡ some es → some_matches c (collected in_turn es) ≡ lines_together table c lines
unfolding lines_together
in_turn_says table c lines es e =
    let r = lines_rules table c.number lines es e in
    rising_says c (collected in_turn es) (rising_collected in_turn es) ∙ rw (collected_listed c.number es, collected_rules c.number es, r.0, r.1)

-- S4: the rule set of a filter, its lines collected as upstream does, means what its lines together mean, for every call
pub filter_means_upstream : (table : List Slot) (a : Architecture) (native : Bool) (f : Filter) (es : List Entry) → numbered table f.lines ≡ some es
    → (c : Call) → meaning (set_with a native f (collected in_turn es)) c ≡ filter_meaning as_upstream table a native f c
unfolding meaning filter_meaning guarded
filter_means_upstream table a native f es e c =
    rw (listed_means c f.on_match f.mismatch (collected in_turn es) (rising_collected in_turn es), in_turn_says table c f.lines es e)
