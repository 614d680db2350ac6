-- The judges of the reader refuse exactly the filters of which no rule set is made, so that the reader gives filters exactly where the text means
-- sets. Assumes nothing.
use mathlib.Core.Path.{◌≡◌, refl, ap, sym, ◌∙◌}
use mathlib.Core.Bool.{Bool, true, false, not, ◌&&◌}
use mathlib.Core.List.{List, [], ◌∷◌}
use mathlib.Core.Option.{Option, none, some}
use Prim.Native.Nat.{ℕ}
use lib.Dec.{eqb}
use Rattle.definitions.specs.RuleSet.{Architecture, Rule, Entry, RuleSet}
use Rattle.definitions.specs.Format.{then, check}
use Rattle.definitions.specs.Answer.{all, has_conditions, index_taken, fits_width}
use Rattle.definitions.specs.JsonForm.{Line, Filter, filters_of}
use Rattle.definitions.specs.Json.{Json, Text}
use Rattle.definitions.specs.CallNames.{Slot, number_for}
use Rattle.definitions.specs.Collected.{rules_of_args, numbered, collected, set_with, taken, set_of, sets_of, NamedSet}
use Rattle.definitions.specs.JsonReader.{got}
use Rattle.definitions.specs.FormReader.{is_some, judges_of, read_filters}
use Rattle.json_theorems.proofs.Tests.{false_not_true}
use Rattle.json_theorems.proofs.Objects.{every, ok_condition, ok_args, ok_line, ok_filter}
use Rattle.json_theorems.proofs.Whole.{front_sound, front_complete}

some_same : {A : Type 0} {a b : A} → some a ≡ some b → a ≡ b
some_same e = cc

and_false : (a : Bool) → (a && false) ≡ false
and_false true = refl
and_false false = refl

and_comm : (a b : Bool) → (a && b) ≡ (b && a)
and_comm true true = refl
and_comm true false = refl
and_comm false b = sym (and_false b)

and_true : (a : Bool) → (a && true) ≡ a
and_true true = refl
and_true false = refl

two_each : (i w is ws : Bool) → ((i && w) && (is && ws)) ≡ ((i && is) && (w && ws))
two_each true true is ws = refl
two_each true false is ws = sym (and_false is)
two_each false w is ws = refl

conditions_split : (table : List Slot) (r : Rule) → every (ok_condition (judges_of table)) r ≡ (all index_taken r && all fits_width r)
conditions_split table [] = refl
conditions_split table (c ∷ r) = ap (λ (b : Bool). ok_condition (judges_of table) c && b) (conditions_split table r) ∙ two_each (index_taken c) (fits_width c) (all index_taken r) (all fits_width r)

-- what entries pass
abbrev Filled : List Entry → Bool
Filled es = all (λ (e : Entry). all has_conditions e.rules) es

abbrev Indexed : List Entry → Bool
Indexed es = all (λ (e : Entry). all (all index_taken) e.rules) es

abbrev Fitting : List Entry → Bool
Fitting es = all (λ (e : Entry). all (all fits_width) e.rules) es

abbrev Passed : List Entry → Bool
Passed es = Filled es && (Indexed es && Fitting es)

three_each : (f i w fs is ws : Bool) → (((i && w) && f) && (fs && (is && ws))) ≡ (((f && true) && fs) && (((i && true) && is) && ((w && true) && ws)))
three_each true true true fs is ws = refl
three_each true true false fs is ws = sym (rw (and_false is) (and_false fs))
three_each true false w fs is ws = sym (and_false fs)
three_each false true true fs is ws = refl
three_each false true false fs is ws = refl
three_each false false w fs is ws = refl

args_pass : (table : List Slot) (n : ℕ) (args : Option Rule) (es : List Entry)
    → (ok_args (judges_of table) args && Passed es) ≡ Passed (record { number = n; rules = rules_of_args args } ∷ es)
args_pass table n none es = refl
args_pass table n (some r) es =
    ap (λ (b : Bool). (b && has_conditions r) && Passed es) (conditions_split table r)
    ∙ three_each (has_conditions r) (all index_taken r) (all fits_width r) (Filled es) (Indexed es) (Fitting es)

abbrev passed_of : Option (List Entry) → Bool
passed_of none = false
passed_of (some es) = Passed es

lines_pass : (table : List Slot) (lines : List Line) → every (ok_line (judges_of table)) lines ≡ passed_of (numbered table lines)
unfolding numbered
lines_pass table [] = refl
lines_pass table (l ∷ ls) = rw (lines_pass table ls) (go (number_for table l.call) (numbered table ls))
  where
    go : (o : Option ℕ) (p : Option (List Entry)) → ((is_some o && ok_args (judges_of table) l.args) && passed_of p)
        ≡ passed_of (then o (λ n. then p (λ es. some (record { number = n; rules = rules_of_args l.args } ∷ es))))
    go none p = refl
    go (some n) none = and_false (ok_args (judges_of table) l.args)
    go (some n) (some es) = args_pass table n l.args es

-- a filter is taken exactly if a rule set is made of it
pub filter_taken : (join : List Rule → List Rule → List Rule) (table : List Slot) (a : Architecture) (native : Bool) (f : Filter) → ok_filter (judges_of table) f ≡ is_some (set_of join table a native f)
unfolding set_of taken
filter_taken join table a native f = rw (lines_pass table f.lines) (go (numbered table f.lines))
  where
    by : (d p : Bool) (rs : RuleSet) → (p && d) ≡ is_some (check (d && p) (some rs))
    by true true rs = refl
    by true false rs = refl
    by false p rs = and_false p

    go : (o : Option (List Entry)) → (passed_of o && not (eqb f.mismatch f.on_match)) ≡ is_some (then o (λ es. check (taken (set_with a native f es)) (some (set_with a native f (collected join es)))))
    go none = refl
    go (some es) = by (not (eqb f.mismatch f.on_match)) (Passed es) (set_with a native f (collected join es))

pub filters_taken : (join : List Rule → List Rule → List Rule) (table : List Slot) (a : Architecture) (native : Bool) (fs : List Filter) → every (ok_filter (judges_of table)) fs ≡ is_some (sets_of join table a native fs)
unfolding sets_of
filters_taken join table a native [] = refl
filters_taken join table a native (f ∷ fs) = rw (filter_taken join table a native f, filters_taken join table a native fs) (go (set_of join table a native f) (sets_of join table a native fs))
  where
    go : (o : Option RuleSet) (p : Option (List NamedSet)) → (is_some o && is_some p) ≡ is_some (then o (λ rs. then p (λ sets. some (record { name = f.name; set = rs } ∷ sets))))
    go none p = refl
    go (some rs) none = refl
    go (some rs) (some sets) = refl

-- ---- front, to the sets

pub record Sets (join : List Rule → List Rule → List Rule) (table : List Slot) (a : Architecture) (native : Bool) (t : List ℕ) (fs : List Filter) (sets : List NamedSet) : Type 0 where
  pub is : Json
  pub written : Text t is
  pub form : filters_of is ≡ some fs
  pub made : sets_of join table a native fs ≡ some sets

is_some_lem : {A : Type 0} (o : Option A) → is_some o ≡ true → (a : A) × (o ≡ some a)
is_some_lem none e = absurd (false_not_true e)
is_some_lem (some a) e = (a, refl)

-- no fault: the text means sets
pub sets_sound : (join : List Rule → List Rule → List Rule) (table : List Slot) (a : Architecture) (native : Bool) (t : List ℕ) (fs : List Filter) (rest : List ℕ) → read_filters (judges_of table) t ≡ got fs rest
    → (sets : List NamedSet) × Sets join table a native t fs sets
sets_sound join table a native t fs rest e =
    let f = front_sound (judges_of table) t fs rest e in
    let s = is_some_lem (sets_of join table a native fs) (sym (filters_taken join table a native fs) ∙ f.taken) in
    (s.0, record { is = f.is; written = f.written; form = f.form; made = s.1 })

-- the text means sets: no fault
pub sets_complete : (join : List Rule → List Rule → List Rule) (table : List Slot) (a : Architecture) (native : Bool) (t : List ℕ) (fs : List Filter) (sets : List NamedSet) → Sets join table a native t fs sets
    → read_filters (judges_of table) t ≡ got fs []
sets_complete join table a native t fs sets s =
    front_complete (judges_of table) t fs (record { is = s.is; written = s.written; form = s.form; taken = filters_taken join table a native fs ∙ ap is_some s.made })
