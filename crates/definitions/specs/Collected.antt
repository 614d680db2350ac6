-- What filters by name mean: a rule set for each, and the byte form of them all.
use Rattle.std.specs.Prelude.{ℕ, Bool, true, false, cond, not, ◌&&◌, ◌||◌, List, [], ◌∷◌, ◌++◌, eqb, ltb, length}
use Rattle.std.proofs.Math.Option.{Option, none, some}
use Rattle.definitions.specs.Word.{bytes_of}
use Rattle.definitions.specs.Machine.{Call}
use Rattle.definitions.specs.RuleSet.{Architecture, architecture_word, Rule, Entry, RuleSet, kill_process, guarded, in_second_table, all_hold, any_holds}
use Rattle.definitions.specs.Format.{then, check, encode}
use Rattle.definitions.specs.Answer.{rules_filled, indices_taken, widths_fit}
use Rattle.definitions.specs.JsonForm.{Line, Filter}
use Rattle.definitions.specs.CallNames.{Slot, number_for}

-- ---- lines with numbers for names, in the order of the text: with no rules where a line has no args, else with one

abbrev pub rules_of_args : Option Rule → List Rule
rules_of_args none = []
rules_of_args (some r) = r ∷ []

unfoldable pub numbered : List Slot → List Line → Option (List Entry)
numbered table [] = some []
numbered table (l ∷ ls) =
    then (number_for table l.call) (λ n. then (numbered table ls) (λ es. some (record { number = n; rules = rules_of_args l.args } ∷ es)))

-- ---- collecting: one entry for a number. Two ways to put the rules of its lines together:
-- as upstream does (S4): those of all lines, in their order, so that a line without args adds nothing where another line of the call has args;
-- as the lines are written (S6): none, so that the call always matches, if a line has none.

abbrev pub in_turn : List Rule → List Rule → List Rule
in_turn rs ss = rs ++ ss

abbrev pub together : List Rule → List Rule → List Rule
together [] ss = []
together (r ∷ rs) [] = []
together (r ∷ rs) (s ∷ ss) = (r ∷ rs) ++ (s ∷ ss)

unfoldable pub insert : (List Rule → List Rule → List Rule) → Entry → List Entry → List Entry
insert join e [] = e ∷ []
insert join e (f ∷ fs) =
    let further : List Entry = f ∷ insert join e fs in
    cond (ltb e.number f.number) (e ∷ (f ∷ fs))
    (cond (eqb e.number f.number) (record { number = e.number; rules = join e.rules f.rules } ∷ fs) further)

unfoldable pub collected : (List Rule → List Rule → List Rule) → List Entry → List Entry
collected join [] = []
collected join (e ∷ es) = insert join e (collected join es)

-- ---- the rule set of a filter

abbrev pub set_with : Architecture → Bool → Filter → List Entry → RuleSet
set_with a native f es = record { architecture = a; native_only = native; mismatch = f.mismatch; on_match = f.on_match; entries = es }

-- What is refused in any line is refused, also where another line makes its call match whatever its arguments.
unfoldable pub taken : RuleSet → Bool
taken rs = not (eqb rs.mismatch rs.on_match) && (rules_filled rs && (indices_taken rs && widths_fit rs))

unfoldable pub set_of : (List Rule → List Rule → List Rule) → List Slot → Architecture → Bool → Filter → Option RuleSet
set_of join table a native f =
    then (numbered table f.lines) (λ es. check (taken (set_with a native f es)) (some (set_with a native f (collected join es))))

-- ---- what a filter means, straight from its lines

abbrev pub line_holds : Call → Option Rule → Bool
line_holds c none = true
line_holds c (some r) = all_hold c r

abbrev pub is_number : ℕ → Option ℕ → Bool
is_number n none = false
is_number n (some m) = eqb n m

-- with S6: a call matches if a line for it has no args, or args that all hold
unfoldable pub some_line : List Slot → Call → List Line → Bool
some_line table c [] = false
some_line table c (l ∷ ls) = (is_number c.number (number_for table l.call) && line_holds c l.args) || some_line table c ls

-- before S6: a call matches if lines name it, and either none of them has args, or one has args that all hold
unfoldable pub args_for : List Slot → ℕ → List Line → List Rule
args_for table n [] = []
args_for table n (l ∷ ls) = cond (is_number n (number_for table l.call)) (rules_of_args l.args ++ args_for table n ls) (args_for table n ls)

unfoldable pub is_named : List Slot → ℕ → List Line → Bool
is_named table n [] = false
is_named table n (l ∷ ls) = is_number n (number_for table l.call) || is_named table n ls

abbrev pub none_or : Call → List Rule → Bool
none_or c [] = true
none_or c (r ∷ rs) = any_holds c (r ∷ rs)

unfoldable pub lines_together : List Slot → Call → List Line → Bool
lines_together table c ls = is_named table c.number ls && none_or c (args_for table c.number ls)

-- a way to put rules together, with what lines then say of a call: the change S6 is that `now` becomes `as_written`
pub record Way : Type 0 where
  pub join : List Rule → List Rule → List Rule
  pub matching : List Slot → Call → List Line → Bool

abbrev pub as_upstream : Way
as_upstream = record { join = in_turn; matching = lines_together }

abbrev pub as_written : Way
as_written = record { join = together; matching = some_line }

abbrev pub now : Way
now = as_upstream

unfoldable pub filter_meaning : Way → List Slot → Architecture → Bool → Filter → Call → ℕ
filter_meaning way table a native f c =
    cond (eqb c.architecture (architecture_word a))
    (cond (guarded (set_with a native f []) && in_second_table c.number) kill_process (cond (way.matching table c f.lines) f.on_match f.mismatch))
    kill_process

-- ---- the byte form of named sets: of each the length of its name (4) and of its set (4), its name, its set

pub record NamedSet : Type 0 where
  pub name : List ℕ
  pub set : RuleSet

unfoldable pub encode_named : NamedSet → List ℕ
encode_named s = bytes_of 4 (length s.name) ++ (bytes_of 4 (length (encode s.set)) ++ (s.name ++ encode s.set))

unfoldable pub sets_of : (List Rule → List Rule → List Rule) → List Slot → Architecture → Bool → List Filter → Option (List NamedSet)
sets_of join table a native [] = some []
sets_of join table a native (f ∷ fs) =
    then (set_of join table a native f) (λ rs. then (sets_of join table a native fs) (λ sets. some (record { name = f.name; set = rs } ∷ sets)))
