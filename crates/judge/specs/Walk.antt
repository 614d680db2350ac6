-- What a walk over a part of a rule set's bytes has to find, said by what the format's reader gives there: instructions counted and faults
-- noted on top of what was found before, so that a loop's invariant is one equation. Each kind of part says what it adds; all else is
-- the same for all.
use Rattle.std.specs.Prelude.{ℕ, suc, ◌+◌, ◌-◌, ◌/◌, ◌≤◌, ◌<◌, ◌≡◌, Bool, cond, not, ◌&&◌, List, [], ◌∷◌, eqb, leb, ltb, length, Option, Some, None, IfSome, MatchOption}
use Rattle.std.proofs.Math.Option as math
use Rattle.std.proofs.Math.Option.{none, some}
use Rattle.definitions.specs.declared.Condition.{Condition}
use Rattle.definitions.specs.declared.Fault.{Fault}
use Rattle.definitions.specs.Word.{number_at}
use Rattle.definitions.specs.RuleSet.{Rule, Entry, RuleSet, no_rules}
use Rattle.definitions.specs.Emitted.{step_code, step_distance}
use Rattle.definitions.specs.Format.{Read, times, entry_at}
use Rattle.definitions.specs.Answer.{fault, nowhere, placeless, unless, condition_faults, count_faults, too_many, too_long, least_of, refusal}
use Rattle.theorems.specs.Length.{filter_length}
use Rattle.set_view.specs.Parts.{most_bytes}
use Rattle.judge.specs.declared.Scan.{Scan}
use Rattle.judge.specs.declared.Turn.{Turn}
use Rattle.judge.specs.declared.Judged.{Judged}

-- ---- what is found on the way

-- instructions, what the next part has to know (of a condition the distance behind it, of an entry the least number that it may have),
-- how many entries are short enough, and the least fault
pub record Sum : Type 0 where
  pub count : ℕ
  pub carried : ℕ
  pub fits : ℕ
  pub fault : Fault

abbrev pub sum : ℕ → ℕ → ℕ → Fault → Sum
sum n carried fits f = record { count = n; carried = carried; fits = fits; fault = f }

-- of rules nothing is carried
abbrev pub total : ℕ → Fault → Sum
total n f = sum n 0 0 f

-- parts, one after the other, from the i-th on
unfoldable pub tells : {A : Type 0} → (ℕ → A → Sum → Sum) → ℕ → List A → Sum → Sum
tells tell i [] x = x
tells tell i (a ∷ others) x = tells tell (suc i) others (tell i a x)

-- what was read, and is told
abbrev pub told : {A : Type 0} → (A → Sum → Sum) → math.Option (Read A) → Sum → math.Option (Read Sum)
told tell none x = none
told tell (some r) x = some (record { value = tell r.value x; past = r.past })

-- ---- what each kind of part adds

unfoldable pub tell_condition : ℕ → ℕ → ℕ → Condition → Sum → Sum
tell_condition e r c q x =
    sum (x.count + length (step_code q x.carried)) (step_distance q x.carried) 0 (least_of x.fault (condition_faults e r c q))

-- in front of a rule's conditions, the distance is 1
abbrev pub conditions_start : ℕ → Fault → Sum
conditions_start n f = sum n 1 0 f

-- a rule has two jumps and a return
unfoldable pub tell_rule : ℕ → ℕ → Rule → Sum → Sum
tell_rule e r qs x =
    let y : Sum = tells (tell_condition e r) 0 qs (conditions_start (x.count + 3) (least_of x.fault (count_faults e r (length qs)))) in
    total y.count y.fault

-- an entry has a comparison and a return, and three instructions where it has no rules
unfoldable pub tell_entry : ℕ → Entry → Sum → Sum
tell_entry i e x =
    let y : Sum = tells (tell_rule i) 0 e.rules (total (x.count + cond (no_rules e.rules) 5 2) (least_of x.fault (unless (leb x.carried e.number) (fault 2 i nowhere nowhere)))) in
    sum y.count (e.number + 1) (cond (ltb y.count too_many) (suc i) x.fits) y.fault

-- ---- what the walks return

-- None exactly where the format's reader has none
abbrev pub scan_of : math.Option (Read Sum) → Option Scan
scan_of none = None
scan_of (some r) = Some (record { past = r.past; count = r.value.count; fault = r.value.fault })

-- a place in a set, with no more instructions in front of it than bytes
abbrev pub Inside : List ℕ → ℕ → ℕ → Type 0
Inside s past count = (past ≤ length s) × (length s ≤ most_bytes) × (count ≤ past)

-- in so many bytes: there are no more instructions than bytes
pub record Scanned (found : math.Option (Read Sum)) (size : ℕ) (r : Option Scan) : Type 0 where
  pub same : r ≡ scan_of found
  pub inside : IfSome r (λ x. (x.past ≤ size) × (x.count ≤ x.past))

-- whether one of n entries is left at a place, without rules and with a number that may come next
unfoldable pub plain_there : List ℕ → ℕ → ℕ → ℕ → Bool
plain_there s n at least =
    not (eqb n 0) && (leb (at + 8) (length s) && (eqb (number_at 4 s (at + 4)) 0 && leb least (number_at 4 s at)))

-- how many entries are short enough behind a run of entries without rules, five instructions each
unfoldable pub run_fits : ℕ → ℕ → ℕ → ℕ → ℕ → ℕ
run_fits all n left before fitted =
    cond (leb too_many (before + 5)) fitted
    (cond (leb (n - left) ((4096 - before) / 5)) (all - left) (all - n + (4096 - before) / 5))

-- the last n of so many entries, from a place
abbrev pub entries_told : List ℕ → ℕ → ℕ → ℕ → Sum → math.Option (Read Sum)
entries_told s all n at = told (tells tell_entry (all - n)) (times (entry_at s) n at)

-- the entries that are left, from what was found up to them
abbrev pub told_from : List ℕ → ℕ → Turn → math.Option (Read Sum)
told_from s all t = entries_told s all t.left t.past (sum t.count t.least t.fits t.fault)

-- a turn led from t to r: what is left then, told on top of what was found, is what was left before
pub record Stepped (s : List ℕ) (all : ℕ) (t r : Turn) : Type 0 where
  pub same : told_from s all t ≡ told_from s all r
  pub inside : (r.past ≤ length s) × (r.count ≤ r.past)
  pub fewer : r.left < t.left

-- or it broke off, where the format's reader has none
abbrev pub Turned : List ℕ → ℕ → Turn → Option Turn → Type 0
Turned s all t r = MatchOption r (told_from s all t ≡ none) (Stepped s all t)

-- all entries
abbrev pub turn_of : math.Option (Read Sum) → Option Turn
turn_of none = None
turn_of (some r) = Some (record { left = 0; least = r.value.carried; past = r.past; count = r.value.count; fits = r.value.fits; fault = r.value.fault })

-- what is said of a set, by the rule set that is read from it
unfoldable pub judged : math.Option RuleSet → Judged
judged none = record { fault = placeless 1; count = 0; long = 0 }
judged (some rs) = record { fault = refusal rs; count = filter_length rs; long = too_long rs }
