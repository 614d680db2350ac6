-- Laws of the walk: one turn and the end of a loop over parts of any kind; a rule from its conditions and an entry from its rules; and
-- what the sums over a whole set are.
use mathlib.Core.Path.{◌≡◌, refl, ap, sym, ◌∙◌}
use mathlib.Core.Bool.{Bool, true, false, cond, not, ◌&&◌}
use mathlib.Core.List.{List, [], ◌∷◌}
use mathlib.Core.Option as math
use mathlib.Core.Option.{none, some}
use Prim.Native.Nat.{ℕ, zero, suc, ◌+◌, ◌-◌, ◌*◌, ◌/◌, ◌≤◌, ◌<◌}
use native.Mathlib.Omega.{arith}
use lib.Dec.{eqb, leb, ltb}
use lib.ListN.{length}
use Rattle.std.specs.Prelude.{Some, None}
use Rattle.std.proofs.lemmas.Option.{same_Some, none-some}
use borrow.Author.Tests.{leb-true, leb-false, ltb-true, ltb-false, eqb-true, le-leb, lt-leb, eq-eqb, ne_eqb, le-ltb}
use Rattle.definitions.specs.declared.Fault.{Fault}
use Rattle.definitions.specs.Word.{number_at}
use Rattle.definitions.specs.RuleSet.{Rule, Entry, no_rules}
use Rattle.definitions.specs.Format.{Read, then, times, condition_at, rule_at, entry_at}
use Rattle.definitions.specs.Answer.{fault, nowhere, unless, count_faults, too_many, least_of}
use Rattle.theorems.proofs.Tests.{both_true}
use Rattle.set_view.specs.Parts.{parts, condition_here, rules_here}
use Rattle.set_view.proofs.Walk.{parts_many}
use Rattle.set_view.proofs.Agree.{conditions_agree, rules_agree}
use Rattle.judge.specs.declared.Scan.{Scan}
use Rattle.judge.specs.declared.Turn.{Turn}
use Rattle.judge.specs.Walk.{Sum, sum, total, tells, told, tell_condition, conditions_start, tell_rule, tell_entry, scan_of, Scanned, plain_there, run_fits, entries_told, told_from, Turned, turn_of}

-- ---- a loop over parts, whatever they are

less : (n : ℕ) → suc n - 1 ≡ n
less n = omega arith

module _ {A : Type 0} (tell : ℕ → A → Sum → Sum) (f : ℕ → math.Option (Read A)) where
  pub walk_end : (i n at : ℕ) (x : Sum) → n ≡ 0 → told (tells tell i) (times f n at) x ≡ some (record { value = x; past = at })
  unfolding times tells
  walk_end i n at x e = rw e

  pub walk_stop : (i n at : ℕ) (x : Sum) → (n ≡ 0 → ⊥) → f at ≡ none → told (tells tell i) (times f n at) x ≡ none
  unfolding times
  walk_stop i zero at x h e = absurd (h refl)
  walk_stop i (suc n) at x h e = rw e

  one_more : (i : ℕ) (a : A) (y : math.Option (Read (List A))) (x : Sum)
      → told (tells tell i) (then y (λ more. some (record { value = a ∷ more.value; past = more.past }))) x ≡ told (tells tell (suc i)) y (tell i a x)
  unfolding tells
  one_more i a none x = refl
  one_more i a (some r) x = refl

  walk_on : (i n at : ℕ) (x : Sum) (r : Read A) → (n ≡ 0 → ⊥) → f at ≡ some r
      → told (tells tell i) (times f n at) x ≡ told (tells tell (suc i)) (times f (n - 1) r.past) (tell i r.value x)
  unfolding times
  walk_on i zero at x r h e = absurd (h refl)
  walk_on i (suc n) at x r h e = rw (e, less n) (one_more i r.value (times f n r.past) x)

  -- the last n of all parts
  pub walk_turn : (all n at : ℕ) (x : Sum) (r : Read A) → (n ≡ 0 → ⊥) → n ≤ all → f at ≡ some r
      → told (tells tell (all - n)) (times f n at) x ≡ told (tells tell (all - (n - 1))) (times f (n - 1) r.past) (tell (all - n) r.value x)
  walk_turn all n at x r h l e =
      let i : all - (n - 1) ≡ suc (all - n) = omega arith in
      rw i (walk_on (all - n) n at x r h e)

  -- the loop's turn i, of n
  pub turn_made : (i n at : ℕ) (x : Sum) (r : Read A) → i < n → f at ≡ some r
      → told (tells tell i) (times f (n - i) at) x ≡ told (tells tell (i + 1)) (times f (n - (i + 1)) r.past) (tell i r.value x)
  turn_made i n at x r h e =
      let j : i + 1 ≡ suc i = omega arith in
      let k : n - suc i ≡ n - i - 1 = omega arith in
      rw (j, k) (walk_on i (n - i) at x r (λ z. omega arith) e)

  pub turn_broken : (i n at : ℕ) (x : Sum) → i < n → f at ≡ none → told (tells tell i) (times f (n - i) at) x ≡ none
  turn_broken i n at x h e = walk_stop i (n - i) at x (λ z. omega arith) e

  pub turns_over : (i n at : ℕ) (x : Sum) → n ≤ i → told (tells tell i) (times f (n - i) at) x ≡ some (record { value = x; past = at })
  turns_over i n at x h = walk_end i (n - i) at x (omega arith)

-- ---- what a walk returns

-- it broke off, where nothing is there to be found
pub broken_off : {found : math.Option (Read Sum)} (size : ℕ) → found ≡ none → Scanned found size None
broken_off size e = record { same = sym (ap scan_of e); inside = tt }

-- it came to the end
pub came_through : {found : math.Option (Read Sum)} {r : Read Sum} (size : ℕ) → found ≡ some r → r.past ≤ size → r.value.count ≤ r.past
    → Scanned found size (scan_of (some r))
came_through size e h k = record { same = sym (ap scan_of e); inside = (h, k) }

-- ---- a rule, from its conditions

module _ (e r : ℕ) (x : Sum) where
  rule_by : (s : List ℕ) (n at : ℕ) (y : math.Option (Read Rule)) → times (condition_at s) n at ≡ y
      → scan_of (told (tell_rule e r) y x)
      ≡ scan_of (told (tells (tell_condition e r) 0) y (conditions_start (x.count + 3) (least_of x.fault (count_faults e r n))))
  unfolding tell_rule
  rule_by s n at none h = refl
  rule_by s n at (some z) h =
      let many : length z.value ≡ n = ap (λ (qs : Rule). length qs) (conditions_agree s n at h).0 ∙ parts_many (condition_here s) (λ k. k + 24) n at in
      rw many

  pub rule_from : (s : List ℕ) (at : ℕ) → at + 4 ≤ length s
      → scan_of (told (tell_rule e r) (rule_at s at) x)
      ≡ scan_of (told (tells (tell_condition e r) 0) (times (condition_at s) (number_at 4 s at) (at + 4)) (conditions_start (x.count + 3) (least_of x.fault (count_faults e r (number_at 4 s at)))))
  unfolding rule_at
  rule_from s at room = rw (le-leb (at + 4) (length s) room) (rule_by s (number_at 4 s at) (at + 4) (times (condition_at s) (number_at 4 s at) (at + 4)) refl)

pub rule_short : (s : List ℕ) (at : ℕ) → length s < at + 4 → rule_at s at ≡ none
unfolding rule_at
rule_short s at h = rw (lt-leb (at + 4) (length s) h)

-- a rule that is not there, and one that is
pub rule_stop : (e i : ℕ) (y : math.Option (Read Rule)) (x : Sum) → None ≡ scan_of (told (tell_rule e i) y x) → y ≡ none
rule_stop e i none x p = refl
rule_stop e i (some z) x p = absurd (none-some _ p)

pub rule_there : (e i : ℕ) (y : math.Option (Read Rule)) (x : Sum) (r : Scan) → Some r ≡ scan_of (told (tell_rule e i) y x)
    → (z : Read Rule) × (y ≡ some z) × (r.past ≡ z.past) × (tell_rule e i z.value x ≡ total r.count r.fault)
unfolding tell_rule
rule_there e i none x r p = absurd (none-some r (sym p))
rule_there e i (some z) x r p = let q = same_Some r _ p in (z, refl, ap (λ (z : Scan). z.past) q, rw q)

-- ---- an entry, from its rules

none_here : (s : List ℕ) (n at : ℕ) → no_rules (rules_here s n at) ≡ eqb n 0
unfolding parts
none_here s zero at = refl
none_here s (suc n) at = rw (ne_eqb (suc n) 0 (omega arith))

pub entry_short : (s : List ℕ) (at : ℕ) → length s < at + 8 → entry_at s at ≡ none
unfolding entry_at
entry_short s at h = rw (lt-leb (at + 8) (length s) h)

module _ (s : List ℕ) (at : ℕ) (room : at + 8 ≤ length s) where
  abbrev entry_read : math.Option (Read (List Rule)) → math.Option (Read Entry)
  entry_read y = then y (λ rules. some (record { value = record { number = number_at 4 s at; rules = rules.value }; past = rules.past }))

  entry_read_lem : entry_at s at ≡ entry_read (times (rule_at s) (number_at 4 s (at + 4)) (at + 8))
  unfolding entry_at
  entry_read_lem = rw (le-leb (at + 8) (length s) room)

  -- what its rules are told on top of
  abbrev rules_start : ℕ → Sum → Sum
  rules_start i x = total (x.count + cond (eqb (number_at 4 s (at + 4)) 0) 5 2) (least_of x.fault (unless (leb x.carried (number_at 4 s at)) (fault 2 i nowhere nowhere)))

  module _ (i : ℕ) (x : Sum) where
    stop_by : (y : math.Option (Read (List Rule))) → None ≡ scan_of (told (tells (tell_rule i) 0) y (rules_start i x)) → entry_read y ≡ none
    stop_by none p = refl
    stop_by (some z) p = absurd (none-some _ p)

    pub entry_stop : None ≡ scan_of (told (tells (tell_rule i) 0) (times (rule_at s) (number_at 4 s (at + 4)) (at + 8)) (rules_start i x)) → entry_at s at ≡ none
    entry_stop p = entry_read_lem ∙ stop_by (times (rule_at s) (number_at 4 s (at + 4)) (at + 8)) p

    there_by : (r : Scan) (y : math.Option (Read (List Rule))) → times (rule_at s) (number_at 4 s (at + 4)) (at + 8) ≡ y → Some r ≡ scan_of (told (tells (tell_rule i) 0) y (rules_start i x))
        → (z : Read Entry) × (entry_read y ≡ some z) × (r.past ≡ z.past)
        × (tell_entry i z.value x ≡ sum r.count (number_at 4 s at + 1) (cond (ltb r.count too_many) (suc i) x.fits) r.fault)
    unfolding tell_entry
    there_by r none q p = absurd (none-some r (sym p))
    there_by r (some z) q p =
        let e = same_Some r _ p in
        let empty : no_rules z.value ≡ eqb (number_at 4 s (at + 4)) 0 = ap no_rules (rules_agree s (number_at 4 s (at + 4)) (at + 8) q).0 ∙ none_here s (number_at 4 s (at + 4)) (at + 8) in
        (record { value = record { number = number_at 4 s at; rules = z.value }; past = z.past }, refl, ap (λ (z : Scan). z.past) e, rw (e, empty))

    pub entry_there : (r : Scan) → Some r ≡ scan_of (told (tells (tell_rule i) 0) (times (rule_at s) (number_at 4 s (at + 4)) (at + 8)) (rules_start i x))
        → (z : Read Entry) × (entry_at s at ≡ some z) × (r.past ≡ z.past)
        × (tell_entry i z.value x ≡ sum r.count (number_at 4 s at + 1) (cond (ltb r.count too_many) (suc i) x.fits) r.fault)
    entry_there r p = rw entry_read_lem (there_by r (times (rule_at s) (number_at 4 s (at + 4)) (at + 8)) refl p)

  -- one without rules
  plain_entry : number_at 4 s (at + 4) ≡ 0 → entry_at s at ≡ some (record { value = record { number = number_at 4 s at; rules = [] }; past = at + 8 })
  unfolding times
  plain_entry e = rw (entry_read_lem, e)

pub plain_room : (s : List ℕ) (n at least : ℕ) → plain_there s n at least ≡ true
    → (n ≡ 0 → ⊥) × (at + 8 ≤ length s) × (number_at 4 s (at + 4) ≡ 0) × (leb least (number_at 4 s at) ≡ true)
unfolding plain_there
plain_room s n at least h =
    let some = both_true (not (eqb n 0)) (leb (at + 8) (length s) && (eqb (number_at 4 s (at + 4)) 0 && leb least (number_at 4 s at))) h in
    let there = both_true (leb (at + 8) (length s)) (eqb (number_at 4 s (at + 4)) 0 && leb least (number_at 4 s at)) some.1 in
    let next = both_true (eqb (number_at 4 s (at + 4)) 0) (leb least (number_at 4 s at)) there.1 in
    (λ e. let z : ◌≡◌ {A = ℕ} 0 1 = cc (eq-eqb n 0 e, some.0) in omega arith, leb-true _ _ there.0, eqb-true _ _ next.0, next.1)

next : (all n : ℕ) → (n ≡ 0 → ⊥) → n ≤ all → suc (all - n) ≡ all - (n - 1)
next all n h l = omega arith

pub plain_turn : (s : List ℕ) (all n at c l k : ℕ) (w : Fault) → plain_there s n at l ≡ true → n ≤ all
    → entries_told s all n at (sum c l k w)
    ≡ entries_told s all (n - 1) (at + 8) (sum (c + 5) (number_at 4 s at + 1) (cond (ltb (c + 5) too_many) (all - (n - 1)) k) w)
unfolding tell_entry tells unless least_of
plain_turn s all n at c l k w h m =
    let p = plain_room s n at l h in
    walk_turn tell_entry (entry_at s) all n at (sum c l k w) _ p.0 m (plain_entry s at p.1 p.2) ∙ rw (p.3, next all n p.0 m)

same_either : (t : Bool) (n : ℕ) → cond t n n ≡ n
same_either true n = refl
same_either false n = refl

-- how many are short enough, with one more of a run
pub run_step : (all n left before fitted count : ℕ) → (left ≡ 0 → ⊥) → left ≤ n → n ≤ all → count ≡ before + 5 * (n - left)
    → cond (ltb (count + 5) too_many) (all - (left - 1)) (cond (eqb left n) fitted (run_fits all n left before fitted))
    ≡ cond (eqb (left - 1) n) fitted (run_fits all n (left - 1) before fitted)
unfolding run_fits
run_step all n left before fitted count h l m c =
    rw (ne_eqb (left - 1) n (omega arith)) (go (leb too_many (before + 5)) refl)
  where
    far : leb too_many (before + 5) ≡ false → (u : Bool) → ltb (count + 5) too_many ≡ u
        → cond u (all - (left - 1)) (cond (eqb left n) fitted (cond (leb (n - left) ((4096 - before) / 5)) (all - left) (all - n + (4096 - before) / 5)))
        ≡ cond (leb (n - (left - 1)) ((4096 - before) / 5)) (all - (left - 1)) (all - n + (4096 - before) / 5)
    far e true p =
        let a = leb-false too_many (before + 5) e in
        let b = ltb-true (count + 5) too_many p in
        rw (le-leb (n - (left - 1)) ((4096 - before) / 5) (omega arith))
    far e false p =
        let a = leb-false too_many (before + 5) e in
        let b = ltb-false (count + 5) too_many p in
        rw (lt-leb (n - (left - 1)) ((4096 - before) / 5) (omega arith), ne_eqb left n (omega arith)) (last (leb (n - left) ((4096 - before) / 5)) refl (omega arith))
      where
        last : (w : Bool) → leb (n - left) ((4096 - before) / 5) ≡ w → (4096 - before) / 5 ≤ n - left
            → cond w (all - left) (all - n + (4096 - before) / 5) ≡ all - n + (4096 - before) / 5
        last true q k = let r = leb-true (n - left) ((4096 - before) / 5) q in omega arith
        last false q k = refl

    go : (t : Bool) → leb too_many (before + 5) ≡ t
        → cond (ltb (count + 5) too_many) (all - (left - 1)) (cond (eqb left n) fitted (cond t fitted (cond (leb (n - left) ((4096 - before) / 5)) (all - left) (all - n + (4096 - before) / 5))))
        ≡ cond t fitted (cond (leb (n - (left - 1)) ((4096 - before) / 5)) (all - (left - 1)) (all - n + (4096 - before) / 5))
    go true e =
        let a = leb-true too_many (before + 5) e in
        rw (le-ltb (count + 5) too_many (omega arith)) (same_either (eqb left n) fitted)
    go false e = far e (ltb (count + 5) too_many) refl

-- where the walk over such entries ends elsewhere than it began, it has passed one
pub plain_passed : (s : List ℕ) (n from left at first least : ℕ) → plain_there s n from first ≡ true → plain_there s left at least ≡ false
    → (left ≡ n → least ≡ first) → at + 8 * left ≡ from + 8 * n → left ≤ n → left < n
plain_passed s n from left at first least h stop same spot le = go (leb n left) refl
  where
    go : (t : Bool) → leb n left ≡ t → left < n
    go true e =
        let l : left ≡ n = omega (arith, leb-true n left e) in
        let a : at ≡ from = omega arith in
        let k = same l in
        absurd (let z : ◌≡◌ {A = ℕ} 0 1 = cc in omega arith)
    go false e = leb-false n left e

-- any other
pub entry_turn : (s : List ℕ) (all n at : ℕ) (x : Sum) (z : Read Entry) (r : Scan) → (n ≡ 0 → ⊥) → n ≤ all → entry_at s at ≡ some z → r.past ≡ z.past
    → tell_entry (all - n) z.value x ≡ sum r.count (number_at 4 s at + 1) (cond (ltb r.count too_many) (suc (all - n)) x.fits) r.fault
    → entries_told s all n at x
    ≡ entries_told s all (n - 1) r.past (sum r.count (number_at 4 s at + 1) (cond (ltb r.count too_many) (all - (n - 1)) x.fits) r.fault)
entry_turn s all n at x z r h l e p q = walk_turn tell_entry (entry_at s) all n at x z h l e ∙ rw (q, p, next all n h l)

-- a turn that found nothing
pub turn_none : (s : List ℕ) (all : ℕ) (t : Turn) → (t.left ≡ 0 → ⊥) → entry_at s t.past ≡ none → Turned s all t None
turn_none s all t h e = walk_stop tell_entry (entry_at s) (all - t.left) t.left t.past (sum t.count t.least t.fits t.fault) h e

-- no entry is left
pub turns_done : (s : List ℕ) (all : ℕ) (t : Turn) → t.left ≡ 0 → Some t ≡ turn_of (told_from s all t)
turns_done s all t e =
    rw (walk_end tell_entry (entry_at s) (all - t.left) t.left t.past (sum t.count t.least t.fits t.fault) e)
    (ap (λ (n : ℕ). Some (record { left = n; least = t.least; past = t.past; count = t.count; fits = t.fits; fault = t.fault })) e)
