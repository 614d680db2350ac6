-- The whole set: the format's reader as the code tests it, and what is said of the rule set that it gives, from the sums over its entries.
use mathlib.Core.Path.{◌≡◌, refl, ap, sym, ◌∙◌}
use mathlib.Core.Bool.{Bool, true, false, cond, not, ◌&&◌}
use mathlib.Core.List.{List, [], ◌∷◌}
use mathlib.Core.Option as math
use mathlib.Core.Option.{none, some}
use Prim.Native.Nat.{ℕ, zero, suc, ◌+◌, ◌-◌, ◌≤◌, ◌<◌}
use native.Mathlib.Nat.{add-zero, zero-add}
use native.Mathlib.Omega.{arith}
use lib.Dec.{eqb, leb}
use lib.ListN.{length}
use Rattle.std.specs.Prelude.{Some, None}
use Rattle.std.proofs.lemmas.Option.{same_Some, none-some}
use borrow.Author.Tests.{ne_eqb, eq-eqb, le-leb, lt-leb}
use Rattle.definitions.specs.declared.Fault.{Fault}
use Rattle.definitions.specs.Word.{number_at}
use Rattle.definitions.specs.RuleSet.{Architecture, Entry, RuleSet, guarded, is_action}
use Rattle.definitions.specs.Format.{is_there, Read, then, check, times, native_of, architecture_of, entry_at, read}
use Rattle.definitions.specs.Answer.{placeless, no_fault, unless, entries_faults, set_faults, least_of}
use Rattle.theorems.specs.Length.{head_length, filter_length}
use Rattle.theorems.proofs.Faults.{least_append}
use Rattle.set_view.specs.Names.{named_architecture, guards_by}
use Rattle.set_view.specs.Parts.{head_taken, most_bytes, entry_here, entry_past}
use Rattle.set_view.proofs.Walk.{parts_many}
use Rattle.set_view.proofs.Agree.{architecture_agrees, entries_agree}
use Rattle.judge.specs.declared.Turn.{Turn}
use Rattle.judge.specs.declared.Judged.{Judged}
use Rattle.judge.specs.Walk.{Sum, sum, tells, told, tell_entry, entries_told, turn_of, judged}
use Rattle.judge.proofs.Totals.{entries_count, entries_fault, fitting, entries_fit, around, fits_by}

-- ---- the reader, test by test

abbrev set_with : List ℕ → List Entry → RuleSet
set_with s es =
    record {
      architecture = named_architecture (number_at 4 s 0);
      native_only = native_of (number_at 4 s 0);
      mismatch = number_at 4 s 4;
      on_match = number_at 4 s 8;
      entries = es;
    }

abbrev entries_read : List ℕ → math.Option (Read (List Entry)) → math.Option RuleSet
entries_read s x = then x (λ es. check (eqb es.past (length s)) (some (set_with s es.value)))

read_by : (s : List ℕ) (a b c d : Bool) (x : math.Option (Read (List Entry))) (arch : math.Option Architecture) → ((w : Architecture) → arch ≡ some w → w ≡ named_architecture (number_at 4 s 0))
    → check (a && b && c && d) (then arch (λ w. then x (λ es. check (eqb es.past (length s))
    (some (record { architecture = w; native_only = native_of (number_at 4 s 0); mismatch = number_at 4 s 4; on_match = number_at 4 s 8; entries = es.value })))))
    ≡ check a (check b (check (is_there arch && (c && d)) (entries_read s x)))
read_by s false b c d x arch h = refl
read_by s true false c d x arch h = refl
read_by s true true false d x none h = refl
read_by s true true false d x (some w) h = refl
read_by s true true true false x none h = refl
read_by s true true true false x (some w) h = refl
read_by s true true true true x none h = refl
read_by s true true true true x (some w) h = rw (h w refl)

pub read_is : (s : List ℕ)
    → read s ≡ check (leb (length s) most_bytes) (check (leb 16 (length s)) (check (head_taken s) (entries_read s (times (entry_at s) (number_at 4 s 12) 16))))
unfolding read head_taken
read_is s =
    read_by s (leb (length s) most_bytes) (leb 16 (length s)) (is_action (number_at 4 s 4)) (is_action (number_at 4 s 8)) (times (entry_at s) (number_at 4 s 12) 16)
    (architecture_of (number_at 4 s 0)) (architecture_agrees (number_at 4 s 0))

-- ---- what is said of it

-- in front of the entries: the head and the last return, and whether both actions are one
abbrev pub front : List ℕ → Sum
front s =
    sum (head_length (guards_by (number_at 4 s 0)) (number_at 4 s 12) + 1) 0 0
    (least_of no_fault (unless (not (eqb (number_at 4 s 4) (number_at 4 s 8))) (placeless 3)))

plus_zero : (n : ℕ) → cond (eqb n 0) 0 (0 + n) ≡ n
plus_zero zero = refl
plus_zero (suc n) = rw (ne_eqb (suc n) 0 (omega arith)) (zero-add (suc n))

head_some : (guards : Bool) (n : ℕ) → head_length guards (suc n) ≡ head_length guards 1
unfolding head_length
head_some true n = refl
head_some false n = refl

long_by : (rs : RuleSet) (es : List Entry) → (tells tell_entry 0 es (sum (head_length (guarded rs) (length es) + 1) 0 0 no_fault)).fits ≡ fitting (around rs) es
unfolding tells fitting
long_by rs [] = refl
long_by rs (e ∷ es) =
    rw (head_some (guarded rs) (length es))
    (entries_fit 0 (e ∷ es) (sum (around rs) 0 0 no_fault) ∙ plus_zero (fitting (around rs) (e ∷ es)))

-- the fault so far has no part in what is short enough
fits_alone : (i : ℕ) (es : List Entry) (n k l : ℕ) (f : Fault) → (tells tell_entry i es (sum n k l f)).fits ≡ (tells tell_entry i es (sum n 0 l no_fault)).fits
fits_alone i es n k l f = entries_fit i es (sum n k l f) ∙ sym (entries_fit i es (sum n 0 l no_fault))

judged_with : (s : List ℕ) (es : List Entry) → length es ≡ number_at 4 s 12
    → judged (some (set_with s es))
    ≡ record { fault = (tells tell_entry 0 es (front s)).fault; count = (tells tell_entry 0 es (front s)).count; long = (tells tell_entry 0 es (front s)).fits }
unfolding judged set_faults filter_length guarded guards_by
judged_with s es h =
    let rs = set_with s es in
    let f = least_of no_fault (unless (not (eqb (number_at 4 s 4) (number_at 4 s 8))) (placeless 3)) in
    let n = head_length (guarded rs) (length es) in
    rw (
      least_append no_fault (unless (not (eqb (number_at 4 s 4) (number_at 4 s 8))) (placeless 3)) (entries_faults 0 0 es),
      ← h,
      entries_fault 0 es (sum (n + 1) 0 0 f),
      entries_count 0 es (sum (n + 1) 0 0 f),
      fits_alone 0 es (n + 1) 0 0 f,
      long_by rs es,
      fits_by rs [] es,
      add-zero (around rs),
    )
    (ap (λ (k : ℕ). record { fault = least_of f (entries_faults 0 0 es); count = k; long = fitting (around rs) es }) (omega arith))

-- from what the walk over the entries found
module _ (s : List ℕ) where
  off_by : (x : math.Option (Read (List Entry))) → None ≡ turn_of (told (tells tell_entry 0) x (front s)) → entries_read s x ≡ none
  off_by none p = refl
  off_by (some z) p = absurd (none-some _ p)

  more_by : (t : Turn) (x : math.Option (Read (List Entry))) → Some t ≡ turn_of (told (tells tell_entry 0) x (front s)) → (t.past ≡ length s → ⊥) → entries_read s x ≡ none
  more_by t none p n = refl
  more_by t (some z) p n = let q = ap (λ (z : Turn). z.past) (same_Some t _ p) in rw (ne_eqb z.past (length s) (λ w. n (q ∙ w)))

  all_by : (t : Turn) (x : math.Option (Read (List Entry))) → times (entry_at s) (number_at 4 s 12) 16 ≡ x → Some t ≡ turn_of (told (tells tell_entry 0) x (front s))
      → t.past ≡ length s → judged (entries_read s x) ≡ record { fault = t.fault; count = t.count; long = t.fits }
  all_by t none e p n = absurd (none-some t (sym p))
  all_by t (some z) e p n =
      let same = same_Some t _ p in
      let q = ap (λ (z : Turn). z.past) same in
      let many : length z.value ≡ number_at 4 s 12 = ap length (entries_agree s (number_at 4 s 12) 16 e).0 ∙ parts_many (entry_here s) (entry_past s) (number_at 4 s 12) 16 in
      rw (eq-eqb z.past (length s) (sym q ∙ n)) (judged_with s z.value many ∙ rw same)

  module _ (size : length s ≤ most_bytes) (long : 16 ≤ length s) (head : head_taken s ≡ true) where
    reading : read s ≡ entries_read s (times (entry_at s) (number_at 4 s 12) 16)
    reading = rw (read_is s, le-leb _ _ size, le-leb _ _ long, head)

    from_zero : entries_told s (number_at 4 s 12) (number_at 4 s 12) 16 (front s) ≡ told (tells tell_entry 0) (times (entry_at s) (number_at 4 s 12) 16) (front s)
    from_zero = let z : number_at 4 s 12 - number_at 4 s 12 ≡ 0 = omega arith in rw z

    pub entries_off : None ≡ turn_of (entries_told s (number_at 4 s 12) (number_at 4 s 12) 16 (front s)) → read s ≡ none
    entries_off p = reading ∙ off_by (times (entry_at s) (number_at 4 s 12) 16) (p ∙ ap turn_of from_zero)

    module _ (t : Turn) (p : Some t ≡ turn_of (entries_told s (number_at 4 s 12) (number_at 4 s 12) 16 (front s))) where
      pub entries_more : (t.past ≡ length s → ⊥) → read s ≡ none
      entries_more n = reading ∙ more_by t (times (entry_at s) (number_at 4 s 12) 16) (p ∙ ap turn_of from_zero) n

      pub entries_all : t.past ≡ length s → judged (read s) ≡ record { fault = t.fault; count = t.count; long = t.fits }
      entries_all n = ap judged reading ∙ all_by t (times (entry_at s) (number_at 4 s 12) 16) refl (p ∙ ap turn_of from_zero) n

-- where a test fails, nothing is read
pub too_many : (s : List ℕ) → most_bytes < length s → read s ≡ none
too_many s h = rw (read_is s, lt-leb _ _ h)

pub too_few : (s : List ℕ) → length s ≤ most_bytes → length s < 16 → read s ≡ none
too_few s a h = rw (read_is s, le-leb _ _ a, lt-leb _ _ h)

pub no_head_lem : (s : List ℕ) → length s ≤ most_bytes → 16 ≤ length s → head_taken s ≡ false → read s ≡ none
no_head_lem s a b h = rw (read_is s, le-leb _ _ a, le-leb _ _ b, h)

pub none_said : (s : List ℕ) (r : Judged) → r ≡ judged none → read s ≡ none → (r ≡ judged (read s)) × (r.count ≤ most_bytes)
unfolding judged
none_said s r p e = rw (p, e) (refl, omega arith)
