-- Where the format's reader gives something, it is what the total readers say, and ends where they say. So code that is proved by the
-- total readers does what the reader's rule set means.
use mathlib.Core.Path.{◌≡◌, sym}
use mathlib.Core.Bool.{Bool, true, false, cond, ◌&&◌}
use mathlib.Core.List.{List}
use mathlib.Core.Option.{Option, none, some}
use Prim.Native.Nat.{ℕ, zero, suc, ◌+◌, ◌*◌, ◌≤◌}
use native.Mathlib.Omega.{arith}
use lib.Dec.{eqb, leb}
use lib.ListN.{length, get_or}
use Rattle.definitions.specs.declared.Operator.{Operator}
use Rattle.definitions.specs.declared.Operator.TheVariants.{Eq, Ge, Gt, Le, Lt, MaskedEq, Ne}
use Rattle.definitions.specs.declared.Width.{Width}
use Rattle.definitions.specs.declared.Width.TheVariants.{Dword, Qword}
use Rattle.definitions.specs.declared.Condition.{Condition}
use Rattle.definitions.specs.Word.{number_at}
use Rattle.definitions.specs.RuleSet.{Architecture, x86_64, aarch64, riscv64, Rule, Entry, RuleSet}
use Rattle.definitions.specs.Format.{Read, times, unflagged, architecture_of, width_of, operator_of, mask_taken, condition_at, rule_at, entry_at, read}
use Rattle.theorems.proofs.Tests.{check_some, then_some}
use Rattle.theorems.proofs.Reading.{seen}
use Rattle.set_view.specs.Names.{named_architecture, named_width, named_operator}
use Rattle.set_view.specs.Parts.{most_bytes, parts, behind, condition_here, condition_past, conditions_here, rule_here, rule_past, rules_here, rules_past, entry_here, entry_past, entries_here, entries_past, set_here, Readable}

-- what was read is this value, up to this place
abbrev pub Reads : {A : Type 0} → Read A → A → ℕ → Type 0
Reads r a at = (r.value ≡ a) × (r.past ≡ at)

-- ---- names

architecture_by : (a b c : Bool) (w : Architecture) → cond a (some x86_64) (cond b (some aarch64) (cond c (some riscv64) none)) ≡ some w
    → w ≡ cond a x86_64 (cond b aarch64 riscv64)
architecture_by true b c w h = cc
architecture_by false true c w h = cc
architecture_by false false true w h = cc
architecture_by false false false w h = cc

pub architecture_agrees : (n : ℕ) (w : Architecture) → architecture_of n ≡ some w → w ≡ named_architecture n
unfolding architecture_of named_architecture
architecture_agrees n w h = architecture_by (eqb (unflagged n) 1) (eqb (unflagged n) 2) (eqb (unflagged n) 3) w h

width_by : (a b : Bool) (w : Width) → cond a (some Dword) (cond b (some Qword) none) ≡ some w → w ≡ cond a Dword Qword
width_by true b w h = cc
width_by false true w h = cc
width_by false false w h = cc

width_agrees : (n : ℕ) (w : Width) → width_of n ≡ some w → w ≡ named_width n
unfolding width_of named_width
width_agrees n w h = width_by (eqb n 4) (eqb n 8) w h

operator_by : (a b c d e f g : Bool) (o : Operator)
    → cond a (some Eq) (cond b (some Ge) (cond c (some Gt) (cond d (some Le) (cond e (some Lt) (cond f (some MaskedEq) (cond g (some Ne) none)))))) ≡ some o
    → o ≡ cond a Eq (cond b Ge (cond c Gt (cond d Le (cond e Lt (cond f MaskedEq Ne)))))
operator_by true b c d e f g o h = cc
operator_by false true c d e f g o h = cc
operator_by false false true d e f g o h = cc
operator_by false false false true e f g o h = cc
operator_by false false false false true f g o h = cc
operator_by false false false false false true g o h = cc
operator_by false false false false false false true o h = cc
operator_by false false false false false false false o h = cc

operator_agrees : (n : ℕ) (o : Operator) → operator_of n ≡ some o → o ≡ named_operator n
unfolding operator_of named_operator
operator_agrees n o h = operator_by (eqb n 0) (eqb n 1) (eqb n 2) (eqb n 3) (eqb n 4) (eqb n 5) (eqb n 6) o h

-- ---- n parts, whatever they are

parts_agree : {A : Type 0} (f : ℕ → Option (Read A)) (here : ℕ → A) (past : ℕ → ℕ)
    → ((at : ℕ) (r : Read A) → f at ≡ some r → Reads r (here at) (past at))
    → (n at : ℕ) {r : Read (List A)} → times f n at ≡ some r → Reads r (parts here past n at) (behind past n at)
unfolding times parts behind
parts_agree f here past one zero at h = (cc, cc)
parts_agree f here past one (suc n) at {r} h =
    let first = then_some (f at) _ h in
    let more = then_some (times f n first.0.past) _ first.2 in
    let e = one at first.0 first.1 in
    let m = parts_agree f here past one n first.0.past more.1 in
    (cc, cc)

-- ---- conditions, rules, entries

pub condition_agrees : (s : List ℕ) (at : ℕ) (r : Read Condition) → condition_at s at ≡ some r → Reads r (condition_here s at) (at + 24)
unfolding condition_at condition_here
condition_agrees s at r h =
    let w = then_some (width_of (get_or s (at + 1) 0)) _ (check_some (leb (at + 24) (length s) && eqb (number_at 5 s (at + 3)) 0) _ h).1 in
    let o = then_some (operator_of (get_or s (at + 2) 0)) _ w.2 in
    let e = (check_some (mask_taken o.0 (number_at 8 s (at + 16))) _ o.2).1 in
    let x = width_agrees (get_or s (at + 1) 0) w.0 w.1 in
    let y = operator_agrees (get_or s (at + 2) 0) o.0 o.1 in
    (rw (← x, ← y) (cc), cc)

conditions_past : (n at : ℕ) → behind condition_past n at ≡ at + 24 * n
unfolding behind
conditions_past zero at = omega arith
conditions_past (suc n) at = omega (arith, conditions_past n (at + 24))

pub conditions_agree : (s : List ℕ) (n at : ℕ) {r : Read Rule} → times (condition_at s) n at ≡ some r → Reads r (conditions_here s n at) (at + 24 * n)
conditions_agree s n at h = rw (← conditions_past n at) (parts_agree (condition_at s) (condition_here s) condition_past (condition_agrees s) n at h)

pub rule_agrees : (s : List ℕ) (at : ℕ) (r : Read Rule) → rule_at s at ≡ some r → Reads r (rule_here s at) (rule_past s at)
unfolding rule_at
rule_agrees s at r h = conditions_agree s (number_at 4 s at) (at + 4) (check_some (leb (at + 4) (length s)) _ h).1

pub rules_agree : (s : List ℕ) (n at : ℕ) {r : Read (List Rule)} → times (rule_at s) n at ≡ some r → Reads r (rules_here s n at) (rules_past s n at)
rules_agree s n at h = parts_agree (rule_at s) (rule_here s) (rule_past s) (rule_agrees s) n at h

pub entry_agrees : (s : List ℕ) (at : ℕ) (r : Read Entry) → entry_at s at ≡ some r → Reads r (entry_here s at) (entry_past s at)
unfolding entry_at entry_here entry_past
entry_agrees s at r h =
    let rules = then_some (times (rule_at s) (number_at 4 s (at + 4)) (at + 8)) _ (check_some (leb (at + 8) (length s)) _ h).1 in
    let a = rules_agree s (number_at 4 s (at + 4)) (at + 8) rules.1 in
    (rw (← a.0) (cc), cc)

pub entries_agree : (s : List ℕ) (n at : ℕ) {r : Read (List Entry)} → times (entry_at s) n at ≡ some r → Reads r (entries_here s n at) (entries_past s n at)
entries_agree s n at h = parts_agree (entry_at s) (entry_here s) (entry_past s) (entry_agrees s) n at h

-- ---- the whole

pub read_agrees : (s : List ℕ) (rs : RuleSet) → read s ≡ some rs
    → (rs ≡ set_here s) × (16 ≤ length s) × (length s ≤ most_bytes) × (entries_past s (number_at 4 s 12) 16 ≡ length s)
unfolding set_here
read_agrees s rs h =
    let r = seen s rs h in
    let e = entries_agree s (number_at 4 s 12) 16 r.entries in
    let same : rs ≡ set_here s = rw (← architecture_agrees (number_at 4 s 0) rs.architecture r.architecture, ← r.native_only, ← e.0, ← r.mismatch, ← r.on_match) in
    (same, r.long, r.short, sym e.1)

-- bytes from which something was read are a set of the format
pub readable : (s : List ℕ) (rs : RuleSet) → read s ≡ some rs → Readable s
readable s rs h =
    let g = read_agrees s rs h in
    record { reads = rw (← g.0) h; head = g.1; size = g.2; entries = omega (arith, g.3) }
