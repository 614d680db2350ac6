-- What the format's reader has seen in bytes from which it read a rule set, part by part.
use mathlib.Core.Path.{◌≡◌, refl, ap, ◌∙◌}
use mathlib.Core.Bool.{true, ◌&&◌}
use mathlib.Core.List.{List}
use mathlib.Core.Option.{some}
use Prim.Native.Nat.{ℕ, ◌^◌, ◌≤◌}
use lib.Dec.{eqb, leb}
use lib.ListN.{length}
use borrow.Author.Tests.{eqb-true, leb-true}
use Rattle.definitions.specs.Word.{number_at}
use Rattle.definitions.specs.RuleSet.{RuleSet, is_action}
use Rattle.definitions.specs.Format.{native_of, architecture_of, times, entry_at, read}
use Rattle.theorems.proofs.Tests.{both_true, then_some, check_some, some_same}

pub record Seen (s : List ℕ) (rs : RuleSet) : Type 0 where
  pub long : 16 ≤ length s
  pub short : length s ≤ 2 ^ 20
  pub architecture : architecture_of (number_at 4 s 0) ≡ some rs.architecture
  pub native_only : rs.native_only ≡ native_of (number_at 4 s 0)
  pub mismatch : rs.mismatch ≡ number_at 4 s 4
  pub on_match : rs.on_match ≡ number_at 4 s 8
  pub mismatch_known : is_action (number_at 4 s 4) ≡ true
  pub on_match_known : is_action (number_at 4 s 8) ≡ true
  pub entries : times (entry_at s) (number_at 4 s 12) 16 ≡ some (record { value = rs.entries; past = length s })

pub seen : (s : List ℕ) (rs : RuleSet) → read s ≡ some rs → Seen s rs
unfolding read
seen s rs h =
    let a = check_some (leb (length s) (2 ^ 20) && leb 16 (length s) && is_action (number_at 4 s 4) && is_action (number_at 4 s 8)) _ h in
    let t3 = both_true _ (is_action (number_at 4 s 8)) a.0 in
    let t2 = both_true _ (is_action (number_at 4 s 4)) t3.0 in
    let t1 = both_true (leb (length s) (2 ^ 20)) (leb 16 (length s)) t2.0 in
    let w = then_some (architecture_of (number_at 4 s 0)) _ a.1 in
    let es = then_some (times (entry_at s) (number_at 4 s 12) 16) _ w.2 in
    let end = check_some (eqb es.0.past (length s)) _ es.2 in
    let last = eqb-true es.0.past (length s) end.0 in
    rw (← some_same end.1)
    (record {
      long = leb-true 16 (length s) t1.1;
      short = leb-true (length s) (2 ^ 20) t1.0;
      architecture = w.1;
      native_only = refl;
      mismatch = refl;
      on_match = refl;
      mismatch_known = t2.1;
      on_match_known = t3.1;
      entries = es.1 ∙ ap (λ past. some (record { value = es.0.value; past = past })) last;
    })
