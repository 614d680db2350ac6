-- Calls of the writers one after the other: the theorems of crates/theorems/specs/Written.antt.
use mathlib.Core.Path.{◌≡◌, refl, ap, sym, ◌∙◌}
use mathlib.Core.Bool.{true}
use mathlib.Core.List.{List, [], ◌∷◌, ◌++◌}
use Prim.Native.Nat.{ℕ, ◌+◌, ◌≤◌}
use native.Mathlib.Omega.{arith}
use lib.ListN.{length, length-append, take, length-take}
use borrow.Author.Tests.{le-leb}
use Rattle.definitions.specs.declared.Writer.{Writer}
use Rattle.definitions.specs.RuleSet.{Entry, RuleSet}
use Rattle.definitions.specs.Format.{joined, encode_entry, encode}
use Rattle.definitions.specs.Parts.{last_rules}
use Rattle.definitions.specs.Writers.{RuleAt, no_rule, last_rule, EntryAt, no_entry, last_entry, Holds, state_fits, Made, begun, taken, refused}
use Rattle.theorems.specs.Written.{Spelled, ReadBack, OfTheFormat, Compiling, Fitting, NeverStarted}
use Rattle.theorems.proofs.Words.{length_bytes}
use Rattle.theorems.proofs.Tests.{true_both}
use Rattle.theorems.proofs.RoundTrip.{written_read}
use Rattle.theorems.proofs.NeverOne.{never_one}
use Rattle.theorems.proofs.Faultless.{faultless}
use Rattle.writers.proofs.Codes.{code_zero}
use Rattle.writers.proofs.Sets.{encode_entries, encode_rules, encode_conditions}

-- a refusal's state says of a buffer what the state before it said
told_places : (entries : List Entry) (w : Writer) (code : ℕ) → EntryAt entries w
    → EntryAt entries (record { code = code; end = w.end; entry = w.entry; rule = w.rule })
told_places entries w code (no_entry a b d) = no_entry a b d
told_places entries w code (last_entry front e split spot rule) = last_entry front e split spot rule

told_holds : (rs : RuleSet) (out : List ℕ) (w : Writer) (code : ℕ) → Holds rs out w
    → Holds rs out (record { code = code; end = w.end; entry = w.entry; rule = w.rule })
told_holds rs out w code h = record { form = h.form; fits = h.fits; places = told_places rs.entries w code h.places }

pub made_holds : {rs : RuleSet} {out : List ℕ} {w : Writer} → Made rs out w → Holds rs out w
made_holds (begun a d m known before after r s z named) = s.taken z known named
made_holds (taken part ordered more add rs before after w r made a z same) = a.taken z add same rs (made_holds made)
made_holds (refused part ordered more rs before after w r made a bad) =
    let said = a.refused bad in
    rw (said.0, said.1) (told_holds rs before w r.code (made_holds made))

pub spelled : Spelled
spelled rs out w made = let form = (made_holds made).form in (form.ranged, form.spelled)

pub read_back : ReadBack
read_back rs out w made = let form = (made_holds made).form in rw (← form.spelled) (written_read rs form.ranged)

pub of_the_format : OfTheFormat
of_the_format o rs out w made = never_one o (take w.end out) rs (read_back rs out w made)

pub compiling : Compiling
compiling o rs out w made = faultless o (take w.end out) rs (read_back rs out w made)

-- ---- the state fits

last_rules_lem : (front : List Entry) (e : Entry) → last_rules (front ++ (e ∷ [])) ≡ e.rules
last_rules_lem [] e = refl
last_rules_lem (x ∷ []) e = refl
last_rules_lem (x ∷ (y ∷ ys)) e = last_rules_lem (y ∷ ys) e

module _ (rs : RuleSet) (out : List ℕ) (w : Writer) (h : Holds rs out w) where
  length_set : length (encode rs) ≡ w.end
  length_set = rw h.form.spelled (simp length-take (omega (arith, h.fits)))

  head_fits : 16 ≤ w.end
  head_fits =
      let n = simp (length-append, length_bytes) at (ap length (encode_entries rs)) in
      omega (arith, length_set)

  fitting : w.entry + 8 ≤ w.end → w.rule + 4 ≤ w.end → state_fits w ≡ true
  unfolding state_fits
  fitting entry rule =
      true_both (le-leb 16 w.end head_fits) (true_both (le-leb (w.entry + 8) w.end entry) (le-leb (w.rule + 4) w.end rule))

  rule_fits : (front : List Entry) (e : Entry) → rs.entries ≡ front ++ (e ∷ []) → w.entry ≡ 16 + length (joined encode_entry front)
      → RuleAt e.rules (w.entry + 8) w.rule → state_fits w ≡ true
  rule_fits front e split spot (no_rule a b) =
      let n = simp (length-append, length_bytes) at (ap length (encode_rules rs front e split)) in
      fitting (omega (arith, length_set)) (omega (arith, head_fits))
  rule_fits front e split spot (last_rule rules r cut at) =
      let n = simp (length-append, length_bytes) at (ap length (encode_conditions rs front e rules r split cut)) in
      fitting (omega (arith, length_set)) (omega (arith, length_set))

  held_fits : EntryAt rs.entries w → state_fits w ≡ true
  held_fits (no_entry a b d) = fitting (omega (arith, head_fits)) (omega (arith, head_fits))
  held_fits (last_entry front e split spot rule) = rule_fits front e split spot rule

  none_listed : EntryAt rs.entries w → w.entry ≡ 0 → rs.entries ≡ []
  none_listed (no_entry a b d) z = a
  none_listed (last_entry front e split spot rule) z = absurd (omega arith)

  none_begun : EntryAt rs.entries w → w.rule ≡ 0 → last_rules rs.entries ≡ []
  none_begun (no_entry a b d) z = rw a
  none_begun (last_entry front e split spot (no_rule a b)) z = rw split (last_rules_lem front e ∙ a)
  none_begun (last_entry front e split spot (last_rule rules r cut at)) z = absurd (omega arith)

pub fits : Fitting
fits rs out w made =
    let h = made_holds made in
    (held_fits rs out w h h.places, none_listed rs out w h h.places, none_begun rs out w h h.places)

pub never_started : NeverStarted
never_started part ordered more before after w r a zero =
    let bad : r.code ≡ 0 → ⊥ = λ z. let t = code_zero (sym a.code ∙ z) in omega (arith, t.head) in
    (bad, ap (λ (x : Writer). x.end) (a.refused bad).1 ∙ zero)
