-- A line's args: null, or conditions, of which there is one at least. Assumes nothing.
use mathlib.Core.Path.{◌≡◌, refl, ap, sym, subst, ◌∙◌}
use mathlib.Core.Bool.{Bool, true, false, cond, not}
use mathlib.Core.List.{List}
use mathlib.Core.Option.{Option, none, some}
use Rattle.std.specs.Prelude.{Some}
use Prim.Native.Nat.{ℕ, ◌≤◌, ◌<◌}
use native.Mathlib.Omega.{arith}
use lib.Dec.{eqb}
use lib.ListN.{length, drop}
use borrow.Author.Tests.{eq-eqb, ne_eqb}
use Rattle.definitions.specs.Json.{ascii, Json, null}
use Rattle.definitions.specs.JsonReader.{Got, got, stop, follow, first, literal_at}
use Rattle.definitions.specs.RuleSet.{Rule}
use Rattle.definitions.specs.FormReader.{string_there, list_there, condition_there, judged, answered, asked, empty_args, null_or, Judges, judges_of}
use Rattle.definitions.specs.Answer.{has_conditions}
use Rattle.definitions.specs.CallNames.{Slot}
use Rattle.json_scan.specs.Scan.{Either, Tells}
use Rattle.json_scan.proofs.Telling.{came, handed_on}
use Rattle.json_lines.specs.Lines.{args_there, Conditions, ArgsOf}
use Rattle.json_lines.proofs.Steps.{tells_got, tells_stop}

null_is : {A : Type 0} (r : List ℕ → Got A) (l : List ℕ) → true ≡ eqb (first l) 0x6e → null_or r l ≡ follow (literal_at (ascii "null") null l) (λ v rest. got none rest)
unfolding null_or
null_is r l e = rw (← e)

else_is : {A : Type 0} (r : List ℕ → Got A) (l : List ℕ) → false ≡ eqb (first l) 0x6e → null_or r l ≡ follow (r l) (λ a rest. got (some a) rest)
unfolding null_or
else_is r l e = rw (← e)

pub args_null : {text : List ℕ} {at code past : ℕ} {Is : Option (List ℕ) → Type 0} {Is' : Option Rule → Type 0} (j : Judges) → true ≡ eqb (first (drop at text)) 0x6e
    → Tells text at Is (null_or string_there (drop at text)) code past → Is' none → Tells text at Is' (args_there j (drop at text)) code past
unfolding args_there
args_null {text = text} {at} {code} {past} {Is} {Is'} j e told is =
    rw (null_is (judged (λ r. asked (j.filled r) empty_args r) (list_there (condition_there j))) (drop at text) e)
    (record { tells = go (literal_at (ascii "null") null (drop at text)) told'.tells })
  where
    told' : Tells {A = Option (List ℕ)} text at Is (follow (literal_at (ascii "null") null (drop at text)) (λ v rest. got none rest)) code past
    told' = subst (λ (g : Got (Option (List ℕ))). Tells text at Is g code past) (null_is string_there (drop at text) e) told

    go : (g : Got Json) → Either text at Is (follow {B = Option (List ℕ)} g (λ v rest. got none rest)) code past
        → Either text at Is' (follow g (λ v rest. got none rest)) code past
    go (got v rest) s = record { fine = s.fine; on = s.on; place = s.place; value = is }
    go (stop k rest) s = s

args_is : (slots : List Slot) (l : List ℕ) → false ≡ eqb (first l) 0x6e
    → args_there (judges_of slots) l ≡ follow (follow (list_there (condition_there (judges_of slots)) l) (λ r rest. answered (asked (has_conditions r) empty_args r) l rest)) (λ r rest. got (some r) rest)
unfolding args_there judged
args_is slots l e = else_is (judged (λ r. asked ((judges_of slots).filled r) empty_args r) (list_there (condition_there (judges_of slots)))) l e

module _ (slots : List Slot) {text : List ℕ} {at code past : ℕ} where
  pub args_stopped : false ≡ eqb (first (drop at text)) 0x6e → {Is : Rule → Type 0} → Tells text at Is (list_there (condition_there (judges_of slots)) (drop at text)) code past
      → {Is' : Option Rule → Type 0} → (code ≡ 0 → ⊥) → Tells text at Is' (args_there (judges_of slots) (drop at text)) code past
  args_stopped e told h = rw (args_is slots (drop at text) e) (handed_on {from = at} {Is = λ q. Unit {0}} _ (handed_on _ told h) h)

  module _ (e : false ≡ eqb (first (drop at text)) 0x6e) {raw₀ raw : List ℕ} {spot count : ℕ} (told : Tells text at (λ q. Conditions raw₀ raw spot count q) (list_there (condition_there (judges_of slots)) (drop at text)) code past)
      (z : code ≡ 0) where
    judged_is : (b : Bool) → has_conditions (came told z).part ≡ b
        → args_there (judges_of slots) (drop at text) ≡ cond b (got (some (came told z).part) (came told z).rest) (stop empty_args (drop at text))
    judged_is b f = args_is slots (drop at text) e ∙ ap (λ (g : Got Rule). follow (follow g (λ r rest. answered (asked (has_conditions r) empty_args r) (drop at text) rest)) (λ r rest. got (some r) rest)) (came told z).got_it ∙ rw f (go b)
      where
        go : (b : Bool) → follow (answered (asked b empty_args (came told z).part) (drop at text) (came told z).rest) (λ r rest. got (some r) rest)
            ≡ cond b (got (some (came told z).part) (came told z).rest) (stop empty_args (drop at text))
        go true = refl
        go false = refl

    pub args_empty : {Is : Option Rule → Type 0} → at ≤ length text → count ≡ 0 → Tells text at Is (args_there (judges_of slots) (drop at text)) 4 at
    args_empty h k =
        let n = sym (came told z).value.counted ∙ k in
        tells_stop (judged_is false (ap not (eq-eqb _ _ n))) refl (omega arith) (record { inside = h; behind = refl })

    pub args_filled : (count ≡ 0 → ⊥) → Tells text at (ArgsOf raw₀ raw spot (Some count)) (args_there (judges_of slots) (drop at text)) code past
    args_filled k =
        let c = came told z in
        let n : length c.part ≡ 0 → ⊥ = λ x. k (c.value.counted ∙ x) in
        tells_got (judged_is true (ap not (ne_eqb _ _ n))) z c.on c.place (positive count k, c.value)
      where
        positive : (x : ℕ) → (x ≡ 0 → ⊥) → 0 < x
        positive x h = omega arith
