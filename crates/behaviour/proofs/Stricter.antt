-- STRICTER: a rule set with one more condition in a rule never turns a mismatch into a match.
use mathlib.Core.Path.{◌≡◌, refl, sym, ap, ◌∙◌}
use mathlib.Core.Bool.{Bool, true, false, cond, ◌&&◌, ◌||◌}
use mathlib.Core.List.{List, [], ◌∷◌, ◌++◌}
use Prim.Native.Nat.{ℕ}
use Rattle.definitions.specs.declared.Condition.{Condition}
use Rattle.definitions.specs.Machine.{Call, returns}
use Rattle.definitions.specs.RuleSet.{Rule, holds, all_hold, any_holds, matches}
use Rattle.behaviour.specs.Changes.{OneMore, more, OneAnother, another, Narrowed}
use Rattle.behaviour.specs.Statements.{Stricter, StricterBytes}
use Rattle.behaviour.proofs.Changes.{says, Stays, stays, matches_there, rules_changed, meaning_changed}
use Rattle.behaviour.proofs.Outputs.{does, returned}

module _ (c : Call) where
  -- a condition more
  all_fewer : (front back : Rule) (q : Condition) → all_hold c (front ++ back) ≡ false → all_hold c (front ++ (q ∷ back)) ≡ false
  unfolding all_hold
  all_fewer [] back q h = go (holds c q)
    where
      go : (t : Bool) → (t && all_hold c back) ≡ false
      go true = h
      go false = refl
  all_fewer (f ∷ front) back q h = go (holds c f) h (all_fewer front back q)
    where
      go : (t : Bool) → (t && all_hold c (front ++ back)) ≡ false → (all_hold c (front ++ back) ≡ false → all_hold c (front ++ (q ∷ back)) ≡ false)
          → (t && all_hold c (front ++ (q ∷ back))) ≡ false
      go true e next = next e
      go false e next = refl

  rule_fewer : (r s : Rule) → OneMore r s → all_hold c r ≡ false → all_hold c s ≡ false
  rule_fewer r s (more front back q p e) h = rw e (all_fewer front back q (rw p at h))

  any_fewer : (front back : List Rule) (r s : Rule) → (all_hold c r ≡ false → all_hold c s ≡ false)
      → any_holds c (front ++ (r ∷ back)) ≡ false → any_holds c (front ++ (s ∷ back)) ≡ false
  unfolding any_holds
  any_fewer [] back r s one h = go (all_hold c r) (all_hold c s) one h
    where
      go : (x y : Bool) → (x ≡ false → y ≡ false) → (x || any_holds c back) ≡ false → (y || any_holds c back) ≡ false
      go true y w e = cc
      go false true w e = let z = w refl in cc
      go false false w e = e
  any_fewer (f ∷ front) back r s one h = go (all_hold c f) h (any_fewer front back r s one)
    where
      go : (t : Bool) → (t || any_holds c (front ++ (r ∷ back))) ≡ false
          → (any_holds c (front ++ (r ∷ back)) ≡ false → any_holds c (front ++ (s ∷ back)) ≡ false)
          → (t || any_holds c (front ++ (s ∷ back))) ≡ false
      go true e next = cc
      go false e next = next e

  matches_fewer : (rs ts : List Rule) → OneAnother OneMore rs ts → matches c rs ≡ false → matches c ts ≡ false
  matches_fewer rs ts (another front back r s k p q) h =
      rw q (matches_there c front back s ∙ any_fewer front back r s (rule_fewer r s k) (sym (matches_there c front back r) ∙ (rw p at h)))

  -- the mismatch action stays the mismatch action
  says_fewer : (m d : ℕ) (rs ts : List Rule) → OneAnother OneMore rs ts → Stays d (says c m d rs) (says c m d ts)
  says_fewer m d rs ts k h = go (matches c rs) (matches c ts) (matches_fewer rs ts k) h
    where
      go : (x y : Bool) → (x ≡ false → y ≡ false) → cond x m d ≡ d → cond y m d ≡ d
      go true true w e = e
      go true false w e = refl
      go false true w e = let z = w refl in cc
      go false false w e = refl

pub stricter : Stricter
stricter old new g c h =
    let m = old.on_match in
    let d = old.mismatch in
    let keep = meaning_changed c (Stays d) (stays d) Narrowed old new g (rules_changed c (Stays d) (stays d) m d (OneAnother OneMore) (says_fewer c m d) old.entries new.entries g.entries) in
    keep h ∙ sym g.mismatch

pub stricter_bytes : StricterBytes
stricter_bytes old new f g p q fewer c h =
    does new g q c ∙ ap returns (stricter old new fewer c (returned (sym (does old f p c) ∙ h)))
