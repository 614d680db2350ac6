-- GROWS: a rule set with one more number listed, or one more rule for a number that has rules, never turns a match into a mismatch.
use mathlib.Core.Path.{◌≡◌, refl, sym, ap, ◌∙◌}
use mathlib.Core.Bool.{Bool, true, false, cond, ◌||◌}
use mathlib.Core.List.{List, [], ◌∷◌, ◌++◌}
use Prim.Native.Nat.{ℕ}
use lib.Dec.{eqb}
use borrow.Author.Tests.{eqb-true}
use Rattle.definitions.specs.Machine.{Call, returns}
use Rattle.definitions.specs.RuleSet.{Rule, Entry, no_rules, all_hold, any_holds, matches, listed}
use Rattle.behaviour.specs.Changes.{OneMore, more, MoreRules, is_listed, MoreEntries, listing, adding}
use Rattle.behaviour.specs.Statements.{Grows, GrowsBytes}
use Rattle.behaviour.proofs.Changes.{says, Stays, stays, matches_there, in_front_lem, rules_changed, meaning_changed}
use Rattle.behaviour.proofs.Outputs.{does, returned}

-- ---- a rule more

any_more : (c : Call) (front back : List Rule) (r : Rule) → any_holds c (front ++ back) ≡ true → any_holds c (front ++ (r ∷ back)) ≡ true
unfolding any_holds
any_more c [] back r h = go (all_hold c r)
  where
    go : (t : Bool) → (t || any_holds c back) ≡ true
    go true = refl
    go false = h
any_more c (f ∷ front) back r h = go (all_hold c f) h (any_more c front back r)
  where
    go : (t : Bool) → (t || any_holds c (front ++ back)) ≡ true → (any_holds c (front ++ back) ≡ true → any_holds c (front ++ (r ∷ back)) ≡ true)
        → (t || any_holds c (front ++ (r ∷ back))) ≡ true
    go true e next = refl
    go false e next = next e

-- with some rules, a number matches where one of them does
matches_some : (c : Call) (rs : List Rule) → no_rules rs ≡ false → matches c rs ≡ any_holds c rs
unfolding matches
matches_some c [] h = cc
matches_some c (r ∷ rs) h = refl

matches_more : (c : Call) (rs ts : List Rule) → MoreRules rs ts → matches c rs ≡ true → matches c ts ≡ true
matches_more c rs ts k h = go k.more
  where
    go : OneMore rs ts → matches c ts ≡ true
    go (more front back x p q) =
        rw q (matches_there c front back x ∙ any_more c front back x (rw p at (sym (matches_some c rs k.some) ∙ h)))

-- ---- the match action stays the match action

module _ (c : Call) (m d : ℕ) where
  says_more : (rs ts : List Rule) → MoreRules rs ts → Stays m (says c m d rs) (says c m d ts)
  says_more rs ts k h = go (matches c rs) (matches c ts) (matches_more c rs ts k) h
    where
      go : (x y : Bool) → (x ≡ true → y ≡ true) → cond x m d ≡ m → cond y m d ≡ m
      go true true w e = refl
      go true false w e = let z = w refl in cc
      go false true w e = refl
      go false false w e = e

  not_listed : (es : List Entry) → is_listed c.number es ≡ false → listed c m d es ≡ d
  unfolding listed is_listed
  not_listed [] h = refl
  not_listed (e ∷ es) h = go (eqb c.number e.number) h (not_listed es)
    where
      go : (t : Bool) → (t || is_listed c.number es) ≡ false → (is_listed c.number es ≡ false → listed c m d es ≡ d)
          → cond t (cond (matches c e.rules) m d) (listed c m d es) ≡ d
      go true h next = cc
      go false h next = next h

  behind_unlisted : (n : ℕ) (before behind : List Entry) → is_listed n (before ++ behind) ≡ false → is_listed n behind ≡ false
  unfolding is_listed
  behind_unlisted n [] behind h = h
  behind_unlisted n (e ∷ before) behind h = behind_unlisted n before behind (go (eqb n e.number) h)
    where
      go : (t : Bool) → (t || is_listed n (before ++ behind)) ≡ false → is_listed n (before ++ behind) ≡ false
      go true h = cc
      go false h = h

  -- a number that was not listed, in front of what stood there
  new_number : (e : Entry) (es : List Entry) → is_listed e.number es ≡ false → Stays m (listed c m d es) (listed c m d (e ∷ es))
  unfolding listed
  new_number e es u h = go (eqb c.number e.number) refl
    where
      both_match : (t : Bool) → d ≡ m → cond t m d ≡ m
      both_match true q = refl
      both_match false q = q

      go : (t : Bool) → eqb c.number e.number ≡ t → cond t (cond (matches c e.rules) m d) (listed c m d es) ≡ m
      go true q =
          let mine : is_listed c.number es ≡ false = rw (eqb-true c.number e.number q) u in
          both_match (matches c e.rules) (sym (not_listed es mine) ∙ h)
      go false q = h

  listed_grows : (old new : List Entry) → MoreEntries old new → Stays m (listed c m d old) (listed c m d new)
  listed_grows old new (listing before behind e u p q) =
      rw (p, q) (in_front_lem c (Stays m) (stays m) m d before behind (e ∷ behind) (new_number e behind (behind_unlisted e.number before behind (rw p at u))))
  listed_grows old new (adding k) = rules_changed c (Stays m) (stays m) m d MoreRules says_more old new k

pub grows : Grows
grows old new g c h =
    let keep = meaning_changed c (Stays old.on_match) (stays old.on_match) MoreEntries old new g (listed_grows c old.on_match old.mismatch old.entries new.entries g.entries) in
    keep h ∙ sym g.on_match

pub grows_bytes : GrowsBytes
grows_bytes old new f g p q change c h =
    does new g q c ∙ ap returns (grows old new change c (returned (sym (does old f p c) ∙ h)))
