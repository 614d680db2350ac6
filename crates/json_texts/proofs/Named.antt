-- The named sets of filters: one more of them, and which names they have. Assumes nothing.
use mathlib.Core.Path.{◌≡◌, refl, ap, subst, sym, ◌∙◌}
use mathlib.Core.Bool.{Bool, true, false, cond, ◌||◌}
use mathlib.Core.List.{List, [], ◌∷◌, ◌++◌, append_assoc, append-nil}
use mathlib.Core.Option.{Option, none, some}
use Prim.Native.Nat.{ℕ, ◌+◌, ◌^◌, ◌<◌}
use native.Mathlib.Omega.{arith}
use lib.Dec.{eqb}
use lib.ListN.{length, take, length-append}
use borrow.Author.Tests.{eq-eqb}
use Rattle.definitions.specs.declared.NamedPlace.{NamedPlace}
use Rattle.definitions.specs.RuleSet.{Architecture, RuleSet}
use Rattle.definitions.specs.Format.{joined, then, is_there, native_of}
use Rattle.definitions.specs.JsonForm.{same, Filter, named}
use Rattle.definitions.specs.CallNames.{Slot}
use Rattle.definitions.specs.Collected.{NamedSet, encode_named, now, set_of, sets_of}
use Rattle.definitions.specs.NamedSets.{set_named, find_set, Finds}
use Rattle.theorems.proofs.Tests.{some_same}
use Rattle.json_theorems.proofs.Tests.{none_not_some}
use Rattle.named_sets.proofs.Walks.{finds}
use Rattle.json_filters.specs.Filters.{Known}
use Rattle.json_texts.specs.Named.{Written}

abbrev of_filter : Filter → RuleSet → NamedSet
of_filter f rs = record { name = f.name; set = rs }

module _ (slots : List Slot) (a : Architecture) (native : Bool) where
  abbrev these : List Filter → Option (List NamedSet)
  these fs = sets_of now.join slots a native fs

  pub sets_one_more : (fs : List Filter) (sets : List NamedSet) (f : Filter) (rs : RuleSet) → these fs ≡ some sets → set_of now.join slots a native f ≡ some rs
      → these (fs ++ (f ∷ [])) ≡ some (sets ++ (of_filter f rs ∷ []))
  unfolding sets_of
  sets_one_more [] sets f rs e m = rw m (ap (λ (s : List NamedSet). some (s ++ (of_filter f rs ∷ []))) (some_same e))
  sets_one_more (g ∷ fs) sets f rs e m = go (set_of now.join slots a native g) (these fs) refl (λ ss h. sets_one_more fs ss f rs h m) e
    where
      go : (o : Option RuleSet) (p : Option (List NamedSet)) → these fs ≡ p → ((ss : List NamedSet) → these fs ≡ some ss → these (fs ++ (f ∷ [])) ≡ some (ss ++ (of_filter f rs ∷ [])))
          → then o (λ r. then p (λ ss. some (of_filter g r ∷ ss))) ≡ some sets
          → then o (λ r. then (these (fs ++ (f ∷ []))) (λ ss. some (of_filter g r ∷ ss))) ≡ some (sets ++ (of_filter f rs ∷ []))
      go none p q ih h = absurd (none_not_some h)
      go (some r) none q ih h = absurd (none_not_some h)
      go (some r) (some ss) q ih h = rw (ih ss q) (ap (λ (s : List NamedSet). some (s ++ (of_filter f rs ∷ []))) (some_same h))

  -- the sets have the names of the filters
  named_as : (k : List ℕ) (fs : List Filter) (sets : List NamedSet) → these fs ≡ some sets → is_there (set_named k sets) ≡ named k fs
  unfolding sets_of set_named
  named_as k [] sets e = subst (λ (s : List NamedSet). is_there (set_named k s) ≡ false) (some_same e) refl
  named_as k (g ∷ fs) sets e = go (set_of now.join slots a native g) (these fs) refl (λ ss h. named_as k fs ss h) e
    where
      found : (x : NamedSet) (t b : Bool) (o : Option NamedSet) → is_there o ≡ b → is_there (cond t (some x) o) ≡ (t || b)
      found x true b o h = refl
      found x false b o h = h

      go : (o : Option RuleSet) (p : Option (List NamedSet)) → these fs ≡ p → ((ss : List NamedSet) → these fs ≡ some ss → is_there (set_named k ss) ≡ named k fs)
          → then o (λ r. then p (λ ss. some (of_filter g r ∷ ss))) ≡ some sets → is_there (set_named k sets) ≡ (same g.name k || named k fs)
      go none p q ih h = absurd (none_not_some h)
      go (some r) none q ih h = absurd (none_not_some h)
      go (some r) (some ss) q ih h =
          subst (λ (s : List NamedSet). is_there (set_named k s) ≡ (same g.name k || named k fs)) (some_same h)
          (found (of_filter g r) (same g.name k) (named k fs) (set_named k ss) (ih ss q))

-- a search tells whether a filter has the name
told_by : (bytes : List ℕ) (o : Option NamedSet) (p : NamedPlace) → Finds bytes o p → eqb p.code 0 ≡ is_there o
told_by bytes none p h = ap (λ (q : NamedPlace). eqb q.code 0) h
told_by bytes (some s) p h = eq-eqb p.code 0 h.code

pub found_named : {slots : List Slot} {architecture count : ℕ} {fs : List Filter} {bytes : List ℕ} → Written slots architecture fs count bytes → length bytes < 2 ^ 32
    → (k : List ℕ) → eqb (find_set bytes k).code 0 ≡ named k fs
found_named {slots = slots} {architecture} {count} {fs} {bytes} w h k =
    rw w.spelled (told_by (joined encode_named w.sets) (set_named k w.sets) (find_set (joined encode_named w.sets) k) (finds w.sets k (rw w.spelled at h))
    ∙ named_as slots w.known (native_of architecture) k fs w.sets w.made)

joined_one_more : (sets : List NamedSet) (s : NamedSet) → joined encode_named (sets ++ (s ∷ [])) ≡ joined encode_named sets ++ encode_named s
joined_one_more [] s = append-nil (encode_named s)
joined_one_more (t ∷ sets) s =
    ap (λ (l : List ℕ). encode_named t ++ l) (joined_one_more sets s) ∙ sym (append_assoc (encode_named t) (joined encode_named sets) (encode_named s))

-- no filter is written
pub nothing_written : {slots : List Slot} {architecture : ℕ} (bytes : List ℕ) → Known architecture → Written slots architecture [] 0 (take 0 bytes)
unfolding sets_of
nothing_written bytes k = record { known = k.known; is_known = k.named; sets = []; made = refl; many = refl; spelled = refl }

-- one more filter is written
pub written_more : {slots : List Slot} {architecture count : ℕ} {fs : List Filter} {bytes after : List ℕ} {known : Architecture} (f : Filter) (rs : RuleSet) (w : Written slots architecture fs count bytes)
    → w.known ≡ known → set_of now.join slots known (native_of architecture) f ≡ some rs → after ≡ bytes ++ encode_named (of_filter f rs)
    → Written slots architecture (fs ++ (f ∷ [])) (count + 1) after
written_more {slots = slots} {architecture} {count} {fs} {bytes} {after} {known} f rs w k m e =
    let l = length-append w.sets (of_filter f rs ∷ []) in
    let n = w.many in
    record {
      known = w.known;
      is_known = w.is_known;
      sets = w.sets ++ (of_filter f rs ∷ []);
      made = sets_one_more slots w.known (native_of architecture) fs w.sets f rs w.made (rw k m);
      many = omega arith;
      spelled = e ∙ ap (λ (b : List ℕ). b ++ encode_named (of_filter f rs)) w.spelled ∙ sym (joined_one_more w.sets (of_filter f rs));
    }
