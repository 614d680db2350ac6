-- A line's keys: which field a key has, and that it was not given before. Assumes nothing.
use mathlib.Core.Path.{◌≡◌, refl, ap, sym, ◌∙◌}
use mathlib.Core.Bool.{Bool, true, false, cond}
use mathlib.Core.List.{List}
use mathlib.Core.Option.{Option, none, some}
use Prim.Native.Nat.{ℕ, ◌≤◌, ◌<◌}
use native.Mathlib.Omega.{arith}
use lib.Dec.{eqb}
use lib.ListN.{length, drop}
use Rattle.definitions.specs.Json.{ascii, quote}
use Rattle.definitions.specs.JsonForm.{same, line_keys, field_of}
use Rattle.definitions.specs.JsonReader.{Got, got, stop, not_json, follow, first, blanks, string_at, placed, bad_character}
use Rattle.definitions.specs.FormReader.{given_twice, or_stop}
use Rattle.json_theorems.specs.Turns.{field_there, colon_there}
use Rattle.json_theorems.proofs.Tests.{none_not_some}
use Rattle.json_theorems.proofs.Parts.{follow_got}
use Rattle.json_scan.specs.Scan.{At, Tells}
use Rattle.json_scan.proofs.Telling.{came, handed_on}
use Rattle.json_parts.specs.declared.Object.TheVariants.{Line}
use Rattle.json_parts.specs.Kinds.{keys_of}
use Rattle.json_lines.specs.Lines.{fresh_there}
use Rattle.json_lines.proofs.Steps.{tells_stop, tells_map, tells_before, blanks_on}

pub stop_not_got : {A : Type 0} {k : ℕ} {m : List ℕ} {a : A} {rest : List ℕ} → stop k m ≡ got a rest → ⊥
stop_not_got h = let z : ◌≡◌ {A = ℕ} 0 1 = cc in omega arith

key_small : (k : List ℕ) (f : ℕ) → field_of line_keys k ≡ some f → f < 3
key_small k f e = go (same (ascii "syscall") k) (same (ascii "args") k) (same (ascii "comment") k) e
  where
    is : (x : ℕ) → x < 3 → some x ≡ some f → f < 3
    is x h g = let q : x ≡ f = cc in omega arith

    go : (a b c : Bool) → cond a (some 0) (cond b (some 1) (cond c (some 2) none)) ≡ some f → f < 3
    go true b c h = is 0 (omega arith) h
    go false true c h = is 1 (omega arith) h
    go false false true h = is 2 (omega arith) h
    go false false false h = absurd (none_not_some h)

field_small : (l : List ℕ) (f : ℕ) (rest : List ℕ) → field_there line_keys l ≡ got f rest → f < 3
unfolding field_there
field_small l f rest e = go (eqb (first l) quote) e
  where
    found : (k past : List ℕ) (o : Option ℕ) → field_of line_keys k ≡ o → or_stop o l past ≡ got f rest → f < 3
    found k past none g h = absurd (stop_not_got h)
    found k past (some x) g h = let q : x ≡ f = cc in key_small k f (g ∙ ap (λ (y : ℕ). some y) q)

    go : (b : Bool) → cond b (follow (placed bad_character (string_at (drop 1 l))) (λ k past. or_stop (field_of line_keys k) l past)) (stop not_json l) ≡ got f rest → f < 3
    go true h = let w = follow_got (placed bad_character (string_at (drop 1 l))) (λ k past. or_stop (field_of line_keys k) l past) f rest h in found w.part w.behind (field_of line_keys w.part) refl w.gave
    go false h = absurd (stop_not_got h)

-- what is asked of the fields of a line alone
pub fresh_same : (seen seen' : ℕ → Bool) (l : List ℕ) → ((f : ℕ) → f < 3 → seen f ≡ seen' f) → fresh_there seen l ≡ fresh_there seen' l
unfolding fresh_there
fresh_same seen seen' l h = go (field_there line_keys (blanks l)) refl
  where
    go : (g : Got ℕ) → field_there line_keys (blanks l) ≡ g
        → follow g (λ f past. cond (seen f) (stop given_twice (blanks l)) (follow (colon_there past) (λ z behind. got f behind)))
        ≡ follow g (λ f past. cond (seen' f) (stop given_twice (blanks l)) (follow (colon_there past) (λ z behind. got f behind)))
    go (got f past) e = rw (h f (field_small (blanks l) f past e))
    go (stop k m) e = refl

pub fresh_small : (seen : ℕ → Bool) (l : List ℕ) (f : ℕ) (rest : List ℕ) → fresh_there seen l ≡ got f rest → f < 3
unfolding fresh_there
fresh_small seen l f rest e = go (field_there line_keys (blanks l)) refl e
  where
    colon : (x : ℕ) (g : Got ℕ) → x < 3 → follow g (λ z behind. got x behind) ≡ got f rest → f < 3
    colon x (got z m) s h = let q : x ≡ f = cc in omega arith
    colon x (stop k m) s h = absurd (stop_not_got h)

    test : (x : ℕ) (past : List ℕ) (b : Bool) → x < 3 → cond b (stop given_twice (blanks l)) (follow (colon_there past) (λ z behind. got x behind)) ≡ got f rest → f < 3
    test x past true s h = absurd (stop_not_got h)
    test x past false s h = colon x (colon_there past) s h

    go : (g : Got ℕ) → field_there line_keys (blanks l) ≡ g
        → follow g (λ x past. cond (seen x) (stop given_twice (blanks l)) (follow (colon_there past) (λ z behind. got x behind))) ≡ got f rest → f < 3
    go (got x past) e h = test x past (seen x) (field_small (blanks l) x past e) h
    go (stop k m) e h = absurd (stop_not_got h)

-- a field that was read was not seen
pub fresh_new : (seen : ℕ → Bool) (l : List ℕ) (f : ℕ) (rest : List ℕ) → fresh_there seen l ≡ got f rest → seen f ≡ false
unfolding fresh_there
fresh_new seen l f rest e = go (field_there line_keys (blanks l)) e
  where
    colon : (x : ℕ) (g : Got ℕ) → seen x ≡ false → follow g (λ z behind. got x behind) ≡ got f rest → seen f ≡ false
    colon x (got z m) s h = let q : x ≡ f = cc in sym (ap seen q) ∙ s
    colon x (stop k m) s h = absurd (stop_not_got h)

    test : (x : ℕ) (past : List ℕ) (b : Bool) → seen x ≡ b → cond b (stop given_twice (blanks l)) (follow (colon_there past) (λ z behind. got x behind)) ≡ got f rest → seen f ≡ false
    test x past true s h = absurd (stop_not_got h)
    test x past false s h = colon x (colon_there past) s h

    go : (g : Got ℕ) → follow g (λ x past. cond (seen x) (stop given_twice (blanks l)) (follow (colon_there past) (λ z behind. got x behind))) ≡ got f rest → seen f ≡ false
    go (got x past) h = test x past (seen x) refl h
    go (stop k m) h = absurd (stop_not_got h)

keys_line : keys_of Line ≡ line_keys
unfolding keys_of
keys_line = refl

there : {text l : List ℕ} {start : ℕ} → At text l start → {Is : ℕ → Type 0} {code past : ℕ} → Tells text start Is (field_there (keys_of Line) (drop start text)) code past
    → Tells text start Is (field_there line_keys l) code past
there p key = rw (← p.behind, ← keys_line) key

module _ {text : List ℕ} {at start : ℕ} (seen : ℕ → Bool) where
  pub fresh_no : At text (blanks (drop at text)) start → {Is : ℕ → Type 0} {code past : ℕ} → Tells text start Is (field_there (keys_of Line) (drop start text)) code past
      → {Is' : ℕ → Type 0} → (code ≡ 0 → ⊥) → Tells text at Is' (fresh_there seen (drop at text)) code past
  unfolding fresh_there
  fresh_no p key n = handed_on _ (there p key) n

  module _ (h : at ≤ length text) (p : At text (blanks (drop at text)) start) {value code past : ℕ} (key : Tells text start (λ f. value ≡ f) (field_there (keys_of Line) (drop start text)) code past)
      (z : code ≡ 0) where
    fresh_is : (b : Bool) → b ≡ seen value → fresh_there seen (drop at text) ≡ cond b (stop given_twice (blanks (drop at text))) (follow (colon_there (drop past text)) (λ z behind. got value behind))
    unfolding fresh_there
    fresh_is b e = let c = came (there p key) z in go (field_there line_keys (blanks (drop at text))) c.part c.rest c.got_it c.value c.place.behind
      where
        go : (g : Got ℕ) (f : ℕ) (rest : List ℕ) → g ≡ got f rest → value ≡ f → drop past text ≡ rest
            → follow g (λ f past. cond (seen f) (stop given_twice (blanks (drop at text))) (follow (colon_there past) (λ z behind. got f behind)))
            ≡ cond b (stop given_twice (blanks (drop at text))) (follow (colon_there (drop past text)) (λ z behind. got value behind))
        go g f rest x y w = rw (x, ← y, ← w, ← e)

    pub fresh_twice : true ≡ seen value → {Is : ℕ → Type 0} → Tells text at Is (fresh_there seen (drop at text)) 12 start
    fresh_twice e = tells_stop (fresh_is true e) refl (omega arith) p

    pub fresh_colon : false ≡ seen value → {Is₀ Is : ℕ → Type 0} {code' end : ℕ} → Tells text past Is₀ (colon_there (drop past text)) code' end → (code' ≡ 0 → ⊥)
        → Tells text at Is (fresh_there seen (drop at text)) code' end
    fresh_colon e colon n = rw (fresh_is false e) (handed_on _ colon n)

    pub fresh_key : false ≡ seen value → {Is₀ : ℕ → Type 0} {code' end : ℕ} → Tells text past Is₀ (colon_there (drop past text)) code' end
        → Tells text at (λ f. value ≡ f) (fresh_there seen (drop at text)) code' end
    fresh_key e colon =
        let o = blanks_on text at start h p in
        rw (fresh_is false e) (tells_before (omega (arith, (came (there p key) z).on)) (λ a x. x) (tells_map (λ z. value) (λ z x. refl) colon))
