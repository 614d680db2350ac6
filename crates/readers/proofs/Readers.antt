-- What the readers return is what the format's reader gives at the same place.
use mathlib.Core.Path.{◌≡◌, refl, ap, ◌∙◌}
use mathlib.Core.Bool.{Bool, true, false, cond, not, ◌&&◌}
use mathlib.Core.List.{List}
use mathlib.Core.Option.{Option, none, some}
use Prim.Native.Nat.{ℕ, ◌+◌, ◌-◌, ◌*◌, ◌≤◌}
use native.Mathlib.Omega.{arith}
use lib.Dec.{eqb, leb}
use lib.ListN.{length, get_or}
use borrow.Author.Tests.{leb-true, le-leb, eqb-false, ne_eqb, not-true}
use Rattle.definitions.specs.declared.Condition.{Condition}
use Rattle.definitions.specs.declared.Cursor.{Cursor}
use Rattle.definitions.specs.declared.Compared.{Compared}
use Rattle.definitions.specs.Word.{number_at}
use Rattle.definitions.specs.Format.{width_of, operator_of, mask_taken, Read, then, check, condition_at, is_there}
use Rattle.definitions.specs.Parts.{condition_of}
use Rattle.definitions.specs.Readers.{reaches, at_entry, at_rule, no_condition, condition_from, compared_of}
use Rattle.theorems.proofs.Tests.{both_true}
use Rattle.bpf.proofs.Buffer.{number_suc}
use Rattle.readers.specs.Tests.{condition_good}
use Rattle.readers.proofs.Names.{condition_numbers, numbers_there}

pub reaches_true : (size at more : ℕ) → reaches size at more ≡ true → (size ≤ 1048576) × (at + more ≤ size)
unfolding reaches
reaches_true size at more h =
    let w = both_true (leb size 1048576) (leb (at + more) size) h in
    (leb-true size 1048576 w.0, leb-true (at + more) size w.1)

counted : (n : ℕ) → not (eqb n 0) ≡ true → 1 ≤ n
counted n h = let e = eqb-false n 0 (not-true (eqb n 0) h) in omega arith

pub entry_left : (c : Cursor) → at_entry c ≡ true → 1 ≤ c.entries
unfolding at_entry
entry_left c h = counted c.entries (both_true (not (eqb c.entries 0)) (eqb c.rules 0 && eqb c.conditions 0) h).0

pub rule_left : (c : Cursor) → at_rule c ≡ true → 1 ≤ c.rules
unfolding at_rule
rule_left c h = counted c.rules (both_true (not (eqb c.rules 0)) (eqb c.conditions 0) h).0

-- five bytes are one, and four behind it
pub number_5 : (s : List ℕ) (at : ℕ) → at + 24 ≤ length s → number_at 5 s (at + 3) ≡ get_or s (at + 3) 0 + 256 * number_at 4 s (at + 4)
number_5 s at h =
    let e : at + 3 + 1 ≡ at + 4 = omega arith in
    rw e at (number_suc 4 s (at + 3) (omega arith))

-- ---- a condition

-- what the format's reader gives, by the numbers at their places
abbrev numbers_at : List ℕ → ℕ → Option Condition
numbers_at s at = condition_of (get_or s at 0) (get_or s (at + 1) 0) (get_or s (at + 2) 0) (number_at 8 s (at + 8)) (number_at 8 s (at + 16))

abbrev ended : ℕ → Option Condition → Option (Read Condition)
ended at x = then x (λ q. some (record { value = q; past = at + 24 }))

-- what the reader gives, from the same numbers
abbrev given : List ℕ → Cursor → Compared
given s c = record {
  next = record { code = 0; at = c.at + 24; entries = c.entries; rules = c.rules; conditions = c.conditions - 1 };
  index = get_or s c.at 0;
  width = get_or s (c.at + 1) 0;
  operator = get_or s (c.at + 2) 0;
  value = number_at 8 s (c.at + 8);
  mask = number_at 8 s (c.at + 16);
}

pub condition_at_lem : (s : List ℕ) (at : ℕ) → at + 24 ≤ length s → condition_at s at ≡ check (eqb (number_at 5 s (at + 3)) 0) (ended at (numbers_at s at))
unfolding condition_at condition_of
condition_at_lem s at room =
    rw (le-leb (at + 24) (length s) room) (ap (check (eqb (number_at 5 s (at + 3)) 0)) (go (width_of (get_or s (at + 1) 0)) (operator_of (get_or s (at + 2) 0))))
  where
    go : (w : Option _) (o : Option _)
        → then w (λ x. then o (λ y. check (mask_taken y (number_at 8 s (at + 16)))
        (some (record {
          value = record { index = get_or s at 0; width = x; operator = y; value = number_at 8 s (at + 8); mask = number_at 8 s (at + 16) };
          past = at + 24;
        }))))
        ≡ ended at (then w (λ x. then o (λ y. check (mask_taken y (number_at 8 s (at + 16)))
        (some (record { index = get_or s at 0; width = x; operator = y; value = number_at 8 s (at + 8); mask = number_at 8 s (at + 16) })))))
    go none o = refl
    go (some x) none = refl
    go (some x) (some y) = by (mask_taken y (number_at 8 s (at + 16))) (record { index = get_or s at 0; width = x; operator = y; value = number_at 8 s (at + 8); mask = number_at 8 s (at + 16) })
      where
        by : (t : Bool) (q : Condition) → check t (some (record { value = q; past = at + 24 })) ≡ ended at (check t (some q))
        by true q = refl
        by false q = refl

module _ (s : List ℕ) (c : Cursor) (some_left : c.conditions ≡ 0 → ⊥) where
  pub compared_short : reaches (length s) c.at 24 ≡ false → compared_of s c ≡ no_condition c 1
  unfolding compared_of reaches condition_at condition_from
  compared_short h = rw (ne_eqb c.conditions 0 some_left) (go (leb (length s) 1048576) (leb (c.at + 24) (length s)) refl h)
    where
      go : (a b : Bool) → leb (c.at + 24) (length s) ≡ b → (a && b) ≡ false → cond a (condition_from c (condition_at s c.at)) (no_condition c 1) ≡ no_condition c 1
      go false b e h = refl
      go true false e h = rw e
      go true true e h = absurd (let z : ◌≡◌ {A = ℕ} 0 1 = cc in omega arith)

  module _ (room : reaches (length s) c.at 24 ≡ true) where
    compared_from : compared_of s c ≡ condition_from c (check (eqb (number_at 5 s (c.at + 3)) 0) (ended c.at (numbers_at s c.at)))
    unfolding compared_of
    compared_from =
        let w = reaches_true (length s) c.at 24 room in
        rw (ne_eqb c.conditions 0 some_left, le-leb (length s) 1048576 w.0, condition_at_lem s c.at w.1)

    pub compared_unpadded : eqb (number_at 5 s (c.at + 3)) 0 ≡ false → compared_of s c ≡ no_condition c 1
    unfolding condition_from
    compared_unpadded h = compared_from ∙ rw h

    module _ (padded : eqb (number_at 5 s (c.at + 3)) 0 ≡ true) where
      pub compared_bad : condition_good (get_or s (c.at + 1) 0) (get_or s (c.at + 2) 0) (number_at 8 s (c.at + 16)) ≡ false → compared_of s c ≡ no_condition c 1
      unfolding condition_from
      compared_bad h = compared_from ∙ rw padded (go (numbers_at s c.at) (numbers_there _ _ _ _ _ ∙ h))
        where
          go : (x : Option Condition) → is_there x ≡ false → condition_from c (ended c.at x) ≡ no_condition c 1
          go none e = refl
          go (some q) e = absurd (let z : ◌≡◌ {A = ℕ} 0 1 = cc in omega arith)

      pub compared_good : condition_good (get_or s (c.at + 1) 0) (get_or s (c.at + 2) 0) (number_at 8 s (c.at + 16)) ≡ true
          → compared_of s c ≡ given s c
      unfolding condition_from
      compared_good h = compared_from ∙ rw padded (go (numbers_at s c.at) refl (numbers_there _ _ _ _ _ ∙ h))
        where
          go : (x : Option Condition) → numbers_at s c.at ≡ x → is_there x ≡ true
              → condition_from c (ended c.at x) ≡ given s c
          go none p e = absurd (let z : ◌≡◌ {A = ℕ} 0 1 = cc in omega arith)
          go (some q) p e =
              let n = condition_numbers _ _ _ _ _ q p in
              rw (n.index_is, n.width_is, n.operator_is, n.value_is, n.mask_is)

-- one test after the other
pub ruleset compared_steps = (reaches_true, compared_short, compared_unpadded, compared_bad, compared_good)
