-- What the contracts of the exported functions give the program, call by call.
use mathlib.Core.Path.{◌≡◌, refl}
use mathlib.Core.Bool.{Bool}
use mathlib.Core.List.{List, [], ◌∷◌}
use mathlib.Core.Option.{some}
use Prim.Native.Nat.{ℕ, ◌+◌, ◌*◌, ◌≤◌, ◌<◌}
use native.Mathlib.Omega.{arith}
use lib.ListN.{length, length-append}
use borrow.Author.Tests.{eq-eqb}
use Rattle.definitions.specs.declared.Condition.{Condition}
use Rattle.definitions.specs.declared.Answer.{Answer}
use Rattle.definitions.specs.declared.Writer.{Writer}
use Rattle.definitions.specs.declared.Cursor.{Cursor}
use Rattle.definitions.specs.RuleSet.{Rule, Entry, RuleSet}
use Rattle.definitions.specs.Format.{joined, encode_condition, encode_rule, encode_entry}
use Rattle.definitions.specs.Compiled.{FormOf, Compiled}
use Rattle.definitions.specs.Parts.{with_rule, with_condition, condition_of, condition_part}
use Rattle.definitions.specs.Writers.{Added, Holds}
use Rattle.definitions.specs.Readers.{head_of, at_entry, entry_of, rule_of, compared_of, Left}
use Rattle.theorems.proofs.Forms.{length_condition, length_rule, length_entry}
use Rattle.definitions.specs.Answer.{answer}
use Rattle.theorems.specs.Outputs.{list}
use Rattle.theorems.proofs.Outputs.{compiles_in}
use Rattle.readers.proofs.Back.{left_long, head_back, entry_back, rule_back, condition_back, all_read}
use Rattle.example.specs.Worked.{Wrote, Ahead, Walked}

-- ---- writing

-- where a call was refused, nothing is said
pub refused : {rs : RuleSet} {out : List ℕ} {w : Writer} → (w.code ≡ 0 → ⊥) → Wrote rs out w
refused bad z = absurd (bad z)

pub rule_added : {a b : Bool} {before between after : List ℕ} {w begun r : Writer} (index width operator value mask : ℕ)
    → Added (some with_rule) a 4 before between w begun → begun.code ≡ 0
    → Added (condition_part index width operator value mask) b 24 between after begun r
    → (q : Condition) → condition_of index width operator value mask ≡ some q → (rs : RuleSet) → Holds rs before w
    → Wrote (with_condition q (with_rule rs)) after r
rule_added index width operator value mask first taken second q named rs held z =
    second.taken z (with_condition q) (rw named) (with_rule rs) (first.taken taken with_rule refl rs held)

-- ---- compiling

pub compiled_room : (set before after : List ℕ) (r : Answer) → Compiled set before after r → r.code ≡ 0 → 8 * r.count ≤ length before
unfolding answer
compiled_room set before after r c z = let w = compiles_in list set (length before) r c.answer z in rw w.1.said w.1.fits

-- ---- reading

pub head_ahead : (s : List ℕ) (rs : RuleSet) → FormOf rs s → Ahead s (head_of s).next
head_ahead s rs form = let g = rw form.spelled at (head_back rs form.ranged) in ([], [], rs.entries, g.left)

-- where a cursor stands, by how many bytes are left
stands : (s : List ℕ) (c : Cursor) (qs : List Condition) (rs : List Rule) (es : List Entry) → Left s c qs rs es
    → c.at + (length (joined encode_condition qs) + (length (joined encode_rule rs) + length (joined encode_entry es))) ≡ length s
stands s c qs rs es l = simp length-append at (left_long s _ c.at l.bytes l.inside)

-- a part was given: another number of bytes is left, and the code is 0
went : (s : List ℕ) (c r : Cursor) → Ahead s r → r.code ≡ 0 → c.at < r.at → Walked s c r
went s c r ahead code further = record { ahead = ahead; further = λ z. further; ended = λ bad. absurd (bad code) }

pub condition_walked : (s : List ℕ) (c : Cursor) → (c.conditions ≡ 0 → ⊥) → Ahead s c → Walked s c (compared_of s c).next
condition_walked s c some_left ahead = go ahead.0 ahead.3
  where
    go : (qs : List Condition) → Left s c qs ahead.1 ahead.2 → Walked s c (compared_of s c).next
    go [] l = absurd (some_left l.conditions)
    go (q ∷ qs) l =
        let g = condition_back s c q qs ahead.1 ahead.2 l in
        let before = simp (length-append, length_condition) at (stands s c (q ∷ qs) ahead.1 ahead.2 l) in
        let after = stands s _ qs ahead.1 ahead.2 g.left in
        went s c _ (qs, ahead.1, ahead.2, g.left) g.code (omega arith)

pub rule_walked : (s : List ℕ) (c : Cursor) → c.conditions ≡ 0 → (c.rules ≡ 0 → ⊥) → Ahead s c → Walked s c (rule_of s c)
rule_walked s c none some_left ahead = go ahead.0 ahead.1 ahead.3
  where
    go : (qs : List Condition) (rs : List Rule) → Left s c qs rs ahead.2 → Walked s c (rule_of s c)
    go (q ∷ qs) rs l = absurd (omega (arith, l.conditions))
    go [] [] l = absurd (some_left l.rules)
    go [] (r ∷ rs) l =
        let g = rule_back s c r rs ahead.2 l in
        let before = simp (length-append, length_rule) at (stands s c [] (r ∷ rs) ahead.2 l) in
        let after = stands s _ r rs ahead.2 g.left in
        went s c _ (r, rs, ahead.2, g.left) g.code (omega arith)

-- nothing is left: the reader of entries says so, and the cursor is as it was
none_left : (s : List ℕ) (c : Cursor) → Left s c [] [] [] → Walked s c (entry_of s c).next
unfolding entry_of at_entry
none_left s c l =
    rw (eq-eqb c.entries 0 l.entries)
    (record {
      ahead = (
        [],
        [],
        [],
        record {
          bytes = l.bytes;
          inside = l.inside;
          size = l.size;
          conditions = l.conditions;
          rules = l.rules;
          entries = l.entries;
          ranged_conditions = tt;
          ranged_rules = tt;
          ranged_entries = tt;
        },
      );
      further = λ z. absurd (omega arith);
      ended = λ bad. all_read s c l;
    })

pub entry_walked : (s : List ℕ) (c : Cursor) → c.conditions ≡ 0 → c.rules ≡ 0 → Ahead s c → Walked s c (entry_of s c).next
entry_walked s c no_condition_lem no-rule ahead = go ahead.0 ahead.1 ahead.2 ahead.3
  where
    go : (qs : List Condition) (rs : List Rule) (es : List Entry) → Left s c qs rs es → Walked s c (entry_of s c).next
    go (q ∷ qs) rs es l = absurd (omega (arith, l.conditions))
    go [] (r ∷ rs) es l = absurd (omega (arith, l.rules))
    go [] [] [] l = none_left s c l
    go [] [] (e ∷ es) l =
        let g = entry_back s c e es l in
        let before = simp (length-append, length_entry) at (stands s c [] [] (e ∷ es) l) in
        let after = stands s _ [] e.rules es g.left in
        went s c _ ([], e.rules, es, g.left) g.code (omega arith)
