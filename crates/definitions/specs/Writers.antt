-- What the writers of rule sets promise: which calls are taken, that what stands in the buffer then is the byte form of the rule set with
-- that part added, and what calls one after the other have made.
use Rattle.std.specs.Prelude.{ℕ, ◌+◌, ◌≤◌, ◌≡◌, Bool, cond, not, ◌&&◌, List, [], ◌∷◌, ◌++◌, leb, length, take, drop}
use Rattle.std.proofs.Math.Option.{Option, some}
use Rattle.definitions.specs.declared.Writer.{Writer}
use Rattle.definitions.specs.RuleSet.{Architecture, Rule, Entry, RuleSet, is_action}
use Rattle.definitions.specs.Format.{joined, encode_rule, encode_entry, native_of, architecture_of, is_there}
use Rattle.definitions.specs.Compiled.{FormOf}
use Rattle.definitions.specs.Parts.{started}

-- ---- what a state says of a buffer

-- the place of the last rule of an entry whose rules begin at `from`; 0 where it has none
pub data RuleAt (rules : List Rule) (from at : ℕ) : Type 0 where
  no_rule : rules ≡ [] → at ≡ 0 → RuleAt rules from at
  last_rule : (front : List Rule) (r : Rule) → rules ≡ front ++ (r ∷ []) → at ≡ from + length (joined encode_rule front) → RuleAt rules from at

-- the places of the last entry and of its last rule
pub data EntryAt (entries : List Entry) (w : Writer) : Type 0 where
  no_entry : entries ≡ [] → w.entry ≡ 0 → w.rule ≡ 0 → EntryAt entries w
  last_entry : (front : List Entry) (e : Entry) → entries ≡ front ++ (e ∷ []) → w.entry ≡ 16 + length (joined encode_entry front)
      → RuleAt e.rules (w.entry + 8) w.rule → EntryAt entries w

-- the buffer begins with the byte form of rs, and the state says where it ends and where its open parts are
pub record Holds (rs : RuleSet) (out : List ℕ) (w : Writer) : Type 0 where
  pub form : FormOf rs (take w.end out)
  pub fits : w.end ≤ length out
  pub places : EntryAt rs.entries w

-- ---- which calls are taken: 0, or the smallest number that says why not

-- a set has its head, the entry has its number and count in the set, and the rule its count
unfoldable pub state_fits : Writer → Bool
state_fits w = leb 16 w.end && (leb (w.entry + 8) w.end && leb (w.rule + 4) w.end)

--   1  a part that is not good
--   2  out of order
--   3  no room in the buffer
--   4  the set would pass 1 MiB
--   5  the places in the state do not fit the set
unfoldable pub code_for : Bool → Bool → ℕ → ℕ → Writer → ℕ
code_for good ordered more size w =
    cond (not good) 1
    (cond (not ordered) 2
    (cond (not (leb (w.end + more) size)) 3
    (cond (not (leb (w.end + more) 1048576)) 4
    (cond (state_fits w) 0 5))))

unfoldable pub head_good : ℕ → ℕ → ℕ → Bool
head_good a d m = is_there (architecture_of a) && (is_action d && is_action m)

unfoldable pub start_code : ℕ → ℕ → ℕ → ℕ → ℕ
start_code a d m size = cond (not (head_good a d m)) 1 (cond (leb 16 size) 0 3)

-- ---- what a call did

-- a set was started in a buffer that held `before` and now holds `after`, and r was returned
pub record Started (a d m : ℕ) (before after : List ℕ) (r : Writer) : Type 0 where
  pub code : r.code ≡ start_code a d m (length before)
  pub refused : (r.code ≡ 0 → ⊥) → (after ≡ before) × (r ≡ record { code = r.code; end = 0; entry = 0; rule = 0 })
  pub taken : r.code ≡ 0 → (known : Architecture) → architecture_of a ≡ some known → Holds (started known (native_of a) d m) after r
  -- what stands behind the head is as it was
  pub kept : drop r.end after ≡ drop r.end before

-- a part of `more` bytes was added, where the state was w: `none` is a part that is not good
pub record Added (part : Option (RuleSet → RuleSet)) (ordered : Bool) (more : ℕ) (before after : List ℕ) (w r : Writer) : Type 0 where
  pub code : r.code ≡ code_for (is_there part) ordered more (length before) w
  pub refused : (r.code ≡ 0 → ⊥) → (after ≡ before) × (r ≡ record { code = r.code; end = w.end; entry = w.entry; rule = w.rule })
  pub taken : r.code ≡ 0 → (add : RuleSet → RuleSet) → part ≡ some add → (rs : RuleSet) → Holds rs before w → Holds (add rs) after r
  -- what stands behind the set is as it was
  pub kept : drop r.end after ≡ drop r.end before

-- ---- what calls made

-- a buffer and a state that calls have made since `start`, and the rule set of the parts that were taken, in order
pub data Made : RuleSet → List ℕ → Writer → Type 0 where
  begun : (a d m : ℕ) (known : Architecture) (before after : List ℕ) (r : Writer) → Started a d m before after r → r.code ≡ 0
      → architecture_of a ≡ some known → Made (started known (native_of a) d m) after r
  taken : (part : Option (RuleSet → RuleSet)) (ordered : Bool) (more : ℕ) (add : RuleSet → RuleSet) (rs : RuleSet) (before after : List ℕ)
      (w r : Writer) → Made rs before w → Added part ordered more before after w r → r.code ≡ 0 → part ≡ some add → Made (add rs) after r
  refused : (part : Option (RuleSet → RuleSet)) (ordered : Bool) (more : ℕ) (rs : RuleSet) (before after : List ℕ) (w r : Writer)
      → Made rs before w → Added part ordered more before after w r → (r.code ≡ 0 → ⊥) → Made rs after r
