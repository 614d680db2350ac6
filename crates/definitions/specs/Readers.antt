-- What the readers of rule sets promise: what they return, for any bytes and any cursor, what a cursor says of the parts that are still to
-- come, and what it is that a part was given.
use Rattle.std.specs.Prelude.{ℕ, ◌+◌, ◌-◌, ◌≤◌, ◌≡◌, Bool, cond, not, ◌&&◌, List, [], ◌++◌, eqb, leb, length, drop}
use Rattle.std.proofs.Math.Option.{Option, none, some}
use Rattle.definitions.specs.declared.Condition.{Condition}
use Rattle.definitions.specs.Word.{number_at}
use Rattle.definitions.specs.RuleSet.{Rule, Entry, RuleSet}
use Rattle.definitions.specs.Format.{head_number, width_number, operator_number, joined, encode_condition, encode_rule, encode_entry}
use Rattle.definitions.specs.Format.{Each, ConditionInRange, EntryInRange, Read, condition_at}
use Rattle.definitions.specs.declared.Cursor.{Cursor}
use Rattle.definitions.specs.declared.Head.{Head}
use Rattle.definitions.specs.declared.Listed.{Listed}
use Rattle.definitions.specs.declared.Compared.{Compared}
use Rattle.definitions.specs.Writers.{head_good}

-- so many bytes are there, in a set that is not too long
unfoldable pub reaches : ℕ → ℕ → ℕ → Bool
reaches size at more = leb size 1048576 && leb (at + more) size

-- ---- codes: 0, 1 where such a part is not there, 2 where it is not its turn

abbrev pub stopped : Cursor → ℕ → Cursor
stopped c code = record { code = code; at = c.at; entries = c.entries; rules = c.rules; conditions = c.conditions }

abbrev pub no_head : Head
no_head = record { next = record { code = 1; at = 0; entries = 0; rules = 0; conditions = 0 }; architecture = 0; mismatch = 0; on_match = 0 }

abbrev pub no_entry : Cursor → ℕ → Listed
no_entry c code = record { next = stopped c code; number = 0 }

abbrev pub no_condition : Cursor → ℕ → Compared
no_condition c code = record { next = stopped c code; index = 0; width = 0; operator = 0; value = 0; mask = 0 }

unfoldable pub head_of : List ℕ → Head
head_of s =
    cond (reaches (length s) 0 16)
    (cond (head_good (number_at 4 s 0) (number_at 4 s 4) (number_at 4 s 8))
    (record {
      next = record { code = 0; at = 16; entries = number_at 4 s 12; rules = 0; conditions = 0 };
      architecture = number_at 4 s 0;
      mismatch = number_at 4 s 4;
      on_match = number_at 4 s 8;
    })
    no_head)
    no_head

-- it is an entry's turn, or a rule's: nothing that encloses less is left
unfoldable pub at_entry : Cursor → Bool
at_entry c = not (eqb c.entries 0) && (eqb c.rules 0 && eqb c.conditions 0)

unfoldable pub at_rule : Cursor → Bool
at_rule c = not (eqb c.rules 0) && eqb c.conditions 0

unfoldable pub entry_of : List ℕ → Cursor → Listed
entry_of s c =
    cond (at_entry c)
    (cond (reaches (length s) c.at 8)
    (record {
      next = record { code = 0; at = c.at + 8; entries = c.entries - 1; rules = number_at 4 s (c.at + 4); conditions = 0 };
      number = number_at 4 s c.at;
    })
    (no_entry c 1))
    (no_entry c 2)

unfoldable pub rule_of : List ℕ → Cursor → Cursor
rule_of s c =
    cond (at_rule c)
    (cond (reaches (length s) c.at 4)
    (record { code = 0; at = c.at + 4; entries = c.entries; rules = c.rules - 1; conditions = number_at 4 s c.at })
    (stopped c 1))
    (stopped c 2)

-- from what the format's reader gives
unfoldable pub condition_from : Cursor → Option (Read Condition) → Compared
condition_from c none = no_condition c 1
condition_from c (some r) =
    record {
      next = record { code = 0; at = r.past; entries = c.entries; rules = c.rules; conditions = c.conditions - 1 };
      index = r.value.index;
      width = width_number r.value.width;
      operator = operator_number r.value.operator;
      value = r.value.value;
      mask = r.value.mask;
    }

unfoldable pub compared_of : List ℕ → Cursor → Compared
compared_of s c =
    cond (eqb c.conditions 0) (no_condition c 2)
    (cond (leb (length s) 1048576) (condition_from c (condition_at s c.at)) (no_condition c 1))

-- ---- what is still to come: conditions of the open rule, rules of the open entry, entries

pub record Left (s : List ℕ) (c : Cursor) (qs : List Condition) (rs : List Rule) (es : List Entry) : Type 0 where
  pub bytes : drop c.at s ≡ joined encode_condition qs ++ (joined encode_rule rs ++ joined encode_entry es)
  pub inside : c.at ≤ length s
  pub size : length s ≤ 1048576
  pub conditions : c.conditions ≡ length qs
  pub rules : c.rules ≡ length rs
  pub entries : c.entries ≡ length es
  pub ranged_conditions : Each ConditionInRange qs
  pub ranged_rules : Each (Each ConditionInRange) rs
  pub ranged_entries : Each EntryInRange es

-- ---- a part was given, and the cursor stands before the others

pub record HeadGiven (rs : RuleSet) (s : List ℕ) (r : Head) : Type 0 where
  pub code : r.next.code ≡ 0
  pub architecture : r.architecture ≡ head_number rs.architecture rs.native_only
  pub mismatch : r.mismatch ≡ rs.mismatch
  pub on_match : r.on_match ≡ rs.on_match
  pub left : Left s r.next [] [] rs.entries

pub record EntryGiven (e : Entry) (es : List Entry) (s : List ℕ) (r : Listed) : Type 0 where
  pub code : r.next.code ≡ 0
  pub number : r.number ≡ e.number
  pub left : Left s r.next [] e.rules es

pub record RuleGiven (r : Rule) (rs : List Rule) (es : List Entry) (s : List ℕ) (c : Cursor) : Type 0 where
  pub code : c.code ≡ 0
  pub left : Left s c r rs es

pub record ConditionGiven (q : Condition) (qs : List Condition) (rs : List Rule) (es : List Entry) (s : List ℕ) (r : Compared) : Type 0 where
  pub code : r.next.code ≡ 0
  pub index : r.index ≡ q.index
  pub width : r.width ≡ width_number q.width
  pub operator : r.operator ≡ operator_number q.operator
  pub value : r.value ≡ q.value
  pub mask : r.mask ≡ q.mask
  pub left : Left s r.next qs rs es
