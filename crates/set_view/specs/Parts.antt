-- What stands at a place of a rule set's bytes, as total functions of the place, and what the code that walks over them asks for. They
-- say nothing of whether the bytes are of the format: where they are, this is what the format's reader gives.
use Rattle.std.specs.Prelude.{◌≡◌, Bool, not, ◌&&◌, ◌||◌, List, [], ◌∷◌, ℕ, zero, suc, ◌+◌, ◌*◌, ◌/◌, ◌≤◌, eqb, leb, length, get_or}
use Rattle.std.proofs.Math.Option.{some}
use Rattle.definitions.specs.declared.Condition.{Condition}
use Rattle.definitions.specs.Word.{number_at}
use Rattle.definitions.specs.RuleSet.{Rule, Entry, RuleSet, is_action}
use Rattle.definitions.specs.Format.{architecture_of, width_of, is_there, native_of, read}
use Rattle.set_view.specs.Names.{named_architecture, named_width, named_operator}

-- how many bytes a set has at most, 1 MiB; the head; a condition
abbrev pub most_bytes : ℕ
most_bytes = 1048576

-- ---- n parts, one behind the other: given what stands at a place, and where it ends

unfoldable pub parts : {A : Type 0} → (ℕ → A) → (ℕ → ℕ) → ℕ → ℕ → List A
parts here past zero at = []
parts here past (suc n) at = here at ∷ parts here past n (past at)

unfoldable pub behind : (ℕ → ℕ) → ℕ → ℕ → ℕ
behind past zero at = at
behind past (suc n) at = behind past n (past at)

-- ---- conditions

unfoldable pub condition_here : List ℕ → ℕ → Condition
condition_here s at =
    record {
      index = get_or s at 0;
      width = named_width (get_or s (at + 1) 0);
      operator = named_operator (get_or s (at + 2) 0);
      value = number_at 8 s (at + 8);
      mask = number_at 8 s (at + 16);
    }

abbrev pub condition_past : ℕ → ℕ
condition_past at = at + 24

abbrev pub conditions_here : List ℕ → ℕ → ℕ → Rule
conditions_here s = parts (condition_here s) condition_past

-- ---- rules

abbrev pub rule_here : List ℕ → ℕ → Rule
rule_here s at = conditions_here s (number_at 4 s at) (at + 4)

abbrev pub rule_past : List ℕ → ℕ → ℕ
rule_past s at = at + 4 + 24 * number_at 4 s at

abbrev pub rules_here : List ℕ → ℕ → ℕ → List Rule
rules_here s = parts (rule_here s) (rule_past s)

abbrev pub rules_past : List ℕ → ℕ → ℕ → ℕ
rules_past s = behind (rule_past s)

-- ---- entries

unfoldable pub entry_here : List ℕ → ℕ → Entry
entry_here s at = record { number = number_at 4 s at; rules = rules_here s (number_at 4 s (at + 4)) (at + 8) }

unfoldable pub entry_past : List ℕ → ℕ → ℕ
entry_past s at = rules_past s (number_at 4 s (at + 4)) (at + 8)

abbrev pub entries_here : List ℕ → ℕ → ℕ → List Entry
entries_here s = parts (entry_here s) (entry_past s)

abbrev pub entries_past : List ℕ → ℕ → ℕ → ℕ
entries_past s = behind (entry_past s)

-- whether one of n entries is left at a place, and it has no rules
unfoldable pub plain_here : List ℕ → ℕ → ℕ → Bool
plain_here s n at = not (eqb n 0) && eqb (number_at 4 s (at + 4)) 0

-- ---- the whole

unfoldable pub set_here : List ℕ → RuleSet
set_here s =
    record {
      architecture = named_architecture (number_at 4 s 0);
      native_only = native_of (number_at 4 s 0);
      mismatch = number_at 4 s 4;
      on_match = number_at 4 s 8;
      entries = entries_here s (number_at 4 s 12) 16;
    }

-- ---- what is asked of the bytes

-- they reach to a place, and are no more than a set may have
abbrev pub Reach : List ℕ → ℕ → Type 0
Reach s end = (end ≤ length s) × (length s ≤ most_bytes)

-- they are a set of the format
pub record Readable (s : List ℕ) : Type 0 where
  pub reads : read s ≡ some (set_here s)
  pub head : 16 ≤ length s
  pub size : length s ≤ most_bytes
  pub entries : entries_past s (number_at 4 s 12) 16 ≤ length s

-- ---- what is tested, in the order of the code

-- the tests of the head
unfoldable pub head_taken : List ℕ → Bool
head_taken s = is_there (architecture_of (number_at 4 s 0)) && (is_action (number_at 4 s 4) && is_action (number_at 4 s 8))

-- the tests of a condition's 24 bytes, in the order of the code
unfoldable pub condition_taken : List ℕ → ℕ → Bool
condition_taken s at =
    leb (at + 24) (length s)
    && (eqb (number_at 8 s at / 16777216) 0
    && (is_there (width_of (get_or s (at + 1) 0))
    && (leb (get_or s (at + 2) 0) 6 && (eqb (get_or s (at + 2) 0) 5 || eqb (number_at 8 s (at + 16)) 0))))
