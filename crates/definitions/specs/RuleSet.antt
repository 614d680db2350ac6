-- Rule sets, and what they mean for a call: which action the filter has to return. The rule sets, operators and widths are those of
-- seccompiler 0.5.0; the words of architectures and actions are those of linux/audit.h and linux/seccomp.h.
use Rattle.std.specs.Prelude.{ℕ, ◌+◌, ◌/◌, ◌%◌, ◌^◌, Bool, true, false, cond, not, ◌&&◌, ◌||◌, List, [], ◌∷◌, eqb, leb, ltb, get_or}
use Rattle.std.specs.Int.Bits.{bit_and}
use Rattle.definitions.specs.declared.Operator.{Operator}
use Rattle.definitions.specs.declared.Operator.TheVariants.{Eq, Ge, Gt, Le, Lt, MaskedEq, Ne}
use Rattle.definitions.specs.declared.Width.{Width}
use Rattle.definitions.specs.declared.Width.TheVariants.{Dword, Qword}
use Rattle.definitions.specs.declared.Condition.{Condition}
use Rattle.definitions.specs.Machine.{Call}

-- ---- architectures, and what numbers their calls have

pub data Architecture : Type 0 where
  x86_64 aarch64 riscv64 : Architecture

unfoldable pub architecture_word : Architecture → ℕ
architecture_word x86_64 = 0xc000003e
architecture_word aarch64 = 0xc00000b7
architecture_word riscv64 = 0xc00000f3

-- On x86_64 the kernel serves a second table of calls (x32) under the same architecture word. Its numbers have this bit set.
abbrev pub second_table : ℕ
second_table = 0x40000000

-- the number of a call that a tracer has cancelled: it is of no table
abbrev pub cancelled : ℕ
cancelled = 0xffffffff

unfoldable pub in_second_table : ℕ → Bool
in_second_table n = not (eqb (bit_and n second_table) 0) && not (eqb n cancelled)

unfoldable pub has_second_table : Architecture → Bool
has_second_table x86_64 = true
has_second_table aarch64 = false
has_second_table riscv64 = false

-- ---- what a rule set is

-- a rule: all its conditions must hold
abbrev pub Rule : Type 0
Rule = List Condition

-- a listed call number, with the rules of which one must match; with no rules it always matches
pub record Entry : Type 0 where
  pub number : ℕ
  pub rules : List Rule

-- actions are the words that a filter returns; `native_only`: no call of a second table is served
pub record RuleSet : Type 0 where
  pub architecture : Architecture
  pub native_only : Bool
  pub mismatch : ℕ
  pub on_match : ℕ
  pub entries : List Entry

-- the same, but for the entries
abbrev pub with_entries : RuleSet → List Entry → RuleSet
with_entries rs es = record {
  architecture = rs.architecture;
  native_only = rs.native_only;
  mismatch = rs.mismatch;
  on_match = rs.on_match;
  entries = es;
}

-- ---- action words

abbrev pub kill_process : ℕ
kill_process = 0x80000000

unfoldable pub one_of : List ℕ → ℕ → Bool
one_of [] w = false
one_of (x ∷ xs) w = eqb w x || one_of xs w

-- kill process, kill thread, trap, user notif, log, allow: whole words
abbrev pub plain_actions : List ℕ
plain_actions = kill_process ∷ 0x00000000 ∷ 0x00030000 ∷ 0x7fc00000 ∷ 0x7ffc0000 ∷ 0x7fff0000 ∷ []

-- errno and trace: the upper half, with any number in the lower
abbrev pub numbered_actions : List ℕ
numbered_actions = 0x0005 ∷ 0x7ff0 ∷ []

unfoldable pub is_action : ℕ → Bool
is_action w = one_of plain_actions w || one_of numbered_actions (w / 2 ^ 16)

-- ---- what a rule set means

abbrev pub argument : ℕ → Call → ℕ
argument i c = get_or (c.argument0 ∷ c.argument1 ∷ c.argument2 ∷ c.argument3 ∷ c.argument4 ∷ c.argument5 ∷ []) i 0

-- what of a number is looked at
abbrev pub cut : Width → ℕ → ℕ
cut Dword x = x % 2 ^ 32
cut Qword x = x

-- argument x against value v, with mask m: unsigned
unfoldable pub test : Operator → ℕ → ℕ → ℕ → Bool
test Eq x v m = eqb x v
test Ge x v m = leb v x
test Gt x v m = ltb v x
test Le x v m = leb x v
test Lt x v m = ltb x v
test MaskedEq x v m = eqb (bit_and x m) (bit_and v m)
test Ne x v m = not (eqb x v)

unfoldable pub holds : Call → Condition → Bool
holds c q =
    test q.operator (cut q.width (argument q.index c)) (cut q.width q.value) (cut q.width q.mask)

unfoldable pub all_hold : Call → Rule → Bool
all_hold c [] = true
all_hold c (q ∷ qs) = holds c q && all_hold c qs

unfoldable pub any_holds : Call → List Rule → Bool
any_holds c [] = false
any_holds c (r ∷ rs) = all_hold c r || any_holds c rs

unfoldable pub matches : Call → List Rule → Bool
matches c [] = true
matches c (r ∷ rs) = any_holds c (r ∷ rs)

-- what the entries say: match action m, mismatch action d
unfoldable pub listed : Call → ℕ → ℕ → List Entry → ℕ
listed c m d [] = d
listed c m d (e ∷ es) = cond (eqb c.number e.number) (cond (matches c e.rules) m d) (listed c m d es)

-- whether there is a second table, and it is not served
unfoldable pub guarded : RuleSet → Bool
guarded rs = rs.native_only && has_second_table rs.architecture

unfoldable pub meaning : RuleSet → Call → ℕ
meaning rs c =
    cond (eqb c.architecture (architecture_word rs.architecture))
    (cond (guarded rs && in_second_table c.number) kill_process (listed c rs.on_match rs.mismatch rs.entries))
    kill_process

-- ---- how the listed numbers lie

abbrev pub no_rules : List Rule → Bool
no_rules [] = true
no_rules (r ∷ rs) = false

-- two entries whose numbers follow each other, both without rules, are in one span
abbrev pub together : Entry → Entry → Bool
together e f = eqb f.number (e.number + 1) && (no_rules e.rules && no_rules f.rules)

unfoldable pub span_count : List Entry → ℕ
span_count [] = 0
span_count (e ∷ []) = 1
span_count (e ∷ (f ∷ es)) = cond (together e f) 0 1 + span_count (f ∷ es)

-- the rules of a number; none where it is not listed
unfoldable pub rules_of : ℕ → List Entry → List Rule
rules_of n [] = []
rules_of n (e ∷ es) = cond (eqb n e.number) e.rules (rules_of n es)
