-- Rule sets as bytes: how one is written, which ones can be, and a reader. All numbers lowest byte first.
--
--   head       16 bytes  architecture (4; 256 is added for native numbers only), mismatch action (4), match action (4), number of entries (4)
--   entry       8 bytes  call number (4), number of rules (4), then its rules
--   rule        4 bytes  number of conditions (4), then its conditions
--   condition  24 bytes  index, width (4 or 8), operator, one byte each; 5 zero bytes; value (8); mask (8; zero unless masked eq)
--
-- The reader needs no belief: theorem `formatted` says that it reads exactly what `encode` writes of rule sets in range.
use Rattle.std.specs.Prelude.{ℕ, zero, suc, ◌+◌, ◌-◌, ◌^◌, ◌≤◌, ◌<◌, ◌≡◌, Bool, true, false, cond, ◌&&◌, List, [], ◌∷◌, ◌++◌, eqb, leb, length, get_or}
use Rattle.std.proofs.Math.Option.{Option, none, some}
use Rattle.definitions.specs.declared.Operator.{Operator}
use Rattle.definitions.specs.declared.Operator.TheVariants.{Eq, Ge, Gt, Le, Lt, MaskedEq, Ne}
use Rattle.definitions.specs.declared.Width.{Width}
use Rattle.definitions.specs.declared.Width.TheVariants.{Dword, Qword}
use Rattle.definitions.specs.declared.Condition.{Condition}
use Rattle.definitions.specs.Word.{bytes_of, number_at}
use Rattle.definitions.specs.RuleSet.{Architecture, x86_64, aarch64, riscv64, Rule, Entry, RuleSet, is_action}

-- ---- the numbers that stand for names

unfoldable pub architecture_number : Architecture → ℕ
architecture_number x86_64 = 1
architecture_number aarch64 = 2
architecture_number riscv64 = 3

-- what is added to it where only native numbers are served
abbrev pub native_flag : ℕ
native_flag = 256

unfoldable pub head_number : Architecture → Bool → ℕ
head_number a native = architecture_number a + cond native native_flag 0

unfoldable pub width_number : Width → ℕ
width_number Dword = 4
width_number Qword = 8

unfoldable pub operator_number : Operator → ℕ
operator_number Eq = 0
operator_number Ge = 1
operator_number Gt = 2
operator_number Le = 3
operator_number Lt = 4
operator_number MaskedEq = 5
operator_number Ne = 6

-- ---- writing

abbrev pub joined : {A : Type 0} → (A → List ℕ) → List A → List ℕ
joined f [] = []
joined f (x ∷ xs) = f x ++ joined f xs

unfoldable pub encode_condition : Condition → List ℕ
encode_condition q =
    (q.index ∷ width_number q.width ∷ operator_number q.operator ∷ 0 ∷ 0 ∷ 0 ∷ 0 ∷ 0 ∷ []) ++ (bytes_of 8 q.value ++ bytes_of 8 q.mask)

unfoldable pub encode_rule : Rule → List ℕ
encode_rule r = bytes_of 4 (length r) ++ joined encode_condition r

unfoldable pub encode_entry : Entry → List ℕ
encode_entry e = bytes_of 4 e.number ++ (bytes_of 4 (length e.rules) ++ joined encode_rule e.rules)

unfoldable pub encode : RuleSet → List ℕ
encode rs =
    bytes_of 4 (head_number rs.architecture rs.native_only) ++ (bytes_of 4 rs.mismatch ++ (bytes_of 4 rs.on_match
    ++ (bytes_of 4 (length rs.entries) ++ joined encode_entry rs.entries)))

-- ---- ranges: the rule sets that have a byte form

abbrev pub Each : {A : Type 0} → (A → Type 0) → List A → Type 0
Each P [] = Unit {0}
Each P (x ∷ xs) = P x × Each P xs

abbrev pub MaskInRange : Operator → ℕ → Type 0
MaskInRange Eq m = m ≡ 0
MaskInRange Ge m = m ≡ 0
MaskInRange Gt m = m ≡ 0
MaskInRange Le m = m ≡ 0
MaskInRange Lt m = m ≡ 0
MaskInRange MaskedEq m = m < 2 ^ 64
MaskInRange Ne m = m ≡ 0

pub record ConditionInRange (q : Condition) : Type 0 where
  pub index : q.index < 2 ^ 8
  pub value : q.value < 2 ^ 64
  pub mask : MaskInRange q.operator q.mask

pub record EntryInRange (e : Entry) : Type 0 where
  pub number : e.number < 2 ^ 32
  pub rules : Each (Each ConditionInRange) e.rules

-- a set has at most 1 MiB, which bounds every count in it
pub record InRange (rs : RuleSet) : Type 0 where
  pub mismatch : is_action rs.mismatch ≡ true
  pub on_match : is_action rs.on_match ≡ true
  pub entries : Each EntryInRange rs.entries
  pub size : length (encode rs) ≤ 2 ^ 20

-- ---- reading

-- the flag of a head's first number, and what is left without it
unfoldable pub native_of : ℕ → Bool
native_of n = leb native_flag n

unfoldable pub unflagged : ℕ → ℕ
unflagged n = cond (native_of n) (n - native_flag) n

unfoldable pub architecture_of : ℕ → Option Architecture
architecture_of n =
    cond (eqb (unflagged n) 1) (some x86_64) (cond (eqb (unflagged n) 2) (some aarch64) (cond (eqb (unflagged n) 3) (some riscv64) none))

unfoldable pub width_of : ℕ → Option Width
width_of n = cond (eqb n 4) (some Dword) (cond (eqb n 8) (some Qword) none)

unfoldable pub operator_of : ℕ → Option Operator
operator_of n =
    cond (eqb n 0) (some Eq) (cond (eqb n 1) (some Ge) (cond (eqb n 2) (some Gt) (cond (eqb n 3) (some Le)
    (cond (eqb n 4) (some Lt) (cond (eqb n 5) (some MaskedEq) (cond (eqb n 6) (some Ne) none))))))

unfoldable pub mask_taken : Operator → ℕ → Bool
mask_taken Eq m = eqb m 0
mask_taken Ge m = eqb m 0
mask_taken Gt m = eqb m 0
mask_taken Le m = eqb m 0
mask_taken Lt m = eqb m 0
mask_taken MaskedEq m = true
mask_taken Ne m = eqb m 0

-- whether anything was read
abbrev pub is_there : {A : Type 0} → Option A → Bool
is_there none = false
is_there (some a) = true

-- what was read, and the place behind it
pub record Read (A : Type 0) : Type 0 where
  pub value : A
  pub past : ℕ

abbrev pub then : {A B : Type 0} → Option A → (A → Option B) → Option B
then none f = none
then (some a) f = f a

abbrev pub check : {A : Type 0} → Bool → Option A → Option A
check true a = a
check false a = none

-- n parts, one behind the other
unfoldable pub times : {A : Type 0} → (ℕ → Option (Read A)) → ℕ → ℕ → Option (Read (List A))
times f zero at = some (record { value = []; past = at })
times f (suc n) at =
    then (f at) (λ first. then (times f n first.past) (λ more. some (record { value = first.value ∷ more.value; past = more.past })))

unfoldable pub condition_at : List ℕ → ℕ → Option (Read Condition)
condition_at bs at =
    check (leb (at + 24) (length bs) && eqb (number_at 5 bs (at + 3)) 0)
    (then (width_of (get_or bs (at + 1) 0)) (λ w. then (operator_of (get_or bs (at + 2) 0)) (λ o.
    check (mask_taken o (number_at 8 bs (at + 16)))
    (some (record {
      value = record { index = get_or bs at 0; width = w; operator = o; value = number_at 8 bs (at + 8); mask = number_at 8 bs (at + 16) };
      past = at + 24;
    })))))

unfoldable pub rule_at : List ℕ → ℕ → Option (Read Rule)
rule_at bs at = check (leb (at + 4) (length bs)) (times (condition_at bs) (number_at 4 bs at) (at + 4))

unfoldable pub entry_at : List ℕ → ℕ → Option (Read Entry)
entry_at bs at =
    check (leb (at + 8) (length bs))
    (then (times (rule_at bs) (number_at 4 bs (at + 4)) (at + 8)) (λ rules.
    some (record { value = record { number = number_at 4 bs at; rules = rules.value }; past = rules.past })))

-- the rule set that bytes stand for, where they are of the format
unfoldable pub read : List ℕ → Option RuleSet
read bs =
    check (leb (length bs) (2 ^ 20) && leb 16 (length bs) && is_action (number_at 4 bs 4) && is_action (number_at 4 bs 8))
    (then (architecture_of (number_at 4 bs 0)) (λ a.
    then (times (entry_at bs) (number_at 4 bs 12) 16) (λ entries.
    check (eqb entries.past (length bs))
    (some (record {
      architecture = a;
      native_only = native_of (number_at 4 bs 0);
      mismatch = number_at 4 bs 4;
      on_match = number_at 4 bs 8;
      entries = entries.value;
    })))))
