-- The filter that is emitted for a rule set, instruction by instruction: the output of seccompiler 0.5.0, whose bytes are ours. What it
-- does not know, the flag for native numbers only, is a guard between its instructions.
-- A condition that fails jumps `f` instructions on, counted from behind its own last one, to just behind its rule's return.
use Rattle.std.specs.Prelude.{ℕ, zero, suc, ◌+◌, ◌*◌, Bool, true, false, cond, List, [], ◌∷◌, ◌++◌, ltb, length}
use Rattle.std.specs.Int.Bits.{bit_and}
use Rattle.definitions.specs.declared.Instruction.{Instruction}
use Rattle.definitions.specs.declared.Operator.{Operator}
use Rattle.definitions.specs.declared.Operator.TheVariants.{Eq, Ge, Gt, Le, Lt, MaskedEq, Ne}
use Rattle.definitions.specs.declared.Width.{Width}
use Rattle.definitions.specs.declared.Width.TheVariants.{Dword, Qword}
use Rattle.definitions.specs.declared.Condition.{Condition}
use Rattle.definitions.specs.Word.{low, high}
use Rattle.definitions.specs.RuleSet.{Architecture, Rule, Entry, RuleSet, architecture_word, second_table, cancelled, guarded, kill_process}

-- ---- the instructions that are used: code, jt, jf, k

abbrev pub instruction : ℕ → ℕ → ℕ → ℕ → Instruction
instruction c t f x = record { code = c; jt = t; jf = f; k = x }

-- load word k of the call data
abbrev pub load : ℕ → Instruction
load k = instruction 0x20 0 0 k

abbrev pub mask_by : ℕ → Instruction
mask_by k = instruction 0x54 0 0 k

abbrev pub jump_by : ℕ → Instruction
jump_by k = instruction 0x05 0 0 k

-- jump t instructions on if what was loaded is equal to k (greater; greater or equal), else f
abbrev pub if_equal : ℕ → ℕ → ℕ → Instruction
if_equal k t f = instruction 0x15 t f k

abbrev pub if_greater : ℕ → ℕ → ℕ → Instruction
if_greater k t f = instruction 0x25 t f k

abbrev pub if_at_least : ℕ → ℕ → ℕ → Instruction
if_at_least k t f = instruction 0x35 t f k

-- jump t instructions on if what was loaded has one of the bits of k set, else f
abbrev pub if_any_bit : ℕ → ℕ → ℕ → Instruction
if_any_bit k t f = instruction 0x45 t f k

abbrev pub return : ℕ → Instruction
return k = instruction 0x06 0 0 k

-- ---- a condition: for a qword the high words first, then, for both widths, the low words

-- where the two words of argument i stand in the call data
abbrev pub low_at : ℕ → ℕ
low_at i = 16 + 8 * i

abbrev pub high_at : ℕ → ℕ
high_at i = 20 + 8 * i

-- value v, mask m
unfoldable pub high_tests : Operator → ℕ → ℕ → ℕ → List Instruction
high_tests Eq v m f = if_equal (high v) 0 (f + 2) ∷ []
high_tests Ge v m f = if_greater (high v) 3 0 ∷ if_equal (high v) 0 (f + 2) ∷ []
high_tests Gt v m f = if_greater (high v) 3 0 ∷ if_equal (high v) 0 (f + 2) ∷ []
high_tests Le v m f = if_greater (high v) (f + 3) 0 ∷ if_equal (high v) 0 2 ∷ []
high_tests Lt v m f = if_greater (high v) (f + 3) 0 ∷ if_equal (high v) 0 2 ∷ []
high_tests MaskedEq v m f = mask_by (high m) ∷ if_equal (high (bit_and v m)) 0 (f + 3) ∷ []
high_tests Ne v m f = if_equal (high v) 0 2 ∷ []

unfoldable pub low_tests : Operator → ℕ → ℕ → ℕ → List Instruction
low_tests Eq v m f = if_equal (low v) 0 f ∷ []
low_tests Ge v m f = if_at_least (low v) 0 f ∷ []
low_tests Gt v m f = if_greater (low v) 0 f ∷ []
low_tests Le v m f = if_greater (low v) f 0 ∷ []
low_tests Lt v m f = if_at_least (low v) f 0 ∷ []
low_tests MaskedEq v m f = mask_by (low m) ∷ if_equal (low (bit_and v m)) 0 f ∷ []
low_tests Ne v m f = if_equal (low v) f 0 ∷ []

unfoldable pub high_part : Condition → ℕ → List Instruction
high_part q f = load (high_at q.index) ∷ high_tests q.operator q.value q.mask f

unfoldable pub low_part : Condition → ℕ → List Instruction
low_part q f = load (low_at q.index) ∷ low_tests q.operator q.value q.mask f

abbrev pub only_qword : Width → List Instruction → List Instruction
only_qword Dword is = []
only_qword Qword is = is

unfoldable pub condition_code : Condition → ℕ → List Instruction
condition_code q f = only_qword q.width (high_part q f) ++ low_part q f

-- ---- a rule: its conditions, the last one first, each put in front with the distance d of what stands there

-- Distances have 8 bits. Where d has passed this reach, three helper jumps go in front first, and the distance starts again at 1.
abbrev pub reach : ℕ
reach = 248

unfoldable pub helpers : ℕ → List Instruction
helpers d = cond (ltb reach d) (jump_by 2 ∷ jump_by (d + 1) ∷ jump_by (d + 1) ∷ []) []

unfoldable pub near : ℕ → ℕ
near d = cond (ltb reach d) 1 d

-- a condition with its helpers, and the distance in front of it
unfoldable pub step_code : Condition → ℕ → List Instruction
step_code q d = condition_code q (near d) ++ helpers d

unfoldable pub step_distance : Condition → ℕ → ℕ
step_distance q d = near d + length (condition_code q (near d))

unfoldable pub conditions_code : Rule → ℕ → List Instruction
conditions_code [] d = []
conditions_code (q ∷ qs) d = conditions_code qs (step_distance q d) ++ step_code q d

unfoldable pub distance : Rule → ℕ → ℕ
distance [] d = d
distance (q ∷ qs) d = distance qs (step_distance q d)

-- a rule's body: its conditions, and the return where they hold. Match action m.
unfoldable pub rule_body : ℕ → Rule → List Instruction
rule_body m qs = conditions_code qs 1 ++ (return m ∷ [])

-- The rule: its body behind two jumps. The second leads a call with another number over the rule, to the second jump of the next one.
unfoldable pub rule_code : ℕ → Rule → List Instruction
rule_code m qs = (jump_by 1 ∷ jump_by (distance qs 1 + 1) ∷ []) ++ rule_body m qs

-- the code of parts, one behind the other
abbrev pub sequence : {A : Type 0} → (A → List Instruction) → List A → List Instruction
sequence f [] = []
sequence f (x ∷ xs) = f x ++ sequence f xs

-- ---- the head: a call of another architecture is killed, since its numbers stand for other calls

-- where a second table is not served, its numbers are killed
abbrev pub guard : List Instruction
guard = if_any_bit second_table 0 2 ∷ if_equal cancelled 1 0 ∷ return kill_process ∷ []

-- the number is loaded where it is looked at: by the guard, or by one of n entries
unfoldable pub number_code : Bool → ℕ → List Instruction
number_code true n = load 0 ∷ guard
number_code false zero = []
number_code false (suc n) = load 0 ∷ []

-- in front of n entries: architecture a, with a guard or without
unfoldable pub head_code : Architecture → Bool → ℕ → List Instruction
head_code a guards n = load 4 ∷ if_equal (architecture_word a) 1 0 ∷ return kill_process ∷ number_code guards n

-- ---- an entry, and the whole filter: match action m, mismatch action d

abbrev pub rules_code : ℕ → List Rule → List Instruction
rules_code m rs = sequence (rule_code m) rs

-- a number without rules: jump 1, jump 2, return match, as a rule with no conditions would be
unfoldable pub body_code : ℕ → List Rule → List Instruction
body_code m [] = jump_by 1 ∷ jump_by 2 ∷ return m ∷ []
body_code m (r ∷ rs) = rules_code m (r ∷ rs)

unfoldable pub entry_code : ℕ → ℕ → Entry → List Instruction
entry_code m d e = if_equal e.number 0 1 ∷ (body_code m e.rules ++ (return d ∷ []))

abbrev pub entries_code : ℕ → ℕ → List Entry → List Instruction
entries_code m d es = sequence (entry_code m d) es

-- the entries, one after the other, and the return for a number that none of them lists
unfoldable pub numbers_code : ℕ → ℕ → List Entry → List Instruction
numbers_code m d es = entries_code m d es ++ (return d ∷ [])

-- code behind a set's head
abbrev pub headed : RuleSet → List Instruction → List Instruction
headed rs p = head_code rs.architecture (guarded rs) (length rs.entries) ++ p

unfoldable pub emitted : RuleSet → List Instruction
emitted rs = headed rs (numbers_code rs.on_match rs.mismatch rs.entries)

-- ---- a number's rules by themselves, without the jumps that lead from one to the next

abbrev pub rule_bodies : ℕ → List Rule → List Instruction
rule_bodies m rs = sequence (rule_body m) rs

-- a number without rules has no code of its own
unfoldable pub entry_body : ℕ → ℕ → List Rule → List Instruction
entry_body m d [] = []
entry_body m d (r ∷ rs) = rule_bodies m (r ∷ rs) ++ (return d ∷ [])
