-- Examples of Format and Answer, by computation: for each answer a smallest rule set that gets it, as bytes.
use mathlib.Core.Path.{◌≡◌, refl}
use mathlib.Core.Bool.{Bool, true, false, ◌&&◌}
use mathlib.Core.List.{List, [], ◌∷◌, ◌++◌}
use mathlib.Core.Option.{some}
use Prim.Native.Nat.{ℕ, ◌-◌, ◌*◌, ◌^◌}
use lib.Dec.{eqb, ltb}
use lib.ListN.{length, take, replicate, set as put}
use Rattle.definitions.specs.declared.Operator.TheVariants.{Eq, Ge, MaskedEq}
use Rattle.definitions.specs.declared.Width.TheVariants.{Dword, Qword}
use Rattle.definitions.specs.declared.Condition.{Condition}
use Rattle.definitions.specs.declared.Fault.{Fault}
use Rattle.definitions.specs.declared.Answer.{Answer}
use Rattle.definitions.specs.Word.{bytes_of, number_of, number_at}
use Rattle.definitions.specs.RuleSet.{x86_64, aarch64, architecture_word, one_of, is_action, Rule, Entry, RuleSet, guarded, has_second_table}
use Rattle.definitions.specs.Format.{architecture_number, width_number, operator_number, encode_condition, encode_rule, encode_entry, encode, architecture_of, width_of, operator_of, mask_taken, times, condition_at, rule_at, entry_at, read, unflagged, native_of, head_number}
use Rattle.definitions.specs.Answer.{all, fault, nowhere, placeless, no_fault, unless, faults_of, condition_faults, count_faults, rule_faults, entries_faults, set_faults, filter_faults, first_with, short_with, lesser, least_of, answer, answer_by, answer_of, emitted_size, halved, turns_long}
use Rattle.definitions.specs.Emitted.{high_tests, low_tests, high_part, low_part, condition_code, helpers, near, step_code, step_distance, conditions_code, distance, rule_code, rule_body, body_code, entry_code, numbers_code, emitted, head_code, number_code}
use Rattle.definitions.proofs.Examples.RuleSet.{compared, allow, errno}

-- the byte form, in full: aarch64, mismatch errno 1, match allow; number 257: argument 2 qword masked eq 4, mask 6
spelled : encode (record {
  architecture = aarch64;
  native_only = false;
  mismatch = errno 1;
  on_match = allow;
  entries = record { number = 257; rules = (compared MaskedEq Qword 2 4 6 ∷ []) ∷ [] } ∷ [];
})
    ≡ 2 ∷ 0 ∷ 0 ∷ 0 ∷ 1 ∷ 0 ∷ 5 ∷ 0 ∷ 0 ∷ 0 ∷ 0xff ∷ 0x7f ∷ 1 ∷ 0 ∷ 0 ∷ 0
    ∷ 1 ∷ 1 ∷ 0 ∷ 0 ∷ 1 ∷ 0 ∷ 0 ∷ 0
    ∷ 1 ∷ 0 ∷ 0 ∷ 0
    ∷ 2 ∷ 8 ∷ 5 ∷ 0 ∷ 0 ∷ 0 ∷ 0 ∷ 0 ∷ 4 ∷ 0 ∷ 0 ∷ 0 ∷ 0 ∷ 0 ∷ 0 ∷ 0 ∷ 6 ∷ 0 ∷ 0 ∷ 0 ∷ 0 ∷ 0 ∷ 0 ∷ 0 ∷ []
unfolding encode encode_entry encode_rule encode_condition bytes_of architecture_number head_number width_number operator_number
spelled = refl

-- a set with mismatch action d and some entries
abbrev listing : ℕ → List Entry → List ℕ
listing d es = encode (record { architecture = x86_64; native_only = false; mismatch = d; on_match = allow; entries = es })

abbrev plain : ℕ → Entry
plain n = record { number = n; rules = [] }

-- number 1 with one rule
abbrev ruled : Rule → List Entry
ruled r = record { number = 1; rules = r ∷ [] } ∷ []

-- bytes, room, and the answer's two numbers
record Row : Type 0 where
  bytes : List ℕ
  room : ℕ
  code : ℕ
  count : ℕ

abbrev row : List ℕ → ℕ → ℕ → ℕ → Row
row bs r a n = record { bytes = bs; room = r; code = a; count = n }

abbrev condition : List Entry
condition = ruled (compared Ge Qword 0 1 0 ∷ [])

abbrev table : List Row
table =
    row (listing (errno 1) []) 32 0 4
    ∷ row (listing (errno 1) (plain 0 ∷ [])) 80 0 10
    ∷ row (listing (errno 1) condition) 120 0 15
    ∷ row (put (listing (errno 1) []) 0 2) 32 0 4
    ∷ row (put (listing (errno 1) []) 0 3) 32 0 4
    -- native numbers only: four instructions more where no number was looked at, three where one was, and none where there is no second table
    ∷ row (put (listing (errno 1) []) 1 1) 64 0 8
    ∷ row (put (listing (errno 1) []) 1 1) 63 7 8
    ∷ row (put (listing (errno 1) (plain 0 ∷ [])) 1 1) 104 0 13
    ∷ row (put (put (listing (errno 1) (plain 0 ∷ [])) 0 2) 1 1) 80 0 10
    ∷ row (put (put (listing (errno 1) []) 0 3) 1 1) 32 0 4
    -- 1: cut short, a byte left over, an unknown architecture, action, width or operator, a byte that is not zero where zero is due,
    -- a mask without masked eq, a count beyond the end
    ∷ row [] 32 1 0
    ∷ row (take 15 (listing (errno 1) [])) 32 1 0
    ∷ row (listing (errno 1) [] ++ (0 ∷ [])) 32 1 0
    ∷ row (put (listing (errno 1) []) 0 0) 32 1 0
    ∷ row (put (listing (errno 1) []) 0 4) 32 1 0
    ∷ row (put (put (listing (errno 1) []) 0 0) 1 1) 64 1 0
    ∷ row (put (put (listing (errno 1) []) 0 4) 1 1) 64 1 0
    ∷ row (put (listing (errno 1) []) 1 2) 64 1 0
    ∷ row (listing 1 []) 32 1 0
    ∷ row (put (listing (errno 1) []) 8 1) 32 1 0
    ∷ row (take 51 (listing (errno 1) condition)) 120 1 0
    ∷ row (put (listing (errno 1) condition) 29 5) 120 1 0
    ∷ row (put (listing (errno 1) condition) 30 7) 120 1 0
    ∷ row (put (listing (errno 1) condition) 31 1) 120 1 0
    ∷ row (put (listing (errno 1) condition) 35 1) 120 1 0
    ∷ row (put (listing (errno 1) condition) 51 1) 120 1 0
    ∷ row (put (listing (errno 1) condition) 27 255) 120 1 0
    ∷ row (put (listing (errno 1) condition) 23 255) 120 1 0
    ∷ row (put (listing (errno 1) condition) 15 255) 120 1 0
    -- 2: a number twice, or not ascending
    ∷ row (listing (errno 1) (plain 1 ∷ plain 1 ∷ [])) 0 2 0
    ∷ row (listing (errno 1) (plain 2 ∷ plain 1 ∷ [])) 0 2 0
    -- 3
    ∷ row (listing allow []) 0 3 0
    -- 4
    ∷ row (listing (errno 1) (ruled [])) 0 4 0
    -- 5
    ∷ row (listing (errno 1) (ruled (compared Eq Dword 6 0 0 ∷ []))) 0 5 0
    -- 7
    ∷ row (listing (errno 1) []) 31 7 4
    -- 8: a dword value or mask of 33 bits; one of 32 bits is taken, and so is any of a qword condition
    ∷ row (listing (errno 1) (ruled (compared Eq Dword 5 (2 ^ 32) 0 ∷ []))) 120 8 0
    ∷ row (listing (errno 1) (ruled (compared MaskedEq Dword 0 0 (2 ^ 32) ∷ []))) 120 8 0
    ∷ row (listing (errno 1) (ruled (compared MaskedEq Dword 0 (2 ^ 32 - 1) (2 ^ 32 - 1) ∷ []))) 120 0 13
    ∷ row (listing (errno 1) (ruled (compared MaskedEq Qword 0 (2 ^ 64 - 1) (2 ^ 64 - 1) ∷ []))) 128 0 16
    -- the smallest of several: 2 before 3, 3 before 4, 4 before 5, 5 before 7, 7 before 8
    ∷ row (listing allow (plain 1 ∷ plain 1 ∷ [])) 0 2 0
    ∷ row (listing allow (ruled [])) 0 3 0
    ∷ row (listing (errno 1) (record { number = 1; rules = (compared Eq Dword 6 0 0 ∷ []) ∷ [] ∷ [] } ∷ [])) 0 4 0
    ∷ row (listing (errno 1) (ruled (compared Eq Dword 6 (2 ^ 32) 0 ∷ []))) 0 5 0
    ∷ row (listing (errno 1) (ruled (compared Eq Dword 5 (2 ^ 32) 0 ∷ []))) 95 7 12
    ∷ []

abbrev row_holds : Row → Bool
row_holds r = let a = answer_of r.bytes r.room in eqb a.code r.code && eqb a.count r.count

table_holds : all row_holds table ≡ true
unfolding answer_of answer least_of lesser set_faults filter_faults entries_faults rule_faults count_faults condition_faults faults_of unless read entry_at rule_at condition_at times mask_taken operator_of width_of architecture_of unflagged native_of is_action one_of number_at number_of encode encode_entry encode_rule encode_condition bytes_of architecture_number head_number width_number operator_number architecture_word emitted head_code number_code guarded has_second_table numbers_code entry_code body_code rule_code rule_body conditions_code distance step_code step_distance helpers near condition_code high_part low_part high_tests low_tests
table_holds = refl

-- 6: the limit itself, by the number of instructions alone
abbrev smallest : RuleSet
smallest = record { architecture = x86_64; native_only = false; mismatch = errno 1; on_match = allow; entries = [] }

-- a filter of n instructions, too long from entry 7 on
abbrev sized : ℕ → ℕ → Answer
sized n room = answer_by (λ rs. n) (λ rs. 7) (some smallest) room

limit : (sized 4096 40000 ≡ answer 4096 no_fault) × (sized 4097 40000 ≡ answer 4097 (fault 6 7 nowhere nowhere))
    × (sized 4097 0 ≡ answer 4097 (fault 6 7 nowhere nowhere)) × (sized 4096 32767 ≡ answer 4096 (placeless 7))
unfolding least_of lesser set_faults filter_faults entries_faults unless
limit = (refl, refl, refl, refl)

-- ---- where the fault is

-- some entries, and what is refused in them
record Faulty : Type 0 where
  entries : List Entry
  refused : Fault

abbrev faulty : List Entry → Fault → Faulty
faulty es f = record { entries = es; refused = f }

abbrev entry : ℕ → List Rule → Entry
entry n rules = record { number = n; rules = rules }

abbrev good : Condition
good = compared Eq Dword 5 1 0

abbrev bad : Condition
bad = compared Eq Dword 6 1 0

abbrev wide : Condition
wide = compared Eq Dword 5 (2 ^ 32) 0

abbrev same_fault : Fault → Fault → Bool
same_fault a b = eqb a.code b.code && eqb a.entry b.entry && eqb a.rule b.rule && eqb a.condition b.condition

abbrev faults : List Faulty
faults =
    faulty (plain 1 ∷ plain 3 ∷ plain 3 ∷ plain 2 ∷ []) (fault 2 2 nowhere nowhere)
    ∷ faulty (plain 9 ∷ plain 3 ∷ []) (fault 2 1 nowhere nowhere)
    ∷ faulty (entry 1 ((good ∷ []) ∷ []) ∷ entry 2 ((good ∷ []) ∷ [] ∷ [] ∷ []) ∷ entry 3 ([] ∷ []) ∷ []) (fault 4 1 1 nowhere)
    ∷ faulty (plain 0 ∷ entry 1 ((good ∷ []) ∷ (good ∷ good ∷ bad ∷ bad ∷ []) ∷ (bad ∷ []) ∷ []) ∷ []) (fault 5 1 1 2)
    ∷ faulty (entry 1 ((good ∷ wide ∷ []) ∷ []) ∷ []) (fault 8 0 0 1)
    -- the smallest number counts, wherever it stands
    ∷ faulty (entry 1 ((wide ∷ bad ∷ []) ∷ []) ∷ entry 2 ([] ∷ []) ∷ []) (fault 4 1 0 nowhere)
    ∷ faulty (entry 1 ((wide ∷ bad ∷ []) ∷ []) ∷ entry 2 ((bad ∷ []) ∷ []) ∷ []) (fault 5 0 0 1)
    ∷ faulty (entry 1 ([] ∷ []) ∷ plain 1 ∷ []) (fault 2 1 nowhere nowhere)
    ∷ faulty (plain 1 ∷ plain 2 ∷ []) no_fault
    ∷ []

abbrev faulty_holds : Faulty → Bool
faulty_holds w =
    same_fault (least_of no_fault (set_faults (record { architecture = x86_64; native_only = false; mismatch = errno 1; on_match = allow; entries = w.entries }))) w.refused

places : all faulty_holds faults ≡ true
unfolding least_of lesser set_faults entries_faults rule_faults count_faults condition_faults faults_of unless
places = refl

-- 4,096 instructions are short enough, one more is not: five for each number, five around them, eleven and twelve for the last
longest : (short_with emitted_size smallest (replicate 816 (plain 0) ++ ruled (compared MaskedEq Qword 0 1 1 ∷ [])) ≡ true)
    × (short_with emitted_size smallest (replicate 816 (plain 0) ++ ruled (compared MaskedEq Dword 0 1 1 ∷ compared Eq Qword 0 1 0 ∷ [])) ≡ false)
unfolding emitted head_code number_code guarded has_second_table numbers_code entry_code body_code rule_code rule_body conditions_code distance step_code step_distance helpers near condition_code high_part low_part high_tests low_tests
longest = (refl, refl)

-- by halves, where 0, 1, 2 and 4 pass: 4 does and 5 does not, though 3 did not before
turned : halved (one_of (0 ∷ 1 ∷ 2 ∷ 4 ∷ [])) 3 0 ≡ 4
unfolding halved one_of
turned = refl

-- 1,000 instructions for each entry: four are short enough
long_by : turns_long (λ (rs : RuleSet). 1000 * length rs.entries) (record { architecture = x86_64; native_only = false; mismatch = errno 1; on_match = allow; entries = replicate 9 (plain 0) }) ≡ 4
unfolding halved
long_by = refl

too_long : first_with (λ (es : List Entry). ltb (length es) 3) [] (replicate 5 (plain 0)) ≡ 2
unfolding first_with
too_long = refl
