-- Which answer a byte string and an output buffer get. All that is wrong with a rule set or its filter is a list of faults, in the order
-- of the bytes, each with a number and a place; the answer is the one with the smallest number, and of those the first. With 0, 6 and 7
-- comes the number of instructions; with the others 0.
--
--   0  compiled
--   1  not of the format
--   2  entries not strictly ascending by call number
--   3  both actions equal
--   4  a rule without conditions
--   5  an argument index above 5
--   6  too many instructions
--   7  the output buffer is too short
--   8  a dword condition whose value or mask has more than 32 bits
use Rattle.std.specs.Prelude.{ℕ, zero, suc, ◌+◌, ◌*◌, ◌^◌, Bool, true, false, cond, not, ◌&&◌, ◌||◌, List, [], ◌∷◌, ◌++◌, eqb, leb, ltb, length, take}
use Rattle.std.proofs.Math.Option.{Option, none, some}
use Rattle.definitions.specs.declared.Width.{Width}
use Rattle.definitions.specs.declared.Width.TheVariants.{Dword, Qword}
use Rattle.definitions.specs.declared.Condition.{Condition}
use Rattle.definitions.specs.declared.Fault.{Fault}
use Rattle.definitions.specs.declared.Answer.{Answer}
use Rattle.definitions.specs.RuleSet.{Rule, Entry, RuleSet, with_entries}
use Rattle.definitions.specs.Emitted.{emitted}
use Rattle.definitions.specs.SearchForm.{search_form}
use Rattle.definitions.specs.Format.{read}

-- ---- what is asked of conditions and rules

abbrev pub index_taken : Condition → Bool
index_taken q = leb q.index 5

-- a number that a condition of this width looks at whole
abbrev pub seen_whole : Width → ℕ → Bool
seen_whole Dword x = leb x 0xffffffff
seen_whole Qword x = true

abbrev pub fits_width : Condition → Bool
fits_width q = seen_whole q.width q.value && seen_whole q.width q.mask

abbrev pub has_conditions : Rule → Bool
has_conditions qs = not (eqb (length qs) 0)

-- ---- a fault: its number, and its entry, rule and condition, counted from 0

abbrev pub fault : ℕ → ℕ → ℕ → ℕ → Fault
fault code e r c = record { code = code; entry = e; rule = r; condition = c }

-- what stands for a number that does not apply
abbrev pub nowhere : ℕ
nowhere = 0xffffffff

-- a fault that has no place, and none at all
abbrev pub placeless : ℕ → Fault
placeless code = fault code nowhere nowhere nowhere

abbrev pub no_fault : Fault
no_fault = placeless 0

-- ---- the faults of a rule set

unfoldable pub unless : Bool → Fault → List Fault
unless true f = []
unless false f = f ∷ []

-- those of some parts, counted from n
unfoldable pub faults_of : {A : Type 0} → (ℕ → A → List Fault) → ℕ → List A → List Fault
faults_of f n [] = []
faults_of f n (x ∷ xs) = f n x ++ faults_of f (suc n) xs

unfoldable pub condition_faults : ℕ → ℕ → ℕ → Condition → List Fault
condition_faults e r c q =
    unless (index_taken q) (fault 5 e r c)
    ++ unless (fits_width q) (fault 8 e r c)

-- of a rule with so many conditions
unfoldable pub count_faults : ℕ → ℕ → ℕ → List Fault
count_faults e r n = unless (not (eqb n 0)) (fault 4 e r nowhere)

unfoldable pub rule_faults : ℕ → ℕ → Rule → List Fault
rule_faults e r qs = count_faults e r (length qs) ++ faults_of (condition_faults e r) 0 qs

-- those of the entries from the e-th on, of which the first may have this number at least
unfoldable pub entries_faults : ℕ → ℕ → List Entry → List Fault
entries_faults least e [] = []
entries_faults least e (x ∷ xs) =
    unless (leb least x.number) (fault 2 e nowhere nowhere)
    ++ (faults_of (rule_faults e) 0 x.rules ++ entries_faults (x.number + 1) (suc e) xs)

unfoldable pub set_faults : RuleSet → List Fault
set_faults rs = unless (not (eqb rs.mismatch rs.on_match)) (placeless 3) ++ entries_faults 0 0 rs.entries

-- ---- those of its filter

-- the kernel takes 4,096 instructions (BPF_MAXINSNS); a filter of this many, or more, is refused
abbrev pub too_many : ℕ
too_many = 4097

-- of n instructions; `long` is the entry that is told where they are too many
unfoldable pub filter_faults : ℕ → ℕ → ℕ → List Fault
filter_faults n long room = unless (ltb n too_many) (fault 6 long nowhere nowhere) ++ unless (leb (8 * n) room) (placeless 7)

-- how many entries stand in front of the first with which those up to it do not pass
unfoldable pub first_with : (List Entry → Bool) → List Entry → List Entry → ℕ
first_with f seen [] = 0
first_with f seen (e ∷ es) = cond (f (seen ++ (e ∷ []))) (suc (first_with f (seen ++ (e ∷ [])) es)) 0

-- whether a filter of `size` instructions is short enough with these entries
abbrev pub short_with : (RuleSet → ℕ) → RuleSet → List Entry → Bool
short_with size rs es = ltb (size (with_entries rs es)) too_many

-- how many instructions are emitted, the last return included
abbrev pub emitted_size : RuleSet → ℕ
emitted_size rs = length (emitted rs)

-- the first entry with which the emitted filter is too long
abbrev pub too_long : RuleSet → ℕ
too_long rs = first_with (short_with emitted_size rs) [] rs.entries

-- Where a test turns, by halves: n passes and n + 2 ^ k does not, and so it is with the number that comes out and the next one.
unfoldable pub halved : (ℕ → Bool) → ℕ → ℕ → ℕ
halved f zero n = n
halved f (suc k) n = halved f k (cond (f (n + 2 ^ k)) (n + 2 ^ k) n)

-- an entry with which a filter gets too long that may also get shorter by one. A set has fewer than 2 ^ 17 entries.
abbrev pub turns_long : (RuleSet → ℕ) → RuleSet → ℕ
turns_long size rs = halved (λ n. short_with size rs (take n rs.entries)) 17 0

-- ---- the least

-- what was found so far, and one more
unfoldable pub lesser : Fault → Fault → Fault
lesser a b = cond (eqb a.code 0 || ltb b.code a.code) b a

unfoldable pub least_of : Fault → List Fault → Fault
least_of a [] = a
least_of a (f ∷ fs) = least_of (lesser a f) fs

-- what is refused in a rule set, whatever its filter's length
abbrev pub refusal : RuleSet → Fault
refusal rs = least_of no_fault (set_faults rs)

-- ---- the answer

-- how many instructions are told of n
abbrev pub count_with : ℕ → ℕ → ℕ
count_with code n = cond (eqb code 0 || eqb code 6 || eqb code 7) n 0

unfoldable pub answer : ℕ → Fault → Answer
answer n f = record { code = f.code; count = count_with f.code n; entry = f.entry; rule = f.rule; condition = f.condition }

-- for a rule set whose filter has `size` instructions; `long` is the entry that is told where it is too long
abbrev pub answer_by : (RuleSet → ℕ) → (RuleSet → ℕ) → Option RuleSet → ℕ → Answer
answer_by size long none room = answer 0 (placeless 1)
answer_by size long (some rs) room = answer (size rs) (least_of (refusal rs) (filter_faults (size rs) (long rs) room))

-- the answer for a byte string and a buffer of `room` bytes
unfoldable pub answer_of : List ℕ → ℕ → Answer
answer_of bs room = answer_by emitted_size too_long (read bs) room

-- the same where the filter is a search; it may get shorter by an entry
abbrev pub search_size : RuleSet → ℕ
search_size rs = length (search_form rs)

unfoldable pub search_answer_of : List ℕ → ℕ → Answer
search_answer_of bs room = answer_by search_size (turns_long search_size) (read bs) room

-- ---- what it is to have none of the faults, by the number: what theorems speak of

abbrev pub all : {A : Type 0} → (A → Bool) → List A → Bool
all f [] = true
all f (x ∷ xs) = f x && all f xs

unfoldable pub ascending : List Entry → Bool
ascending [] = true
ascending (e ∷ []) = true
ascending (e ∷ (f ∷ es)) = ltb e.number f.number && ascending (f ∷ es)

-- what every rule of every entry passes
abbrev pub every_rule : (Rule → Bool) → RuleSet → Bool
every_rule f rs = all (λ (e : Entry). all f e.rules) rs.entries

abbrev pub rules_filled : RuleSet → Bool
rules_filled rs = every_rule has_conditions rs

abbrev pub indices_taken : RuleSet → Bool
indices_taken rs = every_rule (all index_taken) rs

abbrev pub widths_fit : RuleSet → Bool
widths_fit rs = every_rule (all fits_width) rs
