-- The filter as a search in the rules too: a number's rules are ORed, so that their order does not matter. Rules that are alike, with
-- equalities on the same arguments, are searched word by word: a word is loaded once, a tree of comparisons finds its value, and what is
-- left of that value's rules is searched by the next word. The other rules are tried before, one by one. The tree and how it is planted
-- are those of the search for the number, and so is what leads to a match: a value with no rule left.
use Rattle.std.specs.Prelude.{ℕ, suc, Bool, true, false, cond, ◌&&◌, List, [], ◌∷◌, ◌++◌, eqb, leb, ltb, length}
use Rattle.definitions.specs.declared.Operator.{Operator}
use Rattle.definitions.specs.declared.Operator.TheVariants.{Eq, Ge, Gt, Le, Lt, MaskedEq, Ne}
use Rattle.definitions.specs.declared.Width.{Width}
use Rattle.definitions.specs.declared.Width.TheVariants.{Dword, Qword}
use Rattle.definitions.specs.declared.Condition.{Condition}
use Rattle.definitions.specs.declared.Instruction.{Instruction}
use Rattle.definitions.specs.Word.{low, high}
use Rattle.definitions.specs.RuleSet.{Rule, Entry, RuleSet}
use Rattle.definitions.specs.Emitted.{load, return, low_at, high_at, headed, rule_bodies}
use Rattle.definitions.specs.SearchForm.{Span, alone, plain_spans, to_rules, grow, Form, plant}

-- ---- what of a rule is looked at

unfoldable pub is_equality : Operator → Bool
is_equality Eq = true
is_equality Ge = false
is_equality Gt = false
is_equality Le = false
is_equality Lt = false
is_equality MaskedEq = false
is_equality Ne = false

unfoldable pub same_width : Width → Width → Bool
same_width Dword Dword = true
same_width Dword Qword = false
same_width Qword Dword = false
same_width Qword Qword = true

-- a word of an argument: of a dword the low one is looked at, of a qword first the high one
pub record Look : Type 0 where
  pub index : ℕ
  pub width : Width

unfoldable pub word_at : Width → ℕ → ℕ
word_at Dword i = low_at i
word_at Qword i = high_at i

unfoldable pub half : Width → ℕ → ℕ
half Dword x = low x
half Qword x = high x

-- an equality on that argument, of that width
unfoldable pub looks_at : Look → Condition → Bool
looks_at k q = eqb q.index k.index && (same_width k.width q.width && is_equality q.operator)

abbrev pub as_dword : Condition → Condition
as_dword q = record { index = q.index; width = Dword; operator = Eq; value = q.value; mask = q.mask }

-- what of an equality is left once that word is known: of a qword the low word
unfoldable pub left_of : Width → Condition → Rule
left_of Dword q = []
left_of Qword q = as_dword q ∷ []

-- whether a rule looks at just these words, in this order
unfoldable pub alike : List Look → Rule → Bool
alike [] [] = true
alike [] (q ∷ qs) = false
alike (k ∷ ks) [] = false
alike (k ∷ ks) (q ∷ qs) = looks_at k q && alike ks (left_of k.width q ++ qs)

-- the words of a condition, and of a rule
unfoldable pub condition_looks : Width → ℕ → List Look
condition_looks Dword i = record { index = i; width = Dword } ∷ []
condition_looks Qword i = record { index = i; width = Qword } ∷ record { index = i; width = Dword } ∷ []

unfoldable pub looks : Rule → List Look
looks [] = []
looks (q ∷ qs) = condition_looks q.width q.index ++ looks qs

-- ---- the values of a word, going up, each with the rules that are left: with none it matches

unfoldable pub only : Rule → List Rule
only [] = []
only (q ∷ qs) = (q ∷ qs) ∷ []

unfoldable pub joining : Rule → List Rule → List Rule
joining [] rs = []
joining (q ∷ qs) [] = []
joining (q ∷ qs) (r ∷ rs) = (q ∷ qs) ∷ r ∷ rs

abbrev pub valued : ℕ → List Rule → Entry
valued v rs = record { number = v; rules = rs }

unfoldable pub add_case : ℕ → Rule → List Entry → List Entry
add_case v r [] = valued v (only r) ∷ []
add_case v r (e ∷ es) =
    cond (ltb v e.number) (valued v (only r) ∷ e ∷ es)
    (cond (eqb v e.number) (valued v (joining r e.rules) ∷ es) (e ∷ add_case v r es))

-- by the rule's first condition; alike rules have one
unfoldable pub by_first : Width → Rule → List Entry → List Entry
by_first w [] es = es
by_first w (q ∷ qs) es = add_case (half w q.value) (left_of w q ++ qs) es

unfoldable pub cases : Width → List Rule → List Entry
cases w [] = []
cases w (r ∷ rs) = by_first w r (cases w rs)

-- ---- entries in front of a form: the code of their rules, and the spans that lead there

pub record Laid : Type 0 where
  pub form : Form
  pub spans : List Span

unfoldable pub lay_entry : (List Rule → Form → Form) → ℕ → List Rule → Laid → Laid
lay_entry put n [] l = record { form = l.form; spans = plain_spans n l.spans }
lay_entry put n (r ∷ rs) l =
    let g : Form = put (r ∷ rs) l.form in
    record { form = g; spans = alone n (to_rules g.at) ∷ l.spans }

unfoldable pub lay : (List Rule → Form → Form) → List Entry → Form → Laid
lay put [] f = record { form = f; spans = [] }
lay put (e ∷ es) f = lay_entry put e.number e.rules (lay put es f)

-- the tree of the spans in front of the code
unfoldable pub grown : ℕ → ℕ → Laid → Form
grown m d l = plant m d (grow (length l.spans) false 0 0 l.spans) l.form

-- ---- the rules of a number: match action m, mismatch action d

-- code in front, which is entered at its front
unfoldable pub fronted : List Instruction → Form → Form
fronted p f = record { code = p ++ f.code; match_return = f.match_return; mismatch_return = f.mismatch_return; at = length (p ++ f.code) }

unfoldable pub mismatching : ℕ → Form → Form
mismatching d f = record { code = return d ∷ f.code; match_return = f.match_return; mismatch_return = suc (length f.code); at = suc (length f.code) }

-- one after the other, as the search for the number alone has them
unfoldable pub one_by_one : ℕ → ℕ → List Rule → Form → Form
one_by_one m d rs f = fronted (rule_bodies m rs) (mismatching d f)

-- rules that look at just these words
unfoldable pub searched : List Look → ℕ → ℕ → List Rule → Form → Form
searched [] m d rs f = one_by_one m d rs f
searched (k ∷ ks) m d rs f = fronted (load (word_at k.width k.index) ∷ []) (grown m d (lay (searched ks m d) (cases k.width rs) f))

-- as many words as a call has, and as many rules as a filter has instructions
abbrev pub words_most : ℕ
words_most = 12

abbrev pub rules_most : ℕ
rules_most = 4096

-- a rule of equalities only, on few enough words
unfoldable pub patterned : Rule → Bool
patterned r = alike (looks r) r && leb (length (looks r)) words_most

-- the words of the first such rule
unfoldable pub pattern : List Rule → List Look
pattern [] = []
pattern (r ∷ rs) = cond (patterned r) (looks r) (pattern rs)

unfoldable pub alikes : List Look → List Rule → List Rule
alikes ks [] = []
alikes ks (r ∷ rs) = cond (alike ks r) (r ∷ alikes ks rs) (alikes ks rs)

unfoldable pub others : List Look → List Rule → List Rule
others ks [] = []
others ks (r ∷ rs) = cond (alike ks r) (others ks rs) (r ∷ others ks rs)

-- those that are alike are searched, the others tried before
unfoldable pub by_words : ℕ → ℕ → List Look → List Rule → List Rule → List Rule → Form → Form
by_words m d ks [] rest rs f = one_by_one m d rs f
by_words m d ks (a ∷ more) rest rs f = fronted (rule_bodies m rest) (searched ks m d (a ∷ more) f)

unfoldable pub ruled : ℕ → ℕ → List Rule → Form → Form
ruled m d rs f = let ks : List Look = pattern rs in by_words m d ks (alikes ks rs) (others ks rs) rs f

-- whichever is shorter
unfoldable pub shorter_of : Form → Form → Form
shorter_of f g = cond (leb (length f.code) (length g.code)) f g

unfoldable pub entry_form : ℕ → ℕ → List Rule → Form → Form
entry_form m d rs f = cond (leb (length rs) rules_most) (shorter_of (ruled m d rs f) (one_by_one m d rs f)) (one_by_one m d rs f)

-- ---- the whole filter

unfoldable pub bottom : ℕ → Form
bottom d = record { code = return d ∷ []; match_return = 0; mismatch_return = 1; at = 1 }

unfoldable pub rules_planted : ℕ → ℕ → List Entry → Form
rules_planted m d es = grown m d (lay (entry_form m d) es (bottom d))

unfoldable pub rules_form : RuleSet → List Instruction
rules_form rs = headed rs (rules_planted rs.on_match rs.mismatch rs.entries).code
