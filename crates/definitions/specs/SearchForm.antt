-- The filter as a search: another form of output than the emitted one, with the same meaning, never longer, and with as many
-- comparisons as halving takes. It is named so that every byte of a filter is fixed by its rule set. It need not be believed: what its
-- bytes do is said of the bytes themselves (record `Searched`), and proved from the theorems of crates/search_form.
--
-- Listed numbers are gathered into spans, a tree of comparisons finds the span of a call's number, and the tree is planted in front of
-- the code of all rules. It is written from the back: a place is a count of instructions from there to the filter's end, so that it
-- stays what it is while code grows in front.
use Rattle.std.specs.Prelude.{ℕ, zero, suc, ◌+◌, ◌-◌, ◌/◌, Bool, true, false, cond, not, ◌&&◌, ◌||◌, List, [], ◌∷◌, ◌++◌, eqb, leb, ltb, length, take, drop}
use Rattle.definitions.specs.declared.Instruction.{Instruction}
use Rattle.definitions.specs.RuleSet.{Rule, Entry, RuleSet}
use Rattle.definitions.specs.Emitted.{jump_by, if_equal, if_greater, if_at_least, return, headed, entry_body}

-- ---- how far things may be

-- Distances have 8 bits. A place further away than this gets a jump or a return in front, while there is still room for a few
-- instructions in between.
abbrev pub jump_reach : ℕ
jump_reach = 250

-- a block begins with a mismatch return this near, so that no comparison in it needs another one
abbrev pub block_reach : ℕ
block_reach = 200

-- the spans of a block, at most
abbrev pub block_spans : ℕ
block_spans = 5

-- the single numbers that are compared one after the other, at most
abbrev pub chain_spans : ℕ
chain_spans = 3

-- ---- the code of the rules: match action m, mismatch action d

-- those of all numbers, with a mismatch return as the last instruction
unfoldable pub bodies : ℕ → ℕ → List Entry → List Instruction
bodies m d [] = return d ∷ []
bodies m d (e ∷ es) = entry_body m d e.rules ++ bodies m d es

-- ---- spans: numbers that follow each other and lead to one destination

-- a return of the mismatch or of the match action, or rules that begin at a place
pub data Destination : Type 0 where
  to_mismatch to_match : Destination
  to_rules : ℕ → Destination

pub record Span : Type 0 where
  pub first : ℕ
  pub last : ℕ
  pub to : Destination

abbrev pub is_match : Destination → Bool
is_match to_mismatch = false
is_match to_match = true
is_match (to_rules at) = false

abbrev pub alone : ℕ → Destination → Span
alone n to = record { first = n; last = n; to = to }

-- a number without rules in front of others: in one span with those that follow it
unfoldable pub plain_spans : ℕ → List Span → List Span
plain_spans n [] = alone n to_match ∷ []
plain_spans n (s ∷ ss) =
    cond (eqb s.first (n + 1) && is_match s.to) (record { first = n; last = s.last; to = to_match } ∷ ss) (alone n to_match ∷ s ∷ ss)

-- a number with rules is a span by itself
unfoldable pub entry_spans : ℕ → List Rule → ℕ → List Span → List Span
entry_spans n [] at ss = plain_spans n ss
entry_spans n (r ∷ rs) at ss = alone n (to_rules at) ∷ ss

unfoldable pub spans : ℕ → ℕ → List Entry → List Span
spans m d [] = []
spans m d (e ∷ es) = entry_spans e.number e.rules (length (bodies m d (e ∷ es))) (spans m d es)

-- ---- the tree: comparisons of the call's number

pub data Comparison : Type 0 where
  equal at_least above : Comparison

-- a node goes to its first tree where the number compares so, else to its second
pub data Tree : Type 0 where
  leaf : Destination → Tree
  node : Comparison → ℕ → Tree → Tree → Tree
  block : Tree → Tree

-- The tests above leave numbers from `from` on, and below `end`, if that is not 0: so a test that they make is left out.
unfoldable pub ends_by : ℕ → ℕ → Bool
ends_by end n = ltb 0 end && leb end (n + 1)

-- from a span's first number on; numbers behind it go to `rest`
unfoldable pub up_to : ℕ → Span → Tree → Tree
up_to end s rest = cond (ends_by end s.last) (leaf s.to) (node above s.last rest (leaf s.to))

unfoldable pub link : ℕ → ℕ → Span → Tree → Tree
link from end s rest =
    cond (eqb s.first s.last) (node equal s.first (leaf s.to) rest)
    (cond (leb s.first from) (up_to end s rest)
    (node at_least s.first (up_to end s rest) (leaf to_mismatch)))

-- a few spans, one after the other
unfoldable pub chain : ℕ → ℕ → List Span → Tree
chain from end [] = leaf to_mismatch
chain from end (s ∷ ss) = link from end s (chain from end ss)

unfoldable pub singles : List Span → Bool
singles [] = true
singles (s ∷ ss) = eqb s.first s.last && singles ss

unfoldable pub few : List Span → Bool
few ss = leb (length ss) 1 || (leb (length ss) chain_spans && singles ss)

abbrev pub lower : List Span → List Span
lower ss = take (length ss / 2) ss

abbrev pub upper : List Span → List Span
upper ss = drop (length ss / 2) ss

unfoldable pub lowest : List Span → ℕ
lowest [] = 0
lowest (s ∷ ss) = s.first

abbrev pub middle : List Span → ℕ
middle ss = lowest (upper ss)

abbrev pub fits_block : List Span → Bool
fits_block ss = leb (length ss) block_spans

unfoldable pub block_if : Bool → Tree → Tree
block_if b t = cond b (block t) t

-- Spans are halved until few are left. `inside`: a block stands around them already. `elim` and not `cond`, so that only the branch
-- that is taken is computed.
unfoldable pub grow : ℕ → Bool → ℕ → ℕ → List Span → Tree
grow zero inside from end ss = block_if (not inside) (chain from end ss)
grow (suc fuel) inside from end ss =
    elim (few ss) [
      | true ↦ block_if (not inside) (chain from end ss)
      | false ↦
          block_if (fits_block ss && not inside)
          (node at_least (middle ss) (grow fuel (inside || fits_block ss) (middle ss) end (upper ss))
          (grow fuel (inside || fits_block ss) from (middle ss) (lower ss)))
    ]

-- ---- planting: a tree in front of code

-- code, the places of its nearest returns (0: there is none yet), and the place where it is entered
pub record Form : Type 0 where
  pub code : List Instruction
  pub match_return : ℕ
  pub mismatch_return : ℕ
  pub at : ℕ

-- code, and a place in it that a comparison in front may jump to
pub record Spot : Type 0 where
  pub code : List Instruction
  pub at : ℕ

-- how far a place is from the front of `count` instructions; one that is missing is out of every reach
unfoldable pub away : ℕ → ℕ → ℕ
away count zero = 256
away count (suc at) = count - suc at

abbrev pub in_front : Instruction → List Instruction → Spot
in_front i p = record { code = i ∷ p; at = suc (length p) }

-- a place of the code, by a jump in front where it is too far
unfoldable pub near_place : ℕ → List Instruction → Spot
near_place at p = cond (ltb jump_reach (length p - at)) (in_front (jump_by (length p - at)) p) (record { code = p; at = at })

-- a return of `action`, by a new one in front where the last one is further than z
unfoldable pub near_return : ℕ → ℕ → ℕ → List Instruction → Spot
near_return z action at p = cond (ltb z (away (length p) at)) (in_front (return action) p) (record { code = p; at = at })

unfoldable pub plant_leaf : ℕ → ℕ → Destination → Form → Form
plant_leaf m d to_mismatch f =
    let s : Spot = near_return jump_reach d f.mismatch_return f.code in
    record { code = s.code; match_return = f.match_return; mismatch_return = s.at; at = s.at }
plant_leaf m d to_match f =
    let s : Spot = near_return jump_reach m f.match_return f.code in
    record { code = s.code; match_return = s.at; mismatch_return = f.mismatch_return; at = s.at }
plant_leaf m d (to_rules at) f =
    let s : Spot = near_place at f.code in
    record { code = s.code; match_return = f.match_return; mismatch_return = f.mismatch_return; at = s.at }

unfoldable pub open_block : ℕ → Form → Form
open_block d f =
    let s : Spot = near_return block_reach d f.mismatch_return f.code in
    record { code = s.code; match_return = f.match_return; mismatch_return = s.at; at = s.at }

unfoldable pub comparing : Comparison → ℕ → ℕ → ℕ → Instruction
comparing equal n hit miss = if_equal n hit miss
comparing at_least n hit miss = if_at_least n hit miss
comparing above n hit miss = if_greater n hit miss

-- a comparison in front, with its hits at a place, and its misses where the form is entered
unfoldable pub compare_first : Comparison → ℕ → ℕ → Form → Form
compare_first t n hit f =
    let s : Spot = near_place hit f.code in
    record {
      code = comparing t n (length s.code - s.at) (length s.code - f.at) ∷ s.code;
      match_return = f.match_return;
      mismatch_return = f.mismatch_return;
      at = suc (length s.code);
    }

unfoldable pub plant : ℕ → ℕ → Tree → Form → Form
plant m d (leaf to) f = plant_leaf m d to f
plant m d (node t n hit miss) f = let g : Form = plant m d hit f in compare_first t n g.at (plant m d miss g)
plant m d (block t) f = plant m d t (open_block d f)

-- ---- the whole filter

-- the rules, with the last instruction as their mismatch return
unfoldable pub ground : ℕ → ℕ → List Entry → Form
ground m d es = record { code = bodies m d es; match_return = 0; mismatch_return = 1; at = 1 }

unfoldable pub tree : ℕ → ℕ → List Entry → Tree
tree m d es = grow (length (spans m d es)) false 0 0 (spans m d es)

-- A tree of spans begins with a comparison, so that it is entered at the front. With nothing listed the code is the last return alone.
unfoldable pub planted : ℕ → ℕ → List Entry → List Instruction
planted m d es = (plant m d (tree m d es) (ground m d es)).code

-- behind the head that the emitted form has
unfoldable pub search_form : RuleSet → List Instruction
search_form rs = headed rs (planted rs.on_match rs.mismatch rs.entries)
