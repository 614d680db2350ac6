-- A form while it is written: its marks, which are all that the code carries, and its instructions in the buffer. A function that
-- writes says that it takes whatever form the marks are those of to another one.
use Rattle.std.specs.Prelude.{◌≡◌, Bool, cond, List, ℕ, ◌+◌, ◌*◌, ◌≤◌, ◌<◌, length, Option, Some, None, IfSome}
use Rattle.definitions.specs.declared.Instruction.{Instruction}
use Rattle.definitions.specs.Word.{number_at}
use Rattle.definitions.specs.Machine.{filter_bytes}
use Rattle.bpf.specs.Place.{place_before}
use Rattle.definitions.specs.RuleSet.{RuleSet, with_entries}
use Rattle.set_view.specs.Parts.{entries_here, set_here}
use Rattle.definitions.specs.SearchForm.{Form, Spot, near_return, open_block, planted}
use Rattle.search_writer.specs.declared.Marks.{Marks}
use Rattle.search_writer.specs.declared.Reached.{Reached}

-- instructions end at a place of the buffer, which was z before, if there is room for them. Where there is none, nothing is said: so
-- that writing into no room at all is counting.
pub record Ends (z : List ℕ) (end : ℕ) (p : List Instruction) (out : List ℕ) : Type 0 where
  pub room : end ≤ length z
  pub there : 8 * length p ≤ end → out ≡ place_before z end (filter_bytes p)

-- a return, if there is one, is in a code of n instructions
abbrev pub Inside : ℕ → Option ℕ → Type 0
Inside n place = IfSome place (λ at. (0 < at) × (at ≤ n))

-- its place as a form has it, 0 where there is none
abbrev pub place_of : Option ℕ → ℕ
place_of None = 0
place_of (Some at) = at

pub record Holds (z : List ℕ) (end : ℕ) (f : Form) (k : Marks) (out : List ℕ) : Type 0 where
  pub count : length f.code ≡ k.count
  pub hit : f.match_return ≡ place_of k.hit
  pub miss : f.mismatch_return ≡ place_of k.miss
  pub at : f.at ≡ k.at
  pub code : Ends z end f.code out

abbrev pub Makes : ℕ → Marks → Marks → List ℕ → List ℕ → (Form → Form) → Type 0
Makes end k r old new step = (z : List ℕ) (f : Form) → Holds z end f k old → Holds z end (step f) r new

-- the same of a place to jump to
pub record Reaches (end n : ℕ) (old new : List ℕ) (r : Reached) (step : List Instruction → Spot) : Type 0 where
  pub code : (z : List ℕ) (p : List Instruction) → length p ≡ n → Ends z end p old → Ends z end (step p).code new
  pub count : (p : List Instruction) → length p ≡ n → length (step p).code ≡ r.count
  pub at : (p : List Instruction) → length p ≡ n → (step p).at ≡ r.at
  pub inside : r.at ≤ r.count
  pub near : r.count ≤ r.at + 250
  pub less : n ≤ r.count
  pub most : r.count ≤ n + 1

-- a mismatch return within z, and the form entered there: a leaf, or the beginning of a block
unfoldable pub to_return : ℕ → ℕ → Form → Form
to_return z d f =
    let s : Spot = near_return z d f.mismatch_return f.code in
    record { code = s.code; match_return = f.match_return; mismatch_return = s.at; at = s.at }

-- a block begins here, or not
unfoldable pub open_if : Bool → ℕ → Form → Form
open_if b d f = cond b (open_block d f) f

-- what is asked of marks: the returns are in the code, and so many instructions more are not too many to be counted
pub record Ready (end more : ℕ) (k : Marks) (out : List ℕ) : Type 0 where
  pub room : end ≤ length out
  pub hit : Inside k.count k.hit
  pub miss : Inside k.count k.miss
  pub small : k.count + more ≤ 16777216

-- what comes of it: no more than so many were added, and the form is entered nearby
pub record Grew (more : ℕ) (k r : Marks) : Type 0 where
  pub hit : Inside r.count r.hit
  pub miss : Inside r.count r.miss
  pub at : r.at ≤ r.count
  pub near : r.count ≤ r.at + 250
  pub less : k.count ≤ r.count
  pub most : r.count ≤ k.count + more

-- ---- a whole set, from its bytes

-- the tree of its n entries, in front of the code of their rules
abbrev pub planted_here : List ℕ → ℕ → List Instruction
planted_here s n = planted (number_at 4 s 8) (number_at 4 s 4) (entries_here s n 16)

-- its first n entries alone
abbrev pub first_here : List ℕ → ℕ → RuleSet
first_here s n = with_entries (set_here s) (entries_here s n 16)
