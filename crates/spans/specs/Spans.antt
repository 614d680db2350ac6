-- The spans of a rule set, read from its bytes from a cursor on: what is there, and what a function that passes one of them says.
use Rattle.std.specs.Prelude.{◌≡◌, List, ◌∷◌, ℕ, ◌≤◌, ◌<◌, length, Option, Some, None, IfSome}
use Rattle.definitions.specs.Word.{number_at}
use Rattle.definitions.specs.SearchForm.{Destination, to_match, to_rules, Span, plain_spans, spans}
use Rattle.search_bodies.specs.Here.{bodies_here}
use Rattle.set_view.specs.Parts.{most_bytes, entries_here, entries_past, entry_here}
use Rattle.spans.specs.declared.Standing.{Standing}
use Rattle.spans.specs.declared.Run.{Run}

-- the spans of n entries from a place, in the set's own actions
abbrev pub spans_here : List ℕ → ℕ → ℕ → List Span
spans_here s n at = spans (number_at 4 s 8) (number_at 4 s 4) (entries_here s n at)

-- the same from a cursor on
abbrev pub spans_from : List ℕ → Standing → List Span
spans_from s c = spans_here s c.left c.at

-- a cursor that stands in the set, and knows the place of the rules that are left
pub record Stands (s : List ℕ) (c : Standing) : Type 0 where
  pub inside : entries_past s c.left c.at ≤ length s
  pub size : length s ≤ most_bytes
  pub place : length (bodies_here s c.left c.at) ≡ c.place

-- the first of the entries is passed
pub record Passes (s : List ℕ) (c r : Standing) : Type 0 where
  pub entries : entries_here s c.left c.at ≡ entry_here s c.at ∷ entries_here s r.left r.at
  pub stands : Stands s r
  pub fewer : r.left < c.left
  pub behind : r.place ≤ c.place

-- where the numbers of a run go: to the place of its rules, or, where there are none, to a match return
abbrev pub destination : Option ℕ → Destination
destination None = to_match
destination (Some at) = to_rules at

abbrev pub span_of : Run → Span
span_of r = record { first = r.first; last = r.last; to = destination r.place }

-- a place, if there is one, is no further from the end than n instructions are
abbrev pub Within : ℕ → Option ℕ → Type 0
Within n place = IfSome place (λ at. at ≤ n)

-- a number without rules, with those behind it that follow it
pub record Gathers (s : List ℕ) (c : Standing) (first : ℕ) (r : Run) : Type 0 where
  pub spans : plain_spans first (spans_from s c) ≡ span_of r ∷ spans_from s r.next
  pub stands : Stands s r.next
  pub fewer : r.next.left ≤ c.left
  pub behind : r.next.place ≤ c.place
  pub place : r.place ≡ None

-- the run that stands at a cursor
pub record IsNext (s : List ℕ) (c : Standing) (r : Run) : Type 0 where
  pub spans : spans_from s c ≡ span_of r ∷ spans_from s r.next
  pub stands : Stands s r.next
  pub fewer : r.next.left < c.left
  pub behind : r.next.place ≤ c.place
  pub place : Within c.place r.place
