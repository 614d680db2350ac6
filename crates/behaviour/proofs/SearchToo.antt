-- SEARCH TOO: a set that compiles as a list has no fault, and its search is no longer, so that it has none either.
use mathlib.Core.Path.{◌≡◌, ap, ◌∙◌}
use mathlib.Core.List.{List}
use mathlib.Core.Option.{some}
use Prim.Native.Nat.{ℕ, ◌*◌, ◌≤◌, ◌<◌}
use native.Mathlib.Omega.{arith}
use lib.ListN.{length}
use borrow.Author.Tests.{le-leb, lt-ltb}
use Rattle.definitions.specs.declared.Answer.{Answer}
use Rattle.definitions.specs.RuleSet.{RuleSet}
use Rattle.definitions.specs.Format.{read}
use Rattle.definitions.specs.Answer.{unless, too_many, filter_faults, least_of, refusal, answer, answer_by, search_answer_of}
use Rattle.theorems.specs.Outputs.{list}
use Rattle.theorems.proofs.Outputs.{compiles_in}
use Rattle.behaviour.specs.Statements.{SearchToo}

-- where nothing is refused and the filter is short enough, the answer is 0
no_fault_lem : (n long room : ℕ) (rs : RuleSet) → (refusal rs).code ≡ 0 → n < too_many → 8 * n ≤ room → (least_of (refusal rs) (filter_faults n long room)).code ≡ 0
unfolding least_of filter_faults unless
no_fault_lem n long room rs nothing short fits = rw (lt-ltb n too_many short, le-leb (8 * n) room fits) nothing

answered_zero : (size long : RuleSet → ℕ) (set : List ℕ) (room : ℕ) (rs : RuleSet) → read set ≡ some rs → (refusal rs).code ≡ 0
    → size rs < too_many → 8 * size rs ≤ room → (answer_by size long (read set) room).code ≡ 0
unfolding answer
answered_zero size long set room rs e nothing short fits = rw e (no_fault_lem (size rs) (long rs) room rs nothing short fits)

pub search_too : SearchToo
unfolding search_answer_of
search_too set before after other_before other_after r s p q more z =
    let k = compiles_in list set (length before) r p.answer z in
    let small = q.shorter k.0 in
    ap (λ (x : Answer). x.code) q.answer
    ∙ answered_zero _ _ set (length other_before) k.0 k.1.from k.1.nothing (omega (arith, small, k.1.short)) (omega (arith, small, k.1.fits, more))
