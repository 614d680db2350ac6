-- FAULTLESS: a set of the format without a fault of its own gets 0, or 6 or 7 by the length of its filter.
use mathlib.Core.Path.{◌≡◌, refl}
use mathlib.Core.Bool.{Bool, true, false, cond}
use mathlib.Core.List.{◌++◌}
use Prim.Native.Nat.{ℕ, ◌*◌}
use lib.Dec.{leb, ltb}
use borrow.Author.Tests.{le-leb, lt-leb, le-ltb, lt-ltb, leb-true, leb-false, ltb-true, ltb-false}
use Rattle.definitions.specs.Answer.{fault, nowhere, placeless, no_fault, unless, too_many, filter_faults, lesser, least_of, refusal, count_with, answer}
use Rattle.theorems.specs.Outputs.{size_in, long_in}
use Rattle.theorems.specs.Statements.{Faultless}
use Rattle.theorems.proofs.Answers.{nothing_wrong}
use Rattle.theorems.proofs.Outputs.{answer_in_lem}

-- the filter's own faults, as the first of two numbers
filter_code : (n long room : ℕ)
    → ((least_of no_fault (filter_faults n long room)).code ≡ cond (leb too_many n) 6 (cond (ltb room (8 * n)) 7 0))
    × (count_with (least_of no_fault (filter_faults n long room)).code n ≡ n)
unfolding filter_faults unless least_of lesser
filter_code n long room = go (ltb n too_many) refl (leb (8 * n) room) refl
  where
    go : (a : Bool) → ltb n too_many ≡ a → (b : Bool) → leb (8 * n) room ≡ b
        → ((least_of no_fault (unless a (fault 6 long nowhere nowhere) ++ unless b (placeless 7))).code ≡ cond (leb too_many n) 6 (cond (ltb room (8 * n)) 7 0))
        × (count_with (least_of no_fault (unless a (fault 6 long nowhere nowhere) ++ unless b (placeless 7))).code n ≡ n)
    go true p true q = rw (lt-leb too_many n (ltb-true n too_many p), le-ltb room (8 * n) (leb-true (8 * n) room q)) (refl, refl)
    go true p false q = rw (lt-leb too_many n (ltb-true n too_many p), lt-ltb room (8 * n) (leb-false (8 * n) room q)) (refl, refl)
    go false p true q = rw (le-leb too_many n (ltb-false n too_many p)) (refl, refl)
    go false p false q = rw (le-leb too_many n (ltb-false n too_many p)) (refl, refl)

pub faultless : Faultless
unfolding answer
faultless o set rs e up differ filled indexed whole room =
    let none : refusal rs ≡ no_fault = unfold least_of in rw (nothing_wrong rs up differ filled indexed whole) in
    rw (answer_in_lem o set room, e, none) (filter_code (size_in o rs) (long_in o rs) room)
