-- Laws of spans that are halved until few are left, the first n of some that stand one behind the other.
use mathlib.Core.Path.{◌≡◌, refl, sym, ap, ◌∙◌}
use mathlib.Core.Bool.{Bool, true, false, not, ◌&&◌, ◌||◌}
use mathlib.Core.List.{List, [], ◌∷◌}
use Prim.Native.Nat.{ℕ, zero, suc, ◌-◌, ◌/◌, ◌≤◌, ◌<◌}
use native.Mathlib.Omega.{arith}
use borrow.Author.Tests.{lt-leb}
use lib.Dec.{leb}
use lib.ListN.{length, take, drop, length-drop}
use lib.Seq.{length-take-le, take-take}
use Rattle.theorems.proofs.Tests.{both_true}
use Rattle.definitions.specs.SearchForm.{Span, singles, few, lowest, chain, node, at_least, block_if, grow}
use Rattle.search_form.proofs.Grow.{few_not}

drop_take : (h n : ℕ) (xs : List Span) → h ≤ n → drop h (take n xs) ≡ take (n - h) (drop h xs)
drop_take zero n xs i = let e : n - zero ≡ n = omega arith in rw e
drop_take (suc h) zero xs i = absurd (omega arith)
drop_take (suc h) (suc n) [] i = nil (suc n - suc h)
  where
    nil : (k : ℕ) → ◌≡◌ {A = List Span} [] (take k [])
    nil zero = refl
    nil (suc k) = refl
drop_take (suc h) (suc n) (x ∷ xs) i = let e : suc n - suc h ≡ n - h = omega arith in rw e (drop_take h n xs (omega arith))

lowest_take : (n : ℕ) (xs : List Span) → 1 ≤ n → lowest (take n xs) ≡ lowest xs
unfolding lowest
lowest_take zero xs i = absurd (omega arith)
lowest_take (suc n) [] i = refl
lowest_take (suc n) (x ∷ xs) i = refl

module _ (n : ℕ) (xs : List Span) (i : n ≤ length xs) where
  few_is : few (take n xs) ≡ (leb n 1 || (leb n 3 && singles (take n xs)))
  unfolding few
  few_is = rw (length-take-le n xs i)

  -- few spans that are more than one are single numbers
  pub few_singles : few (take n xs) ≡ true → 1 < n → singles (take n xs) ≡ true
  few_singles e h =
      let a = rw (few_is, lt-leb n 1 h) at e in
      (both_true (leb n 3) (singles (take n xs)) a).1

  pub many : few (take n xs) ≡ false → 2 ≤ n
  many e = rw (length-take-le n xs i) at (few_not (take n xs) e)

pub grow_few : (fuel : ℕ) (inside : Bool) (from end : ℕ) (ss : List Span) → few ss ≡ true
    → grow fuel inside from end ss ≡ block_if (not inside) (chain from end ss)
unfolding grow
grow_few zero inside from end ss e = refl
grow_few (suc fuel) inside from end ss e = rw (e, grow)

halved : (fuel : ℕ) (inside : Bool) (from end : ℕ) (ss : List Span) (n : ℕ) → few ss ≡ false → length ss ≡ n → 1 ≤ fuel
    → grow fuel inside from end ss
    ≡ block_if (leb n 5 && not inside)
    (node at_least (lowest (drop (n / 2) ss)) (grow (fuel - 1) (inside || leb n 5) (lowest (drop (n / 2) ss)) end (drop (n / 2) ss))
    (grow (fuel - 1) (inside || leb n 5) from (lowest (drop (n / 2) ss)) (take (n / 2) ss)))
unfolding grow
halved zero inside from end ss n e l h = absurd (omega arith)
halved (suc fuel) inside from end ss n e l h = let q : suc fuel - 1 ≡ fuel = omega arith in rw (q, ← l, e, grow)

pub grow_halves : (fuel : ℕ) (inside within : Bool) (from end middle n : ℕ) (xs ys : List Span) → few (take n xs) ≡ false → n ≤ length xs → n ≤ fuel
    → ys ≡ drop (n / 2) xs → lowest ys ≡ middle → within ≡ (inside || leb n 5)
    → grow fuel inside from end (take n xs)
    ≡ block_if (leb n 5 && not inside)
    (node at_least middle (grow (fuel - 1) within middle end (take (n - n / 2) ys)) (grow (fuel - 1) within from middle (take (n / 2) xs)))
grow_halves fuel inside within from end middle n xs ys e i f y low w =
    let two = many n xs i e in
    let u : drop (n / 2) (take n xs) ≡ take (n - n / 2) ys = drop_take (n / 2) n xs (omega arith) ∙ ap (λ (l : List Span). take (n - n / 2) l) (sym y) in
    let l : take (n / 2) (take n xs) ≡ take (n / 2) xs = take-take (n / 2) n xs (omega arith) in
    let m : lowest (take (n - n / 2) ys) ≡ middle = lowest_take (n - n / 2) ys (omega arith) ∙ low in
    rw (halved fuel inside from end (take n xs) n e (length-take-le n xs i) (omega arith), u, l, m, w)

pub upper_long : (n : ℕ) (xs ys : List Span) → n ≤ length xs → ys ≡ drop (n / 2) xs → n - n / 2 ≤ length ys
upper_long n xs ys i y = rw (y, length-drop) (omega arith)
