-- The tree of some spans: one way to prove things of it, and that it finds what the spans say.
use mathlib.Core.Path.{◌≡◌, refl, ◌∙◌, sym}
use mathlib.Core.Bool.{Bool, true, false, cond, not, ◌&&◌, ◌||◌}
use mathlib.Core.List.{List, [], ◌∷◌}
use Prim.Native.Nat.{ℕ, zero, suc, ◌+◌, ◌-◌, ◌/◌, ◌≤◌, ◌<◌}
use native.Mathlib.Omega.{arith}
use lib.Dec.{eqb, leb, ltb}
use lib.ListN.{length, take, drop, length-take, length-drop}
use borrow.Author.Tests.{ltb-true, ltb-false, leb-true, leb-false, eqb-true, eqb-false, le-leb, lt-leb}
use Rattle.theorems.proofs.Tests.{both_true, either_true}
use Rattle.definitions.specs.SearchForm.{chain_spans, Destination, to_mismatch, Span, Comparison, equal, at_least, above, Tree, leaf, node, block, ends_by, up_to, link, chain, singles, few, lower, upper, lowest, middle, fits_block, block_if, grow}
use Rattle.search_form.proofs.Cases.{cond_case, elim_case}

-- ---- few spans, and two halves

abbrev pub is_single : Span → Bool
is_single s = eqb s.first s.last

pub few_most : (ss : List Span) → few ss ≡ true → length ss ≤ chain_spans
unfolding few
few_most ss q = either_true (leb (length ss) 1) _ (λ a. let x = leb-true (length ss) 1 a in omega arith) (λ a. leb-true _ _ (both_true _ _ a).0) q

pub few_not : (ss : List Span) → few ss ≡ false → 2 ≤ length ss
unfolding few
few_not ss q = go (leb (length ss) 1) refl (leb (length ss) chain_spans && singles ss) q
  where
    go : (a : Bool) → leb (length ss) 1 ≡ a → (b : Bool) → (a || b) ≡ false → 2 ≤ length ss
    go true e b q = absurd (omega (arith, leb-false 0 0 q))
    go false e b q = leb-false (length ss) 1 e

pub halves : (ss : List Span) → (length (lower ss) ≡ length ss / 2) × (length (upper ss) ≡ length ss - length ss / 2)
halves ss = ((let x = length-take (length ss / 2) ss in omega (arith, x)), length-drop (length ss / 2) ss)

-- ---- what holds of a few spans, and of two halves under one comparison, holds of every tree

module _ (P : Bool → ℕ → ℕ → List Span → Tree → Type 0)
    (chained : (inside : Bool) (from end : ℕ) (ss : List Span) → few ss ≡ true → P inside from end ss (block_if (not inside) (chain from end ss)))
    (halved : (inside : Bool) (from end : ℕ) (ss : List Span) (hit miss : Tree) → few ss ≡ false
    → P (inside || fits_block ss) (middle ss) end (upper ss) hit → P (inside || fits_block ss) from (middle ss) (lower ss) miss
    → P inside from end ss (block_if (fits_block ss && not inside) (node at_least (middle ss) hit miss))) where
  pub grown : (fuel : ℕ) (inside : Bool) (from end : ℕ) (ss : List Span) → length ss ≤ fuel → P inside from end ss (grow fuel inside from end ss)
  unfolding grow
  grown zero inside from end [] l = chained inside from end [] (unfold few in refl)
  grown zero inside from end (s ∷ ss) l = absurd (omega arith)
  grown (suc fuel) inside from end ss l =
      elim_case (P inside from end ss) (few ss) _ _ (chained inside from end ss) (λ q.
      halved inside from end ss _ _ q
      (grown fuel (inside || fits_block ss) (middle ss) end (upper ss) (omega (arith, few_not ss q, (halves ss).1)))
      (grown fuel (inside || fits_block ss) from (middle ss) (lower ss) (omega (arith, few_not ss q, (halves ss).0))))

-- ---- what spans and trees say of a number

abbrev pub within : Span → ℕ → Bool
within s n = leb s.first n && leb n s.last

unfoldable pub seek : List Span → ℕ → Destination
seek [] n = to_mismatch
seek (s ∷ ss) n = cond (within s n) s.to (seek ss n)

unfoldable pub passes : Comparison → ℕ → ℕ → Bool
passes equal k n = eqb n k
passes at_least k n = leb k n
passes above k n = ltb k n

unfoldable pub find : Tree → ℕ → Destination
find (leaf to) n = to
find (node t k hit miss) n = cond (passes t k n) (find hit n) (find miss n)
find (block t) n = find t n

-- spans that go up, from b on
unfoldable pub Sorted : ℕ → List Span → Type 0
Sorted b [] = Unit {0}
Sorted b (s ∷ ss) = (b ≤ s.first) × (s.first ≤ s.last) × Sorted (s.last + 1) ss

module _ (n : ℕ) where
  inside_span : (s : Span) → s.first ≤ n → n ≤ s.last → within s n ≡ true
  inside_span s h k = rw (le-leb s.first n h, le-leb n s.last k)

  below_span : (s : Span) → n < s.first → within s n ≡ false
  below_span s h = rw (lt-leb s.first n h)

  and_false : (b : Bool) → (b && false) ≡ false
  and_false true = refl
  and_false false = refl

  above_span : (s : Span) → s.last < n → within s n ≡ false
  above_span s h = rw (lt-leb n s.last h, and_false)

  seek_below : (b : ℕ) (ss : List Span) → Sorted b ss → n < b → seek ss n ≡ to_mismatch
  unfolding Sorted seek
  seek_below b [] o h = refl
  seek_below b (s ∷ ss) o h =
      let x : n < s.first = omega arith in
      rw (below_span s x) (seek_below (s.last + 1) ss o.2 (omega arith))

  find_leaf : (to : Destination) → find (leaf to) n ≡ to
  unfolding find
  find_leaf to = refl

  -- what a comparison says of the number
  abbrev Says : Comparison → ℕ → Bool → Type 0
  Says equal k true = n ≡ k
  Says equal k false = n ≡ k → ⊥
  Says at_least k true = k ≤ n
  Says at_least k false = n < k
  Says above k true = k < n
  Says above k false = n ≤ k

  says : (t : Comparison) (k : ℕ) (b : Bool) → passes t k n ≡ b → Says t k b
  unfolding passes
  says equal k true q = eqb-true n k q
  says equal k false q = eqb-false n k q
  says at_least k true q = leb-true k n q
  says at_least k false q = leb-false k n q
  says above k true q = ltb-true k n q
  says above k false q = ltb-false k n q

  find_node : (t : Comparison) (k : ℕ) (hit miss : Tree) (to : Destination) → (Says t k true → find hit n ≡ to) → (Says t k false → find miss n ≡ to)
      → find (node t k hit miss) n ≡ to
  unfolding find
  find_node t k hit miss to f g =
      cond_case (λ x. x ≡ to) (passes t k n) _ _ (λ q. f (says t k true q)) (λ q. g (says t k false q))

  -- ---- a chain

  abbrev Below : ℕ → Type 0
  Below end = 1 ≤ end → n < end

  ends_by_lem : (end k : ℕ) → ends_by end k ≡ true → (1 ≤ end) × (end ≤ k + 1)
  unfolding ends_by
  ends_by_lem end k q = let x = both_true _ _ q in (ltb-true _ _ x.0, leb-true _ _ x.1)

  -- what is to be found from a span on
  abbrev Here : Span → List Span → Destination
  Here s ss = cond (within s n) s.to (seek ss n)

  up_right : (end : ℕ) (s : Span) (ss : List Span) (rest : Tree) → Below end → s.first ≤ n → find rest n ≡ seek ss n
      → find (up_to end s rest) n ≡ Here s ss
  unfolding up_to
  up_right end s ss rest b k e =
      cond_case (λ t. find t n ≡ Here s ss) (ends_by end s.last) _ _
      (λ q.
      let x = ends_by_lem _ _ q in
      find_leaf s.to ∙ rw (inside_span s k (omega (arith, x.1, b x.0))))
      (λ q.
      find_node above _ rest (leaf s.to) (Here s ss)
      (λ w. rw (above_span s (omega arith)) e)
      (λ w. find_leaf s.to ∙ rw (inside_span s k (omega arith))))

  link_right : (b from end : ℕ) (s : Span) (ss : List Span) (rest : Tree) → Sorted b (s ∷ ss) → from ≤ n → Below end → find rest n ≡ seek ss n
      → find (link from end s rest) n ≡ seek (s ∷ ss) n
  unfolding link seek Sorted
  link_right b from end s ss rest o h w e =
      cond_case Right (is_single s) _ _
      (λ q.
      let x = eqb-true s.first s.last q in
      find_node equal _ (leaf s.to) rest (Here s ss)
      (λ y. find_leaf s.to ∙ rw (inside_span s (omega arith) (omega arith)))
      (λ y. beside (leb s.first n) refl x y))
      (λ q.
      cond_case Right (leb s.first from) _ _
      (λ l. up_right end s ss rest w (omega (arith, leb-true s.first from l)) e)
      (λ l.
      find_node at_least _ (up_to end s rest) (leaf to_mismatch) (Here s ss)
      (λ y. up_right end s ss rest w y e)
      (λ y. find_leaf to_mismatch ∙ rw (below_span s y) (sym (seek_below (s.last + 1) ss o.2 (omega arith))))))
    where
      Right : Tree → Type 0
      Right t = find t n ≡ Here s ss

      -- a number that is not the span's only one
      beside : (t : Bool) → leb s.first n ≡ t → s.first ≡ s.last → (n ≡ s.first → ⊥) → find rest n ≡ Here s ss
      beside true q x y = rw (above_span s (omega (arith, leb-true s.first n q))) e
      beside false q x y = rw (below_span s (leb-false s.first n q)) e

  chain_right : (b from end : ℕ) (ss : List Span) → Sorted b ss → from ≤ n → Below end → find (chain from end ss) n ≡ seek ss n
  unfolding chain
  chain_right b from end [] o h w = unfold find seek in refl
  chain_right b from end (s ∷ ss) o h w =
      link_right b from end s ss (chain from end ss) o h w (chain_right (s.last + 1) from end ss (unfold Sorted in o.2) h w)

  -- ---- cut in two

  sorted_take : (b h : ℕ) (ss : List Span) → Sorted b ss → Sorted b (take h ss)
  unfolding Sorted
  sorted_take b zero ss o = tt
  sorted_take b (suc h) [] o = tt
  sorted_take b (suc h) (s ∷ ss) o = (o.0, o.1, sorted_take (s.last + 1) h ss o.2)

  sorted_drop : (b h : ℕ) (ss : List Span) → h < length ss → Sorted b ss → Sorted (lowest (drop h ss)) (drop h ss) × (b ≤ lowest (drop h ss))
  unfolding Sorted lowest
  sorted_drop b zero [] l o = absurd (omega arith)
  sorted_drop b zero (s ∷ ss) l o = ((omega arith, o.1, o.2), o.0)
  sorted_drop b (suc h) [] l o = absurd (omega arith)
  sorted_drop b (suc h) (s ∷ ss) l o =
      let x = sorted_drop (s.last + 1) h ss (omega arith) o.2 in
      (x.0, omega (arith, x.1, o.0, o.1))

  seek_high : (b h : ℕ) (ss : List Span) → h < length ss → Sorted b ss → lowest (drop h ss) ≤ n → seek ss n ≡ seek (drop h ss) n
  unfolding Sorted seek
  seek_high b zero ss l o k = refl
  seek_high b (suc h) [] l o k = absurd (omega arith)
  seek_high b (suc h) (s ∷ ss) l o k =
      let x = (sorted_drop (s.last + 1) h ss (omega arith) o.2).1 in
      rw (above_span s (omega arith)) (seek_high (s.last + 1) h ss (omega arith) o.2 k)

  seek_low : (b h : ℕ) (ss : List Span) → h < length ss → Sorted b ss → n < lowest (drop h ss) → seek ss n ≡ seek (take h ss) n
  unfolding Sorted seek lowest
  seek_low b zero [] l o k = absurd (omega arith)
  seek_low b zero (s ∷ ss) l o k = seek_below s.first (s ∷ ss) (omega arith, o.1, o.2) k
  seek_low b (suc h) [] l o k = absurd (omega arith)
  seek_low b (suc h) (s ∷ ss) l o k = rw (seek_low (s.last + 1) h ss (omega arith) o.2 k)

  -- ---- the tree

  find_block : (b : Bool) (t : Tree) → find (block_if b t) n ≡ find t n
  unfolding block_if find
  find_block true t = refl
  find_block false t = refl

  Finds : Bool → ℕ → ℕ → List Span → Tree → Type 0
  Finds inside from end ss t = (b : ℕ) → Sorted b ss → from ≤ n → Below end → find t n ≡ seek ss n

  halves_right : (b h from end : ℕ) (ss : List Span) (hit miss : Tree) → h < length ss → Sorted b ss → from ≤ n → Below end
      → ((x : ℕ) → Sorted x (drop h ss) → lowest (drop h ss) ≤ n → Below end → find hit n ≡ seek (drop h ss) n)
      → ((x : ℕ) → Sorted x (take h ss) → from ≤ n → Below (lowest (drop h ss)) → find miss n ≡ seek (take h ss) n)
      → find (node at_least (lowest (drop h ss)) hit miss) n ≡ seek ss n
  halves_right b h from end ss hit miss l o k w up down =
      find_node at_least (lowest (drop h ss)) hit miss (seek ss n)
      (λ z. up (lowest (drop h ss)) (sorted_drop b h ss l o).0 z w ∙ sym (seek_high b h ss l o z))
      (λ z. down b (sorted_take b h ss o) k (λ e. z) ∙ sym (seek_low b h ss l o z))

  finds : (fuel : ℕ) (inside : Bool) (from end : ℕ) (ss : List Span) → length ss ≤ fuel → Finds inside from end ss (grow fuel inside from end ss)
  unfolding Finds
  finds =
      grown Finds
      (λ inside from end ss q b o h w. find_block (not inside) (chain from end ss) ∙ chain_right b from end ss o h w)
      (λ inside from end ss hit miss q up down b o h w.
      find_block (fits_block ss && not inside) (node at_least (middle ss) hit miss)
      ∙ halves_right b (length ss / 2) from end ss hit miss (omega (arith, few_not ss q)) o h w up down)

  pub tree_right : (b : ℕ) (ss : List Span) → Sorted b ss → find (grow (length ss) false 0 0 ss) n ≡ seek ss n
  unfolding Finds
  tree_right b ss o = finds (length ss) false 0 0 ss (omega arith) b o (omega arith) (λ e. absurd (omega arith))

-- ---- the tree of one or more spans is entered at its front, by a comparison

unfoldable pub Compares : Tree → Type 0
Compares (leaf to) = ⊥
Compares (node t k hit miss) = Unit {0}
Compares (block t) = Compares t

up_compares : (end : ℕ) (s : Span) (rest : Tree) → end ≡ 0 → Compares (up_to end s rest)
unfolding up_to ends_by Compares
up_compares end s rest z = rw z tt

chain_compares : (from end : ℕ) (ss : List Span) → 1 ≤ length ss → end ≡ 0 → Compares (chain from end ss)
unfolding chain link Compares
chain_compares from end [] h z = absurd (omega arith)
chain_compares from end (s ∷ ss) h z =
    cond_case Compares (is_single s) _ _ (λ q. tt) (λ q. cond_case Compares (leb s.first from) _ _ (λ l. up_compares end s (chain from end ss) z) (λ l. tt))

singles_compare : (from end : ℕ) (ss : List Span) → 1 ≤ length ss → singles ss ≡ true → Compares (chain from end ss)
unfolding chain link Compares singles
singles_compare from end [] h q = absurd (omega arith)
singles_compare from end (s ∷ ss) h q = let x : is_single s ≡ true = (both_true _ _ q).0 in rw x tt

-- one span alone may be known from its bounds, if there are any
few_compare : (from end : ℕ) (ss : List Span) → few ss ≡ true → 1 ≤ length ss → (length ss ≤ 1 → end ≡ 0) → Compares (chain from end ss)
unfolding few
few_compare from end ss q h z =
    either_true (leb (length ss) 1) _ (λ a. chain_compares from end ss h (z (leb-true _ _ a))) (λ a. singles_compare from end ss h (both_true (leb (length ss) chain_spans) _ a).1) q

block_compares : (b : Bool) (t : Tree) → Compares t → Compares (block_if b t)
unfolding block_if Compares
block_compares true t h = h
block_compares false t h = h

-- as `grown` asks it
abbrev pub Fronted : ℕ → List Span → Tree → Type 0
Fronted end ss t = 1 ≤ length ss → (length ss ≤ 1 → end ≡ 0) → Compares t

pub chain_fronted : (inside : Bool) (from end : ℕ) (ss : List Span) → few ss ≡ true → Fronted end ss (block_if (not inside) (chain from end ss))
chain_fronted inside from end ss q h z = block_compares (not inside) (chain from end ss) (few_compare from end ss q h z)

pub halves_fronted : (inside : Bool) (end : ℕ) (ss : List Span) (hit miss : Tree)
    → Fronted end ss (block_if (fits_block ss && not inside) (node at_least (middle ss) hit miss))
halves_fronted inside end ss hit miss h z = block_compares (fits_block ss && not inside) (node at_least (middle ss) hit miss) (unfold Compares in tt)
