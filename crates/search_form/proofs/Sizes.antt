-- How many instructions a planted tree adds. In a block every leaf costs one instruction at most, a return or a jump, and none where it
-- is a mismatch, so that a span never takes more than the emitted form spends on its numbers.
use mathlib.Core.Path.{◌≡◌, refl, ap, ◌∙◌}
use mathlib.Core.Bool.{Bool, true, false, cond, not, ◌&&◌, ◌||◌}
use mathlib.Core.List.{List, [], ◌∷◌}
use Prim.Native.Nat.{ℕ, zero, suc, ◌+◌, ◌-◌, ◌/◌, ◌*◌, ◌≤◌, ◌<◌, min}
use native.Mathlib.Omega.{arith}
use lib.Dec.{leb, ltb}
use lib.ListN.{length, take, drop}
use borrow.Author.Tests.{ltb-false, leb-true, leb-false, lt-ltb, le-ltb}
use Rattle.definitions.specs.declared.Instruction.{Instruction}
use Rattle.definitions.specs.SearchForm.{jump_reach, block_reach, block_spans, chain_spans, Destination, to_mismatch, to_match, to_rules, Span, Comparison, at_least, Tree, leaf, node, block, ends_by, up_to, link, chain, singles, few, lower, upper, middle, fits_block, block_if, grow, Form, Spot, away, near_place, near_return, plant_leaf, open_block, compare_first, plant}
use Rattle.search_form.proofs.Cases.{cond_case, cond_cases}
use Rattle.search_form.proofs.Grow.{is_single, few_most, few_not, halves, grown, Compares}

-- ---- what one instruction in front adds

-- a place that is new is at the front; an old one costs nothing
pub record Adds (p : List Instruction) (s : Spot) : Type 0 where
  pub most : length s.code ≤ length p + 1
  pub grew : length p ≤ length s.code
  pub old : s.at ≤ length p → length s.code ≤ length p

pub place_adds : (at : ℕ) (p : List Instruction) → Adds p (near_place at p)
unfolding near_place
place_adds at p =
    cond_case (Adds p) (ltb jump_reach (length p - at)) _ _
    (λ q. record { most = omega arith; grew = omega arith; old = λ h. absurd (omega arith) })
    (λ q. record { most = omega arith; grew = omega arith; old = λ h. omega arith })

pub return_adds : (z k at : ℕ) (p : List Instruction) → Adds p (near_return z k at p)
unfolding near_return
return_adds z k at p =
    cond_case (Adds p) (ltb z (away (length p) at)) _ _
    (λ q. record { most = omega arith; grew = omega arith; old = λ h. absurd (omega arith) })
    (λ q. record { most = omega arith; grew = omega arith; old = λ h. omega arith })

-- a place that can be jumped to from the front of the code, or from z further on
pub record Near (z : ℕ) (s : Spot) : Type 0 where
  pub pos : 1 ≤ s.at
  pub inside : s.at ≤ length s.code
  pub close : length s.code ≤ s.at + z

pub place_near : (at : ℕ) (p : List Instruction) → 1 ≤ at → at ≤ length p → Near jump_reach (near_place at p)
unfolding near_place
place_near at p h i =
    cond_case (Near jump_reach) (ltb jump_reach (length p - at)) _ _
    (λ q. record { pos = omega arith; inside = omega arith; close = omega arith })
    (λ q. record { pos = h; inside = i; close = omega (arith, ltb-false jump_reach (length p - at) q) })

pub return_near : (z k at : ℕ) (p : List Instruction) → z < 256 → at ≤ length p → Near z (near_return z k at p)
unfolding near_return away
return_near z k zero p hz i = rw (lt-ltb z 256 hz) (record { pos = omega arith; inside = omega arith; close = omega arith })
return_near z k (suc at) p hz i =
    cond_case (Near z) (ltb z (length p - suc at)) _ _
    (λ q. record { pos = omega arith; inside = omega arith; close = omega arith })
    (λ q. record { pos = omega arith; inside = i; close = omega (arith, ltb-false z (length p - suc at) q) })

-- a place that is near needs no jump
pub place_stays : (at : ℕ) (p : List Instruction) → length p ≤ at + jump_reach → ◌≡◌ {A = Spot} (near_place at p) (record { code = p; at = at })
unfolding near_place
place_stays at p h = rw (le-ltb jump_reach (length p - at) (omega arith))

-- a return that is near stays
return_stays : (z k at : ℕ) (p : List Instruction) → 1 ≤ at → length p ≤ at + z → ◌≡◌ {A = Spot} (near_return z k at p) (record { code = p; at = at })
unfolding near_return away
return_stays z k zero p h i = absurd (omega arith)
return_stays z k (suc at) p h i = rw (le-ltb z (length p - suc at) (omega arith))

pub compare_size : (t : Comparison) (k at : ℕ) (f : Form) → (length (compare_first t k at f).code ≡ suc (length (near_place at f.code).code))
    × ((compare_first t k at f).at ≡ length (compare_first t k at f).code) × ((compare_first t k at f).mismatch_return ≡ f.mismatch_return)
unfolding compare_first
compare_size t k at f = (refl, refl, refl)

-- a tree that begins with a comparison is entered there
pub planted_front : (m d : ℕ) (t : Tree) (f : Form) → Compares t → (plant m d t f).at ≡ length (plant m d t f).code
unfolding Compares plant
planted_front m d (leaf to) f h = absurd h
planted_front m d (node t k hit miss) f h = (compare_size t k (plant m d hit f).at (plant m d miss (plant m d hit f))).1
planted_front m d (block t) f h = planted_front m d t (open_block d f) h

-- ---- a tree in a block

-- the most that it takes: its comparisons, and a return or a jump for each destination but mismatch
unfoldable pub cost_to : Destination → ℕ
cost_to to_mismatch = 0
cost_to to_match = 1
cost_to (to_rules at) = 1

unfoldable pub cost : Tree → ℕ
cost (leaf to) = cost_to to
cost (node t k hit miss) = suc (cost hit + cost miss)
cost (block t) = suc (cost t)

-- no block stands in it
unfoldable pub Flat : Tree → Type 0
Flat (leaf to) = Unit {0}
Flat (node t k hit miss) = Flat hit × Flat miss
Flat (block t) = ⊥

-- planting adds n at most, in a block that comes to `top` instructions at most. A place that a comparison at the top would find too far
-- has cost nothing, so that the jump to it is paid for.
pub record Snug (top : ℕ) (f g : Form) (n : ℕ) : Type 0 where
  pub most : length g.code ≤ length f.code + n
  pub grew : length f.code ≤ length g.code
  pub mismatch : g.mismatch_return ≡ f.mismatch_return
  tight : g.at + jump_reach < top → length g.code + 1 ≤ length f.code + n

-- the mismatch return is near from all over the block
pub record Roomy (top : ℕ) (f : Form) (n : ℕ) : Type 0 where
  pub pos : 1 ≤ f.mismatch_return
  pub return : top ≤ f.mismatch_return + jump_reach
  pub fits : length f.code + n ≤ top
  pub small : top ≤ length f.code + jump_reach

module _ (m d top : ℕ) where
  leaf_snug : (to : Destination) (f : Form) → Roomy top f (cost_to to) → Snug top f (plant_leaf m d to f) (cost_to to)
  unfolding plant_leaf cost_to
  leaf_snug to_mismatch f r =
      let i = r.fits in
      let j = r.return in
      rw (return_stays jump_reach d f.mismatch_return f.code r.pos (omega arith))
      (record { most = omega arith; grew = omega arith; mismatch = refl; tight = λ x. absurd (omega arith) })
  leaf_snug to_match f r =
      let x = return_adds _ _ _ _ in
      let i = r.small in
      record { most = x.most; grew = x.grew; mismatch = refl; tight = λ y. omega (arith, x.old (omega arith)) }
  leaf_snug (to_rules at) f r =
      let x = place_adds _ _ in
      let i = r.small in
      record { most = x.most; grew = x.grew; mismatch = refl; tight = λ y. omega (arith, x.old (omega arith)) }

  -- there is room for the second part of a node, behind which the first stands
  pub roomy_hit : (f : Form) (a b : ℕ) → Roomy top f (suc (a + b)) → Roomy top f a
  roomy_hit f a b r = record { pos = r.pos; return = r.return; fits = (let x = r.fits in omega arith); small = r.small }

  pub roomy_miss : (f g : Form) (a b : ℕ) → Roomy top f (suc (a + b)) → Snug top f g a → Roomy top g b
  roomy_miss f g a b r s =
      let x = r.fits in
      let y = r.return in
      let z = r.small in
      let p = r.pos in
      let u = s.most in
      let v = s.grew in
      let w = s.mismatch in
      record { pos = omega arith; return = omega arith; fits = omega arith; small = omega arith }

  join_snug : (t : Comparison) (k a b : ℕ) (f g h : Form) → Roomy top f (suc (a + b)) → Snug top f g a → Snug top g h b
      → Snug top f (compare_first t k g.at h) (suc (a + b))
  join_snug t k a b f g h r p q =
      let x = compare_size t k g.at h in
      let z = place_adds g.at h.code in
      let i = r.fits in
      let j = r.small in
      let pm = p.most in
      let pg = p.grew in
      let qm = q.most in
      let qg = q.grew in
      let zg = z.grew in
      record {
        most = omega (arith, x.0, fit (leb (length h.code) (g.at + jump_reach)) refl);
        grew = omega (arith, x.0);
        mismatch = x.2 ∙ q.mismatch ∙ p.mismatch;
        tight = λ u. absurd (omega (arith, x.0, x.1));
      }
    where
      -- a jump is put only where the place had cost nothing
      fit : (u : Bool) → leb (length h.code) (g.at + jump_reach) ≡ u → length (near_place g.at h.code).code ≤ length f.code + (a + b)
      fit true w =
          let s = ap (λ (y : Spot). length y.code) (place_stays g.at h.code (leb-true _ _ w)) in
          omega (arith, s, p.most, q.most)
      fit false w =
          let y = leb-false (length h.code) (g.at + jump_reach) w in
          omega (arith, (place_adds g.at h.code).most, q.most, p.most, r.fits, p.tight (omega (arith, r.fits, q.most, p.most)))

  pub plant_snug : (t : Tree) (f : Form) → Flat t → Roomy top f (cost t) → Snug top f (plant m d t f) (cost t)
  unfolding plant cost Flat
  plant_snug (leaf to) f b r = leaf_snug to f r
  plant_snug (node t k hit miss) f b r =
      let p = plant_snug hit f b.0 (roomy_hit f (cost hit) (cost miss) r) in
      let q = plant_snug miss (plant m d hit f) b.1 (roomy_miss f (plant m d hit f) (cost hit) (cost miss) r p) in
      join_snug t k (cost hit) (cost miss) f (plant m d hit f) (plant m d miss (plant m d hit f)) r p q
  plant_snug (block t) f b r = absurd b

-- ---- what spans may take, and what of it they leave over

unfoldable pub need : Span → ℕ
need s = cond (is_single s) 3 6

unfoldable pub left : Span → ℕ
left s = cond (is_single s) 1 3

unfoldable pub needs : List Span → ℕ
needs [] = 0
needs (s ∷ ss) = need s + needs ss

unfoldable pub lefts : List Span → ℕ
lefts [] = 0
lefts (s ∷ ss) = left s + lefts ss

pub need_least : (s : Span) → 3 ≤ need s
unfolding need
need_least s = cond_case (λ x. 3 ≤ x) (is_single s) _ _ (λ q. omega arith) (λ q. omega arith)

pub need_most : (s : Span) → need s ≤ 6
unfolding need
need_most s = cond_case (λ x. x ≤ 6) (is_single s) _ _ (λ q. omega arith) (λ q. omega arith)

left_least : (s : Span) → 1 ≤ left s
unfolding left
left_least s = cond_case (λ x. 1 ≤ x) (is_single s) _ _ (λ q. omega arith) (λ q. omega arith)

pub needs_most : (ss : List Span) → needs ss ≤ 6 * length ss
unfolding needs
needs_most [] = omega arith
needs_most (s ∷ ss) = omega (arith, need_most s, needs_most ss)

pub lefts_least : (ss : List Span) → length ss ≤ lefts ss
unfolding lefts
lefts_least [] = omega arith
lefts_least (s ∷ ss) = omega (arith, left_least s, lefts_least ss)

cut : (f : Span → ℕ) (sum : List Span → ℕ) → sum [] ≡ 0 → ((s : Span) (ss : List Span) → sum (s ∷ ss) ≡ f s + sum ss)
    → (h : ℕ) (ss : List Span) → sum (take h ss) + sum (drop h ss) ≡ sum ss
cut f sum z c zero ss = omega (arith, z)
cut f sum z c (suc h) [] = omega (arith, z)
cut f sum z c (suc h) (s ∷ ss) = omega (arith, c s ss, c s (take h ss), cut f sum z c h ss)

needs_halves : (ss : List Span) → needs (lower ss) + needs (upper ss) ≡ needs ss
unfolding needs
needs_halves ss = cut need needs refl (λ s rest. refl) (length ss / 2) ss

lefts_halves : (ss : List Span) → lefts (lower ss) + lefts (upper ss) ≡ lefts ss
unfolding lefts
lefts_halves ss = cut left lefts refl (λ s rest. refl) (length ss / 2) ss

-- a span of two or more leaves three
lefts_longer : (ss : List Span) → singles ss ≡ false → length ss + 2 ≤ lefts ss
unfolding lefts singles left
lefts_longer [] q = absurd (omega (arith, leb-false 0 0 q))
lefts_longer (s ∷ ss) q = go (is_single s) q (λ e. lefts_longer ss e)
  where
    go : (b : Bool) → (b && singles ss) ≡ false → (singles ss ≡ false → length ss + 2 ≤ lefts ss) → suc (length ss) + 2 ≤ cond b 1 3 + lefts ss
    go true e again = omega (arith, again e)
    go false e again = omega (arith, lefts_least ss)

lefts_many : (ss : List Span) → few ss ≡ false → 4 ≤ lefts ss
unfolding few
lefts_many ss q = go (leb (length ss) 1) refl (leb (length ss) chain_spans) refl q
  where
    go : (a : Bool) → leb (length ss) 1 ≡ a → (b : Bool) → leb (length ss) chain_spans ≡ b → (a || (b && singles ss)) ≡ false → 4 ≤ lefts ss
    go true e b f q = absurd (omega (arith, leb-false 0 0 q))
    go false e true f q = omega (arith, leb-false (length ss) 1 e, lefts_longer ss q)
    go false e false f q = omega (arith, leb-false (length ss) chain_spans f, lefts_least ss)

-- ---- the tree of some spans within a block

cost_most : (to : Destination) → cost_to to ≤ 1
unfolding cost_to
cost_most to_mismatch = omega arith
cost_most to_match = omega arith
cost_most (to_rules at) = omega arith

-- it has no block, and costs what the spans may take, of which three at most are left over
pub record Lean (ss : List Span) (t : Tree) : Type 0 where
  pub cheap : cost t + min 3 (lefts ss) ≤ needs ss
  pub flat : Flat t

record Linked (n : ℕ) (rest t : Tree) : Type 0 where
  cheap : cost t ≤ cost rest + n
  flat : Flat t

up_linked : (end : ℕ) (s : Span) (rest : Tree) → Flat rest → Linked 2 rest (up_to end s rest)
unfolding up_to cost Flat
up_linked end s rest h =
    cond_case (Linked 2 rest) (ends_by end s.last) _ _
    (λ q. record { cheap = omega (arith, cost_most s.to); flat = tt })
    (λ q. record { cheap = omega (arith, cost_most s.to); flat = (h, tt) })

link_linked : (from end : ℕ) (s : Span) (rest : Tree) → Flat rest → Linked (need s - left s) rest (link from end s rest)
unfolding link cost cost_to left need Flat
link_linked from end s rest h =
    let x = up_linked end s rest h in
    let u = x.cheap in
    go (is_single s)
    (record { cheap = omega (arith, cost_most s.to); flat = (tt, h) })
    (cond_case (Linked 3 rest) (leb s.first from) _ _ (λ q. record { cheap = omega arith; flat = x.flat }) (λ q. record { cheap = omega arith; flat = (x.flat, tt) }))
  where
    go : (b : Bool) {t u : Tree} → Linked 2 rest t → Linked 3 rest u → Linked (cond b 3 6 - cond b 1 3) rest (cond b t u)
    go true x y = x
    go false x y = y

left_need : (s : Span) → left s ≤ need s
unfolding left need
left_need s = cond_cases (λ (x y : ℕ). x ≤ y) (is_single s) _ _ _ _ (λ q. omega arith) (λ q. omega arith)

chain_linked : (from end : ℕ) (ss : List Span) → (cost (chain from end ss) + lefts ss ≤ needs ss) × Flat (chain from end ss)
unfolding chain lefts needs
chain_linked from end [] = unfold cost cost_to Flat in (omega arith, tt)
chain_linked from end (s ∷ ss) =
    let y = chain_linked from end ss in
    let x = link_linked from end s (chain from end ss) y.1 in
    (omega (arith, x.cheap, y.0, left_need s), x.flat)

chain_lean : (from end : ℕ) (ss : List Span) → Lean ss (chain from end ss)
chain_lean from end ss = let x = chain_linked from end ss in record { cheap = omega (arith, x.0); flat = x.1 }

pub join_lean : (ss : List Span) (t : Comparison) (k : ℕ) (hit miss : Tree) → few ss ≡ false → Lean (upper ss) hit → Lean (lower ss) miss → Lean ss (node t k hit miss)
unfolding cost Flat
join_lean ss t k hit miss q a b =
    let l = halves ss in
    let n = few_not ss q in
    let x = lefts_least (lower ss) in
    let y = lefts_least (upper ss) in
    record {
      cheap = omega (arith, needs_halves ss, lefts_halves ss, lefts_many ss q, a.cheap, b.cheap, l.0, l.1);
      flat = (a.flat, b.flat);
    }

-- ---- the tree of any number of spans

-- there is a mismatch return
pub record Rooted (f : Form) : Type 0 where
  pub pos : 1 ≤ f.mismatch_return
  pub inside : f.mismatch_return ≤ length f.code

record Opened (d : ℕ) (f : Form) : Type 0 where
  rooted : Rooted (open_block d f)
  most : length (open_block d f).code ≤ length f.code + 1
  grew : length f.code ≤ length (open_block d f).code
  near : length (open_block d f).code ≤ (open_block d f).mismatch_return + block_reach

opened : (d : ℕ) (f : Form) → Rooted f → Opened d f
unfolding open_block
opened d f h =
    let x = return_near block_reach d f.mismatch_return f.code (omega arith) h.inside in
    let y = return_adds block_reach d f.mismatch_return f.code in
    record { rooted = record { pos = x.pos; inside = x.inside }; most = y.most; grew = y.grew; near = x.close }

-- what the tree of some spans adds
pub record Sized (ss : List Span) (f g : Form) : Type 0 where
  pub rooted : Rooted g
  pub most : length g.code + min 3 (lefts ss) ≤ length f.code + needs ss + 1
  pub grew : length f.code ≤ length g.code

module _ (m d : ℕ) where
  -- a block of few enough spans has room
  pub block_roomy : (ss : List Span) (t : Tree) (f : Form) → length ss ≤ block_spans → Lean ss t → Rooted f
      → Roomy (length (open_block d f).code + cost t) (open_block d f) (cost t)
  block_roomy ss t f l h r =
      let e = opened d f r in
      let n = needs_most ss in
      let c = h.cheap in
      let x = e.near in
      record { pos = e.rooted.pos; return = omega arith; fits = omega arith; small = omega arith }

  block_sized : (ss : List Span) (t : Tree) (f : Form) → length ss ≤ block_spans → Lean ss t → Rooted f → Sized ss f (plant m d (block t) f)
  unfolding plant
  block_sized ss t f l h r =
      let e = opened d f r in
      let x = plant_snug m d (length (open_block d f).code + cost t) t (open_block d f) h.flat (block_roomy ss t f l h r) in
      record {
        rooted = record {
          pos = omega (arith, x.mismatch, e.rooted.pos);
          inside = omega (arith, x.mismatch, x.grew, e.rooted.inside);
        };
        most = omega (arith, x.most, e.most, h.cheap);
        grew = omega (arith, x.grew, e.grew);
      }

  join_sized : (ss : List Span) (k : ℕ) (hit miss : Tree) (f : Form) → block_spans < length ss
      → Sized (upper ss) f (plant m d hit f)
      → Sized (lower ss) (plant m d hit f) (plant m d miss (plant m d hit f))
      → Sized ss f (plant m d (node at_least k hit miss) f)
  unfolding plant
  join_sized ss k hit miss f h a b =
      let g : Form = plant m d hit f in
      let g₂ : Form = plant m d miss g in
      let c = compare_size at_least k g.at g₂ in
      let z = place_adds g.at g₂.code in
      let l = halves ss in
      let p : 3 ≤ lefts (lower ss) = omega (arith, lefts_least (lower ss), l.0) in
      let q : 3 ≤ lefts (upper ss) = omega (arith, lefts_least (upper ss), l.1) in
      let s = needs_halves ss in
      let am = a.most in
      let bm = b.most in
      let ag = a.grew in
      let bg = b.grew in
      let bi = b.rooted.inside in
      let bp = b.rooted.pos in
      let zm = z.most in
      let zg = z.grew in
      record {
        rooted = record { pos = omega (arith, c.2); inside = omega (arith, c.0, c.2) };
        most = omega (arith, c.0);
        grew = omega (arith, c.0);
      }

  -- inside a block, and not
  unfoldable pub Fitting : Bool → List Span → Tree → Type 0
  Fitting true ss t = Lean ss t
  Fitting false ss t = (f : Form) → Rooted f → Sized ss f (plant m d t f)

  pub chain_fitting : (inside : Bool) (from end : ℕ) (ss : List Span) → few ss ≡ true → Fitting inside ss (block_if (not inside) (chain from end ss))
  unfolding Fitting block_if
  chain_fitting true from end ss q = chain_lean from end ss
  chain_fitting false from end ss q = λ f r. block_sized ss (chain from end ss) f (omega (arith, few_most ss q)) (chain_lean from end ss) r

  pub halves_fitting : (inside : Bool) (from end : ℕ) (ss : List Span) (hit miss : Tree) → few ss ≡ false
      → Fitting (inside || fits_block ss) (upper ss) hit → Fitting (inside || fits_block ss) (lower ss) miss
      → Fitting inside ss (block_if (fits_block ss && not inside) (node at_least (middle ss) hit miss))
  unfolding Fitting block_if
  halves_fitting inside from end ss hit miss q = go inside (fits_block ss) refl
    where
      go : (b fits : Bool) → fits_block ss ≡ fits → Fitting (b || fits) (upper ss) hit → Fitting (b || fits) (lower ss) miss
          → Fitting b ss (cond (fits && not b) (block (node at_least (middle ss) hit miss)) (node at_least (middle ss) hit miss))
      go true true e x y = join_lean ss at_least (middle ss) hit miss q x y
      go true false e x y = join_lean ss at_least (middle ss) hit miss q x y
      go false true e x y = λ f r. block_sized ss (node at_least (middle ss) hit miss) f (leb-true (length ss) block_spans e) (join_lean ss at_least (middle ss) hit miss q x y) r
      go false false e x y = λ f r.
          let a = x f r in
          join_sized ss (middle ss) hit miss f (leb-false (length ss) block_spans e) a (y (plant m d hit f) a.rooted)

  pub tree_sized : (ss : List Span) (f : Form) → Rooted f → Sized ss f (plant m d (grow (length ss) false 0 0 ss) f)
  unfolding Fitting
  tree_sized ss = grown (λ inside from end ss t. Fitting inside ss t) chain_fitting halves_fitting (length ss) false 0 0 ss (omega arith)
