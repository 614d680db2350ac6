-- From the front of a planted tree a call comes to where its number leads, after as many instructions as halving takes. What it gets
-- there and how far it is are proved in one, since both go the same way.
use mathlib.Core.Path.{◌≡◌, refl, ap, ◌∙◌}
use mathlib.Core.Bool.{Bool, true, false, cond, not, ◌&&◌, ◌||◌}
use mathlib.Core.List.{List, [], ◌∷◌}
use Prim.Native.Nat.{ℕ, zero, suc, ◌+◌, ◌-◌, ◌^◌, ◌≤◌, ◌<◌, max}
use native.Mathlib.Omega.{arith}
use lib.Dec.{leb, ltb}
use lib.ListN.{length}
use borrow.Author.Tests.{ltb-false, leb-true, leb-false}
use Rattle.definitions.specs.declared.Instruction.{Instruction}
use Rattle.definitions.specs.Machine.{Call, State, Result, returns, run}
use Rattle.definitions.specs.Emitted.{jump_by, return}
use Rattle.theorems.proofs.Steps.{run_jump, run_return, run_suc}
use Rattle.definitions.specs.SearchForm.{jump_reach, block_reach, block_spans, chain_spans, Destination, to_mismatch, to_match, to_rules, Span, Comparison, at_least, Tree, leaf, node, block, ends_by, up_to, link, chain, singles, few, lower, upper, middle, fits_block, block_if, grow, Form, Spot, away, near_place, near_return, plant_leaf, open_block, compare_first, plant}
use Rattle.theorems.proofs.Tests.{both_true}
use Rattle.search_form.proofs.Cases.{cond_case}
use Rattle.search_form.proofs.Grow.{is_single, few_most, few_not, halves, grown, passes, find, Compares, Fronted, chain_fronted, halves_fronted}
use Rattle.search_form.proofs.Sizes.{place_stays, compare_size, planted_front, cost, Flat, Roomy, roomy_hit, roomy_miss, plant_snug, Lean, join_lean, needs_most, lefts_least, Rooted, Sized, block_roomy, Fitting, chain_fitting, halves_fitting}
use Rattle.search_form.proofs.Steps.{count, count_suc, count_jump, count_return, count_compare, run_compare, Over, same, more, over_over}

over_length : {p q : List Instruction} → Over p q → length p ≤ length q
over_length same = omega arith
over_length (more i o) = omega (arith, over_length o)

place_over : (at : ℕ) (p : List Instruction) → Over p (near_place at p).code
unfolding near_place
place_over at p = cond_case (λ (s : Spot). Over p s.code) (ltb jump_reach (length p - at)) _ _ (λ q. more _ same) (λ q. same)

return_over : (z k at : ℕ) (p : List Instruction) → Over p (near_return z k at p).code
unfolding near_return
return_over z k at p = cond_case (λ (s : Spot). Over p s.code) (ltb z (away (length p) at)) _ _ (λ q. more _ same) (λ q. same)

compare_over : (t : Comparison) (k at : ℕ) (f : Form) → Over f.code (compare_first t k at f).code
unfolding compare_first
compare_over t k at f = more _ (place_over at f.code)

-- the comparisons of a tree, one after the other
unfoldable pub depth : Tree → ℕ
depth (leaf to) = 0
depth (node t k hit miss) = suc (max (depth hit) (depth miss))
depth (block t) = depth t

up_depth : (end : ℕ) (s : Span) (t : Tree) → depth (up_to end s t) ≤ suc (depth t)
unfolding up_to depth
up_depth end s t = cond_case (λ x. depth x ≤ suc (depth t)) (ends_by end s.last) _ _ (λ q. omega arith) (λ q. omega arith)

singles_depth : (from end : ℕ) (ss : List Span) → singles ss ≡ true → depth (chain from end ss) ≤ length ss
unfolding chain singles link depth
singles_depth from end [] q = omega arith
singles_depth from end (s ∷ ss) q =
    let x = both_true (is_single s) _ q in
    rw x.0 (omega (arith, singles_depth from end ss x.1))

one_depth : (from end : ℕ) (ss : List Span) → length ss ≤ 1 → depth (chain from end ss) ≤ 2
unfolding chain link depth
one_depth from end [] h = omega arith
one_depth from end (s ∷ []) h =
    let x = up_depth end s (leaf to_mismatch) in
    cond_case (λ t. depth t ≤ 2) (is_single s) _ _ (λ q. omega arith)
    (λ q. cond_case (λ t. depth t ≤ 2) (leb s.first from) _ _ (λ l. omega arith) (λ l. omega arith))
one_depth from end (s ∷ (t ∷ ss)) h = absurd (omega arith)

few_depth : (k from end : ℕ) (ss : List Span) → few ss ≡ true → length ss ≤ 2 ^ k → depth (chain from end ss) ≤ k + 2
unfolding few
few_depth k from end ss q h = go (leb (length ss) 1) refl k h
  where
    go : (a : Bool) → leb (length ss) 1 ≡ a → (k : ℕ) → length ss ≤ 2 ^ k → depth (chain from end ss) ≤ k + 2
    go true e k h = omega (arith, one_depth from end ss (leb-true (length ss) 1 e))
    go false e zero h = absurd (omega (arith, leb-false (length ss) 1 e))
    go false e (suc k) h =
        let x = both_true (leb (length ss) chain_spans) _ (rw e at q) in
        omega (arith, singles_depth from end ss x.1, leb-true (length ss) chain_spans x.0)

-- the most that a tree of 2 ^ k spans takes
unfoldable pub tree_most : ℕ → ℕ
tree_most k = k + 3 + (k - 6)

-- one call, of which a word was loaded
module _ (c : Call) (s : State) (word : ℕ) (known : s.A ≡ word) where
  -- from place e of p on, the call gets r, after n instructions at most
  pub record Ends (e : ℕ) (p : List Instruction) (r : Result) (n : ℕ) : Type 0 where
    pub pos : 1 ≤ e
    pub inside : e ≤ length p
    pub goes : run (length p - e) p s c ≡ r
    pub upto : count (length p - e) p s c ≤ n

  pub ends_over : (e : ℕ) (p q : List Instruction) (r : Result) (n : ℕ) → Over p q → Ends e p r n → Ends e q r n
  ends_over e p q r n same h = h
  ends_over e p q r n (more {q = q'} i o) h =
      let x = ends_over e p q' r n o h in
      let j = x.inside in
      let z : suc (length q') - e ≡ suc (length q' - e) = omega arith in
      record { pos = x.pos; inside = omega arith; goes = rw (z, run_suc) x.goes; upto = rw (z, count_suc) x.upto }

  pub ends_more : (e : ℕ) (p : List Instruction) (r : Result) (n k : ℕ) → n ≤ k → Ends e p r n → Ends e p r k
  ends_more e p r n k h x = record { pos = x.pos; inside = x.inside; goes = x.goes; upto = omega (arith, x.upto) }

  pub ends_first : (i : Instruction) (p : List Instruction) (r : Result) (n : ℕ) → run 0 (i ∷ p) s c ≡ r → count 0 (i ∷ p) s c ≤ n
      → Ends (suc (length p)) (i ∷ p) r n
  ends_first i p r n g u =
      let q : suc (length p) - suc (length p) ≡ 0 = omega arith in
      record { pos = omega arith; inside = omega arith; goes = rw q g; upto = rw q u }

  -- ---- a place, by a jump or not

  place_ends : (e : ℕ) (p : List Instruction) (r : Result) (n : ℕ) → Ends e p r n → Ends (near_place e p).at (near_place e p).code r (n + 1)
  unfolding near_place
  place_ends e p r n h =
      cond_case (λ (x : Spot). Ends x.at x.code r (n + 1)) (ltb jump_reach (length p - e)) _ _
      (λ q. ends_first (jump_by (length p - e)) p r (n + 1) (run_jump p s c (length p - e) ∙ h.goes) (rw count_jump (omega (arith, h.upto))))
      (λ q. ends_more e p r n (n + 1) (omega arith) h)

  place_near : (e : ℕ) (p : List Instruction) (r : Result) (n : ℕ) → length p ≤ e + jump_reach → Ends e p r n
      → Ends (near_place e p).at (near_place e p).code r n
  place_near e p r n l h = rw (place_stays e p l) h

  -- an old place costs what it did
  place_old : (e : ℕ) (p : List Instruction) (r : Result) (n : ℕ) → (near_place e p).at ≤ length p → Ends e p r n
      → Ends (near_place e p).at (near_place e p).code r n
  unfolding near_place
  place_old e p r n l h =
      cond_case (λ (x : Spot). x.at ≤ length p → Ends x.at x.code r n) (ltb jump_reach (length p - e)) _ _ (λ q l. absurd (omega arith)) (λ q l. h) l

  -- ---- a return, if there is one

  abbrev Returns : ℕ → List Instruction → ℕ → Type 0
  Returns e p k = 1 ≤ e → Ends e p (returns k) 1

  return_ends : (z k e : ℕ) (p : List Instruction) → z < 256 → Returns e p k → Ends (near_return z k e p).at (near_return z k e p).code (returns k) 1
  unfolding near_return
  return_ends z k e p hz h =
      cond_case (λ (x : Spot). Ends x.at x.code (returns k) 1) (ltb z (away (length p) e)) _ _
      (λ q. ends_first (return k) p (returns k) 1 (run_return p s c k) (rw count_return (omega arith)))
      (λ q. h (there e q))
    where
      there : (e : ℕ) → ltb z (away (length p) e) ≡ false → 1 ≤ e
      there zero q = let x = ltb-false z 256 (unfold away in q) in absurd (omega arith)
      there (suc e) q = omega arith

  module _ (m d : ℕ) where
    -- what a destination gives, behind code p
    unfoldable pub Leads : List Instruction → Destination → Result → ℕ → Type 0
    Leads p to_mismatch r n = (r ≡ returns d) × (1 ≤ n)
    Leads p to_match r n = (r ≡ returns m) × (1 ≤ n)
    Leads p (to_rules e) r n = Ends e p r n

    pub leads_over : (p q : List Instruction) (to : Destination) (r : Result) (n : ℕ) → Over p q → Leads p to r n → Leads q to r n
    unfolding Leads
    leads_over p q to_mismatch r n o h = h
    leads_over p q to_match r n o h = h
    leads_over p q (to_rules e) r n o h = ends_over e p q r n o h

    pub record Ready (f : Form) : Type 0 where
      pub on_match : Returns f.match_return f.code m
      pub on_mismatch : Returns f.mismatch_return f.code d

    pub ready_over : (f : Form) (q : List Instruction) (at : ℕ) → Over f.code q → Ready f
        → Ready (record { code = q; match_return = f.match_return; mismatch_return = f.mismatch_return; at = at })
    ready_over f q at o h = record {
      on_match = λ x. ends_over f.match_return f.code q (returns m) 1 o (h.on_match x);
      on_mismatch = λ x. ends_over f.mismatch_return f.code q (returns d) 1 o (h.on_mismatch x);
    }

    -- ---- a tree in a block of at most `top` instructions: one instruction a comparison, and one more
    record Followed (top : ℕ) (f g : Form) (to : Destination) (n : ℕ) : Type 0 where
      ready : Ready g
      over : Over f.code g.code
      upto : (r : Result) (b : ℕ) → Leads f.code to r b → Ends g.at g.code r (b + suc n)
      tight : (r : Result) (b : ℕ) → g.at + jump_reach < top → Leads f.code to r b → Ends g.at g.code r (b + n)

    leaf_followed : (top : ℕ) (to : Destination) (f : Form) → top ≤ length f.code + jump_reach → Ready f → Followed top f (plant_leaf m d to f) to 0
    unfolding plant_leaf Leads
    leaf_followed top to_mismatch f l h =
        let x = return_ends jump_reach d f.mismatch_return f.code (omega arith) h.on_mismatch in
        let o = return_over jump_reach d f.mismatch_return f.code in
        record {
          ready = record { on_match = λ q. ends_over f.match_return f.code _ (returns m) 1 o (h.on_match q); on_mismatch = λ q. x };
          over = o;
          upto = λ r b e. rw e.0 (ends_more _ _ (returns d) 1 (b + 1) (omega arith) x);
          tight = λ r b q e. rw e.0 (ends_more _ _ (returns d) 1 (b + 0) (omega (arith, e.1)) x);
        }
    leaf_followed top to_match f l h =
        let x = return_ends jump_reach m f.match_return f.code (omega arith) h.on_match in
        let o = return_over jump_reach m f.match_return f.code in
        record {
          ready = record { on_match = λ q. x; on_mismatch = λ q. ends_over f.mismatch_return f.code _ (returns d) 1 o (h.on_mismatch q) };
          over = o;
          upto = λ r b e. rw e.0 (ends_more _ _ (returns m) 1 (b + 1) (omega arith) x);
          tight = λ r b q e. rw e.0 (ends_more _ _ (returns m) 1 (b + 0) (omega (arith, e.1)) x);
        }
    leaf_followed top (to_rules e) f l h =
        let o = place_over e f.code in
        record {
          ready = ready_over f _ _ o h;
          over = o;
          upto = λ r b x. place_ends e f.code r b x;
          tight = λ r b q x. ends_more _ _ r b (b + 0) (omega arith) (place_old e f.code r b (omega arith) x);
        }

    block_ready : (f : Form) → Ready f → Ready (open_block d f)
    unfolding open_block
    block_ready f h = record {
      on_match = λ x. ends_over f.match_return f.code _ (returns m) 1 (return_over block_reach d f.mismatch_return f.code) (h.on_match x);
      on_mismatch = λ x. return_ends block_reach d f.mismatch_return f.code (omega arith) h.on_mismatch;
    }

    block_over : (f : Form) → Over f.code (open_block d f).code
    unfolding open_block
    block_over f = return_over block_reach d f.mismatch_return f.code

    module _ (t : Comparison) (k at : ℕ) (f : Form) where
      compare_ready : Ready f → Ready (compare_first t k at f)
      unfolding compare_first
      compare_ready h = ready_over f _ _ (more _ (place_over at f.code)) h

      compare_hit : (r : Result) (n : ℕ) → passes t k word ≡ true → Ends (near_place at f.code).at (near_place at f.code).code r n
          → Ends (compare_first t k at f).at (compare_first t k at f).code r (n + 1)
      unfolding compare_first
      compare_hit r n y h =
          let z : passes t k s.A ≡ true = ap (passes t k) known ∙ y in
          ends_first _ (near_place at f.code).code r (n + 1) (run_compare (near_place at f.code).code s c t k _ _ ∙ rw z h.goes)
          (rw (count_compare, z) (omega (arith, h.upto)))

      compare_miss : (r : Result) (n : ℕ) → passes t k word ≡ false → Ends f.at f.code r n
          → Ends (compare_first t k at f).at (compare_first t k at f).code r (n + 1)
      unfolding compare_first
      compare_miss r n y e =
          let h = ends_over f.at f.code (near_place at f.code).code r n (place_over at f.code) e in
          let z : passes t k s.A ≡ false = ap (passes t k) known ∙ y in
          ends_first _ (near_place at f.code).code r (n + 1) (run_compare (near_place at f.code).code s c t k _ _ ∙ rw z h.goes)
          (rw (count_compare, z) (omega (arith, h.upto)))

    join_followed : (top : ℕ) (t : Comparison) (k : ℕ) (f g h : Form) (a b : Destination) (na nb : ℕ) → length h.code ≤ top → top ≤ length h.code + jump_reach
        → Followed top f g a na → Followed top g h b nb → Followed top f (compare_first t k g.at h) (cond (passes t k word) a b) (suc (max na nb))
    join_followed top t k f g h a b na nb l l₂ p q = record {
      ready = compare_ready t k g.at h q.ready;
      over = over_over p.over (over_over q.over (compare_over t k g.at h));
      upto = λ r x. pick r x (passes t k word) refl;
      tight = λ r x u y. absurd (omega (arith, (compare_size t k g.at h).1, over_length (compare_over t k g.at h)));
    }
      where
        hit : (r : Result) (x : ℕ) → Leads f.code a r x → (u : Bool) → leb (length h.code) (g.at + jump_reach) ≡ u
            → Ends (near_place g.at h.code).at (near_place g.at h.code).code r (x + suc na)
        hit r x y true z = place_near g.at h.code r (x + suc na) (leb-true _ _ z) (ends_over g.at g.code h.code r (x + suc na) q.over (p.upto r x y))
        hit r x y false z =
            let w = leb-false (length h.code) (g.at + jump_reach) z in
            ends_more _ _ r (x + na + 1) (x + suc na) (omega arith)
            (place_ends g.at h.code r (x + na) (ends_over g.at g.code h.code r (x + na) q.over (p.tight r x (omega arith) y)))

        pick : (r : Result) (x : ℕ) (u : Bool) → passes t k word ≡ u → Leads f.code (cond u a b) r x
            → Ends (compare_first t k g.at h).at (compare_first t k g.at h).code r (x + suc (suc (max na nb)))
        pick r x true e y =
            ends_more _ _ r (x + suc na + 1) (x + suc (suc (max na nb))) (omega arith)
            (compare_hit t k g.at h r (x + suc na) e (hit r x y (leb (length h.code) (g.at + jump_reach)) refl))
        pick r x false e y =
            ends_more _ _ r (x + suc nb + 1) (x + suc (suc (max na nb))) (omega arith)
            (compare_miss t k g.at h r (x + suc nb) e (q.upto r x (leads_over f.code g.code b r x p.over y)))

    plant_followed : (top : ℕ) (t : Tree) (f : Form) → Flat t → Roomy top f (cost t) → Ready f
        → Followed top f (plant m d t f) (find t word) (depth t)
    unfolding plant cost Flat find depth
    plant_followed top (leaf to) f b i r = leaf_followed top to f i.small r
    plant_followed top (block t) f b i r = absurd b
    plant_followed top (node t k hit miss) f b i r =
        let g : Form = plant m d hit f in
        let h : Form = plant m d miss g in
        let ih = roomy_hit m d top f (cost hit) (cost miss) i in
        let sh = plant_snug m d top hit f b.0 ih in
        let im = roomy_miss m d top f g (cost hit) (cost miss) i sh in
        let sm = plant_snug m d top miss g b.1 im in
        let p = plant_followed top hit f b.0 ih r in
        let q = plant_followed top miss g b.1 im p.ready in
        join_followed top t k f g h (find hit word) (find miss word) (depth hit) (depth miss)
        (omega (arith, im.fits, sm.most)) (omega (arith, im.small, sm.grew)) p q

    -- ---- the tree of any number of spans

    pub record Found (f g : Form) (to : Destination) (n : ℕ) : Type 0 where
      pub ready : Ready g
      pub over : Over f.code g.code
      pub upto : (r : Result) (b : ℕ) → Leads f.code to r b → Ends g.at g.code r (b + n)

    block_found : (ss : List Span) (t : Tree) (f : Form) (n : ℕ) → length ss ≤ block_spans → Lean ss t → depth t < n → Rooted f → Ready f
        → Found f (plant m d (block t) f) (find (block t) word) n
    unfolding plant find
    block_found ss t f n l h i r w =
        let x = plant_followed (length (open_block d f).code + cost t) t (open_block d f) h.flat (block_roomy m d ss t f l h r) (block_ready f w) in
        record {
          ready = x.ready;
          over = over_over (block_over f) x.over;
          upto = λ y b e. ends_more _ _ y (b + suc (depth t)) (b + n) (omega arith)
              (x.upto y b (leads_over f.code (open_block d f).code (find t word) y b (block_over f) e));
        }

    -- a half is far only where it has many spans
    far : (k : ℕ) → 42 ≤ 2 ^ k → 6 ≤ k
    far zero h = absurd (omega arith)
    far (suc zero) h = absurd (omega arith)
    far (suc (suc zero)) h = absurd (omega arith)
    far (suc (suc (suc zero))) h = absurd (omega arith)
    far (suc (suc (suc (suc zero)))) h = absurd (omega arith)
    far (suc (suc (suc (suc (suc zero))))) h = absurd (omega arith)
    far (suc (suc (suc (suc (suc (suc k)))))) h = omega arith

    join_found : (ss : List Span) (k n : ℕ) (hit miss : Tree) (f : Form) → block_spans < length ss → length ss ≤ 2 ^ suc k → Compares hit
        → Sized (lower ss) (plant m d hit f) (plant m d miss (plant m d hit f))
        → Found f (plant m d hit f) (find hit word) (tree_most k)
        → Found (plant m d hit f) (plant m d miss (plant m d hit f)) (find miss word) (tree_most k)
        → Found f (plant m d (node at_least n hit miss) f) (find (node at_least n hit miss) word) (tree_most (suc k))
    unfolding plant find tree_most
    join_found ss k n hit miss f l e by z p q = record {
      ready = compare_ready at_least n g.at h q.ready;
      over = over_over p.over (over_over q.over (compare_over at_least n g.at h));
      upto = λ r b. pick r b (passes at_least n word) refl;
    }
      where
        g : Form
        g = plant m d hit f

        h : Form
        h = plant m d miss (plant m d hit f)

        near : (r : Result) (b : ℕ) → Leads f.code (find hit word) r b → (u : Bool) → leb (length (lower ss)) 41 ≡ u
            → Ends (near_place g.at h.code).at (near_place g.at h.code).code r (b + (suc k + 3 + (suc k - 6)) - 1)
        near r b x true w =
            let i = z.most in
            let o = lefts_least (lower ss) in
            let j = needs_most (lower ss) in
            let v = leb-true (length (lower ss)) 41 w in
            let y = (halves ss).0 in
            ends_more _ _ r (b + (k + 3 + (k - 6))) _ (omega arith)
            (place_near g.at h.code r (b + (k + 3 + (k - 6))) (omega (arith, planted_front m d hit f by))
            (ends_over g.at g.code h.code r (b + (k + 3 + (k - 6))) q.over (p.upto r b x)))
        near r b x false w =
            let v = leb-false (length (lower ss)) 41 w in
            let y = (halves ss).0 in
            let j = far k (omega arith) in
            ends_more _ _ r (b + (k + 3 + (k - 6)) + 1) _ (omega arith)
            (place_ends g.at h.code r (b + (k + 3 + (k - 6)))
            (ends_over g.at g.code h.code r (b + (k + 3 + (k - 6))) q.over (p.upto r b x)))

        pick : (r : Result) (b : ℕ) (u : Bool) → passes at_least n word ≡ u → Leads f.code (cond u (find hit word) (find miss word)) r b
            → Ends (compare_first at_least n g.at h).at (compare_first at_least n g.at h).code r (b + (suc k + 3 + (suc k - 6)))
        pick r b true w x =
            ends_more _ _ r (b + (suc k + 3 + (suc k - 6)) - 1 + 1) _ (omega arith)
            (compare_hit at_least n g.at h r _ w (near r b x (leb (length (lower ss)) 41) refl))
        pick r b false w x =
            ends_more _ _ r (b + (k + 3 + (k - 6)) + 1) _ (omega arith)
            (compare_miss at_least n g.at h r (b + (k + 3 + (k - 6))) w (q.upto r b (leads_over f.code g.code (find miss word) r b p.over x)))

    -- inside a block, and not
    unfoldable Tracking : Bool → List Span → Tree → Type 0
    Tracking true ss t = (k : ℕ) → length ss ≤ 2 ^ k → depth t ≤ k + 2
    Tracking false ss t =
        (k : ℕ) → length ss ≤ 2 ^ k → 1 ≤ length ss → (f : Form) → Rooted f → Ready f → Found f (plant m d t f) (find t word) (tree_most k)

    chain_tracking : (inside : Bool) (from end : ℕ) (ss : List Span) → few ss ≡ true → Fitting m d true ss (chain from end ss)
        → Tracking inside ss (block_if (not inside) (chain from end ss))
    unfolding Tracking block_if Fitting tree_most
    chain_tracking true from end ss q x = λ k l. few_depth k from end ss q l
    chain_tracking false from end ss q x = λ k l o f r w.
        block_found ss (chain from end ss) f (k + 3 + (k - 6)) (omega (arith, few_most ss q)) x (omega (arith, few_depth k from end ss q l)) r w

    -- both halves have half as many spans
    halves_depth : (k : ℕ) (ss : List Span) (t : Comparison) (n : ℕ) (hit miss : Tree) → few ss ≡ false → length ss ≤ 2 ^ k
        → ((k : ℕ) → length (upper ss) ≤ 2 ^ k → depth hit ≤ k + 2) → ((k : ℕ) → length (lower ss) ≤ 2 ^ k → depth miss ≤ k + 2)
        → depth (node t n hit miss) ≤ k + 2
    unfolding depth
    halves_depth zero ss t n hit miss q l x y = absurd (omega (arith, few_not ss q))
    halves_depth (suc k) ss t n hit miss q l x y = omega (arith, x k (omega (arith, (halves ss).1)), y k (omega (arith, (halves ss).0)))

    Tracked : Bool → ℕ → ℕ → List Span → Tree → Type 0
    Tracked inside from end ss t = Fitting m d inside ss t × Fronted end ss t × Tracking inside ss t

    chain_tracked : (inside : Bool) (from end : ℕ) (ss : List Span) → few ss ≡ true → Tracked inside from end ss (block_if (not inside) (chain from end ss))
    unfolding Tracked
    chain_tracked inside from end ss q = (
      chain_fitting m d inside from end ss q,
      chain_fronted inside from end ss q,
      chain_tracking inside from end ss q (unfold block_if in chain_fitting m d true from end ss q),
    )

    halves_tracked : (inside : Bool) (from end : ℕ) (ss : List Span) (hit miss : Tree) → few ss ≡ false
        → Tracked (inside || fits_block ss) (middle ss) end (upper ss) hit → Tracked (inside || fits_block ss) from (middle ss) (lower ss) miss
        → Tracked inside from end ss (block_if (fits_block ss && not inside) (node at_least (middle ss) hit miss))
    unfolding Tracked Tracking Fitting block_if tree_most
    halves_tracked inside from end ss hit miss q x y =
        (halves_fitting m d inside from end ss hit miss q x.0 y.0, halves_fronted inside end ss hit miss, go inside (fits_block ss) refl x y)
      where
        go : (b fits : Bool) → fits_block ss ≡ fits
            → Fitting m d (b || fits) (upper ss) hit × Fronted end (upper ss) hit × Tracking (b || fits) (upper ss) hit
            → Fitting m d (b || fits) (lower ss) miss × Fronted (middle ss) (lower ss) miss × Tracking (b || fits) (lower ss) miss
            → Tracking b ss (block_if (fits && not b) (node at_least (middle ss) hit miss))
        go true true e x y = λ k l. halves_depth k ss at_least (middle ss) hit miss q l x.2 y.2
        go true false e x y = λ k l. halves_depth k ss at_least (middle ss) hit miss q l x.2 y.2
        go false true e x y = λ k l o f r w.
            block_found ss (node at_least (middle ss) hit miss) f (k + 3 + (k - 6)) (leb-true (length ss) block_spans e)
            (join_lean ss at_least (middle ss) hit miss q x.0 y.0)
            (omega (arith, halves_depth k ss at_least (middle ss) hit miss q l x.2 y.2)) r w
        go false false e x y = λ k l o f r w. many k l f r w
          where
            many : (k : ℕ) → length ss ≤ 2 ^ k → (f : Form) → Rooted f → Ready f
                → Found f (plant m d (node at_least (middle ss) hit miss) f) (find (node at_least (middle ss) hit miss) word) (tree_most k)
            many zero l f r w = absurd (omega (arith, few_not ss q))
            many (suc k) l f r w =
                let n : block_spans < length ss = leb-false (length ss) block_spans e in
                let hu = (halves ss).1 in
                let hl = (halves ss).0 in
                let a = x.2 k (omega arith) (omega arith) f r w in
                let sa = x.0 f r in
                let sb = y.0 (plant m d hit f) sa.rooted in
                join_found ss k (middle ss) hit miss f n l (x.1 (omega arith) (λ z. absurd (omega arith))) sb a
                (y.2 k (omega arith) (omega arith) (plant m d hit f) sa.rooted a.ready)

    -- the tree is entered at the front, and from there the call comes to where its number leads
    pub record Searched (f g : Form) (to : Destination) (n : ℕ) : Type 0 where
      pub front : g.at ≡ length g.code
      pub found : Found f g to n

    pub tree_found : (k : ℕ) (ss : List Span) (f : Form) → length ss ≤ 2 ^ k → 1 ≤ length ss → Rooted f → Ready f
        → Searched f (plant m d (grow (length ss) false 0 0 ss) f) (find (grow (length ss) false 0 0 ss) word) (tree_most k)
    unfolding Tracked Tracking
    tree_found k ss f l o r w =
        let x = grown Tracked chain_tracked halves_tracked (length ss) false 0 0 ss (omega arith) in
        record { front = planted_front m d (grow (length ss) false 0 0 ss) f (x.1 o (λ e. refl)); found = x.2 k l o f r w }
