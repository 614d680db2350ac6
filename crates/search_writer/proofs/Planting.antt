-- Laws of a form that grows in front while it is written: an instruction more, a place that can be jumped to, a comparison, and the
-- trees that they make.
use mathlib.Core.Path.{◌≡◌, refl, sym, subst}
use mathlib.Core.Bool.{Bool, true, false}
use mathlib.Core.List.{List, [], ◌∷◌}
use Prim.Native.Nat.{ℕ, zero, suc, ◌+◌, ◌-◌, ◌*◌, ◌≤◌, ◌<◌}
use native.Mathlib.Omega.{arith}
use borrow.Author.Tests.{lt-ltb, le-ltb, ltb-true, ltb-false, le-leb, lt-leb, leb-true, leb-false, eq-eqb, ne_eqb, eqb-true}
use Rattle.std.proofs.Common.{Option, Some, None}
use lib.Dec.{eqb, leb, ltb}
use lib.ListN.{length, take}
use Rattle.definitions.specs.declared.Instruction.{Instruction}
use Rattle.definitions.specs.Machine.{instruction_bytes, filter_bytes}
use Rattle.definitions.specs.Emitted.{jump_by, return}
use Rattle.theorems.proofs.Tests.{both_true}
use Rattle.bpf.specs.Place.{place}
use Rattle.bpf.proofs.Buffer.{put_first, puts_before, before_is}
use Rattle.definitions.specs.SearchForm as form
use Rattle.definitions.specs.SearchForm.{to_mismatch, to_match, to_rules, Span, singles, chain, block_reach, open_block, block_if, ends_by, up_to, link, equal, at_least, above, Tree, leaf, node, Spot, in_front, jump_reach, away, near_place, near_return, plant_leaf, comparing, compare_first, plant}
use Rattle.spans.proofs.Reading.{take_more, singles_more}
use Rattle.search_writer.specs.declared.Reached.{Reached}
use Rattle.search_writer.specs.declared.Marks.{Marks}
use Rattle.search_writer.specs.Forms.{Inside, place_of, Ends, Reaches, Holds, Makes, Ready, Grew, to_return, open_if}
use Rattle.search_writer.specs.Compared.{code_of, kind_of}
use Rattle.search_writer.specs.declared.Comparison.{Comparison}
use Rattle.search_writer.specs.declared.Comparison.TheVariants.{Equal, AtLeast, Above}

-- ---- an instruction more

pub written_front : (z out new : List ℕ) (end at : ℕ) (p : List Instruction) (i : Instruction) → at + (8 * length p + 8) ≡ end
    → Ends z end p out → new ≡ place out at (instruction_bytes i) → Ends z end (i ∷ p) new
written_front z out new end at p i e w o =
    record {
      room = w.room;
      there = λ h.
          let r = w.room in
          rw (
            o,
            w.there (omega arith),
            before_is z end (at + 8) p (omega arith),
            put_first (place z (at + 8) (filter_bytes p)) at i,
            puts_before z at (at + 8) (i ∷ []) p (omega arith) (omega arith),
            before_is z end at (i ∷ p) (omega arith),
          );
    }

pub written_full : (z out : List ℕ) (end : ℕ) (p : List Instruction) (i : Instruction) → end < 8 * length p + 8
    → Ends z end p out → Ends z end (i ∷ p) out
written_full z out end p i full w = record { room = w.room; there = λ h. absurd (omega arith) }

-- ---- a place that can be jumped to: it is, or an instruction in front of all is

pub reach_kept : (end n at : ℕ) (old : List ℕ) (step : List Instruction → Spot)
    → ((p : List Instruction) → length p ≡ n → step p ≡ record { code = p; at = at }) → at ≤ n → n ≤ at + 250
    → Reaches end n old old (record { count = n; at = at }) step
reach_kept end n at old step kept i h =
    record {
      code = λ z p e w. rw (kept p e) w;
      count = λ p e. rw (kept p e) e;
      at = λ p e. rw (kept p e);
      inside = i;
      near = h;
      less = omega arith;
      most = omega arith;
    }

-- an instruction in front of all
pub reach_put : (end n : ℕ) (old new : List ℕ) (i : Instruction)
    → ((z : List ℕ) (p : List Instruction) → length p ≡ n → Ends z end p old → Ends z end (i ∷ p) new)
    → Reaches end n old new (record { count = n + 1; at = n + 1 }) (in_front i)
reach_put end n old new i put =
    record {
      code = put;
      count = λ p e. omega arith;
      at = λ p e. omega arith;
      inside = omega arith;
      near = omega arith;
      less = omega arith;
      most = omega arith;
    }

pub reach_front : (step : List Instruction → Spot) {end n : ℕ} {old new : List ℕ} {r : Reached} {i : Instruction}
    → ((p : List Instruction) → length p ≡ n → step p ≡ in_front i p) → Reaches end n old new r (in_front i) → Reaches end n old new r step
reach_front step front e =
    record {
      code = λ z p l w. rw (front p l) (e.code z p l w);
      count = λ p l. rw (front p l) (e.count p l);
      at = λ p l. rw (front p l) (e.at p l);
      inside = e.inside;
      near = e.near;
      less = e.less;
      most = e.most;
    }

pub place_kept : (n at : ℕ) (p : List Instruction) → n - at ≤ 250 → length p ≡ n → near_place at p ≡ record { code = p; at = at }
unfolding near_place
place_kept n at p h e = rw (e, le-ltb 250 (n - at) h)

pub place_front : (n at : ℕ) (p : List Instruction) → 250 < n - at → length p ≡ n → near_place at p ≡ in_front (jump_by (n - at)) p
unfolding near_place
place_front n at p h e = rw (e, lt-ltb 250 (n - at) h)

pub return_kept : (z action n at : ℕ) (p : List Instruction) → ltb z (away n at) ≡ false → length p ≡ n
    → near_return z action at p ≡ record { code = p; at = at }
unfolding near_return
return_kept z action n at p h e = rw (e, h)

pub return_front : (z action n at : ℕ) (p : List Instruction) → ltb z (away n at) ≡ true → length p ≡ n
    → near_return z action at p ≡ in_front (return action) p
unfolding near_return
return_front z action n at p h e = rw (e, h)

pub away_near : (z n at : ℕ) → 0 < at → n - at ≤ z → ltb z (away n at) ≡ false
unfolding away
away_near z n zero h i = absurd (omega arith)
away_near z n (suc at) h i = le-ltb z (n - suc at) i

pub away_none : (z n : ℕ) → z ≤ 250 → ltb z (away n 0) ≡ true
unfolding away
away_none z n h = lt-ltb z 256 (omega arith)

pub away_far : (z n at : ℕ) → 0 < at → z < n - at → ltb z (away n at) ≡ true
unfolding away
away_far z n zero h i = absurd (omega arith)
away_far z n (suc at) h i = lt-ltb z (n - suc at) i

-- ---- marks: the returns stay in code that grows, and few enough instructions are added

pub inside_on : (place : Option ℕ) {n more : ℕ} → Inside n place → n ≤ more → Inside more place
inside_on None w h = tt
inside_on (Some at) w h = (w.0, omega arith)

pub ready_after : {end more b : ℕ} {k r : Marks} {old new : List ℕ} → Ready end more k old → Inside r.count r.hit → Inside r.count r.miss
    → r.count + b ≤ k.count + more → length new ≡ length old → Ready end b r new
ready_after w hit miss h l = let small = w.small in let room = w.room in record { room = omega arith; hit = hit; miss = miss; small = omega arith }

pub ready_on : {end more a b : ℕ} {k r : Marks} {old new : List ℕ} → Ready end more k old → Grew a k r → a + b ≤ more → length new ≡ length old → Ready end b r new
ready_on w g h l = let most = g.most in ready_after w g.hit g.miss (omega arith) l

pub grew_after : {a n : ℕ} {k m r : Marks} → Grew a m r → k.count ≤ m.count → m.count + a ≤ k.count + n → Grew n k r
grew_after g h i = let less = g.less in let most = g.most in record { hit = g.hit; miss = g.miss; at = g.at; near = g.near; less = omega arith; most = omega arith }

pub grew_on : {a b n : ℕ} {k m r : Marks} → Grew a k m → Grew b m r → a + b ≤ n → Grew n k r
grew_on f g h = let less = f.less in let most = f.most in grew_after g less (omega arith)

pub grew_more : {a n : ℕ} {k r : Marks} → Grew a k r → a ≤ n → Grew n k r
grew_more g h = grew_after g (omega arith) (omega arith)

pub miss_grew : {end : ℕ} {k : Marks} {r : Reached} {old new : List ℕ} {step : List Instruction → Spot} → Inside k.count k.hit
    → Reaches end k.count old new r step → 0 < r.at → Grew 1 k (record { count = r.count; hit = k.hit; miss = Some r.at; at = r.at })
miss_grew {k = k} hit e h = record { hit = inside_on k.hit hit e.less; miss = (h, e.inside); at = e.inside; near = e.near; less = e.less; most = e.most }

pub hit_grew : {end : ℕ} {k : Marks} {r : Reached} {old new : List ℕ} {step : List Instruction → Spot} → Inside k.count k.miss
    → Reaches end k.count old new r step → 0 < r.at → Grew 1 k (record { count = r.count; hit = Some r.at; miss = k.miss; at = r.at })
hit_grew {k = k} miss e h = record { hit = (h, e.inside); miss = inside_on k.miss miss e.less; at = e.inside; near = e.near; less = e.less; most = e.most }

pub at_grew : {end : ℕ} {k : Marks} {r : Reached} {old new : List ℕ} {step : List Instruction → Spot} → Inside k.count k.hit → Inside k.count k.miss
    → Reaches end k.count old new r step → Grew 1 k (record { count = r.count; hit = k.hit; miss = k.miss; at = r.at })
at_grew {k = k} hit miss e =
    record { hit = inside_on k.hit hit e.less; miss = inside_on k.miss miss e.less; at = e.inside; near = e.near; less = e.less; most = e.most }

-- ---- a form with its marks, taken to another one

pub mismatch_makes : (z d : ℕ) {end : ℕ} {k : Marks} {r : Reached} {old new : List ℕ} → Reaches end k.count old new r (near_return z d (place_of k.miss))
    → Makes end k (record { count = r.count; hit = k.hit; miss = Some r.at; at = r.at }) old new (to_return z d)
unfolding to_return
mismatch_makes z d e l f h =
    rw h.miss
    (record {
      count = e.count f.code h.count;
      hit = h.hit;
      miss = e.at f.code h.count;
      at = e.at f.code h.count;
      code = e.code l f.code h.count h.code;
    })

pub match_makes : (m d : ℕ) {end : ℕ} {k : Marks} {r : Reached} {old new : List ℕ} → Reaches end k.count old new r (near_return jump_reach m (place_of k.hit))
    → Makes end k (record { count = r.count; hit = Some r.at; miss = k.miss; at = r.at }) old new (plant m d (leaf to_match))
unfolding plant plant_leaf
match_makes m d e z f h =
    rw h.hit
    (record {
      count = e.count f.code h.count;
      hit = e.at f.code h.count;
      miss = h.miss;
      at = e.at f.code h.count;
      code = e.code z f.code h.count h.code;
    })

pub rules_makes : (m d place : ℕ) {end : ℕ} {k : Marks} {r : Reached} {old new : List ℕ} → Reaches end k.count old new r (near_place place)
    → Makes end k (record { count = r.count; hit = k.hit; miss = k.miss; at = r.at }) old new (plant m d (leaf (to_rules place)))
unfolding plant plant_leaf
rules_makes m d place e z f h =
    record {
      count = e.count f.code h.count;
      hit = h.hit;
      miss = h.miss;
      at = e.at f.code h.count;
      code = e.code z f.code h.count h.code;
    }

comparison_is : (t : Comparison) (n hit miss : ℕ) → record { code = code_of t; jt = hit; jf = miss; k = n } ≡ comparing (kind_of t) n hit miss
unfolding comparing
comparison_is Equal n hit miss = refl
comparison_is AtLeast n hit miss = refl
comparison_is Above n hit miss = refl

pub compare_makes : (t : Comparison) (code n hit : ℕ) {end : ℕ} {k : Marks} {r q : Reached} {old mid new : List ℕ} → code ≡ code_of t
    → Reaches end k.count old mid r (near_place hit)
    → Reaches end r.count mid new q (in_front (record { code = code; jt = r.count - r.at; jf = r.count - k.at; k = n }))
    → Makes end k (record { count = q.count; hit = k.hit; miss = k.miss; at = q.at }) old new (compare_first (kind_of t) n hit)
unfolding compare_first
compare_makes t code n hit {k = k} {r = r} c e put z f h =
    let l = e.count f.code h.count in
    let w = put.code z _ l (e.code z f.code h.count h.code) in
    let count = put.count _ l in
    let at = put.at _ l in
    rw (e.at f.code h.count, h.at)
    (record {
      count = omega arith;
      hit = h.hit;
      miss = h.miss;
      at = omega arith;
      code = rw (l, ← comparison_is t n (r.count - r.at) (r.count - k.at), ← c) w;
    })

-- ---- trees

pub node_makes : (m d : ℕ) (t : form.Comparison) (n : ℕ) (hit miss : Tree) {end : ℕ} {k a b r : Marks} {old mid mid' new : List ℕ}
    → Makes end k a old mid (plant m d hit) → Makes end a b mid mid' (plant m d miss) → Makes end b r mid' new (compare_first t n a.at)
    → Makes end k r old new (plant m d (node t n hit miss))
unfolding plant
node_makes m d t n hit miss {end = end} {r = r} {new = new} one two three z f h =
    let y = one z f h in
    let all = plant m d miss (plant m d hit f) in
    subst (λ (x : ℕ). Holds z end (compare_first t n x all) r new) (sym y.at) (three z all (two z (plant m d hit f) y))

pub mismatch_leaf : (m d : ℕ) {end : ℕ} {k r : Marks} {old new : List ℕ} → Makes end k r old new (to_return jump_reach d)
    → Makes end k r old new (plant m d (leaf to_mismatch))
unfolding to_return plant plant_leaf
mismatch_leaf m d e z f h = e z f h

pub ends_none : (end n : ℕ) → end ≡ 0 → ends_by end n ≡ false
unfolding ends_by
ends_none end n e = rw e

pub ends_some : (end n : ℕ) → (end ≡ 0 → ⊥) → ends_by end n ≡ leb (end - 1) n
unfolding ends_by
ends_some end n h = rw (lt-ltb 0 end (omega (arith, h))) (go (leb (end - 1) n) refl)
  where
    go : (b : Bool) → leb (end - 1) n ≡ b → leb end (n + 1) ≡ leb (end - 1) n
    go true e = rw e (le-leb end (n + 1) (omega (arith, leb-true (end - 1) n e)))
    go false e = rw e (lt-leb end (n + 1) (omega (arith, leb-false (end - 1) n e)))

pub up_to_end : (end : ℕ) (s : Span) (rest : Tree) → ends_by end s.last ≡ true → up_to end s rest ≡ leaf s.to
unfolding up_to
up_to_end end s rest e = rw e

pub up_to_on : (end : ℕ) (s : Span) (rest : Tree) → ends_by end s.last ≡ false → up_to end s rest ≡ node above s.last rest (leaf s.to)
unfolding up_to
up_to_on end s rest e = rw e

link_single : (from end : ℕ) (s : Span) (rest : Tree) → s.first ≡ s.last → link from end s rest ≡ node equal s.first (leaf s.to) rest
unfolding link
link_single from end s rest e = rw (eq-eqb s.first s.last e)

pub link_from : (from end : ℕ) (s : Span) (rest : Tree) → (s.first ≡ s.last → ⊥) → s.first ≤ from → link from end s rest ≡ up_to end s rest
unfolding link
link_from from end s rest h i = rw (ne_eqb s.first s.last h, le-leb s.first from i)

pub link_above : (from end : ℕ) (s : Span) (rest : Tree) → (s.first ≡ s.last → ⊥) → from < s.first
    → link from end s rest ≡ node at_least s.first (up_to end s rest) (leaf to_mismatch)
unfolding link
link_above from end s rest h i = rw (ne_eqb s.first s.last h, lt-leb s.first from i)

pub link_makes : (m d from end : ℕ) (s : Span) (rest : Tree) {base : ℕ} {k a b r : Marks} {old mid mid' new : List ℕ} → s.first ≡ s.last
    → Makes base k a old mid (plant m d (leaf s.to)) → Makes base a b mid mid' (plant m d rest) → Makes base b r mid' new (compare_first equal s.first a.at)
    → Makes base k r old new (plant m d (link from end s rest))
link_makes m d from end s rest e one two three = rw (link_single from end s rest e) (node_makes m d equal s.first (leaf s.to) rest one two three)

-- ---- a chain: the spans in front of n, x is the first of xs and ys are the others

pub chain_none : (from end n : ℕ) (xs : List Span) → n ≡ 0 → chain from end (take n xs) ≡ leaf to_mismatch
unfolding chain
chain_none from end n xs e = rw e

module _ (from end n : ℕ) (x : Span) (xs ys : List Span) (some : n ≡ 0 → ⊥) (e : xs ≡ x ∷ ys) where
  pub chain_more : chain from end (take n xs) ≡ link from end x (chain from end (take (n - 1) ys))
  unfolding chain
  chain_more = rw (take_more n x xs ys some e)

  pub singles_rest : (1 < n → singles (take n xs) ≡ true) → 1 < n - 1 → singles (take (n - 1) ys) ≡ true
  singles_rest h i =
      let all = rw (take_more n x xs ys some e, singles_more x (take (n - 1) ys)) at (h (omega arith)) in
      (both_true (eqb x.first x.last) (singles (take (n - 1) ys)) all).1

  -- a span of several numbers is the only one
  pub chain_one : (x.first ≡ x.last → ⊥) → (1 < n → singles (take n xs) ≡ true) → chain from end (take n xs) ≡ link from end x (leaf to_mismatch)
  chain_one wide h = go (ltb 1 n) refl
    where
      go : (b : Bool) → ltb 1 n ≡ b → chain from end (take n xs) ≡ link from end x (leaf to_mismatch)
      go true q =
          let all = rw (take_more n x xs ys some e, singles_more x (take (n - 1) ys)) at (h (ltb-true 1 n q)) in
          absurd (wide (eqb-true x.first x.last (both_true (eqb x.first x.last) (singles (take (n - 1) ys)) all).0))
      go false q = rw (chain_more, chain_none from end (n - 1) ys (omega (arith, ltb-false 1 n q, some)))

-- ---- blocks

pub open_none : (b : Bool) (d : ℕ) {end : ℕ} {k : Marks} {out : List ℕ} → b ≡ false → Makes end k k out out (open_if b d)
unfolding open_if
open_none b d e z f h = rw e h

pub open_some : (b : Bool) (d : ℕ) {end : ℕ} {k r : Marks} {old new : List ℕ} → b ≡ true → Makes end k r old new (to_return block_reach d)
    → Makes end k r old new (open_if b d)
unfolding open_if open_block to_return
open_some b d e m z f h = rw e (m z f h)

pub block_makes : (m d : ℕ) (b : Bool) (t : Tree) {end : ℕ} {k a r : Marks} {old mid new : List ℕ}
    → Makes end k a old mid (open_if b d) → Makes end a r mid new (plant m d t) → Makes end k r old new (plant m d (block_if b t))
unfolding open_if block_if plant
block_makes m d true t one two z f h = two z (open_block d f) (one z f h)
block_makes m d false t one two z f h = two z f (one z f h)
