-- TAKEN: the kernel's checks pass on every search form of at most 4,096 instructions.
use mathlib.Core.Path.{◌≡◌}
use mathlib.Core.Bool.{Bool, true, false, not, ◌&&◌}
use mathlib.Core.List.{List, [], ◌∷◌, ◌++◌, append_assoc}
use Prim.Native.Nat.{ℕ, zero, suc, ◌-◌, ◌/◌, ◌≤◌, ◌<◌, ◌^◌}
use native.Mathlib.Omega.{arith}
use lib.Dec.{leb, ltb}
use lib.ListN.{length, take, drop, length-append}
use Rattle.definitions.specs.declared.Instruction.{Instruction}
use Rattle.definitions.specs.Machine.{codes, kind_in, kind_of}
use Rattle.definitions.specs.Kernel.{ends_in_return}
use Rattle.definitions.specs.RuleSet.{Rule, Entry, RuleSet}
use Rattle.definitions.specs.Format.{Each, InRange}
use Rattle.definitions.specs.Answer.{indices_taken}
use Rattle.definitions.specs.Emitted.{jump_by, if_equal, if_greater, if_at_least, return, rule_body, rule_bodies, entry_body}
use Rattle.theorems.specs.Shape.{LandsAs, Shaped}
use Rattle.theorems.proofs.Sequence.{sequence_keeps}
use Rattle.theorems.proofs.Taken.{Sound, ends_cons, return_sound, return_last, Good, GoodEntry, body_sound, action_small, good_entries, headed_sound, sound_taken}
use Rattle.definitions.specs.SearchForm.{jump_reach, block_reach, bodies, Destination, to_mismatch, to_match, to_rules, Span, plain_spans, entry_spans, spans, Comparison, equal, at_least, above, Tree, leaf, node, block, ends_by, up_to, link, chain, lowest, middle, fits_block, block_if, grow, Form, Spot, away, near_place, near_return, plant_leaf, open_block, comparing, compare_first, plant, ground, tree, planted, search_form}
use Rattle.search_form.specs.Statements.{Taken}
use Rattle.search_form.proofs.Cases.{cond_case}
use Rattle.search_form.proofs.Grow.{is_single, grown}
use Rattle.search_form.proofs.Spans.{plain_case}
use Rattle.search_form.proofs.Sizes.{place_adds, return_adds, Near, place_near, return_near}

-- ---- one instruction in front

-- code that may stand behind something, if the whole is not longer than a distance of four bytes can say
pub record Firm (p : List Instruction) : Type 0 where
  pub shaped : length p < 2 ^ 32 → Shaped p
  pub ends : ends_in_return p ≡ true

jump_firm : (at : ℕ) (p : List Instruction) → 1 ≤ at → at ≤ length p → Firm p → Firm (jump_by (length p - at) ∷ p)
unfolding Shaped LandsAs kind_of kind_in codes
jump_firm at p h k f = record {
  shaped = λ l. (omega arith, (omega arith, omega arith, omega arith, omega arith), f.shaped (omega arith));
  ends = ends_cons (jump_by (length p - at)) p f.ends;
}

pub return_firm : (k : ℕ) (p : List Instruction) → k < 2 ^ 32 → Firm p → Firm (return k ∷ p)
unfolding Shaped LandsAs kind_of kind_in codes
return_firm k p h f = record {
  shaped = λ l. (tt, (omega arith, omega arith, omega arith, h), f.shaped (omega arith));
  ends = ends_cons (return k) p f.ends;
}

compare_firm : (t : Comparison) (k a b : ℕ) (p : List Instruction) → k < 2 ^ 32 → a < 2 ^ 8 → b < 2 ^ 8 → a < length p → b < length p → Firm p
    → Firm (comparing t k a b ∷ p)
unfolding comparing Shaped LandsAs kind_of kind_in codes
compare_firm equal k a b p h a₁ b₁ a₂ b₂ f = record {
  shaped = λ l. ((a₂, b₂), (omega arith, a₁, b₁, h), f.shaped (omega arith));
  ends = ends_cons (if_equal k a b) p f.ends;
}
compare_firm at_least k a b p h a₁ b₁ a₂ b₂ f = record {
  shaped = λ l. ((a₂, b₂), (omega arith, a₁, b₁, h), f.shaped (omega arith));
  ends = ends_cons (if_at_least k a b) p f.ends;
}
compare_firm above k a b p h a₁ b₁ a₂ b₂ f = record {
  shaped = λ l. ((a₂, b₂), (omega arith, a₁, b₁, h), f.shaped (omega arith));
  ends = ends_cons (if_greater k a b) p f.ends;
}

place_firm : (at : ℕ) (p : List Instruction) → 1 ≤ at → at ≤ length p → Firm p → Firm (near_place at p).code
unfolding near_place
place_firm at p h k f = cond_case (λ (s : Spot). Firm s.code) (ltb jump_reach (length p - at)) _ _ (λ q. jump_firm at p h k f) (λ q. f)

near_return_firm : (z k at : ℕ) (p : List Instruction) → k < 2 ^ 32 → Firm p → Firm (near_return z k at p).code
unfolding near_return
near_return_firm z k at p h f = cond_case (λ (s : Spot). Firm s.code) (ltb z (away (length p) at)) _ _ (λ q. return_firm k p h f) (λ q. f)

-- ---- trees whose numbers have room, and whose rules stand in the last l instructions

unfoldable pub FineTo : ℕ → Destination → Type 0
FineTo l to_mismatch = Unit {0}
FineTo l to_match = Unit {0}
FineTo l (to_rules at) = (1 ≤ at) × (at ≤ l)

unfoldable pub Fine : ℕ → Tree → Type 0
Fine l (leaf to) = FineTo l to
Fine l (node t k hit miss) = (k < 2 ^ 32) × Fine l hit × Fine l miss
Fine l (block t) = Fine l t

pub fine_to_more : (l n : ℕ) (to : Destination) → l ≤ n → FineTo l to → FineTo n to
unfolding FineTo
fine_to_more l n to_mismatch h f = tt
fine_to_more l n to_match h f = tt
fine_to_more l n (to_rules at) h f = (f.0, omega (arith, f.1))

fine_more : (l n : ℕ) (t : Tree) → l ≤ n → Fine l t → Fine n t
unfolding Fine
fine_more l n (leaf to) h f = fine_to_more l n to h f
fine_more l n (node t k hit miss) h f = (f.0, fine_more l n hit h f.1, fine_more l n miss h f.2)
fine_more l n (block t) h f = fine_more l n t h f

-- ---- planted

pub record Stands (f : Form) : Type 0 where
  pub firm : Firm f.code
  pub match_return : f.match_return ≤ length f.code
  pub mismatch_return : f.mismatch_return ≤ length f.code

-- and a comparison in front may go where it is entered
pub record Laid (f g : Form) : Type 0 where
  pub stands : Stands g
  pub near : Near jump_reach (record { code = g.code; at = g.at })
  pub grew : length f.code ≤ length g.code

module _ (m d : ℕ) (hm : m < 2 ^ 32) (hd : d < 2 ^ 32) where
  leaf_laid : (to : Destination) (f : Form) → FineTo (length f.code) to → Stands f → Laid f (plant_leaf m d to f)
  unfolding plant_leaf FineTo
  leaf_laid to_mismatch f o h =
      let x = return_near jump_reach d f.mismatch_return f.code (omega arith) h.mismatch_return in
      let g = (return_adds jump_reach d f.mismatch_return f.code).grew in
      record {
        stands = record {
          firm = near_return_firm jump_reach d f.mismatch_return f.code hd h.firm;
          match_return = omega (arith, h.match_return);
          mismatch_return = x.inside;
        };
        near = x;
        grew = g;
      }
  leaf_laid to_match f o h =
      let x = return_near jump_reach m f.match_return f.code (omega arith) h.match_return in
      let g = (return_adds jump_reach m f.match_return f.code).grew in
      record {
        stands = record {
          firm = near_return_firm jump_reach m f.match_return f.code hm h.firm;
          match_return = x.inside;
          mismatch_return = omega (arith, h.mismatch_return);
        };
        near = x;
        grew = g;
      }
  leaf_laid (to_rules at) f o h =
      let x = place_near at f.code o.0 o.1 in
      let g = (place_adds at f.code).grew in
      record {
        stands = record {
          firm = place_firm at f.code o.0 o.1 h.firm;
          match_return = omega (arith, h.match_return);
          mismatch_return = omega (arith, h.mismatch_return);
        };
        near = x;
        grew = g;
      }

  block_stands : (f : Form) → Stands f → Stands (open_block d f)
  unfolding open_block
  block_stands f h = record {
    firm = near_return_firm block_reach d f.mismatch_return f.code hd h.firm;
    match_return = omega (arith, h.match_return, (return_adds block_reach d f.mismatch_return f.code).grew);
    mismatch_return = (return_near block_reach d f.mismatch_return f.code (omega arith) h.mismatch_return).inside;
  }

  block_grew : (f : Form) → length f.code ≤ length (open_block d f).code
  unfolding open_block
  block_grew f = (return_adds block_reach d f.mismatch_return f.code).grew

  compare_laid : (t : Comparison) (k at : ℕ) (f : Form) → k < 2 ^ 32 → 1 ≤ at → at ≤ length f.code → Near jump_reach (record { code = f.code; at = f.at })
      → Stands f → Laid f (compare_first t k at f)
  unfolding compare_first
  compare_laid t k at f hk h i w s =
      let x = place_near at f.code h i in
      let y = place_adds at f.code in
      let xp = x.pos in
      let xi = x.inside in
      let xc = x.close in
      let yg = y.grew in
      let ym = y.most in
      let wp = w.pos in
      let wi = w.inside in
      let wc = w.close in
      let u = s.match_return in
      let v = s.mismatch_return in
      record {
        stands = record {
          firm =
              compare_firm t k _ _ (near_place at f.code).code hk (omega arith) (omega arith) (omega arith) (omega arith)
              (place_firm at f.code h i s.firm);
          match_return = omega arith;
          mismatch_return = omega arith;
        };
        near = record { pos = omega arith; inside = omega arith; close = omega arith };
        grew = omega arith;
      }

  pub plant_laid : (t : Tree) (f : Form) → Fine (length f.code) t → Stands f → Laid f (plant m d t f)
  unfolding plant Fine
  plant_laid (leaf to) f i h = leaf_laid to f i h
  plant_laid (node t k hit miss) f i h =
      let g : Form = plant m d hit f in
      let a = plant_laid hit f i.1 h in
      let b = plant_laid miss g (fine_more (length f.code) (length g.code) miss a.grew i.2) a.stands in
      let z = compare_laid t k g.at (plant m d miss g) i.0 a.near.pos (omega (arith, a.near.inside, b.grew)) b.near b.stands in
      record { stands = z.stands; near = z.near; grew = omega (arith, a.grew, b.grew, z.grew) }
  plant_laid (block t) f i h =
      let b = plant_laid t (open_block d f) (fine_more (length f.code) (length (open_block d f).code) t (block_grew f) i) (block_stands f h) in
      record { stands = b.stands; near = b.near; grew = omega (arith, block_grew f, b.grew) }

-- ---- the trees of spans

pub record FineSpan (l : ℕ) (s : Span) : Type 0 where
  pub first : s.first < 2 ^ 32
  pub last : s.last < 2 ^ 32
  pub to : FineTo l s.to

module _ (l : ℕ) where
  up_fine : (end : ℕ) (s : Span) (t : Tree) → FineSpan l s → Fine l t → Fine l (up_to end s t)
  unfolding up_to Fine
  up_fine end s t f h = cond_case (Fine l) (ends_by end s.last) _ _ (λ q. f.to) (λ q. (f.last, h, f.to))

  link_fine : (from end : ℕ) (s : Span) (t : Tree) → FineSpan l s → Fine l t → Fine l (link from end s t)
  unfolding link Fine FineTo
  link_fine from end s t f h =
      cond_case (Fine l) (is_single s) _ _ (λ q. (f.first, f.to, h))
      (λ q. cond_case (Fine l) (leb s.first from) _ _ (λ r. up_fine end s t f h) (λ r. (f.first, up_fine end s t f h, tt)))

  chain_fine : (from end : ℕ) (ss : List Span) → Each (FineSpan l) ss → Fine l (chain from end ss)
  unfolding chain
  chain_fine from end [] f = unfold Fine FineTo in tt
  chain_fine from end (s ∷ ss) f = link_fine from end s (chain from end ss) f.0 (chain_fine from end ss f.1)

  block_fine : (b : Bool) (t : Tree) → Fine l t → Fine l (block_if b t)
  unfolding block_if Fine
  block_fine true t h = h
  block_fine false t h = h

  take_fine : (h : ℕ) (ss : List Span) → Each (FineSpan l) ss → Each (FineSpan l) (take h ss)
  take_fine zero ss f = tt
  take_fine (suc h) [] f = tt
  take_fine (suc h) (s ∷ ss) f = (f.0, take_fine h ss f.1)

  drop_fine : (h : ℕ) (ss : List Span) → Each (FineSpan l) ss → Each (FineSpan l) (drop h ss) × (lowest (drop h ss) < 2 ^ 32)
  unfolding lowest
  drop_fine zero [] f = (tt, omega arith)
  drop_fine zero (s ∷ ss) f = (f, f.0.first)
  drop_fine (suc h) [] f = (tt, omega arith)
  drop_fine (suc h) (s ∷ ss) f = drop_fine h ss f.1

  pub tree_fine : (ss : List Span) → Each (FineSpan l) ss → Fine l (grow (length ss) false 0 0 ss)
  unfolding Fine
  tree_fine ss =
      grown (λ inside from end ss t. Each (FineSpan l) ss → Fine l t)
      (λ inside from end ss q f. block_fine (not inside) (chain from end ss) (chain_fine from end ss f))
      (λ inside from end ss hit miss q x y f.
      let z = drop_fine (length ss / 2) ss f in
      block_fine (fits_block ss && not inside) (node at_least (middle ss) hit miss) (z.1, x z.0, y (take_fine (length ss / 2) ss f)))
      (length ss) false 0 0 ss (omega arith)

pub spans_more : (l n : ℕ) (ss : List Span) → l ≤ n → Each (FineSpan l) ss → Each (FineSpan n) ss
spans_more l n [] h f = tt
spans_more l n (s ∷ ss) h f =
    (record { first = f.0.first; last = f.0.last; to = fine_to_more l n s.to h f.0.to }, spans_more l n ss h f.1)

pub plain_fine : (l n : ℕ) (ss : List Span) → n < 2 ^ 32 → Each (FineSpan l) ss → Each (FineSpan l) (plain_spans n ss)
unfolding FineTo
plain_fine l n [] h f = unfold plain_spans in (record { first = h; last = h; to = tt }, tt)
plain_fine l n (s ∷ ss) h f =
    plain_case (Each (FineSpan l)) n s ss (λ e p. (record { first = h; last = f.0.last; to = tt }, f.1)) (record { first = h; last = h; to = tt }, f)

entry_fine : (l n : ℕ) (rs : List Rule) (ss : List Span) → 1 ≤ l → n < 2 ^ 32 → Each (FineSpan l) ss → Each (FineSpan l) (entry_spans n rs l ss)
unfolding entry_spans FineTo
entry_fine l n [] ss o h f = plain_fine l n ss h f
entry_fine l n (r ∷ rs) ss o h f = (record { first = h; last = h; to = (o, omega arith) }, f)

-- ---- the code of the rules, and the tree in front of it

module _ (m d : ℕ) (hm : m < 2 ^ 32) (hd : d < 2 ^ 32) where
  pub rules_sound : (qss : List Rule) (rest : List Instruction) → Each (Each Good) qss → Sound 1 rest → Sound 1 (rule_bodies m qss ++ rest)
  rules_sound qss rest g h = sequence_keeps (Sound 1) (rule_body m) (body_sound m hm) qss rest g h

  entry_sound : (qss : List Rule) (rest : List Instruction) → Each (Each Good) qss → Sound 0 rest → Sound 0 (entry_body m d qss ++ rest)
  unfolding entry_body
  entry_sound [] rest g h = h
  entry_sound (qs ∷ qss) rest g h =
      rw (append_assoc (rule_bodies m (qs ∷ qss)) (return d ∷ []) rest)
      (let x = rules_sound (qs ∷ qss) (return d ∷ rest) g (return_sound d 0 rest hd h) in
      record { shaped = x.shaped; ends = x.ends; long = (let y = x.long in omega arith) })

  bodies_sound : (es : List Entry) → Each GoodEntry es → Sound 0 (bodies m d es)
  unfolding bodies
  bodies_sound [] g = return_last d hd
  bodies_sound (e ∷ es) g = entry_sound e.rules (bodies m d es) g.0.1 (bodies_sound es g.1)

  spans_fine : (es : List Entry) → Each GoodEntry es → Each (FineSpan (length (bodies m d es))) (spans m d es)
  unfolding spans bodies
  spans_fine [] s = tt
  spans_fine (e ∷ es) s =
      let l = length-append (entry_body m d e.rules) (bodies m d es) in
      let n = (bodies_sound es s.1).long in
      entry_fine (length (bodies m d (e ∷ es))) e.number e.rules (spans m d es) (omega arith) s.0.0
      (spans_more (length (bodies m d es)) (length (bodies m d (e ∷ es))) (spans m d es) (omega arith) (spans_fine es s.1))

  planted_laid : (es : List Entry) → Each GoodEntry es → Laid (ground m d es) (plant m d (tree m d es) (ground m d es))
  planted_laid es s =
      let b = bodies_sound es s in
      plant_laid m d hm hd (tree m d es) (ground m d es) (unfold ground tree in tree_fine (length (bodies m d es)) (spans m d es) (spans_fine es s))
      (unfold ground in record {
        firm = record { shaped = λ l. b.shaped; ends = b.ends };
        match_return = omega arith;
        mismatch_return = b.long;
      })

  planted_sound : (es : List Entry) → Each GoodEntry es → length (planted m d es) < 2 ^ 32 → Sound 0 (planted m d es)
  unfolding planted
  planted_sound es s l =
      let x = planted_laid es s in
      record { shaped = x.stands.firm.shaped l; ends = x.stands.firm.ends; long = omega (arith, x.near.pos, x.near.inside) }

pub form_sound : (rs : RuleSet) → InRange rs → indices_taken rs ≡ true → length (search_form rs) ≤ 4096 → Sound 0 (search_form rs)
unfolding search_form
form_sound rs r t l =
    let p : List Instruction = planted rs.on_match rs.mismatch rs.entries in
    let n = simp length-append at l in
    headed_sound rs p
    (planted_sound rs.on_match rs.mismatch (action_small rs.on_match r.on_match) (action_small rs.mismatch r.mismatch) rs.entries (good_entries rs r t) (omega arith))

pub taken : Taken
taken rs r t l = sound_taken (search_form rs) (form_sound rs r t l) l
