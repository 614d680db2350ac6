-- SHORTER: the search form has at most as many instructions as the emitted form.
use mathlib.Core.Path.{◌≡◌, refl, ap}
use mathlib.Core.Bool.{Bool, cond}
use mathlib.Core.List.{List, [], ◌∷◌, ◌++◌}
use Prim.Native.Nat.{ℕ, suc, ◌+◌, ◌≤◌}
use native.Mathlib.Omega.{arith}
use lib.ListN.{length, length-append}
use borrow.Author.Tests.{eq-eqb}
use Rattle.definitions.specs.RuleSet.{Rule, Entry}
use Rattle.definitions.specs.Emitted.{return, rules_code, body_code, entry_code, entries_code, numbers_code, emitted, rule_bodies, entry_body}
use Rattle.definitions.specs.SearchForm.{bodies, Destination, to_match, to_rules, Span, alone, plain_spans, entry_spans, spans, chain, block_if, grow, away, near_return, plant_leaf, open_block, plant, ground, tree, planted, search_form}
use Rattle.search_form.specs.Statements.{Shorter}
use Rattle.theorems.proofs.Lengths.{rules_shorter}
use Rattle.search_form.proofs.Spans.{plain_case, spans_some}
use Rattle.search_form.proofs.Sizes.{need, needs, need_least, need_most, lefts_least, Rooted, tree_sized}

-- ---- what an entry's span may take beside its rules is what the emitted form takes

pub alone_need : (n : ℕ) (to : Destination) → need (alone n to) ≡ 3
unfolding need
alone_need n to = ap (λ (b : Bool). cond b 3 6) (eq-eqb n n refl)

pub plain_need : (n : ℕ) (ss : List Span) → needs (plain_spans n ss) ≤ 3 + needs ss
unfolding needs
plain_need n [] = unfold plain_spans in omega (arith, alone_need n to_match)
plain_need n (s ∷ ss) =
    plain_case (λ l. needs l ≤ 3 + (need s + needs ss)) n s ss
    (λ e p. omega (arith, need_least s, need_most (record { first = n; last = s.last; to = to_match })))
    (omega (arith, alone_need n to_match))

pub entry_shorter : (m d at : ℕ) (e : Entry) (ss : List Span) → length (entry_body m d e.rules) + needs (entry_spans e.number e.rules at ss) ≤ length (entry_code m d e) + needs ss
unfolding entry_code
entry_shorter m d at e ss = go e.rules
  where
    go : (rs : List Rule) → length (entry_body m d rs) + needs (entry_spans e.number rs at ss) ≤ suc (length (body_code m rs ++ (return d ∷ []))) + needs ss
    go [] = unfold entry_body entry_spans body_code in omega (arith, plain_need e.number ss)
    go (r ∷ rs) =
        unfold entry_body entry_spans body_code needs in
        rw (length-append (rule_bodies m (r ∷ rs)) (return d ∷ []), length-append (rules_code m (r ∷ rs)) (return d ∷ []))
        (omega (arith, alone_need e.number (to_rules at), rules_shorter m (r ∷ rs)))

entries_shorter : (m d : ℕ) (es : List Entry) → length (bodies m d es) + needs (spans m d es) ≤ length (entries_code m d es) + 1
unfolding bodies spans
entries_shorter m d [] = unfold needs in omega arith
entries_shorter m d (e ∷ es) =
    rw (length-append (entry_code m d e) (entries_code m d es))
    (omega (
      arith,
      length-append (entry_body m d e.rules) (bodies m d es),
      entry_shorter m d (length (entry_body m d e.rules ++ bodies m d es)) e (spans m d es),
      entries_shorter m d es,
    ))

-- ---- the whole

bodies_some : (m d : ℕ) (es : List Entry) → 1 ≤ length (bodies m d es)
unfolding bodies
bodies_some m d [] = omega arith
bodies_some m d (e ∷ es) = omega (arith, length-append (entry_body m d e.rules) (bodies m d es), bodies_some m d es)

pub ground_rooted : (m d : ℕ) (es : List Entry) → Rooted (ground m d es)
unfolding ground
ground_rooted m d es = record { pos = omega arith; inside = bodies_some m d es }

ground_code : (m d : ℕ) (es : List Entry) → (ground m d es).code ≡ bodies m d es
unfolding ground
ground_code m d es = refl

-- with nothing listed there is one return
pub planted_none : (m d : ℕ) → planted m d [] ≡ return d ∷ []
unfolding planted tree grow block_if chain spans ground bodies plant plant_leaf open_block near_return away
planted_none m d = refl

planted_shorter : (m d : ℕ) (es : List Entry) → length (planted m d es) ≤ length (numbers_code m d es)
unfolding numbers_code
planted_shorter m d [] = rw planted_none (omega arith)
planted_shorter m d (e ∷ es) =
    unfold planted tree in
    let x = tree_sized m d (spans m d (e ∷ es)) (ground m d (e ∷ es)) (ground_rooted m d (e ∷ es)) in
    rw (length-append (entries_code m d (e ∷ es)) (return d ∷ []))
    (omega (
      arith,
      x.most,
      ap length (ground_code m d (e ∷ es)),
      lefts_least (spans m d (e ∷ es)),
      spans_some m d e es,
      entries_shorter m d (e ∷ es),
    ))

pub shorter : Shorter
unfolding search_form emitted
shorter rs = simp length-append (omega (arith, planted_shorter rs.on_match rs.mismatch rs.entries))
