-- How many instructions a rule's code runs does not hang on the state that it is entered in; and code that is tried before other code takes
-- what it takes by itself, and then what the other code takes.
use mathlib.Core.Path.{◌≡◌, refl, ap, ◌∙◌}
use mathlib.Core.Bool.{cond}
use mathlib.Core.List.{List, [], ◌∷◌, ◌++◌, append_assoc}
use mathlib.Core.Option.{Option, none, some}
use Prim.Native.Nat.{ℕ, zero, suc, ◌+◌, ◌≤◌}
use native.Mathlib.Omega.{arith}
use lib.Dec.{eqb, leb, ltb}
use lib.Bits.{bit_and}
use lib.ListN.{length}
use Rattle.definitions.specs.declared.Instruction.{Instruction}
use Rattle.definitions.specs.declared.Operator.{Operator}
use Rattle.definitions.specs.declared.Operator.TheVariants.{Eq, Ge, Gt, Le, Lt, MaskedEq, Ne}
use Rattle.definitions.specs.declared.Width.{Width}
use Rattle.definitions.specs.declared.Width.TheVariants.{Dword, Qword}
use Rattle.definitions.specs.Machine.{Call, State, Result, returns, stuck, Step, stop, next, set_a, start, fetch, codes, kind_in, kind_of, into_a, compute, test_holds, step_as, step, run, visits, steps}
use Rattle.definitions.specs.RuleSet.{Rule}
use Rattle.definitions.specs.Format.{Each}
use Rattle.definitions.specs.Emitted.{load, mask_by, jump_by, if_equal, if_greater, if_at_least, return, high_part, low_part, high_tests, low_tests, condition_code, helpers, near, reach, step_code, step_distance, conditions_code, rule_body, rule_bodies}
use Rattle.theorems.proofs.Conditions.{compared}
use Rattle.search_form.proofs.Cases.{cond_case}
use Rattle.search_form.proofs.Steps.{shift, count, Opens, loads, returning}
use Rattle.search_form.proofs.Bodies.{rules_open}

-- what looks at nothing but the accumulator and the call
pub data Simple : Instruction → Type 0 where
  loading : (k : ℕ) → Simple (load k)
  masking : (k : ℕ) → Simple (mask_by k)
  jumping : (k : ℕ) → Simple (jump_by k)
  equals : (k t f : ℕ) → Simple (if_equal k t f)
  greater : (k t f : ℕ) → Simple (if_greater k t f)
  reaches : (k t f : ℕ) → Simple (if_at_least k t f)
  giving : (k : ℕ) → Simple (return k)

visits_same : (at n : ℕ) (p : List Instruction) (s t : State) (c : Call) → Each Simple p → s.A ≡ t.A → length (visits at n p s c) ≡ length (visits at n p t c)
unfolding visits step step_as kind_of kind_in codes into_a compute test_holds
visits_same at n [] s t c g e = refl
visits_same at (suc n) (i ∷ p) s t c g e = visits_same (at + 1) n p s t c g.1 e
visits_same at zero (i ∷ p) s t c g e = ap suc (go i g.0 (λ n u v q. visits_same (at + 1) n p u v c g.1 q))
  where
    goes : State → Step → List ℕ
    goes u x = elim x [ stop r ↦ [] | next n w ↦ visits (at + 1) n p w c ]

    go : (i : Instruction) → Simple i → ((n : ℕ) (u v : State) → u.A ≡ v.A → length (visits (at + 1) n p u c) ≡ length (visits (at + 1) n p v c))
        → length {A = ℕ} (elim (step i s c) [ stop r ↦ [] | next n w ↦ visits (at + 1) n p w c ])
        ≡ length {A = ℕ} (elim (step i t c) [ stop r ↦ [] | next n w ↦ visits (at + 1) n p w c ])
    go i (loading k) again = fetched (fetch c k)
      where
        fetched : (x : Option ℕ) → length {A = ℕ} (elim (into_a stuck x s) [ stop r ↦ [] | next n w ↦ visits (at + 1) n p w c ])
            ≡ length {A = ℕ} (elim (into_a stuck x t) [ stop r ↦ [] | next n w ↦ visits (at + 1) n p w c ])
        fetched none = refl
        fetched (some w) = again 0 (set_a w s) (set_a w t) refl
    go i (masking k) again = again 0 (set_a (bit_and s.A k) s) (set_a (bit_and t.A k) t) (ap (λ (x : ℕ). bit_and x k) e)
    go i (jumping k) again = again k s t e
    go i (equals k a b) again = again (cond (eqb s.A k) a b) s t e ∙ ap (λ (x : ℕ). length (visits (at + 1) (cond (eqb x k) a b) p t c)) e
    go i (greater k a b) again = again (cond (ltb k s.A) a b) s t e ∙ ap (λ (x : ℕ). length (visits (at + 1) (cond (ltb k x) a b) p t c)) e
    go i (reaches k a b) again = again (cond (leb k s.A) a b) s t e ∙ ap (λ (x : ℕ). length (visits (at + 1) (cond (leb k x) a b) p t c)) e
    go i (giving k) again = refl

opens_same : (p : List Instruction) (s t : State) (c : Call) → Opens p → Each Simple p → count 0 p s c ≡ count 0 p t c
unfolding visits step step_as kind_of kind_in codes into_a
opens_same p s t c (loads k q) g = ap suc (go (fetch c k))
  where
    go : (x : Option ℕ) → length {A = ℕ} (elim (into_a stuck x s) [ stop r ↦ [] | next n w ↦ visits 1 n q w c ])
        ≡ length {A = ℕ} (elim (into_a stuck x t) [ stop r ↦ [] | next n w ↦ visits 1 n q w c ])
    go none = refl
    go (some w) = visits_same 1 0 q (set_a w s) (set_a w t) c g.1 refl
opens_same p s t c (returning k q) g = refl

-- ---- rules are of that kind

simple_append : (a b : List Instruction) → Each Simple a → Each Simple b → Each Simple (a ++ b)
simple_append [] b g h = h
simple_append (i ∷ a) b g h = (g.0, simple_append a b g.1 h)

condition_simple : (o : Operator) (w : Width) (i v m f : ℕ) → Each Simple (condition_code (compared o w i v m) f)
unfolding condition_code high_part low_part high_tests low_tests
condition_simple Eq Dword i v m f = (loading _, (equals _ _ _, tt))
condition_simple Eq Qword i v m f = (loading _, (equals _ _ _, (loading _, (equals _ _ _, tt))))
condition_simple Ge Dword i v m f = (loading _, (reaches _ _ _, tt))
condition_simple Ge Qword i v m f = (loading _, (greater _ _ _, (equals _ _ _, (loading _, (reaches _ _ _, tt)))))
condition_simple Gt Dword i v m f = (loading _, (greater _ _ _, tt))
condition_simple Gt Qword i v m f = (loading _, (greater _ _ _, (equals _ _ _, (loading _, (greater _ _ _, tt)))))
condition_simple Le Dword i v m f = (loading _, (greater _ _ _, tt))
condition_simple Le Qword i v m f = (loading _, (greater _ _ _, (equals _ _ _, (loading _, (greater _ _ _, tt)))))
condition_simple Lt Dword i v m f = (loading _, (reaches _ _ _, tt))
condition_simple Lt Qword i v m f = (loading _, (greater _ _ _, (equals _ _ _, (loading _, (reaches _ _ _, tt)))))
condition_simple MaskedEq Dword i v m f = (loading _, (masking _, (equals _ _ _, tt)))
condition_simple MaskedEq Qword i v m f = (loading _, (masking _, (equals _ _ _, (loading _, (masking _, (equals _ _ _, tt))))))
condition_simple Ne Dword i v m f = (loading _, (equals _ _ _, tt))
condition_simple Ne Qword i v m f = (loading _, (equals _ _ _, (loading _, (equals _ _ _, tt))))

helpers_simple : (d : ℕ) → Each Simple (helpers d)
unfolding helpers
helpers_simple d = cond_case (Each Simple) (ltb reach d) _ _ (λ y. (jumping 2, (jumping (d + 1), (jumping (d + 1), tt)))) (λ n. tt)

conditions_simple : (qs : Rule) (d : ℕ) → Each Simple (conditions_code qs d)
unfolding conditions_code step_code
conditions_simple [] d = tt
conditions_simple (q ∷ qs) d =
    simple_append (conditions_code qs (step_distance q d)) (condition_code q (near d) ++ helpers d) (conditions_simple qs (step_distance q d))
    (simple_append (condition_code q (near d)) (helpers d) (condition_simple q.operator q.width q.index q.value q.mask (near d)) (helpers_simple d))

rules_simple : (m : ℕ) (rs : List Rule) (p : List Instruction) → Each Simple p → Each Simple (rule_bodies m rs ++ p)
unfolding rule_body
rules_simple m [] p g = g
rules_simple m (r ∷ rs) p g =
    rw append_assoc
    (simple_append (conditions_code r 1 ++ (return m ∷ [])) (rule_bodies m rs ++ p) (simple_append (conditions_code r 1) (return m ∷ []) (conditions_simple r 1) (giving m, tt))
    (rules_simple m rs p g))

-- ---- what rules take by themselves, one by one

abbrev pub linear_steps : ℕ → ℕ → List Rule → Call → ℕ
linear_steps m d rs c = steps (rule_bodies m rs ++ (return d ∷ [])) c

linear_opens : (m d : ℕ) (rs : List Rule) → Opens (rule_bodies m rs ++ (return d ∷ []))
linear_opens m d [] = returning d []
linear_opens m d (r ∷ rs) = rules_open m r rs (return d ∷ [])

linear_same : (m d : ℕ) (rs : List Rule) (s : State) (c : Call) → count 0 (rule_bodies m rs ++ (return d ∷ [])) s c ≡ linear_steps m d rs c
linear_same m d rs s c = opens_same (rule_bodies m rs ++ (return d ∷ [])) s start c (linear_opens m d rs) (rules_simple m rs (return d ∷ []) (giving d, tt))

-- code that comes to its end goes on with what stands there
passing : (at : ℕ) (a rest : List Instruction) (d n : ℕ) (s : State) (c : Call) (v b : ℕ) → 1 ≤ b → run n (a ++ (return d ∷ [])) s c ≡ returns v
    → ((t : State) → count 0 rest t c ≤ b) → length (visits at n (a ++ rest) s c) + 1 ≤ length (visits at n (a ++ (return d ∷ [])) s c) + b
unfolding run visits step step_as kind_of kind_in codes
passing at [] rest d zero s c v b o h k = omega (arith, k s, shift at 0 0 rest s c)
passing at [] rest d (suc n) s c v b o h k = absurd (let z : ◌≡◌ {A = ℕ} 0 1 = cc in omega arith)
passing at (i ∷ a) rest d (suc n) s c v b o h k = passing (at + 1) a rest d n s c v b o h k
passing at (i ∷ a) rest d zero s c v b o h k =
    omega (arith, go (step i s c) h (λ n t e. passing (at + 1) a rest d n t c v b o e k))
  where
    go : (x : Step) → ◌≡◌ {A = Result} (elim x [ stop r ↦ r | next n t ↦ run n (a ++ (return d ∷ [])) t c ]) (returns v)
        → ((n : ℕ) (t : State) → run n (a ++ (return d ∷ [])) t c ≡ returns v
        → length (visits (at + 1) n (a ++ rest) t c) + 1 ≤ length (visits (at + 1) n (a ++ (return d ∷ [])) t c) + b)
        → length {A = ℕ} (elim x [ stop r ↦ [] | next n t ↦ visits (at + 1) n (a ++ rest) t c ]) + 1
        ≤ length {A = ℕ} (elim x [ stop r ↦ [] | next n t ↦ visits (at + 1) n (a ++ (return d ∷ [])) t c ]) + b
    go (stop r) h again = omega arith
    go (next n t) h again = again n t h

pub tried_count : (m d : ℕ) (rs : List Rule) (p : List Instruction) (s : State) (c : Call) (v b : ℕ) → 1 ≤ b → run 0 (rule_bodies m rs ++ (return d ∷ [])) s c ≡ returns v
    → ((t : State) → count 0 p t c ≤ b) → count 0 (rule_bodies m rs ++ p) s c + 1 ≤ linear_steps m d rs c + b
tried_count m d rs p s c v b o h k = omega (arith, passing 0 (rule_bodies m rs) p d 0 s c v b o h k, linear_same m d rs s c)
