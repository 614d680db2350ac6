-- One instruction at a time: how many instructions are run from it on. And what a run does in code that has other code in front, and what
-- the head takes that every filter begins with.
use mathlib.Core.Path.{◌≡◌, refl, ap}
use mathlib.Core.Bool.{Bool, true, false, cond, not}
use mathlib.Core.List.{List, [], ◌∷◌, ◌++◌}
use mathlib.Core.Option.{Option, none, some}
use Prim.Native.Nat.{ℕ, zero, suc, ◌+◌, ◌≤◌}
use native.Mathlib.Omega.{arith}
use lib.Dec.{eqb, leb, ltb}
use lib.Bits.{bit_and}
use lib.ListN.{length}
use Rattle.definitions.specs.declared.Instruction.{Instruction}
use Rattle.definitions.specs.Machine.{Call, State, Result, returns, stuck, Step, stop, next, set_a, start, fetch, codes, kind_in, kind_of, into_a, test_holds, step_as, step, run, visits, steps}
use Rattle.definitions.specs.RuleSet.{architecture_word, RuleSet, second_table, cancelled, guarded}
use Rattle.definitions.specs.Emitted.{load, jump_by, if_equal, if_any_bit, return, guard, number_code, head_code, headed}
use Rattle.definitions.specs.Compiled.{guard_steps}
use Rattle.theorems.proofs.Steps.{run_equal, run_greater, run_at_least, fetch_number, fetch_architecture}
use Rattle.definitions.specs.SearchForm.{Comparison, equal, at_least, above, comparing}
use Rattle.search_form.proofs.Grow.{passes}

-- how many instructions are run from n into p on
abbrev pub count : ℕ → List Instruction → State → Call → ℕ
count n p s c = length (visits 0 n p s c)

pub shift : (a b n : ℕ) (p : List Instruction) (s : State) (c : Call) → length (visits a n p s c) ≡ length (visits b n p s c)
unfolding visits
shift a b n [] s c = refl
shift a b zero (i ∷ p) s c = ap suc (go (step i s c) (λ n t. shift (a + 1) (b + 1) n p t c))
  where
    go : (x : Step) → ((n : ℕ) (t : State) → length (visits (a + 1) n p t c) ≡ length (visits (b + 1) n p t c))
        → length {A = ℕ} (elim x [ stop r ↦ [] | next n t ↦ visits (a + 1) n p t c ])
        ≡ length {A = ℕ} (elim x [ stop r ↦ [] | next n t ↦ visits (b + 1) n p t c ])
    go (stop r) again = refl
    go (next n t) again = again n t
shift a b (suc n) (i ∷ p) s c = shift (a + 1) (b + 1) n p s c

module _ (p : List Instruction) (s : State) (c : Call) where
  pub count_suc : (i : Instruction) (n : ℕ) → count (suc n) (i ∷ p) s c ≡ count n p s c
  unfolding visits
  count_suc i n = shift 1 0 n p s c

  pub count_jump : (k : ℕ) → count 0 (jump_by k ∷ p) s c ≡ suc (count k p s c)
  unfolding visits step step_as kind_of kind_in codes
  count_jump k = ap suc (shift 1 0 k p s c)

  pub count_return : (k : ℕ) → count 0 (return k ∷ p) s c ≡ 1
  unfolding visits step step_as kind_of kind_in codes
  count_return k = refl

  pub count_load : (k : ℕ) {w : ℕ} → fetch c k ≡ some w → count 0 (load k ∷ p) s c ≡ suc (count 0 p (set_a w s) c)
  unfolding visits step step_as kind_of kind_in codes into_a
  count_load k {w} e = rw (e, visits, into_a) (ap suc (shift 1 0 0 p (set_a w s) c))

  branch : (b : Bool) (t f : ℕ) → length (visits 1 (cond b t f) p s c) ≡ cond b (count t p s c) (count f p s c)
  branch true t f = shift 1 0 t p s c
  branch false t f = shift 1 0 f p s c

  pub count_compare : (t : Comparison) (k a b : ℕ) → count 0 (comparing t k a b ∷ p) s c ≡ suc (cond (passes t k s.A) (count a p s c) (count b p s c))
  unfolding visits step step_as kind_of kind_in codes test_holds comparing passes
  count_compare equal k a b = ap suc (branch (eqb s.A k) a b)
  count_compare at_least k a b = ap suc (branch (leb k s.A) a b)
  count_compare above k a b = ap suc (branch (ltb k s.A) a b)

  count_equal : (k a b : ℕ) → count 0 (if_equal k a b ∷ p) s c ≡ suc (cond (eqb s.A k) (count a p s c) (count b p s c))
  unfolding comparing passes
  count_equal k a b = count_compare equal k a b

  count_any_bit : (k a b : ℕ) → count 0 (if_any_bit k a b ∷ p) s c ≡ suc (cond (not (eqb (bit_and s.A k) 0)) (count a p s c) (count b p s c))
  unfolding visits step step_as kind_of kind_in codes test_holds
  count_any_bit k a b = ap suc (branch (not (eqb (bit_and s.A k) 0)) a b)

  pub run_compare : (t : Comparison) (k a b : ℕ) → run 0 (comparing t k a b ∷ p) s c ≡ cond (passes t k s.A) (run a p s c) (run b p s c)
  unfolding comparing passes
  run_compare equal k a b = run_equal p s c k a b
  run_compare at_least k a b = run_at_least p s c k a b
  run_compare above k a b = run_greater p s c k a b

-- a run that returns within p is the same whatever stands behind p
visits_within : (at : ℕ) (p rest : List Instruction) (n : ℕ) (s : State) (c : Call) (a : ℕ) → run n p s c ≡ returns a
    → length (visits at n (p ++ rest) s c) ≡ length (visits at n p s c)
unfolding visits run
visits_within at [] rest n s c a h = absurd (let z : ◌≡◌ {A = ℕ} 0 1 = cc in omega arith)
visits_within at (i ∷ p) rest zero s c a h = ap suc (go (step i s c) h (λ n t. visits_within (at + 1) p rest n t c a))
  where
    go : (x : Step) → ◌≡◌ {A = Result} (elim x [ stop r ↦ r | next n t ↦ run n p t c ]) (returns a)
        → ((n : ℕ) (t : State) → run n p t c ≡ returns a → length (visits (at + 1) n (p ++ rest) t c) ≡ length (visits (at + 1) n p t c))
        → length {A = ℕ} (elim x [ stop r ↦ [] | next n t ↦ visits (at + 1) n (p ++ rest) t c ])
        ≡ length {A = ℕ} (elim x [ stop r ↦ [] | next n t ↦ visits (at + 1) n p t c ])
    go (stop r) h again = refl
    go (next n t) h again = again n t h
visits_within at (i ∷ p) rest (suc n) s c a h = visits_within (at + 1) p rest n s c a h

pub count_within : (p rest : List Instruction) (s : State) (c : Call) (a : ℕ) → run 0 p s c ≡ returns a → count 0 (p ++ rest) s c ≡ count 0 p s c
count_within p rest s c a h = visits_within 0 p rest 0 s c a h

-- ---- code that begins with a load or a return does not ask what was loaded before

pub data Opens : List Instruction → Type 0 where
  loads : (k : ℕ) (p : List Instruction) → Opens (load k ∷ p)
  returning : (k : ℕ) (p : List Instruction) → Opens (return k ∷ p)

pub count_opens : (p : List Instruction) (c : Call) (w : ℕ) → Opens p → count 0 p (set_a w start) c ≡ count 0 p start c
unfolding visits step step_as kind_of kind_in codes into_a
count_opens p c w (loads k q) = go (fetch c k)
  where
    go : (x : Option ℕ) → suc (length {A = ℕ} (elim (into_a stuck x (set_a w start)) [ stop r ↦ [] | next n t ↦ visits 1 n q t c ]))
        ≡ suc (length {A = ℕ} (elim (into_a stuck x start) [ stop r ↦ [] | next n t ↦ visits 1 n q t c ]))
    go none = refl
    go (some v) = refl
count_opens p c w (returning k q) = refl

-- ---- q is p with code in front

pub data Over (p : List Instruction) : List Instruction → Type 0 where
  same : Over p p
  more : {q : List Instruction} (i : Instruction) → Over p q → Over p (i ∷ q)

pub over_over : {p q r : List Instruction} → Over p q → Over q r → Over p r
over_over h same = h
over_over h (more i k) = more i (over_over h k)

pub over_append : (a p : List Instruction) → Over p (a ++ p)
over_append [] p = same
over_append (i ∷ a) p = more i (over_append a p)

-- ---- behind a head: what a head takes beside code that takes at most n instructions

module _ (p : List Instruction) (c : Call) (n : ℕ) (least : 1 ≤ n) (numbered : count 0 p (set_a c.number start) c ≤ n) where
  guard_count : count 0 (guard ++ p) (set_a c.number start) c ≤ n + cond (eqb (bit_and c.number second_table) 0) 1 2
  guard_count =
      rw (count_any_bit, count_suc, count_equal, count_suc, count_return) (go (eqb (bit_and c.number second_table) 0) (eqb c.number cancelled) _ numbered)
    where
      go : (native last : Bool) (k : ℕ) → k ≤ n → suc (cond (not native) (suc (cond last k 1)) k) ≤ n + cond native 1 2
      go true last k h = omega arith
      go false true k h = omega arith
      go false false k h = omega arith

  number_count_lem : (guards : Bool) (l : ℕ) → (l ≡ 0 → count 0 p (set_a c.architecture start) c ≤ n)
      → count 0 (number_code guards l ++ p) (set_a c.architecture start) c ≤ n + 1 + cond guards (cond (eqb (bit_and c.number second_table) 0) 1 2) 0
  unfolding number_code
  number_count_lem true l named = rw (count_load _ (set_a c.architecture start) c 0 (fetch_number c)) (omega (arith, guard_count))
  number_count_lem false zero named = omega (arith, named refl)
  number_count_lem false (suc l) named = rw (count_load _ (set_a c.architecture start) c 0 (fetch_number c)) (omega (arith, numbered))

  pub head_count : (rs : RuleSet) → (length rs.entries ≡ 0 → count 0 p (set_a c.architecture start) c ≤ n)
      → steps (headed rs p) c ≤ n + 3 + guard_steps rs c
  unfolding head_code
  head_count rs named =
      rw (count_load _ start c 4 (fetch_architecture c), count_equal, count_suc, count_return)
      (go (eqb c.architecture (architecture_word rs.architecture)) _ _ (number_count_lem (guarded rs) (length rs.entries) named))
    where
      go : (own : Bool) (k g : ℕ) → k ≤ n + 1 + g → suc (suc (cond own k 1)) ≤ n + 3 + g
      go true k g h = omega arith
      go false k g h = omega arith
