-- TAKEN: the kernel's checks pass on every emitted filter of at most 4,096 instructions.
use mathlib.Core.Path.{◌≡◌, refl}
use mathlib.Core.Bool.{Bool, true, false, cond}
use mathlib.Core.List.{List, [], ◌∷◌, ◌++◌, append_assoc}
use Prim.Native.Nat.{ℕ, zero, suc, ◌+◌, ◌≤◌, ◌<◌, ◌^◌, ◌/◌}
use native.Mathlib.Omega.{arith}
use lib.Dec.{ltb}
use lib.ListN.{length, length-append}
use lib.Bits.{bit_and, and_lt}
use borrow.Author.Tests.{ltb-false, eq-eqb, lt-ltb, le-leb}
use Rattle.definitions.specs.declared.Instruction.{Instruction}
use Rattle.definitions.specs.declared.Operator.{Operator}
use Rattle.definitions.specs.declared.Operator.TheVariants.{Eq, Ge, Gt, Le, Lt, MaskedEq, Ne}
use Rattle.definitions.specs.declared.Width.{Width}
use Rattle.definitions.specs.declared.Width.TheVariants.{Dword, Qword}
use Rattle.definitions.specs.declared.Condition.{Condition}
use Rattle.definitions.specs.Machine.{Kind, ld_abs, ld_len, ld_imm, ld_mem, ldx_len, ldx_imm, ldx_mem, st, stx, tax, txa, neg, ja, ret_k, ret_a, unknown, alu, jump, codes, kind_in, kind_of}
use Rattle.definitions.specs.Kernel.{constant_taken, operand_taken, taken_as, each_taken, Effect, plain, reads, writes, jumps, branches, leaves, effect_as, effect_of, is_return, ends_in_return, Words, no_word, every_word, scratch_next, scratch_taken, accepts}
use Rattle.definitions.specs.RuleSet.{Architecture, x86_64, aarch64, riscv64, architecture_word, Rule, Entry, RuleSet, guarded, kill_process, one_of, plain_actions, numbered_actions, is_action}
use Rattle.definitions.specs.Format.{Each, MaskInRange, ConditionInRange, InRange}
use Rattle.definitions.specs.Answer.{indices_taken}
use Rattle.definitions.specs.Emitted.{jump_by, if_equal, load, return, reach, high_tests, low_tests, high_part, low_part, condition_code, helpers, near, step_code, step_distance, conditions_code, distance, rule_code, rule_body, body_code, entry_code, numbers_code, guard, number_code, head_code, headed, emitted}
use Rattle.theorems.specs.Statements.{Taken}
use Rattle.theorems.specs.Shape.{LandsAs, Shaped}
use Rattle.theorems.proofs.Tests.{true_both, either_true, one_below, each_both}
use Rattle.theorems.proofs.Sequence.{sequence_keeps}
use Rattle.theorems.proofs.Conditions.{compared}
use Rattle.theorems.proofs.Lengths.{length_condition_code, condition_bounds}
use Rattle.theorems.proofs.Rules.{IndexTaken}
use Rattle.theorems.proofs.Right.{each_index}

-- ---- code of this shape passes the checks

-- no scratch word is read
Quiet : Effect → Type 0
Quiet plain = Unit
Quiet (reads k) = ⊥
Quiet (writes k) = Unit
Quiet (jumps d) = Unit
Quiet (branches d e) = Unit
Quiet leaves = Unit

module _ (i : Instruction) (at n behind : ℕ) (e : n ≡ at + 1 + behind) where
  lands_taken : (k : Kind) → LandsAs k i behind → (taken_as k i at n ≡ true) × Quiet (effect_as k i)
  unfolding LandsAs taken_as Quiet effect_as
  lands_taken ld_abs h = (true_both (eq-eqb _ _ h.0) (lt-ltb _ _ h.1), tt)
  lands_taken ld_len h = absurd h
  lands_taken ld_imm h = absurd h
  lands_taken ld_mem h = absurd h
  lands_taken ldx_len h = absurd h
  lands_taken ldx_imm h = absurd h
  lands_taken ldx_mem h = absurd h
  lands_taken st h = absurd h
  lands_taken stx h = absurd h
  lands_taken tax h = absurd h
  lands_taken txa h = absurd h
  lands_taken neg h = absurd h
  lands_taken ja h = (lt-ltb (at + 1 + i.k) n (omega arith), tt)
  lands_taken ret_k h = (refl, tt)
  lands_taken ret_a h = absurd h
  lands_taken unknown h = absurd h
  lands_taken (alu o x) h = (h, tt)
  lands_taken (jump t x) h = (true_both (lt-ltb (at + 1 + i.jt) n (omega arith)) (lt-ltb (at + 1 + i.jf) n (omega arith)), tt)

each_taken_lem : (at n : ℕ) (p : List Instruction) → n ≡ at + length p → Shaped p → each_taken at n p ≡ true
unfolding each_taken Shaped
each_taken_lem at n [] e h = refl
each_taken_lem at n (i ∷ p) e h =
    true_both (lands_taken i at n (length p) (omega arith) (kind_of i.code) h.0).0 (each_taken_lem (at + 1) n p (omega arith) h.2)

scratch_on : (x : Effect) (here : Words) (beyond : ℕ → Words) (rest : Words → (ℕ → Words) → Bool) → Quiet x
    → ((w : Words) (f : ℕ → Words) → rest w f ≡ true) → scratch_next x here beyond rest ≡ true
unfolding Quiet scratch_next
scratch_on plain here beyond rest q again = again _ _
scratch_on (reads k) here beyond rest q again = absurd q
scratch_on (writes k) here beyond rest q again = again _ _
scratch_on (jumps d) here beyond rest q again = again _ _
scratch_on (branches d e) here beyond rest q again = again _ _
scratch_on leaves here beyond rest q again = again _ _

scratch_taken_lem : (p : List Instruction) → Shaped p → (written : Words) (ahead : ℕ → Words) → scratch_taken written ahead p ≡ true
unfolding scratch_taken Shaped effect_of
scratch_taken_lem [] h written ahead = refl
scratch_taken_lem (i ∷ p) h written ahead =
    scratch_on (effect_as (kind_of i.code) i) _ _ (λ w f. scratch_taken w f p)
    (lands_taken i 0 (1 + length p) (length p) (omega arith) (kind_of i.code) h.0).1 (scratch_taken_lem p h.2)

-- ---- code that may stand behind something: of this shape, with a return at its end, and long enough to be jumped into

pub record Sound (n : ℕ) (p : List Instruction) : Type 0 where
  pub shaped : Shaped p
  pub ends : ends_in_return p ≡ true
  pub long : n < length p

pub ends_cons : (i : Instruction) (p : List Instruction) → ends_in_return p ≡ true → ends_in_return (i ∷ p) ≡ true
unfolding ends_in_return
ends_cons i [] h = cc
ends_cons i (j ∷ p) h = h

pub ends_append : (a p : List Instruction) → ends_in_return p ≡ true → ends_in_return (a ++ p) ≡ true
ends_append [] p h = h
ends_append (i ∷ a) p h = ends_cons i (a ++ p) (ends_append a p h)

pub return_sound : (k n : ℕ) (p : List Instruction) → k < 2 ^ 32 → Sound n p → Sound (n + 1) (return k ∷ p)
unfolding Shaped LandsAs kind_of kind_in codes
return_sound k n p b h = record {
  shaped = (tt, (omega arith, omega arith, omega arith, b), h.shaped);
  ends = ends_append (return k ∷ []) p h.ends;
  long = omega arith;
}

pub return_last : (k : ℕ) → k < 2 ^ 32 → Sound 0 (return k ∷ [])
unfolding Shaped LandsAs kind_of kind_in codes ends_in_return effect_of effect_as is_return
return_last k b = record { shaped = (tt, (omega arith, omega arith, omega arith, b), tt); ends = refl; long = omega arith }

-- ---- a condition

mask_small : (o : Operator) (m : ℕ) → MaskInRange o m → m < 2 ^ 64
mask_small Eq m h = omega arith
mask_small Ge m h = omega arith
mask_small Gt m h = omega arith
mask_small Le m h = omega arith
mask_small Lt m h = omega arith
mask_small MaskedEq m h = h
mask_small Ne m h = omega arith

condition_shaped : (o : Operator) (w : Width) (i v m f : ℕ) (rest : List Instruction) → i ≤ 5 → v < 2 ^ 64 → m < 2 ^ 64 → bit_and v m < 2 ^ 64
    → f ≤ reach → f < length rest → Shaped rest → Shaped (condition_code (compared o w i v m) f ++ rest)
unfolding condition_code high_part low_part high_tests low_tests LandsAs Shaped kind_of kind_in codes operand_taken constant_taken
condition_shaped Eq Dword i v m f rest a b d e g h k = search arith depth 16
condition_shaped Eq Qword i v m f rest a b d e g h k = search arith depth 16
condition_shaped Ge Dword i v m f rest a b d e g h k = search arith depth 16
condition_shaped Ge Qword i v m f rest a b d e g h k = search arith depth 16
condition_shaped Gt Dword i v m f rest a b d e g h k = search arith depth 16
condition_shaped Gt Qword i v m f rest a b d e g h k = search arith depth 16
condition_shaped Le Dword i v m f rest a b d e g h k = search arith depth 16
condition_shaped Le Qword i v m f rest a b d e g h k = search arith depth 16
condition_shaped Lt Dword i v m f rest a b d e g h k = search arith depth 16
condition_shaped Lt Qword i v m f rest a b d e g h k = search arith depth 16
condition_shaped MaskedEq Dword i v m f rest a b d e g h k = search arith depth 16
condition_shaped MaskedEq Qword i v m f rest a b d e g h k = search arith depth 16
condition_shaped Ne Dword i v m f rest a b d e g h k = search arith depth 16
condition_shaped Ne Qword i v m f rest a b d e g h k = search arith depth 16

-- ---- a rule: code p with the distance d for the condition in front

record Reach (d : ℕ) (p : List Instruction) : Type 0 where
  far : d ≤ 254
  sound : Sound (d + 1) p

helpers_sound : (d : ℕ) (p : List Instruction) → Reach d p → Reach (near d) (helpers d ++ p) × (near d ≤ reach)
unfolding helpers near Shaped LandsAs kind_of kind_in codes
helpers_sound d p h = go (ltb reach d) refl
  where
    go : (t : Bool) → ltb reach d ≡ t
        → Reach (cond t 1 d) (cond t (jump_by 2 ∷ jump_by (d + 1) ∷ jump_by (d + 1) ∷ []) [] ++ p) × (cond t 1 d ≤ reach)
    go true e =
        let s = h.sound.shaped in
        let l = h.sound.long in
        let f = h.far in (
          record {
            far = omega arith;
            sound = record {
              shaped = search arith depth 16;
              ends = ends_append (jump_by 2 ∷ jump_by (d + 1) ∷ jump_by (d + 1) ∷ []) p h.sound.ends;
              long = omega arith;
            };
          },
          omega arith,
        )
    go false e = (h, omega (arith, ltb-false))

-- a condition that has a byte form and looks at an argument that there is
abbrev pub Good : Condition → Type 0
Good q = ConditionInRange q × IndexTaken q

abbrev pub GoodEntry : Entry → Type 0
GoodEntry e = (e.number < 2 ^ 32) × Each (Each Good) e.rules

condition_sound : (q : Condition) (d : ℕ) (p : List Instruction) → Good q → Reach d p → d ≤ reach
    → Reach (d + length (condition_code q d)) (condition_code q d ++ p)
condition_sound q d p g h n =
    let m = mask_small q.operator q.mask g.0.mask in
    let x = h.sound.long in
    let l = length-append (condition_code q d) p in
    record {
      far = omega (arith, length_condition_code q d, condition_bounds q.operator q.width);
      sound = record {
        shaped =
            condition_shaped q.operator q.width q.index q.value q.mask d p g.1 g.0.value m (and_lt 64 q.value q.mask g.0.value m)
            n (omega arith) h.sound.shaped;
        ends = ends_append (condition_code q d) p h.sound.ends;
        long = omega arith;
      };
    }

step_sound : (q : Condition) (d : ℕ) (p : List Instruction) → Good q → Reach d p → Reach (step_distance q d) (step_code q d ++ p)
unfolding step_distance step_code
step_sound q d p g h =
    let x = helpers_sound d p h in
    rw append_assoc (condition_sound q (near d) (helpers d ++ p) g x.0 x.1)

conditions_sound : (qs : Rule) (d : ℕ) (p : List Instruction) → Each Good qs → Reach d p → Reach (distance qs d) (conditions_code qs d ++ p)
unfolding distance conditions_code
conditions_sound [] d p g h = h
conditions_sound (q ∷ qs) d p g h =
    rw append_assoc (conditions_sound qs (step_distance q d) (step_code q d ++ p) g.1 (step_sound q d p g.0 h))

module _ (m : ℕ) (hm : m < 2 ^ 32) where
  -- a rule's body, with the distance for the jumps in front of it
  body_reach : (qs : Rule) (rest : List Instruction) → Each Good qs → Sound 1 rest → Reach (distance qs 1) (rule_body m qs ++ rest)
  unfolding rule_body
  body_reach qs rest g h = rw append_assoc (conditions_sound qs 1 (return m ∷ rest) g (record { far = omega arith; sound = return_sound m 1 rest hm h }))

  pub body_sound : (qs : Rule) (rest : List Instruction) → Each Good qs → Sound 1 rest → Sound 1 (rule_body m qs ++ rest)
  body_sound qs rest g h =
      let x = (body_reach qs rest g h).sound in
      record { shaped = x.shaped; ends = x.ends; long = omega (arith, x.long) }

  rule_sound : (qs : Rule) (rest : List Instruction) → Each Good qs → Sound 1 rest → Sound 1 (rule_code m qs ++ rest)
  unfolding rule_code Shaped LandsAs kind_of kind_in codes
  rule_sound qs rest g h =
      let x = body_reach qs rest g h in
      let s = x.sound.shaped in
      let l = x.sound.long in
      let f = x.far in
      record {
        shaped = search arith depth 16;
        ends = ends_append (jump_by 1 ∷ jump_by (distance qs 1 + 1) ∷ []) (rule_body m qs ++ rest) x.sound.ends;
        long = omega arith;
      }

  rules_sound : (rs : List Rule) (rest : List Instruction) → Each (Each Good) rs → Sound 1 rest → Sound 1 (body_code m rs ++ rest)
  unfolding body_code rule_code rule_body distance conditions_code
  rules_sound [] rest g h = rule_sound [] rest tt h
  rules_sound (r ∷ rs) rest g h = sequence_keeps (Sound 1) (rule_code m) rule_sound (r ∷ rs) rest g h

  -- ---- entries, and the whole

  module _ (d : ℕ) (hd : d < 2 ^ 32) where
    entry_sound : (e : Entry) (rest : List Instruction) → GoodEntry e → Sound 0 rest → Sound 0 (entry_code m d e ++ rest)
    unfolding entry_code Shaped LandsAs kind_of kind_in codes
    entry_sound e rest g h =
        rw append_assoc
        (let x = rules_sound e.rules (return d ∷ rest) g.1 (return_sound d 0 rest hd h) in
        let n = g.0 in
        let s = x.shaped in
        let l = x.long in
        record {
          shaped = search arith depth 16;
          ends = ends_append (if_equal e.number 0 1 ∷ []) (body_code m e.rules ++ (return d ∷ rest)) x.ends;
          long = omega arith;
        })

    numbers_sound : (es : List Entry) → Each GoodEntry es → Sound 0 (numbers_code m d es)
    unfolding numbers_code
    numbers_sound es g = sequence_keeps (Sound 0) (entry_code m d) entry_sound es (return d ∷ []) g (return_last d hd)

-- ---- from what is known of a rule set

pub action_small : (w : ℕ) → is_action w ≡ true → w < 2 ^ 32
unfolding is_action
action_small w h =
    either_true (one_of plain_actions w) (one_of numbered_actions (w / 2 ^ 16)) (one_below (2 ^ 32) plain_actions w refl)
    (λ q. let small = one_below (2 ^ 16) numbered_actions (w / 2 ^ 16) refl q in omega arith) h

pub good_entries : (rs : RuleSet) → InRange rs → indices_taken rs ≡ true → Each GoodEntry rs.entries
good_entries rs r t =
    each_both (λ e x y. (x.number, each_both (λ qs. each_both (λ q a b. (a, b)) qs) e.rules x.rules y)) rs.entries r.entries (each_index rs t)

architecture_small : (a : Architecture) → architecture_word a < 2 ^ 32
unfolding architecture_word
architecture_small x86_64 = omega arith
architecture_small aarch64 = omega arith
architecture_small riscv64 = omega arith

number_sound : (guards : Bool) (n : ℕ) (p : List Instruction) → Sound 0 p → Sound 0 (number_code guards n ++ p)
unfolding number_code Shaped LandsAs kind_of kind_in codes
number_sound true n p x =
    let s = x.shaped in
    let l = x.long in
    record { shaped = search arith depth 16; ends = ends_append (load 0 ∷ guard) p x.ends; long = omega arith }
number_sound false zero p x = x
number_sound false (suc n) p x =
    let s = x.shaped in
    record { shaped = search arith depth 16; ends = ends_append (load 0 ∷ []) p x.ends; long = omega arith }

-- code that is sound is so behind a head
pub headed_sound : (rs : RuleSet) (p : List Instruction) → Sound 0 p → Sound 0 (headed rs p)
unfolding head_code Shaped LandsAs kind_of kind_in codes
headed_sound rs p h =
    let q : List Instruction = number_code (guarded rs) (length rs.entries) ++ p in
    let x = number_sound (guarded rs) (length rs.entries) p h in
    let s = x.shaped in
    let l = x.long in
    let a = architecture_small rs.architecture in
    record {
      shaped = search arith depth 16;
      ends = ends_append (load 4 ∷ if_equal (architecture_word rs.architecture) 1 0 ∷ return kill_process ∷ []) q x.ends;
      long = omega arith;
    }

pub emitted_sound : (rs : RuleSet) → InRange rs → indices_taken rs ≡ true → Sound 0 (emitted rs)
unfolding emitted
emitted_sound rs r t =
    headed_sound rs (numbers_code rs.on_match rs.mismatch rs.entries)
    (numbers_sound rs.on_match (action_small rs.on_match r.on_match) rs.mismatch (action_small rs.mismatch r.mismatch) rs.entries
    (good_entries rs r t))

-- sound code that is not too long is taken
pub sound_taken : (p : List Instruction) → Sound 0 p → length p ≤ 4096 → accepts p ≡ true
unfolding accepts
sound_taken p x n =
    true_both (true_both (true_both (true_both (le-leb 1 (length p) x.long) (le-leb (length p) 4096 n))
    (each_taken_lem 0 (length p) p (omega arith) x.shaped)) x.ends) (scratch_taken_lem p x.shaped no_word (λ d. every_word))

pub taken : Taken
taken rs r t n = sound_taken (emitted rs) (emitted_sound rs r t) n
