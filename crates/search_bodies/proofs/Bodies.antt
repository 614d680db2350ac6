-- Laws of the code of rules as the search form has it, and of the bytes that it is read from: one turn of each loop, its end, and how
-- long it is.
use mathlib.Core.Path.{◌≡◌, refl, ◌∙◌}
use mathlib.Core.List.{List, [], ◌∷◌, ◌++◌}
use Prim.Native.Nat.{ℕ, zero, suc, ◌+◌, ◌-◌, ◌*◌, ◌≤◌}
use native.Mathlib.Omega.{arith}
use lib.ListN.{length, length-append}
use Rattle.definitions.specs.declared.Instruction.{Instruction}
use Rattle.definitions.specs.Word.{number_at}
use Rattle.definitions.specs.Machine.{instruction_bytes, filter_bytes}
use Rattle.definitions.specs.Emitted.{return, rule_bodies, entry_body}
use Rattle.bpf.specs.Place.{place, Writing}
use Rattle.bpf.proofs.Buffer.{put_first}
use Rattle.definitions.specs.SearchForm.{bodies}
use Rattle.set_view.specs.Parts.{behind, entries_here, entries_past, entry_here, entry_past, parts, rules_here}
use Rattle.set_view.proofs.Walk.{entry_further, entry_inside}

-- ---- an entry

pub entry_body_none : (s : List ℕ) (n at m d : ℕ) → n ≡ 0 → entry_body m d (rules_here s n at) ≡ []
unfolding parts entry_body
entry_body_none s n at m d e = rw e

pub entry_body_some : (s : List ℕ) (n at m d : ℕ) → (n ≡ 0 → ⊥)
    → entry_body m d (rules_here s n at) ≡ rule_bodies m (rules_here s n at) ++ (return d ∷ [])
unfolding parts entry_body
entry_body_some s zero at m d h = absurd (h refl)
entry_body_some s (suc n) at m d h = refl

pub entry_body_long : (s : List ℕ) (n at m d : ℕ) → (n ≡ 0 → ⊥) → length (entry_body m d (rules_here s n at)) ≡ length (rule_bodies m (rules_here s n at)) + 1
entry_body_long s n at m d h = rw (entry_body_some s n at m d h, length-append)

-- ---- entries

-- where all that is left ends in the bytes, the next entry's number and count of rules are there
pub entry_room : (s : List ℕ) (n at past : ℕ) → (n ≡ 0 → ⊥) → entries_past s n at ≡ past → past ≤ length s → at + 8 ≤ length s
entry_room s n at past h e i = omega (arith, entry_inside s n at past h e i, entry_further s at)

-- entries have eight bytes at least
pub entries_eight : (s : List ℕ) (n at : ℕ) → at + 8 * n ≤ entries_past s n at
unfolding behind
entries_eight s zero at = omega arith
entries_eight s (suc n) at = omega (arith, entry_further s at, entries_eight s n (entry_past s at))

pub entries_here_lem : (s : List ℕ) (n at : ℕ) → (n ≡ 0 → ⊥) → entries_here s n at ≡ entry_here s at ∷ entries_here s (n - 1) (entry_past s at)
unfolding parts
entries_here_lem s zero at h = absurd (h refl)
entries_here_lem s (suc n) at h = let e : suc n - 1 ≡ n = omega arith in rw e

pub bodies_more : (s : List ℕ) (n at m d : ℕ) → (n ≡ 0 → ⊥)
    → bodies m d (entries_here s n at)
    ≡ entry_body m d (rules_here s (number_at 4 s (at + 4)) (at + 8)) ++ bodies m d (entries_here s (n - 1) (entry_past s at))
unfolding bodies entry_here
bodies_more s n at m d h = rw (entries_here_lem s n at h)

pub bodies_last : (s : List ℕ) (n at m d : ℕ) → n ≡ 0 → bodies m d (entries_here s n at) ≡ return d ∷ []
unfolding bodies parts
bodies_last s n at m d e = rw e

pub bodies_long : (s : List ℕ) (n at m d : ℕ) → (n ≡ 0 → ⊥)
    → length (bodies m d (entries_here s n at))
    ≡ length (entry_body m d (rules_here s (number_at 4 s (at + 4)) (at + 8))) + length (bodies m d (entries_here s (n - 1) (entry_past s at)))
bodies_long s n at m d h = rw (bodies_more s n at m d h, length-append)

-- the code of the rules is never empty: a return stands behind it
pub bodies_there : (s : List ℕ) (n at m d : ℕ) → 1 ≤ length (bodies m d (entries_here s n at))
unfolding bodies parts
bodies_there s zero at m d = omega arith
bodies_there s (suc n) at m d = rw length-append (omega (arith, bodies_there s n (entry_past s at) m d))

-- one instruction is left, and it is put
pub write_last : (out₀ : List ℕ) (at : ℕ) (all : List Instruction) (out : List ℕ) (pos : ℕ) (left : List Instruction) (i : Instruction)
    → Writing out₀ at all out pos left → left ≡ i ∷ [] → place out pos (instruction_bytes i) ≡ place out₀ at (filter_bytes all)
write_last out₀ at all out pos left i w e = put_first out pos i ∙ rw e at w.same
