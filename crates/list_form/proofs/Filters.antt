-- Laws of a filter's instructions and of the places that its entries are read from: one turn of the loop, its end, and how the parts
-- make up the whole.
use mathlib.Core.Path.{◌≡◌, refl, ap}
use mathlib.Core.List.{List, [], ◌∷◌, ◌++◌, append_assoc}
use Prim.Native.Nat.{ℕ, zero, suc, ◌+◌, ◌-◌, ◌*◌, ◌≤◌}
use native.Mathlib.Omega.{arith}
use lib.ListN.{length, length-append}
use Rattle.definitions.specs.declared.Instruction.{Instruction}
use Rattle.definitions.specs.Word.{number_at}
use Rattle.definitions.specs.Machine.{instruction_bytes, filter_bytes}
use Rattle.definitions.specs.RuleSet.{guarded}
use Rattle.definitions.specs.Emitted.{jump_by, if_equal, return, rules_code, body_code, entry_code, entries_code, numbers_code, head_code, headed, emitted}
use Rattle.bpf.specs.Place.{place}
use Rattle.bpf.proofs.Buffer.{put_first, put_next, puts_append}
use Rattle.set_view.specs.Names.{guards_by, named_architecture}
use Rattle.set_view.specs.Parts.{entries_here, entry_here, entry_past, parts, rules_here, set_here}
use Rattle.set_view.proofs.Walk.{parts_more, parts_none, parts_many}

-- ---- an instruction, a run of them, and an instruction

pub put_around : (l : List ℕ) (at end : ℕ) (i : Instruction) (is : List Instruction) (j : Instruction)
    → end ≡ at + 8 + 8 * length is → end + 8 ≤ length l
    → place (place (place l at (instruction_bytes i)) (at + 8) (filter_bytes is)) end (instruction_bytes j) ≡ place l at (filter_bytes (i ∷ (is ++ (j ∷ []))))
put_around l at end i is j e h =
    rw (put_first l at i, puts_append l at (at + 8) (i ∷ []) is (omega arith) (omega arith))
    (put_next l at end (i ∷ is) j (omega arith) h)

-- ---- the rules of an entry

pub body_always : (m : ℕ) → body_code m [] ≡ jump_by 1 ∷ jump_by 2 ∷ return m ∷ []
unfolding body_code
body_always m = refl

pub body_none : (s : List ℕ) (n at m : ℕ) → n ≡ 0 → body_code m (rules_here s n at) ≡ body_code m []
unfolding parts
body_none s n at m e = rw e

pub body_some : (s : List ℕ) (n at m : ℕ) → (n ≡ 0 → ⊥) → body_code m (rules_here s n at) ≡ rules_code m (rules_here s n at)
unfolding body_code parts
body_some s zero at m h = absurd (h refl)
body_some s (suc n) at m h = refl

-- ---- an entry, from the bytes

pub entry_is : (s : List ℕ) (at m d : ℕ)
    → entry_code m d (entry_here s at) ≡ if_equal (number_at 4 s at) 0 1 ∷ (body_code m (rules_here s (number_at 4 s (at + 4)) (at + 8)) ++ (return d ∷ []))
unfolding entry_code entry_here
entry_is s at m d = refl

pub entry_length : (s : List ℕ) (at m d : ℕ)
    → length (entry_code m d (entry_here s at)) ≡ 2 + length (body_code m (rules_here s (number_at 4 s (at + 4)) (at + 8)))
entry_length s at m d = rw (entry_is s at m d) (simp length-append (omega arith))

-- ---- entries, from the bytes

pub entries_more : (s : List ℕ) (n at m d : ℕ) → (n ≡ 0 → ⊥)
    → entries_code m d (entries_here s n at) ≡ entry_code m d (entry_here s at) ++ entries_code m d (entries_here s (n - 1) (entry_past s at))
entries_more s n at m d h = ap (entries_code m d) (parts_more (entry_here s) (entry_past s) n at h)

pub entries_none : (s : List ℕ) (n at m d : ℕ) → n ≡ 0 → entries_code m d (entries_here s n at) ≡ []
entries_none s n at m d e = ap (entries_code m d) (parts_none (entry_here s) (entry_past s) n at e)

-- ---- entries without rules

pub plain_code : (s : List ℕ) (at m d : ℕ) → number_at 4 s (at + 4) ≡ 0
    → entry_code m d (entry_here s at) ≡ if_equal (number_at 4 s at) 0 1 ∷ (body_code m [] ++ (return d ∷ []))
plain_code s at m d e = rw (entry_is s at m d, body_none s (number_at 4 s (at + 4)) (at + 8) m e)

pub plain_length : (s : List ℕ) (at m d : ℕ) → number_at 4 s (at + 4) ≡ 0 → length (entry_code m d (entry_here s at)) ≡ 5
plain_length s at m d e = rw (plain_code s at m d e, body_always m)

-- ---- the whole filter

-- the head of the set that is here, and its entries
abbrev pub head_here : List ℕ → List Instruction
head_here s = head_code (named_architecture (number_at 4 s 0)) (guards_by (number_at 4 s 0)) (number_at 4 s 12)

abbrev pub code_here : List ℕ → List Instruction
code_here s = entries_code (number_at 4 s 8) (number_at 4 s 4) (entries_here s (number_at 4 s 12) 16)

-- code behind the head of the set that is here
pub headed_is : (s : List ℕ) (p : List Instruction) → headed (set_here s) p ≡ head_here s ++ p
unfolding set_here guarded guards_by
headed_is s p = rw (parts_many (entry_here s) (entry_past s) (number_at 4 s 12) 16)

pub filter_is_lem : (s : List ℕ) → emitted (set_here s) ≡ head_here s ++ (code_here s ++ (return (number_at 4 s 4) ∷ []))
unfolding emitted numbers_code set_here
filter_is_lem s = headed_is s _

pub filter_length_lem : (s : List ℕ) → length (emitted (set_here s)) ≡ length (head_here s) + length (code_here s) + 1
filter_length_lem s = rw (filter_is_lem s, length-append, length-append) (omega arith)

-- a head, a run of instructions behind it, and an instruction
pub put_headed : (l : List ℕ) (at end : ℕ) (h is : List Instruction) (j : Instruction) → at ≡ 8 * length h → end ≡ at + 8 * length is → end + 8 ≤ length l
    → place (place (place l 0 (filter_bytes h)) at (filter_bytes is)) end (instruction_bytes j) ≡ place l 0 (filter_bytes (h ++ (is ++ (j ∷ []))))
put_headed l at end h is j e f room =
    rw (puts_append l 0 at h is (omega arith) (omega arith), put_next l 0 end (h ++ is) j (omega (arith, length-append h is)) room, append_assoc)
