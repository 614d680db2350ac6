-- Laws of the tree of a whole rule set, planted in front of the code of its rules, and of the filter that they make.
use mathlib.Core.Path.{◌≡◌, refl, ap, sym, ◌∙◌}
use mathlib.Core.Bool.{false}
use mathlib.Core.List.{List, ◌++◌}
use Prim.Native.Nat.{ℕ, zero, suc, ◌+◌, ◌*◌, ◌≤◌, ◌<◌}
use native.Mathlib.Omega.{arith}
use Rattle.std.proofs.Common.{Some, None}
use lib.Dec.{ltb}
use lib.ListN.{length, length-append, take}
use lib.Seq.{take-length, take_all}
use Rattle.definitions.specs.declared.Instruction.{Instruction}
use Rattle.definitions.specs.Word.{number_at}
use Rattle.definitions.specs.Machine.{filter_bytes}
use Rattle.definitions.specs.RuleSet.{guarded, with_entries}
use Rattle.definitions.specs.Emitted.{head_code}
use Rattle.definitions.specs.Answer.{too_many, short_with, search_size}
use Rattle.bpf.specs.Place.{place, place_before}
use Rattle.bpf.proofs.Buffer.{puts_before, before_is}
use Rattle.definitions.specs.SearchForm.{jump_reach, block_reach, bodies, to_mismatch, to_match, to_rules, Tree, leaf, node, block, grow, Form, plant_leaf, open_block, plant, ground, tree, planted, search_form}
use Rattle.search_form.proofs.Sizes.{place_adds, return_adds, compare_size}
use Rattle.search_form.proofs.Shorter.{planted_none}
use Rattle.search_bodies.specs.Here.{bodies_here}
use Rattle.spans.specs.Spans.{spans_here}
use Rattle.set_view.specs.Parts.{behind, entries_here, entries_past, entry_here, entry_past, parts, set_here}
use Rattle.set_view.specs.Names.{guards_by, named_architecture}
use Rattle.set_view.proofs.Walk.{entries_further, parts_many, parts_take}
use Rattle.search_writer.specs.declared.Marks.{Marks}
use Rattle.search_writer.specs.Forms.{planted_here, first_here, Ends, Makes}

-- ---- the tree in front

pub planted_there : (s : List ℕ) (n total runs m d : ℕ) {end : ℕ} {r : Marks} {old new : List ℕ} → m ≡ number_at 4 s 8 → d ≡ number_at 4 s 4
    → total ≡ length (bodies_here s n 16) → runs ≡ length (spans_here s n 16)
    → Makes end (record { count = total; hit = None; miss = Some 1; at = 1 }) r old new (plant m d (grow runs false 0 0 (take runs (spans_here s n 16))))
    → (z : List ℕ) → Ends z end (bodies_here s n 16) old → (r.count ≡ length (planted_here s n)) × Ends z end (planted_here s n) new
unfolding planted tree ground
planted_there s n total runs m d em ed et er made z w =
    let es = entries_here s n 16 in
    let h = made z (ground m d es) (record { count = rw (em, ed) (sym et); hit = refl; miss = refl; at = refl; code = rw (em, ed) w }) in
    let g = rw (er, take-length (spans_here s n 16), em, ed) at h in
    (sym g.count, g.code)

-- planting only adds
plant_longer : (m d : ℕ) (t : Tree) (f : Form) → length f.code ≤ length (plant m d t f).code
unfolding plant plant_leaf open_block
plant_longer m d (leaf to_mismatch) f = (return_adds jump_reach d f.mismatch_return f.code).grew
plant_longer m d (leaf to_match) f = (return_adds jump_reach m f.match_return f.code).grew
plant_longer m d (leaf (to_rules at)) f = (place_adds at f.code).grew
plant_longer m d (node t n hit miss) f =
    let one = plant m d hit f in
    let two = plant m d miss one in
    omega (arith, plant_longer m d hit f, plant_longer m d miss one, (compare_size t n one.at two).0, (place_adds one.at two.code).grew)
plant_longer m d (block t) f = omega (arith, (return_adds block_reach d f.mismatch_return f.code).grew, plant_longer m d t (open_block d f))

pub planted_longer : (s : List ℕ) (n : ℕ) → length (bodies_here s n 16) ≤ length (planted_here s n)
unfolding planted ground
planted_longer s n = plant_longer (number_at 4 s 8) (number_at 4 s 4) _ (ground (number_at 4 s 8) (number_at 4 s 4) (entries_here s n 16))

-- with nothing listed, the code of the rules is all
pub planted_bodies : (s : List ℕ) (n : ℕ) → n ≡ 0 → planted_here s n ≡ bodies_here s n 16
unfolding parts bodies
planted_bodies s n e = rw e (planted_none (number_at 4 s 8) (number_at 4 s 4))

-- ---- the whole filter

-- the head that stands in front of n entries
abbrev pub head_of : List ℕ → ℕ → List Instruction
head_of s n = head_code (named_architecture (number_at 4 s 0)) (guards_by (number_at 4 s 0)) n

-- of its first n entries
pub first_is : (s : List ℕ) (n : ℕ) → search_form (first_here s n) ≡ head_of s n ++ planted_here s n
unfolding search_form set_here guarded guards_by
first_is s n = rw (parts_many (entry_here s) (entry_past s) n 16)

pub first_long : (s : List ℕ) (n : ℕ) → search_size (first_here s n) ≡ length (head_of s n) + length (planted_here s n)
first_long s n = rw (first_is s n) (length-append (head_of s n) (planted_here s n))

-- they are the first of all; where there are not so many, all
first_entries : (s : List ℕ) (n : ℕ) → n ≤ number_at 4 s 12 → first_here s n ≡ with_entries (set_here s) (take n (set_here s).entries)
unfolding set_here
first_entries s n h = ap (with_entries (set_here s)) (sym (parts_take (entry_here s) (entry_past s) n (number_at 4 s 12) 16 h))

pub all_entries : (s : List ℕ) (n : ℕ) → number_at 4 s 12 < n → take n (set_here s).entries ≡ (set_here s).entries
unfolding set_here
all_entries s n h = take_all n _ (omega (arith, parts_many (entry_here s) (entry_past s) (number_at 4 s 12) 16))

pub short_first : (s : List ℕ) (n r : ℕ) → n ≤ number_at 4 s 12 → r ≡ search_size (first_here s n)
    → short_with search_size (set_here s) (take n (set_here s).entries) ≡ ltb r too_many
short_first s n r h e = rw (e, first_entries s n h)

-- they end where all of them do, or before
pub first_inside : (s : List ℕ) (n all at : ℕ) → n ≤ all → entries_past s n at ≤ entries_past s all at
unfolding behind
first_inside s zero all at h = entries_further s all at
first_inside s (suc n) zero at h = absurd (omega arith)
first_inside s (suc n) (suc all) at h = first_inside s n all (entry_past s at) (omega arith)

-- of all
pub search_is : (s : List ℕ) → search_form (set_here s) ≡ head_of s (number_at 4 s 12) ++ planted_here s (number_at 4 s 12)
unfolding set_here
search_is s = first_is s (number_at 4 s 12)

pub search_long : (s : List ℕ) → length (search_form (set_here s)) ≡ length (head_of s (number_at 4 s 12)) + length (planted_here s (number_at 4 s 12))
search_long s = rw (search_is s) (length-append (head_of s (number_at 4 s 12)) (planted_here s (number_at 4 s 12)))

-- the head in front of code that ends where a filter of `count` instructions does
pub head_put : (z : List ℕ) (count : ℕ) (h p : List Instruction) → count ≡ length h + length p → 8 * count ≤ length z
    → place (place_before z (8 * count) (filter_bytes p)) 0 (filter_bytes h) ≡ place z 0 (filter_bytes (h ++ p))
head_put z count h p e room = rw (before_is z (8 * count) (8 * length h) p (omega arith)) (puts_before z 0 (8 * length h) h p (omega arith) (omega arith))

-- the code of the rules is put where it is to end
pub bodies_put : (z out : List ℕ) (end at : ℕ) (p : List Instruction) → at + 8 * length p ≡ end → end ≤ length z → out ≡ place z at (filter_bytes p)
    → Ends z end p out
bodies_put z out end at p e room o = record { room = room; there = λ h. o ∙ sym (before_is z end at p e) }

-- where there is no room, any code that is not empty ends there
pub no_room : (z out : List ℕ) (p : List Instruction) → 1 ≤ length p → Ends z 0 p out
no_room z out p h = record { room = omega arith; there = λ i. absurd (omega arith) }
