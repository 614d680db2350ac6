-- What a user of bytes that are named sets gets: walking gives the sets in their order, and looking for a name the first set that has it.
-- Assumes nothing.
use mathlib.Core.Path.{◌≡◌, refl, ap, sym, ◌∙◌}
use mathlib.Core.Bool.{Bool, true, false, cond, not}
use mathlib.Core.List.{List, [], ◌∷◌, ◌++◌, append_assoc}
use mathlib.Core.Option.{none, some}
use Prim.Native.Nat.{ℕ, zero, suc, ◌+◌, ◌^◌, ◌≤◌, ◌<◌}
use native.Mathlib.Omega.{arith}
use lib.ListN.{length, drop, length-append, length-drop}
use lib.Seq.{take_at}
use borrow.Author.Tests.{eq-eqb}
use Rattle.definitions.specs.declared.NamedPlace.{NamedPlace}
use Rattle.definitions.specs.Word.{bytes_of, number_at}
use Rattle.definitions.specs.Format.{joined, encode}
use Rattle.definitions.specs.JsonForm.{same}
use Rattle.definitions.specs.Collected.{NamedSet, encode_named}
use Rattle.definitions.specs.NamedSets.{set_there, no_set, next_set, is_other, find_from, find_set, Stands, Walks, set_named, Finds}
use Rattle.theorems.proofs.Words.{length_bytes, drop_front, number_here_at, number_front_at}
use Rattle.json_theorems.proofs.Values.{same_self}
use Rattle.named_sets.proofs.Places.{next_end, next_there}
use Rattle.named_sets.proofs.Naming.{find_step}

-- these sets are still to come at a place
pub record Coming (bytes : List ℕ) (at : ℕ) (sets : List NamedSet) : Type 0 where
  pub spelled : drop at bytes ≡ joined encode_named sets
  pub inside : at ≤ length bytes
  pub size : length bytes < 2 ^ 32

pub coming_all : (sets : List NamedSet) → length (joined encode_named sets) < 2 ^ 32 → Coming (joined encode_named sets) 0 sets
coming_all sets h = record { spelled = refl; inside = omega arith; size = h }

pub length_named : (s : NamedSet) → length (encode_named s) ≡ 8 + length s.name + length (encode s.set)
unfolding encode_named
length_named s = simp (length-append, length_bytes) (omega arith)

-- ---- one step

pub record Given (bytes : List ℕ) (at : ℕ) (s : NamedSet) (sets : List NamedSet) : Type 0 where
  pub answer : set_there at (length s.name) (length (encode s.set)) ≡ next_set bytes at
  pub stands : Stands bytes s (next_set bytes at)
  pub coming : Coming bytes (next_set bytes at).next sets

pub given : (bytes : List ℕ) (at : ℕ) (s : NamedSet) (sets : List NamedSet) → Coming bytes at (s ∷ sets) → Given bytes at s sets
unfolding encode_named
given bytes at s sets c =
    let n = length s.name in
    let m = length (encode s.set) in
    let code = encode s.set in
    let more = joined encode_named sets in
    let named : length (encode_named s) ≡ 8 + n + m = length_named s in
    let long : length bytes ≡ at + (8 + n + m + length more) =
    let left = sym (length-drop at bytes) ∙ ap length c.spelled ∙ length-append (encode_named s) more in omega (arith, c.inside) in
    let whole : drop at bytes ≡ bytes_of 4 n ++ (bytes_of 4 m ++ (s.name ++ (code ++ more))) = c.spelled ∙ simp append_assoc in
    let first : number_at 4 bytes at ≡ n = number_here_at 4 n bytes _ at whole (omega (arith, c.size)) in
    let second : number_at 4 bytes (at + 4) ≡ m = number_front_at 4 m bytes (bytes_of 4 n) _ at 4 whole (length_bytes 4 n) (omega (arith, c.size)) in
    let answer = next_there bytes at n m (sym first) (sym second) c.size (λ e. omega arith) (omega arith) (omega arith) in
    let name_on : drop (at + 8) bytes ≡ s.name ++ (code ++ more) =
    drop_front bytes (bytes_of 4 n ++ bytes_of 4 m) (s.name ++ (code ++ more)) at 8 (whole ∙ sym (append_assoc (bytes_of 4 n) (bytes_of 4 m) _)) (simp (length-append, length_bytes)) in
    let set_on : drop (at + 8 + n) bytes ≡ code ++ more = drop_front bytes s.name (code ++ more) (at + 8) n name_on refl in
    record {
      answer = answer;
      stands = rw (← answer) (record { code = refl; name = rw name_on (take_at s.name (code ++ more) n refl); set = rw set_on (take_at code more m refl) });
      coming = rw (← answer) (record { spelled = drop_front bytes code more (at + 8 + n) m set_on refl; inside = omega arith; size = c.size });
    }

pub none_left : (bytes : List ℕ) (at : ℕ) → Coming bytes at [] → next_set bytes at ≡ no_set 2
none_left bytes at c =
    let left = sym (length-drop at bytes) ∙ ap length c.spelled in
    sym (next_end bytes at c.size (omega (arith, c.inside)))

-- ---- walking

walks_on : (bytes : List ℕ) (at : ℕ) (sets : List NamedSet) → Coming bytes at sets → Walks bytes at sets
walks_on bytes at [] c = none_left bytes at c
walks_on bytes at (s ∷ sets) c = let g = given bytes at s sets c in (g.stands, walks_on bytes (next_set bytes at).next sets g.coming)

-- from the start on the sets come in their order, each with its name and the bytes of its set, and no other
pub walks : (sets : List NamedSet) → length (joined encode_named sets) < 2 ^ 32 → Walks (joined encode_named sets) 0 sets
walks sets h = walks_on (joined encode_named sets) 0 sets (coming_all sets h)

-- ---- looking for a name

other_name : (bytes name : List ℕ) (s : NamedSet) (p : NamedPlace) → Stands bytes s p → is_other bytes name p ≡ not (same s.name name)
unfolding is_other
other_name bytes name s p h = rw (eq-eqb p.code 0 h.code, h.name)

finds_on : (bytes name : List ℕ) (at steps : ℕ) (sets : List NamedSet) → Coming bytes at sets → length sets ≤ steps
    → Finds bytes (set_named name sets) (find_from (suc steps) bytes name at)
unfolding set_named is_other
finds_on bytes name at steps [] c h = rw (find_step bytes name steps at, none_left bytes at c)
finds_on bytes name at zero (s ∷ sets) c h = absurd (omega arith)
finds_on bytes name at (suc steps) (s ∷ sets) c h =
    let g = given bytes at s sets c in
    rw (find_step bytes name (suc steps) at, other_name bytes name s (next_set bytes at) g.stands)
    (go (same s.name name) g.stands (finds_on bytes name (next_set bytes at).next steps sets g.coming (omega arith)))
  where
    go : (t : Bool) → Stands bytes s (next_set bytes at) → Finds bytes (set_named name sets) (find_from (suc steps) bytes name (next_set bytes at).next)
        → Finds bytes (cond t (some s) (set_named name sets)) (cond (not t) (find_from (suc steps) bytes name (next_set bytes at).next) (next_set bytes at))
    go true here further = here
    go false here further = further

few_sets : (sets : List NamedSet) → length sets ≤ length (joined encode_named sets)
few_sets [] = omega arith
few_sets (s ∷ sets) = let l = length-append (encode_named s) (joined encode_named sets) in omega (arith, length_named s, few_sets sets)

-- the first set of the name is found, and where no set has it, that is said
pub finds : (sets : List NamedSet) (name : List ℕ) → length (joined encode_named sets) < 2 ^ 32
    → Finds (joined encode_named sets) (set_named name sets) (find_set (joined encode_named sets) name)
unfolding find_set
finds sets name h = finds_on (joined encode_named sets) name 0 (length (joined encode_named sets)) sets (coming_all sets h) (few_sets sets)

-- ---- of sets with different names each is the first of its name

pub first_named : (front : List NamedSet) (s : NamedSet) (sets : List NamedSet) → set_named s.name front ≡ none → set_named s.name (front ++ (s ∷ sets)) ≡ some s
unfolding set_named
first_named [] s sets h = rw (same_self s.name)
first_named (f ∷ front) s sets h = go (same f.name s.name) h (first_named front s sets)
  where
    go : (t : Bool) → cond t (some f) (set_named s.name front) ≡ none → (set_named s.name front ≡ none → set_named s.name (front ++ (s ∷ sets)) ≡ some s)
        → cond t (some f) (set_named s.name (front ++ (s ∷ sets))) ≡ some s
    go true h f = absurd (let z : ◌≡◌ {A = ℕ} 0 1 = cc in omega arith)
    go false h f = f h

pub finds_each : (front : List NamedSet) (s : NamedSet) (sets : List NamedSet) → set_named s.name front ≡ none → length (joined encode_named (front ++ (s ∷ sets))) < 2 ^ 32
    → Stands (joined encode_named (front ++ (s ∷ sets))) s (find_set (joined encode_named (front ++ (s ∷ sets))) s.name)
finds_each front s sets h size = rw (first_named front s sets h) at (finds (front ++ (s ∷ sets)) s.name size)
