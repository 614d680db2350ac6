-- Named sets in bytes, as `encode_named` writes them: what walking through them and looking for one of them promises, for any bytes and any
-- place, and what a user of both gets, from any bytes and from bytes that are named sets.
use Rattle.std.specs.Prelude.{ℕ, zero, suc, ◌+◌, ◌^◌, ◌≤◌, ◌≡◌, Bool, cond, not, ◌&&◌, List, [], ◌∷◌, eqb, leb, ltb, length, take, drop}
use Rattle.std.proofs.Math.Option.{Option, none, some}
use Rattle.definitions.specs.declared.NamedPlace.{NamedPlace}
use Rattle.definitions.specs.Word.{number_at}
use Rattle.definitions.specs.Format.{encode}
use Rattle.definitions.specs.JsonForm.{same}
use Rattle.definitions.specs.Collected.{NamedSet}

-- ---- walking

-- no named set is there: 1 not of the form, 2 none is left
abbrev pub no_set : ℕ → NamedPlace
no_set code = record { code = code; name = 0; name_len = 0; set = 0; set_len = 0; next = 0 }

-- a named set that begins at a place, with a name of n bytes and a set of m
abbrev pub set_there : ℕ → ℕ → ℕ → NamedPlace
set_there at n m = record { code = 0; name = at + 8; name_len = n; set = at + 8 + n; set_len = m; next = at + 8 + n + m }

-- the two lengths are there, and what they count
unfoldable pub stands_at : List ℕ → ℕ → Bool
stands_at bytes at = leb (at + 8) (length bytes) && leb (at + 8 + number_at 4 bytes at + number_at 4 bytes (at + 4)) (length bytes)

-- a place is a number of 32 bits: longer bytes are not of the form
unfoldable pub next_set : List ℕ → ℕ → NamedPlace
next_set bytes at =
    cond (ltb (length bytes) (2 ^ 32))
    (cond (eqb at (length bytes)) (no_set 2) (cond (stands_at bytes at) (set_there at (number_at 4 bytes at) (number_at 4 bytes (at + 4))) (no_set 1)))
    (no_set 1)

-- ---- looking for a name

-- the bytes that a place and a length say
abbrev pub part : List ℕ → ℕ → ℕ → List ℕ
part bytes at n = take n (drop at bytes)

-- a set that is there, and of another name
unfoldable pub is_other : List ℕ → List ℕ → NamedPlace → Bool
is_other bytes name p = eqb p.code 0 && not (same (part bytes p.name p.name_len) name)

-- the first place that is not a set of another name, in at most so many steps
unfoldable pub find_from : ℕ → List ℕ → List ℕ → ℕ → NamedPlace
find_from zero bytes name at = no_set 1
find_from (suc n) bytes name at =
    let p : NamedPlace = next_set bytes at in
    let further : NamedPlace = find_from n bytes name p.next in
    cond (is_other bytes name p) further p

-- a step passes 8 bytes at least, so that there are never more steps than this
unfoldable pub find_set : List ℕ → List ℕ → NamedPlace
find_set bytes name = find_from (suc (length bytes)) bytes name 0

-- ---- what a user gets from any bytes

-- a set that is given lies in the bytes, name and all
pub record Inside (bytes : List ℕ) (p : NamedPlace) : Type 0 where
  pub name : p.name + p.name_len ≤ length bytes
  pub set : p.set + p.set_len ≤ length bytes
  pub next : p.next ≤ length bytes

-- a set that is found lies in the bytes, and its name is the one that was looked for
pub record Found (bytes name : List ℕ) (p : NamedPlace) : Type 0 where
  pub inside : Inside bytes p
  pub named : part bytes p.name p.name_len ≡ name

-- ---- what a user gets from bytes that are named sets

-- a named set stands at a place
pub record Stands (bytes : List ℕ) (s : NamedSet) (p : NamedPlace) : Type 0 where
  pub code : p.code ≡ 0
  pub name : part bytes p.name p.name_len ≡ s.name
  pub set : part bytes p.set p.set_len ≡ encode s.set

-- walking from a place on gives these sets, in their order, and then says that none is left
abbrev pub Walks : List ℕ → ℕ → List NamedSet → Type 0
Walks bytes at [] = next_set bytes at ≡ no_set 2
Walks bytes at (s ∷ sets) = Stands bytes s (next_set bytes at) × Walks bytes (next_set bytes at).next sets

-- the first set of a name
unfoldable pub set_named : List ℕ → List NamedSet → Option NamedSet
set_named name [] = none
set_named name (s ∷ sets) = cond (same s.name name) (some s) (set_named name sets)

-- it was found
abbrev pub Finds : List ℕ → Option NamedSet → NamedPlace → Type 0
Finds bytes none p = p ≡ no_set 2
Finds bytes (some s) p = Stands bytes s p
