-- A filter's name: read, stored, and looked for among those that were given before. Assumes nothing.
use mathlib.Core.Path.{◌≡◌, refl, sym, ◌∙◌}
use mathlib.Core.Bool.{true, false}
use mathlib.Core.List.{List}
use Rattle.std.specs.Prelude.{Result, Ok, Err}
use Prim.Native.Nat.{ℕ, ◌+◌, ◌*◌, ◌^◌, ◌≤◌, ◌<◌}
use native.Mathlib.Omega.{arith}
use lib.Dec.{eqb}
use lib.ListN.{length, take, drop, get_or, length-drop}
use lib.Seq.{length-take-le}
use borrow.Author.Tests.{eq-eqb}
use Rattle.definitions.specs.Json.{quote}
use Rattle.definitions.specs.JsonForm.{Filter, named}
use Rattle.definitions.specs.CallNames.{Slot}
use Rattle.definitions.specs.NamedSets.{find_set}
use Rattle.definitions.specs.JsonReader.{Got, got, stop, first, string_at, placed, bad_character}
use Rattle.definitions.specs.FormReader.{string_there, given_twice}
use Rattle.json_theorems.specs.Turns.{key_string}
use Rattle.json_theorems.proofs.Sizes.{string_size}
use Rattle.json_scan.specs.Scan.{Tells}
use Rattle.json_scan.specs.Telling.{code_of, code_in, place_in}
use Rattle.json_scan.specs.declared.Misread.{Misread}
use Rattle.json_scan.specs.declared.Read.{Read}
use Rattle.json_scan.proofs.Telling.{Came, came, handed_on}
use Rattle.json_scan.proofs.Fields.{Skipped}
use Rattle.json_numbers.proofs.Counting.{first_at, inside}
use Rattle.json_strings.specs.declared.Decoded.{Decoded}
use Rattle.json_strings.specs.Decoding.{Stored}
use Rattle.json_parts.proofs.Places.{at_length, key_there, string_read}
use Rattle.json_lines.proofs.Steps.{tells_stop}
use Rattle.json_lines.proofs.Calls.{NoString, fault_is}
use Rattle.json_filters.specs.Filters.{Behind}
use Rattle.json_texts.specs.Named.{new_name, Written, NamePut, NameRead}
use Rattle.json_texts.proofs.Parts.{stored_behind, front_kept, part_written}
use Rattle.json_texts.proofs.Named.{found_named}

module _ (text : List ℕ) (at : ℕ) (marked : get_or text at 0 ≡ quote) where
  key_is : string_there (drop at text) ≡ key_string (drop at text)
  unfolding string_there key_string
  key_is = rw (first_at text at, eq-eqb _ _ marked) refl

  -- not decoded: the fault is the one of a string that is skipped
  pub refused_name : (n : NoString text at) {V : Type 0} {Is₀ Is : List ℕ → Type 0} (r : Result (Read V) Misread) {e : Misread} → r ≡ Err e
      → Tells text at Is₀ (string_there (drop at text)) (code_in r) (place_in r) → Tells text at Is (key_string (drop at text)) (code_of e.why) e.at
  refused_name n r is t = let s = fault_is n r is t in tells_stop (sym key_is ∙ n.is) s.told s.some s.place

  pub begins_string : true ≡ eqb (first (drop at text)) quote
  begins_string = sym (eq-eqb _ _ (first_at text at ∙ marked))

  pub stored_name : {before after : List ℕ} {end : ℕ} (d : Decoded) → at ≤ length text → end < at → 3 * length text ≤ length before
      → Stored text before (end + 8) (string_at (drop (at + 1) text)) after (Ok d)
      → Tells text at (NameRead before after at end d.count d.at) (key_string (drop at text)) 0 d.at
  stored_name {before = before} {after} {end} d h less room s = key_there text at marked (go (string_at (drop (at + 1) text)) refl s)
    where
      start : at + 1 ≤ length text
      start = omega (arith, inside text at 0x22 marked (omega arith))

      go : (g : Got (List ℕ)) → string_at (drop (at + 1) text) ≡ g → Stored text before (end + 8) g after (Ok d)
          → Tells text (at + 1) (NameRead before after at end d.count d.at) (placed bad_character (string_at (drop (at + 1) text))) 0 d.at
      go (got k rest) f t =
          let n = t.counted in
          let size : at + d.count + 2 ≤ d.at = omega (arith, string_size (drop (at + 1) text) k rest f, length-drop (at + 1) text, at_length t.place, start) in
          let i = t.place.inside in
          string_read f refl start t.place (record { put = record { behind = rw (t.stored, n) (stored_behind before (end + 8) k (omega arith)) }; size = size })
      go (stop k rest) f t = absurd t

-- looking for a name that was put behind the sets tells whether a filter has it
looked_up : {before after k : List ℕ} {slots : List Slot} {architecture many : ℕ} {fs : List Filter} (end count : ℕ) → Behind (end + 8) before after k (end + 8 + count) → end + 8 + count ≤ length before
    → Written slots architecture fs many (take end before) → end < 2 ^ 32 → eqb (find_set (take end after) (take count (drop (end + 8) after))).code 0 ≡ named k fs
looked_up {before = before} {after} {k} end count b fits w small =
    let spot = b.spot in
    let c : count ≡ length k = omega arith in
    let l : length (take end before) ≡ end = length-take-le end before (omega arith) in
    rw (front_kept b fits end (omega arith), c, part_written b fits) (found_named w (omega arith) k)

pub name_stops : {text : List ℕ} {at from code place : ℕ} {Is₀ Is : List ℕ → Type 0} → Skipped text at from → Tells text from Is₀ (key_string (drop from text)) code place
    → (code ≡ 0 → ⊥) → (fs : List Filter) → Tells text at Is (new_name fs (drop at text)) code place
unfolding new_name
name_stops s t h fs = rw s.same (handed_on _ t h)

module _ {text before after : List ℕ} {at from end code place count : ℕ}
    (s : Skipped text at from) (t : Tells text from (NameRead before after from end count place) (key_string (drop from text)) code place) where
  module _ (e : code ≡ 0) (less : end < at) (room : 3 * length text ≤ length before) where
    read : Came text from (NameRead before after from end count place) (key_string (drop from text)) place
    read = came t e

    pub name_size : at + count + 2 ≤ place
    name_size = let o = s.on in let v = read.value.size in omega arith

    fits : end + 8 + count ≤ length before
    fits = let v = name_size in let i = read.place.inside in omega arith

    pub name_room : end + 8 + count ≤ length after
    name_room = let f = fits in let w = read.value.put.behind.whole in omega arith

    module _ {slots : List Slot} {architecture many : ℕ} {fs : List Filter} (w : Written slots architecture fs many (take end before)) (short : length text ≤ 1048576) where
      given_is : eqb (find_set (take end after) (take count (drop (end + 8) after))).code 0 ≡ named read.part fs
      given_is = looked_up end count read.value.put.behind fits w (let i = read.place.inside in omega (arith, name_size))

      pub name_twice : {Is : List ℕ → Type 0} → eqb (find_set (take end after) (take count (drop (end + 8) after))).code 0 ≡ true
          → Tells text at Is (new_name fs (drop at text)) given_twice from
      unfolding new_name
      name_twice h =
          let twice : named read.part fs ≡ true = sym given_is ∙ h in
          record { tells = rw (s.same, read.got_it, twice) (record { told = refl; some = omega arith; place = record { inside = s.inside; behind = refl } }) }

      pub name_new : eqb (find_set (take end after) (take count (drop (end + 8) after))).code 0 ≡ false
          → Tells text at (NamePut before after end count) (new_name fs (drop at text)) code place
      unfolding new_name
      name_new h =
          let new : named read.part fs ≡ false = sym given_is ∙ h in
          let o = s.on in
          let p = read.on in
          record { tells = rw (s.same, read.got_it, new) (record { fine = e; on = omega arith; place = read.place; value = read.value.put }) }
