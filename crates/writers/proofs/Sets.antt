-- The byte form of a rule set with a part added: where the count stands that the part raises, and what stands around it. So that one law
-- of bytes serves every writer.
use mathlib.Core.Path.{◌≡◌, refl, ap, sym, ◌∙◌}
use mathlib.Core.List.{List, [], ◌∷◌, ◌++◌, append_assoc, append-nil}
use Prim.Native.Nat.{ℕ, ◌+◌, ◌≤◌}
use native.Mathlib.Omega.{arith}
use lib.ListN.{length, take, length-append, length-take}
use Rattle.definitions.specs.Word.{bytes_of}
use Rattle.definitions.specs.RuleSet.{Rule, Entry, RuleSet}
use Rattle.definitions.specs.Format.{head_number, joined, encode_condition, encode_rule, encode_entry, encode, Each, EntryInRange}
use Rattle.definitions.specs.Compiled.{FormOf}
use Rattle.definitions.specs.Parts.{on_last, on_entries}
use Rattle.theorems.proofs.Words.{length_bytes}
use Rattle.bpf.specs.Place.{place}
use Rattle.writers.proofs.Stores.{raised, part_taken}

-- ---- the last of a list

pub on_last_lem : {A : Type 0} (f : A → A) (front : List A) (x : A) → on_last f (front ++ (x ∷ [])) ≡ front ++ (f x ∷ [])
on_last_lem f [] x = refl
on_last_lem f (y ∷ []) x = refl
on_last_lem f (y ∷ (z ∷ zs)) x = ap (λ (l : List _). y ∷ l) (on_last_lem f (z ∷ zs) x)

pub length_last : {A : Type 0} (front : List A) (x : A) → length (front ++ (x ∷ [])) ≡ length front + 1
length_last front x = length-append front (x ∷ [])

pub joined_last : {A : Type 0} (enc : A → List ℕ) (front : List A) (x : A) → joined enc (front ++ (x ∷ [])) ≡ joined enc front ++ enc x
joined_last enc [] x = append-nil (enc x)
joined_last enc (y ∷ ys) x = rw (joined_last enc ys x) (sym (append_assoc (enc y) (joined enc ys) (enc x)))

pub each_last : {A : Type 0} (P : A → Type 0) (front : List A) (x : A) → Each P front → P x → Each P (front ++ (x ∷ []))
each_last P [] x f p = (p, tt)
each_last P (y ∷ ys) x f p = (f.0, each_last P ys x f.1 p)

pub last_each : {A : Type 0} (P : A → Type 0) (front : List A) (x : A) → Each P (front ++ (x ∷ [])) → Each P front × P x
last_each P [] x h = (tt, h.0)
last_each P (y ∷ ys) x h = let more = last_each P ys x h.1 in ((h.0, more.0), more.1)

-- ---- what stands in front of a count

abbrev pub heading : RuleSet → List ℕ
heading rs = bytes_of 4 (head_number rs.architecture rs.native_only) ++ (bytes_of 4 rs.mismatch ++ bytes_of 4 rs.on_match)

pub encode_entries : (rs : RuleSet) → encode rs ≡ heading rs ++ (bytes_of 4 (length rs.entries) ++ joined encode_entry rs.entries)
unfolding encode
encode_entries rs = simp append_assoc

-- a set up to the count of its last entry's rules
abbrev pub lead : RuleSet → List Entry → ℕ → List ℕ
lead rs front number = heading rs ++ (bytes_of 4 (length front + 1) ++ (joined encode_entry front ++ bytes_of 4 number))

pub length_lead : (rs : RuleSet) (front : List Entry) (number : ℕ) → length (lead rs front number) ≡ 16 + length (joined encode_entry front) + 4
length_lead rs front number = simp (length-append, length_bytes) (omega arith)

pub encode_rules : (rs : RuleSet) (front : List Entry) (e : Entry) → rs.entries ≡ front ++ (e ∷ [])
    → encode rs ≡ lead rs front e.number ++ (bytes_of 4 (length e.rules) ++ joined encode_rule e.rules)
unfolding encode_entry
encode_rules rs front e h = encode_entries rs ∙ rw (h, length_last front e, joined_last encode_entry front e) (simp append_assoc)

-- a set up to the count of its last rule's conditions
abbrev pub track : RuleSet → List Entry → ℕ → List Rule → List ℕ
track rs front number rules = lead rs front number ++ (bytes_of 4 (length rules + 1) ++ joined encode_rule rules)

pub length_track : (rs : RuleSet) (front : List Entry) (number : ℕ) (rules : List Rule)
    → length (track rs front number rules) ≡ 16 + length (joined encode_entry front) + 8 + length (joined encode_rule rules)
length_track rs front number rules = simp (length-append, length_bytes) (omega arith)

pub encode_conditions : (rs : RuleSet) (front : List Entry) (e : Entry) (rules : List Rule) (r : Rule) → rs.entries ≡ front ++ (e ∷ []) → e.rules ≡ rules ++ (r ∷ [])
    → encode rs ≡ track rs front e.number rules ++ (bytes_of 4 (length r) ++ joined encode_condition r)
unfolding encode_rule
encode_conditions rs front e rules r h g = encode_rules rs front e h ∙ rw (g, length_last rules r, joined_last encode_rule rules r) (simp append_assoc)

-- ---- a part added

-- the bytes of a set, with a part put behind them and a count k in them raised, are those of the set with more in it
module _ (rs : RuleSet) (f : List Entry → List Entry) (out : List ℕ) (end at k more : ℕ) (p q bs : List ℕ)
    (old : encode rs ≡ p ++ (bytes_of 4 k ++ q)) (new : encode (on_entries f rs) ≡ p ++ (bytes_of 4 (k + 1) ++ (q ++ bs)))
    (long : length bs ≡ more) (spot : length p ≡ at) (count : k ≤ length q) (room : end + more ≤ length out) (small : end + more ≤ 1048576)
    (good : Each EntryInRange rs.entries → Each EntryInRange (f rs.entries)) (held : FormOf rs (take end out)) where
  there : take end out ≡ p ++ (bytes_of 4 k ++ q)
  there = sym held.spelled ∙ old

  -- where the set ended
  pub ended : length p + 4 + length q ≡ end
  ended =
      let m : length (take end out) ≡ end = simp length-take (omega arith) in
      let n = simp (length-append, length_bytes) at (ap length there) in
      omega arith

  taken_bytes : take (end + more) (raised (place out end bs) at) ≡ p ++ (bytes_of 4 (k + 1) ++ (q ++ bs))
  taken_bytes = rw (← long) (part_taken out end at k p q bs there spot (omega (arith, ended)) (omega arith))

  length_new : length (encode (on_entries f rs)) ≡ end + more
  length_new = rw new (simp (length-append, length_bytes) (omega (arith, ended)))

  pub form_added : FormOf (on_entries f rs) (take (end + more) (raised (place out end bs) at))
  form_added = record {
    ranged = record {
      mismatch = held.ranged.mismatch;
      on_match = held.ranged.on_match;
      entries = good held.ranged.entries;
      size = omega (arith, length_new);
    };
    spelled = new ∙ sym taken_bytes;
  }
