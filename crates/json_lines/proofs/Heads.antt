-- An entry and its rule, written in front of the rule's conditions, are the bytes of a line. Assumes nothing.
use mathlib.Core.Path.{◌≡◌, refl, ap, sym, ◌∙◌}
use mathlib.Core.List.{List, [], ◌∷◌, ◌++◌, append_assoc, append-nil}
use mathlib.Core.Option.{Option, none, some}
use Rattle.std.specs.Prelude.{None, Some}
use Rattle.std.specs.Prelude as given
use Prim.Native.Nat.{ℕ, ◌+◌, ◌*◌, ◌≤◌}
use native.Mathlib.Omega.{arith}
use lib.ListN.{length, take, drop, length-append, length-take}
use lib.Seq.{take-append-add}
use Rattle.definitions.specs.Word.{bytes_of}
use Rattle.definitions.specs.RuleSet.{Rule, Entry}
use Rattle.definitions.specs.Format.{joined, encode_condition, encode_rule, encode_entry}
use Rattle.definitions.specs.Collected.{rules_of_args}
use Rattle.theorems.proofs.Words.{length_bytes}
use Rattle.theorems.proofs.Forms.{length_condition, length_rule, length_entry}
use Rattle.bpf.specs.Place.{place}
use Rattle.bpf.proofs.Buffer.{place_next, put_two}
use Rattle.json_lines.specs.Lines.{RuleIs, head_bytes, entry_size}

pub head_bare : (raw : List ℕ) (spot number : ℕ) → spot + 8 ≤ length raw
    → place (place raw spot (bytes_of 4 number)) (spot + 4) (bytes_of 4 0) ≡ place raw spot (head_bytes number None)
head_bare raw spot number h = put_two raw spot number 0 h

pub head_ruled : (raw : List ℕ) (spot number count : ℕ) → spot + 12 ≤ length raw
    → place (place (place raw spot (bytes_of 4 number)) (spot + 4) (bytes_of 4 1)) (spot + 8) (bytes_of 4 count) ≡ place raw spot (head_bytes number (Some count))
head_ruled raw spot number count h =
    rw (
      put_two raw spot number 1 (omega arith),
      place_next raw spot (spot + 8) (bytes_of 4 number ++ bytes_of 4 1) (bytes_of 4 count) (simp (length-append, length_bytes)) (simp length_bytes (omega arith)),
    ) (ap (λ (bs : List ℕ). place raw spot bs) (append_assoc (bytes_of 4 number) (bytes_of 4 1) (bytes_of 4 count)))

conditions_long : (q : Rule) → length (joined encode_condition q) ≡ 24 * length q
conditions_long [] = refl
conditions_long (c ∷ q) = length-append (encode_condition c) (joined encode_condition q) ∙ omega (arith, length_condition c, conditions_long q)

-- what stands behind the bytes that are put is taken with them
take_behind : (l : List ℕ) (at n m k : ℕ) (bs : List ℕ) → length bs ≡ k → at + k ≤ length l → n ≡ at + k + m → take n (place l at bs) ≡ (take at l ++ bs) ++ take m (drop (at + k) l)
unfolding place
take_behind l at n m k bs b h e =
    let w : length (take at l ++ bs) ≡ at + k = simp (length-append, length-take) (omega arith) in
    ap (λ (x : ℕ). take x ((take at l ++ bs) ++ drop (at + length bs) l)) (e ∙ ap (λ (x : ℕ). x + m) (sym w)) ∙ take-append-add (take at l ++ bs) (drop (at + length bs) l) m ∙ rw b

bare_bytes : (front number count rest : List ℕ) → (front ++ (number ++ count)) ++ take 0 rest ≡ front ++ (number ++ (count ++ []))
bare_bytes front number count rest = simp (append_assoc, append-nil)

ruled_bytes : (front number one count conditions : List ℕ) → (front ++ (number ++ (one ++ count))) ++ conditions ≡ front ++ (number ++ (one ++ ((count ++ conditions) ++ [])))
ruled_bytes front number one count conditions = simp (append_assoc, append-nil)

abbrev pub entry_of : ℕ → Option Rule → Entry
entry_of number args = record { number = number; rules = rules_of_args args }

module _ (raw : List ℕ) (spot : ℕ) where
  pub entry_long : (conditions : given.Option ℕ) (number : ℕ) (args : Option Rule) → RuleIs raw spot conditions args → length (encode_entry (entry_of number args)) ≡ entry_size conditions
  entry_long conditions number none h = rw h (length_entry (entry_of number none))
  entry_long None number (some q) h = absurd h
  entry_long (Some count) number (some q) h =
      length_entry (entry_of number (some q)) ∙ omega (arith, length-append (encode_rule q) [], length_rule q, conditions_long q, h.counted)

  pub entry_taken : (conditions : given.Option ℕ) (number : ℕ) (args : Option Rule) → RuleIs raw spot conditions args → spot + entry_size conditions ≤ length raw
      → take (spot + entry_size conditions) (place raw spot (head_bytes number conditions)) ≡ take spot raw ++ encode_entry (entry_of number args)
  unfolding encode_entry encode_rule
  entry_taken conditions number none h fits = bare conditions h fits
    where
      bare : (n : given.Option ℕ) → n ≡ None → spot + entry_size n ≤ length raw
          → take (spot + entry_size n) (place raw spot (head_bytes number n)) ≡ take spot raw ++ encode_entry (entry_of number none)
      bare None e f =
          take_behind raw spot (spot + 8) 0 8 (bytes_of 4 number ++ bytes_of 4 0) (simp (length-append, length_bytes)) (omega arith) (omega arith)
          ∙ bare_bytes (take spot raw) (bytes_of 4 number) (bytes_of 4 0) (drop (spot + 8) raw)
      bare (Some count) e f = cc
  entry_taken None number (some q) h fits = absurd h
  entry_taken (Some count) number (some q) h fits =
      take_behind raw spot (spot + (12 + 24 * count)) (24 * count) 12 (bytes_of 4 number ++ (bytes_of 4 1 ++ bytes_of 4 count)) (simp (length-append, length_bytes)) (omega arith) (omega arith)
      ∙ rw (h.written, h.counted) (ruled_bytes (take spot raw) (bytes_of 4 number) (bytes_of 4 1) (bytes_of 4 (length q)) (joined encode_condition q))
