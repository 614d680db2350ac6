-- The loop that reads conditions and writes them: what stands in the buffer, and that there is room for the next. Assumes nothing.
use mathlib.Core.Path.{◌≡◌, refl, ap, sym, ◌∙◌}
use mathlib.Core.Bool.{Bool, true}
use mathlib.Core.List.{List, [], ◌∷◌, ◌++◌, append_assoc, append-nil}
use Prim.Native.Nat.{ℕ, ◌+◌, ◌*◌, ◌≤◌, ◌<◌}
use native.Mathlib.Omega.{arith}
use lib.ListN.{length, take, drop, length-append, length-take, length-drop}
use lib.Seq.{take_at}
use Rattle.definitions.specs.declared.Condition.{Condition}
use Rattle.definitions.specs.RuleSet.{Rule}
use Rattle.definitions.specs.Format.{width_number, operator_number, joined, encode_condition}
use Rattle.definitions.specs.JsonReader.{stop, not_json, blanks}
use Rattle.definitions.specs.FormReader.{wrong, judged, keyed_there, object_there, list_there, condition_there, Judges, judges_of}
use Rattle.definitions.specs.CallNames.{Slot}
use Rattle.json_theorems.specs.Turns.{more_there}
use Rattle.json_theorems.proofs.Turns.{list_turns}
use Rattle.json_theorems.proofs.Sizes.{condition_size}
use Rattle.json_scan.specs.Scan.{At, Tells}
use Rattle.json_scan.proofs.Telling.{came}
use Rattle.bpf.specs.Place.{place}
use Rattle.bpf.proofs.Buffer.{length_place}
use Rattle.writers.specs.Bytes.{condition_bytes}
use Rattle.writers.proofs.Names.{length_numbers}
use Rattle.writers.proofs.Sets.{length_last, joined_last}
use Rattle.json_lines.specs.Lines.{begin_there, Conditions}
use Rattle.json_lines.proofs.Steps.{blanks_on, from_blanks, Turning, Loop, begin_turning, still, turning, item_stopped, more_stopped, list_loop, list_begin}

condition_nothing : (j : Judges) → condition_there j [] ≡ stop not_json []
unfolding condition_there judged keyed_there object_there wrong
condition_nothing j = refl

-- bytes that were put are taken with what stands in front of them
take_place : (l : List ℕ) (at n : ℕ) (bs : List ℕ) → n ≡ at + length bs → n ≤ length l → take n (place l at bs) ≡ take at l ++ bs
unfolding place
take_place l at n bs e h = take_at (take at l ++ bs) (drop (at + length bs) l) n (simp (length-append, length-take) (omega arith))

-- a condition's bytes, by its numbers
spelled : (q : Condition) (width operator : ℕ) → width ≡ width_number q.width → operator ≡ operator_number q.operator
    → condition_bytes q.index width operator q.value q.mask ≡ encode_condition q
unfolding condition_bytes encode_condition
spelled q width operator w o = rw (w, o)

pub record Filling (slots : List Slot) (text : List ℕ) (from : ℕ) (raw₀ : List ℕ) (spot : ℕ) (raw : List ℕ) (at : ℕ) (more : Bool) (count : ℕ) : Type 0 where
  pub done : Rule
  pub turning : Turning text (list_turns (condition_there (judges_of slots))) (list_there (condition_there (judges_of slots)) (drop from text)) from at more done
  pub put : Conditions raw₀ raw spot count done
  pub room : spot + 24 * count ≤ at + 8
  pub long : length raw ≡ length raw₀

pub filling_start : {slots : List Slot} {text : List ℕ} {from code at : ℕ} {more : Bool} (raw : List ℕ) (spot : ℕ)
    → Tells text from (λ b. more ≡ b) (begin_there 0x5b 0x5d (drop from text)) code at → code ≡ 0 → spot ≤ from + 9 → Filling slots text from raw spot raw at more 0
filling_start {slots} {text} {from} raw spot told z h =
    let t = begin_turning (list_begin (condition_there (judges_of slots)) (drop from text)) told z in
    let same : spot + 24 * 0 ≡ spot = omega arith in
    record {
      done = [];
      turning = t;
      put = record { fits = λ h. absurd (omega arith); counted = refl; written = ap (λ (n : ℕ). take n raw) same ∙ sym (append-nil (take spot raw)) };
      room = omega (arith, t.on);
      long = refl;
    }

module _ {slots : List Slot} {text : List ℕ} {from : ℕ} {raw₀ : List ℕ} {spot : ℕ} {raw : List ℕ} {at : ℕ} {more : Bool} {count : ℕ}
    (f : Filling slots text from raw₀ spot raw at more count) (e : more ≡ true) {start : ℕ} (p : At text (blanks (drop at text)) start) where
  loop : Loop (list_turns (condition_there (judges_of slots))) (λ xs l. condition_there (judges_of slots) (blanks l)) 0x5d (λ xs a. xs ++ (a ∷ []))
  loop = list_loop (condition_there (judges_of slots)) (condition_nothing (judges_of slots))

  item : {code past : ℕ} {Is : Condition → Type 0} → Tells text start Is (condition_there (judges_of slots) (drop start text)) code past
      → Tells text at Is (condition_there (judges_of slots) (blanks (drop at text))) code past
  item told = from_blanks (condition_there (judges_of slots)) f.turning.inside p told

  pub condition_stopped : {code past : ℕ} {Is : Condition → Type 0} → Tells text start Is (condition_there (judges_of slots) (drop start text)) code past
      → {before : ℕ} {Is' : Rule → Type 0} → (code ≡ 0 → ⊥) → Tells text before Is' (list_there (condition_there (judges_of slots)) (drop from text)) code past
  condition_stopped told h = item_stopped loop (still e f.turning) (item told) h

  module _ {code past : ℕ} {v : Condition} (told : Tells text start (λ q. v ≡ q) (condition_there (judges_of slots) (drop start text)) code past) (z : code ≡ 0) where
    pub condition_room : (spot + 24 * count + 24 ≤ past) × (at < past) × (past ≤ length text)
    condition_room =
        let c = came told z in
        let s = condition_size (judges_of slots) (drop start text) c.part c.rest c.got_it in
        let d = ap length c.place.behind in
        let o = blanks_on text at start f.turning.inside p in
        (omega (arith, length-drop start text, length-drop past text, f.room, p.inside, c.place.inside), omega (arith, c.on), c.place.inside)

    module _ {code' end : ℕ} where
      pub condition_behind : {Is : Bool → Type 0} → Tells text past Is (more_there 0x5d (drop past text)) code' end
          → {before : ℕ} {Is' : Rule → Type 0} → (code' ≡ 0 → ⊥) → Tells text before Is' (list_there (condition_there (judges_of slots)) (drop from text)) code' end
      condition_behind behind h = more_stopped loop (still e f.turning) (came (item told) z) behind h

      pub filling_again : {next : Bool} → Tells text past (λ b. next ≡ b) (more_there 0x5d (drop past text)) code' end
          → {raw' : List ℕ} {width operator : ℕ} → width ≡ width_number v.width → operator ≡ operator_number v.operator
          → length text ≤ length raw → raw' ≡ place raw (spot + 24 * count) (condition_bytes v.index width operator v.value v.mask)
          → code' ≡ 0 → Filling slots text from raw₀ spot raw' end next (count + 1)
      filling_again behind {raw'} {width} {operator} w o fits wrote y =
          let i = came (item told) z in
          let b = condition_bytes v.index width operator v.value v.mask in
          let n = length_numbers v.index width operator v.value v.mask in
          let m = condition_room in
          let t = turning loop (still e f.turning) i behind y in
          let k : take (spot + 24 * (count + 1)) (place raw (spot + 24 * count) b) ≡ take (spot + 24 * count) raw ++ b = take_place raw (spot + 24 * count) (spot + 24 * (count + 1)) b (omega arith) (omega arith) in
          let s : b ≡ encode_condition i.part = spelled v width operator w o ∙ ap encode_condition i.value in
          record {
            done = f.done ++ (i.part ∷ []);
            turning = t;
            put = record {
              fits = λ h. omega (arith, f.long);
              counted = ap (λ (x : ℕ). x + 1) f.put.counted ∙ sym (length_last f.done i.part);
              written = rw wrote (k ∙ rw (f.put.written, joined_last encode_condition f.done i.part, s) (append_assoc (take spot raw₀) (joined encode_condition f.done) (encode_condition i.part)));
            };
            room = omega (arith, (came behind y).on);
            long = rw wrote (length_place raw (spot + 24 * count) b (omega arith) ∙ f.long);
          }
