-- ROUND TRIP: reading what was written gives the rule set back, and bytes of the format are what is written of the rule set read from
-- them. So the reader needs no belief, and two different byte strings never are one rule set.
use mathlib.Core.Path.{◌≡◌, refl, ap, sym, ◌∙◌}
use mathlib.Core.Bool.{Bool, true, ◌&&◌}
use mathlib.Core.List.{List, [], ◌∷◌, ◌++◌, append_assoc, append-nil}
use mathlib.Core.Option.{Option, some}
use Prim.Native.Nat.{ℕ, zero, suc, ◌+◌, ◌^◌, ◌≤◌, ◌<◌}
use native.Mathlib.Nat.{add-zero, add_assoc}
use native.Mathlib.Omega.{arith}
use lib.Dec.{eqb, leb}
use lib.ListN.{length, drop, get_or, length-append}
use lib.Seq.{drop-length}
use borrow.Author.Tests.{eqb-true, leb-true, eq-eqb, le-leb}
use Rattle.definitions.specs.declared.Operator.{Operator}
use Rattle.definitions.specs.declared.Width.{Width}
use Rattle.definitions.specs.declared.Condition.{Condition}
use Rattle.definitions.specs.Word.{bytes_of, number_at, AreBytes}
use Rattle.definitions.specs.RuleSet.{Architecture, Rule, Entry, RuleSet}
use Rattle.definitions.specs.Format.{head_number, width_number, operator_number, joined, encode_condition, encode_rule, encode_entry, encode}
use Rattle.definitions.specs.Format.{Each, ConditionInRange, EntryInRange, InRange}
use Rattle.definitions.specs.Format.{width_of, operator_of, mask_taken, Read, times, condition_at, rule_at, entry_at, read}
use Rattle.theorems.specs.Statements.{RoundTrip, OneForm}
use Rattle.theorems.proofs.Tests.{both_true, each_both, then_some, check_some, some_same}
use Rattle.theorems.proofs.Reading.{seen}
use Rattle.theorems.proofs.Taken.{action_small}
use Rattle.theorems.proofs.Conditions.{compared}
use Rattle.theorems.proofs.Names.{width_back, operator_back, architecture_back, native_back, head_byte, mask_back, width_forth, operator_forth, head_forth, mask_forth}
use Rattle.theorems.proofs.Forms.{length_condition, length_rule, length_entry, short_count, zeros_front, value_front, mask_front}
use Rattle.theorems.proofs.Words.{length_bytes, number_here, number_past, number_front, byte_here, byte_past, number_drop, byte_drop, number_at_small}

-- ---- written, then read

abbrev got : {A : Type 0} → A → ℕ → Option (Read A)
got x at = some (record { value = x; past = at })

-- f reads back what enc wrote of x, wherever it stands
abbrev Backs : {A : Type 0} → (List ℕ → ℕ → Option (Read A)) → (A → List ℕ) → A → Type 0
Backs f enc x = (p q : List ℕ) (at : ℕ) → length p ≡ at → f (p ++ (enc x ++ q)) at ≡ got x (at + length (enc x))

times_back : {A : Type 0} (f : List ℕ → ℕ → Option (Read A)) (enc : A → List ℕ) (xs : List A) → Each (Backs f enc) xs
    → (p q : List ℕ) (at : ℕ) → length p ≡ at → times (f (p ++ (joined enc xs ++ q))) (length xs) at ≡ got xs (at + length (joined enc xs))
unfolding times
times_back f enc [] b p q at e = rw add-zero
times_back f enc (x ∷ xs) b p q at e =
    let first : f (p ++ (enc x ++ joined enc xs ++ q)) at ≡ got x (at + length (enc x)) = rw (append_assoc (enc x)) (b.0 p (joined enc xs ++ q) at e) in
    let behind = times_back f enc xs b.1 (p ++ enc x) q (at + length (enc x)) (rw (length-append, e)) in
    let same : p ++ enc x ++ (joined enc xs ++ q) ≡ p ++ (enc x ++ joined enc xs ++ q) = simp append_assoc in
    let more = rw same at behind in
    rw (first, more, length-append, add_assoc)

short_each : {A : Type 0} (enc : A → List ℕ) (xs : List A) (n : ℕ) → length (joined enc xs) < n → Each (λ x. length (enc x) < n) xs
short_each enc [] n h = tt
short_each enc (x ∷ xs) n h =
    let l = length-append (enc x) (joined enc xs) in
    (omega arith, short_each enc xs n (omega arith))

-- a condition is read from what stands at its offsets
condition_read : (bs : List ℕ) (at : ℕ) (q : Condition) → at + 24 ≤ length bs → number_at 5 bs (at + 3) ≡ 0
    → get_or bs at 0 ≡ q.index → get_or bs (at + 1) 0 ≡ width_number q.width → get_or bs (at + 2) 0 ≡ operator_number q.operator
    → number_at 8 bs (at + 8) ≡ q.value → number_at 8 bs (at + 16) ≡ q.mask → mask_taken q.operator q.mask ≡ true
    → condition_at bs at ≡ got q (at + 24)
unfolding condition_at
condition_read bs at q room z i w o v m t =
    rw (le-leb (at + 24) (length bs) room, z, w, width_back, o, operator_back, m, t, i, v)

condition_back : (q : Condition) → ConditionInRange q → Backs condition_at encode_condition q
unfolding encode_condition
condition_back q g p t at e =
    let n = length_condition q in
    let room : at + 24 ≤ length (p ++ (encode_condition q ++ t)) = simp (length-append, length_bytes) (omega arith) in
    rw n
    (condition_read (p ++ (encode_condition q ++ t)) at q room
    (number_past 5 p (encode_condition q ++ t) at 3 e ∙ zeros_front q g t)
    (byte_here p (encode_condition q ++ t) at e)
    (byte_past p (encode_condition q ++ t) at 1 e)
    (byte_past p (encode_condition q ++ t) at 2 e)
    (number_past 8 p (encode_condition q ++ t) at 8 e ∙ value_front q g t)
    (number_past 8 p (encode_condition q ++ t) at 16 e ∙ mask_front q g t)
    (mask_back q.operator q.mask g.mask).0)

-- a rule that is short enough for its count to fit
abbrev RuleFits : Rule → Type 0
RuleFits r = Each ConditionInRange r × (length (encode_rule r) < 2 ^ 32)

each_map : {A : Type 0} {P Q : A → Type 0} → ((x : A) → P x → Q x) → (xs : List A) → Each P xs → Each Q xs
each_map f [] p = tt
each_map f (x ∷ xs) p = (f x p.0, each_map f xs p.1)

rule_back : (r : Rule) → RuleFits r → Backs rule_at encode_rule r
unfolding rule_at encode_rule
rule_back r g p t at e =
    let n = bytes_of 4 (length r) in
    let qs = joined encode_condition r in
    let count : length r < 256 ^ 4 =
    omega (arith, length_rule r, short_count encode_condition (λ q. omega (arith, length_condition q)) r) in
    let all : List ℕ = p ++ (n ++ qs ++ t) in
    let room : at + 4 ≤ length all = simp (length-append, length_bytes) (omega arith) in
    let back = times_back condition_at encode_condition r (each_map condition_back r g.0) (p ++ n) t (at + 4) (rw (length-append, e, length_bytes)) in
    let same : p ++ n ++ (qs ++ t) ≡ all = simp append_assoc in
    let number : number_at 4 all at ≡ length r =
    number_here 4 p (n ++ qs ++ t) at e ∙ rw append_assoc (number_front 4 (length r) (qs ++ t) count) in
    rw (le-leb (at + 4) (length all) room, number, rw same at back, length-append, length_bytes, add_assoc)

abbrev EntryFits : Entry → Type 0
EntryFits e = EntryInRange e × (length (encode_entry e) < 2 ^ 32)

entry_back : (x : Entry) → EntryFits x → Backs entry_at encode_entry x
unfolding entry_at encode_entry
entry_back x g p t at e =
    let number = bytes_of 4 x.number in
    let n = bytes_of 4 (length x.rules) in
    let rules = joined encode_rule x.rules in
    let long = length_entry x in
    let count : length x.rules < 256 ^ 4 =
    omega (arith, short_count encode_rule (λ r. omega (arith, length_rule r)) x.rules) in
    let all : List ℕ = p ++ (number ++ (n ++ rules) ++ t) in
    let room : at + 8 ≤ length all = simp (length-append, length_bytes) (omega arith) in
    let fits = each_both {R = RuleFits} (λ r a b. (a, b)) x.rules g.0.rules (short_each encode_rule x.rules (2 ^ 32) (omega arith)) in
    let back = times_back rule_at encode_rule x.rules (each_map rule_back x.rules fits) (p ++ number ++ n) t (at + 8)
    (simp (length-append, length_bytes) (omega arith)) in
    let same : p ++ number ++ n ++ (rules ++ t) ≡ all = simp append_assoc in
    let first : number_at 4 all at ≡ x.number =
    number_here 4 p (number ++ (n ++ rules) ++ t) at e ∙ rw append_assoc (number_front 4 x.number (n ++ rules ++ t) g.0.number) in
    let second : number_at 4 all (at + 4) ≡ length x.rules =
    let z = number_here 4 (p ++ number) (n ++ (rules ++ t)) (at + 4) (rw (length-append, e, length_bytes))
    ∙ number_front 4 (length x.rules) (rules ++ t) count in
    let alike : p ++ number ++ (n ++ (rules ++ t)) ≡ all = simp append_assoc in
    rw alike at z in
    let end : at + length (number ++ (n ++ rules)) ≡ at + 8 + length rules = simp (length-append, length_bytes) (omega arith) in
    rw (le-leb (at + 8) (length all) room, second, rw same at back, first, end)

pub written_read : (rs : RuleSet) → InRange rs → read (encode rs) ≡ some rs
unfolding read encode
written_read rs g =
    let a = bytes_of 4 (head_number rs.architecture rs.native_only) in
    let d = bytes_of 4 rs.mismatch in
    let m = bytes_of 4 rs.on_match in
    let n = bytes_of 4 (length rs.entries) in
    let es = joined encode_entry rs.entries in
    let all : List ℕ = a ++ (d ++ (m ++ (n ++ es))) in
    let long : length all ≡ 16 + length es = simp (length-append, length_bytes) (omega arith) in
    let size = g.size in
    let count : length rs.entries < 256 ^ 4 =
    omega (arith, short_count encode_entry (λ e. omega (arith, length_entry e)) rs.entries) in
    let fits = each_both {R = EntryFits} (λ e x y. (x, y)) rs.entries g.entries (short_each encode_entry rs.entries (2 ^ 32) (omega arith)) in
    let back = times_back entry_at encode_entry rs.entries (each_map entry_back rs.entries fits) (a ++ (d ++ (m ++ n))) [] 16
    (simp (length-append, length_bytes)) in
    let same : a ++ (d ++ (m ++ n)) ++ (es ++ []) ≡ all = simp (append_assoc, append-nil) in
    let first : number_at 4 all 0 ≡ head_number rs.architecture rs.native_only =
    number_front 4 (head_number rs.architecture rs.native_only) (d ++ (m ++ (n ++ es))) (head_byte rs.architecture rs.native_only) in
    let second : number_at 4 all 4 ≡ rs.mismatch =
    number_here 4 a (d ++ (m ++ (n ++ es))) 4 (length_bytes 4 _) ∙ number_front 4 rs.mismatch (m ++ (n ++ es)) (action_small rs.mismatch g.mismatch) in
    let third : number_at 4 all 8 ≡ rs.on_match =
    let z = number_here 4 (a ++ d) (m ++ (n ++ es)) 8 (simp (length-append, length_bytes)) ∙ number_front 4 rs.on_match (n ++ es) (action_small rs.on_match g.on_match) in
    rw append_assoc at z in
    let fourth : number_at 4 all 12 ≡ length rs.entries =
    let z = number_here 4 (a ++ (d ++ m)) (n ++ es) 12 (simp (length-append, length_bytes)) ∙ number_front 4 (length rs.entries) es count in
    let alike : a ++ (d ++ m) ++ (n ++ es) ≡ all = simp append_assoc in
    rw alike at z in
    rw (
      le-leb (length all) (2 ^ 20) (omega arith),
      le-leb 16 (length all) (omega arith),
      second,
      third,
      g.mismatch,
      g.on_match,
      first,
      architecture_back rs.architecture rs.native_only,
      native_back rs.architecture rs.native_only,
      fourth,
      rw same at back,
      eq-eqb (16 + length es) (length all) (sym long),
    )

-- ---- read, then written: what was read spells the bytes that it was read from

record Spells {A : Type 0} (enc : A → List ℕ) (P : A → Type 0) (bs : List ℕ) (at : ℕ) (r : Read A) : Type 0 where
  here : drop at bs ≡ enc r.value ++ drop r.past bs
  good : P r.value

times_forth : {A : Type 0} (enc : A → List ℕ) (P : A → Type 0) (bs : List ℕ) (f : ℕ → Option (Read A))
    → ((at : ℕ) (r : Read A) → f at ≡ some r → Spells enc P bs at r)
    → (n at : ℕ) (r : Read (List A)) → times f n at ≡ some r → Spells (joined enc) (Each P) bs at r × (length r.value ≡ n)
unfolding times
times_forth enc P bs f one zero at r h = rw (← some_same h) (record { here = refl; good = tt }, refl)
times_forth enc P bs f one (suc n) at r h =
    let w = then_some (f at) _ h in
    let v = then_some (times f n w.0.past) _ w.2 in
    let first = one at w.0 w.1 in
    let more = times_forth enc P bs f one n w.0.past v.0 v.1 in
    rw (← some_same v.2) (
      record { here = first.here ∙ rw append_assoc (ap (λ (l : List ℕ). enc w.0.value ++ l) more.0.here); good = (first.good, more.0.good) },
      ap suc more.1,
    )

five_zeros : bytes_of 5 0 ≡ 0 ∷ 0 ∷ 0 ∷ 0 ∷ 0 ∷ []
unfolding bytes_of
five_zeros = refl

module _ (bs : List ℕ) (bytes : AreBytes bs) where
  condition_spelled : (at : ℕ) (w : Width) (o : Operator) → at + 24 ≤ length bs → number_at 5 bs (at + 3) ≡ 0
      → width_number w ≡ get_or bs (at + 1) 0 → operator_number o ≡ get_or bs (at + 2) 0
      → drop at bs ≡ encode_condition (compared o w (get_or bs at 0) (number_at 8 bs (at + 8)) (number_at 8 bs (at + 16))) ++ drop (at + 24) bs
  unfolding encode_condition
  condition_spelled at w o room zeros width operator =
      let d3 = number_drop 5 bs (at + 3) (at + 8) bytes (omega arith) (omega arith) in
      rw (
        byte_drop bs at (at + 1) (omega arith) (omega arith),
        byte_drop bs (at + 1) (at + 2) (omega arith) (omega arith),
        byte_drop bs (at + 2) (at + 3) (omega arith) (omega arith),
        rw zeros at d3,
        number_drop 8 bs (at + 8) (at + 16) bytes (omega arith) (omega arith),
        number_drop 8 bs (at + 16) (at + 24) bytes (omega arith) (omega arith),
        width,
        operator,
      ) (simp (append_assoc, five_zeros))

  condition_forth : (at : ℕ) (r : Read Condition) → condition_at bs at ≡ some r → Spells encode_condition ConditionInRange bs at r
  unfolding condition_at
  condition_forth at r h =
      let a = check_some (leb (at + 24) (length bs) && eqb (number_at 5 bs (at + 3)) 0) _ h in
      let tests = both_true (leb (at + 24) (length bs)) (eqb (number_at 5 bs (at + 3)) 0) a.0 in
      let w = then_some (width_of (get_or bs (at + 1) 0)) _ a.1 in
      let o = then_some (operator_of (get_or bs (at + 2) 0)) _ w.2 in
      let m = check_some (mask_taken o.0 (number_at 8 bs (at + 16))) _ o.2 in
      rw (← some_same m.1)
      (record {
        here =
            condition_spelled at w.0 o.0 (leb-true (at + 24) (length bs) tests.0) (eqb-true (number_at 5 bs (at + 3)) 0 tests.1)
            (width_forth (get_or bs (at + 1) 0) w.0 w.1) (operator_forth (get_or bs (at + 2) 0) o.0 o.1);
        good = record {
          index = bytes at;
          value = number_at_small 8 bs (at + 8) bytes;
          mask = mask_forth o.0 (number_at 8 bs (at + 16)) (number_at_small 8 bs (at + 16) bytes) m.0;
        };
      })

  rule_forth : (at : ℕ) (r : Read Rule) → rule_at bs at ≡ some r → Spells encode_rule (Each ConditionInRange) bs at r
  unfolding rule_at encode_rule
  rule_forth at r h =
      let a = check_some (leb (at + 4) (length bs)) _ h in
      let room = leb-true (at + 4) (length bs) a.0 in
      let qs = times_forth encode_condition ConditionInRange bs (condition_at bs) condition_forth (number_at 4 bs at) (at + 4) r a.1 in
      record {
        here = rw (number_drop 4 bs at (at + 4) bytes refl room, qs.0.here, ← qs.1) (simp append_assoc);
        good = qs.0.good;
      }

  entry_spelled : (at past : ℕ) (rules : List Rule) → at + 8 ≤ length bs → length rules ≡ number_at 4 bs (at + 4)
      → drop (at + 8) bs ≡ joined encode_rule rules ++ drop past bs
      → drop at bs ≡ encode_entry (record { number = number_at 4 bs at; rules = rules }) ++ drop past bs
  unfolding encode_entry
  entry_spelled at past rules room count here =
      rw (number_drop 4 bs at (at + 4) bytes refl (omega arith), number_drop 4 bs (at + 4) (at + 8) bytes (omega arith) room, here, count)
      (simp append_assoc)

  entry_forth : (at : ℕ) (r : Read Entry) → entry_at bs at ≡ some r → Spells encode_entry EntryInRange bs at r
  unfolding entry_at
  entry_forth at r h =
      let a = check_some (leb (at + 8) (length bs)) _ h in
      let w = then_some (times (rule_at bs) (number_at 4 bs (at + 4)) (at + 8)) _ a.1 in
      let rules = times_forth encode_rule (Each ConditionInRange) bs (rule_at bs) rule_forth (number_at 4 bs (at + 4)) (at + 8) w.0 w.1 in
      rw (← some_same w.2)
      (record {
        here = entry_spelled at w.0.past w.0.value (leb-true (at + 8) (length bs) a.0) rules.1 rules.0.here;
        good = record { number = number_at_small 4 bs at bytes; rules = rules.0.good };
      })

  head_spelled : (a : Architecture) (native : Bool) (es : List Entry) → 16 ≤ length bs → head_number a native ≡ number_at 4 bs 0 → length es ≡ number_at 4 bs 12
      → drop 16 bs ≡ joined encode_entry es
      → encode (record { architecture = a; native_only = native; mismatch = number_at 4 bs 4; on_match = number_at 4 bs 8; entries = es }) ≡ bs
  unfolding encode
  head_spelled a native es room number count entries =
      let d0 = number_drop 4 bs 0 4 bytes refl (omega arith) in
      let d4 = number_drop 4 bs 4 8 bytes refl (omega arith) in
      let d8 = number_drop 4 bs 8 12 bytes refl (omega arith) in
      let d12 = number_drop 4 bs 12 16 bytes refl room in
      sym (d0 ∙ rw (number, count, d4, d8, d12, entries))

  pub read_written : (rs : RuleSet) → read bs ≡ some rs → InRange rs × (encode rs ≡ bs)
  read_written rs h =
      let r = seen bs rs h in
      let entries = times_forth encode_entry EntryInRange bs (entry_at bs) entry_forth (number_at 4 bs 12) 16 _ r.entries in
      let whole = head_spelled rs.architecture rs.native_only rs.entries r.long (rw r.native_only (head_forth (number_at 4 bs 0) rs.architecture r.architecture))
      entries.1 (entries.0.here ∙ rw (drop-length) (append-nil (joined encode_entry rs.entries))) in
      let same : encode rs ≡ bs = rw (← r.mismatch, ← r.on_match) at whole in (
        record {
          mismatch = rw r.mismatch r.mismatch_known;
          on_match = rw r.on_match r.on_match_known;
          entries = entries.0.good;
          size = rw same r.short;
        },
        same,
      )

-- bytes are of the format exactly when they are what is written of a rule set in range
pub formatted : RoundTrip
formatted bs bytes rs = (read_written bs bytes rs, λ w. rw w.1 at (written_read rs w.0))

-- no two byte strings are one rule set
pub one_form : OneForm
one_form a b bytes-a bytes-b rs p q = sym (read_written a bytes-a rs p).1 ∙ (read_written b bytes-b rs q).1
