-- On the bytes of a rule set the readers give its parts back, in order: the theorems of crates/theorems/specs/Written.antt.
use mathlib.Core.Path.{◌≡◌, refl, ap, sym, ◌∙◌}
use mathlib.Core.List.{List, [], ◌++◌, append_assoc}
use mathlib.Core.Option.{some}
use Prim.Native.Nat.{ℕ, ◌+◌, ◌-◌, ◌≤◌}
use native.Mathlib.Nat.{add-zero}
use native.Mathlib.Omega.{arith}
use lib.ListN.{length, drop, get_or, length-append, length-drop}
use lib.Seq.{drop-drop, get_or-drop}
use borrow.Author.Tests.{le-leb, eq-eqb, ne_eqb}
use Rattle.definitions.specs.declared.Condition.{Condition}
use Rattle.definitions.specs.Word.{bytes_of, number_at}
use Rattle.definitions.specs.Format.{head_number, width_number, operator_number, joined, encode_condition, encode_rule, encode_entry, encode}
use Rattle.definitions.specs.Format.{ConditionInRange, condition_at}
use Rattle.definitions.specs.Parts.{condition_of}
use Rattle.definitions.specs.Writers.{head_good}
use Rattle.definitions.specs.Readers.{reaches, head_of, at_entry, at_rule, entry_of, rule_of, condition_from, compared_of}
use Rattle.theorems.specs.Written.{HeadBack, EntryBack, RuleBack, ConditionBack, AllRead}
use Rattle.theorems.proofs.Words.{length_bytes, drop_front, number_here_at, number_front_at}
use Rattle.theorems.proofs.Taken.{action_small}
use Rattle.theorems.proofs.Names.{width_back, operator_back, architecture_back, head_byte, mask_back}
use Rattle.theorems.proofs.Forms.{length_condition, length_rule, length_entry, short_count, zeros_front, value_front, mask_front}
use Rattle.readers.proofs.Readers.{condition_at_lem}

-- ---- what stands at a place

number_shift : (w : ℕ) (s : List ℕ) (at i : ℕ) → number_at w s (at + i) ≡ number_at w (drop at s) i
unfolding number_at
number_shift w s at i = rw (drop-drop i at s)

-- how many bytes are left
pub left_long : (s p : List ℕ) (at : ℕ) → drop at s ≡ p → at ≤ length s → at + length p ≡ length s
left_long s p at e h = let n = sym (length-drop at s) ∙ ap length e in omega arith

-- ---- the head

pub head_back : HeadBack
unfolding head_of reaches head_good encode
head_back rs g =
    let a = bytes_of 4 (head_number rs.architecture rs.native_only) in
    let d = bytes_of 4 rs.mismatch in
    let m = bytes_of 4 rs.on_match in
    let n = bytes_of 4 (length rs.entries) in
    let es = joined encode_entry rs.entries in
    let s : List ℕ = a ++ (d ++ (m ++ (n ++ es))) in
    let long : length s ≡ 16 + length es = simp (length-append, length_bytes) (omega arith) in
    let size = g.size in
    let few_entries = short_count encode_entry (λ e. omega (arith, length_entry e)) rs.entries in
    let first : number_at 4 s 0 ≡ head_number rs.architecture rs.native_only = number_here_at 4 _ s (d ++ (m ++ (n ++ es))) 0 refl (head_byte rs.architecture rs.native_only) in
    let second : number_at 4 s 4 ≡ rs.mismatch = number_front_at 4 rs.mismatch s a (m ++ (n ++ es)) 0 4 refl (length_bytes 4 _) (action_small rs.mismatch g.mismatch) in
    let third : number_at 4 s 8 ≡ rs.on_match =
    number_front_at 4 rs.on_match s (a ++ d) (n ++ es) 0 8 (simp append_assoc) (simp (length-append, length_bytes)) (action_small rs.on_match g.on_match) in
    let fourth : number_at 4 s 12 ≡ length rs.entries =
    number_front_at 4 (length rs.entries) s (a ++ (d ++ m)) es 0 12 (simp append_assoc) (simp (length-append, length_bytes)) (omega arith) in
    let rest : drop 16 s ≡ es = drop_front s (a ++ (d ++ (m ++ n))) es 0 16 (simp append_assoc) (simp (length-append, length_bytes)) in
    let same : head_of s ≡ record {
      next = record { code = 0; at = 16; entries = length rs.entries; rules = 0; conditions = 0 };
      architecture = head_number rs.architecture rs.native_only;
      mismatch = rs.mismatch;
      on_match = rs.on_match;
    } =
    rw (le-leb (length s) 1048576 (omega arith), le-leb (0 + 16) (length s) (omega arith), first, second, third, fourth, architecture_back rs.architecture rs.native_only, g.mismatch, g.on_match) in
    rw same
    (record {
      code = refl;
      architecture = refl;
      mismatch = refl;
      on_match = refl;
      left = record {
        bytes = rest;
        inside = omega arith;
        size = omega arith;
        conditions = refl;
        rules = refl;
        entries = refl;
        ranged_conditions = tt;
        ranged_rules = tt;
        ranged_entries = g.entries;
      };
    })

-- ---- an entry

pub entry_back : EntryBack
unfolding entry_of at_entry reaches encode_entry
entry_back s c e es l =
    let number = bytes_of 4 e.number in
    let count = bytes_of 4 (length e.rules) in
    let rules = joined encode_rule e.rules in
    let more = joined encode_entry es in
    let whole : drop c.at s ≡ number ++ (count ++ (rules ++ more)) = l.bytes ∙ simp append_assoc in
    let long = simp (length-append, length_bytes) at (left_long s (number ++ (count ++ (rules ++ more))) c.at whole l.inside) in
    let few_rules = short_count encode_rule (λ r. omega (arith, length_rule r)) e.rules in
    let ranged = l.ranged_entries.0 in
    let first : number_at 4 s c.at ≡ e.number = number_here_at 4 e.number s _ c.at whole ranged.number in
    let second : number_at 4 s (c.at + 4) ≡ length e.rules =
    number_front_at 4 (length e.rules) s number (rules ++ more) c.at 4 whole (length_bytes 4 _) (omega (arith, l.size)) in
    let rest : drop (c.at + 8) s ≡ rules ++ more =
    drop_front s (number ++ count) (rules ++ more) c.at 8 (whole ∙ simp append_assoc) (simp (length-append, length_bytes)) in
    let fewer : c.entries - 1 ≡ length es = omega (arith, l.entries) in
    let same : entry_of s c ≡ record {
      next = record { code = 0; at = c.at + 8; entries = length es; rules = length e.rules; conditions = 0 };
      number = e.number;
    } =
    rw (
      ne_eqb c.entries 0 (λ z. omega (arith, l.entries)),
      eq-eqb c.rules 0 l.rules,
      eq-eqb c.conditions 0 l.conditions,
      le-leb (length s) 1048576 l.size,
      le-leb (c.at + 8) (length s) (omega arith),
      first,
      second,
      fewer,
    ) in
    rw same
    (record {
      code = refl;
      number = refl;
      left = record {
        bytes = rest;
        inside = omega arith;
        size = l.size;
        conditions = refl;
        rules = refl;
        entries = refl;
        ranged_conditions = tt;
        ranged_rules = ranged.rules;
        ranged_entries = l.ranged_entries.1;
      };
    })

-- ---- a rule

pub rule_back : RuleBack
unfolding rule_of at_rule reaches encode_rule
rule_back s c r rs es l =
    let count = bytes_of 4 (length r) in
    let qs = joined encode_condition r in
    let more : List ℕ = joined encode_rule rs ++ joined encode_entry es in
    let whole : drop c.at s ≡ count ++ (qs ++ more) = l.bytes ∙ simp append_assoc in
    let long = simp (length-append, length_bytes) at (left_long s (count ++ (qs ++ more)) c.at whole l.inside) in
    let few_conditions = short_count encode_condition (λ q. omega (arith, length_condition q)) r in
    let first : number_at 4 s c.at ≡ length r = number_here_at 4 (length r) s (qs ++ more) c.at whole (omega (arith, l.size)) in
    let rest : drop (c.at + 4) s ≡ qs ++ more = drop_front s count (qs ++ more) c.at 4 whole (length_bytes 4 _) in
    let fewer : c.rules - 1 ≡ length rs = omega (arith, l.rules) in
    let same : rule_of s c ≡ record { code = 0; at = c.at + 4; entries = c.entries; rules = length rs; conditions = length r } =
    rw (
      ne_eqb c.rules 0 (λ z. omega (arith, l.rules)),
      eq-eqb c.conditions 0 l.conditions,
      le-leb (length s) 1048576 l.size,
      le-leb (c.at + 4) (length s) (omega arith),
      first,
      fewer,
    ) in
    rw same
    (record {
      code = refl;
      left = record {
        bytes = rest;
        inside = omega arith;
        size = l.size;
        conditions = refl;
        rules = refl;
        entries = l.entries;
        ranged_conditions = l.ranged_rules.0;
        ranged_rules = l.ranged_rules.1;
        ranged_entries = l.ranged_entries;
      };
    })

-- ---- a condition

numbers_back : (q : Condition) → ConditionInRange q
    → condition_of q.index (width_number q.width) (operator_number q.operator) q.value q.mask ≡ some q
unfolding condition_of
numbers_back q g = rw (width_back, operator_back, (mask_back q.operator q.mask g.mask).0)

module _ (q : Condition) (g : ConditionInRange q) (t : List ℕ) where
  index_front : get_or (encode_condition q ++ t) 0 0 ≡ q.index
  unfolding encode_condition
  index_front = refl

  width_front : get_or (encode_condition q ++ t) 1 0 ≡ width_number q.width
  unfolding encode_condition
  width_front = refl

  operator_front : get_or (encode_condition q ++ t) 2 0 ≡ operator_number q.operator
  unfolding encode_condition
  operator_front = refl

  condition_there_lem : (s : List ℕ) (at : ℕ) → drop at s ≡ encode_condition q ++ t → at + 24 ≤ length s
      → condition_at s at ≡ some (record { value = q; past = at + 24 })
  condition_there_lem s at e room =
      let byte : (i : ℕ) → get_or s (at + i) 0 ≡ get_or (encode_condition q ++ t) i 0 = λ i. sym (get_or-drop at s i 0) ∙ ap (λ (l : List ℕ). get_or l i 0) e in
      let word : (w i : ℕ) → number_at w s (at + i) ≡ number_at w (encode_condition q ++ t) i = λ w i. number_shift w s at i ∙ ap (λ (l : List ℕ). number_at w l i) e in
      let first : get_or s at 0 ≡ q.index = ap (λ (i : ℕ). get_or s i 0) (sym (add-zero at)) ∙ byte 0 ∙ index_front in
      condition_at_lem s at room
      ∙ rw (word 5 3 ∙ zeros_front q g t, first, byte 1 ∙ width_front, byte 2 ∙ operator_front, word 8 8 ∙ value_front q g t, word 8 16 ∙ mask_front q g t, numbers_back q g)

pub condition_back : ConditionBack
unfolding compared_of condition_from
condition_back s c q qs rs es l =
    let more : List ℕ = joined encode_condition qs ++ (joined encode_rule rs ++ joined encode_entry es) in
    let whole : drop c.at s ≡ encode_condition q ++ more = l.bytes ∙ simp append_assoc in
    let long = simp (length-append, length_condition) at (left_long s (encode_condition q ++ more) c.at whole l.inside) in
    let rest : drop (c.at + 24) s ≡ more = drop_front s (encode_condition q) more c.at 24 whole (length_condition q) in
    let fewer : c.conditions - 1 ≡ length qs = omega (arith, l.conditions) in
    let same : compared_of s c ≡ record {
      next = record { code = 0; at = c.at + 24; entries = c.entries; rules = c.rules; conditions = length qs };
      index = q.index;
      width = width_number q.width;
      operator = operator_number q.operator;
      value = q.value;
      mask = q.mask;
    } =
    rw (
      ne_eqb c.conditions 0 (λ z. omega (arith, l.conditions)),
      le-leb (length s) 1048576 l.size,
      condition_there_lem q l.ranged_conditions.0 more s c.at whole (omega arith),
      fewer,
    ) in
    rw same
    (record {
      code = refl;
      index = refl;
      width = refl;
      operator = refl;
      value = refl;
      mask = refl;
      left = record {
        bytes = rest;
        inside = omega arith;
        size = l.size;
        conditions = refl;
        rules = l.rules;
        entries = l.entries;
        ranged_conditions = l.ranged_conditions.1;
        ranged_rules = l.ranged_rules;
        ranged_entries = l.ranged_entries;
      };
    })

pub all_read : AllRead
all_read s c l = let long = left_long s [] c.at l.bytes l.inside in omega arith
