-- What compiling promises: the whole contracts of `callfilter_compile` and `callfilter_compile_search`, said of the bytes that went in
-- and came out.
use Rattle.std.specs.Prelude.{ℕ, ◌+◌, ◌*◌, ◌^◌, ◌≤◌, max, ◌≡◌, true, cond, List, [], ◌∷◌, eqb, length, take, drop}
use Rattle.std.specs.Int.Bits.{bit_and}
use Rattle.definitions.specs.declared.Answer.{Answer}
use Rattle.definitions.specs.Machine.{filter_bytes, filter_of, Call, returns, start, runs, visits, steps, Climbs}
use Rattle.definitions.specs.Kernel.{accepts_bytes}
use Rattle.definitions.specs.RuleSet.{Rule, RuleSet, second_table, guarded, meaning, span_count, rules_of}
use Rattle.definitions.specs.Emitted.{emitted, entry_body}
use Rattle.definitions.specs.Format.{encode, InRange}
use Rattle.definitions.specs.Answer.{emitted_size, search_size, answer_of, search_answer_of}
use Rattle.definitions.specs.SearchForm.{search_form}

-- bytes that are the byte form of a rule set
pub record FormOf (rs : RuleSet) (set : List ℕ) : Type 0 where
  pub ranged : InRange rs
  pub spelled : encode rs ≡ set

-- how many bytes an answer says were written: the filter's, and none where it was refused
abbrev pub written : Answer → ℕ
written r = cond (eqb r.code 0) (8 * r.count) 0

-- the filter in a buffer
abbrev pub filter_in : Answer → List ℕ → List ℕ
filter_in r out = take (written r) out

-- what stands in a buffer that held `before` and now holds `after`, once a set was compiled into it and `r` was answered
pub record Behaves (set before after : List ℕ) (r : Answer) : Type 0 where
  -- what stands behind the filter is as it was; where it was refused, that is all
  pub kept : drop (written r) after ≡ drop (written r) before
  -- the bytes, run on any call, return the action that the rule set means
  pub right : r.code ≡ 0 → (rs : RuleSet) → FormOf rs set → (c : Call) → runs (filter_of (filter_in r after)) c ≡ returns (meaning rs c)
  -- the kernel's checks pass on the bytes
  pub taken : r.code ≡ 0 → accepts_bytes (filter_in r after) ≡ true
  -- a run of the bytes goes from instruction to later instruction, so that it executes none twice and at most as many as there are
  pub once : r.code ≡ 0 → (c : Call)
      → Climbs 0 r.count (visits 0 0 (filter_of (filter_in r after)) start c) × (steps (filter_of (filter_in r after)) c ≤ r.count)

-- what compiling promises
pub record Compiled (set before after : List ℕ) (r : Answer) : Type 0 where
  -- the answer is the smallest number that applies
  pub answer : r ≡ answer_of set (length before)
  -- the filter is the one that is emitted for the rule set, byte for byte
  pub same : r.code ≡ 0 → (rs : RuleSet) → FormOf rs set → filter_in r after ≡ filter_bytes (emitted rs)
  pub behaves : Behaves set before after r

-- the instructions that are run once a number is found: those of its rules by themselves, or a return
unfoldable pub rules_steps : ℕ → ℕ → List Rule → Call → ℕ
rules_steps m d [] c = 1
rules_steps m d (r ∷ rs) c = steps (entry_body m d (r ∷ rs)) c

abbrev pub found_steps : RuleSet → Call → ℕ
found_steps rs c = rules_steps rs.on_match rs.mismatch (rules_of c.number rs.entries) c

-- what a guard adds: its first test, and for a number with the second table's bit its second
abbrev pub guard_steps : RuleSet → Call → ℕ
guard_steps rs c = cond (guarded rs) (cond (eqb (bit_and c.number second_table) 0) 1 2) 0

-- what compiling into a search promises
pub record Searched (set before after : List ℕ) (r : Answer) : Type 0 where
  -- the answer is the smallest number that applies; with 6 an entry is named with which the filter gets too long
  pub answer : r ≡ search_answer_of set (length before)
  -- The filter is the search form of the rule set, byte for byte: nothing of what the buffer held gets into it.
  pub same : r.code ≡ 0 → (rs : RuleSet) → FormOf rs set → filter_in r after ≡ filter_bytes (search_form rs)
  -- it is never longer than the emitted one
  pub shorter : (rs : RuleSet) → search_size rs ≤ emitted_size rs
  -- With at most 2 ^ k spans of listed numbers a run takes at most k + max 6 k instructions until the number's rules begin, or its return,
  -- and beside them what a guard takes; then what the rules take by themselves, or that return.
  pub quick : r.code ≡ 0 → (rs : RuleSet) → FormOf rs set → (c : Call) (k : ℕ) → span_count rs.entries ≤ 2 ^ k
      → steps (filter_of (filter_in r after)) c ≤ k + max 6 k + guard_steps rs c + found_steps rs c
  pub behaves : Behaves set before after r
