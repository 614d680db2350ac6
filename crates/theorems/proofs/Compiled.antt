-- COMPILED: whoever leaves the buffer where it refuses, and else writes good instructions at its start, keeps the promises of `Behaves`;
-- of `Compiled`, if these are the emitted filter.
use mathlib.Core.Path.{◌≡◌, ap, sym, ◌∙◌}
use mathlib.Core.Bool.{true}
use mathlib.Core.List.{List, ◌++◌}
use mathlib.Core.Option.{some}
use Prim.Native.Nat.{ℕ, ◌*◌, ◌/◌}
use native.Mathlib.Omega.{arith}
use lib.ListN.{length, drop}
use lib.Seq.{take_at, drop_at}
use borrow.Author.Tests.{eq-eqb, ne_eqb}
use Rattle.definitions.specs.declared.Instruction.{Instruction}
use Rattle.definitions.specs.declared.Answer.{Answer}
use Rattle.definitions.specs.Word.{AreBytes}
use Rattle.definitions.specs.Machine.{filter_bytes, filter_of, Call, returns, runs}
use Rattle.definitions.specs.Kernel.{accepts_bytes}
use Rattle.definitions.specs.RuleSet.{RuleSet, meaning}
use Rattle.definitions.specs.Emitted.{emitted}
use Rattle.definitions.specs.Format.{read, InRange}
use Rattle.definitions.specs.Answer.{indices_taken, no_fault, answer, emitted_size, answer_of}
use Rattle.definitions.specs.Compiled.{FormOf, written, filter_in, Behaves, Compiled}
use Rattle.theorems.proofs.Tests.{some_same}
use Rattle.theorems.proofs.Bytes.{length_filter, bytes_right, bytes_taken, bytes_once}
use Rattle.theorems.proofs.RoundTrip.{read_written, written_read}
use Rattle.theorems.proofs.Answers.{Compiles, indices_taken_lem}

-- the rule set that bytes are the form of is the one that is read from them
pub one_set : (set : List ℕ) (rs other : RuleSet) → read set ≡ some rs → FormOf other set → other ≡ rs
one_set set rs other e f = some_same (sym (written_read other f.ranged) ∙ rw f.spelled e)

-- a refusal
pub refused : {set before after : List ℕ} {r : Answer} → (r.code ≡ 0 → ⊥) → after ≡ before → Behaves set before after r
refused {r = r} h e = record {
  kept = rw (ne_eqb r.code 0 h) e;
  right = λ z. absurd (h z);
  taken = λ z. absurd (h z);
  once = λ z. absurd (h z);
}

-- some instructions that return what the rule set means, that the kernel takes and that stand for themselves as bytes, written at the
-- buffer's start
module _ (set before after : List ℕ) (r : Answer) (rs : RuleSet) (is : List Instruction) (from : read set ≡ some rs)
    (said : r ≡ answer (length is) no_fault) (p : after ≡ filter_bytes is ++ drop (8 * length is) before) where
  zero_is : r.code ≡ 0
  unfolding answer
  zero_is = ap (λ (x : Answer). x.code) said

  count_is : r.count ≡ length is
  unfolding answer
  count_is = ap (λ (x : Answer). x.count) said

  written_is : written r ≡ 8 * length is
  written_is = rw (eq-eqb r.code 0 zero_is, count_is)

  pub filter_is_lem : filter_in r after ≡ filter_bytes is
  filter_is_lem = rw (written_is, p) (take_at (filter_bytes is) _ (8 * length is) (length_filter is))

  pub behaves : ((c : Call) → runs (filter_of (filter_bytes is)) c ≡ returns (meaning rs c)) → accepts_bytes (filter_bytes is) ≡ true → Behaves set before after r
  behaves right taken = record {
    kept = rw (written_is, p) (drop_at (filter_bytes is) _ (8 * length is) (length_filter is));
    right = λ z other f c. rw (one_set set rs other from f, filter_is_lem) (right c);
    taken = λ z. rw filter_is_lem taken;
    once = λ z c.
        let n : length (filter_bytes is) / 8 ≡ length is = omega (arith, length_filter is) in
        rw (filter_is_lem, count_is) (rw n at (bytes_once (filter_bytes is) c));
  }

pub done : (set before after : List ℕ) (r : Answer) (rs : RuleSet) → AreBytes set → r ≡ answer_of set (length before)
    → Compiles emitted_size set (length before) r rs → after ≡ filter_bytes (emitted rs) ++ drop (8 * length (emitted rs)) before → Compiled set before after r
done set before after r rs bytes a k p =
    let ranged : InRange rs = (read_written set bytes rs k.from).0 in
    let indices : indices_taken rs ≡ true = indices_taken_lem rs k.nothing in
    record {
      answer = a;
      same = λ z other f. rw (one_set set rs other k.from f) (filter_is_lem set before after r rs (emitted rs) k.from k.said p);
      behaves = behaves set before after r rs (emitted rs) k.from k.said p (bytes_right rs ranged indices)
          (bytes_taken rs ranged indices (omega (arith, k.short)));
    }
