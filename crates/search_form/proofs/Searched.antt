-- SEARCHED: whoever answers by the search form's length, leaves the buffer where it refuses, and else writes the search form at its start,
-- keeps every promise of `Searched`.
use mathlib.Core.Path.{◌≡◌}
use mathlib.Core.Bool.{true}
use mathlib.Core.List.{List, ◌++◌}
use Prim.Native.Nat.{ℕ, ◌*◌, ◌%◌, ◌≤◌}
use native.Mathlib.Omega.{arith}
use lib.ListN.{length, drop}
use borrow.Author.Tests.{eq-eqb}
use Rattle.definitions.specs.declared.Answer.{Answer}
use Rattle.definitions.specs.Word.{AreBytes}
use Rattle.definitions.specs.Machine.{filter_bytes, filter_of}
use Rattle.definitions.specs.Kernel.{accepts_bytes}
use Rattle.definitions.specs.RuleSet.{RuleSet}
use Rattle.definitions.specs.Format.{InRange}
use Rattle.definitions.specs.Answer.{ascending, indices_taken, search_size, search_answer_of}
use Rattle.definitions.specs.Compiled.{Searched, filter_in}
use Rattle.definitions.specs.SearchForm.{search_form}
use Rattle.theorems.proofs.Tests.{true_both}
use Rattle.theorems.proofs.Bytes.{length_filter}
use Rattle.theorems.proofs.RoundTrip.{read_written}
use Rattle.theorems.proofs.Answers.{Compiles, ascending_entries, indices_taken_lem}
use Rattle.theorems.proofs.Compiled as compiled
use Rattle.search_form.proofs.Right.{right}
use Rattle.search_form.proofs.Taken.{taken}
use Rattle.search_form.proofs.Bytes.{search_back}
use Rattle.search_form.proofs.Shorter.{shorter}
use Rattle.search_form.proofs.Quick.{quick}

pub refused : {set before after : List ℕ} {r : Answer} → r ≡ search_answer_of set (length before) → (r.code ≡ 0 → ⊥) → after ≡ before
    → Searched set before after r
refused a h e = record { answer = a; same = λ z. absurd (h z); shorter = shorter; quick = λ z. absurd (h z); behaves = compiled.refused h e }

pub done : (set before after : List ℕ) (r : Answer) (rs : RuleSet) → AreBytes set → r ≡ search_answer_of set (length before)
    → Compiles search_size set (length before) r rs → after ≡ filter_bytes (search_form rs) ++ drop (8 * search_size rs) before
    → Searched set before after r
unfolding accepts_bytes
done set before after r rs are a k p =
    let ranged : InRange rs = (read_written set are rs k.from).0 in
    let up : ascending rs.entries ≡ true = ascending_entries rs k.nothing in
    let indices : indices_taken rs ≡ true = indices_taken_lem rs k.nothing in
    let short : length (search_form rs) ≤ 4096 = omega (arith, k.short) in
    let back : filter_of (filter_bytes (search_form rs)) ≡ search_form rs = search_back rs ranged indices short in
    let size = length_filter (search_form rs) in
    let is : filter_in r after ≡ filter_bytes (search_form rs) = compiled.filter_is_lem set before after r rs (search_form rs) k.from k.said p in
    record {
      answer = a;
      same = λ z other f. rw (compiled.one_set set rs other k.from f) is;
      shorter = shorter;
      quick = λ z other f c n most.
          rw (compiled.one_set set rs other k.from f, is, back)
          (quick rs up indices c n (rw (compiled.one_set set rs other k.from f) at most));
      behaves = compiled.behaves set before after r rs (search_form rs) k.from k.said p (λ c. rw back (right rs up indices c))
          (true_both (eq-eqb (length (filter_bytes (search_form rs)) % 8) 0 (omega arith)) (rw back (taken rs ranged indices short)));
    }
