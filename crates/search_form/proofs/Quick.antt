-- QUICK: a call's number is found after as many instructions as halving takes, and those of a guard.
use Prim.Native.Nat.{◌+◌, ◌-◌}
use native.Mathlib.Omega.{arith}
use Rattle.definitions.specs.Machine.{start, set_a}
use Rattle.definitions.specs.Compiled.{found_steps}
use Rattle.theorems.proofs.Right.{each_index}
use Rattle.definitions.specs.SearchForm.{planted, search_form}
use Rattle.search_form.specs.Statements.{Quick}
use Rattle.search_form.proofs.Spans.{rising, spans_count}
use Rattle.search_form.proofs.Steps.{head_count}
use Rattle.search_form.proofs.Found.{tree_most}
use Rattle.search_form.proofs.Right.{none_right, planted_right}

pub quick : Quick
unfolding search_form tree_most
quick rs up taken c k l =
    let m = rs.on_match in
    let d = rs.mismatch in
    let es = rs.entries in
    let x = planted_right c m d k es (each_index rs taken) (rising es up) (rw (spans_count m d es) l) in
    omega (
      arith,
      head_count (planted m d es) c (found_steps rs c + (k + 3 + (k - 6))) (omega arith) x.upto rs (λ z. (none_right c m d k es (set_a c.architecture start) z).upto),
    )
