-- `read_json` meets its contract: each test that fails gives the answer that is defined, and so does the end.
use mathlib.Core.Path.{refl, ap, sym, ◌∙◌}
use mathlib.Core.List.{List, ◌++◌}
use Prim.Native.Nat.{ℕ}
use native.Mathlib.Omega.{arith}
use lib.ListN.{length, drop}
use Rattle.call_names.proofs.Tables.{tables}
use Rattle.json_scan.proofs.Telling.{told_inside, refused}
use Rattle.json_texts.proofs.Answers as laws
use Rattle.json_texts.proofs.read_json.Goals as goal

pub returns-then-not-architecture_known : goal.returns-then-not-architecture_known
returns-then-not-architecture_known c = laws.refuse c.args.text.now c.args.table.now c.args.architecture (length c.args.scratch.now) c.args.out.now (tables c.args.table.now (λ i. omega (arith, c.type_inv.table i))) c.refused.ensures (λ z. omega arith) (laws.no_architecture c.args.text.now c.args.table.now c.args.architecture (length c.args.scratch.now) c.args.out.now (sym c.architecture_known.ensures ∙ c.if-not-architecture_known.true))

pub returns-then-bad-table : goal.returns-then-bad-table
returns-then-bad-table c = laws.refuse c.args.text.now c.args.table.now c.args.architecture (length c.args.scratch.now) c.args.out.now (tables c.args.table.now (λ i. omega (arith, c.type_inv.table i))) c.refused-then-bad-table.ensures (λ z. omega arith) (laws.bad_table_lem c.args.text.now c.args.table.now c.args.architecture (length c.args.scratch.now) c.args.out.now (laws.known_of (sym c.architecture_known.ensures ∙ c.if-not-architecture_known.false)) c.first_bad-bad.result c.first_bad-bad.ensures.0 c.if-bad-table.true)

pub returns-then-text-gt1048576 : goal.returns-then-text-gt1048576
returns-then-text-gt1048576 c = laws.refuse c.args.text.now c.args.table.now c.args.architecture (length c.args.scratch.now) c.args.out.now (tables c.args.table.now (λ i. omega (arith, c.type_inv.table i))) c.refused-then-text-gt1048576.ensures (λ z. omega arith) (laws.long_text_lem c.args.text.now c.args.table.now c.args.architecture (length c.args.scratch.now) c.args.out.now (laws.known_of (sym c.architecture_known.ensures ∙ c.if-not-architecture_known.false)) (sym c.first_bad-bad.ensures.0 ∙ c.if-bad-table.false) (omega arith))

pub returns-then-scratch-text : goal.returns-then-scratch-text
returns-then-scratch-text c = laws.refuse c.args.text.now c.args.table.now c.args.architecture (length c.args.scratch.now) c.args.out.now (tables c.args.table.now (λ i. omega (arith, c.type_inv.table i))) c.too_short.ensures (λ z. omega arith) (laws.short_scratch_lem c.args.text.now c.args.table.now c.args.architecture (length c.args.scratch.now) c.args.out.now (laws.known_of (sym c.architecture_known.ensures ∙ c.if-not-architecture_known.false)) (sym c.first_bad-bad.ensures.0 ∙ c.if-bad-table.false) (omega arith) (omega arith))

pub read_filters-requires : goal.read_filters-requires
read_filters-requires c = (record { short = omega arith; good = record { good = sym c.first_bad-bad.ensures.0 ∙ c.if-bad-table.false }; room = omega arith }, (laws.known_of (sym c.architecture_known.ensures ∙ c.if-not-architecture_known.false)))

pub overflow_cast-fault : goal.overflow_cast-fault
overflow_cast-fault c = let i = told_inside c.in-Err.ensures.0 in omega arith

pub returns-in-Err : goal.returns-in-Err
returns-in-Err c = laws.refuse c.args.text.now c.args.table.now c.args.architecture (length c.args.scratch.now) c.args.out.now (tables c.args.table.now (λ i. omega (arith, c.type_inv.table i))) (rw c.code.ensures at c.refused-in-Err.ensures) (refused _) (laws.fault_told c.args.text.now c.args.table.now c.args.architecture (length c.args.scratch.now) c.args.out.now (laws.known_of (sym c.architecture_known.ensures ∙ c.if-not-architecture_known.false)) (sym c.first_bad-bad.ensures.0 ∙ c.if-bad-table.false) (omega arith) (omega arith) c.in-Err.ensures.0 (refused _))

pub returns-then-out-sets : goal.returns-then-out-sets
returns-then-out-sets c = laws.refuse c.args.text.now c.args.table.now c.args.architecture (length c.args.scratch.now) c.args.out.now (tables c.args.table.now (λ i. omega (arith, c.type_inv.table i))) c.too_short-then-out-sets.ensures (λ z. omega arith) (laws.no_room c.args.text.now c.args.table.now c.args.architecture (length c.args.scratch.now) c.args.out.now (laws.known_of (sym c.architecture_known.ensures ∙ c.if-not-architecture_known.false)) (sym c.first_bad-bad.ensures.0 ∙ c.if-bad-table.false) (omega arith) (omega arith) c.in-Ok.ensures.0 refl c.in-Ok.ensures.1 (omega arith))

pub returns-else-out-sets : goal.returns-else-out-sets
returns-else-out-sets c = laws.finished c.args.text.now c.args.table.now c.args.architecture (length c.args.scratch.now) c.args.out.now (laws.known_of (sym c.architecture_known.ensures ∙ c.if-not-architecture_known.false)) (sym c.first_bad-bad.ensures.0 ∙ c.if-bad-table.false) (omega arith) (omega arith) c.in-Ok.ensures.0 refl c.in-Ok.ensures.1 (tables c.args.table.now (λ i. omega (arith, c.type_inv.table i))) (omega arith) (ap (λ (l : List ℕ). l ++ drop c.in-Ok.read.value.end c.args.out.now) c.copy_from_slice.ensures.after) refl
