-- `number_of` meets its contract: a name that is too long or has a zero is not there, and else the slots have it where the search finds it.
use Rattle.std.proofs.Common.{◌∙◌, refl, ap, sym, arith, length-take}
use mathlib.Core.Option.{some}
use Rattle.call_names.proofs.Search as laws
use Rattle.call_names.proofs.number_of.Goals as goal
use Rattle.call_names.proofs.number_of.Goals.{then-count-gt28-via-then-count-gt28, then-count-gt28-via-else-count-gt28+then-contains}

pub returns-then-count-gt28 : goal.returns-then-count-gt28
returns-then-count-gt28 c = laws.answers_none _ _ _ _ refl (λ k kept. elim c.then-count-gt28.branch [
  | then-count-gt28-via-then-count-gt28 w ↦ laws.kept_long _ _ _ (omega arith) k kept
  | then-count-gt28-via-else-count-gt28+then-contains w ↦ laws.kept_zero _ _ _ (omega arith) k kept (sym w.contains.ensures.value ∙ w.if-contains.true) (omega arith) c.args.table.now
])

pub slice_bounds-name-end : goal.slice_bounds-name-end
slice_bounds-name-end c = omega (arith, c.requires.1, length-take 28 c.args.key.now)

pub loop-low-init : goal.loop-low-init
loop-low-init c = laws.search_start _ _ _ _ c.as_chunks.ensures.front_len

pub returns-in-Equal : goal.returns-in-Equal
returns-in-Equal c = laws.answers_some _ _ _ _ _ refl (λ k kept.
    laws.search_found _ _ _ _ _ _ c.requires.0 c.loop-low.invariant (omega arith) (omega arith) (omega arith)
    (λ k kept. laws.kept_clean _ _ _ (omega arith) k kept (sym c.contains.ensures.value ∙ c.if-contains.false) (omega arith)) _ c.as_chunks.ensures.front (sym c.in-Equal.ensures) k kept
    ∙ ap some (sym c.u32_at.ensures))

pub loop-low-preserved-in-Less : goal.loop-low-preserved-in-Less
loop-low-preserved-in-Less c = laws.search_low _ _ _ _ _ _ c.requires.0 c.loop-low.invariant (omega arith) (omega arith) (omega arith)
    (λ k kept. laws.kept_clean _ _ _ (omega arith) k kept (sym c.contains.ensures.value ∙ c.if-contains.false) (omega arith)) _ c.as_chunks.ensures.front (sym c.in-Less.ensures) _ (omega arith)

pub loop-low-preserved : goal.loop-low-preserved
loop-low-preserved c = laws.search_high _ _ _ _ _ _ c.requires.0 c.loop-low.invariant (omega arith) (omega arith) (omega arith)
    (λ k kept. laws.kept_clean _ _ _ (omega arith) k kept (sym c.contains.ensures.value ∙ c.if-contains.false) (omega arith)) _ c.as_chunks.ensures.front (sym c.in-Greater.ensures)

pub returns : goal.returns
returns c = laws.answers_none _ _ _ _ refl (laws.search_end _ _ _ _ _ c.loop-low.invariant (omega arith))
