-- `callfilter_compile_search` meets its contract: a refusal writes nothing, and else the search form is written.
use native.Mathlib.Omega.{arith}
use mathlib.Core.Path.{refl}
use Rattle.search_form.proofs.Searched.{refused}
use Rattle.callfilter.proofs.Answering.{search_writable, done_searched}
use Rattle.callfilter.proofs.callfilter_compile_search.Goals as goal

pub returns-then-answer-ne0 : goal.returns-then-answer-ne0
returns-then-answer-ne0 c = refused c.search_verdict-answer.ensures c.if-answer-ne0.true refl

pub put_search-requires : goal.put_search-requires
put_search-requires c =
    let found = c.search_verdict-answer in
    let w = search_writable _ _ found.result found.ensures c.if-answer-ne0.false in
    record { readable = w.0; count_value = (w.1, w.2) }

pub returns : goal.returns
returns c =
    let found = c.search_verdict-answer in
    let shared = c.shared_slice_known-1 in
    done_searched _ _ _ found.result (λ i. omega (arith, shared.given i)) found.ensures c.if-answer-ne0.false c.put_search.ensures
