-- `callfilter_compile` meets its contract: a refusal writes nothing, and else the emitted filter is written.
use native.Mathlib.Omega.{arith}
use mathlib.Core.Path.{refl}
use Rattle.callfilter.proofs.Answering.{refused_compiled, writable, done_compiled}
use Rattle.callfilter.proofs.callfilter_compile.Goals as goal

pub returns-then-r-ne0 : goal.returns-then-r-ne0
returns-then-r-ne0 c = refused_compiled c.verdict-r.ensures c.if-r-ne0.true refl

pub put_filter-requires : goal.put_filter-requires
put_filter-requires c =
    let w = writable _ _ c.verdict-r.result c.verdict-r.ensures c.if-r-ne0.false in
    record { readable = w.0; s_in_bounds = w.1 }

pub returns : goal.returns
returns c =
    done_compiled _ _ _ c.verdict-r.result (λ i. omega (arith, c.type_inv.set i)) c.verdict-r.ensures c.if-r-ne0.false c.put_filter.ensures
