-- `write_names` meets its contract: its two numbers are three bytes and five zeros.
use mathlib.Core.Path.{ap, ◌∙◌}
use mathlib.Core.List.{List}
use native.Mathlib.Omega.{arith}
use Prim.Native.Nat.{ℕ}
use Rattle.bpf.specs.Place.{place}
use Rattle.bpf.proofs.Buffer.{put_two}
use Rattle.writers.proofs.Stores.{three_bytes}
use Rattle.writers.proofs.write_names.Goals as goal

pub returns : goal.returns
returns c =
    let a = c.args in
    let out = a.out.now in
    let names = three_bytes a.index a.width a.operator (omega (arith, c.ranges.index)) (omega (arith, c.ranges.width)) (omega (arith, c.ranges.operator)) in
    c.write_u32-2.ensures
    ∙ (rw (c.write_u32.ensures, c.from.ensures, c.from-2.ensures, c.from-3.ensures) (put_two out a.at _ _ (omega (arith, c.requires))) ∙ ap (λ (l : List ℕ). place out a.at l) names)
