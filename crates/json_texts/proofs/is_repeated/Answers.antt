-- `is_repeated` meets its contract: it searches the sets in front for the name behind them.
use mathlib.Core.Path.{◌≡◌, ap, sym, ◌∙◌}
use native.Mathlib.Omega.{arith}
use Prim.Native.Nat.{ℕ, ◌+◌, ◌-◌}
use lib.Dec.{eqb}
use lib.ListN.{take, drop}
use lib.Seq.{length-take-le}
use Rattle.definitions.specs.declared.NamedPlace.{NamedPlace}
use Rattle.definitions.specs.NamedSets.{find_set}
use Rattle.json_texts.proofs.is_repeated.Goals as goal

pub slice_bounds-find_set-end : goal.slice_bounds-find_set-end
slice_bounds-find_set-end c = sym (length-take-le c.args.end c.args.scratch.now (omega (arith, c.requires)))

pub returns : goal.returns
returns c = let n : c.args.end + 8 + c.args.count - (c.args.end + 8) ≡ c.args.count = omega arith in ap (λ (p : NamedPlace). eqb p.code 0) (c.find_set-found.ensures ∙ ap (λ (k : ℕ). find_set (take c.args.end c.args.scratch.now) (take k (drop (c.args.end + 8) c.args.scratch.now))) n)
