-- `is_named` meets its contract: names of different lengths differ, and those of the same length are compared.
use Rattle.std.proofs.Common.{arith}
use Rattle.std.proofs.lemmas.Bool.Decides.{nat_tests}
use Rattle.named_sets.proofs.Naming as naming
use Rattle.named_sets.proofs.is_named.Goals as goal

pub returns-else-count-name : goal.returns-else-count-name
returns-else-count-name c =
    let differs = naming.count_differs c.args.sets.now c.args.name.now c.args.at c.args.count c.requires (λ e. omega arith) in
    grind (arith, nat_tests)
