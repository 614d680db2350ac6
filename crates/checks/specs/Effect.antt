-- The code's effects as the definitions' own.
use Rattle.definitions.specs.Kernel as kernel
use Rattle.checks.specs.declared.Effect.{Effect}
use Rattle.checks.specs.declared.Effect.TheVariants.{Plain, Reads, Writes, Jumps, Branches, Leaves}

abbrev pub meant : Effect → kernel.Effect
meant Plain = kernel.plain
meant (Reads k) = kernel.reads k
meant (Writes k) = kernel.writes k
meant (Jumps k) = kernel.jumps k
meant (Branches t f) = kernel.branches t f
meant Leaves = kernel.leaves
