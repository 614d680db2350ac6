-- `filter_behind` meets its contract: the colon, the filter, and the lengths put in front of its name.
use mathlib.Core.Path.{refl}
use native.Mathlib.Omega.{arith}
use mathlib.Core.List.{[]}
use Rattle.json_scan.proofs.Telling.{came, told_inside, refused}
use Rattle.json_lines.proofs.Steps.{handed}
use Rattle.json_texts.proofs.Telling.{fault_of, mapped}
use Rattle.json_texts.proofs.Filters as laws
use borrow.Author.Rules.{rules}
use Rattle.json_texts.proofs.filter_behind.Goals as goal

pub returns-in_err-colon : goal.returns-in_err-colon
returns-in_err-colon c = ((λ name. handed _ _ c.from_residual.ensures.1 (laws.colon_stops _ c.in_err-colon.ensures (refused _) name)), refl)

pub filter_there-requires : goal.filter_there-requires
filter_there-requires c = (told_inside c.in_ok-colon.ensures, c.requires.1, c.requires.2, let k = came c.in_ok-colon.ensures refl in omega (arith, k.on, c.requires.3))

pub returns-in_err-set : goal.returns-in_err-set
returns-in_err-set c = ((λ name. handed _ _ c.from_residual-in_err-set.ensures.1 (laws.filter_told _ c.in_ok-colon.ensures refl name (fault_of (c.in_err-set.ensures.0 name) (refused _)))), c.in_err-set.ensures.1)

pub overflow_sub-set : goal.overflow_sub-set
overflow_sub-set c = let f = came (c.in_ok-set.ensures.0 []) refl in omega (arith, f.value.behind.spot)

pub returns : goal.returns
returns c = ((λ name. laws.filter_told _ c.in_ok-colon.ensures refl name (mapped (λ f s. laws.added _ s (let l = c.requires.1.room in omega (arith, c.in_ok-set.ensures.2)) refl c.write_u32.ensures c.write_u32-2.ensures) (c.in_ok-set.ensures.0 name))), search rules)
