-- `filter_turn` meets its contract: a name, its filter, and what stands behind it.
use mathlib.Core.List.{[]}
use mathlib.Core.Path.{refl, ◌∙◌}
use native.Mathlib.Omega.{arith}
use Rattle.json_scan.proofs.Telling.{told_inside, refused}
use Rattle.json_lines.proofs.Steps.{handed}
use Rattle.json_texts.proofs.Filters as laws
use Rattle.json_texts.proofs.filter_turn.Goals as goal

pub returns-in_err-name : goal.returns-in_err-name
returns-in_err-name c = ((λ fs count w. handed _ _ c.from_residual.ensures.1 (laws.name_fails _ fs (c.in_err-name.ensures.0 _ _ count fs w) (refused _))), c.in_err-name.ensures.3)

pub filter_behind-requires : goal.filter_behind-requires
filter_behind-requires c = (c.in_ok-name.ensures.2, laws.lent_still c.requires.1 c.in_ok-name.ensures.3, c.requires.2, omega (arith, c.requires.3, c.in_ok-name.ensures.1))

pub returns-in_err-set : goal.returns-in_err-set
returns-in_err-set c = ((λ fs count w. handed _ _ c.from_residual-in_err-set.ensures.1 (laws.filter_fails _ fs (c.in_ok-name.ensures.0 _ _ count fs w) refl c.in_err-set.ensures.0 (refused _))), c.in_err-set.ensures.1 ∙ c.in_ok-name.ensures.3)

pub more_there-requires : goal.more_there-requires
more_there-requires c = (told_inside (c.in_ok-set.ensures.0 []), omega arith)

pub returns-in_err-next : goal.returns-in_err-next
returns-in_err-next c = ((λ fs count w. handed _ _ c.from_residual-in_err-next.ensures.1 (laws.more_fails _ fs (c.in_ok-name.ensures.0 _ _ count fs w) refl c.in_ok-set.ensures.0 refl c.in_err-next.ensures (refused _))), c.in_ok-set.ensures.1 ∙ c.in_ok-name.ensures.3)

pub returns : goal.returns
returns c = ((λ fs count w. laws.turn_made _ fs (c.in_ok-name.ensures.0 _ _ count fs w) refl c.in_ok-set.ensures.0 refl w (let n = c.in_ok-name.ensures.1 in let l = c.requires.1.room in omega (arith, c.in_ok-name.ensures.2, c.requires.3)) c.in_ok-next.ensures), c.in_ok-set.ensures.1 ∙ c.in_ok-name.ensures.3)
