-- FIXED: two compilations of one set into one form write the same bytes, because both write those of the form.
use mathlib.Core.Path.{sym, ◌∙◌}
use Rattle.theorems.proofs.Compiled.{one_set}
use Rattle.behaviour.specs.Statements.{Fixed}
use Rattle.behaviour.proofs.Outputs.{known}

pub fixed : Fixed
fixed o set before after other_before other_after r s bytes p q z w =
    let k = known set before after r o bytes p z in
    let l = known set other_before other_after s o bytes q w in
    k.same ∙ rw (one_set set l.rules k.rules l.from k.form) (sym l.same)
