use mathlib.Core.Path.{sym, ◌∙◌}
use Rattle.json_parts.proofs.Faults as laws
use Rattle.json_parts.proofs.bad_character.Goals as goal
use Rattle.json_parts.proofs.bad_character.Goals.{then-byte-eq92, else-byte-eq92}

pub returns : goal.returns
returns c =
    rw c.min.ensures (laws.bad_place c.args.text.now c.args.at _ c.requires (elim c.if-byte-eq92.branch [
      | then-byte-eq92 w ↦ laws.bad_escape c.args.text.now c.args.at _ (sym c.byte.ensures ∙ w.if-byte-eq92.true) (w.n-is ∙ w.escape_bad-n.ensures)
      | else-byte-eq92 w ↦ laws.bad_plain c.args.text.now c.args.at _ (λ e. w.if-byte-eq92.false (c.byte.ensures ∙ e)) (w.n-is ∙ w.plain_bad-n.ensures)
    ]))
