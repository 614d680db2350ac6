use mathlib.Core.Path.{◌∙◌}
use Rattle.json_scan.proofs.Scanning as laws
use Rattle.json_scan.proofs.character_count.Goals as goal

pub returns-then-text-at-eq92 : goal.returns-then-text-at-eq92
returns-then-text-at-eq92 c = c.escape_count.ensures ∙ laws.character_escape c.args.text.now c.args.at c.if-text-at-eq92.true

pub returns-else-text-at-eq92 : goal.returns-else-text-at-eq92
returns-else-text-at-eq92 c = c.plain_count.ensures ∙ laws.character_plain c.args.text.now c.args.at c.if-text-at-eq92.false
