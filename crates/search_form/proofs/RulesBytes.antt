-- BYTES, of the form that searches rules too: its bytes stand for it.
use mathlib.Core.Path.{◌≡◌}
use mathlib.Core.Bool.{true}
use Prim.Native.Nat.{◌≤◌}
use lib.ListN.{length}
use Rattle.definitions.specs.Machine.{filter_bytes, filter_of}
use Rattle.definitions.specs.RuleSet.{RuleSet}
use Rattle.definitions.specs.Format.{InRange}
use Rattle.definitions.specs.Answer.{indices_taken}
use Rattle.theorems.proofs.Bytes.{filter_back, shaped_fits}
use Rattle.search_form.specs.Rules.{rules_form}
use Rattle.search_form.proofs.RulesTaken.{rules_form_sound}

pub rules_form_bytes : (rs : RuleSet) → InRange rs → indices_taken rs ≡ true → length (rules_form rs) ≤ 4096 → filter_of (filter_bytes (rules_form rs)) ≡ rules_form rs
rules_form_bytes rs r t l = filter_back (rules_form rs) (shaped_fits (rules_form rs) (rules_form_sound rs r t l).shaped)
