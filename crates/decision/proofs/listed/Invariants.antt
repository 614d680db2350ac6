-- The entries that are left say what all say.
use mathlib.Core.Path.{◌≡◌}
use lib.ListN.{length}
use Rattle.definitions.specs.Machine.{call_of}
use Rattle.definitions.specs.RuleSet as defined
use Rattle.decision.proofs.listed.Given as goal

abbrev pub invariant-loop-listed : goal.invariant-loop-listed
invariant-loop-listed l =
    defined.listed (call_of l.call) l.actions.on_match l.actions.mismatch l.entries
    ≡ defined.listed (call_of l.call) l.actions.on_match l.actions.mismatch l.fn.entries

abbrev pub decreases-loop-listed : goal.decreases-loop-listed
decreases-loop-listed l = length l.entries
