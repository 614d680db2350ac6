-- An outcome put into a buffer, as a turn of the walk over many calls does it.
use Rattle.std.specs.Prelude.{◌≡◌, List, ◌++◌, ℕ, ◌*◌}
use Rattle.definitions.specs.Word.{bytes_of}
use Rattle.definitions.specs.declared.Outcome.{Outcome}
use Rattle.definitions.specs.Outcome.{outcome_in, outcome_of}
use Rattle.bpf.specs.Place.{place}

-- action and steps
abbrev pub outcome_bytes : Outcome → List ℕ
outcome_bytes o = bytes_of 4 o.action ++ bytes_of 4 o.steps

-- the call's outcome stands at the place with that number, and the rest is as it was
pub record Put (filter call : List ℕ) (i : ℕ) (before after : List ℕ) : Type 0 where
  pub same : after ≡ place before (8 * i) (outcome_bytes (outcome_of filter call))
  pub told : outcome_in after i ≡ outcome_of filter call
