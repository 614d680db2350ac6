-- What is left of an entry, and of the set behind it. Needs no belief.
use Rattle.std.specs.Prelude.{List}
use Rattle.definitions.specs.RuleSet.{Rule, Entry}

pub record Rest : Type 0 where
  -- the rules of the entry
  pub rules : List Rule
  -- the entries behind it
  pub entries : List Entry
