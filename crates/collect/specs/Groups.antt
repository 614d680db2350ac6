-- Entries that follow each other with one number, put together: what collecting makes of entries whose numbers ascend, from the front.
use Rattle.std.specs.Prelude.{cond, List, [], ◌∷◌, eqb}
use Rattle.definitions.specs.RuleSet.{Rule, Entry}

abbrev pub Join : Type 0
Join = List Rule → List Rule → List Rule

abbrev pub both : Join → Entry → Entry → Entry
both join e f = record { number = e.number; rules = join e.rules f.rules }

unfoldable pub grouped : Join → Entry → List Entry → List Entry
grouped join e [] = e ∷ []
grouped join e (f ∷ fs) = cond (eqb e.number f.number) (grouped join (both join e f) fs) (e ∷ grouped join f fs)

abbrev pub groups : Join → List Entry → List Entry
groups join [] = []
groups join (e ∷ es) = grouped join e es
