-- NAMED: what is proved of every form, of the search. With nothing listed it is short enough, since it is never longer than the emitted one.
use mathlib.Core.List.{[]}
use native.Mathlib.Omega.{arith}
use borrow.Author.Tests.{lt-ltb, ltb-true}
use Rattle.definitions.specs.RuleSet.{RuleSet, with_entries}
use Rattle.definitions.specs.Answer.{too_many, emitted_size, search_size}
use Rattle.theorems.proofs.Named.{short_without, turns_named}
use Rattle.search_form.specs.Statements.{SearchNamed}
use Rattle.search_form.proofs.Shorter.{shorter}

pub search_named : SearchNamed
search_named = turns_named search_size (λ rs.
    let none : RuleSet = with_entries rs [] in
    lt-ltb (search_size none) too_many (omega (arith, shorter none, ltb-true (emitted_size none) too_many (short_without rs))))
