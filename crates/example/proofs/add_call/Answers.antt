-- `add_call` meets its contract: after a refusal there is nothing to show, and else it is the writers' own.
use mathlib.Core.Path.{refl}
use Rattle.definitions.specs.Parts.{with_entry}
use Rattle.example.proofs.Calls.{refused}
use Rattle.example.proofs.add_call.Goals as goal

pub returns-then-writer-ne0 : goal.returns-then-writer-ne0
returns-then-writer-ne0 c = λ rs wrote. refused c.if-writer-ne0.true

pub returns : goal.returns
returns c = λ rs wrote z. c.callfilter_list.ensures.taken z (with_entry c.args.number) refl rs (wrote c.if-writer-ne0.false)
