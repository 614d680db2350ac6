use mathlib.Core.Path.{◌∙◌}
use native.Mathlib.Omega.{arith}
use Rattle.std.proofs.Common.{rules, tests}
use Rattle.std.proofs.lemmas.Iterator.{YieldsList-from_slice}
use Rattle.std.proofs.lemmas.Iterator.Consumers.{count_from_yields_List}
use Rattle.std.proofs.lemmas.Iterator.Search.{YieldsList-from_take_while}
use Rattle.std.proofs.lemmas.List.Folds.{length-prefix_len}
use Rattle.definitions.specs.Json.{is_digit}
use Rattle.json_numbers.proofs.Counting as laws
use Rattle.json_numbers.proofs.digits.Goals as goal

pub returns : goal.returns
returns c =
    let text = c.args.text.now in
    let e =
    count_from_yields_List c.take_while.result _ c.count.ensures.ran
    (YieldsList-from_take_while _ is_digit (YieldsList-from_slice text cc) c.take_while.ensures.closure c.take_while.ensures.done (λ x b q k. search (rules, tests)))
    ∙ length-prefix_len is_digit text ∙ laws.digits_prefix text in
    (e, omega (arith, e, laws.digits_inside text))
