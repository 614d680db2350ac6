use native.Mathlib.Omega.{arith}
use lib.Seq.{get_or-drop}
use Rattle.std.proofs.lemmas.Bool.Decides.{nat_tests}
use Rattle.definitions.specs.JsonReader.{plain_bad}
use Rattle.json_numbers.proofs.Counting.{first_at}
use Rattle.json_parts.proofs.plain_bad.Goals as goal

pub returns-then-not-matches : goal.returns-then-not-matches
unfolding plain_bad
returns-then-not-matches c = rw (first_at c.args.text.now c.args.at, get_or-drop c.args.at c.args.text.now 1 0, get_or-drop c.args.at c.args.text.now 2 0) (grind (arith, nat_tests))

pub returns-then-not-is_second : goal.returns-then-not-is_second
unfolding plain_bad
returns-then-not-is_second c = rw (first_at c.args.text.now c.args.at, get_or-drop c.args.at c.args.text.now 1 0, get_or-drop c.args.at c.args.text.now 2 0) (grind (arith, nat_tests))

pub returns-then-not-matches-2 : goal.returns-then-not-matches-2
unfolding plain_bad
returns-then-not-matches-2 c = rw (first_at c.args.text.now c.args.at, get_or-drop c.args.at c.args.text.now 1 0, get_or-drop c.args.at c.args.text.now 2 0) (grind (arith, nat_tests))

pub returns-else-not-matches-2 : goal.returns-else-not-matches-2
unfolding plain_bad
returns-else-not-matches-2 c = rw (first_at c.args.text.now c.args.at, get_or-drop c.args.at c.args.text.now 1 0, get_or-drop c.args.at c.args.text.now 2 0) (grind (arith, nat_tests))
