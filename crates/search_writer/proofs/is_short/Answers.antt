-- `is_short` meets its contract: where there are not so many entries, all of them are asked about, and the code of the rules is no more
-- than the search.
use borrow.Author.Tests.{le-ltb}
use mathlib.Core.Path.{refl, sym}
use native.Mathlib.Omega.{arith}
use Rattle.definitions.specs.Word.{number_at}
use Rattle.definitions.specs.Answer.{too_many, search_size}
use Rattle.search_writer.specs.Forms.{first_here}
use Rattle.search_writer.proofs.Planted.{all_entries, first_inside, first_long, planted_longer, short_first}
use Rattle.search_writer.proofs.is_short.Goals as goal

pub returns-then-u32_at-n : goal.returns-then-u32_at-n
returns-then-u32_at-n c = rw (all_entries c.args.s.now c.args.n (omega (arith, c.u32_at.ensures, c.if-u32_at-n.true)), c.requires.1)

pub bodies_length-total-requires : goal.bodies_length-total-requires
bodies_length-total-requires c =
    let given = c.requires.0 in
    (omega (arith, given.entries, first_inside c.args.s.now c.args.n (number_at 4 c.args.s.now 12) 16 (omega (arith, c.u32_at.ensures, c.if-u32_at-n.false))), given.size)

pub returns-then-total-lt-TOO_MANY : goal.returns-then-total-lt-TOO_MANY
returns-then-total-lt-TOO_MANY c = sym (short_first c.args.s.now c.args.n c.length_with.result (omega (arith, c.u32_at.ensures, c.if-u32_at-n.false)) c.length_with.ensures)

pub returns-else-total-lt-TOO_MANY : goal.returns-else-total-lt-TOO_MANY
returns-else-total-lt-TOO_MANY c =
    let s = c.args.s.now in
    let n = c.args.n in
    rw (
      short_first s n (search_size (first_here s n)) (omega (arith, c.u32_at.ensures, c.if-u32_at-n.false)) refl,
      le-ltb (search_size (first_here s n)) too_many (omega (arith, first_long s n, planted_longer s n, c.bodies_length-total.ensures.0, c.if-total-lt-TOO_MANY.false)),
      le-ltb c.bodies_length-total.result too_many c.if-total-lt-TOO_MANY.false,
    )
