-- `compare` meets its contract: both distances fit their 8 bits, since both places are near.
use Prim.Native.Nat.{◌≤◌}
use native.Mathlib.Omega.{arith}
use Rattle.search_writer.proofs.Planting.{inside_on, compare_makes}
use Rattle.search_writer.proofs.compare.Goals as goal

pub returns : goal.returns
returns c =
    let k = c.args.k in
    let given = c.requires.0 in
    let spot = c.near_place-spot.ensures in
    let front = c.put_front-front.ensures.0 in
    let less : k.count ≤ c.put_front-front.result.count = omega (arith, spot.less, front.less) in (
      record {
        hit = inside_on k.hit given.hit less;
        miss = inside_on k.miss given.miss less;
        at = front.inside;
        near = front.near;
        less = less;
        most = omega (arith, spot.most, front.most);
      },
      compare_makes c.args.comparison c.code.result c.args.n c.args.hit c.code.ensures spot front,
    )
