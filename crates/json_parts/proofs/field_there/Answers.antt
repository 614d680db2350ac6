use mathlib.Core.Path.{refl}
use native.Mathlib.Omega.{arith}
use Rattle.std.proofs.lemmas.Result.{err_from_is_err_and}
use Rattle.json_scan.proofs.Telling.{refused}
use Rattle.json_parts.proofs.Places as laws
use Rattle.json_parts.proofs.Keys as keys
use Rattle.json_parts.proofs.field_there.Goals as goal

pub returns-in_err-key : goal.returns-in_err-key
returns-in_err-key c =
    let p = err_from_is_err_and c.from_residual.result c.from_residual.ensures.1 in
    rw (p.1, p.2) (keys.no_key_there c.args.text.now c.args.at c.args.object c.in_err-key.ensures (refused _))

pub returns-in-Some : goal.returns-in-Some
returns-in-Some c = keys.known_key c.args.text.now c.args.at c.args.object c.in_ok-key.key.value _ c.in_ok-key.ensures _ c.in-Some.ensures

pub returns-in-None : goal.returns-in-None
returns-in-None c = laws.tells_stop (keys.unknown_key c.args.text.now c.args.at c.args.object c.in_ok-key.key.value _ c.in_ok-key.ensures c.in-None.ensures) refl (omega arith) (laws.here c.args.text.now c.args.at c.requires)
