use Rattle.std.proofs.lemmas.Result.{err_from_is_err_and}
use Rattle.json_numbers.proofs.Counting as laws
use Rattle.json_numbers.proofs.skip_number.Goals as goal

pub returns-in_err-fraction : goal.returns-in_err-fraction
returns-in_err-fraction c =
    let p = err_from_is_err_and c.from_residual.result c.from_residual.ensures.1 in
    rw (p.1, p.2) (laws.number_no_whole c.args.text.now c.args.from _ c.sign_count.ensures.0 _ c.in_err-fraction.ensures.0, c.in_err-fraction.ensures.1)

pub returns-in_err-exponent : goal.returns-in_err-exponent
returns-in_err-exponent c =
    let p = err_from_is_err_and c.from_residual-in_err-exponent.result c.from_residual-in_err-exponent.ensures.1 in
    let w = laws.went_ok _ _ _ _ c.in_ok-fraction.ensures.0 in
    rw (p.1, p.2) (laws.number_no_fraction c.args.text.now c.args.from _ c.sign_count.ensures.0 _ _ w.place w.is _ c.in_err-exponent.ensures.0, c.in_err-exponent.ensures.1)

pub returns : goal.returns
returns c =
    let w = laws.went_ok _ _ _ _ c.in_ok-fraction.ensures.0 in
    let f = laws.went_ok _ _ _ _ c.in_ok-exponent.ensures.0 in
    (laws.number_ended c.args.text.now c.args.from _ c.sign_count.ensures.0 _ _ w.place w.is _ _ f.place f.is _ c.skip_exponent.ensures.0, c.skip_exponent.ensures.1)
