-- What was fit holds its pairs.
use mathlib.Core.Path.{refl}
use Rattle.std.proofs.lemmas.Result.{err_from_is_err_and}
use Rattle.table.proofs.Cases.{fits_ok, fits_err, fits_fit}
use Rattle.table.proofs.Found.{fit_holds}
use Rattle.table.proofs.Pairs.of.Goals as goal

pub returns-in_err-fit : goal.returns-in_err-fit
returns-in_err-fit c =
    let p = err_from_is_err_and c.from_residual.result c.from_residual.ensures.1 in
    rw p.1 (fits_err c.args.w.now c.in_err-fit.ensures)

pub invariant_of-result : goal.invariant_of-result
invariant_of-result c =
    let w = c.args.w.now in record { held = fit_holds w (fits_fit w (fits_ok w c.in_ok-fit.ensures)) }

pub returns : goal.returns
returns c = (refl, fits_ok c.args.w.now c.in_ok-fit.ensures)
