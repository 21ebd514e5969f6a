-- Each answer is the rule's under the tests that led to it; past the first the copy is fit.
use mathlib.Core.Path.{sym}
use Rattle.std.proofs.lemmas.Result.{err_from_is_err_and}
use Rattle.table.proofs.Cases.{fits_ok, fits_fit, tried_unfit, tried_unlawful, tried_made}
use Rattle.table.proofs.tried.Goals as goal

pub returns-in_err-fit : goal.returns-in_err-fit
returns-in_err-fit c =
    let p = err_from_is_err_and c.from_residual.result c.from_residual.ensures.1 in
    rw (p.1, p.2) (sym (tried_unfit _ _ _ _ _ c.in_err-fit.ensures))

pub returns-in_err-of : goal.returns-in_err-of
returns-in_err-of c =
    let p = err_from_is_err_and c.from_residual-in_err-of.result c.from_residual-in_err-of.ensures.1 in
    rw (p.1, p.2) (sym (tried_unlawful _ _ _ _ _ c.in_ok-fit.ensures c.in_err-of.ensures))

pub effect-requires : goal.effect-requires
effect-requires c = fits_fit _ (fits_ok _ c.in_ok-fit.ensures)

pub returns : goal.returns
returns c = rw c.effect.ensures (sym (tried_made _ _ _ _ _ c.in_ok-fit.ensures c.in_ok-of.ensures))
