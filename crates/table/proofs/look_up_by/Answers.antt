-- Each part is what the rule shows of a copy that is fit.
use mathlib.Core.Path.{sym}
use Rattle.table.proofs.Cases.{look_unfit, look_there, look_absent}
use Rattle.table.proofs.look_up_by.Goals as goal

pub returns-in_default : goal.returns-in_default
returns-in_default c = sym (look_unfit _ _ _ c.in_default.ensures)

pub returns-in-Ok-find : goal.returns-in-Ok-find
returns-in-Ok-find c =
    let p = c.in-Ok.ensures in
    rw (c.pair.ensures, p.0) (sym (look_there p.1 (rw p.0 at c.in-Ok-find.ensures)))

pub returns-in-Err : goal.returns-in-Err
returns-in-Err c =
    let p = c.in-Ok.ensures in
    sym (look_absent p.1 (rw p.0 at c.in-Err.ensures))
