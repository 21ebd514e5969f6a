-- Where the key is present the part from its pair on comes back closed.
use mathlib.Core.Path.{sym, ◌∙◌}
use Rattle.table.proofs.Cases.{dropped_there, dropped_absent}
use Rattle.table.proofs.Parts.{removed_part}
use Rattle.table.proofs.drop_in.Goals as goal

pub returns-in-Ok : goal.returns-in-Ok
returns-in-Ok c =
    let f = c.in-Ok.ensures in
    rw (c.close_gap.ensures, c.count-n.ensures) (removed_part c.in-Ok.i c.args.w.now c.requires f.used ∙ sym (dropped_there f))

pub returns-in_default : goal.returns-in_default
returns-in_default c = sym (dropped_absent c.in_default.ensures)
