-- What the search has found is what the rule tells.
use mathlib.Core.Path.{sym, ◌∙◌}
use Rattle.table.proofs.Many.{told_there, told_absent, two_set}
use Rattle.table.proofs.Pairs.tell.Goals as goal

pub returns-in-Ok : goal.returns-in-Ok
returns-in-Ok c = two_set 1 _ c.args.out.now c.requires.1 ∙ sym (told_there c.requires.0 c.in-Ok.ensures)

pub returns-in-Err : goal.returns-in-Err
returns-in-Err c = two_set 0 0 c.args.out.now c.requires.1 ∙ sym (told_absent c.requires.0 c.in-Err.ensures)
