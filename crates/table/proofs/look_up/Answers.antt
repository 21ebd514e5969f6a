-- A walk is what the rule of any words says.
use Rattle.table.specs.Copy.{look_by, look_rule}
use Rattle.table.proofs.look_up.Goals as goal

pub returns : goal.returns
unfolding look_by look_rule
returns c = c.look_up_by.ensures
