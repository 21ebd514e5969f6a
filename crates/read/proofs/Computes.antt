-- What a computed witness opens.
use Rattle.table.proofs.Computes.{rules as table_rules}
use Rattle.read.specs.Machine.{slot_count, free_below, walk, orderly, glanced, judged}
use Rattle.read.specs.Admission.{entry}
use Rattle.read.specs.Handles.{smallest, create_on, handle_by, handled_by}
use Rattle.read.specs.Calls.{handle_rule, create_rule, through_rule, start_rule}

unfoldable pub rules : Type 0
unfolding table_rules slot_count free_below walk orderly entry smallest glanced judged handled_by handle_by create_on handle_rule create_rule through_rule start_rule
rules = Unit {0}
