-- What a computed witness opens.
use Rattle.read.proofs.Computes.{rules as read_rules}
use Rattle.write.specs.Steps.{step_by}
use Rattle.write.specs.Begins.{opened, open_on, append_by}
use Rattle.write.specs.Runs.{step_on, run_while, run_on}
use Rattle.write.specs.Machine.{call_on, call_rule}

unfoldable pub rules : Type 0
unfolding read_rules step_by append_by opened open_on step_on run_while run_on call_on call_rule
rules = Unit {0}
