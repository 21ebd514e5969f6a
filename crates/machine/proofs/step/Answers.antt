-- A state that is admitted has a whole control part.
use Rattle.machine.proofs.Callings.{going_whole}
use Rattle.machine.proofs.step.Goals as goal

pub step_whole-requires : goal.step_whole-requires
step_whole-requires c = search going_whole
