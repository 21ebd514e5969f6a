-- A state that is admitted has a whole control part.
use Rattle.machine.proofs.Callings.{going_whole}
use Rattle.machine.proofs.run.Goals as goal

pub run_whole-requires : goal.run_whole-requires
run_whole-requires c = search going_whole
