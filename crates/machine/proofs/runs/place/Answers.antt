-- A whole control part has its position in range.
use Rattle.write.proofs.Control.{control_whole}
use Rattle.write.proofs.Turns.{place_below}
use Rattle.machine.proofs.runs.place.Goals as goal

pub returns : goal.returns
returns c = (c.place.ensures, place_below (control_whole c.args.c c.requires) c.place.ensures)
