-- Behind the glance the log holds as many operations as the control part counts.
use mathlib.Core.Path.{sym, ◌∙◌}
use Rattle.read.proofs.Cases.{glanced_room}
use Rattle.machine.proofs.judge.judge.Goals as goal

pub first_unlawful-requires : goal.first_unlawful-requires
first_unlawful-requires c =
    let a = c.args in
    glanced_room a.st.control a.left.now a.right.now a.log.now (sym c.glance.ensures ∙ c.in_ok-glance.was)
