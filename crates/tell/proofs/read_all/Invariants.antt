-- What was read is not more than there is room for.
use Rattle.std.proofs.Common.{◌-◌, ◌≤◌}
use Rattle.tell.proofs.read_all.Given as goal

abbrev pub invariant-loop-n : goal.invariant-loop-n
invariant-loop-n g l = l.done ≤ 400001

abbrev pub decreases-loop-n : goal.decreases-loop-n
decreases-loop-n g l = 400001 - l.done
