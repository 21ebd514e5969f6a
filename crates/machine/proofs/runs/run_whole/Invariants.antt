-- Before each turn of the steps the run goes on from here to what it is to give; before each turn of the slot scan it stands in the scan,
-- one step being made for each slot that was passed.
use Rattle.write.specs.Runs.{run_on}
use Rattle.write.proofs.Count.{left as left_of}
use Rattle.write.proofs.Turns.{Running, Scanned}
use Rattle.read.proofs.Cases.{state_of}
use Rattle.machine.proofs.runs.run_whole.Given as goal

abbrev pub invariant-loop-i : goal.invariant-loop-i
invariant-loop-i l = Scanned l.initial.c l.initial.n l.at l.initial.answer l.c l.n l.i l.answer l.slots l.snaps l.left l.right l.log

abbrev pub invariant-steps : goal.invariant-steps
invariant-steps l =
    Running (run_on (state_of l.initial.c l.initial.slots l.initial.snaps) l.initial.left l.initial.right l.initial.log) (left_of l.initial.c) l.n l.answer l.c l.slots l.snaps l.left l.right l.log l.initial.left l.initial.right l.initial.log

abbrev pub decreases-steps : goal.decreases-steps
decreases-steps l = left_of l.c
