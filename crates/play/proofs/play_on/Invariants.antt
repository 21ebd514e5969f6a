-- Before a record the output holds the entries of those before it, and the rest gives what is missing (`Plays`). Before a step its call is
-- on its way (`Going`).
use Prim.Native.Nat.{◌-◌, ◌<◌}
use mathlib.Core.Path.{◌≡◌}
use lib.ListN.{length}
use Rattle.read.specs.Machine.{slot_total, place}
use Rattle.play.specs.Turns.{meant_at, is_running}
use Rattle.write.specs.Machine.{call_on, call_rule}
use Rattle.write.specs.World.{played}
use Rattle.play.specs.Schedule.{calls_in}
use Rattle.play.specs.Player.{transcript, machine}
use Rattle.play.proofs.Going.{Going, ahead}
use Rattle.play.proofs.Plays.{Plays}
use Rattle.read.proofs.Cases.{state_of}
use Rattle.play.proofs.play_on.Given as goal

abbrev pub invariant-loop-far : goal.invariant-loop-far
invariant-loop-far l =
    Going (call_on (meant_at l.s l.from l.call) (state_of l.initial.c l.initial.slots l.initial.snaps) l.initial.left l.initial.right l.initial.log) (is_running l.call) l.far l.c l.slots l.snaps l.left l.right l.log × (l.k ≡ place l.c.phase) × (l.k < slot_total)

abbrev pub decreases-loop-far : goal.decreases-loop-far
decreases-loop-far l = ahead l.far l.c

abbrev pub invariant-loop-from : goal.invariant-loop-from
invariant-loop-from l =
    let w = machine (state_of l.initial.c l.initial.slots l.initial.snaps) l.initial.left l.initial.right l.initial.log in
    Plays l.s l.initial.out (transcript (calls_in l.s) w) (played call_rule (calls_in l.s) w).world l.out l.from l.to l.c l.slots l.snaps l.left l.right l.log

abbrev pub decreases-loop-from : goal.decreases-loop-from
decreases-loop-from l = length l.s - l.from
