-- Before a turn the words before 3 i are the operations of i records.
use Prim.Native.Nat.{suc, ◌-◌, ◌*◌, ◌≤◌}
use mathlib.Core.Path.{◌≡◌}
use lib.ListN.{length, take}
use Rattle.write.specs.Call.{ops_in}
use Rattle.write.specs.Begins.{batch_room}
use Rattle.play.specs.Schedule.{ops_from}
use Rattle.play.proofs.schedule.gather.Given as goal

abbrev pub invariant-loop-i : goal.invariant-loop-i
invariant-loop-i l =
    (l.i ≤ l.n) × (l.at ≤ length l.s) × (l.n ≤ suc batch_room) × (3 * l.n ≤ length l.initial.ops) × (length l.ops ≡ length l.initial.ops) × (ops_in (take (3 * l.i) l.ops) ≡ ops_from l.s l.at l.i)

abbrev pub decreases-loop-i : goal.decreases-loop-i
decreases-loop-i l = l.n - l.i
