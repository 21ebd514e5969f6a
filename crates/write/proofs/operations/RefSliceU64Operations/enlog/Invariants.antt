-- What is left makes of the log what all make of it at first.
use Rattle.std.proofs.Common.{◌≡◌, ◌+◌, drop}
use Rattle.write.specs.Begins.{logged_all}
use Rattle.write.proofs.Ops.{made}
use Rattle.write.proofs.operations.RefSliceU64Operations.enlog.Given as goal

abbrev pub invariant-loop-i : goal.invariant-loop-i
invariant-loop-i l = logged_all (l.n + l.i) (made (drop l.i l.whole)) l.log ≡ logged_all l.n (made l.whole) l.initial.log
