-- What is left makes of the copy what all make of it at first.
use Rattle.std.proofs.Common.{◌≡◌, drop}
use Rattle.write.specs.Begins.{operated_all_by}
use Rattle.write.proofs.Ops.{made}
use Rattle.write.proofs.operations.RefSliceU64Operations.apply.Given as goal

abbrev pub invariant-loop-op : goal.invariant-loop-op
invariant-loop-op l = operated_all_by l.how (made (drop l.op-index l.whole)) l.w ≡ operated_all_by l.how (made l.whole) l.initial.w
