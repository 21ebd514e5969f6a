-- The operations so far are lawful.
use Rattle.std.proofs.Common.{◌≡◌, drop}
use Rattle.write.specs.Begins.{all_lawful}
use Rattle.write.proofs.Ops.{made}
use Rattle.write.proofs.operations.all_lawful.Given as goal

abbrev pub invariant-loop-op : goal.invariant-loop-op
invariant-loop-op l = all_lawful (made (drop l.op-index l.whole)) ≡ all_lawful (made l.whole)
