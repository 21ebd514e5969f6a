-- As many as there are words by three, rounded up.
use Rattle.std.proofs.Common.{arith}
use Rattle.write.proofs.Ops.{ops_length}
use Rattle.write.proofs.operations.RefSliceU64Operations.how_many.Goals as goal

pub returns : goal.returns
returns c = omega (arith, ops_length c.args.self.now, c.div_ceil.ensures)
