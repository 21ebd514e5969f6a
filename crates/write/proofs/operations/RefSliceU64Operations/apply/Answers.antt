-- All are whole.
use Rattle.std.proofs.Common.{rules}
use Rattle.write.proofs.Ops.{operated_ends}
use Rattle.write.proofs.operations.RefSliceU64Operations.apply.Goals as goal

pub returns : goal.returns
returns c = search (rules, operated_ends)
