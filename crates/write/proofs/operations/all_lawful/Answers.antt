-- The first that is bad decides, and then whether the last is whole.
use Rattle.std.proofs.Common.{rules}
use Rattle.write.proofs.Ops.{lawful_stops, lawful_ends}
use Rattle.write.proofs.operations.all_lawful.Goals as goal

pub returns-then-not-lawful : goal.returns-then-not-lawful
returns-then-not-lawful c = search (rules, lawful_stops)

pub returns : goal.returns
returns c = search (rules, lawful_ends)
