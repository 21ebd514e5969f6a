-- Each turn of the loop is one of the walk over the signs.
use Rattle.std.proofs.Common.{rules}
use Rattle.read.proofs.Verdicts.{walk_stops, walk_passes, walk_ends}
use Rattle.read.proofs.handles.smallest.Goals as goal

pub returns-then-sign : goal.returns-then-sign
returns-then-sign c = search (rules, walk_stops)

pub loop-sign-preserved : goal.loop-sign-preserved
loop-sign-preserved c = search (rules, walk_passes)

pub returns : goal.returns
returns c = search (rules, walk_ends)
