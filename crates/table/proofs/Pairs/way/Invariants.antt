-- Before a turn at i the keys of the first i pairs rise.
use Rattle.table.proofs.Many.{RisingTo}
use Rattle.table.proofs.Pairs.way.Given as goal

abbrev pub invariant-loop-i : goal.invariant-loop-i
invariant-loop-i l = RisingTo l.i l.self.words.now
