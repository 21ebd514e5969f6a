-- Before a turn at k the search has passed k pairs.
use Prim.Native.Nat.{◌+◌}
use mathlib.Core.Path.{◌≡◌}
use Rattle.table.specs.Copy.{first_from}
use Rattle.table.proofs.Pairs.failing.Given as goal

abbrev pub invariant-loop-k : goal.invariant-loop-k
invariant-loop-k l = let w = l.self.words.now in first_from l.exact l.key w l.i ≡ first_from l.exact l.key w (l.i + l.k)
