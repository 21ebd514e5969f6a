-- Before turn t the search has passed the pairs of the turns before it.
use Prim.Native.Nat.{◌*◌}
use mathlib.Core.Path.{◌≡◌}
use Rattle.table.specs.Copy.{first as first_rule, first_from}
use Rattle.table.proofs.Pairs.turns.Given as goal

abbrev pub invariant-loop-t : goal.invariant-loop-t
invariant-loop-t l = let w = l.self.words.now in first_rule l.exact l.key w ≡ first_from l.exact l.key w (4 * l.t)
