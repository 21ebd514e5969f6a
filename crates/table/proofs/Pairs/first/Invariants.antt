-- Before a turn at i what is sought is what the rule still seeks from i on.
use Prim.Native.Nat.{◌≤◌}
use mathlib.Core.Path.{◌≡◌}
use Rattle.table.specs.Copy.{entries, first as first_rule, first_from}
use Rattle.table.proofs.Pairs.first.Given as goal

abbrev pub invariant-loop-i : goal.invariant-loop-i
invariant-loop-i l =
    let w = l.self.words.now in
    (l.i ≤ entries w) × (first_rule l.exact l.key w ≡ first_from l.exact l.key w l.i)
