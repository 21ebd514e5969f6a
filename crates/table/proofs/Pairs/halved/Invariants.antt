-- What is left to search from i on gives the whole's place: each turn is one halving, and fuel beyond the pairs left does not matter.
use Prim.Native.Nat.{ℕ, ◌+◌, ◌≤◌}
use mathlib.Core.Path.{◌≡◌}
use mathlib.Core.Bool.{Bool, false}
use mathlib.Core.List.{List}
use Rattle.table.specs.Seek.{halve}
use Rattle.table.specs.Copy.{entries, key_at, passes, halved as halved_rule}
use Rattle.table.proofs.Pairs.halved.Given as goal

abbrev pub test : ℕ → List ℕ → ℕ → Bool
test key w i = passes false key (key_at w i)

abbrev pub invariant-loop-n : goal.invariant-loop-n
invariant-loop-n l =
    let w = l.self.words.now in
    (l.i + l.n ≤ entries w) × (halved_rule l.key w ≡ halve (test l.key w) l.n l.i l.n)

abbrev pub decreases-loop-n : goal.decreases-loop-n
decreases-loop-n l = l.n
