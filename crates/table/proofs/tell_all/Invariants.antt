-- Before a turn at i the words of the first i keys are told, and those of the keys from i on are left.
use Prim.Native.Nat.{◌*◌}
use mathlib.Core.Path.{◌≡◌}
use mathlib.Core.List.{◌++◌}
use lib.ListN.{length, take, drop}
use Rattle.table.specs.Many.{filled, told_all}
use Rattle.table.proofs.tell_all.Given as goal

abbrev pub invariant-loop-i : goal.invariant-loop-i
invariant-loop-i l =
    let w = filled l.v.words.now in
    (length l.out ≡ 2 * length l.keys) × (told_all l.keys w ≡ take (2 * l.i) l.out ++ told_all (drop l.i l.keys) w)
