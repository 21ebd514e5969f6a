-- Before a turn at i what is sought is what the rule still seeks from i on.
use Prim.Native.Nat.{ℕ, ◌-◌}
use mathlib.Core.Path.{◌≡◌}
use mathlib.Core.Bool.{Bool, not}
use mathlib.Core.List.{List}
use Rattle.table.specs.Seek.{seek}
use Rattle.read.specs.Machine.{lawful_at, first_unlawful}
use Rattle.machine.proofs.judge.first_unlawful.Given as goal

abbrev pub test : List ℕ → ℕ → Bool
test g i = not (lawful_at g i)

abbrev pub invariant-loop-i : goal.invariant-loop-i
invariant-loop-i l = first_unlawful l.n l.log ≡ seek (test l.log) l.i (l.n - l.i)
