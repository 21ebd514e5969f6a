-- Before a turn at j what is sought is what the rule still seeks from j on.
use Rattle.std.proofs.Common.{◌≡◌, ◌-◌}
use Rattle.table.specs.Seek.{seek}
use Rattle.read.specs.Machine.{same, is_open, first_guard}
use Rattle.read.proofs.guards.first_guard.Given as goal

abbrev pub invariant-loop-j : goal.invariant-loop-j
invariant-loop-j l = first_guard l.fn.want l.fn.g ≡ seek (λ j. same l.fn.want (is_open l.fn.g j)) l.j (4 - l.j)
