-- Before a turn the rule still walks from k on, as long as is left.
use Rattle.std.proofs.Common.{◌≡◌, ◌-◌}
use Rattle.read.specs.Machine.{walk}
use Rattle.read.proofs.order.walk.Given as goal

abbrev pub invariant-loop : goal.invariant-loop
invariant-loop l = walk (l.fn.n - l.counter) l.fn.slots l.k ≡ walk l.fn.n l.fn.slots l.fn.first
