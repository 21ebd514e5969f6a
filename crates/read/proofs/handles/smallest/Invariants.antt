-- None of the signs so far applies.
use Rattle.std.proofs.Common.{◌≡◌, drop}
use Rattle.read.specs.Handles.{smallest}
use Rattle.read.proofs.handles.smallest.Given as goal

abbrev pub invariant-loop-sign : goal.invariant-loop-sign
invariant-loop-sign l = smallest (drop l.sign-index l.fn.signs) ≡ smallest l.fn.signs
