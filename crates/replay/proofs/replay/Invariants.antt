-- Each history takes more of the sample than it has entries, and at least one byte of it.
use Rattle.std.proofs.Common.{◌+◌, ◌≤◌, length}
use Rattle.replay.proofs.replay.Given as goal

abbrev pub invariant-loop-rest : goal.invariant-loop-rest
invariant-loop-rest l = (l.histories + length l.rest ≤ length l.sample) × (l.entries + length l.rest ≤ length l.sample)

abbrev pub decreases-loop-rest : goal.decreases-loop-rest
decreases-loop-rest l = length l.rest
