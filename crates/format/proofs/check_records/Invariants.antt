-- Before a turn at byte `at` the records before it are looked at, and those that get no entry are counted.
use Prim.Native.Nat.{ℕ, ◌-◌, ◌/◌, ◌≤◌}
use mathlib.Core.Path.{◌≡◌}
use mathlib.Core.List.{List}
use lib.ListN.{length}
use Rattle.format.specs.Schedule.{head_bytes, record_bytes, count, start_of}
use Rattle.format.proofs.Checks.{Checks}
use Rattle.format.proofs.check_records.Given as goal

-- which record begins there
abbrev pub place_of : ℕ → ℕ
place_of at = (at - head_bytes) / record_bytes

pub record Before (s : List ℕ) (inside at : ℕ) : Type 0 where
  pub begins : at ≡ start_of (place_of at)
  pub checks : Checks s inside (place_of at)

abbrev pub invariant-loop-at : goal.invariant-loop-at
invariant-loop-at l = (head_bytes ≤ length l.s) × (l.n ≡ count l.s) × (l.end ≡ start_of l.n) × Before l.s l.inside l.at

abbrev pub decreases-loop-at : goal.decreases-loop-at
decreases-loop-at l = l.end - l.at
