-- How many steps are left of the call that is under way, where no poll is held; and a run by that count.
use Rattle.std.proofs.Common.{ℕ, zero, suc, ◌+◌, ◌-◌, Bool, true, false, List}
use Rattle.read.specs.declared.Phase.{Phase}
use Rattle.read.specs.declared.Phase.TheVariants.{Idle, Begin, Poll, Copy, Drain, Keep, Swap, Snap, Null, Lock, LastSnap, LastPoll, Finish, Gone}
use Rattle.read.specs.declared.Job.{Job}
use Rattle.read.specs.declared.Job.TheVariants.{Publish, Try, TakeFirst, TakeSecond}
use Rattle.read.specs.declared.Control.{Control}
use Rattle.read.specs.declared.State.{State}
use Rattle.read.specs.declared.Reply.{Reply}
use Rattle.read.specs.Machine.{slot_count}
use Rattle.read.specs.Calls.{Lent}
use Rattle.write.specs.Runs.{step_on, after_step, ran_out}

-- take from null on: null, lock, snapshots, polls, finish
abbrev pub last_left : ℕ
last_left = 3 + slot_count + slot_count

-- the copying, where the copies were never synchronised
abbrev pub copy_left : Bool → ℕ
copy_left true = 1
copy_left false = 0

-- behind the last snapshot of a publish that leaves n operations in the log; second: the copies were never synchronised. Where
-- `first` is still set, which no swap leaves, take's second publish does not poll
abbrev pub after_left : Job → ℕ → Bool → Bool → ℕ
after_left Publish n first second = 0
after_left Try n first second = 0
after_left TakeFirst zero first second = last_left
after_left TakeFirst (suc n) true second = 2 + slot_count + last_left
after_left TakeFirst (suc n) false second = 2 + slot_count + copy_left second + suc n + slot_count + last_left
after_left TakeSecond n first second = last_left

-- the snapshots from k on, and what follows
abbrev pub snap_left : ℕ → Job → ℕ → Bool → Bool → ℕ
snap_left k j n first second = (slot_count - k) + after_left j n first second

-- the swap, which clears `first`, and what follows
abbrev pub swap_left : Job → ℕ → Bool → ℕ
swap_left j n second = 1 + snap_left 0 j n false second

-- s operations before the swap index, of n: those taken off are gone from the log behind
abbrev pub drain_left : Job → ℕ → ℕ → Bool → ℕ
drain_left j s n second = n + swap_left j (n - s) second

abbrev pub polled_left : Job → Bool → Bool → ℕ → ℕ → ℕ
polled_left j true second s n = swap_left j n second
polled_left j false true s n = 1 + drain_left j s n false
polled_left j false false s n = drain_left j s n false

abbrev pub begin_left : Job → Bool → Bool → ℕ → ℕ → ℕ
begin_left j true second s n = swap_left j n second
begin_left j false second s n = slot_count + polled_left j false second s n

abbrev pub left_at : Phase → Control → ℕ
left_at Idle c = 0
left_at Begin c = 1 + begin_left c.job c.first c.second c.swapped c.length
left_at (Poll k) c = (slot_count - k) + polled_left c.job c.first c.second c.swapped c.length
left_at Copy c = 1 + drain_left c.job c.swapped c.length false
left_at Drain c = drain_left c.job c.swapped c.length c.second
left_at (Keep k) c = (c.length - k) + swap_left c.job c.length c.second
left_at Swap c = swap_left c.job c.length c.second
left_at (Snap k) c = snap_left k c.job c.length c.first c.second
left_at Null c = last_left
left_at Lock c = 2 + slot_count + slot_count
left_at (LastSnap k) c = (slot_count - k) + slot_count + 1
left_at (LastPoll k) c = (slot_count - k) + 1
left_at Finish c = 1
left_at Gone c = 0

abbrev pub left : Control → ℕ
left c = left_at c.phase c

-- ---- a run of k steps, n being made before, unless one is held or declined

unfoldable pub steps : ℕ → ℕ → State → List ℕ → List ℕ → List ℕ → Lent Reply
steps zero n st l r g = ran_out n st l r g
steps (suc k) n st l r g = after_step (steps k (n + 1)) n (step_on st l r g)
